-- The search of a name.
use Rattle.std.proofs.Common.{◌≡◌, ◌<◌, ◌≤◌, ℕ, ◌+◌, true, false, List, length, drop, get_or, Some, None, refl}
use Rattle.std.specs.Prelude.{bytes_eq}
use Rattle.std.proofs.lemmas.List.{drop_more}
use Rattle.std.proofs.Math.ListN.{drop_of_length-le}
use Rattle.sve_given.specs.Names.{entry_of}
use Rattle.sve_given.specs.declared.entry.Entry.{Entry}

pub entry_here : (es : List Entry) (i : ℕ) (e : Entry) (text : List ℕ) → i < length es → e ≡ get_or es i e → bytes_eq e.name text ≡ true → entry_of (drop i es) text ≡ Some e
unfolding entry_of
entry_here es i e text h is b = rw (drop_more es i e h, ← is, b) refl

pub entry_later : (es : List Entry) (i : ℕ) (e : Entry) (text : List ℕ) → i < length es → e ≡ get_or es i e → bytes_eq e.name text ≡ false → entry_of (drop i es) text ≡ entry_of (drop (i + 1) es) text
unfolding entry_of
entry_later es i e text h is b = rw (drop_more es i e h, ← is, b) refl

pub entry_end : (es : List Entry) (i : ℕ) (text : List ℕ) → length es ≤ i → entry_of (drop i es) text ≡ None
unfolding entry_of
entry_end es i text h = rw (drop_of_length-le es h) refl
