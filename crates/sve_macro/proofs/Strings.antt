-- String literals and escaped identifiers, byte by byte.
use Rattle.std.proofs.Common.{◌≡◌, ℕ, ◌+◌, ◌<◌, ◌==◌, true, false, cond, List, length, drop, get_or}
use Rattle.std.proofs.lemmas.List.{at_drop_more}
use Rattle.sve_macro.specs.Literals.{string_rest}

pub string_taken : (text : List ℕ) (i : ℕ) → i < length text → string_rest true (drop i text) ≡ 1 + string_rest false (drop (i + 1) text)
string_taken text i h = at_drop_more (string_rest true) text i 0 h

pub string_byte : (text : List ℕ) (i : ℕ) → i < length text → string_rest false (drop i text) ≡ cond (get_or text i 0 == 34) 1 (cond (get_or text i 0 == 10) 0 (1 + string_rest (get_or text i 0 == 92) (drop (i + 1) text)))
string_byte text i h = at_drop_more (string_rest false) text i 0 h
