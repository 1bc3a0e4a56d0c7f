-- The first label that matches, the first `default`, and the shape of labels, from a place on.
use Rattle.std.proofs.Common.{◌≡◌, ◌<◌, ◌≤◌, ℕ, ◌+◌, Bool, true, false, Some, None, List, length, drop, get_or, refl}
use Rattle.std.specs.List.{fold}
use Rattle.std.proofs.lemmas.List.{drop_more}
use Rattle.std.proofs.Math.ListN.{drop_of_length-le}
use Rattle.sve_tree.specs.declared.item.CaseGenerateItem.{CaseGenerateItem}
use Rattle.sve_operand.specs.Meaning.{Meaning}
use Rattle.sve_operand.specs.Pending.{meaning_of}
use Rattle.sve_choice.specs.declared.label.Label.{Label}
use Rattle.sve_choice.specs.Labels.{first_default, first_match, is_default, is_match, widened}
use Rattle.sve_choice.specs.Held.{label_of, labels_held}

pub match_here : (shape : ℕ × Bool) (selector : Meaning) (xs : List Label) (i : ℕ) (x : Label) → i < length xs → x ≡ get_or xs i x → is_match shape selector (meaning_of x.operand) ≡ true → first_match shape selector (labels_held (drop i xs)) ≡ Some x.item
unfolding first_match
match_here shape selector xs i x h e m = rw (drop_more xs i x h, ← e, m) refl

pub match_later : (shape : ℕ × Bool) (selector : Meaning) (xs : List Label) (i : ℕ) (x : Label) → i < length xs → x ≡ get_or xs i x → is_match shape selector (meaning_of x.operand) ≡ false → first_match shape selector (labels_held (drop i xs)) ≡ first_match shape selector (labels_held (drop (i + 1) xs))
unfolding first_match
match_later shape selector xs i x h e m = rw (drop_more xs i x h, ← e, m) refl

pub no_match : (shape : ℕ × Bool) (selector : Meaning) (xs : List Label) (i : ℕ) → length xs ≤ i → first_match shape selector (labels_held (drop i xs)) ≡ None
unfolding first_match
no_match shape selector xs i h = rw (drop_of_length-le xs h) refl

pub default_here : (xs : List CaseGenerateItem) (i : ℕ) (x : CaseGenerateItem) → i < length xs → x ≡ get_or xs i x → is_default x ≡ true → first_default i (drop i xs) ≡ Some i
unfolding first_default
default_here xs i x h e m = rw (drop_more xs i x h, ← e, m) refl

pub default_later : (xs : List CaseGenerateItem) (i : ℕ) (x : CaseGenerateItem) → i < length xs → x ≡ get_or xs i x → is_default x ≡ false → first_default i (drop i xs) ≡ first_default (i + 1) (drop (i + 1) xs)
unfolding first_default
default_later xs i x h e m = rw (drop_more xs i x h, ← e, m) refl

pub no_default : (xs : List CaseGenerateItem) (i : ℕ) → length xs ≤ i → first_default i (drop i xs) ≡ None
unfolding first_default
no_default xs i h = rw (drop_of_length-le xs h) refl

pub shape_step : (shape : ℕ × Bool) (xs : List Label) (i : ℕ) (x : Label) → i < length xs → x ≡ get_or xs i x → fold widened shape (labels_held (drop i xs)) ≡ fold widened (widened shape (label_of x)) (labels_held (drop (i + 1) xs))
shape_step shape xs i x h e = rw (drop_more xs i x h, ← e) refl

pub shape_end : (shape : ℕ × Bool) (xs : List Label) (i : ℕ) → length xs ≤ i → fold widened shape (labels_held (drop i xs)) ≡ shape
shape_end shape xs i h = rw (drop_of_length-le xs h) refl
