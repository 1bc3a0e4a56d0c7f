-- The loops over steps of a `for` and over events.
use Rattle.std.proofs.Common.{ℕ, ◌+◌, ◌<◌, ◌≤◌, List, [], ◌++◌, length, drop, get_or, ◌≡◌, refl}
use Rattle.std.specs.List.{flat_map}
use Rattle.std.proofs.lemmas.List.{drop_more}
use Rattle.std.proofs.Math.ListN.{drop_of_length-le}
use Rattle.sve_tree.specs.declared.statement.ForStep.{ForStep}
use Rattle.sve_tree.specs.declared.item.Event.{Event}
use Rattle.sve_simple_use.specs.Simple.{event_value_uses, for_step_uses}

step : {A B : Type 0} (f : A → List B) (xs : List A) (i : ℕ) (x : A) → i < length xs → x ≡ get_or xs i x → flat_map f (drop i xs) ≡ f x ++ flat_map f (drop (i + 1) xs)
step f xs i x h e = rw (drop_more xs i x h, ← e) refl

end : {A B : Type 0} (f : A → List B) (xs : List A) (i : ℕ) → length xs ≤ i → flat_map f (drop i xs) ≡ []
end f xs i h = rw (drop_of_length-le xs h) refl

pub for_step_step : (xs : List ForStep) (i : ℕ) (x : ForStep) → i < length xs → x ≡ get_or xs i x → flat_map for_step_uses (drop i xs) ≡ for_step_uses x ++ flat_map for_step_uses (drop (i + 1) xs)
for_step_step xs i x h e = step for_step_uses xs i x h e

pub for_step_end : (xs : List ForStep) (i : ℕ) → length xs ≤ i → flat_map for_step_uses (drop i xs) ≡ []
for_step_end xs i h = end for_step_uses xs i h

pub event_step : (xs : List Event) (i : ℕ) (x : Event) → i < length xs → x ≡ get_or xs i x → flat_map event_value_uses (drop i xs) ≡ event_value_uses x ++ flat_map event_value_uses (drop (i + 1) xs)
event_step xs i x h e = step event_value_uses xs i x h e

pub event_end : (xs : List Event) (i : ℕ) → length xs ≤ i → flat_map event_value_uses (drop i xs) ≡ []
event_end xs i h = end event_value_uses xs i h
