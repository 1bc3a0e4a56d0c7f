-- What a name that may make a net and an assignment do, by what was found on the way.
use Rattle.std.proofs.Common.{◌≡◌, ℕ, Bool, true, false, List, refl}
use Rattle.std.specs.List.{flat_map}
use Rattle.sve_tree.specs.declared.item.NetAssignment.{NetAssignment}
use Rattle.sve_use.specs.LeftSides.{left_side_uses}
use Rattle.sve_plan.specs.Plan.{Give, and_then, ask, each}
use Rattle.sve_look.specs.Questions.{NetAt}
use Rattle.sve_body.specs.Steps.{Steps}
use Rattle.sve_body.specs.Items.{assignment, assignment_uses, implied, plain_tokens, use_all}

module _ {S : Type 0} (steps : Steps S) where
  pub implied_not : (token : ℕ) (s : S) (seen : Bool) → seen ≡ steps.is_declared token s → seen ≡ true → implied steps token s ≡ Give s
  implied_not token s seen is so = rw (← is, so) refl

  pub implied_asks : (token : ℕ) (s : S) (seen : Bool) (file : List ℕ) (chunk : ℕ) → seen ≡ steps.is_declared token s → seen ≡ false → file ≡ (steps.told s).file → chunk ≡ (steps.told s).chunk
      → implied steps token s ≡ and_then (ask (NetAt file chunk token)) (λ type. Give (steps.implicit_net token type s))
  implied_asks token s seen file chunk is so here there = rw (← is, so, here, there) refl

  pub assignment_of : (a : NetAssignment) (s : S) (tokens : List ℕ) → tokens ≡ flat_map plain_tokens (left_side_uses a.left) → assignment steps a s ≡ and_then (each (implied steps) tokens s) (λ t. Give (use_all steps (assignment_uses a) t))
  assignment_of a s tokens is = rw is refl
