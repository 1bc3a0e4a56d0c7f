-- What is seen of one client decides which of its events may come.
use Rattle.std.proofs.Common.{◌≡◌, ℕ, ◌-◌, ◌≤◌, Bool, true, false, length, map, Option, Some, None, ◌↔◌, refl, sym, ap, ◌∙◌, subst}
use Rattle.std.specs.Prelude.{IfSome, IsTrue, is_some}
use Rattle.sve_text.specs.declared.why.Refusal.{Refusal}
use Rattle.sve_text.specs.Files.{FilesValue}
use Rattle.sve_history.specs.Histories.{IsRising}
use Rattle.sve_store.specs.declared.answer.Answer.{Answer}
use Rattle.sve_seat.specs.declared.open.Open.{Open}
use Rattle.sve_seat.specs.Outcomes.{command_of}
use Rattle.sve_seat.specs.Seats.{SeatValue, HeldValue, IsOpen, IsSeat, IsWorld}
use Rattle.sve_world.proofs.Events.{number_is}
use Rattle.sve_world.specs.Machine.{WorldValue, IsOfClient, MayPublish}

-- ---- a client that is there

module _ {Q K V : Type 0} (world : WorldValue Q K V) (client : ℕ) (seat : SeatValue Q (HeldValue K V)) (there : IsOfClient world client seat) where
  one_seat : (other : SeatValue Q (HeldValue K V)) → IsOfClient world client other → other ≡ seat
  one_seat other is = let both : Some other ≡ Some seat = sym is.there ∙ there.there in cc

  publishes : (held : Open (HeldValue K V)) → seat.open_at ≡ Some held → MayPublish world client
  publishes held holds = record { held = held; is = record { seat = seat; known = there; holds = holds } }

  not_publishes : seat.open_at ≡ None → MayPublish world client → ⊥
  not_publishes closed may =
      let holds : seat.open_at ≡ Some may.held = subst (λ (s : SeatValue Q (HeldValue K V)). s.open_at ≡ Some may.held) (one_seat may.is.seat may.is.known) may.is.holds in
      cc

  -- as the test of a function tells it
  pub may_publish_where : (b : Bool) → b ≡ is_some seat.open_at → IsTrue b ↔ MayPublish world client
  may_publish_where b is = by seat.open_at refl
    where
      by : (o : Option (Open (HeldValue K V))) → seat.open_at ≡ o → IsTrue b ↔ MayPublish world client
      by None holds = (λ holding. let no : false ≡ true = sym (is ∙ ap is_some holds) ∙ holding in absurd (cc), λ may. absurd (not_publishes holds may))
      by (Some o) holds = (λ holding. publishes o holds, λ may. is ∙ ap is_some holds)

  -- what always holds of it
  module _ (answers : FilesValue → Q → ℕ → Answer → Type 0) (is : IsWorld answers world.history world.seats) where
    its_seat : IsSeat answers world.history client seat
    its_seat = subst (λ (n : ℕ). IsSeat answers world.history n seat) (number_is world client seat there) (is.each (client - 1) seat there.there)

    pub its_commands_rise : IsRising (map command_of seat.told)
    its_commands_rise = its_seat.rising

    pub its_looks_began : (held : Open (HeldValue K V)) → seat.open_at ≡ Some held → held.begun ≤ length seat.looks
    its_looks_began held holds = (subst (λ (o : Option (Open (HeldValue K V))). IfSome o (IsOpen world.history seat)) holds its_seat.held).begun

-- what is refused has a reason
pub has_reason : (refusal : Option Refusal) (b : Bool) → b ≡ is_some refusal → IsTrue b ↔ ((reason : Refusal) × (refusal ≡ Some reason))
has_reason None b is = (λ some. let no : false ≡ true = sym is ∙ some in absurd (cc), λ so. let no : None ≡ Some so.0 = so.1 in absurd (cc))
has_reason (Some reason) b is = (λ some. (reason, refl), λ so. is)
