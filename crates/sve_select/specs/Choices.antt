-- What the brackets of a select say, by what their parts mean (IEEE 1800-2017, 11.5.1).
use Rattle.std.specs.Prelude.{ℕ, Result, Ok}
use Rattle.sve_operand.specs.Meaning.{own_value}
use Rattle.sve_fault.specs.Faults.{after, pair}
use Rattle.sve_fault.specs.declared.fault.Fault.{Fault}
use Rattle.sve_rule.specs.Judged.{Judged}
use Rattle.sve_select.specs.declared.choice.Choice.{Choice}
use Rattle.sve_select.specs.declared.choice.Choice.TheVariants as is_choice

-- each part stands by itself; bounds and widths, whose values can be faults, come with their first tokens
unfoldable pub place_judged : Judged → Result Choice Fault
place_judged index = after index (λ i. Ok (is_choice.Place (own_value i)))

unfoldable pub between_judged : ℕ → Judged → ℕ → Judged → Result Choice Fault
between_judged left_token l right_token r = pair l r (λ x y. Ok (is_choice.Between left_token (own_value x) right_token (own_value y)))

unfoldable pub upward_judged : Judged → ℕ → Judged → Result Choice Fault
upward_judged base token width = pair base width (λ b w. Ok (is_choice.Upward (own_value b) token (own_value w)))

unfoldable pub downward_judged : Judged → ℕ → Judged → Result Choice Fault
downward_judged base token width = pair base width (λ b w. Ok (is_choice.Downward (own_value b) token (own_value w)))
