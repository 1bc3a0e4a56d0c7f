-- Packed dimensions, whose bounds are constants (IEEE 1800-2017, 7.4).
use Rattle.std.specs.Prelude.{ℕ, ◌*◌, nat_lt, if◌then◌else◌, ℤ, pos, negsuc, ◌-ℤ◌, int_lt, Option, Some, None, Result, Ok, Err}
use Rattle.sve_diag.specs.declared.code.Code.TheVariants.{C06}
use Rattle.sve_value.specs.Vector.{Vector}
use Rattle.sve_value.specs.Numbers.{known_integer, short_integer}
use Rattle.sve_operand.specs.Meaning.{own_value}
use Rattle.sve_types.specs.Dimensions.{place_count}
use Rattle.sve_types.specs.declared.ty.Range.{Range}
use Rattle.sve_fault.specs.Faults.{fault_at, after, pair}
use Rattle.sve_fault.specs.declared.fault.Fault.{Fault}
use Rattle.sve_rule.specs.Judged.{Judged}

-- a bound has no x or z, and 32 signed bits (own)
abbrev pub in_32_bits : Option ℤ → Option ℤ
in_32_bits (Some z) = if int_lt z (negsuc 2147483647) then None else (if int_lt (pos 2147483647) z then None else Some z)
in_32_bits None = None

abbrev pub bound_of : Vector → Option ℤ
bound_of v = in_32_bits (short_integer (known_integer v))

-- `[l:r]`, in either order
abbrev pub between : ℕ → Option ℤ → Option ℤ → Result Range Fault
between opening None r = Err (fault_at opening C06)
between opening (Some l) None = Err (fault_at opening C06)
between opening (Some l) (Some r) = Ok (record { left = l; right = r })

unfoldable pub range_judged : ℕ → Judged → Judged → Result Range Fault
range_judged opening a b = pair a b (λ x y. between opening (bound_of (own_value x)) (bound_of (own_value y)))

-- `[n]` is `[0:n-1]`
abbrev pub sized : ℕ → Option ℤ → Result Range Fault
sized opening None = Err (fault_at opening C06)
sized opening (Some n) = if int_lt n (pos 1) then Err (fault_at opening C06) else Ok (record { left = pos 0; right = n -ℤ pos 1 })

unfoldable pub size_judged : ℕ → Judged → Result Range Fault
size_judged opening a = after a (λ x. sized opening (bound_of (own_value x)))

-- all dimensions have 65,536 places together at the most (own); the one with which there are more has the fault
abbrev pub extended_by : ℕ → ℕ → Range → Result ℕ Fault
extended_by opening count range = if nat_lt 65536 (count * place_count range) then Err (fault_at opening C06) else Ok (count * place_count range)

unfoldable pub extended : ℕ → Result ℕ Fault → Result Range Fault → Result ℕ Fault
extended opening count range = pair count range (λ n r. extended_by opening n r)
