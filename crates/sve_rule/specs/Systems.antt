-- System functions (IEEE 1800-2017, 11.7, 20.6.2 and 20.8.1).
use Rattle.std.specs.Prelude.{ℕ, true, false, codes, bytes_eq, if◌then◌else◌, List, Option, Some, None, Result, Ok}
use Rattle.sve_value.specs.Numbers.{number_of}
use Rattle.sve_value.specs.Arithmetic.{clog2_of}
use Rattle.sve_operand.specs.Meaning.{Meaning, own_value, settled_meaning}
use Rattle.sve_fault.specs.Faults.{after}
use Rattle.sve_fault.specs.declared.fault.Fault.{Fault}
use Rattle.sve_rule.specs.Judged.{Judged}
use Rattle.sve_rule.specs.Rules.{sign_cast_judged}
use Rattle.sve_rule.specs.declared.system.SystemFunction.{SystemFunction}
use Rattle.sve_rule.specs.declared.system.SystemFunction.TheVariants.{Bits, Clog2, Signed, Unsigned}

-- the functions by their names
abbrev pub function_named : List ℕ → Option SystemFunction
function_named name =
    if bytes_eq name (codes "$bits") then Some Bits
    else (if bytes_eq name (codes "$clog2") then Some Clog2
    else (if bytes_eq name (codes "$signed") then Some Signed
    else (if bytes_eq name (codes "$unsigned") then Some Unsigned
    else None)))

-- a number of bits has 32 bits and is signed
abbrev pub number_meaning : ℕ → Meaning
number_meaning n = settled_meaning (number_of 32 true n)

abbrev pub bits_judged : Result ℕ Fault → Judged
bits_judged n = after n (λ k. Ok (number_meaning k))

-- a function of an expression; signs keep the bits
abbrev pub system_judged : SystemFunction → Judged → Judged
system_judged Bits a = after a (λ x. Ok (number_meaning x.width))
system_judged Clog2 a = after a (λ x. Ok (settled_meaning (clog2_of (own_value x))))
system_judged Signed a = sign_cast_judged true a
system_judged Unsigned a = sign_cast_judged false a
