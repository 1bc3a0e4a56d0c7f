use Rattle.std.proofs.Common.{◌≡◌, ◌+◌, drop, false}
use Rattle.sve_macro.specs.Literals.{string_rest}
use Rattle.sve_macro.proofs.literal.string_len.Given as goal

abbrev pub invariant-loop-i : goal.invariant-loop-i
invariant-loop-i l = l.i + string_rest l.taken (drop l.i l.behind_quote) ≡ string_rest false l.behind_quote
