-- The string so far.
use Rattle.std.proofs.Common.{◌≡◌, ◌∷◌, take}
use Rattle.std.specs.List.{flat_map}
use Rattle.sve_value_text.specs.ValueText.{byte_text}
use Rattle.sve_value_text.proofs.quoted.quoted.Given as goal

abbrev pub invariant-bytes : goal.invariant-bytes
invariant-bytes l = l.text.items ≡ 34 ∷ flat_map byte_text (take l.byte-index l.bytes)
