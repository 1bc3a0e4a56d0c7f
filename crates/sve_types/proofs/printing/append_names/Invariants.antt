use Rattle.std.proofs.Common.{◌≡◌, ◌++◌, drop, codes}
use Rattle.std.specs.List.{flat_map}
use Rattle.sve_types.specs.TypeText.{named_value_text}
use Rattle.sve_types.proofs.printing.append_names.Given as goal

abbrev pub invariant-names : goal.invariant-names
invariant-names l = l.text.items ++ flat_map (λ n. codes "," ++ named_value_text n) (drop l.named-index l.others) ≡ l.initial.text.items ++ flat_map (λ n. codes "," ++ named_value_text n) l.others
