use Rattle.std.proofs.Common.{arith, ◌∙◌, ap, map}
use Rattle.sve_packages.specs.Packages.{design_package, package_of, package_text}
use Rattle.sve_packages.proofs.Joined.{at_most, if_ok, is_whole}
use Rattle.sve_packages.proofs.whole.known_packages.Goals as goal

pub rounds-requires : goal.rounds-requires
rounds-requires c =
    let few = at_most design_package package_of package_text c.as_slice-packages.result.now c.args.sources.now (ap (map design_package) c.as_slice-packages.ensures.value ∙ c.in_ok-packages.ensures) in
    omega arith

pub returns : goal.returns
returns c =
    let named = ap (map design_package) c.as_slice-packages.ensures.value ∙ c.in_ok-packages.ensures in
    let round = c.as_slice.ensures.value ∙ c.in_ok-rounds.ensures in
    let turn = c.items.ensures ∙ c.in_ok-turns.ensures in
    if_ok c.in_turn.result (λ known is. is ∙ is_whole (map package_text c.args.sources.now) (map design_package c.as_slice-packages.result.now) c.as_slice.result.now c.items.result.now named round turn) c.in_turn.ensures
