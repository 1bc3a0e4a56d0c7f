-- Uses that are gathered one after another.
use Rattle.std.proofs.Common.{◌≡◌, List, [], ◌∷◌, ◌++◌, append_assoc, append-nil, sym, ◌∙◌}
use Rattle.std.specs.List.{flat_map, fold}
use Rattle.sve_use.specs.Use.{Use, Named, Called, Dotted}
use Rattle.sve_around.specs.declared.gathering.Gathering.{Gathering}
use Rattle.sve_around.specs.Nets.{gathered, net_of, net_of_use, seen_by}

pub gathered_all : (g : Gathering) (us : List Use) → (fold gathered g us).nets ≡ g.nets ++ flat_map (net_of_use g.words.now (seen_by g)) us
gathered_all g [] = sym (append-nil g.nets)
gathered_all g (Named name ∷ us) = gathered_all (gathered g (Named name)) us ∙ append_assoc g.nets (net_of g.words.now (seen_by g) name) (flat_map (net_of_use g.words.now (seen_by g)) us)
gathered_all g (Called name ∷ us) = gathered_all g us
gathered_all g (Dotted name postfixes ∷ us) = gathered_all g us
