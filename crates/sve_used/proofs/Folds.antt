-- Names that are used one after another.
use Rattle.std.proofs.Common.{◌≡◌, List, [], ◌∷◌, refl}
use Rattle.std.specs.List.{fold}
use Rattle.sve_use.specs.Use.{Use}
use Rattle.sve_used.specs.declared.using.Using.{Using}
use Rattle.sve_used.specs.Used.{name_used}
use Rattle.sve_used.specs.Using.{used_after}

pub used_all : (s : Using) (us : List Use) → (fold used_after s us).contents ≡ fold (name_used s.text.packages.now s.text.words.now) s.contents us
used_all s [] = refl
used_all s (u ∷ us) = used_all (used_after s u) us
