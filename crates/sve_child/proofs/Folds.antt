-- Names in connections that are used one after another.
use Rattle.std.proofs.Common.{◌≡◌, List, [], ◌∷◌, refl}
use Rattle.std.specs.List.{fold}
use Rattle.sve_use.specs.Use.{Use}
use Rattle.sve_child.specs.declared.connecting.Connecting.{Connecting}
use Rattle.sve_child.specs.Connecting.{connected_use}
use Rattle.sve_child.specs.Naming.{connected_after}

pub all_connected : (s : Connecting) (us : List Use) → (fold connected_after s us).contents ≡ fold (connected_use s.text.packages.now s.text.words.now) s.contents us
all_connected s [] = refl
all_connected s (u ∷ us) = all_connected (connected_after s u) us
