-- Names that are used one after another where statements are read.
use Rattle.std.proofs.Common.{◌≡◌, List, [], ◌∷◌, ◌++◌, IfOk, refl}
use Rattle.std.proofs.lemmas.List.Sums.{fold-append}
use Rattle.std.specs.List.{fold}
use Rattle.std.specs.Prelude.{Result}
use Rattle.sve_use.specs.Use.{Use}
use Rattle.sve_used.specs.Used.{name_used}
use Rattle.sve_local.specs.declared.within.Within.{Within}
use Rattle.sve_local.specs.Within.{used_within}

pub all_uses : (s : Within) (us : List Use) → (fold used_within s us).contents ≡ fold (name_used s.text.packages.now s.text.words.now) s.contents us
all_uses s [] = refl
all_uses s (u ∷ us) = all_uses (used_within s u) us

-- what a call gives that goes on where a first one ended
pub folded_both : {A B E : Type 0} (f : B → A → B) (c d : B) (xs ys : List A) (r : Result B E) → d ≡ fold f c xs → IfOk r (λ e. e ≡ fold f d ys) → IfOk r (λ e. e ≡ fold f c (xs ++ ys))
folded_both f c d xs ys r p q = rw (fold-append f c xs ys, ← p) q
