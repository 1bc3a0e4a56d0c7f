-- The order of trees of numbers is total, and answers `Equal` at one and the same tree alone.
use Rattle.std.proofs.Common.{◌≡◌, ◌∙◌, refl, sym, ap, subst, Ordering, Less, Equal, Greater}
use Rattle.std.specs.Cmp.{IsTotalOrder, nat_cmp_total, then_flip}
use Rattle.std.proofs.lemmas.Cmp.{tied_itself}
use Rattle.std.proofs.lemmas.Map.Lookups.{CmpEqualImpliesEq, exact_unsigned}
use Rattle.std.specs.Ordering.{ordering_then, ordering_reverse}
use base.Stored.{Gv, gnil, gnum, gcons}
use Rattle.sve_bytes.specs.TreeOrder.{tree_cmp, TreesAreOrdered}
use Rattle.sve_bytes.proofs.PathsAreExact.{both_equal}

pub trees_exact : CmpEqualImpliesEq tree_cmp
trees_exact gnil gnil e = refl
trees_exact gnil (gnum n) e = cc
trees_exact gnil (gcons c d) e = cc
trees_exact (gnum m) gnil e = cc
trees_exact (gnum m) (gnum n) e = ap gnum (exact_unsigned m n e)
trees_exact (gnum m) (gcons c d) e = cc
trees_exact (gcons a b) gnil e = cc
trees_exact (gcons a b) (gnum n) e = cc
trees_exact (gcons a b) (gcons c d) e =
    let both = both_equal (tree_cmp a c) (tree_cmp b d) e in
    let first : a ≡ c = trees_exact a c both.0 in
    let second : b ≡ d = trees_exact b d both.1 in
    λ i. gcons (first i) (second i)

turned : (x y : Gv) → tree_cmp x y ≡ ordering_reverse (tree_cmp y x)
turned gnil gnil = refl
turned gnil (gnum n) = refl
turned gnil (gcons c d) = refl
turned (gnum m) gnil = refl
turned (gnum m) (gnum n) = nat_cmp_total.antisymm m n
turned (gnum m) (gcons c d) = refl
turned (gcons a b) gnil = refl
turned (gcons a b) (gnum n) = refl
turned (gcons a b) (gcons c d) = (λ i. ordering_then (turned a c i) (turned b d i)) ∙ then_flip (tree_cmp c a) (tree_cmp d b)

-- of three pairs: what the first parts answer, and then the second
pairs_chain : (a c e : Gv) (o p q s t : Ordering) → tree_cmp a c ≡ o → tree_cmp c e ≡ p → (o ≡ Less → p ≡ Less → tree_cmp a e ≡ Less) → (q ≡ Less → s ≡ Less → t ≡ Less) → ordering_then o q ≡ Less → ordering_then p s ≡ Less → ordering_then (tree_cmp a e) t ≡ Less
pairs_chain a c e Less Less q s t f g first second h k = ap (λ (x : Ordering). ordering_then x t) (first refl refl)
pairs_chain a c e Less Equal q s t f g first second h k = ap (λ (x : Ordering). ordering_then x t) (ap (tree_cmp a) (sym (trees_exact c e g)) ∙ f)
pairs_chain a c e Less Greater q s t f g first second h k = cc
pairs_chain a c e Equal Less q s t f g first second h k = ap (λ (x : Ordering). ordering_then x t) (ap (λ (x : Gv). tree_cmp x e) (trees_exact a c f) ∙ g)
pairs_chain a c e Equal Equal q s t f g first second h k = ap (λ (x : Ordering). ordering_then x t) (ap (λ (x : Gv). tree_cmp x e) (trees_exact a c f) ∙ g) ∙ second h k
pairs_chain a c e Equal Greater q s t f g first second h k = cc
pairs_chain a c e Greater p q s t f g first second h k = cc

chained : (x y z : Gv) → tree_cmp x y ≡ Less → tree_cmp y z ≡ Less → tree_cmp x z ≡ Less
chained gnil gnil z h k = cc
chained gnil (gnum n) gnil h k = cc
chained gnil (gnum n) (gnum m) h k = refl
chained gnil (gnum n) (gcons e f) h k = refl
chained gnil (gcons c d) gnil h k = cc
chained gnil (gcons c d) (gnum m) h k = refl
chained gnil (gcons c d) (gcons e f) h k = refl
chained (gnum m) gnil z h k = cc
chained (gnum m) (gnum n) gnil h k = cc
chained (gnum m) (gnum n) (gnum l) h k = nat_cmp_total.trans m n l h k
chained (gnum m) (gnum n) (gcons e f) h k = refl
chained (gnum m) (gcons c d) gnil h k = cc
chained (gnum m) (gcons c d) (gnum l) h k = cc
chained (gnum m) (gcons c d) (gcons e f) h k = refl
chained (gcons a b) gnil z h k = cc
chained (gcons a b) (gnum n) z h k = cc
chained (gcons a b) (gcons c d) gnil h k = cc
chained (gcons a b) (gcons c d) (gnum l) h k = cc
chained (gcons a b) (gcons c d) (gcons e f) h k =
    pairs_chain a c e (tree_cmp a c) (tree_cmp c e) (tree_cmp b d) (tree_cmp d f) (tree_cmp b f) refl refl (chained a c e) (chained b d f) h k

pub trees_total : IsTotalOrder tree_cmp
trees_total = record { antisymm = turned; trans = chained; congr = λ x y z e. ap (λ (w : Gv). tree_cmp w z) (trees_exact x y e) }

pub trees_are_ordered : TreesAreOrdered
trees_are_ordered = (trees_total, λ x y. (trees_exact x y, λ same. subst (λ (z : Gv). tree_cmp x z ≡ Equal) same (tied_itself trees_total x)))
