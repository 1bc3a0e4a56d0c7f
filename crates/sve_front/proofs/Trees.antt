-- The trees of a unit's chunks, one after another.
use Rattle.std.specs.Global.{Global}
use Rattle.std.proofs.Common.{◌≡◌, ℕ, ◌+◌, ◌<◌, List, [], ◌∷◌, ◌++◌, Option, length, drop, map, sym, ap, subst, ◌∙◌, append_assoc}
use Rattle.std.specs.declared.sync.Arc.{Arc}
use Rattle.std.specs.List.{slice_index_or}
use Rattle.std.proofs.lemmas.List.{append-nil, map-append}
use Rattle.sve_token.specs.declared.token.Token.{Token}
use Rattle.sve_tree.specs.declared.element.Element.{Element}
use Rattle.sve_front.specs.Trees.{tree_of, IsTreeOf, AreTreesOf}
use Rattle.sve_front.proofs.Parts.{part_next}

-- the trees so far go before whatever trees the rest has
abbrev pub TreesGoOn : List (List Token) → List (List Token) → List (Option (Arc Element Global)) → Type 0
TreesGoOn whole rest trees = (later : List (Option Element)) → AreTreesOf rest later → AreTreesOf whole (map tree_of trees ++ later)

pub trees_begin : (whole : List (List Token)) → TreesGoOn whole whole []
trees_begin whole = λ later h. h

pub trees_go_on : (ps : List (List Token)) (n : ℕ) (now new : List (Option (Arc Element Global))) (tree : Option (Arc Element Global)) → n < length ps
    → TreesGoOn ps (drop n ps) now → IsTreeOf (slice_index_or ps n []) (tree_of tree) → new ≡ now ++ tree ∷ [] → TreesGoOn ps (drop (n + 1) ps) new
trees_go_on ps n now new tree h so_far is added =
    λ later rest.
    let same : map tree_of new ++ later ≡ map tree_of now ++ (tree_of tree ∷ later) =
    ap (λ (l : List (Option (Arc Element Global))). map tree_of l ++ later) added
    ∙ ap (λ (l : List (Option Element)). l ++ later) (map-append tree_of now (tree ∷ []))
    ∙ append_assoc (map tree_of now) (tree_of tree ∷ []) later in
    subst (AreTreesOf ps) (sym same) (so_far (tree_of tree ∷ later) (subst (λ (qs : List (List Token)). AreTreesOf qs (tree_of tree ∷ later)) (sym (part_next ps n h)) (is, rest)))

pub trees_end : (ps rest : List (List Token)) (trees : List (Option (Arc Element Global))) → rest ≡ [] → TreesGoOn ps rest trees → AreTreesOf ps (map tree_of trees)
trees_end ps rest trees none so_far = subst (AreTreesOf ps) (append-nil (map tree_of trees)) (so_far [] (subst (λ (qs : List (List Token)). AreTreesOf qs []) (sym none) tt))
