-- Steps that change the innermost scope alone, one after another.
use Rattle.std.proofs.Common.{◌≡◌, ℕ, List, [], ◌∷◌, refl, ap, sym, ◌∙◌}
use Rattle.std.specs.Prelude.{sum_by}
use Rattle.std.specs.List.{fold}
use Rattle.sve_use.specs.Use.{Use}
use Rattle.sve_statement_use.specs.Steps.{Does, Step, Uses, happens}
use Rattle.sve_contents.specs.declared.contents.Contents.{Contents}
use Rattle.sve_used.specs.Used.{name_used}
use Rattle.sve_local.specs.Steps.{stepped_in}
use Rattle.sve_count.specs.Statements.{step_nodes as nodes_of}
use Rattle.sve_body.specs.Items.{step_nodes, use_all}
use Rattle.sve_elaboration.specs.State.{Found}
use Rattle.sve_elaboration.specs.Scopes.{contents_of, known_in, packages_of, with_contents, words_of}
use Rattle.sve_elaboration.specs.Names.{local_in, used_in}
use Rattle.sve_elaboration.specs.Elaborating.{elaborating}

all_used : (s : Found) (us : List Use) → use_all elaborating us s ≡ with_contents s (fold (name_used (packages_of s) (words_of s)) (contents_of s) us)
all_used s [] = refl
all_used s (u ∷ us) = all_used (used_in u s) us

-- names that are used in a scope that was taken out of its place
pub used_behind : (s : Found) (us : List Use) (taken left : Contents) → taken ≡ contents_of s → left ≡ fold (name_used (packages_of s) (words_of s)) taken us → with_contents s left ≡ use_all elaborating us s
used_behind s us taken left e l = ap (with_contents s) (l ∙ ap (λ (c : Contents). fold (name_used (packages_of s) (words_of s)) c us) e) ∙ sym (all_used s us)

all_stepped : (s : Found) (xs : List Step) → fold (happens (λ t name. used_in name t) (λ t local. local_in local t)) s xs ≡ with_contents s (fold (stepped_in (packages_of s) (words_of s)) (contents_of s) xs)
all_stepped s [] = refl
all_stepped s (Uses u ∷ xs) = all_stepped (used_in u s) xs
all_stepped s (Does x ∷ xs) = all_stepped (local_in x s) xs

-- steps of a statement in a scope that was taken out of its place
pub stepped_behind : (s : Found) (xs : List Step) (taken left : Contents) → taken ≡ contents_of s → left ≡ fold (stepped_in (packages_of s) (words_of s)) taken xs
    → with_contents s left ≡ fold (happens (λ t name. used_in name t) (λ t local. local_in local t)) s xs
stepped_behind s xs taken left e l = ap (with_contents s) (l ∙ ap (λ (c : Contents). fold (stepped_in (packages_of s) (words_of s)) c xs) e) ∙ sym (all_stepped s xs)

same_nodes : (s : Found) (x : Step) → nodes_of (known_in s) x ≡ step_nodes elaborating s x
same_nodes s (Uses u) = refl
same_nodes s (Does x) = refl

-- what they cost is what their text counts
pub nodes_alike : (s : Found) (xs : List Step) → sum_by (nodes_of (known_in s)) xs ≡ sum_by (step_nodes elaborating s) xs
nodes_alike s xs = ap (λ (f : Step → ℕ). sum_by f xs) (λ i x. same_nodes s x i)
