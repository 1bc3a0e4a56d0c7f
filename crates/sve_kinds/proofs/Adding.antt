-- Elements are added, and their gists are made.
use Rattle.std.proofs.Common.{◌≡◌, List, [], ◌∷◌, ◌++◌, map, refl, sym, ap, ◌∙◌, append_assoc}
use Rattle.std.proofs.lemmas.List.{append-nil}
use Rattle.sve_index.specs.declared.source.FileElement.{FileElement}
use Rattle.sve_gist.specs.Gists.{Gist, gist_of}
use Rattle.sve_store.specs.Made.{Made, Needs, Done}
use Rattle.sve_key.specs.declared.key.Key.{Key}
use Rattle.sve_make.specs.Make.{joined}
use Rattle.sve_making.specs.Added.{Adds}
use Rattle.sve_kinds.specs.Asked.{SoFar}

map_append : (xs ys : List FileElement) → map gist_of (xs ++ ys) ≡ map gist_of xs ++ map gist_of ys
map_append [] ys = refl
map_append (x ∷ xs) ys = ap (λ (gs : List Gist). gist_of x ∷ gs) (map_append xs ys)

pub so_at_first : (whole : Made Key (List Gist)) (old : List FileElement) → SoFar whole whole old old
so_at_first (Needs k) old = ([], sym (append-nil old), refl)
so_at_first (Done gs) old = ([], sym (append-nil old), refl)

join_done : (xs ys : List Gist) (rest : Made Key (List Gist)) → joined (Done xs) (joined (Done ys) rest) ≡ joined (Done (xs ++ ys)) rest
join_done xs ys (Needs k) = refl
join_done xs ys (Done zs) = ap Done (sym (append_assoc xs ys zs))

pub so_on : (whole m rest : Made Key (List Gist)) (old now new : List FileElement) → SoFar whole (joined m rest) old now → Adds m now new → SoFar whole rest old new
so_on whole m rest old now new before added =
    let own = before.0 in
    let more = added.0 in (
      own ++ more,
      added.1 ∙ ap (λ (l : List FileElement). l ++ more) before.1 ∙ append_assoc old own more,
      before.2
          ∙ ap (λ (x : Made Key (List Gist)). joined (Done (map gist_of own)) (joined x rest)) added.2
          ∙ join_done (map gist_of own) (map gist_of more) rest
          ∙ ap (λ (gs : List Gist). joined (Done gs) rest) (sym (map_append own more)),
    )

pub so_needs : (whole m rest : Made Key (List Gist)) (old now : List FileElement) (j : Key) → SoFar whole (joined m rest) old now → m ≡ Needs j → whole ≡ Needs j
so_needs whole m rest old now j before is = before.2 ∙ ap (λ (x : Made Key (List Gist)). joined (Done (map gist_of before.0)) (joined x rest)) is

pub so_done : (whole : Made Key (List Gist)) (old now : List FileElement) → SoFar whole (Done []) old now → Adds whole old now
so_done whole old now before = (before.0, before.1, before.2 ∙ ap Done (append-nil (map gist_of before.0)))

pub so_made : (whole : Made Key (List Gist)) (now : List FileElement) → SoFar whole (Done []) [] now → whole ≡ Done (map gist_of now)
so_made whole now before = before.2 ∙ ap Done (append-nil (map gist_of before.0)) ∙ ap (λ (l : List FileElement). Done (map gist_of l)) (sym before.1)

-- nothing is added at first
pub so_empty : (whole : Made Key (List Gist)) (now : List FileElement) → now ≡ [] → SoFar whole whole [] now
so_empty whole now is = let none = so_at_first whole [] in (none.0, is ∙ none.1, none.2)
