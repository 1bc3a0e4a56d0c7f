-- The value of the index is the index of what it takes from the chunks of all units (own).
use Rattle.std.specs.Prelude.{ℕ, zero, suc, ◌+◌, ◌≡◌, List, [], ◌∷◌, ◌++◌, length, Option, Some, None, refl}
use Rattle.std.proofs.Common.{sym, ap, ◌∙◌}
use Rattle.std.specs.List.{flat_map}
use Rattle.sve_text.specs.Files.{FilesValue}
use Rattle.sve_gist.specs.Gists.{Gist}
use Rattle.sve_gist.specs.Index.{index_of_gists}
use Rattle.sve_store.specs.Made.{Made, Needs, Done}
use Rattle.sve_key.specs.declared.key.Key.{Key}
use Rattle.sve_key.specs.declared.key.Key.TheVariants.{Names, Chunks, Element, Index}
use Rattle.sve_key.specs.declared.value.Value.{Value}
use Rattle.sve_key.specs.declared.value.Value.TheVariants as values
use Rattle.sve_key.specs.Values.{chunks_in_value, reading_in_value}
use Rattle.sve_make.specs.Make.{with_key, then_made, joined, gists_in, element_told, elements_told, unit_told, units_told, units_in, index_told, index_made}
use Rattle.sve_make.specs.AtFiles.{IsValueAt, TellsAt}
use Rattle.sve_make.proofs.Values.{made_over, names_value, chunks_value, element_value}
use Rattle.sve_make.specs.IndexAt.{chunk_gist, chunk_gists, unit_gists, gists_at}

then_done : {V W : Type 0} (m : Made Key V) (f : V → W) (w : W) → then_made m f ≡ Done w → (v : V) × (m ≡ Done v) × (f v ≡ w)
then_done (Needs k) f w e = cc
then_done (Done v) f w e = (v, refl, cc)

joined_done : {X : Type 0} (m n : Made Key (List X)) (zs : List X) → joined m n ≡ Done zs → (xs : List X) × (ys : List X) × (m ≡ Done xs) × (n ≡ Done ys) × (xs ++ ys ≡ zs)
joined_done (Needs k) n zs e = cc
joined_done (Done xs) n zs e = let t = then_done n (λ ys. xs ++ ys) zs e in (xs, t.0, refl, t.1, t.2)

key_done : {V W : Type 0} (k : Key) (o : Option V) (rest : V → Made Key W) (w : W) → with_key k o rest ≡ Done w → (v : V) × (o ≡ Some v) × (rest v ≡ Done w)
key_done k None rest w e = cc
key_done k (Some v) rest w e = (v, refl, e)

module _ (files : FilesValue) (told : Key → Option Value) (tells : TellsAt files told) where
  element_is : (file : List ℕ) (n : ℕ) (gs : List Gist) → element_told told file n ≡ Done gs → gs ≡ chunk_gist files.rows file n
  element_is file n gs e =
      let d = key_done (Element file n) (told (Element file n)) (λ v. Done (gists_in file n (reading_in_value v))) gs e in
      let one : gists_in file n (reading_in_value d.0) ≡ gs = (let is = d.2 in cc) in
      sym one ∙ ap (λ (v : Value). gists_in file n (reading_in_value v)) (element_value files file n 0 d.0 (tells (Element file n) d.0 d.1))

  elements_are : (file : List ℕ) (n left : ℕ) (gs : List Gist) → elements_told told file n left ≡ Done gs → gs ≡ chunk_gists files.rows file n left
  unfolding elements_told chunk_gists
  elements_are file n zero gs e = cc
  elements_are file n (suc left) gs e =
      let d = joined_done (element_told told file n) (elements_told told file (n + 1) left) gs e in
      sym d.4 ∙ (λ i. element_is file n d.0 d.2 i ++ elements_are file (n + 1) left d.1 d.3 i)

  unit_is : (file : List ℕ) (gs : List Gist) → unit_told told file ≡ Done gs → gs ≡ unit_gists files.rows file
  unit_is file gs e =
      let d = key_done (Chunks file) (told (Chunks file)) (λ v. elements_told told file 0 (length (chunks_in_value v))) gs e in
      elements_are file 0 (length (chunks_in_value d.0)) gs d.2
      ∙ ap (λ (v : Value). chunk_gists files.rows file 0 (length (chunks_in_value v))) (chunks_value files file 0 d.0 (tells (Chunks file) d.0 d.1))

  units_are : (units : List (List ℕ)) (gs : List Gist) → units_told told units ≡ Done gs → gs ≡ flat_map (unit_gists files.rows) units
  unfolding units_told
  units_are [] gs e = cc
  units_are (unit ∷ units) gs e =
      let d = joined_done (unit_told told unit) (units_told told units) gs e in
      sym d.4 ∙ (λ i. unit_is unit d.0 d.2 i ++ units_are units d.1 d.3 i)

  index_is : (gs : List Gist) → index_told told ≡ Done gs → gs ≡ gists_at files.rows
  index_is gs e =
      let d = key_done Names (told Names) (λ v. units_told told (units_in v)) gs e in
      units_are (units_in d.0) gs d.2 ∙ ap (λ (v : Value). flat_map (unit_gists files.rows) (units_in v)) (names_value files 0 d.0 (tells Names d.0 d.1))

pub index_value : (files : FilesValue) (f : ℕ) (v : Value) → IsValueAt files Index f v → v ≡ values.Index (index_of_gists (gists_at files.rows))
index_value files f v is =
    let m = made_over files Index f v refl is in
    let d = then_done (index_told m.0) index_made v m.2 in
    sym d.2 ∙ ap index_made (index_is files m.0 m.1 d.0 d.1)
