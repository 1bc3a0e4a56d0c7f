-- Opening files, whose names are new one after another.
use Rattle.std.proofs.Common.{◌≡◌, ◌≢◌, ℕ, suc, ◌+◌, ◌<◌, ◌++◌, ◌||◌, Bool, true, false, List, [], ◌∷◌, Ok, Err, length, get_or, drop, cond, codes, decimal, bytes_eq, subst, add-one, append_assoc, refl, sym, ap, ◌∙◌, arith, true≢false}
use Rattle.std.specs.List.{AllByRecursion}
use Rattle.std.specs.Ordering.{nat_cmp, is_eq}
use Rattle.std.specs.Cmp.Lexicographic.{slice_cmp}
use Rattle.std.proofs.lemmas.Cmp.{tied_itself, nat_list_cmp_total}
use Rattle.std.proofs.Math.Seq.{drop-cons}
use Rattle.std.proofs.lemmas.Map.Text.{is_eq-slice_cmp}
use Rattle.std.proofs.lemmas.List.Elements.{All-from_recursion}
use Rattle.std.proofs.lemmas.List.Kept.{AllPairs-cons}
use Rattle.serde_json.specs.Data.{Data, Items, no_items, item, Members}
use Rattle.serde_json.specs.Find.{as_object, get_member}
use Rattle.serde_json.specs.View.{view, items_view}
use Rattle.serde_json.specs.declared.value.Value.{Value}
use Rattle.sve_bytes.specs.FileName.{is_file_name_of}
use Rattle.sve_text.specs.Files.{HaveDistinctNames}
use Rattle.sve_shape.specs.Shapes.{Shaped, under, shaped_map, shaped_then, shaped_of, string_of, has_exactly, member_as}
use Rattle.sve_command.specs.Edits.{file_name}
use Rattle.sve_script.specs.Session.{new_name, new_name_of, file_from, file_of, or_named, files_as}
use Rattle.sve_script.proofs.Inversions.{then_ok, map_ok, under_ok, then_branch, else_branch}

abbrev pub File : Type 0
File = List ℕ × List ℕ

-- ---- a file more

either : (a b : Bool) → cond a true b ≡ (a || b)
either true b = refl
either false b = refl

-- what is found in a set, once this name is added
pub also_used : (used known : List ℕ → Bool) (name : List ℕ) → ((q : List ℕ) → known q ≡ cond (is_eq (slice_cmp nat_cmp name q)) true (used q)) → known ≡ or_named name used
also_used used known name updates = λ k q. (updates q ∙ either (is_eq (slice_cmp nat_cmp name q)) (used q) ∙ ap (λ (b : Bool). b || used q) (is_eq-slice_cmp name q)) k

joined : (so_far : List File) (file : File) (rest : Shaped (List File)) → shaped_map (λ r. so_far ++ r) (shaped_map (λ others. file ∷ others) rest) ≡ shaped_map (λ r. (so_far ++ file ∷ []) ++ r) rest
joined so_far file (Ok r) = ap Ok (sym (append_assoc so_far (file ∷ []) r))
joined so_far file (Err path) = refl

pub one_more : (used known : List ℕ → Bool) (all : List Value) (so_far : List File) (i : ℕ) (file : File) (v : Value) (whole : Shaped (List File)) → i < length all → v ≡ get_or all i v → Ok file ≡ file_of used (view v)
    → ((q : List ℕ) → known q ≡ cond (is_eq (slice_cmp nat_cmp file.0 q)) true (used q))
    → whole ≡ shaped_map (λ r. so_far ++ r) (files_as used i (items_view (drop i all)))
    → whole ≡ shaped_map (λ r. (so_far ++ file ∷ []) ++ r) (files_as known (i + 1) (items_view (drop (i + 1) all)))
one_more used known all so_far i file v whole within at is updates before =
    let here : drop i all ≡ v ∷ drop (i + 1) all = rw (add-one) (drop-cons all i v within ∙ ap (λ (w : Value). w ∷ drop (suc i) all) (sym at)) in
    before
    ∙ ap (λ (vs : List Value). shaped_map (λ r. so_far ++ r) (files_as used i (items_view vs))) here
    ∙ ap (λ (s : Shaped File). shaped_map (λ r. so_far ++ r) (shaped_then (λ f. shaped_map (λ others. f ∷ others) (files_as (or_named f.0 used) (i + 1) (items_view (drop (i + 1) all)))) (under (decimal i) s))) (sym is)
    ∙ joined so_far file (files_as (or_named file.0 used) (i + 1) (items_view (drop (i + 1) all)))
    ∙ ap (λ (u : List ℕ → Bool). shaped_map (λ r. (so_far ++ file ∷ []) ++ r) (files_as u (i + 1) (items_view (drop (i + 1) all)))) (sym (also_used used known file.0 updates))

-- ---- distinct names

bytes_eq_same : (a b : List ℕ) → a ≡ b → bytes_eq a b ≡ true
bytes_eq_same a b same = sym (is_eq-slice_cmp a b) ∙ ap (λ (c : List ℕ). is_eq (slice_cmp nat_cmp a c)) (sym same) ∙ ap is_eq (tied_itself nat_list_cmp_total a)

not_used : (is_used : List ℕ → Bool) (d : Data) (file : File) → file_of is_used d ≡ Ok file → is_used file.0 ≡ false
not_used is_used d file is =
    let object = then_ok (file_from is_used) (shaped_of (as_object d)) file is in
    let ms : Members = object.0 in
    let parts = then_branch (has_exactly (codes "name" ∷ codes "text" ∷ []) ms) _ [] file object.2 in
    let named = then_ok (λ name. shaped_map (λ text. (name, text)) (member_as string_of (codes "text") ms)) (member_as (new_name_of is_used) (codes "name") ms) file parts.1 in
    let name : List ℕ = named.0 in
    let whole = map_ok (λ (text : List ℕ). (name, text)) (member_as string_of (codes "text") ms) file named.2 in
    let value = then_ok (new_name_of is_used) (shaped_of (get_member (codes "name") ms)) name (under_ok (codes "name") _ name named.1) in
    let text = then_ok (new_name is_used) (string_of value.0) name value.2 in
    let free = else_branch (is_used text.0) (file_name text.0) [] name text.2 in
    let kept = then_branch (is_file_name_of text.0) (Ok text.0) [] name free.1 in
    let first : text.0 ≡ name = cc (kept.1) in
    let last : name ≡ file.0 = ap (λ (f : File). f.0) whole.2 in
    ap is_used (sym (first ∙ last)) ∙ free.0

neither : (a b : Bool) → (a || b) ≡ false → (a ≡ false) × (b ≡ false)
neither false b e = (refl, e)
neither true b e = absurd (true≢false e)

abbrev AreNew : (List ℕ → Bool) → List File → Type 0
AreNew is_used files = AllByRecursion (λ (f : File). is_used f.0 ≡ false) files

still_new : (is_used : List ℕ → Bool) (name : List ℕ) (files : List File) → AreNew (or_named name is_used) files → AreNew is_used files
still_new is_used name [] new = tt
still_new is_used name (f ∷ fs) new = ((neither (bytes_eq name f.0) (is_used f.0) new.0).1, still_new is_used name fs new.1)

other_names : (is_used : List ℕ → Bool) (name : List ℕ) (files : List File) → AreNew (or_named name is_used) files → AllByRecursion (λ (f : File). name ≢ f.0) files
other_names is_used name [] new = tt
other_names is_used name (f ∷ fs) new =
    ((λ same. absurd (true≢false (sym (bytes_eq_same name f.0 same) ∙ (neither (bytes_eq name f.0) (is_used f.0) new.0).0))), other_names is_used name fs new.1)

pub names_are_new : (is_used : List ℕ → Bool) (index : ℕ) (ds : Items) (files : List File) → files_as is_used index ds ≡ Ok files → AreNew is_used files × HaveDistinctNames files
names_are_new is_used index no_items files is = let none : [] ≡ files = cc in subst (λ (fs : List File). AreNew is_used fs × HaveDistinctNames fs) none (tt, λ i j d before within. absurd (omega (arith, within)))
names_are_new is_used index (item d ds) files is =
    let first = then_ok (λ file. shaped_map (λ others. file ∷ others) (files_as (or_named file.0 is_used) (index + 1) ds)) (under (decimal index) (file_of is_used d)) files is in
    let file : File = first.0 in
    let rest = map_ok (λ (others : List File). file ∷ others) (files_as (or_named file.0 is_used) (index + 1) ds) files first.2 in
    let new = names_are_new (or_named file.0 is_used) (index + 1) ds rest.0 rest.1 in
    let free : is_used file.0 ≡ false = not_used is_used d file (under_ok _ (file_of is_used d) file first.1) in
    subst (λ (fs : List File). AreNew is_used fs × HaveDistinctNames fs) rest.2 (
      (free, still_new is_used file.0 rest.0 new.0),
      AllPairs-cons (λ (a b : File). a.0 ≢ b.0) file rest.0 (All-from_recursion (λ (f : File). file.0 ≢ f.0) rest.0 (other_names is_used file.0 rest.0 new.0)) new.1,
    )
