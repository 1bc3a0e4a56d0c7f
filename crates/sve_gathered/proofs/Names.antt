-- Files of names in order, each with a text of its own, have names that differ.
use Rattle.std.specs.Prelude.{ℕ, ◌≡◌, ◌≢◌, List, [], ◌∷◌, ◌++◌, Option, Some, None, All, AllPairs, refl}
use Rattle.std.proofs.Common.{sym, ap, ◌∙◌, subst, arith}
use Rattle.std.specs.List.{flat_map}
use Rattle.std.specs.Cmp.{tied_itself}
use Rattle.std.specs.Cmp.Lexicographic.{nat_list_cmp_total}
use Rattle.std.specs.declared.cmp.Ordering.TheVariants.{Less}
use Rattle.std.proofs.lemmas.Map.Lookups.{exact_bytes}
use Rattle.std.proofs.lemmas.List.Elements.{All-nil, All-cons, All-append, All-same}
use Rattle.std.proofs.lemmas.List.Kept.{AllPairs-cons}
use Rattle.sve_text.specs.Rows.{name_cmp}
use Rattle.sve_ordered.specs.Ordered.{ordered}
use Rattle.sve_ordered.proofs.Rising.{ordered_rises}
use Rattle.sve_gathered.specs.Gathered.{file_of}

-- this name comes before all of these
abbrev pub IsBefore : List ℕ → List (List ℕ) → Type 0
IsBefore x [] = Unit {0}
IsBefore x (y ∷ ys) = (name_cmp x y ≡ Less) × IsBefore x ys

-- the names rise
abbrev pub Rise : List (List ℕ) → Type 0
Rise [] = Unit {0}
Rise (x ∷ xs) = IsBefore x xs × Rise xs

pub names_rise : (names : List (List ℕ)) → Rise (ordered name_cmp names)
names_rise names = ordered_rises name_cmp nat_list_cmp_total exact_bytes names

pub not_itself : (a b : List ℕ) → name_cmp a b ≡ Less → a ≢ b
not_itself a b less same = let tied = tied_itself nat_list_cmp_total a in let both : name_cmp a a ≡ Less = ap (name_cmp a) same ∙ less in cc

abbrev pub File : Type 0
File = List ℕ × List ℕ

abbrev pub Differ : File → File → Type 0
Differ a b = a.0 ≢ b.0

-- the files of these names, each with some text or none
abbrev pub AreFiles : List (List ℕ) → List File → Type 0
AreFiles [] files = files ≡ []
AreFiles (name ∷ names) files = (others : List File) × AreFiles names others × ((t : Option (List ℕ)) × (files ≡ file_of name t ++ others))

pub files_with : (t : List ℕ → Option (List ℕ)) (names : List (List ℕ)) → AreFiles names (flat_map (λ name. file_of name (t name)) names)
files_with t [] = refl
files_with t (name ∷ names) = (flat_map (λ n. file_of n (t n)) names, files_with t names, (t name, refl))

one_after : (x name : List ℕ) (t : Option (List ℕ)) → x ≢ name → All (λ (file : File). x ≢ file.0) (file_of name t)
one_after x name None differ = All-nil (λ (file : File). x ≢ file.0)
one_after x name (Some text) differ = All-cons (λ (file : File). x ≢ file.0) (name, text) [] differ (All-nil (λ (file : File). x ≢ file.0))

all_after : (x : List ℕ) (names : List (List ℕ)) (files : List File) → AreFiles names files → IsBefore x names → All (λ (file : File). x ≢ file.0) files
all_after x [] files is before = All-same (λ (file : File). x ≢ file.0) files [] is (All-nil (λ (file : File). x ≢ file.0))
all_after x (name ∷ names) files (others, are, (t, e)) before =
    let P : File → Type 0 = λ file. x ≢ file.0 in
    All-same P files (file_of name t ++ others) e (All-append P (file_of name t) others (one_after x name t (not_itself x name before.0)) (all_after x names others are before.1))

one_more : (name : List ℕ) (t : Option (List ℕ)) (others : List File) → All (λ (file : File). name ≢ file.0) others → AllPairs Differ others → AllPairs Differ (file_of name t ++ others)
one_more name None others after rest = rest
one_more name (Some text) others after rest = AllPairs-cons Differ (name, text) others after rest

pub names_differ : (names : List (List ℕ)) (files : List File) → AreFiles names files → Rise names → AllPairs Differ files
names_differ [] files is rise = subst (AllPairs Differ) (sym is) (λ i j d low high. absurd (omega (arith, low, high)))
names_differ (name ∷ names) files (others, are, (t, e)) rise =
    subst (AllPairs Differ) (sym e) (one_more name t others (all_after name names others are rise.0) (names_differ names others are rise.1))
