-- The order of keys: by the number of the kind, then by the name, then by the number that the key has (own).
use Rattle.std.specs.Prelude.{ℕ, nat_eq, if◌then◌else◌, List, [], ◌≡◌, ◌↔◌, refl}
use Rattle.std.proofs.Common.{sym, ◌∙◌, subst}
use Rattle.std.specs.Ordering.{nat_cmp, on, then_cmp, ordering_then}
use Rattle.std.specs.Cmp.{IsTotalOrder, then_total, on_total, nat_cmp_total, tied_itself}
use Rattle.std.specs.Cmp.Lexicographic.{slice_cmp, nat_list_cmp_total}
use Rattle.std.proofs.lemmas.Map.Lookups.{exact_bytes, exact_unsigned}
use Rattle.std.specs.declared.cmp.Ordering.{Ordering}
use Rattle.std.specs.declared.cmp.Ordering.TheVariants.{Less, Equal, Greater}
use Rattle.sve_key.specs.declared.key.Key.{Key}
use Rattle.sve_key.specs.declared.key.Key.TheVariants.{Text, Names, Tokens, Chunks, Element, Index}

-- the number of a key's kind: a key is made of keys whose kinds have lower numbers
abbrev pub rank_of : Key → ℕ
rank_of (Text name) = 1
rank_of Names = 2
rank_of (Tokens name) = 3
rank_of (Chunks name) = 4
rank_of (Element name n) = 5
rank_of Index = 6

-- the name that a key has
abbrev pub name_part : Key → List ℕ
name_part (Text name) = name
name_part Names = []
name_part (Tokens name) = name
name_part (Chunks name) = name
name_part (Element name n) = name
name_part Index = []

-- the number that a key has
abbrev pub number_part : Key → ℕ
number_part (Element name n) = n
number_part key = 0

abbrev pub key_cmp : Key → Key → Ordering
key_cmp = then_cmp (on rank_of nat_cmp) (then_cmp (on name_part (slice_cmp nat_cmp)) (on number_part nat_cmp))

pub key_total : IsTotalOrder key_cmp
key_total = then_total (on_total rank_of nat_cmp_total) (then_total (on_total name_part nat_list_cmp_total) (on_total number_part nat_cmp_total))

-- the key of these parts
abbrev back : ℕ → List ℕ → ℕ → Key
back rank name n =
    if nat_eq rank 1 then Text name
    else if nat_eq rank 2 then Names
    else if nat_eq rank 3 then Tokens name
    else if nat_eq rank 4 then Chunks name
    else if nat_eq rank 5 then Element name n
    else Index

back_is : (k : Key) → back (rank_of k) (name_part k) (number_part k) ≡ k
back_is (Text name) = refl
back_is Names = refl
back_is (Tokens name) = refl
back_is (Chunks name) = refl
back_is (Element name n) = refl
back_is Index = refl

both_equal : (o p : Ordering) → ordering_then o p ≡ Equal → (o ≡ Equal) × (p ≡ Equal)
both_equal Less p e = cc
both_equal Equal p e = (refl, e)
both_equal Greater p e = cc

key_exact : (a b : Key) → key_cmp a b ≡ Equal → a ≡ b
key_exact a b e =
    let x = both_equal (nat_cmp (rank_of a) (rank_of b)) _ e in
    let y = both_equal (slice_cmp nat_cmp (name_part a) (name_part b)) _ x.1 in
    let r = exact_unsigned (rank_of a) (rank_of b) x.0 in
    let n = exact_bytes (name_part a) (name_part b) y.0 in
    let v = exact_unsigned (number_part a) (number_part b) y.1 in
    sym (back_is a) ∙ (λ i. back (r i) (n i) (v i)) ∙ back_is b

-- two keys that the order does not tell apart are one
pub one_key : (a b : Key) → (key_cmp a b ≡ Equal) ↔ (a ≡ b)
one_key a b = (key_exact a b, λ e. subst (λ (k : Key). key_cmp a k ≡ Equal) e (tied_itself key_total a))
