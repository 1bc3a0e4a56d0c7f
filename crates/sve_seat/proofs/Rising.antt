-- Numbers that rise are below what their last one is below, and so are the commands of a client.
use Rattle.std.proofs.Common.{◌≡◌, ℕ, zero, suc, ◌-◌, ◌<◌, List, [], ◌∷◌, length, get_or, map, slice_get, Some, ◌↔◌, refl, sym, ap, ◌∙◌, subst, arith}
use Rattle.std.specs.Prelude.{All, IsTrue, nat_lt}
use Rattle.std.specs.Option.{option_map}
use Rattle.std.proofs.lemmas.List.Elements.{All-cons}
use Rattle.std.proofs.lemmas.Option.{slice_get-map}
use Rattle.std.proofs.lemmas.Bool.{ltb-true, lt-ltb}
use Rattle.sve_history.specs.Histories.{RisesFrom, IsRising}
use Rattle.sve_seat.specs.declared.told.Told.{Told}
use Rattle.sve_seat.specs.Outcomes.{command_of}

below_rising : (n : ℕ) (ns : List ℕ) (last m : ℕ) → RisesFrom n ns → slice_get (n ∷ ns) (length ns) ≡ Some last → last < m → All (λ k. k < m) (n ∷ ns)
below_rising n [] last m rises is lt = All-cons (λ k. k < m) n [] (let same : n ≡ last = cc in omega arith) (λ k d none. absurd (omega (arith, none)))
below_rising n (k ∷ ks) last m rises is lt =
    let later : All (λ k. k < m) (k ∷ ks) = below_rising k ks last m rises.1 is lt in
    let first : k < m = later zero k (omega arith) in
    All-cons (λ k. k < m) n (k ∷ ks) (omega (arith, first, rises.0)) later

one_less : (n : ℕ) → suc n - 1 ≡ n
one_less n = omega arith

last_below : (ns : List ℕ) (last m : ℕ) → slice_get ns (length ns - 1) ≡ Some last → All (λ k. k < m) ns → last < m
last_below [] last m is all = absurd (cc)
last_below (n ∷ ns) last m is all = by (length ns) (omega arith) (subst (λ (k : ℕ). slice_get (n ∷ ns) k ≡ Some last) (one_less (length ns)) is)
  where
    by : (place : ℕ) → place < length (n ∷ ns) → slice_get (n ∷ ns) place ≡ Some last → last < m
    by place within there = subst (λ (k : ℕ). k < m) (got (n ∷ ns) place last there) (all place last within)
      where
        got : (ks : List ℕ) (i : ℕ) (x : ℕ) → slice_get ks i ≡ Some x → get_or ks i x ≡ x
        got [] i x is = refl
        got (k ∷ ks) zero x is = cc
        got (k ∷ ks) (suc i) x is = got ks i x is

all_below : (ns : List ℕ) (last m : ℕ) → IsRising ns → slice_get ns (length ns - 1) ≡ Some last → last < m → All (λ k. k < m) ns
all_below [] last m rising is lt = λ k d none. absurd (omega (arith, none))
all_below (n ∷ ns) last m rising is lt = below_rising n ns last m rising (subst (λ (k : ℕ). slice_get (n ∷ ns) k ≡ Some last) (one_less (length ns)) is) lt

module _ {Q : Type 0} where
  length-commands : (told : List (Told Q)) → length (map command_of told) ≡ length told
  length-commands [] = refl
  length-commands (x ∷ told) = ap suc (length-commands told)

  -- the last command decides which ones are behind all
  last_decides : (told : List (Told Q)) (last : Told Q) (command : ℕ) → IsRising (map command_of told) → slice_get told (length told - 1) ≡ Some last
      → (command_of last < command) ↔ All (λ earlier. earlier < command) (map command_of told)
  last_decides told last command rising is =
      let there : slice_get (map command_of told) (length (map command_of told) - 1) ≡ Some (command_of last) =
      ap (λ (n : ℕ). slice_get (map command_of told) (n - 1)) (length-commands told) ∙ slice_get-map command_of told (length told - 1) ∙ ap (option_map command_of) is in
      (all_below (map command_of told) (command_of last) command rising there, last_below (map command_of told) (command_of last) command there)

  -- as the test of a function tells it
  pub last_tells : (told all : List (Told Q)) (last : Told Q) (number command : ℕ) → told ≡ all → IsRising (map command_of all) → Some last ≡ slice_get told (length told - 1) → number ≡ command_of last
      → IsTrue (nat_lt number command) ↔ All (λ earlier. earlier < command) (map command_of all)
  last_tells told all last number command same rising is number_is =
      let decides = last_decides all last command rising (subst (λ (l : List (Told Q)). slice_get l (length l - 1) ≡ Some last) same (sym is)) in (
        λ below. decides.0 (subst (λ (n : ℕ). n < command) number_is (ltb-true number command below)),
        λ every. lt-ltb number command (subst (λ (n : ℕ). n < command) (sym number_is) (decides.1 every)),
      )
