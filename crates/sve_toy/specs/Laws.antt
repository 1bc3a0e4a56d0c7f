-- What kinds owe, of these keys.
use Rattle.std.proofs.Common.{◌≡◌, ◌↔◌, ℕ, ◌<◌, ◌≤◌, ◌/◌, false, length, Option, Some, None, is_some, inl, refl, ap, ◌∙◌, subst, arith}
use Rattle.std.specs.Option.{option_and_then}
use Rattle.std.specs.declared.cmp.Ordering.{Ordering}
use Rattle.std.specs.declared.cmp.Ordering.TheVariants.{Less, Equal, Greater}
use Rattle.sve_text.specs.Rows.{Row, text_of, stamp_of}
use Rattle.sve_text.specs.Files.{FilesValue}
use Rattle.sve_history.specs.Histories.{HistoryValue, IsOpening, files_at}
use Rattle.sve_history.proofs.Stamps.{stamps_tell_revisions}
use Rattle.sve_told.specs.Made.{Needs, Done, with_key}
use Rattle.sve_store.specs.Made.{values_of, IsOneOf}
use Rattle.sve_store.specs.Values.{IsValue, TellsValues, TellsLowerValues}
use Rattle.sve_ask.proofs.Alike.{at_any_fuel}
use Rattle.sve_toy.specs.declared.kinds.Key.{Key}
use Rattle.sve_toy.specs.declared.kinds.Key.TheVariants.{Length, Pairs, Quads}
use Rattle.sve_toy.specs.Toy.{file_a, length_of, given_of, is_given, make_of, rank_of, reads_of}

-- ---- which keys are one

pub itself : (k : Key) → (Equal ≡ Equal) ↔ (k ≡ k)
itself k = (λ e. refl, λ e. refl)

pub before : (a b : Key) → (a ≡ b → ⊥) → (Less ≡ Equal) ↔ (a ≡ b)
before a b apart = (λ (e : Less ≡ Equal). cc, λ e. absurd (apart e))

pub behind : (a b : Key) → (a ≡ b → ⊥) → (Greater ≡ Equal) ↔ (a ≡ b)
behind a b apart = (λ (e : Greater ≡ Equal). cc, λ e. absurd (apart e))

pub length_pairs : Length ≡ Pairs → ⊥
length_pairs e = cc

pub length_quads : Length ≡ Quads → ⊥
length_quads e = cc

pub pairs_quads : Pairs ≡ Quads → ⊥
pairs_quads e = cc

-- ---- inputs

pub given_are_inputs : (files : FilesValue) (k : Key) → is_some (given_of files k) ≡ is_given k
given_are_inputs files Length = refl
given_are_inputs files Pairs = refl
given_are_inputs files Quads = refl

-- the stamp of the text is a revision at which it had that length
pub stamps_of_lengths : (history : HistoryValue) (r : ℕ) → IsOpening history.opening → r ≤ length history.entries → (k : Key) (v s : ℕ) → given_of (files_at history.opening history.entries r) k ≡ Some (v, s)
    → (s ≤ r) × (values_of (given_of (files_at history.opening history.entries s)) k ≡ Some v)
stamps_of_lengths history r opening within Length v s is =
    let files : ℕ → FilesValue = λ n. files_at history.opening history.entries n in
    let one : (length_of (text_of (files r).rows file_a), stamp_of (files r).rows file_a) ≡ (v, s) = cc in
    let value : length_of (text_of (files r).rows file_a) ≡ v = ap (λ (pair : ℕ × ℕ). pair.0) one in
    let stamp : stamp_of (files r).rows file_a ≡ s = ap (λ (pair : ℕ × ℕ). pair.1) one in
    let law = stamps_tell_revisions history.opening history.entries r file_a opening within in
    subst (λ (n : ℕ). (n ≤ r) × (◌≡◌ {A = Option ℕ} (Some (length_of (text_of (files n).rows file_a))) (Some v))) stamp (law.0, ap Some (ap (λ o. length_of (option_and_then (λ (row : Row). row.text) o)) law.1 ∙ value))
stamps_of_lengths history r opening within Pairs v s is = cc
stamps_of_lengths history r opening within Quads v s is = cc

-- ---- what is needed

-- a half needs the key that it halves, where nothing is told of that one
half_needs : (key j : Key) (o : Option ℕ) → with_key {W = ℕ} key o (λ n. Done (n / 2)) ≡ Needs j → (j ≡ key) × (o ≡ None)
half_needs key j None e = (cc, refl)
half_needs key j (Some n) e = cc

pub lower_first : (cmp : Key → Key → Ordering) (files : FilesValue) (k : Key) (f : ℕ) (told : Key → Option ℕ) (j : Key) → is_given k ≡ false → TellsLowerValues cmp (values_of (given_of files)) make_of rank_of (rank_of k) told → make_of k f told ≡ Needs j → rank_of j < rank_of k
lower_first cmp files Length f told j computed honest needs = cc
lower_first cmp files Pairs f told j computed honest needs = let half = half_needs Length j (told Length) needs in omega (arith, ap rank_of half.0)
lower_first cmp files Quads f told j computed honest needs = let half = half_needs Pairs j (told Pairs) needs in omega (arith, ap rank_of half.0)

pub needed_is_read : (cmp : Key → Key → Ordering) (files : FilesValue) (k : Key) (f : ℕ) (told : Key → Option ℕ) (j : Key) → is_given k ≡ false → TellsValues cmp (values_of (given_of files)) make_of told → make_of k f told ≡ Needs j → (told j ≡ None) × IsOneOf (reads_of k) j
needed_is_read cmp files Length f told j computed honest needs = cc
needed_is_read cmp files Pairs f told j computed honest needs = let half = half_needs Length j (told Length) needs in (ap told half.0 ∙ half.1, inl half.0)
needed_is_read cmp files Quads f told j computed honest needs = let half = half_needs Pairs j (told Pairs) needs in (ap told half.0 ∙ half.1, inl half.0)

-- ---- fuel

pub no_fuel : (k : Key) (f : ℕ) (told : Key → Option ℕ) → make_of k f told ≡ make_of k 0 told
no_fuel Length f told = refl
no_fuel Pairs f told = refl
no_fuel Quads f told = refl

pub at_other_fuel : (cmp : Key → Key → Ordering) (files : FilesValue) (k : Key) (f g v : ℕ) → IsValue cmp (values_of (given_of files)) make_of k g v → IsValue cmp (values_of (given_of files)) make_of k f v
at_other_fuel cmp files k f g v (reads, gives) = (reads, at_any_fuel cmp (values_of (given_of files)) make_of f (no_fuel k) gives)
