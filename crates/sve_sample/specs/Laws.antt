-- What kinds owe, of texts.
use Rattle.std.proofs.Common.{◌≡◌, ◌↔◌, ℕ, ◌<◌, ◌≤◌, Bool, true, false, cond, List, [], length, Option, Some, None, is_some, option_map, refl, ap, ◌∙◌, subst}
use Rattle.std.specs.declared.cmp.Ordering.TheVariants.{Equal}
use Rattle.std.specs.Ordering.{nat_cmp}
use Rattle.std.specs.Option.{option_and_then}
use Rattle.std.specs.Cmp.Lexicographic.{slice_cmp, nat_list_cmp_total}
use Rattle.std.proofs.lemmas.Map.Lookups.{exact_bytes}
use Rattle.sve_bytes.specs.FileName.{is_file_name_of}
use Rattle.sve_bytes.proofs.PathsAreExact.{equal_exactly}
use Rattle.sve_text.specs.Rows.{Row, text_of, stamp_of}
use Rattle.sve_text.specs.Files.{FilesValue}
use Rattle.sve_history.specs.Histories.{HistoryValue, IsOpening, files_at}
use Rattle.sve_history.proofs.Stamps.{stamps_tell_revisions}
use Rattle.sve_store.specs.Made.{Needs, values_of, IsOneOf}
use Rattle.sve_store.specs.Values.{Gives, is_given, is_made, is_needed, IsValue, TellsValues, TellsLowerValues}
use Rattle.sve_sample.specs.Texts.{text_at, made}

abbrev Text : Type 0
Text = Option (List ℕ)

pub same_name : (a b : List ℕ) → (slice_cmp nat_cmp a b ≡ Equal) ↔ (a ≡ b)
same_name a b = equal_exactly nat_list_cmp_total exact_bytes a b (slice_cmp nat_cmp a b) refl

some_if : {A : Type 0} (b : Bool) (x : A) → is_some (cond b (Some x) None) ≡ b
some_if true x = refl
some_if false x = refl

-- the names of files are the inputs
pub some_of_files : (files : FilesValue) (name : List ℕ) → is_some (text_at files name) ≡ is_file_name_of name
some_of_files files name = some_if {A = Text × ℕ} (is_file_name_of name) (text_of files.rows name, stamp_of files.rows name)

-- the stamp of a text is a revision at which the name had it
pub stamps_of_texts : (history : HistoryValue) (r : ℕ) → IsOpening history.opening → r ≤ length history.entries → (name : List ℕ) (text : Text) (stamp : ℕ) → text_at (files_at history.opening history.entries r) name ≡ Some (text, stamp)
    → (stamp ≤ r) × (values_of (text_at (files_at history.opening history.entries stamp)) name ≡ Some text)
stamps_of_texts history r opening within name text stamp is = by (is_file_name_of name) is
  where
    files : ℕ → FilesValue
    files n = files_at history.opening history.entries n

    by : (b : Bool) → cond {A = Option (Text × ℕ)} b (Some (text_of (files r).rows name, stamp_of (files r).rows name)) None ≡ Some (text, stamp)
        → (stamp ≤ r) × (option_map (λ (pair : Text × ℕ). pair.0) (cond {A = Option (Text × ℕ)} b (Some (text_of (files stamp).rows name, stamp_of (files stamp).rows name)) None) ≡ Some text)
    by false e = cc
    by true e =
        let one : (text_of (files r).rows name, stamp_of (files r).rows name) ≡ (text, stamp) = cc in
        let texts : text_of (files r).rows name ≡ text = ap (λ (pair : Text × ℕ). pair.0) one in
        let stamps : stamp_of (files r).rows name ≡ stamp = ap (λ (pair : Text × ℕ). pair.1) one in
        let law = stamps_tell_revisions history.opening history.entries r name opening within in
        subst (λ (n : ℕ). (n ≤ r) × (◌≡◌ {A = Option Text} (Some (text_of (files n).rows name)) (Some text))) stamps (law.0, ap Some (ap (option_and_then (λ (row : Row). row.text)) law.1 ∙ texts))

-- what is done needs no key
pub no_lower : (files : FilesValue) (k : List ℕ) (f : ℕ) (told : List ℕ → Option Text) (j : List ℕ) → is_file_name_of k ≡ false → TellsLowerValues (slice_cmp nat_cmp) (values_of (text_at files)) made (λ _. 0) 0 told → made k f told ≡ Needs j → 0 < 0
no_lower files k f told j computed honest needs = absurd (cc)

pub no_reading : (files : FilesValue) (k : List ℕ) (f : ℕ) (told : List ℕ → Option Text) (j : List ℕ) → is_file_name_of k ≡ false → TellsValues (slice_cmp nat_cmp) (values_of (text_at files)) made told → made k f told ≡ Needs j
    → (told j ≡ None) × IsOneOf [] j
no_reading files k f told j computed honest needs = absurd (cc)

-- a text is that of its name whatever the fuel
pub at_other_fuel : (files : FilesValue) (k : List ℕ) (f g : ℕ) (v : Text) → IsValue (slice_cmp nat_cmp) (values_of (text_at files)) made k g v → true ≡ true → IsValue (slice_cmp nat_cmp) (values_of (text_at files)) made k f v
at_other_fuel files k f g v (reads, gives) serves = (reads, by gives)
  where
    by : {told : List (List ℕ × Text)} {rs : List (List ℕ)} → Gives (slice_cmp nat_cmp) (values_of (text_at files)) made k g told v rs → Gives (slice_cmp nat_cmp) (values_of (text_at files)) made k f told v rs
    by (is_given is) = is_given is
    by (is_made none done) = is_made none done
    by (is_needed none needs first then_) = absurd (cc)
