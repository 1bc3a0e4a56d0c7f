-- The stamp of an input names a revision at which it had the value that it has (own).
use Rattle.std.specs.Prelude.{ℕ, ◌≡◌, ◌≤◌, length, Option, Some}
use Rattle.std.proofs.Common.{ap, ◌∙◌, subst}
use Rattle.std.specs.Option.{option_and_then, option_map_or}
use Rattle.sve_text.specs.Rows.{Row, text_of, stamp_of}
use Rattle.sve_text.specs.Files.{FilesValue}
use Rattle.sve_history.specs.Histories.{HistoryValue, IsOpening, files_at}
use Rattle.sve_history.proofs.Stamps.{stamps_tell_revisions, names_stamp_tells_a_revision}
use Rattle.sve_store.specs.Made.{values_of}
use Rattle.sve_key.specs.declared.key.Key.{Key}
use Rattle.sve_key.specs.declared.key.Key.TheVariants.{Text, Names, Tokens, Chunks, Element, Index}
use Rattle.sve_key.specs.declared.value.Value.{Value}
use Rattle.sve_key.specs.declared.value.Value.TheVariants as values
use Rattle.sve_key.specs.Parts.{TextValue, names_there}
use Rattle.sve_make.specs.Make.{given_of}
use Rattle.sve_make.proofs.SameNames.{same_names}

same_pair : (a v : Value) (s t : ℕ) → ◌≡◌ {A = Option (Value × ℕ)} (Some (a, s)) (Some (v, t)) → (a ≡ v) × (s ≡ t)
same_pair a v s t e = let one : ◌≡◌ {A = Value × ℕ} (a, s) (v, t) = cc in (ap (λ (p : Value × ℕ). p.0) one, ap (λ (p : Value × ℕ). p.1) one)

pub stamps : (history : HistoryValue) (r : ℕ) → IsOpening history.opening → r ≤ length history.entries → (k : Key) (v : Value) (s : ℕ) → given_of (files_at history.opening history.entries r) k ≡ Some (v, s)
    → (s ≤ r) × (values_of (given_of (files_at history.opening history.entries s)) k ≡ Some v)
stamps history r opening within (Text name) v s is =
    let files : ℕ → FilesValue = λ n. files_at history.opening history.entries n in
    let both = same_pair _ _ _ _ is in
    let law = stamps_tell_revisions history.opening history.entries r name opening within in
    let now : ℕ → TextValue = λ n. record { text = text_of (files n).rows name; stamp = stamp_of (files n).rows name } in
    let t : ℕ = stamp_of (files r).rows name in
    let texts : text_of (files t).rows name ≡ text_of (files r).rows name = ap (option_and_then (λ (row : Row). row.text)) law.1 in
    let stamped : stamp_of (files t).rows name ≡ stamp_of (files r).rows name = ap (λ (o : Option Row). option_map_or (λ (row : Row). row.stamp) o 0) law.1 in
    let one : values.Text (now t) ≡ v = (λ i. values.Text (record { text = texts i; stamp = stamped i })) ∙ both.0 in
    subst (λ (n : ℕ). (n ≤ r) × (◌≡◌ {A = Option Value} (Some (values.Text (now n))) (Some v))) both.1 (law.0, ap Some one)
stamps history r opening within Names v s is =
    let files : ℕ → FilesValue = λ n. files_at history.opening history.entries n in
    let both = same_pair _ _ _ _ is in
    let law = names_stamp_tells_a_revision history.opening history.entries r opening within in
    let t : ℕ = (files r).names_stamp in
    let one : values.Names (names_there (files t).rows) ≡ v = ap values.Names (same_names (files t).rows (files r).rows law.2) ∙ both.0 in
    subst (λ (n : ℕ). (n ≤ r) × (◌≡◌ {A = Option Value} (Some (values.Names (names_there (files n).rows))) (Some v))) both.1 (law.0, ap Some one)
stamps history r opening within (Tokens name) v s is = cc
stamps history r opening within (Chunks name) v s is = cc
stamps history r opening within (Element name n) v s is = cc
stamps history r opening within Index v s is = cc
