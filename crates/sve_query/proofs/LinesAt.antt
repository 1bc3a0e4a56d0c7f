-- What a query may be answered over the values of all keys at some files, it may be answered at the files.
use Rattle.std.specs.Prelude.{ℕ, ◌≡◌, ◌&&◌, is_some, List, Some, None, if◌then◌else◌, refl}
use Rattle.std.proofs.Common.{ap, ◌∙◌}
use Rattle.sve_bytes.specs.FileName.{is_file_name_of}
use Rattle.sve_origin.specs.Origins.{values as bytes_of}
use Rattle.sve_prep.specs.Told.{Told}
use Rattle.sve_prep.specs.Expansion.{expand, fresh}
use Rattle.sve_text.specs.Files.{FilesValue}
use Rattle.sve_text.specs.Rows.{text_of, stamp_of}
use Rattle.sve_index.specs.declared.whole.Index.{Index}
use Rattle.sve_front.specs.Expansions.{told_by, state_in}
use Rattle.sve_listing.specs.Files.{none, text_lines, expanded_lines}
use Rattle.sve_listing.specs.Lists.{tops_lines}
use Rattle.sve_command.specs.declared.commands.Query.{Query}
use Rattle.sve_command.specs.declared.commands.Query.TheVariants as asks
use Rattle.sve_store.specs.declared.answer.Answer.{Answer}
use Rattle.sve_store.specs.declared.answer.Answer.TheVariants.{Done}
use Rattle.sve_store.specs.Made.{values_of}
use Rattle.sve_store.specs.Values.{IsTable, IsAnswer}
use Rattle.sve_key.specs.KeyOrder.{key_cmp}
use Rattle.sve_key.specs.declared.key.Key.{Key}
use Rattle.sve_key.specs.declared.key.Key.TheVariants as keys
use Rattle.sve_key.specs.declared.value.Value.{Value}
use Rattle.sve_key.specs.Parts.{TextValue}
use Rattle.sve_key.specs.Values.{text_in_value}
use Rattle.sve_make.specs.Make.{make_of, given_of}
use Rattle.sve_make.proofs.Values.{given_value}
use Rattle.sve_answer.specs.Answers.{texts_by}
use Rattle.sve_gathered.specs.Gathered.{rows_by}
use Rattle.sve_gathered.proofs.AtFiles.{texts_are, names_are}
use Rattle.sve_query.specs.Answering.{answers_by}
use Rattle.sve_query.specs.AnswersAt.{Answers, IsElaborated}
use Rattle.sve_query.proofs.Elaborated.{of_the_same}
use Rattle.sve_query.proofs.SameFiles.{index_same}

module _ (files : FilesValue) (table : Key → ℕ → Value) (is : IsTable key_cmp (values_of (given_of files)) make_of table) where
  text_is : (name : List ℕ) → text_in_value (table (keys.Text name) 0) ≡ record { text = text_of files.rows name; stamp = stamp_of files.rows name }
  text_is name = ap text_in_value (given_value files (keys.Text name) 0 (table (keys.Text name) 0) _ refl (is (keys.Text name) 0))

  told_is : texts_by table ≡ told_by files.rows
  told_is = λ i name. Some ((text_is name i).text)

  same : (q : Query) (budget : ℕ) (answer : Answer) → IsElaborated (rows_by table) q budget answer → IsElaborated files.rows q budget answer
  same = of_the_same (rows_by table) files.rows (texts_are files table is) (names_are files table is)

  may_be : (q : Query) (budget : ℕ) (answer : Answer) → answers_by table q budget answer → Answers files.rows q budget answer
  may_be (asks.File name) budget answer e = e ∙ ap (λ (t : TextValue). Done (if is_file_name_of name then text_lines t.stamp t.text else none)) (text_is name)
  may_be (asks.Expand name) budget answer e =
      let one : TextValue → Told → Answer = λ t told. Done (if is_file_name_of name && is_some t.text then expanded_lines (bytes_of (state_in (expand told fresh None name)).out) else none) in
      e ∙ (λ i. one (text_is name i) (told_is i))
  may_be asks.Tops budget answer e = e ∙ ap (λ (index : Index). Done (tops_lines index.tops)) (index_same (rows_by table) files.rows (texts_are files table is) (names_are files table is))
  may_be (asks.Instance path) budget answer e = same (asks.Instance path) budget answer e
  may_be asks.Tree budget answer e = same asks.Tree budget answer e
  may_be (asks.TypeOf path name) budget answer e = same (asks.TypeOf path name) budget answer e
  may_be (asks.Param path name) budget answer e = same (asks.Param path name) budget answer e
  may_be (asks.Resolve path name) budget answer e = same (asks.Resolve path name) budget answer e
  may_be asks.Diagnostics budget answer e = same asks.Diagnostics budget answer e

pub answers_at : (files : FilesValue) (query : Query) (budget : ℕ) (answer : Answer) → IsAnswer key_cmp (values_of (given_of files)) make_of answers_by query budget answer → Answers files.rows query budget answer
answers_at files query budget answer (table, is, may) = may_be files table is query budget answer may
