use Rattle.std.proofs.Common.{◌≡◌, ℕ, List, true, sym, ap, subst, ◌∙◌}
use Rattle.std.specs.Prelude.{is_some}
use Rattle.std.specs.Arc.{arc_value}
use Rattle.sve_bytes.specs.FileName.{is_file_name_of}
use Rattle.sve_listing.specs.Files.{none}
use Rattle.sve_key.specs.declared.key.Key.TheVariants.{Text}
use Rattle.sve_key.specs.declared.value.Value.{Value}
use Rattle.sve_key.specs.Values.{text_in_value}
use Rattle.sve_kinds.proofs.Calls.{if_ok}
use Rattle.sve_answer.specs.Answers.{text_by, expanded_by, expand_lines}
use Rattle.sve_answer.proofs.Expanding.{named, both}
use Rattle.sve_answer.proofs.answering.expand_answer.Goals as goal

pub returns-clause-answered : goal.returns-clause-answered
returns-clause-answered g c = λ table follows.
    let bytes = c.args.name.now in
    let name = c.in-Some.name in
    let n = named (is_file_name_of bytes) bytes name (sym c.in_ok-name.ensures ∙ c.in-Some.is) in
    let some : is_some (text_by table name) ≡ true =
    ap (λ (v : Value). is_some (text_in_value v).text) (sym (c.deref.ensures ∙ follows (Text name) 0 (arc_value c.in_ok-value.value) c.in_ok-value.ensures.found)) ∙ sym c.is_there.ensures ∙ c.if-not-is_there.false in
    let valid : is_file_name_of name ≡ true = ap is_file_name_of (sym n.1) ∙ n.0 in
    let whole : expanded_by table name ≡ expand_lines table bytes =
    subst (λ (l : List ℕ). expanded_by table name ≡ expand_lines table l) (sym n.1) (both (is_file_name_of name) (is_some (text_by table name)) (expanded_by table name) none valid some) in
    if_ok c.expanded_answer.result (λ lines is. is ∙ whole)
    (c.expanded_answer.ensures.answered table (λ k f v told. follows k f v ((c.in_ok-value.ensures.passes.same k f v).1 told)))
