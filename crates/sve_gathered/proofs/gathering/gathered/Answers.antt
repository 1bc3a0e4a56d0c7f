use Rattle.std.proofs.Common.{◌≡◌, [], ap, sym, subst, ◌∙◌}
use Rattle.std.specs.Prelude.{AllPairs}
use Rattle.std.specs.Arc.{arc_value}
use Rattle.std.specs.List.{flat_map}
use Rattle.sve_text.specs.Rows.{name_cmp, IsInOrder}
use Rattle.sve_text.specs.Files.{FilesValue, opening_rows}
use Rattle.sve_text.proofs.Opening.{opening_files_are_there}
use Rattle.sve_ordered.specs.Ordered.{ordered}
use Rattle.sve_key.specs.declared.key.Key.TheVariants.{Names}
use Rattle.sve_key.specs.Values.{names_in_value}
use Rattle.sve_kinds.specs.Passes.{passes_on}
use Rattle.sve_gathered.specs.Gathered.{file_by}
use Rattle.sve_gathered.proofs.Asking.{names_input}
use Rattle.sve_gathered.proofs.Names.{Differ, Rise, names_rise, names_differ}
use Rattle.sve_gathered.proofs.SoFar.{files_are, some_files, texts_fit}
use Rattle.sve_gathered.proofs.gathering.gathered.Goals as goal

pub of-requires-clause-distinct_names : goal.of-requires-clause-distinct_names
of-requires-clause-distinct_names g c =
    names_differ c.items.result.now c.in_ok-files.files.items (some_files (g.F.Fetch.tells c.ask.new.from) c.items.result.now c.in_ok-files.files.items c.in_ok-files.ensures.told)
    (subst Rise (sym (c.items.ensures ∙ c.in_ok-names.ensures)) (names_rise c.names.result.now))

pub of-requires-clause-texts_in_limit : goal.of-requires-clause-texts_in_limit
of-requires-clause-texts_in_limit g c = texts_fit (g.F.Fetch.tells c.ask.new.from) c.items.result.now c.in_ok-files.files.items c.in_ok-files.ensures.told

pub returns-in_err-files-clause-passes : goal.returns-in_err-files-clause-passes
returns-in_err-files-clause-passes g c = passes_on (g.met.F.Fetch.keeps_on c.args.from.now c.ask.new.from c.files_of.new.from) (names_input c.in_ok-value.ensures.passes) c.in_err-files.ensures.passes

pub returns-clause-passes : goal.returns-clause-passes
returns-clause-passes g c = passes_on (g.met.F.Fetch.keeps_on c.args.from.now c.ask.new.from c.files_of.new.from) (names_input c.in_ok-value.ensures.passes) c.in_ok-files.ensures.passes

pub returns-clause-rows : goal.returns-clause-rows
returns-clause-rows g c = λ table follows.
    let told : c.items.result.now ≡ ordered name_cmp (names_in_value (table Names 0)) =
    c.items.ensures ∙ c.in_ok-names.ensures ∙ ap (ordered name_cmp) (c.names.ensures ∙ ap names_in_value (c.deref.ensures ∙ follows Names 0 (arc_value c.in_ok-value.value) c.in_ok-value.ensures.found)) in
    let are = files_are (g.F.Fetch.tells c.ask.new.from) table (λ k f v is. follows k f v ((c.in_ok-value.ensures.passes.same k f v).1 is)) c.items.result.now c.in_ok-files.files.items c.in_ok-files.ensures.told in
    ap (λ (f : FilesValue). f.rows) c.in_ok-of.ensures.files ∙ ap (opening_rows []) (are ∙ ap (flat_map (file_by table)) told)

pub returns-clause-in_order : goal.returns-clause-in_order
returns-clause-in_order g c =
    let differ : AllPairs Differ c.in_ok-files.files.items = names_differ c.items.result.now c.in_ok-files.files.items (some_files (g.F.Fetch.tells c.ask.new.from) c.items.result.now c.in_ok-files.files.items c.in_ok-files.ensures.told)
    (subst Rise (sym (c.items.ensures ∙ c.in_ok-names.ensures)) (names_rise c.names.result.now)) in
    subst IsInOrder (sym (ap (λ (f : FilesValue). f.rows) c.in_ok-of.ensures.files)) ((opening_files_are_there c.in_ok-files.files.items differ).2)
