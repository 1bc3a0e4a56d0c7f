use Rattle.std.proofs.Common.{sym, ap, ◌∙◌}
use Rattle.std.proofs.lemmas.Result.{on_ok_weaker}
use Rattle.sve_directive.specs.declared.directive.SourceText.{SourceText}
use Rattle.sve_prep.specs.State.{stand_for}
use Rattle.sve_prep.specs.Uses.{source_text}
use Rattle.sve_prep.specs.View.{view}
use Rattle.sve_prep.proofs.work.Work.write_source_text.Goals as goal

pub returns-in-File : goal.returns-in-File
returns-in-File c = on_ok_weaker c.write_file.result (λ h. λ asked. h asked ∙ ap (λ (x : SourceText). stand_for c.args.count (source_text x (view c.args.self.now asked)) (view c.args.self.now asked)) (sym c.in-File.is)) c.write_file.ensures

pub returns-in-Line : goal.returns-in-Line
returns-in-Line c = on_ok_weaker c.write_line.result (λ h. λ asked. h asked ∙ ap (λ (x : SourceText). stand_for c.args.count (source_text x (view c.args.self.now asked)) (view c.args.self.now asked)) (sym c.in-Line.is)) c.write_line.ensures
