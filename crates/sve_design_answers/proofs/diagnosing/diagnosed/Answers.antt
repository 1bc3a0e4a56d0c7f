-- All that the bodies of a project tell is so of its design.
use Rattle.std.proofs.Common.{List, ap, ◌∙◌}
use Rattle.sve_diag.specs.declared.diag.Diag.{Diag}
use Rattle.sve_diag.specs.declared.diag.Note.{Note}
use Rattle.sve_index.specs.declared.whole.Index.{Index}
use Rattle.sve_front.specs.declared.unit.Unit.{Unit}
use Rattle.sve_named.specs.Replies.{design_of}
use Rattle.sve_diagnostics.specs.Diagnostics.{diagnostics}
use Rattle.sve_design_answers.proofs.diagnosing.diagnosed.Goals as goal

pub returns-in-Ok : goal.returns-in-Ok
returns-in-Ok c =
    let p = c.args.project.now in let design = design_of p in
    let texts = c.unit_diags.result.now in let index = c.items.result.now in let packages = c.packages.result.now in
    c.in-Ok.ensures.diagnostics design (λ question answer told. told)
    ∙ ap (λ (us : List Unit). diagnostics us texts index packages design c.args.budget) c.units.ensures.value
    ∙ ap (λ (ds : List Diag). diagnostics p.units ds index packages design c.args.budget) c.unit_diags.ensures
    ∙ ap (λ (ns : List Note). diagnostics p.units p.diags ns packages design c.args.budget) (c.items.ensures ∙ ap (λ (i : Index). i.diags) c.index.ensures)
    ∙ ap (λ ks. diagnostics p.units p.diags p.index.diags ks design c.args.budget) c.packages.ensures
