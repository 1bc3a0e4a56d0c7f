use Rattle.sve_project.proofs.Cuts.{is_project}
use Rattle.sve_project.proofs.project.project_of.Goals as goal

pub returns : goal.returns
returns c =
    is_project c.args.files.now.rows c.args.units _ c.args.diags.items c.in_ok-index.index _ c.args.elements.now c.requires.units c.requires.elements c.requires.diags c.units.view_is c.in_ok-new.ensures.ok c.in_ok-index.ensures.index
