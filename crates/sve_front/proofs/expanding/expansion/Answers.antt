use Rattle.std.proofs.Common.{ap, sym, ◌∙◌, Some}
use Rattle.sve_front.specs.Expansions.{told_by, state_in, written}
use Rattle.sve_front.proofs.expanding.expansion.Goals as goal

pub returns-in-Ok : goal.returns-in-Ok
returns-in-Ok c =
    let done = c.in-Ok.ensures.done (told_by c.args.files.now.rows) (λ name text told. ap Some (sym told)) in
    done.text ∙ sym (ap (λ o. written (state_in o)) done.done)
