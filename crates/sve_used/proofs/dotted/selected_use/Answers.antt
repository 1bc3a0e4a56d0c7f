-- What is wrong with the first name, and the name that is kept, stand in the scope behind it.
use Rattle.std.proofs.Common.{◌≡◌, ℕ, Bool, IfOk, Option, ap, subst, ◌∙◌}
use Rattle.sve_use.specs.Use.{applied}
use Rattle.sve_contents.specs.declared.contents.Contents.{Contents}
use Rattle.sve_scoped.specs.Known.{told_in}
use Rattle.sve_used.specs.Used.{dotted_use, dotted_where, first_found, used_as, wrong_dotted}
use Rattle.sve_used.proofs.dotted.selected_use.Goals as goal

pub returns : goal.returns
returns c =
    let packages = c.args.text.packages.now in
    let ws = c.args.text.words.now in
    let contents = c.args.contents in
    let token = c.args.token in
    let found = first_found packages ws contents token in
    let fault = c.in_ok-first.ensures.fault ∙ ap (λ (member : Option ℕ). wrong_dotted ws member found) c.first_selected.ensures in
    let name = c.in_ok-name.ensures ∙ ap (λ (kept : Bool). dotted_where kept (told_in packages ws contents) ws token (applied c.args.selects.now)) c.in_ok-first.ensures.hierarchical in
    let used : used_as ws contents token c.in_ok-first.first.fault c.in_ok-name.name ≡ dotted_use packages ws contents token (applied c.args.selects.now) = λ k. used_as ws contents token (fault k) (name k) in
    subst (λ (d : Contents). IfOk c.used_as.result (λ e. e ≡ d)) used c.used_as.ensures
