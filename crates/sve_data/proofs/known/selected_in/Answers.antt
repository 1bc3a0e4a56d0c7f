-- What is said of the type where it stands by itself holds of what is handed on.
use Rattle.std.proofs.Common.{◌≡◌, Result, Ok, Err, IfOk, subst}
use Rattle.sve_env.specs.Told.{Told}
use Rattle.sve_type_of.specs.TypeOf.{IsTyped}
use Rattle.sve_type_of.specs.Selected.{selected}
use Rattle.sve_scoped.specs.Known.{told_in}
use Rattle.sve_data.specs.Declarations.{type_selected}
use Rattle.sve_data.proofs.known.selected_in.Goals as goal

handed_on : (X E F : Type 0) (P : X → Type 0) (outcome : Result X E) (r : Result X F) → IfOk outcome P → IfOk r (λ x. outcome ≡ Ok x) → IfOk r P
handed_on X E F P outcome (Ok x) h e = subst (λ (o : Result X E). IfOk o P) e h
handed_on X E F P outcome (Err f) h e = tt

pub returns : goal.returns
unfolding type_selected
returns c =
    let told : Told = told_in c.args.text.packages.now c.args.text.words.now c.args.contents.now in
    handed_on _ _ _ (λ t. IsTyped t told (type_selected told c.args.name c.args.selects.now)) c.selected_type.result c.ended.result
    (subst (λ (m : Told). IfOk c.selected_type.result (λ t. IsTyped t m (selected m c.args.name c.args.selects.now))) c.around-env.ensures c.selected_type.ensures.meaning)
    c.ended.ensures
