use Rattle.std.proofs.Common.{◌∙◌, ap, ◌≡◌, Option, List, ℕ, IfOk, take, subst}
use Rattle.sve_directive.specs.Define.{name_of}
use Rattle.sve_directive.proofs.NameLemmas.{cut_is}
use Rattle.sve_directive.proofs.name.cut_name.Goals as goal

pub returns : goal.returns
returns c =
    let P : Option (List ℕ) → Type 0 = λ x. IfOk c.name_of_bytes.result (λ o. o ≡ x) in
    subst P (ap (λ k. name_of (take k c.args.bytes.now)) c.min.ensures ∙ cut_is c.args.bytes.now) c.name_of_bytes.ensures
