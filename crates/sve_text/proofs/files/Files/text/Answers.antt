use Rattle.std.proofs.Common.{◌≡◌, Some, sym, subst, rules}
use Rattle.std.specs.Prelude.{IfSome}
use Rattle.sve_text.specs.Rows.{text_of, IsInLimit}
use Rattle.sve_text.specs.Tree.{rows_in}
use Rattle.sve_text.proofs.Puts.{text_of_in_limit}
use Rattle.sve_text.proofs.files.Files.text.Goals as goal

pub returns-in-Some-clause-in_limit : goal.returns-in-Some-clause-in_limit
returns-in-Some-clause-in_limit c =
    let found : Some c.of_text.result ≡ text_of (rows_in c.self.inside.tree) c.args.name.now = search rules in
    subst (λ t. IfSome t IsInLimit) (sym found) (text_of_in_limit _ c.args.name.now c.self.invariant.1)
