use Rattle.std.proofs.Common.{◌≡◌, Some, sym, rules}
use Rattle.std.specs.Arc.{arc_value}
use Rattle.sve_text.specs.Rows.{text_of}
use Rattle.sve_text.specs.Tree.{rows_in}
use Rattle.sve_text.proofs.Puts.{found_in_limit}
use Rattle.sve_text.proofs.files.Files.shared_text.Goals as goal

pub returns-in_ok-whole-in-Some-text-clause-in_limit :
    goal.returns-in_ok-whole-in-Some-text-clause-in_limit
returns-in_ok-whole-in-Some-text-clause-in_limit c =
    let found : Some (arc_value c.in_ok-whole-in-Some-text.field-0) ≡ text_of (rows_in c.self.inside.tree) c.args.name.now = search rules in
    found_in_limit _ c.args.name.now _ c.self.invariant.1 (sym found)
