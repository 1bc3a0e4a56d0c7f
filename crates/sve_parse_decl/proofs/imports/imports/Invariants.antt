use Rattle.std.proofs.Common.{◌≤◌, ◌-◌, length}
use Rattle.sve_grammar.specs.Declarations.{import_declaration, imports}
use Rattle.sve_grammar.specs.Reading.{at_depth}
use Rattle.sve_grammar.proofs.Loops.{Keeps}
use Rattle.sve_tree.specs.Shape.{repeated_tree}
use Rattle.sve_tree.specs.Declarations.{import_tree}
use Rattle.sve_parse_decl.proofs.imports.imports.Given as goal

abbrev pub invariant-turns : goal.invariant-turns
invariant-turns l = Keeps l.tokens l.depth import_declaration (repeated_tree import_tree l.items.items) l.at (at_depth l.tokens l.depth imports l.from) × (l.from ≤ l.at)

abbrev pub decreases-turns : goal.decreases-turns
decreases-turns l = length l.tokens - l.at
