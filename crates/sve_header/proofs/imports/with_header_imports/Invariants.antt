-- The scope so far is what the imports so far make of the first.
use Rattle.std.proofs.Common.{◌≡◌, take}
use Rattle.std.specs.List.{fold}
use Rattle.sve_header.specs.Imports.{with_import}
use Rattle.sve_header.proofs.imports.with_header_imports.Given as goal

abbrev pub invariant-imports : goal.invariant-imports
invariant-imports l = l.contents ≡ fold (with_import l.text.packages.now l.text.words.now) l.fn.contents (take l.import-index l.header.imports.items)
