-- What the imports of a header leave in its scope (IEEE 1800-2017, 26.4).
use Rattle.std.specs.Prelude.{List}
use Rattle.std.specs.List.{fold}
use Rattle.sve_tree.specs.declared.token_word.Word.{Word}
use Rattle.sve_tree.specs.declared.declaration.Import.{Import}
use Rattle.sve_tree.specs.declared.header.Header.{Header}
use Rattle.sve_known.specs.Packages.{Known}
use Rattle.sve_contents.specs.declared.contents.Contents.{Contents}
use Rattle.sve_contents.specs.Imports.{with_items}

abbrev pub with_import : List Known → List Word → Contents → Import → Contents
with_import packages ws c import = with_items packages ws c import.items.items.items

-- one after another
abbrev pub with_header_imports : List Known → List Word → Contents → Header → Contents
with_header_imports packages ws c h = fold (with_import packages ws) c h.imports.items
