-- What declarations whose types and values are constants make of a scope (own): the packages that are known, the words of the chunk,
-- the scope as far as its text is read, and the declaration.
use Rattle.std.specs.Prelude.{List}
use Rattle.sve_tree.specs.declared.declaration.Parameters.{Parameters}
use Rattle.sve_tree.specs.declared.declaration.Typedef.{Typedef}
use Rattle.sve_tree.specs.declared.statement.Func.{Func}
use Rattle.sve_tree.specs.declared.token_word.Word.{Word}
use Rattle.sve_known.specs.Packages.{Known}
use Rattle.sve_contents.specs.declared.contents.Contents.{Contents}

pub record Readings : Type 0 where
  pub parameters : List Known → List Word → Contents → Parameters → Contents
  pub typedef : List Known → List Word → Contents → Typedef → Contents
  pub function : List Known → List Word → Contents → Func → Contents
