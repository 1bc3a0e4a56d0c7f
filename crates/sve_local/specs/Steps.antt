-- What statements do to the scope in which they stand (IEEE 1800-2017, 9.3.1, clause 12 and 23.9).
use Rattle.sve_env.specs.Told.{Told}
use Rattle.sve_tree.specs.declared.token_word.Word.{Word}
use Rattle.std.specs.Prelude.{List}
use Rattle.sve_use.specs.Use.{Use}
use Rattle.sve_statement_use.specs.Steps.{Closes, DeclaresData, DeclaresIndices, DeclaresLoop, DeclaresNamed, DeclaresNamedLoop, DeclaresParameters, DeclaresType, DeclaresVariables, Local, Opens, Step, happens}
use Rattle.sve_known.specs.Packages.{Known}
use Rattle.sve_contents.specs.declared.contents.Contents.{Contents}
use Rattle.sve_contents.specs.Nested.{entered, left}
use Rattle.sve_declare.specs.Known.{told_in}
use Rattle.sve_declare.specs.Parameters.{with_parameters}
use Rattle.sve_declare.specs.Typedefs.{with_typedef}
use Rattle.sve_loop_data.specs.Used.{name_used}
use Rattle.sve_loop_data.specs.Declarations.{with_data, with_named_data, with_variables}
use Rattle.sve_loop_data.specs.Loops.{with_indices, with_loop, with_named_loop}

-- where this is known in the scope, as far as its text was read, and where uses of names leave this
module _ (known : Contents → Told) (used : Contents → Use → Contents) (ws : List Word) where
  abbrev pub done : Contents → Local → Contents
  done c (Opens token) = entered c
  done c Closes = left c
  done c (DeclaresData d) = with_data known used ws c d
  done c (DeclaresVariables d) = with_variables known used ws c d
  done c (DeclaresNamed d) = with_named_data known used ws c d
  done c (DeclaresParameters d) = with_parameters known ws c d
  done c (DeclaresType d) = with_typedef known ws c d
  done c (DeclaresLoop variables) = with_loop known used ws c variables
  done c (DeclaresNamedLoop name selects declarator value) = with_named_loop known used ws c name selects.items declarator value
  done c (DeclaresIndices array names) = with_indices ws c names

  abbrev pub stepped : Contents → Step → Contents
  stepped c step = happens used done c step

-- where these packages are known
abbrev pub stepped_in : List Known → List Word → Contents → Step → Contents
stepped_in packages ws = stepped (told_in packages ws) (name_used packages ws) ws
