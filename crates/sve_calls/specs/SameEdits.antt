-- The table of a session all of whose commits have the same edits.
use Rattle.std.specs.Prelude.{List}
use Rattle.sve_text.specs.declared.edit.Edit.{Edit}
use Rattle.sve_history.specs.Histories.{Table}

abbrev pub same_edits : List Edit → Table
same_edits edits client command = edits
