-- A scope in which statements are read (own).
use Rattle.sve_use.specs.Use.{Use}
use Rattle.sve_statement_use.specs.Steps.{Local}
use Rattle.sve_declare.specs.Known.{told_in}
use Rattle.sve_loop_data.specs.Used.{name_used}
use Rattle.sve_local.specs.declared.within.Within.{Within}
use Rattle.sve_local.specs.Steps.{done}

abbrev pub used_within : Within → Use → Within
used_within s u = record s { contents = name_used s.text.packages.now s.text.words.now s.contents u }

abbrev pub done_within : Within → Local → Within
done_within s x = record s { contents = done (told_in s.text.packages.now s.text.words.now) (name_used s.text.packages.now s.text.words.now) s.text.words.now s.contents x }
