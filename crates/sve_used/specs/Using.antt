-- A scope in which names are used, one after another (own).
use Rattle.sve_use.specs.Use.{Use}
use Rattle.sve_used.specs.declared.using.Using.{Using}
use Rattle.sve_used.specs.Used.{name_used}

abbrev pub used_after : Using → Use → Using
used_after s u = record s { contents = name_used s.text.packages.now s.text.words.now s.contents u }
