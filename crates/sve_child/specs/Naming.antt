-- A scope in which the names in connections are used, one after another (own).
use Rattle.sve_use.specs.Use.{Use}
use Rattle.sve_child.specs.declared.connecting.Connecting.{Connecting}
use Rattle.sve_child.specs.Connecting.{connected_use}

abbrev pub connected_after : Connecting → Use → Connecting
connected_after s u = record s { contents = connected_use s.text.packages.now s.text.words.now s.contents u }
