-- The instances of interfaces of a row (own).
use Rattle.std.specs.Prelude.{ℕ, List, Option, Some, None}
use Rattle.sve_table.specs.Tables.{item_of}
use Rattle.sve_connection_rows.specs.declared.around.Instance.{Instance}

abbrev pub instance_name : Instance → List ℕ
instance_name i = i.name

abbrev pub interface_of : Option Instance → Option (List ℕ)
interface_of (Some i) = Some i.interface
interface_of None = None

abbrev pub interface_named : List Instance → List ℕ → Option (List ℕ)
interface_named instances n = interface_of (item_of instance_name n instances)
