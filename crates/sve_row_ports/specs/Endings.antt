-- Which names of rows are those of interfaces and of modules (own): what ends in `f`, and what ends in `d`.
use Rattle.std.specs.Prelude.{ℕ, ◌-◌, List, length, slice_get, nat_eq, Option, Some, None, if◌then◌else◌}
use Rattle.sve_port.specs.declared.interfaces.DesignKind.{DesignKind}
use Rattle.sve_port.specs.declared.interfaces.DesignKind.TheVariants.{Interface, Module}

abbrev pub kind_by_end : Option ℕ → Option DesignKind
kind_by_end None = None
kind_by_end (Some byte) = if nat_eq byte 102 then Some Interface else if nat_eq byte 100 then Some Module else None

abbrev pub kind_of_name : List ℕ → Option DesignKind
kind_of_name name = kind_by_end (slice_get name (length name - 1))
