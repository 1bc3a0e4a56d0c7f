-- Parameters in order, found by their names (own).
use Rattle.std.specs.Prelude.{ℕ, List, [], ◌∷◌, ◌++◌, length, slice_get, Option, Some, None}
use Rattle.sve_table.specs.Tables.{item_of, with_item}
use Rattle.sve_resolve.specs.declared.known.Entry.{Entry}
use Rattle.sve_resolve.specs.declared.known.Known.{Known}
use Rattle.sve_resolve.specs.declared.known.Resolved.{Resolved}

abbrev pub entry_name : Entry → List ℕ
entry_name e = e.name

-- of two of one name the first is found
abbrev pub with_resolved : Known → Resolved → Known
with_resolved k r = record { names = with_item entry_name k.names (record { name = r.name; place = length k.parameters }); parameters = k.parameters ++ r ∷ [] }

abbrev pub resolved_at : Known → Option Entry → Option Resolved
resolved_at k None = None
resolved_at k (Some e) = slice_get k.parameters e.place

abbrev pub resolved_of : Known → List ℕ → Option Resolved
resolved_of k name = resolved_at k (item_of entry_name name k.names)
