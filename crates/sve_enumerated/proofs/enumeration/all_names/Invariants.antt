-- The names so far, and behind them those that are left, are all of them.
use Rattle.std.proofs.Common.{◌≡◌, drop}
use Rattle.sve_enumerated.specs.Names.{names_behind}
use Rattle.sve_enumerated.proofs.enumeration.all_names.Given as goal

abbrev pub invariant-names : goal.invariant-names
invariant-names l = names_behind l.words l.ty l.values l.written.names.separators.items l.written.closing l.place l.naming (drop l.place l.written.names.items.items) ≡ names_behind l.words l.ty l.values l.written.names.separators.items l.written.closing 0 l.fn.naming l.written.names.items.items
