-- The names so far, and behind them those that are left, are all of them.
use Rattle.std.proofs.Common.{◌≡◌, drop}
use Rattle.sve_used.specs.Used.{name_used}
use Rattle.sve_scoped.specs.Known.{told_in}
use Rattle.sve_data.specs.Declarators.{initialized_behind}
use Rattle.sve_data.proofs.declarators.initialized_behind.Given as goal

abbrev pub invariant-declarators : goal.invariant-declarators
invariant-declarators l = initialized_behind (told_in l.text.packages.now l.text.words.now) (name_used l.text.packages.now l.text.words.now) l.text.words.now l.kind l.ty l.row.separators.items l.end l.place l.passed (drop l.place l.row.items.items) ≡ initialized_behind (told_in l.text.packages.now l.text.words.now) (name_used l.text.packages.now l.text.words.now) l.text.words.now l.kind l.ty l.row.separators.items l.end 0 l.fn.passed l.row.items.items
