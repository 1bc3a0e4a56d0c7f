-- The arguments so far, and behind them those that are left, are all of them.
use Rattle.std.proofs.Common.{◌≡◌, drop}
use Rattle.sve_data.specs.Known.{told_in}
use Rattle.sve_formal_data.specs.Formals.{formals_behind}
use Rattle.sve_formal_data.proofs.formals.formals_behind.Given as goal

abbrev pub invariant-formals : goal.invariant-formals
invariant-formals l = formals_behind (told_in l.text.packages.now l.text.words.now) l.text.words.now l.written.formals.separators.items l.written.closing l.place l.typing (drop l.place l.written.formals.items.items) ≡ formals_behind (told_in l.text.packages.now l.text.words.now) l.text.words.now l.written.formals.separators.items l.written.closing 0 l.fn.typing l.written.formals.items.items
