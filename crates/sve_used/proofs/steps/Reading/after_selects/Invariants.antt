-- The name so far is what the selects so far make of its beginning.
use Rattle.std.proofs.Common.{◌≡◌, take}
use Rattle.std.specs.List.{fold}
use Rattle.sve_scoped.specs.Known.{told_in}
use Rattle.sve_used.specs.Steps.{after_select}
use Rattle.sve_used.proofs.steps.Reading.after_selects.Given as goal

abbrev pub invariant-selects : goal.invariant-selects
invariant-selects l = l.reading ≡ fold (after_select (told_in l.text.packages.now l.text.words.now l.contents) l.text.words.now) l.fn.self (take l.select-index l.selects)
