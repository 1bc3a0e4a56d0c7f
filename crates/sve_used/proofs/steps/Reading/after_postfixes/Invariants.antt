-- The name so far is what the postfixes so far make of its beginning.
use Rattle.std.proofs.Common.{◌≡◌, take}
use Rattle.std.specs.List.{fold}
use Rattle.sve_scoped.specs.Known.{told_in}
use Rattle.sve_used.specs.Steps.{after_postfix}
use Rattle.sve_used.proofs.steps.Reading.after_postfixes.Given as goal

abbrev pub invariant-postfixes : goal.invariant-postfixes
invariant-postfixes l = l.reading ≡ fold (after_postfix (told_in l.text.packages.now l.text.words.now l.contents) l.text.words.now) l.fn.self (take l.postfix-index l.postfixes)
