use Rattle.std.proofs.Common.{◌≡◌, ◌++◌, ◌∙◌, false, true, ap, rules}
use Rattle.sve_macro.proofs.PieceNumbers.{given_gathered, none_gathered}
use Rattle.sve_macro.proofs.piece_numbers.push_given.Goals as goal

pub returns-in_ok-extend_from_slice : goal.returns-in_ok-extend_from_slice
returns-in_ok-extend_from_slice c =
    let yes : c.brings.result ≡ true = search rules in
    given_gathered c.args.numbers.now c.args.actuals.now c.args.place c.args.gathered.now.items c.extend_from_slice.new.self.items c.index.result.now c.requires.before (c.brings.ensures.known yes) c.index.ensures
    (c.in_ok-extend_from_slice.ensures.items ∙ ap (λ xs. c.args.gathered.now.items ++ xs) c.as_slice.ensures.value)

pub returns-else-brings : goal.returns-else-brings
returns-else-brings c =
    let no : c.brings.result ≡ false = search rules in
    none_gathered c.args.numbers.now c.args.actuals.now c.args.place c.args.gathered.now.items c.requires.before (c.brings.ensures.missing no)
