use Rattle.std.proofs.Common.{◌<◌, length, refl, subst, arith}
use Rattle.std.proofs.lemmas.List.{get_or_default}
use Rattle.sve_macro.specs.declared.template.Piece.{Piece}
use Rattle.sve_macro.specs.Numbers.{WaitsFor}
use Rattle.sve_macro.proofs.PieceNumbers.{always_more, listed_more}
use Rattle.sve_macro.proofs.piece_numbers.push_number.Goals as goal

pub returns-in_ok-push_at-in-Some : goal.returns-in_ok-push_at-in-Some
returns-in_ok-push_at-in-Some c =
    listed_more c.args.formals.now c.args.pieces.now c.args.number c.in-Some.place c.args.numbers.now (record { always = c.args.numbers.now.always; by_formal = c.push_at.new.lists }) c.requires.before c.requires.within
    (let known : c.in-Some.place < length c.args.formals.now = c.in-Some.ensures.known in omega (arith, c.requires.before.places))
    refl c.in_ok-push_at-in-Some.ensures.count c.in_ok-push_at-in-Some.ensures.added c.in_ok-push_at-in-Some.ensures.others (λ d. subst (λ (p : Piece). WaitsFor c.args.formals.now p c.in-Some.place)
    (get_or_default c.args.pieces.now c.args.number _ d c.requires.within) c.in-Some.ensures.waits)

pub returns-in_ok-push-in-None : goal.returns-in_ok-push-in-None
returns-in_ok-push-in-None c =
    always_more c.args.formals.now c.args.pieces.now c.args.number c.args.numbers.now (record { always = c.push.new.self; by_formal = c.args.numbers.now.by_formal }) c.requires.before c.requires.within c.in_ok-push-in-None.ensures.items refl
