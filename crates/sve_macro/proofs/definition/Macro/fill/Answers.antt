use Rattle.std.proofs.Common.{ℕ, List, length, subst, sym}
use Rattle.sve_macro.specs.declared.template.Piece.{Piece}
use Rattle.sve_macro.specs.Numbers.{AreNumbered, Gathers}
use Rattle.std.specs.List.Sorted.{IsStrictlyIncreasing}
use Rattle.sve_macro.specs.Substitution.{Formal}
use Rattle.sve_macro.proofs.PieceNumbers.{gathered_covers}
use Rattle.sve_macro.proofs.definition.Macro.fill.Goals as goal

pub fill-requires : goal.fill-requires
fill-requires c =
    let numbers = c.self.inside.numbers in
    let pieces = c.as_slice-pieces.result.now in
    let given = c.as_slice.result.now in
    gathered_covers c.items-text.result.now c.items-formals.result.now c.args.actuals.now pieces numbers given
    (subst (λ (fs : List Formal). AreNumbered fs pieces (length pieces) numbers) (sym c.items-formals.ensures)
    (subst (λ (ps : List Piece). AreNumbered c.self.inside.definition.formals ps (length ps) numbers) (sym c.as_slice-pieces.ensures.value) c.self.invariant.1))
    (subst (λ (ns : List ℕ). Gathers numbers c.args.actuals.now (length c.args.actuals.now) ns) (sym c.as_slice.ensures.value) c.in_ok-numbers.ensures.gathers)
    (subst (λ (ns : List ℕ). IsStrictlyIncreasing ns) (sym c.as_slice.ensures.value) c.in_ok-numbers.ensures.rise)
