use Rattle.std.proofs.Common.{List, ℕ, ap, ◌∙◌, ◌++◌}
use Rattle.sve_origin.specs.Origins.{Origin, marked}
use Rattle.sve_origin.proofs.Covers.{grows_on, grows_by_segment, chosen_true, next_along}
use Rattle.sve_origin.proofs.output.Output.push.Goals as goal

pub invariant_of-self-then-last_goes_on : goal.invariant_of-self-then-last_goes_on
invariant_of-self-then-last_goes_on c =
    let b = c.self.inside.bytes in let ss = c.self.inside.segments in
    let o : Origin = record { file = c.args.file.now; offset = c.args.offset; copied = c.args.copied } in
    (grows_on ss.items b.items _ c.args.piece.now o c.args.self.now c.self.invariant c.in_ok-extend_from_slice.ensures.items (next_along _ _ _ _ o (c.last_goes_on.ensures c.if-last_goes_on.true) c.as_slice.ensures.value (c.len-before.ensures ∙ b.ok.0)) c.self.view_is c.requires.room c.requires.offsets).covered

pub returns-then-last_goes_on-clause-text : goal.returns-then-last_goes_on-clause-text
returns-then-last_goes_on-clause-text c =
    let b = c.self.inside.bytes in let ss = c.self.inside.segments in
    let o : Origin = record { file = c.args.file.now; offset = c.args.offset; copied = c.args.copied } in
    (grows_on ss.items b.items _ c.args.piece.now o c.args.self.now c.self.invariant c.in_ok-extend_from_slice.ensures.items (next_along _ _ _ _ o (c.last_goes_on.ensures c.if-last_goes_on.true) c.as_slice.ensures.value (c.len-before.ensures ∙ b.ok.0)) c.self.view_is c.requires.room c.requires.offsets).text

pub invariant_of-self-else-is_err : goal.invariant_of-self-else-is_err
invariant_of-self-else-is_err c =
    (grows_by_segment _ _ _ _ _ _ c.args.self.now c.self.invariant c.in_ok-extend_from_slice-2.ensures.items (chosen_true _ _ _ _ c.if-is_err.ensures.negation c.push.ensures.items) (c.len-before.ensures ∙ c.self.inside.bytes.ok.0) c.self.view_is c.requires.some c.requires.room c.requires.offsets).covered

pub returns-clause-text : goal.returns-clause-text
returns-clause-text c =
    (grows_by_segment _ _ _ _ _ _ c.args.self.now c.self.invariant c.in_ok-extend_from_slice-2.ensures.items (chosen_true _ _ _ _ c.if-is_err.ensures.negation c.push.ensures.items) (c.len-before.ensures ∙ c.self.inside.bytes.ok.0) c.self.view_is c.requires.some c.requires.room c.requires.offsets).text
    ∙ ap (λ (f : List ℕ). c.args.self.now ++ marked c.args.piece.now (record { file = f; offset = c.args.offset; copied = c.args.copied })) c.in_ok-file.ensures
