use Rattle.std.proofs.Common.{refl, sym, ◌∙◌}
use Rattle.sve_token.specs.declared.kind.Kind.TheVariants as is_kind
use Rattle.sve_token.proofs.SpelledSo.{spelled_at, spelled_on, spelled_past, within_keywords}
use Rattle.sve_token.proofs.lookup.beside.Goals as goal

pub returns-then-eq : goal.returns-then-eq
returns-then-eq c = spelled_at c.args.kinds.now c.args.words.now c.loop-i.i _ _ c.args.bytes.now c.requires c.loop-i-test.true c.loop-i.invariant (sym c.eq.ensures ∙ c.if-eq.true)

pub loop-i-preserved : goal.loop-i-preserved
loop-i-preserved c = spelled_on c.args.kinds.now c.args.words.now c.loop-i.i is_kind.Identifier _ c.args.bytes.now c.requires c.loop-i-test.true c.loop-i.invariant (sym c.eq.ensures ∙ c.if-eq.false)

pub returns : goal.returns
returns c = spelled_past c.args.kinds.now c.args.words.now c.loop-i.i c.args.bytes.now c.requires c.loop-i-test.false c.loop-i.invariant

pub bounds-kinds-i : goal.bounds-kinds-i
bounds-kinds-i c = within_keywords c.args.kinds.now c.args.words.now c.loop-i.i c.requires c.loop-i-test.true

pub loop-i-init : goal.loop-i-init
loop-i-init c = refl
