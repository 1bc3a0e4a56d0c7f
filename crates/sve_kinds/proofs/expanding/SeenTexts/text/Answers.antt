use Rattle.std.proofs.Common.{ℕ, List, None, refl, subst}
use Rattle.sve_told.proofs.Seen.{halt_seen}
use Rattle.sve_store.specs.Told.{HaltedAt}
use Rattle.sve_key.specs.declared.key.Key.TheVariants.{Text}
use Rattle.sve_make.specs.Make.{read_text}
use Rattle.sve_kinds.specs.Asked.{name_of}
use Rattle.sve_kinds.proofs.expanding.SeenTexts.text.Goals as goal

pub returns-in_err-value-clause-halted : goal.returns-in_err-value-clause-halted
returns-in_err-value-clause-halted g c = λ other is.
    let tells = g.F.Fetch.tells c.args.self.now.from.now in
    let before = g.F.Fetch.halted c.args.self.now.from.now in
    halt_seen Text name_of (λ q. refl) read_text tells before (g.F.Fetch.halted c.ask.new.from) None None c.args.name.now other c.ask.result c.from_residual-in_err-value.result
    (λ e. (c.from_residual-in_err-value.ensures.0, refl))
    (λ k at. subst (λ (n : List ℕ). HaltedAt tells before (Text n) c.ask.result k) c.in_ok-copy.ensures (c.ask.ensures.at k at))
    is
