use Rattle.std.proofs.Common.{◌∙◌, Some, refl, ap, sym}
use Rattle.std.specs.Prelude.{option_map}
use Rattle.sve_told.specs.Seen.{seen_told, seen_halted}
use Rattle.sve_told.proofs.Seen.{halted_seen, matches_seen}
use Rattle.sve_store.specs.Made.{Needs}
use Rattle.sve_key.specs.declared.key.Key.TheVariants.{Text}
use Rattle.sve_make.specs.Make.{read_text, expansion_made}
use Rattle.sve_kinds.specs.Asked.{name_of}
use Rattle.sve_kinds.proofs.Calls.{if_ok, on_ok, not_halted}
use Rattle.sve_kinds.proofs.expanding.Seen.expand.Goals as goal

pub returns-clause-made : goal.returns-clause-made
returns-clause-made g c = λ told h.
    if_ok c.prep.result (λ e is. (is.last, ap expansion_made is.done, is.text))
    (c.prep.ensures.done (seen_told Text read_text told) (λ name text at. ap (option_map (read_text name)) (h (Text name) at.0 at.1) ∙ ap Some (sym at.2)))

pub returns-clause-calm : goal.returns-clause-calm
returns-clause-calm g c = λ none.
    on_ok c.prep.result (not_halted (g.F.Fetch.halted c.args.self.now.from.now) (g.F.Fetch.halted c.prep.new.texts.from.now) c.prep.ensures.keeps.1.only none) c.prep.ensures.not_halted

pub returns-clause-halted : goal.returns-clause-halted
returns-clause-halted g c = λ told m none j is.
    let q = halted_seen Text name_of (λ name. refl) (g.F.Fetch.halted c.args.self.now.from.now) (g.F.Fetch.halted c.prep.new.texts.from.now) c.prep.ensures.keeps.1.only none j is in
    let at = c.prep.ensures.halted (seen_told Text read_text told) (matches_seen Text read_text told (g.F.Fetch.tells c.args.self.now.from.now) m) (ap (seen_halted name_of) none) q.0 q.2 in
    (at.0, ap expansion_made at.1.1 ∙ ap Needs (sym q.1))
