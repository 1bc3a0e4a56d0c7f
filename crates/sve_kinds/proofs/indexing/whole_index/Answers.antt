use Rattle.std.proofs.Common.{◌≡◌, ◌∙◌, List, ap, sym}
use Rattle.std.specs.Arc.{arc_value}
use Rattle.std.specs.List.{filter}
use Rattle.sve_index.specs.declared.whole.Index.{Index}
use Rattle.sve_index.specs.Whole.{index_of}
use Rattle.sve_front.specs.Units.{is_unit_name}
use Rattle.sve_gist.specs.Gists.{Gist}
use Rattle.sve_gist.proofs.Same.{same_index}
use Rattle.sve_store.specs.Made.{Made, Done}
use Rattle.sve_key.specs.declared.key.Key.{Key}
use Rattle.sve_key.specs.declared.key.Key.TheVariants.{Names}
use Rattle.sve_key.specs.declared.value.Value.TheVariants as values
use Rattle.sve_key.specs.Values.{names_in_value}
use Rattle.sve_make.specs.Make.{index_told, units_told, units_in, then_made, index_made}
use Rattle.sve_kinds.specs.Passes.{passes_on}
use Rattle.sve_kinds.proofs.Calls.{as_any, holds_on, matches_on, goes_on, needs_this}
use Rattle.sve_kinds.proofs.indexing.whole_index.Goals as goal

pub returns-in_err-value-clause-halted : goal.returns-in_err-value-clause-halted
returns-in_err-value-clause-halted g c = λ told m none j is.
    let at = c.in_err-value.ensures.halted told m none j is in
    (c.from_residual.ensures.0, ap (λ (o : Made Key (List Gist)). then_made o index_made) (needs_this told Names (λ v. units_told told (units_in v)) j at.1))

pub returns-in_err-elements-clause-halted : goal.returns-in_err-elements-clause-halted
returns-in_err-elements-clause-halted g c = λ told m none j is.
    let v = arc_value c.in_ok-value.value in
    let units : c.deref-2.result.now ≡ units_in v = c.deref-2.ensures.value ∙ c.in_ok-units.ensures ∙ ap (filter is_unit_name) (c.names.ensures ∙ ap names_in_value c.deref.ensures) in
    let whole : index_told told ≡ units_told told c.deref-2.result.now = goes_on told Names (λ w. units_told told (units_in w)) v ((m Names 0 v).0 c.in_ok-value.ensures.found) ∙ ap (units_told told) (sym units) in
    let at = c.in_err-elements.ensures.halted told (matches_on told (g.F.Fetch.tells c.args.from.now) (g.F.Fetch.tells c.ask.new.from) c.in_ok-value.ensures.passes.same m) (c.in_ok-value.ensures.calm ∙ none) j is in
    (c.from_residual-in_err-elements.ensures.0, ap (λ (o : Made Key (List Gist)). then_made o index_made) (whole ∙ at.1))

pub returns-clause-passes : goal.returns-clause-passes
returns-clause-passes g c = passes_on (g.met.F.Fetch.keeps_on c.args.from.now c.ask.new.from c.elements_of.new.from) (as_any c.in_ok-value.ensures.passes) c.in_ok-elements.ensures.passes

pub returns-clause-made : goal.returns-clause-made
returns-clause-made g c = λ told h.
    let v = arc_value c.in_ok-value.value in
    let units : c.deref-2.result.now ≡ units_in v = c.deref-2.ensures.value ∙ c.in_ok-units.ensures ∙ ap (filter is_unit_name) (c.names.ensures ∙ ap names_in_value c.deref.ensures) in
    let whole : index_told told ≡ units_told told c.deref-2.result.now = goes_on told Names (λ w. units_told told (units_in w)) v (h Names v c.in_ok-value.ensures.found) ∙ ap (units_told told) (sym units) in
    ap (λ (o : Made Key (List Gist)). then_made o index_made) (whole ∙ c.in_ok-elements.ensures.made told (holds_on told (g.F.Fetch.tells c.args.from.now) (g.F.Fetch.tells c.ask.new.from) c.in_ok-value.ensures.passes.same h))
    ∙ ap (λ (index : Index). Done (values.Index index)) (sym (c.in_ok-index.ensures.index ∙ ap index_of c.deref-3.ensures.value ∙ same_index c.in_ok-elements.elements.items))
