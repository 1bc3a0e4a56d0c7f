use Rattle.std.proofs.Common.{◌≡◌, ℕ, true, false, None, Some, Result, Ok, Err, IsErr, is_ok, if◌then◌else◌, refl, sym, ap, ◌∙◌}
use Rattle.sve_store.specs.Made.{next_count}
use Rattle.sve_make.proofs.Needs.{same_fuel}
use Rattle.sve_query.proofs.kinds.SvqKinds.compute.Goals as goal

-- no value was counted where the call failed
uncounted : {A E : Type 0} (r : Result A E) (n m : ℕ) → IsErr r → m ≡ (if is_ok r then n else m)
uncounted (Ok x) n m failed = let no : false ≡ true = failed in cc
uncounted (Err e) n m failed = refl

pub returns-in_err-value-clause-count : goal.returns-in_err-value-clause-count
returns-in_err-value-clause-count g c = λ all. c.in_err-value.ensures.passes.counted (λ j one. all j 0) ∙ uncounted c.from_residual.result _ _ c.from_residual.ensures.0

pub returns-in_err-value-clause-halted : goal.returns-in_err-value-clause-halted
returns-in_err-value-clause-halted g c = λ told m none j is.
    let at = c.in_err-value.ensures.halted told m none j is in
    (c.from_residual.ensures.0, same_fuel c.args.k.now c.args._fuel 0 told ∙ at.1)

pub returns-clause-tells : goal.returns-clause-tells
returns-clause-tells g c = λ k fuel v. (
  λ told. (c.tick.ensures.tells k fuel v).0 ((c.in_ok-value.ensures.passes.same k fuel v).0 told),
  λ told. (c.in_ok-value.ensures.passes.same k fuel v).1 ((c.tick.ensures.tells k fuel v).1 told),
)

pub returns-clause-keeps : goal.returns-clause-keeps
returns-clause-keeps g c = g.met.F.Fetch.keeps_on c.args.from.now c.made.new.from c.tick.new.self c.in_ok-value.ensures.passes.kept c.tick.ensures.keeps

pub returns-clause-made : goal.returns-clause-made
returns-clause-made g c = λ told h. same_fuel c.args.k.now c.args._fuel 0 told ∙ c.in_ok-value.ensures.made told (λ k v is. h k 0 v is)

pub returns-clause-count : goal.returns-clause-count
returns-clause-count g c = λ all. c.tick.ensures.count ∙ ap next_count (c.in_ok-value.ensures.passes.counted (λ j one. all j 0))

pub returns-clause-halted : goal.returns-clause-halted
returns-clause-halted g c = λ told m none j is.
    let no : None ≡ Some j = sym (c.in_ok-value.ensures.calm none) ∙ sym c.tick.ensures.halted ∙ is in
    absurd (cc)
