use Rattle.std.proofs.Common.{◌≡◌, ◌<◌, [], refl, sym, ◌∙◌, subst, arith}
use Rattle.sve_store.specs.Made.{Needs, Done, value_in, values_of, untold}
use Rattle.sve_store.specs.Values.{is_given, is_made, IsValue, OnTheWay, at_first, one_more}
use Rattle.sve_store.specs.Tries.{IsTried}
use Rattle.sve_store.proofs.Lookups.{untold-falls}
use Rattle.sve_store.proofs.Ways.{not_given, comes_to, tells_on_the_way, given_as, given_not, no_input}
use Rattle.sve_store.proofs.plain.+value_of.Goals as goal

pub returns-in-Some-clause-value : goal.returns-in-Some-clause-value
returns-in-Some-clause-value g t c =
    ([], is_given (given_as (g.K.Keyed.given c.args.files.now) c.args.key.now c.in_ok-value.field-0 c.in_ok-value.ensures.value c.in-Some.value c.in-Some.field-0-1 c.in-Some.is))

pub tries-init : goal.tries-init
tries-init g t c = record {
  fit = λ all. refl;
  way =
      subst (λ l. OnTheWay g.K.Key.Ord.cmp (values_of (g.K.Keyed.given c.args.files.now)) g.K.Kinds.make c.args.key.now c.args.fuel l) (sym c.new-known.ensures)
      (at_first (given_not (g.K.Keyed.given c.args.files.now) c.args.key.now c.in_ok-value.field-0 c.in_ok-value.ensures.value c.in_default.is));
}

pub returns-in-Came-clause-value : goal.returns-in-Came-clause-value
returns-in-Came-clause-value g t c =
    let given = values_of (g.K.Keyed.given c.args.files.now) in
    let made : g.K.Kinds.make c.args.key.now c.args.fuel (value_in g.K.Key.Ord.cmp c.tries.known) ≡ Done c.in-Came.value =
    subst (IsTried _) c.in-Came.is c.in_ok-value-2.ensures.tried in
    let way = c.tries.invariant.way in
    subst (λ v. IsValue g.K.Key.Ord.cmp given g.K.Kinds.make c.args.key.now c.args.fuel v) (sym c.in_ok-new-in-Came.ensures.ok)
    (comes_to g.K.Key.Ord.cmp given g.K.Kinds.make _ _ _ _ way [] (is_made {k = c.args.key.now} (not_given g.K.Key.Ord.cmp given g.K.Kinds.make _ _ _ way) made))

pub value_of-requires : goal.value_of-requires
value_of-requires g t c κs within =
    let files = c.args.files.now in
    let given = values_of (g.K.Keyed.given files) in
    let needs : g.K.Kinds.make c.args.key.now c.args.fuel (value_in g.K.Key.Ord.cmp c.tries.known) ≡ Needs c.in-Wants.needed =
    subst (IsTried _) c.in-Wants.is c.in_ok-value-2.ensures.tried in
    let way = c.tries.invariant.way in
    let computed = no_input (g.K.Keyed.given files c.args.key.now) (g.K.Keyed.is_input c.args.key.now) (g.met.K.Keyed.inputs files c.args.key.now) (not_given g.K.Key.Ord.cmp given g.K.Kinds.make _ _ _ way) in
    let low = g.met.K.Ending.lower files c.args.key.now c.args.fuel _ c.in-Wants.needed computed
    (λ q v is lower. tells_on_the_way g.K.Key.Ord.cmp given g.K.Kinds.make (λ a b. (g.met.K.Keyed.one_key a b).0) _ _ _ way q v is) needs in
    (omega (arith, low), (within.0, (within.1.0, (within.1.1.0, (within.1.1.1, c.in_ok-value-2.ensures.fit files ∙ c.tries.invariant.fit files ∙ c.requires)))))

pub tries-smaller : goal.tries-smaller
tries-smaller g t c =
    let files = c.args.files.now in
    let given = values_of (g.K.Keyed.given files) in
    let needs : g.K.Kinds.make c.args.key.now c.args.fuel (value_in g.K.Key.Ord.cmp c.tries.known) ≡ Needs c.in-Wants.needed =
    subst (IsTried _) c.in-Wants.is c.in_ok-value-2.ensures.tried in
    let way = c.tries.invariant.way in
    let computed = no_input (g.K.Keyed.given files c.args.key.now) (g.K.Keyed.is_input c.args.key.now) (g.met.K.Keyed.inputs files c.args.key.now) (not_given g.K.Key.Ord.cmp given g.K.Kinds.make _ _ _ way) in
    let read = g.met.K.Ending.reading files c.args.key.now c.args.fuel _ c.in-Wants.needed computed
    (tells_on_the_way g.K.Key.Ord.cmp given g.K.Kinds.make (λ a b. (g.met.K.Keyed.one_key a b).0) _ _ _ way) needs in
    subst (λ l. untold (value_in g.K.Key.Ord.cmp l) (g.K.Ending.reads files c.args.key.now c.args.fuel) < untold (value_in g.K.Key.Ord.cmp c.tries.known) (g.K.Ending.reads files c.args.key.now c.args.fuel)) (sym c.in_ok-put-in-Wants.ensures.put)
    (untold-falls g.K.Key.Ord.cmp (λ k. (g.met.K.Keyed.one_key k k).1 refl) _ c.in-Wants.needed _ _ read.0 read.1)

pub tries-preserved : goal.tries-preserved
tries-preserved g t c =
    let files = c.args.files.now in
    let needs : g.K.Kinds.make c.args.key.now c.args.fuel (value_in g.K.Key.Ord.cmp c.tries.known) ≡ Needs c.in-Wants.needed =
    subst (IsTried _) c.in-Wants.is c.in_ok-value-2.ensures.tried in
    record {
      fit = λ all. c.in_ok-value-in-Wants.ensures.fit all ∙ (c.in_ok-value-2.ensures.fit all ∙ c.tries.invariant.fit all);
      way =
          subst (OnTheWay g.K.Key.Ord.cmp (values_of (g.K.Keyed.given files)) g.K.Kinds.make c.args.key.now c.args.fuel) (sym c.in_ok-put-in-Wants.ensures.put)
          (one_more c.tries.invariant.way needs c.in_ok-value-in-Wants.ensures.value);
    }
