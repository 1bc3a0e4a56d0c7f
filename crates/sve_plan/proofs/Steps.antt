-- A call follows its plan step by step: one lemma for each kind of step.
use Rattle.std.proofs.Common.{ℕ, ◌+◌, ◌-◌, ◌≡◌, ◌⊎◌, inl, inr, List, [], ◌∷◌, ◌++◌, Option, Some, None, Result, Ok, Err, refl, sym, ap, ◌∙◌, subst, append_assoc, arith}
use Rattle.std.proofs.lemmas.List.{append-nil}
use Rattle.std.proofs.Math.Path.{fun_ext}
use Rattle.sve_io.specs.declared.halt.Halt.{Halt}
use Rattle.sve_io.specs.declared.halt.Halt.TheVariants as is_halt
use Rattle.sve_fault.specs.declared.fuel.Fuel.{Fuel}
use Rattle.sve_fault.specs.declared.fuel.Halted.{Halted}
use Rattle.sve_fault.specs.declared.fuel.Halted.TheVariants as is_halted
use Rattle.sve_fault.specs.Counts.{IsFuel, counted_on}
use Rattle.sve_told.specs.Told.{Told, Tells, Holds, Matches, TellSame, HasStopped, IsMissing, asked_on, noted, Sight}
use Rattle.sve_plan.specs.declared.stop.Stop.{Stop}
use Rattle.sve_plan.specs.declared.stop.Stop.TheVariants as is_stop
use Rattle.sve_plan.specs.Plan.{Plan, Give, Ask, Spend, ask, Done, Over, Needs, Counted, answered, within, run, asks, and_then}
use Rattle.sve_plan.specs.Follows.{Reaches, Exceeds, Halts, Follows, Meters, stop_of, leaving}
use Rattle.sve_plan.proofs.Runs.{on_done, run_then, within_goes, within_ends}
use Rattle.sve_plan.proofs.Asks.{asked_then, asks_then}

-- ---- what is told

pub same_itself : {Q : Type 0} {A : Q → Type 0} (tells : Tells A) → TellSame tells tells
same_itself tells = λ q answer. (λ is. is, λ is. is)

pub same_on : {Q : Type 0} {A : Q → Type 0} (old now new : Tells A) → TellSame old now → TellSame now new → TellSame old new
same_on old now new first second = λ q answer. (λ is. (second q answer).0 ((first q answer).0 is), λ is. (first q answer).1 ((second q answer).1 is))

pub holds_on : {Q : Type 0} {A : Q → Type 0} (told : Told A) (old new : Tells A) → TellSame old new → Holds told old → Holds told new
holds_on told old new same holds = λ q answer is. holds q answer ((same q answer).1 is)

pub matches_on : {Q : Type 0} {A : Q → Type 0} (told : Told A) (old new : Tells A) → TellSame old new → Matches told old → Matches told new
matches_on told old new same matches = λ q answer. (λ is. (matches q answer).0 ((same q answer).1 is), λ is. (same q answer).0 ((matches q answer).1 is))

pub matches_holds : {Q : Type 0} {A : Q → Type 0} (told : Told A) (tells : Tells A) → Matches told tells → Holds told tells
matches_holds told tells matches = λ q answer is. (matches q answer).0 is

-- ---- what was asked

pub asked_none : {Q : Type 0} (asked : Option (List Q)) → asked_on [] asked ≡ asked
asked_none None = refl
asked_none (Some all) = ap Some (append-nil all)

pub asked_twice : {Q : Type 0} (asked : Option (List Q)) (xs ys : List Q) → asked_on ys (asked_on xs asked) ≡ asked_on (xs ++ ys) asked
asked_twice None xs ys = refl
asked_twice (Some all) xs ys = ap Some (append_assoc all xs ys)

-- ---- the stops of calls that count

pub none_some : {Q : Type 0} (q : Q) (old new : Option Q) → new ≡ old → old ≡ None → new ≡ Some q → ⊥
none_some q old new same none some = let no : None ≡ Some q = sym none ∙ sym same ∙ some in cc

stopped_on : (old now new : List ℕ) (halt : Halt) → now ≡ old → HasStopped now new halt → HasStopped old new halt
stopped_on old now new (is_halt.Stopped number) same is = subst (λ stops. HasStopped stops new (is_halt.Stopped number)) same is
stopped_on old now new is_halt.NoMemory same is = tt

-- ---- the steps, over an object by what can be seen of it, and its two laws

module _ {Q : Type 0} {A : Q → Type 0} {W : Type 0} (sight : Sight A W) (itself : (w : W) → sight.keeps w w) (keeps_on : (old now new : W) → sight.keeps old now → sight.keeps now new → sight.keeps old new) where
  -- before the first step
  pub begins : {X : Type 0} (world : W) (fuel : Fuel) (whole : Plan A X) → IsFuel fuel → Reaches sight world world fuel fuel whole whole
  begins world fuel whole ready = record {
    tells = same_itself (sight.tells world);
    keeps = itself world;
    not_halted = refl;
    not_stopped = refl;
    most = refl;
    fuel = ready;
    comes = λ told holds. refl;
    asked = λ told holds. refl;
  }

  -- the rest is written otherwise
  pub rests : {X : Type 0} {old new : W} {before after : Fuel} {whole rest : Plan A X} (other : Plan A X) → Reaches sight old new before after whole rest → rest ≡ other → Reaches sight old new before after whole other
  rests {old = old} {new = new} {before = before} {after = after} {whole = whole} other reaches same = subst (λ plan. Reaches sight old new before after whole plan) same reaches

  -- so much is spent
  pub pays : {X Y : Type 0} {old new : W} {before now after : Fuel} {whole : Plan A X} (counted : Counted Y) (next : Plan A X) (y : Y) → Reaches sight old new before now whole (Spend counted.0 next) → Meters now after counted (Ok y) → Reaches sight old new before after whole next
  unfolding run asks
  pays {old = old} {new = new} {before = before} {now = now} {after = after} counted next y reaches meters = let spends = meters.0 in let w = spends.within in let m = spends.most in let u = spends.used in let r = reaches.most in let i = reaches.fuel.1 in record {
    tells = reaches.tells;
    keeps = reaches.keeps;
    not_halted = reaches.not_halted;
    not_stopped = reaches.not_stopped;
    most = spends.most ∙ reaches.most;
    fuel = (spends.within, (omega arith));
    comes = λ told holds. reaches.comes told holds ∙ within_goes before.most (counted_on now.used counted.0) Over (λ more. run told before.most more next) (omega arith) ∙ ap (λ used. run told before.most used next) (sym spends.used);
    asked = λ told holds. reaches.asked told holds ∙ ap (λ questions. asked_on questions (sight.asked new))
        (within_goes before.most (counted_on now.used counted.0) [] (λ more. asks told before.most more next) (omega arith) ∙ ap (λ used. asks told before.most used next) (sym spends.used));
  }

  -- there is no memory
  pub no_memory : {X : Type 0} {old new : W} {before now : Fuel} {whole rest : Plan A X} (after : Fuel) → Reaches sight old new before now whole rest → Follows sight old new before after whole (Err (is_stop.Halted is_halt.NoMemory))
  no_memory {old = old} {new = new} after reaches = record {
    tells = reaches.tells;
    keeps = reaches.keeps;
    stopped = tt;
    needs = λ told matches none q some. absurd (none_some q (sight.halted old) (sight.halted new) reaches.not_halted none some);
  }

  -- too little is left
  pub exceeds : {X Y : Type 0} {old new : W} {before now : Fuel} {whole : Plan A X} (after : Fuel) (counted : Counted Y) (next : Plan A X) (halted : Halted) → Reaches sight old new before now whole (Spend counted.0 next) → Meters now after counted (Err halted) → Follows sight old new before after whole (Err (stop_of halted))
  unfolding run asks
  exceeds {new = new} {before = before} {now = now} after counted next is_halted.Over reaches meters = let short = meters.0 in let r = reaches.most in record {
    tells = reaches.tells;
    keeps = reaches.keeps;
    not_halted = reaches.not_halted;
    not_stopped = reaches.not_stopped;
    over = λ told holds. reaches.comes told holds ∙ within_ends before.most (counted_on now.used counted.0) Over (λ more. run told before.most more next) (omega arith);
    asked = λ told holds. sym (reaches.asked told holds
        ∙ ap (λ questions. asked_on questions (sight.asked new)) (within_ends before.most (counted_on now.used counted.0) [] (λ more. asks told before.most more next) (omega arith)) ∙ asked_none (sight.asked new));
  }
  exceeds after counted next is_halted.NoMemory reaches meters = no_memory after reaches

  -- ---- a call that follows the first part of the rest

  -- it is done
  pub goes_on : {X Y : Type 0} {old now new : W} {before between after : Fuel} {whole : Plan A Y} (plan : Plan A X) (next : X → Plan A Y) → Reaches sight old now before between whole (and_then plan next) → (x : X) → Reaches sight now new between after plan (Give x) → Reaches sight old new before after whole (next x)
  unfolding run asks
  goes_on {old = old} {now = now} {new = new} {before = before} {between = between} {after = after} plan next reaches x call =
      let runs : (told : Told A) → Holds told (sight.tells old) → run told before.most between.used plan ≡ Done x after.used = λ told holds. subst (λ most. run told most between.used plan ≡ Done x after.used) reaches.most (call.comes told (holds_on told (sight.tells old) (sight.tells now) reaches.tells holds)) in
      let asked : (told : Told A) → Holds told (sight.tells old) → asked_on (asks told before.most between.used plan) (sight.asked now) ≡ sight.asked new = λ told holds. subst (λ most. asked_on (asks told most between.used plan) (sight.asked now) ≡ sight.asked new) reaches.most (call.asked told (holds_on told (sight.tells old) (sight.tells now) reaches.tells holds) ∙ asked_none (sight.asked new)) in record {
        tells = same_on (sight.tells old) (sight.tells now) (sight.tells new) reaches.tells call.tells;
        keeps = keeps_on old now new reaches.keeps call.keeps;
        not_halted = call.not_halted ∙ reaches.not_halted;
        not_stopped = call.not_stopped ∙ reaches.not_stopped;
        most = call.most ∙ reaches.most;
        fuel = call.fuel;
        comes = λ told holds. reaches.comes told holds ∙ run_then told before.most between.used plan next ∙ ap (λ o. on_done o (λ y used. run told before.most used (next y))) (runs told holds);
        asked = λ told holds. reaches.asked told holds
            ∙ ap (λ questions. asked_on questions (sight.asked now)) (asks_then told before.most between.used plan next ∙ ap (λ o. asks told before.most between.used plan ++ asked_then o (λ y used. asks told before.most used (next y))) (runs told holds))
            ∙ sym (asked_twice (sight.asked now) (asks told before.most between.used plan) (asks told before.most after.used (next x))) ∙ ap (asked_on (asks told before.most after.used (next x))) (asked told holds);
      }

  -- it is left, since it costs too much
  over : {X Y : Type 0} {old now new : W} {before between : Fuel} {whole : Plan A Y} (plan : Plan A X) (next : X → Plan A Y) → Reaches sight old now before between whole (and_then plan next) → Exceeds sight now new between plan → Exceeds sight old new before whole
  over {old = old} {now = now} {new = new} {before = before} {between = between} plan next reaches call =
      let runs : (told : Told A) → Holds told (sight.tells old) → run told before.most between.used plan ≡ Over = λ told holds. subst (λ most. run told most between.used plan ≡ Over) reaches.most (call.over told (holds_on told (sight.tells old) (sight.tells now) reaches.tells holds)) in
      let asked : (told : Told A) → Holds told (sight.tells old) → sight.asked new ≡ asked_on (asks told before.most between.used plan) (sight.asked now) = λ told holds. subst (λ most. sight.asked new ≡ asked_on (asks told most between.used plan) (sight.asked now)) reaches.most (call.asked told (holds_on told (sight.tells old) (sight.tells now) reaches.tells holds)) in record {
        tells = same_on (sight.tells old) (sight.tells now) (sight.tells new) reaches.tells call.tells;
        keeps = keeps_on old now new reaches.keeps call.keeps;
        not_halted = call.not_halted ∙ reaches.not_halted;
        not_stopped = call.not_stopped ∙ reaches.not_stopped;
        over = λ told holds. reaches.comes told holds ∙ run_then told before.most between.used plan next ∙ ap (λ o. on_done o (λ y used. run told before.most used (next y))) (runs told holds);
        asked = λ told holds. asked told holds ∙ ap (λ questions. asked_on questions (sight.asked now)) (ends_so told holds (runs told holds)) ∙ sym (reaches.asked told holds);
      } where
        ends_so : (told : Told A) → Holds told (sight.tells old) → run told before.most between.used plan ≡ Over → asks told before.most between.used plan ≡ asks told before.most between.used (and_then plan next)
        ends_so told holds is = sym (asks_then told before.most between.used plan next ∙ ap (λ o. asks told before.most between.used plan ++ asked_then o (λ y used. asks told before.most used (next y))) is ∙ append-nil (asks told before.most between.used plan))

  -- it is left, since it halts
  halts : {X Y : Type 0} {old now new : W} {before between : Fuel} {whole : Plan A Y} (plan : Plan A X) (next : X → Plan A Y) (halt : Halt) → Reaches sight old now before between whole (and_then plan next) → Halts sight now new between plan halt → Halts sight old new before whole halt
  halts {old = old} {now = now} {new = new} {before = before} {between = between} {whole = whole} plan next halt reaches call = record {
    tells = same_on (sight.tells old) (sight.tells now) (sight.tells new) reaches.tells call.tells;
    keeps = keeps_on old now new reaches.keeps call.keeps;
    stopped = stopped_on (sight.stops old) (sight.stops now) (sight.stops new) halt reaches.not_stopped call.stopped;
    needs = λ told matches none q some. needs_so told matches q (subst (λ most. (run told most between.used plan ≡ Needs q) × (sight.asked new ≡ asked_on (asks told most between.used plan) (sight.asked now))) reaches.most
        (call.needs told (matches_on told (sight.tells old) (sight.tells now) reaches.tells matches) (reaches.not_halted ∙ none) q some));
  } where
    needs_so : (told : Told A) → Matches told (sight.tells old) → (q : Q) → (run told before.most between.used plan ≡ Needs q) × (sight.asked new ≡ asked_on (asks told before.most between.used plan) (sight.asked now))
        → (run told before.most before.used whole ≡ Needs q) × (sight.asked new ≡ asked_on (asks told before.most before.used whole) (sight.asked old))
    needs_so told matches q is =
        let holds = matches_holds told (sight.tells old) matches in (
          reaches.comes told holds ∙ run_then told before.most between.used plan next ∙ ap (λ o. on_done o (λ y used. run told before.most used (next y))) is.0,
          is.1 ∙ ap (λ questions. asked_on questions (sight.asked now)) (sym (asks_then told before.most between.used plan next ∙ ap (λ o. asks told before.most between.used plan ++ asked_then o (λ y used. asks told before.most used (next y))) is.0 ∙ append-nil (asks told before.most between.used plan)))
              ∙ sym (reaches.asked told holds),
        )

  -- it is left
  pub stops : {X Y : Type 0} {old now : W} {before between : Fuel} {whole : Plan A Y} (new : W) (after : Fuel) (plan : Plan A X) (next : X → Plan A Y) (stop : Stop) → Reaches sight old now before between whole (and_then plan next) → Follows sight now new between after plan (Err stop) → Follows sight old new before after whole (Err stop)
  stops new after plan next is_stop.Over reaches call = over plan next reaches call
  stops new after plan next (is_stop.Halted halt) reaches call = halts plan next halt reaches call

  -- ---- the last call

  and_give : {X : Type 0} (plan : Plan A X) → and_then plan (λ x. Give x) ≡ plan
  unfolding and_then
  and_give (Give x) = refl
  and_give (Ask q go) = ap (λ f. Ask q f) (fun_ext (λ answer. and_give (go answer)))
  and_give (Spend n rest) = ap (Spend n) (and_give rest)

  pub ends : {X : Type 0} {old now : W} {before between : Fuel} {whole : Plan A X} (new : W) (after : Fuel) (plan : Plan A X) (end : Result X Stop) → Reaches sight old now before between whole plan → Follows sight now new between after plan end → Follows sight old new before after whole end
  ends new after plan (Ok x) reaches call = goes_on plan (λ x. Give x) (rests (and_then plan (λ x. Give x)) reaches (sym (and_give plan))) x call
  ends new after plan (Err stop) reaches call = stops new after plan (λ x. Give x) stop (rests (and_then plan (λ x. Give x)) reaches (sym (and_give plan))) call

  -- ---- the object answers a question, or does not

  pub answers : {old new : W} (fuel : Fuel) (q : Q) (answer : A q) → IsFuel fuel → TellSame (sight.tells old) (sight.tells new) → sight.keeps old new → sight.tells old q answer → sight.asked new ≡ noted q (sight.asked old) → sight.halted new ≡ sight.halted old → sight.stops new ≡ sight.stops old
      → Reaches sight old new fuel fuel (ask q) (Give answer)
  unfolding run asks
  answers {old = old} {new = new} fuel q answer ready same keeps found asked not_halted not_stopped = record {
    tells = same;
    keeps = keeps;
    not_halted = not_halted;
    not_stopped = not_stopped;
    most = refl;
    fuel = ready;
    comes = λ told holds. ap (λ o. answered o (Needs q) (λ a. Done a fuel.used)) (holds q answer found);
    asked = λ told holds. ap (λ questions. asked_on (q ∷ questions) (sight.asked old)) (ap (λ o. answered o [] (λ a. [])) (holds q answer found)) ∙ sym asked ∙ sym (asked_none (sight.asked new));
  }

  missing : (told : Told A) (tells : Tells A) (q : Q) (o : Option (A q)) → told q ≡ o → Matches told tells → ((answer : A q) → tells q answer → ⊥) → o ≡ None
  missing told tells q None is matches none = refl
  missing told tells q (Some answer) is matches none = absurd (none answer ((matches q answer).1 is))

  needed : {R E : Type 0} {old new : W} (fuel : Fuel) (q other : Q) (result : Result R E) (told : Told A) → Matches told (sight.tells old) → IsMissing (sight.tells old) (sight.asked old) (sight.asked new) q result other
      → (run told fuel.most fuel.used (ask q) ≡ Needs other) × (sight.asked new ≡ asked_on (asks told fuel.most fuel.used (ask q)) (sight.asked old))
  unfolding run asks
  needed {old = old} fuel q other result told matches is =
      let none = missing told (sight.tells old) q (told q) refl matches is.2 in
      (ap (λ o. answered o (Needs q) (λ a. Done a fuel.used)) none ∙ ap Needs (sym is.1), is.3 ∙ ap (λ questions. asked_on (q ∷ questions) (sight.asked old)) (sym (ap (λ o. answered o [] (λ a. [])) none)))

  by_halt : {R E : Type 0} {old new : W} (fuel : Fuel) (q other : Q) (result : Result R E) (told : Told A) → Matches told (sight.tells old) → sight.halted old ≡ None → (sight.halted old ≡ Some other) ⊎ IsMissing (sight.tells old) (sight.asked old) (sight.asked new) q result other
      → (run told fuel.most fuel.used (ask q) ≡ Needs other) × (sight.asked new ≡ asked_on (asks told fuel.most fuel.used (ask q)) (sight.asked old))
  by_halt fuel q other result told matches none (inl earlier) = absurd (let no : None ≡ Some other = sym none ∙ earlier in cc)
  by_halt {new = new} fuel q other result told matches none (inr is) = needed {new = new} fuel q other result told matches is

  pub halts_at : {R E : Type 0} {old new : W} (fuel : Fuel) (q : Q) (halt : Halt) (result : Result R E) → TellSame (sight.tells old) (sight.tells new) → sight.keeps old new → ((other : Q) → sight.halted new ≡ Some other → (sight.halted old ≡ Some other) ⊎ IsMissing (sight.tells old) (sight.asked old) (sight.asked new) q result other) → HasStopped (sight.stops old) (sight.stops new) halt
      → Halts sight old new fuel (ask q) halt
  halts_at {old = old} {new = new} fuel q halt result same keeps at stopped = record {
    tells = same;
    keeps = keeps;
    stopped = stopped;
    needs = λ told matches none other some. by_halt {old = old} {new = new} fuel q other result told matches none (at other some);
  }

  -- ---- as a `?` leaves a call

  -- the object's call for a question; `result` is how that ended, `end` how the function does
  pub asked_in_vain : {R E : Type 0} {old new : W} (fuel : Fuel) (q : Q) (halt : Halt) (result : Result R E) (end : Result (A q) Stop) (stop : Stop) → end ≡ Err stop → stop ≡ is_stop.Halted halt → TellSame (sight.tells old) (sight.tells new) → sight.keeps old new
      → ((other : Q) → sight.halted new ≡ Some other → (sight.halted old ≡ Some other) ⊎ IsMissing (sight.tells old) (sight.asked old) (sight.asked new) q result other) → HasStopped (sight.stops old) (sight.stops new) halt → Follows sight old new fuel fuel (ask q) end
  asked_in_vain {old = old} {new = new} fuel q halt result end stop is kind same keeps at stopped =
      subst (λ (e : Result (A q) Stop). Follows sight old new fuel fuel (ask q) e) (sym (is ∙ ap Err kind)) (halts_at {old = old} {new = new} fuel q halt result same keeps at stopped)

  -- a call that follows the first part of the rest
  pub leaves : {X Y S : Type 0} {old now : W} {before between : Fuel} {whole : Plan A S} (new : W) (after : Fuel) (plan : Plan A X) (next : X → Plan A S) (stop left : Stop) (end : Result Y Stop) (s : S) → end ≡ Err left → left ≡ stop → Reaches sight old now before between whole (and_then plan next) → Follows sight now new between after plan (Err stop)
      → Follows sight old new before after whole (leaving end s)
  leaves {Y = Y} {S = S} {old = old} {before = before} {whole = whole} new after plan next stop left end s is same reaches call =
      subst (λ (e : Result Y Stop). Follows sight old new before after whole (leaving e s)) (sym (is ∙ ap Err same)) (stops new after plan next stop reaches call)

  -- a call that counts
  pub leaves_spent : {X Y S : Type 0} {old new : W} {before now : Fuel} {whole : Plan A S} (after : Fuel) (counted : Counted X) (next : Plan A S) (halted : Halted) (left : Stop) (end : Result Y Stop) (s : S) → end ≡ Err left → left ≡ stop_of halted → Reaches sight old new before now whole (Spend counted.0 next) → Meters now after counted (Err halted)
      → Follows sight old new before after whole (leaving end s)
  leaves_spent {Y = Y} {S = S} {old = old} {new = new} {before = before} {whole = whole} after counted next halted left end s is same reaches meters =
      subst (λ (e : Result Y Stop). Follows sight old new before after whole (leaving e s)) (sym (is ∙ ap Err same)) (exceeds after counted next halted reaches meters)

  -- a call that takes memory alone
  pub leaves_memory : {Y S : Type 0} {old new : W} {before now : Fuel} {whole rest : Plan A S} (after : Fuel) (left : Stop) (end : Result Y Stop) (s : S) → end ≡ Err left → left ≡ is_stop.Halted is_halt.NoMemory → Reaches sight old new before now whole rest → Follows sight old new before after whole (leaving end s)
  leaves_memory {Y = Y} {S = S} {old = old} {new = new} {before = before} {whole = whole} after left end s is same reaches =
      subst (λ (e : Result Y Stop). Follows sight old new before after whole (leaving e s)) (sym (is ∙ ap Err same)) (no_memory after reaches)
