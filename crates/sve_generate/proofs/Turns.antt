-- The turns of a loop: what is spent and what is left.
use Rattle.std.proofs.Common.{ℕ, suc, ◌+◌, ◌-◌, ◌<◌, ◌≤◌, ◌≡◌, ℤ, Bool, true, false, cond, List, [], ◌∷◌, ◌++◌, Option, Some, None, Result, Ok, Err, refl, ap, sym, ◌∙◌, subst, length, add-zero, arith}
use Rattle.std.specs.Ordering.{int_eq}
use Rattle.std.specs.List.{list_any}
use Rattle.sve_fault.specs.declared.fault.Fault.{Fault}
use Rattle.sve_fault.specs.declared.fuel.Fuel.{Fuel}
use Rattle.sve_fault.specs.declared.fuel.Halted.{Halted}
use Rattle.sve_fault.specs.Counts.{Spends, IsFuel, counted_on, excused}
use Rattle.sve_plan.specs.Plan.{Counted}
use Rattle.sve_plan.specs.Follows.{Meters}
use Rattle.sve_generate.specs.declared.unrolling.Turn.{Turn}
use Rattle.sve_generate.specs.declared.unrolling.Turn.TheVariants.{Ends, Goes}
use Rattle.sve_generate.specs.Loops.{costs, given, ends, fresh_or, turn, go_on, turns}
use Rattle.sve_generate.specs.Metering.{Comes}

-- ---- spending twice

pub spends_on : (f g h : Fuel) (a b : ℕ) → Spends f g a → Spends g h b → Spends f h (a + b)
spends_on f g h a b first second = let u = first.used in let v = second.used in record { used = omega arith; most = second.most ∙ first.most; within = second.within }

pub spends_none : (f : Fuel) → IsFuel f → Spends f f 0
spends_none f ready = let a = ready.0 in let b = ready.1 in record { used = omega arith; most = refl; within = a }

pub ready_on : (f g : Fuel) (n : ℕ) → IsFuel f → Spends f g n → IsFuel g
ready_on f g n ready spends = let m = spends.most in let b = ready.1 in (spends.within, omega arith)

-- a halt further on is a halt of the whole
halts_on : (f g : Fuel) (a b n : ℕ) (halted : Halted) → Spends f g a → a + b ≤ n → g.most < counted_on g.used b + excused halted → f.most < counted_on f.used n + excused halted
halts_on f g a b n halted spends le short = let u = spends.used in let m = spends.most in omega arith

-- ---- before the first turn, and one thing after another

pub comes_first : {X : Type 0} (f : Fuel) (whole : Counted X) → IsFuel f → Comes f f whole whole
comes_first f whole ready = record { spent = 0; value = refl; cost = omega arith; spends = spends_none f ready }

pub meters_then : {Y : Type 0} (f g h : Fuel) (n : ℕ) (rest : Counted Y) (result : Result Y Halted) → Spends f g n → Meters g h rest result → Meters f h (costs n rest) result
meters_then f g h n rest (Ok y) spends meters = (spends_on f g h n rest.0 spends meters.0, meters.1)
meters_then f g h n rest (Err halted) spends meters = (halts_on f g n rest.0 (n + rest.0) halted spends (omega arith) meters.0, tt)

-- ---- a turn that goes on had a value that was not there

module _ (goes : ℤ → Counted (Result Bool Fault)) (steps : ℤ → Counted (Result (Option ℤ) Fault)) (again : Fault) where
  fresh_goes : (seen : List ℤ) (x v : ℤ) (w : Option ℤ) (b : Bool) (k : ℤ → Counted Turn) → ((k x).1 ≡ Goes v w → x ≡ v) → (fresh_or (cond b None (Some x)) (ends (Err again)) k).1 ≡ Goes v w → (b ≡ false) × (x ≡ v)
  fresh_goes seen x v w true k same is = absurd (cc)
  fresh_goes seen x v w false k same is = (refl, same is)

  step_goes : (x v : ℤ) (w : Option ℤ) (r : Result (Option ℤ) Fault) → (given r (λ fault. ends (Err fault)) (λ next. (0, Goes x next))).1 ≡ Goes v w → x ≡ v
  step_goes x v w (Err fault) is = absurd (cc)
  step_goes x v w (Ok next) is = cc

  on_goes : (seen : List ℤ) (x v : ℤ) (w : Option ℤ) (on : Bool) → (cond on (costs (steps x).0 (given (steps x).1 (λ fault. ends (Err fault)) (λ next. (0, Goes x next)))) (length seen, Ends (Ok seen))).1 ≡ Goes v w → x ≡ v
  on_goes seen x v w true is = step_goes x v w (steps x).1 is
  on_goes seen x v w false is = absurd (cc)

  test_goes : (seen : List ℤ) (x v : ℤ) (w : Option ℤ) (r : Result Bool Fault)
      → (given r (λ fault. ends (Err fault)) (λ on. cond on (costs (steps x).0 (given (steps x).1 (λ fault. ends (Err fault)) (λ next. (0, Goes x next)))) (length seen, Ends (Ok seen)))).1 ≡ Goes v w → x ≡ v
  test_goes seen x v w (Err fault) is = absurd (cc)
  test_goes seen x v w (Ok on) is = on_goes seen x v w on is

  turn_fresh : (seen : List ℤ) (value : Option ℤ) (v : ℤ) (w : Option ℤ) → (turn goes steps again seen value).1 ≡ Goes v w → list_any (int_eq v) seen ≡ false
  turn_fresh seen None v w is = absurd (cc)
  turn_fresh seen (Some x) v w is =
      let f = fresh_goes seen x v w (list_any (int_eq x) seen) (λ y. costs (goes y).0 (given (goes y).1 (λ fault. ends (Err fault)) (λ on. cond on (costs (steps y).0 (given (steps y).1 (λ fault. ends (Err fault)) (λ next. (0, Goes y next)))) (length seen, Ends (Ok seen))))) (test_goes seen x v w (goes x).1) is in
      ap (λ y. list_any (int_eq y) seen) (sym f.1) ∙ f.0

  -- ---- what a turn leaves

  goes_so : (n : ℕ) (t : Turn) (v : ℤ) (w : Option ℤ) (rest : ℤ → Option ℤ → Counted (Result (List ℤ) Fault)) → Goes v w ≡ t → go_on (n, t) rest ≡ costs n (rest v w)
  goes_so n t v w rest is = subst (λ (u : Turn). go_on (n, u) rest ≡ costs n (rest v w)) is refl

  ends_so : (n : ℕ) (t : Turn) (end : Result (List ℤ) Fault) (rest : ℤ → Option ℤ → Counted (Result (List ℤ) Fault)) → Ends end ≡ t → go_on (n, t) rest ≡ (n, end)
  ends_so n t end rest is = subst (λ (u : Turn). go_on (n, u) rest ≡ (n, end)) is refl

  costs_more : (n : ℕ) (t : Turn) (rest : ℤ → Option ℤ → Counted (Result (List ℤ) Fault)) → n ≤ (go_on (n, t) rest).0
  costs_more n (Ends end) rest = omega arith
  costs_more n (Goes v w) rest = omega arith

  whole : (seen : List ℤ) (value : Option ℤ) (more : ℕ) → turns (suc more) goes steps again seen value ≡ go_on (turn goes steps again seen value) (λ v next. turns more goes steps again (seen ++ v ∷ []) next)
  unfolding turns
  whole seen value more = refl

  left_suc : (seen : List ℤ) (value : Option ℤ) (left round : ℕ) → round < left → turns (left - round) goes steps again seen value ≡ go_on (turn goes steps again seen value) (λ v next. turns (left - (round + 1)) goes steps again (seen ++ v ∷ []) next)
  left_suc seen value left round lt = let e : left - round ≡ suc (left - (round + 1)) = omega arith in ap (λ n. turns n goes steps again seen value) e ∙ whole seen value (left - (round + 1))

  -- it goes on
  pub turn_goes : (left round : ℕ) (seen lent next_seen : List ℤ) (value : Option ℤ) (f0 f g : Fuel) (all : Counted (Result (List ℤ) Fault)) (t : Turn) (v : ℤ) (w : Option ℤ) → round < left → lent ≡ seen → t ≡ Goes v w → Comes f0 f all (turns (left - round) goes steps again seen value) → Meters f g (turn goes steps again lent value) (Ok t)
      → next_seen ≡ cond (list_any (int_eq v) seen) seen (seen ++ v ∷ []) → Comes f0 g all (turns (left - (round + 1)) goes steps again next_seen w)
  turn_goes left round seen lent next_seen value f0 f g all t v w lt same is comes meters put =
      let m : Meters f g (turn goes steps again seen value) (Ok t) = subst (λ (s : List ℤ). Meters f g (turn goes steps again s value) (Ok t)) same meters in
      let went : Goes v w ≡ (turn goes steps again seen value).1 = sym is ∙ m.1 in
      let new : next_seen ≡ seen ++ v ∷ [] = put ∙ ap (λ b. cond b seen (seen ++ v ∷ [])) (turn_fresh seen value v w (sym went)) in
      let rest : ℤ → Option ℤ → Counted (Result (List ℤ) Fault) = λ x next. turns (left - (round + 1)) goes steps again (seen ++ x ∷ []) next in
      let e : turns (left - round) goes steps again seen value ≡ costs (turn goes steps again seen value).0 (rest v w) = left_suc seen value left round lt ∙ goes_so (turn goes steps again seen value).0 (turn goes steps again seen value).1 v w rest went in
      let c = comes.cost in let d = ap (λ (p : Counted (Result (List ℤ) Fault)). p.0) e in
      subst (λ (s : List ℤ). Comes f0 g all (turns (left - (round + 1)) goes steps again s w)) (sym new) (record {
        spent = comes.spent + (turn goes steps again seen value).0;
        value = comes.value ∙ ap (λ (p : Counted (Result (List ℤ) Fault)). p.1) e;
        cost = omega arith;
        spends = spends_on f0 f g comes.spent (turn goes steps again seen value).0 comes.spends m.0;
      })

  -- it ends
  pub turn_ends : (left round : ℕ) (seen lent : List ℤ) (value : Option ℤ) (f0 f g : Fuel) (all : Counted (Result (List ℤ) Fault)) (t : Turn) (end : Result (List ℤ) Fault) → round < left → lent ≡ seen → t ≡ Ends end → Comes f0 f all (turns (left - round) goes steps again seen value) → Meters f g (turn goes steps again lent value) (Ok t)
      → Meters f0 g all (Ok end)
  turn_ends left round seen lent value f0 f g all t end lt same is comes meters =
      let m : Meters f g (turn goes steps again seen value) (Ok t) = subst (λ (s : List ℤ). Meters f g (turn goes steps again s value) (Ok t)) same meters in
      let ended : Ends end ≡ (turn goes steps again seen value).1 = sym is ∙ m.1 in
      let rest : ℤ → Option ℤ → Counted (Result (List ℤ) Fault) = λ x next. turns (left - (round + 1)) goes steps again (seen ++ x ∷ []) next in
      let e : turns (left - round) goes steps again seen value ≡ ((turn goes steps again seen value).0, end) = left_suc seen value left round lt ∙ ends_so (turn goes steps again seen value).0 (turn goes steps again seen value).1 end rest ended in
      let c : all.0 ≡ comes.spent + (turn goes steps again seen value).0 = comes.cost ∙ ap (λ (p : Counted (Result (List ℤ) Fault)). comes.spent + p.0) e in
      (subst (λ (n : ℕ). Spends f0 g n) (sym c) (spends_on f0 f g comes.spent (turn goes steps again seen value).0 comes.spends m.0), sym (comes.value ∙ ap (λ (p : Counted (Result (List ℤ) Fault)). p.1) e))

  -- it halts
  pub turn_halts : (left round : ℕ) (seen lent : List ℤ) (value : Option ℤ) (f0 f g : Fuel) (all : Counted (Result (List ℤ) Fault)) (halted : Halted) → round < left → lent ≡ seen → Comes f0 f all (turns (left - round) goes steps again seen value) → Meters f g (turn goes steps again lent value) (Err halted) → Meters f0 g all (Err halted)
  turn_halts left round seen lent value f0 f g all halted lt same comes meters =
      let m : Meters f g (turn goes steps again seen value) (Err halted) = subst (λ (s : List ℤ). Meters f g (turn goes steps again s value) (Err halted)) same meters in
      let rest : ℤ → Option ℤ → Counted (Result (List ℤ) Fault) = λ x next. turns (left - (round + 1)) goes steps again (seen ++ x ∷ []) next in
      let e = ap (λ (p : Counted (Result (List ℤ) Fault)). p.0) (left_suc seen value left round lt) in
      let l = costs_more (turn goes steps again seen value).0 (turn goes steps again seen value).1 rest in
      let c = comes.cost in
      (halts_on f0 f comes.spent (turn goes steps again seen value).0 all.0 halted comes.spends (omega arith) m.0, tt)

  -- there are no more values
  pub none_left : (left round : ℕ) (seen : List ℤ) (value : Option ℤ) (f0 f : Fuel) (all : Counted (Result (List ℤ) Fault)) → left ≤ round → Comes f0 f all (turns (left - round) goes steps again seen value) → Meters f0 f all (Ok (Err again))
  unfolding turns
  none_left left round seen value f0 f all le comes =
      let z : left - round ≡ 0 = omega arith in
      let e : turns (left - round) goes steps again seen value ≡ (0, Err again) = ap (λ n. turns n goes steps again seen value) z in
      let c : all.0 ≡ comes.spent = comes.cost ∙ ap (λ (p : Counted (Result (List ℤ) Fault)). comes.spent + p.0) e ∙ add-zero comes.spent in
      (subst (λ (n : ℕ). Spends f0 f n) (sym c) comes.spends, sym (comes.value ∙ ap (λ (p : Counted (Result (List ℤ) Fault)). p.1) e))

-- ---- the first value

pub started : (starts : Counted (Result (Option ℤ) Fault)) (fails : Fault → Counted (Result (List ℤ) Fault)) (go : Option ℤ → Counted (Result (List ℤ) Fault)) (f g h : Fuel) (first : Result (Option ℤ) Fault) (start : Option ℤ) (result : Result (Result (List ℤ) Fault) Halted) → first ≡ Ok start → Meters f g starts (Ok first) → Meters g h (go start) result
    → Meters f h (costs starts.0 (given starts.1 fails go)) result
started starts fails go f g h first start result is meters rest =
    let e : Ok start ≡ starts.1 = sym is ∙ meters.1 in
    subst (λ (s : Result (Option ℤ) Fault). Meters f h (costs starts.0 (given s fails go)) result) e (meters_then f g h starts.0 (go start) result meters.0 rest)
