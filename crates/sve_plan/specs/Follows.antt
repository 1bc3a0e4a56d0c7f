-- When a call that reads through an object follows a plan, and what a call that asks nothing costs (own).
use Rattle.std.specs.Prelude.{◌≡◌, Some, None, Result, Ok, Err, IfOk}
use Rattle.sve_io.specs.declared.halt.Halt.{Halt}
use Rattle.sve_io.specs.declared.halt.Halt.TheVariants as is_halt
use Rattle.sve_fault.specs.declared.fuel.Fuel.{Fuel}
use Rattle.sve_fault.specs.declared.fuel.Halted.{Halted}
use Rattle.sve_fault.specs.declared.fuel.Halted.TheVariants as is_halted
use Rattle.sve_fault.specs.Counts.{Counts, IsFuel}
use Rattle.sve_told.specs.Told.{Told, Holds, Matches, TellSame, HasStopped, asked_on, Sight}
use Rattle.sve_plan.specs.declared.stop.Stop.{Stop}
use Rattle.sve_plan.specs.declared.stop.Stop.TheVariants as is_stop
use Rattle.sve_plan.specs.Plan.{Plan, Give, Over, Needs, Counted, run, asks}

-- what ends a call that counts ends one that follows a plan
abbrev pub stop_of : Halted → Stop
stop_of is_halted.Over = is_stop.Over
stop_of is_halted.NoMemory = is_stop.Halted is_halt.NoMemory

-- A call that asks nothing finds the value, and counts its cost.
abbrev pub Meters : {X : Type 0} → Fuel → Fuel → Counted X → Result X Halted → Type 0
Meters before after counted result = Counts result before after counted.0 × IfOk result (λ x. x ≡ counted.1)

-- With an object and fuel as they were at first and as they are now, the whole plan comes to what the rest of it comes to, over whatever holds what the
-- object tells; and what was asked at first with what the whole asks is what has been asked with what the rest asks.
pub record Reaches {Q : Type 0} {A : Q → Type 0} {W X : Type 0} (sight : Sight A W) (old new : W) (before after : Fuel) (whole rest : Plan A X) : Type 0 where
  pub tells : TellSame (sight.tells old) (sight.tells new)
  pub keeps : sight.keeps old new
  pub not_halted : sight.halted new ≡ sight.halted old
  pub not_stopped : sight.stops new ≡ sight.stops old
  pub most : after.most ≡ before.most
  pub fuel : IsFuel after
  pub comes : (told : Told A) → Holds told (sight.tells old) → run told before.most before.used whole ≡ run told before.most after.used rest
  pub asked : (told : Told A) → Holds told (sight.tells old) → asked_on (asks told before.most before.used whole) (sight.asked old) ≡ asked_on (asks told before.most after.used rest) (sight.asked new)

-- the plan costs more than may be spent, and was asked for what it asks
pub record Exceeds {Q : Type 0} {A : Q → Type 0} {W X : Type 0} (sight : Sight A W) (old new : W) (before : Fuel) (whole : Plan A X) : Type 0 where
  pub tells : TellSame (sight.tells old) (sight.tells new)
  pub keeps : sight.keeps old new
  pub not_halted : sight.halted new ≡ sight.halted old
  pub not_stopped : sight.stops new ≡ sight.stops old
  pub over : (told : Told A) → Holds told (sight.tells old) → run told before.most before.used whole ≡ Over
  pub asked : (told : Told A) → Holds told (sight.tells old) → sight.asked new ≡ asked_on (asks told before.most before.used whole) (sight.asked old)

-- the object halted, or there was no memory; and where the object halted at a question, the plan needs it, and the object was asked for what it asks
pub record Halts {Q : Type 0} {A : Q → Type 0} {W X : Type 0} (sight : Sight A W) (old new : W) (before : Fuel) (whole : Plan A X) (halt : Halt) : Type 0 where
  pub tells : TellSame (sight.tells old) (sight.tells new)
  pub keeps : sight.keeps old new
  pub stopped : HasStopped (sight.stops old) (sight.stops new) halt
  pub needs : (told : Told A) → Matches told (sight.tells old) → sight.halted old ≡ None → (q : Q) → sight.halted new ≡ Some q
      → (run told before.most before.used whole ≡ Needs q) × (sight.asked new ≡ asked_on (asks told before.most before.used whole) (sight.asked old))

-- A call with this end follows the plan.
abbrev pub Follows : {Q : Type 0} {A : Q → Type 0} {W X : Type 0} → Sight A W → W → W → Fuel → Fuel → Plan A X → Result X Stop → Type 0
Follows sight old new before after plan (Ok x) = Reaches sight old new before after plan (Give x)
Follows sight old new before after plan (Err is_stop.Over) = Exceeds sight old new before plan
Follows sight old new before after plan (Err (is_stop.Halted halt)) = Halts sight old new before plan halt

-- the end of a call that gives nothing but the state that it leaves
abbrev pub leaving : {S E X : Type 0} → Result X E → S → Result S E
leaving (Ok x) s = Ok s
leaving (Err e) s = Err e

-- the end of a call that gives a value beside that state
abbrev pub giving : {S E X : Type 0} → Result X E → S → Result (X × S) E
giving (Ok x) s = Ok (x, s)
giving (Err e) s = Err e
