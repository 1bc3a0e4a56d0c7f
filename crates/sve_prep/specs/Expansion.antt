-- A whole expansion (IEEE 1800-2017, clause 22).
use Rattle.std.specs.Prelude.{ℕ, zero, suc, ◌+◌, ◌-◌, ◌*◌, true, List, [], length, Option, Some, None}
use Rattle.sve_bytes.specs.declared.net_type.NetType.{NetType}
use Rattle.sve_bytes.specs.declared.net_type.NetType.TheVariants.{Wire}
use Rattle.sve_unread.specs.Bytes.{laid}
use Rattle.sve_macro.specs.Macros.{Entries}
use Rattle.sve_prep.specs.Told.{Told, noted}
use Rattle.sve_prep.specs.State.{State, limit}
use Rattle.sve_prep.specs.Uses.{Next, Goes, Ends, Needs}
use Rattle.sve_prep.specs.Step.{step}

-- what an expansion comes to: it is done, or it needs a name of which nothing is told
pub data Outcome : Type 0 where
  Done : State → Outcome
  Wants : List ℕ → State → Outcome

abbrev pub carry_on : Next → (State → Outcome) → Outcome
carry_on (Goes s) then = then s
carry_on (Ends s) then = Done s
carry_on (Needs name s) then = Wants name s

-- at most n steps
unfoldable pub run : ℕ → Told → State → Outcome
run zero told s = Done s
run (suc n) told s = carry_on (step told s) (run n told)

-- each step takes from this number, since what is put in place is paid for in work
unfoldable pub left : State → ℕ
left s = 2 * length s.rest + 2 * (limit - s.work) + length s.conditions

-- all the steps that are left: one step, and then the rest
unfoldable pub go : Told → State → Outcome
go told s = run (suc (left s)) told s

-- what holds where a file begins
pub record Start : Type 0 where
  pub table : Entries
  pub net_type : NetType

-- no macro is defined, and implicit nets are wires (22.8)
abbrev pub fresh : Start
fresh = record { table = []; net_type = Wire }

abbrev pub begin_with : Start → Option (List (List ℕ)) → List ℕ → List ℕ → State
begin_with start asked root text = record {
  rest = laid text (record { file = root; offset = 0; copied = true }) 1 [] 0;
  table = start.table;
  conditions = [];
  work = length text;
  net_type = start.net_type;
  out = [];
  diags = [];
  net_types = [];
  asked = noted root asked;
}

-- a root that is absent is as an empty text (own)
abbrev pub expand_found : Told → Start → Option (List (List ℕ)) → List ℕ → Option (Option (List ℕ)) → Outcome
expand_found told start asked root None = Wants root (begin_with start asked root [])
expand_found told start asked root (Some None) = go told (begin_with start asked root [])
expand_found told start asked root (Some (Some text)) = go told (begin_with start asked root text)

-- the expansion of a root over what is told, where these names were asked for already
abbrev pub expand : Told → Start → Option (List (List ℕ)) → List ℕ → Outcome
expand told start asked root = expand_found told start asked root (told root)
