-- How long a run of the machine is.
use Rattle.std.specs.Prelude.{ℕ, suc, List}
use Rattle.sve_token.specs.declared.token.Token.{Token}
use Rattle.sve_grammar.specs.Machine.{State, Comes, here, then}

-- how many steps a run has
abbrev pub steps_of : {ts : List Token} {s t : State} → Comes ts s t → ℕ
steps_of here = 0
steps_of (then _ _ _ _ more) = suc (steps_of more)
