-- What overrides give, in their order, and what is said of them (IEEE 1800-2017, 23.10).
use Rattle.std.specs.Prelude.{◌+◌, ◌-◌, ◌^◌, ℕ, Bool, true, false, List, [], ◌∷◌, ◌++◌, set, length, slice_get, min, nat_lt, nat_eq, Option, Some, None, if◌then◌else◌, not}
use Rattle.std.specs.List.{fold}
use Rattle.sve_diag.specs.declared.code.Code.{Code}
use Rattle.sve_diag.specs.declared.code.Code.TheVariants.{E01, E02, E03, E04, E05}
use Rattle.sve_table.specs.Tables.{item_of}
use Rattle.sve_tree.specs.declared.element.Element.{Element}
use Rattle.sve_tree.specs.declared.token_word.Word.{Word}
use Rattle.sve_known.specs.Naming.{name_at}
use Rattle.sve_spec.specs.declared.given.Given.{Given}
use Rattle.sve_spec.specs.declared.given.Given.TheVariants.{Default, Value, Bad}
use Rattle.sve_param.specs.declared.giving.Giving.{Giving}
use Rattle.sve_param.specs.declared.giving.Gives.{Gives}
use Rattle.sve_param.specs.declared.numbered.Numbered.{Numbered}
use Rattle.sve_param.specs.declared.numbered.Parameter.{Parameter}
use Rattle.sve_param.specs.declared.numbered.Required.{Required}
use Rattle.sve_param.specs.declared.overriding.Override.{Override}
use Rattle.sve_param.specs.Places.{numbered, parameter_name}

abbrev pub is_default : Option Given → Bool
is_default (Some Default) = true
is_default (Some (Value v)) = false
is_default (Some Bad) = false
is_default None = false

-- a place is there, and nothing is given at it
abbrev pub is_free : List Given → ℕ → Bool
is_free given place = is_default (slice_get given place)

-- of two overrides of one parameter the first counts
abbrev pub placed : Giving → ℕ → Given → Giving
placed g place value = if is_free g.given place then record g { given = set g.given place value } else g

abbrev pub counted : Giving → Giving
counted g = record g { next = min (g.next + 1) (2 ^ 64 - 1) }

abbrev pub in_form : Option Bool → Bool → Bool
in_form (Some true) by_order = by_order
in_form (Some false) by_order = not by_order
in_form None by_order = true

abbrev pub with_form : Giving → Bool → Giving
with_form g by_order = record g { form = Some by_order }

-- a parameter that has no value of its own and is given none; one that cannot be overridden is never given one
abbrev pub is_missing : List Given → Option ℕ → Bool
is_missing given (Some place) = is_free given place
is_missing given None = true

abbrev pub no_givings : List Given → Giving
no_givings given = record { given = given; notes = []; form = None; next = 0 }

module _ (file : List ℕ) (chunk : ℕ) where
  -- a note more, at a token of the chunk of the instance
  abbrev pub noted : Giving → ℕ → Code → Option (List ℕ) → Giving
  noted g token code arg = record g { notes = g.notes ++ (record { file = file; chunk = chunk; token = token; code = code; arg = arg }) ∷ [] }

  -- by name: a local parameter, and a name of no parameter, are said
  abbrev pub by_place : Giving → List ℕ → Given → ℕ → Option ℕ → Giving
  by_place g name value token (Some place) = placed g place value
  by_place g name value token None = noted g token E02 (Some name)

  abbrev pub named : Giving → List ℕ → Given → ℕ → Option Parameter → Giving
  named g name value token (Some parameter) = by_place g name value token parameter.place
  named g name value token None = noted g token E01 (Some name)

  -- by order: the first in excess is said
  abbrev pub ordered : Giving → Given → ℕ → Giving
  ordered g value token =
      if nat_lt g.next (length g.given) then placed (counted g) g.next value
      else if nat_eq g.next (length g.given) then noted (counted g) token E03 None else counted g

  -- an override of another form than the first is said, and gives nothing
  abbrev pub takes_named : List Parameter → Giving → List ℕ → Given → ℕ → Giving
  takes_named ps g name value token = if in_form g.form false then named (with_form g false) name value token (item_of parameter_name name ps) else noted g token E04 None

  abbrev pub takes_ordered : Giving → Given → ℕ → Giving
  takes_ordered g value token = if in_form g.form true then ordered (with_form g true) value token else noted g token E04 None

  abbrev pub takes_by : List Parameter → Giving → Given → ℕ → Option (List ℕ) → Giving
  takes_by ps g value token (Some name) = takes_named ps g name value token
  takes_by ps g value token None = takes_ordered g value token

  abbrev pub takes : List Parameter → Giving → Override → Giving
  takes ps g o = takes_by ps g o.given o.token o.name

  abbrev pub taken : List Parameter → List Given → List Override → Giving
  taken ps given overrides = fold (takes ps) (no_givings given) overrides

  -- what is missing is said at the instance
  abbrev pub missing : List Word → ℕ → Giving → Required → Giving
  missing words at g r = if is_missing g.given r.place then noted g at E05 (name_at words r.token) else g

  abbrev pub giving_over : List Word → ℕ → Numbered → List Override → Giving
  giving_over words at n overrides = fold (missing words at) (taken n.parameters n.given overrides) n.required

abbrev pub gives_of : Giving → Gives
gives_of g = record { given = g.given; notes = g.notes }

-- the overrides in turn, and then what is missing
abbrev pub given_by : Element → List Override → List ℕ → ℕ → ℕ → Gives
given_by element overrides file chunk at = gives_of (giving_over file chunk element.words.items at (numbered element) overrides)
