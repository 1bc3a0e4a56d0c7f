-- What a name means in a scope of a body, all of whose text is seen (IEEE 1800-2017, 23.9 and 26.3).
use Rattle.std.specs.Prelude.{ℕ, Option, Some, None, List, [], ◌∷◌, find, option_map}
use Rattle.std.specs.Ordering.{eq_by_cmp}
use Rattle.std.specs.Cmp.Lexicographic.{pointwise}
use Rattle.sve_bytes.specs.PathOrder.{step_cmp}
use Rattle.sve_bytes.specs.declared.path.Step.{Step}
use Rattle.sve_scope.specs.declared.scope.Scope.{Scope}
use Rattle.sve_scope.specs.Lookup.{Meaning, nothing, looked_up}
use Rattle.sve_facts.specs.declared.facts.BodyScope.{BodyScope}

-- the greatest number that a token may have: a use there stands behind all tokens of its chunk
abbrev pub last_token : ℕ
last_token = 4294967295

-- the scope at a path from the body: the body's own has no step, that of a generate block the path of the block
abbrev pub scope_at : List BodyScope → List Step → Option Scope
scope_at scopes steps = option_map (λ s. s.scope) (find (λ s. pointwise (eq_by_cmp step_cmp) s.path.steps steps) scopes)

-- what a name means in a scope by itself, where there is one: all of its text is seen
abbrev pub meaning_in : List ℕ → Option Scope → Meaning
meaning_in n None = nothing
meaning_in n (Some s) = looked_up (s ∷ []) n last_token
