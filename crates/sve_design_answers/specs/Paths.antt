-- What the texts of a query about a design spell (own): a path, a plain name, which is spelled as a path of one step, or a hierarchical name.
use Rattle.std.specs.Prelude.{ℕ, Bool, nat_eq, if◌then◌else◌, Option, Some, None, List, [], ◌∷◌, ℤ, codes, drop, length, take}
use Rattle.std.specs.Cmp.Lexicographic.{pointwise}
use Rattle.sve_bytes.specs.declared.path.Path.{Path}
use Rattle.sve_bytes.specs.declared.path.Step.{Step}
use Rattle.sve_bytes.specs.PathReading.{Spells}

-- the path that a text spells, or that it spells none
abbrev pub IsPathOf : List ℕ → Option Path → Type 0
IsPathOf text (Some path) = Spells text path.steps
IsPathOf text None = (steps : List Step) → Spells text steps → ⊥

-- one step without an index is a plain name
abbrev pub without_index : List ℕ → Option ℤ → Option (List ℕ)
without_index name None = Some name
without_index name (Some index) = None

abbrev pub name_in : List Step → Option (List ℕ)
name_in [] = None
name_in (step ∷ []) = without_index step.name step.index
name_in (step ∷ next ∷ steps) = None

abbrev pub plain_name : Option Path → Option (List ℕ)
plain_name None = None
plain_name (Some path) = name_in path.steps

-- `$root.` may stand in front of a hierarchical name (IEEE 1800-2017, 23.6)
abbrev pub root_mark : List ℕ
root_mark = codes "$root."

abbrev pub is_rooted : List ℕ → Bool
is_rooted text = pointwise nat_eq (take (length root_mark) text) root_mark

-- the text behind it
abbrev pub without_root : List ℕ → List ℕ
without_root text = if is_rooted text then drop (length root_mark) text else text

-- a name with `$root` in front of it is none that is plain
abbrev pub plain_unless : Bool → Option Path → Option (List ℕ)
plain_unless rooted name = if rooted then None else plain_name name
