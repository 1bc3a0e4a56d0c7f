-- A scope, as the lists of what is declared in it and imported into it, and how it grows (IEEE 1800-2017, 23.9 and 26.3).
use Rattle.std.specs.Prelude.{ℕ, zero, suc, Bool, false, not, ◌||◌, List, [], ◌∷◌, Option, Some, None, is_some, nat_eq, if◌then◌else◌}
use Rattle.std.specs.Cmp.Lexicographic.{pointwise}
use Rattle.sve_table.specs.Tables.{item_of, with_item}
use Rattle.sve_scope.specs.declared.declared.Declared.{Declared}
use Rattle.sve_scope.specs.declared.import.Explicit.{Explicit}
use Rattle.sve_scope.specs.declared.scope.Scope.{Scope}
use Rattle.sve_scope.specs.declared.scope.Entered.{Entered}
use Rattle.sve_scope.specs.declared.scope.Entered.TheVariants.{New, Again, Clashing}
use Rattle.sve_scope.specs.Spots.{stands_before}
use Rattle.sve_scope.specs.Declarations.{declared_name}
use Rattle.sve_scope.specs.Imports.{WildcardImport}

-- what is found in a table by a name, and by a name itself
abbrev pub import_name : Explicit → List ℕ
import_name i = i.name

abbrev pub wildcard_name : WildcardImport → List ℕ
wildcard_name w = w.from

abbrev pub itself : List ℕ → List ℕ
itself n = n

abbrev pub declaration_of : List ℕ → List Declared → Option Declared
declaration_of = item_of declared_name

abbrev pub import_of : List ℕ → List Explicit → Option Explicit
import_of = item_of import_name

-- a scope with nothing in it
abbrev pub empty_scope : List ℕ → ℕ → Scope
empty_scope file chunk = record { file = file; chunk = chunk; declared = []; ahead = []; explicit = []; wild = []; taken = [] }

-- what is declared by a name, or what the text declares further on, which is seen in the whole scope
abbrev pub or_ahead : List Declared → List ℕ → Option Declared → Option Declared
or_ahead ahead n (Some d) = Some d
or_ahead ahead n None = declaration_of n ahead

abbrev pub declaration_in : Scope → List ℕ → Option Declared
declaration_in s n = or_ahead s.ahead n (declaration_of n s.declared)

-- a declaration that stands further on more, of which the first of a name stays
abbrev pub announcing : Scope → Declared → Scope
announcing s d = record s { ahead = with_item declared_name s.ahead d }

-- a declaration more, of which the first of a name stays
abbrev pub declaring : Scope → Declared → Scope
declaring s d = record s { declared = with_item declared_name s.declared d }

-- a name is imported one by one, or an import of all names of a package has taken effect for it
abbrev pub is_imported : Scope → List ℕ → Bool
is_imported s n = is_some (import_of n s.explicit) || is_some (item_of itself n s.taken)

-- how a declaration comes in: its name is new, and imported
abbrev pub how_declared : Bool → Bool → Entered
how_declared new imported = if new then (if imported then Clashing else New) else Again

abbrev pub declared_as : Scope → List ℕ → Entered
declared_as s n = how_declared (not (is_some (declaration_of n s.declared))) (is_imported s n)

-- the name of an import is declared before it
abbrev pub declared_before : Explicit → Option Declared → Bool
declared_before i None = false
declared_before i (Some d) = stands_before d.at i.at

abbrev pub is_declared_before : Scope → Explicit → Bool
is_declared_before s i = declared_before i (declaration_of i.name s.declared)

-- an import of one name more, where the name is not declared before it; the first of a name stays
abbrev pub importing : Scope → Explicit → Scope
importing s i = if is_declared_before s i then s else record s { explicit = with_item import_name s.explicit i }

-- how it comes in: the name is imported already, from the same package or from another
abbrev pub how_imported : Explicit → Option Explicit → Entered
how_imported i None = New
how_imported i (Some known) = if pointwise nat_eq known.from i.from then Again else Clashing

abbrev pub imported_as : Scope → Explicit → Entered
imported_as s i = if is_declared_before s i then Clashing else how_imported i (import_of i.name s.explicit)

-- an import of all names of a package more, the first of a package stays
abbrev pub importing_all : Scope → WildcardImport → Scope
importing_all s w = record s { wild = with_item wildcard_name s.wild w }

-- a name more that a use has found through an import of all names of a package
abbrev pub taking : Scope → List ℕ → Scope
taking s n = record s { taken = with_item itself s.taken n }

-- the same in one of many scopes, by its place
abbrev pub taking_at : List Scope → ℕ → List ℕ → List Scope
taking_at [] place n = []
taking_at (s ∷ ss) zero n = taking s n ∷ ss
taking_at (s ∷ ss) (suc place) n = s ∷ taking_at ss place n
