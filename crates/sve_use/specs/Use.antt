-- How a name is used in an expression (IEEE 1800-2017, 13.4, 23.6, 23.9 and 26.3).
use Rattle.std.specs.Prelude.{ℕ, Bool, true, false, if◌then◌else◌, Option, Some, None, List, [], ◌∷◌, map}
use Rattle.std.specs.List.{list_any}
use Rattle.std.specs.Option.{is_none}
use Rattle.sve_tree.specs.declared.word.ScopedName.{ScopedName}
use Rattle.sve_tree.specs.declared.expression.Select.{Select}
use Rattle.sve_tree.specs.declared.expression.Select.TheVariants as is_select
use Rattle.sve_tree.specs.declared.expression.Postfix.{Postfix}
use Rattle.sve_tree.specs.declared.expression.Postfix.TheVariants as is_postfix

-- A name by itself, perhaps of a package; the name of a function that is called; or a plain name with what is applied to it, where a member is among
-- that, so that it is a hierarchical name or a part of a structure.
pub data Use : Type 0 where
  Named : ScopedName → Use
  Called : ScopedName → Use
  Dotted : ℕ → List Postfix → Use

-- arguments are applied
abbrev pub is_call : Postfix → Bool
is_call (is_postfix.Call' opening _ arguments commas closing) = true
is_call postfix = false

-- the first thing that is applied is a list of arguments
abbrev pub is_called : List Postfix → Bool
is_called [] = false
is_called (postfix ∷ rest) = is_call postfix

abbrev pub is_member_select : Select → Bool
is_member_select (is_select.Member dot name) = true
is_member_select select = false

abbrev pub is_select_postfix : Postfix → Bool
is_select_postfix (is_postfix.Select select) = true
is_select_postfix postfix = false

abbrev pub is_member : Postfix → Bool
is_member (is_postfix.Select select) = is_member_select select
is_member postfix = false

-- a member is among the selects that are applied first
unfoldable pub has_member : List Postfix → Bool
has_member [] = false
has_member (postfix ∷ rest) = if is_member postfix then true else if is_select_postfix postfix then has_member rest else false

-- the member right behind a name, by its token
abbrev pub selected_member : Select → Option ℕ
selected_member (is_select.Member dot name) = Some name
selected_member select = None

abbrev pub applied_member : Postfix → Option ℕ
applied_member (is_postfix.Select select) = selected_member select
applied_member postfix = None

abbrev pub first_member : List Postfix → Option ℕ
first_member [] = None
first_member (postfix ∷ rest) = applied_member postfix

-- how a plain name is used, where nothing calls it
abbrev pub plain_use : Bool → ScopedName → List Postfix → Use
plain_use dotted name postfixes = if dotted then Dotted name.name postfixes else Named name

-- how a name is used, by what is applied to it; a name of a package stands for what the package declares
abbrev pub use_of : ScopedName → List Postfix → Use
use_of name postfixes = if is_called postfixes then Called name else if is_none name.scope then plain_use (has_member postfixes) name postfixes else Named name

-- a name of no package
abbrev pub plain : ℕ → ScopedName
plain name = record { scope = None; name = name }

-- selects, as what is applied to a name
abbrev pub applied : List Select → List Postfix
applied selects = map is_postfix.Select selects

-- how a plain name with selects is used on the left of an assignment
abbrev pub left_use : ℕ → List Select → Use
left_use name selects = plain_use (list_any is_member_select selects) (plain name) (applied selects)
