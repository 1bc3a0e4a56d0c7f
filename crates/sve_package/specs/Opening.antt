-- The functions that a text declares further on (IEEE 1800-2017, 13.4, 23.9 and clause 26).
use Rattle.std.specs.Prelude.{ℕ, Bool, not, ◌||◌, ◌&&◌, List, [], Option, Some, None, is_some, if◌then◌else◌}
use Rattle.std.specs.List.{fold}
use Rattle.sve_table.specs.Tables.{item_of, with_item}
use Rattle.sve_scope.specs.declared.declared.Declared.{Declared}
use Rattle.sve_scope.specs.declared.scope.Scope.{Scope}
use Rattle.sve_scope.specs.declared.what.What.TheVariants as is_what
use Rattle.sve_scope.specs.Scopes.{declaration_of, itself}
use Rattle.sve_tree.specs.declared.element.UnitItem.{UnitItem}
use Rattle.sve_tree.specs.declared.token_word.Word.{Word}
use Rattle.sve_heading.specs.declared.heading.Heading.{Heading}
use Rattle.sve_heading.specs.Items.{headings}
use Rattle.sve_known.specs.Naming.{name_at}
use Rattle.sve_contents.specs.declared.contents.Contents.{Contents}
use Rattle.sve_contents.specs.Reading.{announcing_in, spot_in}
use Rattle.sve_package.specs.declared.opening.Opening.{Opening}

-- Before the text comes to a function, the type of its result is not known (own).
abbrev pub function_of : Contents → ℕ → List ℕ → Declared
function_of c token n = record { name = n; what = is_what.Function None; at = spot_in c token; from = token }

abbrev pub function_at : Contents → ℕ → List ℕ → Contents
function_at c token n = announcing_in c (function_of c token n)

-- a name is declared in the scope, or by the text so far
abbrev pub is_declared : Scope → List (List ℕ) → List ℕ → Bool
is_declared s names n = is_some (declaration_of n s.declared) || is_some (item_of itself n names)

-- a function is seen ahead where no declaration of its name stands before it, since a second one declares nothing
abbrev pub is_ahead : Opening → Heading → List ℕ → Bool
is_ahead o h n = h.is_function && not (is_declared o.contents.scope o.names n)

abbrev pub announced_if : Contents → Bool → ℕ → List ℕ → Contents
announced_if c b token n = if b then function_at c token n else c

-- what the text declares, name by name
abbrev pub with_named : Opening → Heading → List ℕ → Opening
with_named o h n = record { contents = announced_if o.contents (is_ahead o h n) h.token n; names = with_item itself o.names n }

abbrev pub with_name_if : Opening → Heading → Option (List ℕ) → Opening
with_name_if o h None = o
with_name_if o h (Some n) = with_named o h n

module _ (ws : List Word) where
  abbrev pub with_heading : Opening → Heading → Opening
  with_heading o h = with_name_if o h (name_at ws h.token)

  abbrev pub opened_with : Contents → List Heading → List (List ℕ) → Contents
  opened_with c hs names = (fold with_heading (record { contents = c; names = names }) hs).contents

  abbrev pub opened : Contents → List UnitItem → Contents
  opened c items = opened_with c (headings items) []
