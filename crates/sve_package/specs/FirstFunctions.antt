-- Which functions are seen before the text comes to them (IEEE 1800-2017, 13.4 and 23.9): of each name the first declaration of the text, where that is a function.
use Rattle.std.specs.Prelude.{◌≡◌, ℕ, Bool, false, List, Option, Some, None, is_some, nat_eq, if◌then◌else◌}
use Rattle.std.specs.Cmp.Lexicographic.{pointwise}
use Rattle.std.specs.List.{find}
use Rattle.std.specs.Option.{option_or}
use Rattle.sve_scope.specs.declared.declared.Declared.{Declared}
use Rattle.sve_scope.specs.Scopes.{declaration_of}
use Rattle.sve_tree.specs.declared.element.UnitItem.{UnitItem}
use Rattle.sve_tree.specs.declared.token_word.Word.{Word}
use Rattle.sve_heading.specs.declared.heading.Heading.{Heading}
use Rattle.sve_heading.specs.Items.{headings}
use Rattle.sve_known.specs.Naming.{name_at}
use Rattle.sve_contents.specs.declared.contents.Contents.{Contents}
use Rattle.sve_package.specs.Opening.{function_of, opened}

abbrev pub is_named : List ℕ → Option (List ℕ) → Bool
is_named n None = false
is_named n (Some m) = pointwise nat_eq n m

-- a function, or nothing where it is another declaration
abbrev pub function_in : Contents → List ℕ → Option Heading → Option Declared
function_in c n None = None
function_in c n (Some h) = if h.is_function then Some (function_of c h.token n) else None

module _ (ws : List Word) (n : List ℕ) where
  -- the first declaration of a name in the text
  abbrev pub first_of : List Heading → Option Heading
  first_of hs = find (λ h. is_named n (name_at ws h.token)) hs

  -- what a text makes seen ahead, unless the name is declared in front of the text
  abbrev pub first_function : Contents → List Heading → Option Declared
  first_function c hs = if is_some (declaration_of n c.scope.declared) then None else function_in c n (first_of hs)

-- what was seen ahead stays
abbrev pub FirstFunctionsAreAhead : Type 0
FirstFunctionsAreAhead = (ws : List Word) (c : Contents) (items : List UnitItem) (n : List ℕ) → declaration_of n (opened ws c items).scope.ahead ≡ option_or (declaration_of n c.scope.ahead) (first_function ws n c (headings items))
