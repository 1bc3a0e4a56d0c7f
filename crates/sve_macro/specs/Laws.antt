-- What holds of the definitions, in the words of texts, separators and brackets.
use Rattle.std.specs.Prelude.{◌≡◌, ℕ, ◌+◌, ◌-◌, ◌≤◌, ◌==◌, false, Option, Some, None, List, [], ◌∷◌, ◌++◌, length, drop, if◌then◌else◌}
use Rattle.sve_macro.specs.declared.definition.Definition.{Definition}
use Rattle.sve_macro.specs.declared.lexeme.Kind.TheVariants.{Word}
use Rattle.sve_macro.specs.Lexemes.{Lexeme, lexemes}
use Rattle.sve_macro.specs.Parts.{pieces_of, head_byte, all_closed, split_part, split_list, list_size}
use Rattle.sve_macro.specs.Substitution.{actual_of, substituted}

-- the bytes of the pieces
abbrev pub joined : List (List ℕ) → List ℕ
joined [] = []
joined (p ∷ ps) = p ++ joined ps

-- the parts as they stand, with a comma between each and the next and a `)` behind the last
abbrev pub spelled : List (List (List ℕ)) → List ℕ
spelled [] = []
spelled (part ∷ []) = joined part ++ 41 ∷ []
spelled (part ∷ (next ∷ parts)) = joined part ++ 44 ∷ spelled (next ∷ parts)

-- the actuals with their blanks and separators are the text that was read, which ends where the list ends
pub record Spells (text : List ℕ) (parts : List (List (List ℕ))) : Type 0 where
  pub rest : List ℕ
  pub whole : text ≡ spelled parts ++ rest
  pub read : length (spelled parts) ≡ list_size parts

abbrev pub ActualsSpellTheText : Type 0
ActualsSpellTheText =
    (text : List ℕ) (from : ℕ) (parts : List (List (List ℕ))) → split_list all_closed (pieces_of (drop from text)) ≡ Some parts → Spells (drop from text) parts

-- how many of the pieces are this byte
abbrev pub count_of : ℕ → List (List ℕ) → ℕ
count_of v [] = 0
count_of v (p ∷ ps) = (if head_byte p == v then 1 else 0) + count_of v ps

-- the separator is a comma
abbrev pub IsBeforeComma : List (List ℕ) → Type 0
IsBeforeComma [] = ⊥
IsBeforeComma (p ∷ ps) = head_byte p ≡ 44

-- the pieces outside parentheses, of which so many are open
abbrev pub outside : ℕ → List (List ℕ) → List (List ℕ)
outside n [] = []
outside n (p ∷ ps) =
    if head_byte p == 40 then outside (n + 1) ps
    else if head_byte p == 41 then outside (n - 1) ps
    else if n == 0 then p ∷ outside n ps
    else outside n ps

-- a part closes each `(` that it opens and no other, and a part before a comma closes each bracket that it opens outside parentheses
pub record IsBalanced (part behind : List (List ℕ)) : Type 0 where
  pub round : count_of 40 part ≡ count_of 41 part
  pub square : IsBeforeComma behind → count_of 91 (outside 0 part) ≤ count_of 93 part
  pub curly : IsBeforeComma behind → count_of 123 (outside 0 part) ≤ count_of 125 part

abbrev pub BracketsAreBalanced : Type 0
BracketsAreBalanced =
    (text : List ℕ) (r : List (List ℕ) × List (List ℕ)) → split_part all_closed (pieces_of text) ≡ Some r → IsBalanced r.0 r.1

-- no word is a formal
abbrev pub HasNoFormal : (List ℕ → Option (List ℕ)) → List Lexeme → Type 0
HasNoFormal of_word [] = Unit {0}
HasNoFormal of_word (x ∷ xs) = (x.kind ≡ Word → of_word x.text ≡ None) × HasNoFormal of_word xs

abbrev pub HasNoBacktick : List ℕ → Type 0
HasNoBacktick [] = Unit {0}
HasNoBacktick (v ∷ vs) = ((v == 96) ≡ false) × HasNoBacktick vs

-- a text without formals and backticks is left as it is
abbrev pub PlainTextStays : Type 0
PlainTextStays =
    (m : Definition) (actuals : List (List ℕ)) → HasNoBacktick m.text → HasNoFormal (actual_of m actuals) (lexemes m.text) → substituted m actuals ≡ m.text
