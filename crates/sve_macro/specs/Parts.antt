-- The parts of a list in parentheses, as the actuals of a macro use (IEEE 1800-2017, 22.5.1).
use Rattle.std.specs.Prelude.{ℕ, ◌+◌, ◌-◌, ◌==◌, Bool, true, false, ◌&&◌, ◌||◌, Option, Some, None, option_map, List, [], ◌∷◌, length, take, drop, reverse, min, if◌then◌else◌}
use Rattle.sve_bytes.specs.Bytes.{is_white_space}
use Rattle.sve_bytes.specs.declared.span.Span.{Span}
use Rattle.sve_macro.specs.declared.part.Brackets.{Brackets}
use Rattle.sve_macro.specs.declared.part.Part.{Part}
use Rattle.sve_macro.specs.Cut.{First, pieces}
use Rattle.sve_macro.specs.Literals.{string_rest, escaped_rest}

-- a quote begins a string literal, a backslash an escaped identifier, and any other byte stands for itself
abbrev pub rest_of_piece : List ℕ → ℕ
rest_of_piece [] = 0
rest_of_piece (v ∷ vs) = if v == 34 then string_rest false vs else if v == 92 then escaped_rest vs else 0

abbrev pub first_piece : Unit {0} → List ℕ → First (Unit {0}) (List ℕ)
first_piece state text = record { piece = take (1 + rest_of_piece text) text; more = rest_of_piece text; state = tt }

abbrev pub pieces_of : List ℕ → List (List ℕ)
pieces_of text = pieces first_piece tt text

abbrev pub head_byte : List ℕ → ℕ
head_byte [] = 0
head_byte (v ∷ vs) = v

-- how many `[` and `{` are open, and for each `(` that is open, the innermost first, how many were open before it
pub record Depths : Type 0 where
  pub square : ℕ
  pub curly : ℕ
  pub parens : List (ℕ × ℕ)

abbrev pub depths_of : Brackets → Depths
depths_of o = record { square = o.square; curly = o.curly; parens = reverse o.parens.items }

-- no bracket is open
abbrev pub all_closed : Depths
all_closed = record { square = 0; curly = 0; parens = [] }

-- a `)` closes the nearest `(` with all that was opened inside it
abbrev pub closed : List (ℕ × ℕ) → Depths → Depths
closed [] d = d
closed (p ∷ ps) d = record { square = min p.0 d.square; curly = min p.1 d.curly; parens = ps }

-- how many brackets are open after a byte: they are matched by kind, and a closing one that closes nothing is a byte like others
abbrev pub depths_after : Depths → ℕ → Depths
depths_after d v =
    if v == 40 then record d { parens = (d.square, d.curly) ∷ d.parens }
    else if v == 41 then closed d.parens d
    else if v == 91 then record d { square = d.square + 1 }
    else if v == 93 then record d { square = d.square - 1 }
    else if v == 123 then record d { curly = d.curly + 1 }
    else if v == 125 then record d { curly = d.curly - 1 }
    else d

-- a part ends before a `)` that closes no `(`, and before a `,` outside all brackets
abbrev pub ends_part : Depths → ℕ → Bool
ends_part d v = (v == 41 && length d.parens == 0) || (v == 44 && (length d.parens == 0 && (d.square == 0 && d.curly == 0)))

-- the pieces of the first part, and the pieces from its separator on
abbrev pub split_part : Depths → List (List ℕ) → Option (List (List ℕ) × List (List ℕ))
split_part d [] = None
split_part d (p ∷ ps) =
    if ends_part d (head_byte p) then Some ([], p ∷ ps)
    else option_map (λ r. (p ∷ r.0, r.1)) (split_part (depths_after d (head_byte p)) ps)

-- how many bytes the pieces have
abbrev pub size : List (List ℕ) → ℕ
size [] = 0
size (p ∷ ps) = length p + size ps

-- white space outside string literals and escaped identifiers; the byte that ends an escaped identifier is a part of it
abbrev pub is_blank : List ℕ → Bool
is_blank p = is_white_space (head_byte p)

-- how many bytes of blanks stand in front
abbrev pub front_blanks : List (List ℕ) → ℕ
front_blanks [] = 0
front_blanks (p ∷ ps) = if is_blank p then length p + front_blanks ps else 0

-- the pieces from the first that is no blank on
abbrev pub from_ink : List (List ℕ) → List (List ℕ)
from_ink [] = []
from_ink (p ∷ ps) = if is_blank p then from_ink ps else p ∷ ps

abbrev pub is_nil : List (List ℕ) → Bool
is_nil [] = true
is_nil (p ∷ ps) = false

-- the pieces up to the last that is no blank
abbrev pub to_ink : List (List ℕ) → List (List ℕ)
to_ink [] = []
to_ink (p ∷ ps) = if is_blank p && is_nil (to_ink ps) then [] else p ∷ to_ink ps

-- where a part that begins at a place stands without the blanks at both ends
abbrev pub trimmed : ℕ → List (List ℕ) → Span
trimmed at ps = record { from = at + front_blanks ps; to = at + front_blanks ps + size (to_ink (from_ink ps)) }

-- what stands in a part that is being read, with one more piece, which may be a blank
abbrev pub grown : Option Span → ℕ → ℕ → Bool → Option Span
grown span at len true = span
grown None at len false = Some (record { from = at; to = at + len })
grown (Some span) at len false = Some (record { from = span.from; to = at + len })

-- the part that begins at a place of a text, if a separator ends it
abbrev pub part_of : List ℕ → ℕ → Option Part
part_of text from =
    option_map (λ r. record { span = trimmed from r.0; end = from + size r.0 }) (split_part all_closed (pieces_of (drop from text)))

-- a piece before the first part
abbrev pub with_piece : List ℕ → List (List (List ℕ)) → List (List (List ℕ))
with_piece p [] = (p ∷ []) ∷ []
with_piece p (part ∷ parts) = (p ∷ part) ∷ parts

-- the parts of a list, the last of which its `)` ends, each as its pieces
abbrev pub split_list : Depths → List (List ℕ) → Option (List (List (List ℕ)))
split_list d [] = None
split_list d (p ∷ ps) =
    if ends_part d (head_byte p) then (if head_byte p == 41 then Some ([] ∷ []) else option_map (λ parts. [] ∷ parts) (split_list all_closed ps))
    else option_map (with_piece p) (split_list (depths_after d (head_byte p)) ps)

-- where the parts stand, one byte for the separator behind each
abbrev pub spans : ℕ → List (List (List ℕ)) → List Span
spans at [] = []
spans at (part ∷ parts) = trimmed at part ∷ spans (at + (size part + 1)) parts

-- how many bytes the parts have, with the separator behind each
abbrev pub list_size : List (List (List ℕ)) → ℕ
list_size [] = 0
list_size (part ∷ parts) = size part + 1 + list_size parts

-- the actuals of a list that begins at a place, behind its `(`, and the place behind its `)`, if it ends in the text
abbrev pub actuals_of : List ℕ → ℕ → Option (List Span × ℕ)
actuals_of text from = option_map (λ parts. (spans from parts, from + list_size parts)) (split_list all_closed (pieces_of (drop from text)))
