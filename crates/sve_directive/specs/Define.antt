-- The text of a macro definition, its name, formals and text (IEEE 1800-2017, 22.5.1).
use Rattle.std.specs.Prelude.{ℕ, zero, suc, ◌+◌, ◌==◌, ◌&&◌, ◌||◌, Bool, true, false, not, nat_le, if◌then◌else◌, Option, Some, None, option_map, List, [], ◌∷◌, length, take, drop, bytes_eq}
use Rattle.std.specs.List.{list_all}
use Rattle.sve_macro.specs.declared.definition.Definition.{Definition}
use Rattle.sve_macro.specs.declared.part.Part.{Part}
use Rattle.sve_macro.specs.Parts.{part_of}
use Rattle.sve_bytes.specs.Bytes.{identifier_length}
use Rattle.sve_directive.specs.declared.directive.MacroName.{MacroName}
use Rattle.sve_directive.specs.declared.directive.MacroName.TheVariants.{Name, TooLong}
use Rattle.sve_directive.specs.Bytes.{begins_with, identifier, trimmed}
use Rattle.sve_directive.specs.Pieces.{gap_length, uncommented}

-- a name has 1 to 1,024 bytes (own)
abbrev pub is_name : List ℕ → Bool
is_name name = nat_le 1 (length name) && nat_le (length name) 1024

-- bytes as a name, where they may be one
abbrev pub name_of : List ℕ → Option (List ℕ)
name_of bytes = if is_name bytes then Some bytes else None

-- the identifier that is the next part: white space and block comments may stand before it
abbrev pub argument : List ℕ → List ℕ
argument text = identifier (drop (gap_length text) text)

abbrev pub argument_end : List ℕ → ℕ
argument_end text = gap_length text + identifier_length (drop (gap_length text) text)

-- the name that is the next part, and the place after it; none where there is no identifier, or where it is too long
abbrev pub argument_of : List ℕ → Option (List ℕ × ℕ)
argument_of text = option_map (λ name. (name, argument_end text)) (name_of (argument text))

-- the name of a macro in another directive: no macro has a name above 1,024 bytes (own)
abbrev pub macro_name_of : List ℕ → Option MacroName
macro_name_of [] = None
macro_name_of (b ∷ bs) = Some (if is_name (b ∷ bs) then Name (b ∷ bs) else TooLong)

-- the name of a macro that is the next part, and the place after it; none where there is no identifier
abbrev pub macro_argument_of : List ℕ → Option (MacroName × ℕ)
macro_argument_of text = option_map (λ name. (name, argument_end text)) (macro_name_of (argument text))

-- how many bytes belong to a definition after its backtick and word: up to the first line feed with no backslash directly
-- before it. slash: a backslash stands directly before.
abbrev pub own_length : Bool → List ℕ → ℕ
own_length slash [] = 0
own_length slash (b ∷ bs) = if b == 10 && not slash then 0 else 1 + own_length (b == 92) bs

-- a backslash directly before a line feed
abbrev pub continues : List ℕ → Bool
continues [] = false
continues (b ∷ bs) = b == 92 && begins_with 10 bs

-- a definition's bytes without the backslashes that stand directly before a line feed
abbrev pub joined : List ℕ → List ℕ
joined [] = []
joined (b ∷ bs) = if continues (b ∷ bs) then joined bs else b ∷ joined bs

-- what a definition says after its word: lines joined, one-line comments left out
abbrev pub said : List ℕ → List ℕ
said after = uncommented (joined (take (own_length false after) after))

-- a formal, with its default where it has one
abbrev pub Formal : Type 0
Formal = List ℕ × Option (List ℕ)

abbrev pub default_in : List ℕ → Part → List ℕ
default_in text part = drop part.span.from (take part.span.to text)

-- a formal with a default, if a separator ends it
abbrev pub defaulted : List ℕ → List ℕ → Option Part → Option (Formal × ℕ)
defaulted name text None = None
defaulted name text (Some part) = Some ((name, Some (default_in text part)), part.end)

-- a formal whose name was read: at a place of the text its default begins with `=`, or a `,` or `)` ends it
abbrev pub formal_named : List ℕ → List ℕ → ℕ → Option (Formal × ℕ)
formal_named name text at =
    if begins_with 61 (drop at text) then defaulted name text (part_of text (at + 1))
    else if begins_with 44 (drop at text) || begins_with 41 (drop at text) then Some ((name, None), at)
    else None

abbrev pub formal_after : List ℕ → Option (List ℕ × ℕ) → Option (Formal × ℕ)
formal_after text None = None
formal_after text (Some (name, n)) = formal_named name text (n + gap_length (drop n text))

-- the formal at the head of a text, and the place of the `,` or `)` that ends it
unfoldable pub formal_of : List ℕ → Option (Formal × ℕ)
formal_of text = formal_after text (argument_of text)

-- what follows the formal's separator
abbrev pub after_formal : List ℕ → Option (Formal × ℕ) → List ℕ
after_formal text None = []
after_formal text (Some f) = drop (f.1 + 1) text

abbrev pub with_formal : Formal × ℕ → Option (List Formal × ℕ) → Option (List Formal × ℕ)
with_formal f None = None
with_formal f (Some more) = Some (f.0 ∷ more.0, f.1 + 1 + more.1)

-- a formal that `)` ends is the last
abbrev pub formals_after : List ℕ → Option (Formal × ℕ) → Option (List Formal × ℕ) → Option (List Formal × ℕ)
formals_after text None more = None
formals_after text (Some f) more = if begins_with 41 (drop f.1 text) then Some (f.0 ∷ [], f.1 + 1) else with_formal f more

-- at most n formals, of which one must stand here, and the place after the `)` that ends them
unfoldable pub formals_in : ℕ → List ℕ → Option (List Formal × ℕ)
formals_in zero text = None
formals_in (suc n) [] = None
formals_in (suc n) (b ∷ bs) = formals_after (b ∷ bs) (formal_of (b ∷ bs)) (formals_in n (after_formal (b ∷ bs) (formal_of (b ∷ bs))))

-- the formals after their `(`, and the place after their `)`; each has a byte. An empty list has none (own).
unfoldable pub formals_of : List ℕ → Option (List Formal × ℕ)
formals_of text =
    if begins_with 41 (drop (gap_length text) text) then Some ([], gap_length text + 1)
    else formals_in (length text) text

-- no formal has the name of another
abbrev pub is_new : List ℕ → List Formal → Bool
is_new name formals = list_all (λ formal. not (bytes_eq name formal.0)) formals

abbrev pub have_distinct_names : List Formal → Bool
have_distinct_names [] = true
have_distinct_names (f ∷ fs) = is_new f.0 fs && have_distinct_names fs

-- two formals of one name are not of the form (own)
abbrev pub with_formals : List ℕ → Option (List Formal × ℕ) → Option Definition
with_formals text None = None
with_formals text (Some list) =
    if have_distinct_names list.0 then Some (record { formals = list.0; has_list = true; text = trimmed (drop list.1 text) })
    else None

-- the macro of what follows its name: formals where `(` stands directly there, and its text, without white space at both ends
unfoldable pub macro_of : List ℕ → Option Definition
macro_of text =
    if begins_with 40 text then with_formals (drop 1 text) (formals_of (drop 1 text))
    else Some (record { formals = []; has_list = false; text = trimmed text })
