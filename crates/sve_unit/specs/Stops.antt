-- The diagnostic of a chunk that the grammar refuses (own).
use Rattle.std.specs.Prelude.{ℕ, Bool, false, ◌||◌, List, [], ◌∷◌, Option, Some, None, codes, if◌then◌else◌}
use Rattle.std.specs.List.{slice_get}
use Rattle.sve_token.specs.declared.kind.Kind.{Kind}
use Rattle.sve_token.specs.declared.kind.Kind.TheVariants as is_kind
use Rattle.sve_token.specs.declared.token.Token.{Token}
use Rattle.sve_grammar.specs.Token.{has_kind, kind_at}
use Rattle.sve_diag.specs.declared.code.Code.{Code}
use Rattle.sve_diag.specs.declared.code.Code.TheVariants.{S01, S02, S03}
use Rattle.sve_diag.specs.declared.diag.Diag.{Diag}
use Rattle.sve_diag.specs.declared.diag.Place.{Place}
use Rattle.sve_unit.specs.Chunks.{ends_chunk}

-- whether an end word stands in a chunk
abbrev pub is_closed : List Token → Bool
is_closed [] = false
is_closed (t ∷ ts) = ends_chunk t || is_closed ts

-- the place of the last token, where there is one
abbrev pub last_place : List Token → Place → Place
last_place [] place = place
last_place (t ∷ ts) place = last_place ts t.place

-- where the end of a chunk stands
abbrev pub end_mark : List Token → Place → Place
end_mark tokens file_end = if is_closed tokens then last_place tokens file_end else file_end

-- where the token of a number stands, or the end behind the last token
abbrev pub place_of : Option Token → Place → Place
place_of (Some t) end = t.place
place_of None end = end

abbrev pub place_at : List Token → ℕ → Place → Place
place_at tokens index file_end = place_of (slice_get tokens index) (end_mark tokens file_end)

-- the code of a stop, by whether it stands at bytes that are no token and whether the nesting is too deep
abbrev pub code_of : Bool → Bool → Code
code_of bad deep = if bad then S01 else if deep then S03 else S02

-- what stands there
abbrev pub spelled : Kind → List ℕ → List ℕ
spelled is_kind.Decimal spelling = codes "number"
spelled is_kind.Based spelling = codes "number"
spelled is_kind.Unbased spelling = codes "number"
spelled is_kind.Text spelling = codes "string"
spelled kind spelling = spelling

abbrev pub what_stands : Option Token → List ℕ
what_stands None = codes "end"
what_stands (Some t) = spelled t.kind t.spelling

-- which is said where the code does not tell all
abbrev pub argument_of : Bool → Option Token → Option (List ℕ)
argument_of told token = if told then None else Some (what_stands token)

-- the diagnostic of a chunk's tokens where the grammar's machine stops at this number
abbrev pub stop_diag : List Token → ℕ → Bool → Place → Diag
stop_diag tokens index deep file_end =
    let bad = has_kind (kind_at tokens index) is_kind.Bad in
    record {
      place = place_at tokens index file_end;
      code = code_of bad deep;
      arg = argument_of (bad || deep) (slice_get tokens index);
    }
