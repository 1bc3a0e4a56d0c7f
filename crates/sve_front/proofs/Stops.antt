-- What is said of a chunk: nothing where the grammar accepts it, else the one diagnostic of its stop.
use Rattle.std.proofs.Common.{◌≡◌, List, [], ◌∷◌, ◌++◌, length, Ok, Err, refl, sym, ap, ◌∙◌}
use Rattle.std.proofs.lemmas.Bool.{eq-eqb}
use Rattle.std.proofs.lemmas.List.{append-nil}
use Rattle.sve_diag.specs.declared.diag.Diag.{Diag}
use Rattle.sve_diag.specs.declared.diag.Place.{Place}
use Rattle.sve_token.specs.declared.token.Token.{Token}
use Rattle.sve_grammar.specs.Items.{chunk}
use Rattle.sve_grammar.specs.Machine.{Halt}
use Rattle.sve_grammar.specs.Reading.{Tree, at_depth}
use Rattle.sve_element.specs.Chunk.{whole, read_whole}
use Rattle.sve_unit.specs.Stops.{stop_diag}
use Rattle.sve_front.specs.Diagnostics.{stop_of, chunk_diags}

-- reading that takes all tokens reads the whole
pub whole_is_read : (ts : List Token) (t : Tree) → at_depth ts 0 chunk 0 ≡ Ok (t, length ts) → read_whole ts ≡ Ok (t, length ts)
whole_is_read ts t h = ap (whole (length ts)) h ∙ rw (eq-eqb (length ts) (length ts) refl) refl

pub nothing_is_said : (end : Place) (ts : List Token) (t : Tree) (diags : List Diag) → at_depth ts 0 chunk 0 ≡ Ok (t, length ts) → diags ≡ diags ++ chunk_diags end ts
nothing_is_said end ts t diags h = sym (append-nil diags) ∙ sym (ap (λ a. diags ++ stop_of ts end a) (whole_is_read ts t h))

pub stop_is_said : (end : Place) (ts : List Token) (h : Halt) → read_whole ts ≡ Err h → chunk_diags end ts ≡ stop_diag ts h.index h.deep end ∷ []
stop_is_said end ts h is = ap (stop_of ts end) is
