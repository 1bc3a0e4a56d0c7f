use Rattle.std.proofs.Common.{length, sym, ap, ◌∙◌, arith}
use Rattle.sve_unit.specs.Chunks.{chunks_of}
use Rattle.sve_front.specs.Readings.{IsCut}
use Rattle.sve_front.proofs.Held.{unit_found}
use Rattle.sve_front.proofs.placing.token_place.Goals as goal

pub chunk_tokens-tokens-requires : goal.chunk_tokens-tokens-requires
chunk_tokens-tokens-requires c =
    let is = unit_found IsCut c.args.units.now c.args.file.now c.in-Some.unit.now c.requires (sym c.in-Some.ensures) in
    record { cut = c.items-2.ensures ∙ is.0.chunks ∙ ap chunks_of (sym c.items.ensures) }

pub place_at-requires : goal.place_at-requires
place_at-requires c =
    let is = unit_found IsCut c.args.units.now c.args.file.now c.in-Some.unit.now c.requires (sym c.in-Some.ensures) in
    omega (arith, c.chunk_tokens-tokens.ensures.within, ap length c.items.ensures, is.0.few)
