use Rattle.sve_front.proofs.Parts.{part_of_chunk, no_part_past}
use Rattle.sve_front.proofs.unit.chunk_tokens.Goals as goal

pub slice_bounds-result-count : goal.slice_bounds-result-count
slice_bounds-result-count c = (part_of_chunk c.args.tokens.now c.args.chunks.now c.args.n c.in-Some.chunk.now c.requires.cut c.in-Some.ensures.lookup.3.0 c.in-Some.ensures.lookup.1).forward

pub slice_bounds-result-start : goal.slice_bounds-result-start
slice_bounds-result-start c = (part_of_chunk c.args.tokens.now c.args.chunks.now c.args.n c.in-Some.chunk.now c.requires.cut c.in-Some.ensures.lookup.3.0 c.in-Some.ensures.lookup.1).forward

pub slice_bounds-result-end : goal.slice_bounds-result-end
slice_bounds-result-end c = (part_of_chunk c.args.tokens.now c.args.chunks.now c.args.n c.in-Some.chunk.now c.requires.cut c.in-Some.ensures.lookup.3.0 c.in-Some.ensures.lookup.1).within

pub returns-in-Some-clause-tokens : goal.returns-in-Some-clause-tokens
returns-in-Some-clause-tokens c = (part_of_chunk c.args.tokens.now c.args.chunks.now c.args.n c.in-Some.chunk.now c.requires.cut c.in-Some.ensures.lookup.3.0 c.in-Some.ensures.lookup.1).tokens

pub returns-in-None-clause-tokens : goal.returns-in-None-clause-tokens
returns-in-None-clause-tokens c = no_part_past c.args.tokens.now c.args.chunks.now c.args.n c.requires.cut c.in-None.ensures.lookup.3
