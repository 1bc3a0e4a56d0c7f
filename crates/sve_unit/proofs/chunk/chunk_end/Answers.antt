use Rattle.std.proofs.Common.{◌≡◌, ℕ, ◌+◌, length, drop, subst, arith}
use Rattle.sve_unit.specs.Chunks.{first_size}
use Rattle.sve_unit.proofs.Places.{behind}
use Rattle.sve_unit.proofs.chunk.chunk_end.Goals as goal

pub returns-clause-size : goal.returns-clause-size
returns-clause-size c =
    let same : c.loop-at.at ≡ length c.args.tokens.now = omega arith in
    let all : c.args.from + first_size (drop c.args.from c.args.tokens.now) ≡ length c.args.tokens.now + first_size (drop (length c.args.tokens.now) c.args.tokens.now) = subst (λ (n : ℕ). c.args.from + first_size (drop c.args.from c.args.tokens.now) ≡ n + first_size (drop n c.args.tokens.now)) same c.loop-at.invariant in
    omega (arith, all, behind c.args.tokens.now)
