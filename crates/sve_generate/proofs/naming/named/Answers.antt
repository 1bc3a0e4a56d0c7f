use Rattle.std.proofs.Common.{◌≡◌, ◌≤◌, ◌++◌, length, replicate, refl, ap, ◌∙◌, arith}
use Rattle.std.specs.Prelude.{codes, decimal}
use Rattle.sve_generate.specs.BlockNames.{block_text}
use Rattle.sve_generate.proofs.FreeZeros.{fits}
use Rattle.sve_generate.proofs.naming.named.Goals as goal

pub unreachable-requires-in-Err-TooLong : goal.unreachable-requires-in-Err-TooLong
unreachable-requires-in-Err-TooLong c =
    let e = (c.of.ensures.too_long c.in-Err-TooLong.field-0-0).0 (rw (c.in-Err-TooLong.is, c.in-Err-TooLong.field-0-is) refl) in
    let z : c.zeros.zero ≡ c.args.zeros = omega arith in
    let d : c.as_bytes.result.now ≡ decimal c.args.number = c.as_bytes.ensures.value ∙ c.format.ensures.text in
    let s : length (decimal c.args.number) ≤ 40 = omega (arith, c.format.ensures.short, ap length c.format.ensures.text) in
    let t : c.extend_from_slice-2.new.self.items ≡ block_text c.args.zeros c.args.number =
    c.in_ok-extend_from_slice-2.ensures.items ∙ ap (λ xs. xs ++ c.as_bytes.result.now) (c.zeros.invariant ∙ ap (λ n. codes "genblk" ++ replicate n 48) z) ∙ ap (λ xs. codes "genblk" ++ replicate c.args.zeros 48 ++ xs) d in
    let n = fits c.extend_from_slice-2.new.self.items c.args.zeros c.args.number t c.requires s in
    omega (arith, e.0, e.1, n, ap length c.deref.ensures.value)
