use Rattle.std.proofs.Common.{◌≡◌, ℕ, ◌-◌, length, take, drop, List, refl, ap, arith}
use Rattle.std.proofs.lemmas.List.{length-take-le, length-drop}
use Rattle.sve_tree.proofs.token_word.unescaped.Goals as goal

-- how many bytes stand behind the first
behind_one : (bytes : List ℕ) → length (take (length bytes - 1) (drop 1 bytes)) ≡ length bytes - 1
behind_one bytes = let e = length-drop 1 bytes in length-take-le (length bytes - 1) (drop 1 bytes) (omega (arith, e))

pub unreachable-requires : goal.unreachable-requires
unreachable-requires c =
    let e = c.of.ensures.empty.0 (rw (c.in-Err-Empty.is, c.in-Err-Empty.field-0-is) refl) in
    let n = behind_one c.bytes-bytes.result.now in
    omega (arith, e, n, c.if-bytes-lt2.false)

pub unreachable-requires-in-Err-TooLong : goal.unreachable-requires-in-Err-TooLong
unreachable-requires-in-Err-TooLong c =
    let e = (c.of.ensures.too_long c.in-Err-TooLong.field-0-0).0 (rw (c.in-Err-TooLong.is, c.in-Err-TooLong.field-0-is) refl) in
    let n = behind_one c.bytes-bytes.result.now in
    omega (arith, e.0, e.1, n, c.bytes-bytes.ensures.in_limit, ap length c.bytes-bytes.ensures.bytes)
