-- Powers by squares.
use Rattle.std.proofs.Common.{◌≡◌, ℕ, suc, ◌+◌, ◌*◌, ◌/◌, ◌%◌, ◌^◌, refl, ap, ◌∙◌, sym, arith}
use Rattle.std.proofs.lemmas.Nat.{pow-mod, mul-pow, pow-add, mul-mod_first}
use Rattle.std.proofs.Math.Nat.{pow-suc, pow-zero}

squares : (base half : ℕ) → (base * base) ^ half ≡ base ^ (half + half)
squares base half = mul-pow base base half ∙ sym (pow-add base half half)

pub power_of_zero : (base e m : ℕ) → e ≡ 0 → 1 % m ≡ base ^ e % m
power_of_zero base e m h = rw (h, pow-zero base) refl

pub power_even : (base e m : ℕ) → e % 2 ≡ 0 → (base * base % m) ^ (e / 2) % m ≡ base ^ e % m
power_even base e m h =
    let k : e / 2 + e / 2 ≡ e = omega arith in
    pow-mod (base * base) (e / 2) m ∙ ap (λ n. n % m) (squares base (e / 2) ∙ ap (λ n. base ^ n) k)

pub power_odd : (base e m : ℕ) → e % 2 ≡ 1 → (base * base % m) ^ (e / 2) % m * base % m ≡ base ^ e % m
power_odd base e m h =
    let k : suc (e / 2 + e / 2) ≡ e = omega arith in
    ap (λ n. n * base % m) (pow-mod (base * base) (e / 2) m ∙ ap (λ n. n % m) (squares base (e / 2))) ∙
    mul-mod_first (base ^ (e / 2 + e / 2)) base m ∙
    ap (λ n. n % m) (sym (pow-suc base (e / 2 + e / 2)) ∙ ap (λ n. base ^ n) k)
