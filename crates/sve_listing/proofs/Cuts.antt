-- Lines that hold no line feed, and lists that are cut.
use Rattle.std.proofs.Common.{◌≡◌, ℕ, ◌≤◌, ◌==◌, true, false, not, cond, List, [], ◌∷◌, length, take, codes, decimal, refl, sym, ap, ◌∙◌, arith, true≢false}
use Rattle.std.proofs.Math.Seq.{take_all}
use Rattle.sve_report.specs.Lines.{Lacks}
use Rattle.sve_report.specs.ReadBack.{Fits64}
use Rattle.sve_report.proofs.LineTexts.{decimal-lacks, lacks-append, lacks_by}
use Rattle.sve_listing.specs.Lists.{max_listed, more_line, on_one_line}

pub one_line_lacks : (bytes : List ℕ) → Lacks 10 (on_one_line bytes)
one_line_lacks [] = tt
one_line_lacks (b ∷ bs) =
    elim (b == 10) as (λ t. (b == 10) ≡ t → Lacks 10 (cond (not t) (b ∷ on_one_line bs) (on_one_line bs))) [
      | true ↦ λ e. one_line_lacks bs
      | false ↦ λ e. ((λ same. true≢false (sym (ap (λ (n : ℕ). n == 10) same) ∙ e)), one_line_lacks bs)
    ] refl

pub more_line_lacks : (n : ℕ) → Fits64 n → Lacks 10 (more_line n)
more_line_lacks n fits = lacks-append 10 (codes "more ") (decimal n) (lacks_by 10 (codes "more ") refl) (decimal-lacks 10 n (omega arith) fits)

pub all_shown : {X : Type 0} (xs : List X) → length xs ≤ max_listed → xs ≡ take max_listed xs
all_shown xs h = sym (take_all max_listed xs h)
