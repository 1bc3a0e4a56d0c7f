-- The order of diagnostics (own): by file, offset, code as it is spelled, and argument, of which a missing one is first.
use Rattle.std.specs.Option.{option_cmp}
use Rattle.std.specs.Ordering.{nat_cmp, on, then_cmp}
use Rattle.std.specs.Cmp.{IsTotalOrder, then_total, on_total, nat_cmp_total}
use Rattle.std.specs.Cmp.Lexicographic.{slice_cmp, options_total, nat_list_cmp_total}
use Rattle.std.specs.declared.cmp.Ordering.{Ordering}
use Rattle.sve_diag.specs.declared.code.Code.{Code}
use Rattle.sve_diag.specs.declared.diag.Diag.{Diag}
use Rattle.sve_diag.specs.declared.diag.Place.{Place}
use Rattle.sve_diag.specs.CodeText.{code_text}

abbrev pub code_cmp : Code → Code → Ordering
code_cmp = on code_text (slice_cmp nat_cmp)

-- files go by the bytes of their names
abbrev pub place_cmp : Place → Place → Ordering
place_cmp = then_cmp (on (λ p. p.file) (slice_cmp nat_cmp)) (on (λ p. p.offset) nat_cmp)

abbrev pub diag_cmp : Diag → Diag → Ordering
diag_cmp =
    then_cmp (on (λ d. d.place) place_cmp)
    (then_cmp (on (λ d. d.code) code_cmp) (on (λ d. d.arg) (option_cmp (slice_cmp nat_cmp))))

-- all three are total orders
pub code_total : IsTotalOrder code_cmp
code_total = on_total code_text nat_list_cmp_total

pub place_total : IsTotalOrder place_cmp
place_total = then_total (on_total (λ p. p.file) nat_list_cmp_total) (on_total (λ p. p.offset) nat_cmp_total)

pub diag_total : IsTotalOrder diag_cmp
diag_total =
    then_total (on_total (λ d. d.place) place_total)
    (then_total (on_total (λ d. d.code) code_total) (on_total (λ d. d.arg) (options_total nat_list_cmp_total)))
