-- The order of diagnostics answers `Equal` at one and the same diagnostic alone.
use Rattle.std.proofs.Common.{◌≡◌}
use Rattle.std.proofs.lemmas.Map.Lookups.{CmpEqualImpliesEq, exact_bytes, exact_unsigned}
use Rattle.std.specs.Cmp.Lexicographic.{slice_cmp}
use Rattle.std.specs.Option.{option_cmp}
use Rattle.std.specs.Ordering.{ordering_then, nat_cmp}
use Rattle.sve_bytes.proofs.PathsAreExact.{both_equal, options_exact}
use Rattle.sve_diag.specs.CodeText.{code_text}
use Rattle.sve_diag.specs.DiagOrder.{code_cmp, place_cmp, diag_cmp}
use Rattle.sve_diag.proofs.CodesAreExact.{code_exact}

pub codes_exact : CmpEqualImpliesEq code_cmp
codes_exact c d e = code_exact c d (exact_bytes (code_text c) (code_text d) e)

pub places_exact : CmpEqualImpliesEq place_cmp
places_exact p q e =
    let both = both_equal (slice_cmp nat_cmp p.file q.file) (nat_cmp p.offset q.offset) e in
    let files : p.file ≡ q.file = exact_bytes p.file q.file both.0 in
    let offsets : p.offset ≡ q.offset = exact_unsigned p.offset q.offset both.1 in
    λ i. record { file = files i; offset = offsets i }

pub diags_exact : CmpEqualImpliesEq diag_cmp
diags_exact d c e =
    let both = both_equal (place_cmp d.place c.place) (ordering_then (code_cmp d.code c.code) (option_cmp (slice_cmp nat_cmp) d.arg c.arg)) e in
    let last = both_equal (code_cmp d.code c.code) (option_cmp (slice_cmp nat_cmp) d.arg c.arg) both.1 in
    let places : d.place ≡ c.place = places_exact d.place c.place both.0 in
    let codes : d.code ≡ c.code = codes_exact d.code c.code last.0 in
    let args : d.arg ≡ c.arg = options_exact exact_bytes d.arg c.arg last.1 in
    λ i. record { place = places i; code = codes i; arg = args i }
