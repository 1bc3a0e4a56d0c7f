-- The lines of the diagnostics so far, and the file that is open.
use Rattle.std.proofs.Common.{◌≡◌, IfSome, take, map}
use Rattle.sve_listing.specs.Lists.{max_listed, file_text, line_in}
use Rattle.sve_listing.proofs.diags.diags_lines.Given as goal

abbrev pub invariant-diags : goal.invariant-diags
invariant-diags l = (l.lines ≡ map (λ d. line_in (file_text l.files.rows d.place.file) d) (take l.diag-index (take max_listed l.diags))) × IfSome l.opened (λ o. o.text ≡ file_text l.files.rows o.file)
