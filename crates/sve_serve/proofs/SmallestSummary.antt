-- The summary, computed on what the client of the generated session of three modules is told.
use Rattle.std.proofs.Common.{◌≡◌, ℕ, List, [], ◌∷◌, codes, refl}
use Rattle.std.specs.Fmt.{digits}
use Rattle.sve_report.specs.declared.record.Record.{Record}
use Rattle.sve_report.specs.declared.record.Record.TheVariants.{Accepted, Answered}
use Rattle.sve_serve.specs.Summary.{counted, summary}

abbrev tree : List (List ℕ)
tree = codes "top top" ∷ codes "top.u0 leaf0" ∷ codes "top.u1 leaf1" ∷ codes "top.u2 leaf2" ∷ []

abbrev type : List (List ℕ)
type = codes "kind net" ∷ codes "type logic [15:0]" ∷ codes "width 16" ∷ codes "state four" ∷ codes "sign unsigned" ∷ codes "at leaf0.sv:1:41" ∷ []

abbrev records : List (List Record)
records = (Answered 0 tree ∷ Answered 0 [] ∷ Accepted 1 ∷ Answered 1 type ∷ []) ∷ []

smallest_summary : summary 3 records ≡ codes "make 3\nrevision 1\ninstances 4\ndiagnostics 0\nwidth 16\n"
unfolding digits
smallest_summary = refl

-- the things that `more` stands for are counted, and its line is not
left_out_are_counted : counted (codes "top top" ∷ codes "more 1001" ∷ []) ≡ 1002
unfolding digits
left_out_are_counted = refl
