-- The first lines of answers hold no line feed.
use Rattle.std.proofs.Common.{ℕ, ◌++◌, codes, decimal, refl, arith}
use Rattle.sve_report.specs.Lines.{Lacks}
use Rattle.sve_report.specs.ReadBack.{Fits64}
use Rattle.sve_report.proofs.LineTexts.{decimal-lacks, lacks-append, lacks_by}
use Rattle.sve_listing.specs.Files.{text_head, expanded_head}

pub text_head_lacks : (stamp size : ℕ) → Fits64 stamp → Fits64 size → Lacks 10 (text_head stamp size)
text_head_lacks stamp size fs fn =
    lacks-append 10 (codes "stamp " ++ decimal stamp ++ codes " bytes ") (decimal size)
    (lacks-append 10 (codes "stamp " ++ decimal stamp) (codes " bytes ") (lacks-append 10 (codes "stamp ") (decimal stamp) (lacks_by 10 (codes "stamp ") refl) (decimal-lacks 10 stamp (omega arith) fs)) (lacks_by 10 (codes " bytes ") refl))
    (decimal-lacks 10 size (omega arith) fn)

pub expanded_head_lacks : (size : ℕ) → Fits64 size → Lacks 10 (expanded_head size)
expanded_head_lacks size fn = lacks-append 10 (codes "bytes ") (decimal size) (lacks_by 10 (codes "bytes ") refl) (decimal-lacks 10 size (omega arith) fn)
