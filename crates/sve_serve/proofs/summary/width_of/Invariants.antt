use Rattle.std.proofs.Common.{◌≡◌, drop}
use Rattle.sve_serve.specs.Summary.{width_of}
use Rattle.sve_serve.proofs.summary.width_of.Given as goal

-- the lines that are left tell what all do
abbrev pub invariant-loop-line : goal.invariant-loop-line
invariant-loop-line l = width_of (drop l.line-index l.lines) ≡ width_of l.lines
