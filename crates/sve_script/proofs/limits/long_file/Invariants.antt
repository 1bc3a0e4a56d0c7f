use Rattle.std.proofs.Common.{◌≡◌, drop}
use Rattle.sve_script.specs.Limits.{long_file}
use Rattle.sve_script.proofs.limits.long_file.Given as goal

abbrev pub invariant-loop-file : goal.invariant-loop-file
invariant-loop-file l = long_file (drop l.file-index l.files) ≡ long_file l.files
