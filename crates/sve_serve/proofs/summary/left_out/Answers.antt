use Rattle.std.proofs.Common.{sym, subst}
use Rattle.std.specs.Str.{IsUtf8}
use Rattle.sve_serve.proofs.LeftOut.{none_left}
use Rattle.sve_serve.proofs.summary.left_out.Goals as goal

pub returns-in-Err : goal.returns-in-Err
returns-in-Err c = sym (none_left c.args.line.now (λ text. c.in-Err.ensures.cases.0 (subst IsUtf8 (sym c.in-Some.ensures.cases.1) text)))
