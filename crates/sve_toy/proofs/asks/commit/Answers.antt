use Rattle.std.proofs.Common.{◌+◌, ◌<◌, sym, subst}
use Rattle.std.specs.Prelude.{All}
use Rattle.sve_text.specs.Refusals.{refusal_of}
use Rattle.sve_history.specs.Histories.{commands_of, newest_files}
use Rattle.sve_core.specs.Commits.{CoreValue}
use Rattle.sve_toy.proofs.Commands.{commands_after}
use Rattle.sve_toy.proofs.asks.commit.Goals as goal

pub returns : goal.returns
returns c =
    let history = c.args.asks.now.core.history in
    record { rises = subst (λ (core : CoreValue _ _). All (λ k. k < c.args.command + 1) (commands_of 1 core.history.entries)) (sym c.in_ok-_told.ensures.after) (commands_after history c.args.command c.from_ref.result.now (refusal_of (newest_files history) c.from_ref.result.now) c.requires.rises) }
