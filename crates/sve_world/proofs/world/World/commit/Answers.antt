use Rattle.std.proofs.Common.{◌≡◌, List, length, refl, ap, ◌∙◌, subst}
use Rattle.sve_text.specs.declared.edit.Edit.{Edit}
use Rattle.sve_text.specs.Refusals.{refusal_of}
use Rattle.sve_history.specs.Histories.{HistoryValue, newest_files}
use Rattle.sve_core.specs.Commits.{committed, commit_told}
use Rattle.sve_world.proofs.Moves.{always_err, kept_world, kept_as, rises, has_committed}
use Rattle.sve_world.proofs.world.World.commit.Goals as goal

pub invariant_of-self : goal.invariant_of-self
invariant_of-self g c = kept_world c.self.inside.core c.self.inside.seats.items c.args.client c.index_mut-seat.result.now c.index_mut-seat.ensures.value _ c.self.inside.core c.make_room.new.self refl c.make_room.ensures.same c.self.invariant

pub returns-in_err-make_room-clause-unchanged : goal.returns-in_err-make_room-clause-unchanged
returns-in_err-make_room-clause-unchanged g c = always_err _ (kept_as c.self.inside.core c.self.inside.seats.items c.args.client c.index_mut-seat.result.now c.index_mut-seat.ensures.value c.args.self.now c.self.inside.core c.make_room.new.self refl c.make_room.ensures.same c.self.view_is)

pub commit-requires-clause-rises : goal.commit-requires-clause-rises
commit-requires-clause-rises g c = rises _ c.self.inside.core c.self.inside.seats.items c.args.client c.index_mut-seat.result.now c.index_mut-seat.ensures.value c.args.self.now c.args.command c.args.edits c.self.view_is c.self.invariant c.requires.may

pub invariant_of-self-in_err-commit : goal.invariant_of-self-in_err-commit
invariant_of-self-in_err-commit g c = kept_world c.self.inside.core c.self.inside.seats.items c.args.client c.index_mut-seat.result.now c.index_mut-seat.ensures.value _ c.commit.new.self c.make_room.new.self c.in_err-commit.ensures.unchanged c.make_room.ensures.same c.self.invariant

pub returns-in_err-commit-clause-unchanged : goal.returns-in_err-commit-clause-unchanged
returns-in_err-commit-clause-unchanged g c = always_err _ (kept_as c.self.inside.core c.self.inside.seats.items c.args.client c.index_mut-seat.result.now c.index_mut-seat.ensures.value c.args.self.now c.commit.new.self c.make_room.new.self c.in_err-commit.ensures.unchanged c.make_room.ensures.same c.self.view_is)

pub invariant_of-self-2 : goal.invariant_of-self-2
invariant_of-self-2 g c =
    let core = c.self.inside.core in
    let old = core.history in
    let told : c.in_ok-commit.commit ≡ commit_told old (refusal_of (newest_files old) c.args.edits) = subst (λ (es : List Edit). c.in_ok-commit.commit ≡ commit_told old (refusal_of (newest_files old) es)) c.items.ensures c.in_ok-commit.ensures.told in
    let after : c.commit.new.self ≡ record { history = committed old (record { client = c.args.client; command = c.args.command; edits = c.args.edits }) (refusal_of (newest_files old) c.args.edits); memos = core.memos } =
    subst (λ (es : List Edit). c.commit.new.self ≡ record { history = committed old (record { client = c.args.client; command = c.args.command; edits = es }) (refusal_of (newest_files old) es); memos = core.memos }) c.items.ensures c.in_ok-commit.ensures.after in
    (has_committed _ c.self.inside.core c.self.inside.seats.items c.args.client c.index_mut-seat.result.now c.index_mut-seat.ensures.value c.args.self.now c.args.command c.args.edits c.commit.new.self c.in_ok-commit.commit c.make_room.new.self c.hear_commit.new.self c.len-r.result
    c.self.view_is c.self.invariant c.requires.may after told (c.len-r.ensures ∙ ap (λ (h : HistoryValue). length h.entries) c.history.ensures) c.make_room.ensures.same c.hear_commit.ensures).stays

pub returns-clause-after : goal.returns-clause-after
returns-clause-after g c =
    let core = c.self.inside.core in
    let old = core.history in
    let told : c.in_ok-commit.commit ≡ commit_told old (refusal_of (newest_files old) c.args.edits) = subst (λ (es : List Edit). c.in_ok-commit.commit ≡ commit_told old (refusal_of (newest_files old) es)) c.items.ensures c.in_ok-commit.ensures.told in
    let after : c.commit.new.self ≡ record { history = committed old (record { client = c.args.client; command = c.args.command; edits = c.args.edits }) (refusal_of (newest_files old) c.args.edits); memos = core.memos } =
    subst (λ (es : List Edit). c.commit.new.self ≡ record { history = committed old (record { client = c.args.client; command = c.args.command; edits = es }) (refusal_of (newest_files old) es); memos = core.memos }) c.items.ensures c.in_ok-commit.ensures.after in
    (has_committed _ c.self.inside.core c.self.inside.seats.items c.args.client c.index_mut-seat.result.now c.index_mut-seat.ensures.value c.args.self.now c.args.command c.args.edits c.commit.new.self c.in_ok-commit.commit c.make_room.new.self c.hear_commit.new.self c.len-r.result
    c.self.view_is c.self.invariant c.requires.may after told (c.len-r.ensures ∙ ap (λ (h : HistoryValue). length h.entries) c.history.ensures) c.make_room.ensures.same c.hear_commit.ensures).after
