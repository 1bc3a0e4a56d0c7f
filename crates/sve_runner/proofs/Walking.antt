-- What a client was told, while its pass goes on.
use Rattle.std.proofs.Common.{◌≡◌, ℕ, zero, suc, ◌+◌, ◌<◌, ◌≤◌, List, [], ◌∷◌, ◌++◌, Some, length, take, map, slice_get, get_or, refl, ap, sym, ◌∙◌, subst, arith, length-append}
use Rattle.std.specs.Prelude.{All, Result, Ok, Err, IsErrAnd}
use Rattle.sve_runner.specs.declared.stop.Stop.{Stop}
use Rattle.std.proofs.lemmas.List.{map-append, length-map, length-take-le}
use Rattle.std.proofs.lemmas.List.Elements.{All-nil, All-cons, All-append, All-weaker}
use mathlib.Core.List.{IsPrefix}
use Rattle.sve_board.specs.declared.knowledge.Entry.{Entry}
use Rattle.sve_board.specs.Log.{largest}
use Rattle.sve_board.specs.Values.{PassValue, TableId}
use Rattle.sve_board.proofs.Prefixes.{prefix_trans}
use Rattle.sve_text.specs.Files.{FilesValue}
use Rattle.sve_text.specs.Refusals.{refusal_of}
use Rattle.sve_history.specs.Histories.{Table}
use Rattle.sve_store.specs.declared.answer.Answer.{Answer}
use Rattle.sve_store.specs.declared.answer.Answer.TheVariants.{Done, Spent as Unanswered}
use Rattle.sve_session.specs.Passes.{IsLater, IsReady}
use Rattle.sve_session.specs.Commits.{entry}
use Rattle.sve_command.specs.declared.commands.Command.{Command}
use Rattle.sve_command.specs.declared.commands.Command.TheVariants.{Commit, Ask}
use Rattle.sve_command.specs.declared.commands.Query.{Query}
use Rattle.sve_report.specs.declared.record.Record.{Record}
use Rattle.sve_report.specs.declared.record.Record.TheVariants.{Accepted, Refused, Answered, Cancelled, Spent}
use Rattle.sve_runner.specs.declared.terms.Terms.{Terms}
use Rattle.sve_runner.specs.Honest.{budget_under, front_after, front_at, accepted_from}
use Rattle.sve_runner.specs.Told.{entered, HoldsAt, IsHonestIn, WalksIn, IsTold}
use Rattle.sve_session.proofs.Meets.{largest_prefix}

front_at-push : (front : ℕ) (recs : List Record) (rec : Record) → front_at front (recs ++ rec ∷ []) ≡ front_after (front_at front recs) rec
front_at-push front [] rec = refl
front_at-push front (r ∷ recs) rec = front_at-push (front_after front r) recs rec

commands_entered : (i j : ℕ) (rec : Record) → map (λ (e : Entry). e.command) (entered i j rec) ≡ accepted_from j (rec ∷ [])
commands_entered i j (Accepted r) = refl
commands_entered i j (Refused r edit why) = refl
commands_entered i j (Answered r lines) = refl
commands_entered i j (Cancelled base newer) = refl
commands_entered i j (Spent r budget) = refl

one_more : (j n : ℕ) → j + 1 + n ≡ j + suc n
one_more j n = omega arith

accepted_from-push : (j : ℕ) (recs : List Record) (rec : Record) → accepted_from j (recs ++ rec ∷ []) ≡ accepted_from j recs ++ accepted_from (j + length recs) (rec ∷ [])
accepted_from-push j [] rec = ap (λ (n : ℕ). accepted_from n (rec ∷ [])) (omega arith)
accepted_from-push j (Accepted r ∷ recs) rec = ap (λ (ns : List ℕ). j ∷ ns) (accepted_from-push (j + 1) recs rec) ∙ ap (λ (n : ℕ). j ∷ (accepted_from (j + 1) recs ++ accepted_from n (rec ∷ []))) (one_more j (length recs))
accepted_from-push j (Refused r edit why ∷ recs) rec = accepted_from-push (j + 1) recs rec ∙ ap (λ (n : ℕ). accepted_from (j + 1) recs ++ accepted_from n (rec ∷ [])) (one_more j (length recs))
accepted_from-push j (Answered r lines ∷ recs) rec = accepted_from-push (j + 1) recs rec ∙ ap (λ (n : ℕ). accepted_from (j + 1) recs ++ accepted_from n (rec ∷ [])) (one_more j (length recs))
accepted_from-push j (Cancelled base newer ∷ recs) rec = accepted_from-push (j + 1) recs rec ∙ ap (λ (n : ℕ). accepted_from (j + 1) recs ++ accepted_from n (rec ∷ [])) (one_more j (length recs))
accepted_from-push j (Spent r budget ∷ recs) rec = accepted_from-push (j + 1) recs rec ∙ ap (λ (n : ℕ). accepted_from (j + 1) recs ++ accepted_from n (rec ∷ [])) (one_more j (length recs))

-- an entry is of this command
entered_is : (i j : ℕ) (rec : Record) → All (λ (e : Entry). e.command < j + 1) (entered i j rec)
entered_is i j (Accepted r) = All-cons (λ (e : Entry). e.command < j + 1) (entry i j) [] (omega arith) (All-nil (λ (e : Entry). e.command < j + 1))
entered_is i j (Refused r edit why) = All-nil (λ (e : Entry). e.command < j + 1)
entered_is i j (Answered r lines) = All-nil (λ (e : Entry). e.command < j + 1)
entered_is i j (Cancelled base newer) = All-nil (λ (e : Entry). e.command < j + 1)
entered_is i j (Spent r budget) = All-nil (λ (e : Entry). e.command < j + 1)

entered_length : (i j : ℕ) (rec : Record) → length (entered i j rec) ≤ 1
entered_length i j (Accepted r) = omega arith
entered_length i j (Refused r edit why) = omega arith
entered_length i j (Answered r lines) = omega arith
entered_length i j (Cancelled base newer) = omega arith
entered_length i j (Spent r budget) = omega arith

accepted_length : (j : ℕ) (recs : List Record) → length (accepted_from j recs) ≤ length recs
accepted_length j [] = omega arith
accepted_length j (Accepted r ∷ recs) = omega (arith, accepted_length (j + 1) recs)
accepted_length j (Refused r edit why ∷ recs) = omega (arith, accepted_length (j + 1) recs)
accepted_length j (Answered r lines ∷ recs) = omega (arith, accepted_length (j + 1) recs)
accepted_length j (Cancelled base newer ∷ recs) = omega (arith, accepted_length (j + 1) recs)
accepted_length j (Spent r budget ∷ recs) = omega (arith, accepted_length (j + 1) recs)

-- a client that leaves its commands does so for one cause
pub same_stop : {X : Type 0} (r : Result X Stop) (e s : Stop) → IsErrAnd r (λ (x : Stop). x ≡ e) → r ≡ Err s → e ≡ s
same_stop (Ok x) e s same is = absurd same
same_stop (Err x) e s same is = let other : x ≡ s = cc in sym same ∙ other

-- the first of the commands that are left joins those before it
pub take-push : (commands : List Command) (j : ℕ) (command : Command) → slice_get commands j ≡ Some command → take (j + 1) commands ≡ take j commands ++ command ∷ []
take-push [] j command at = absurd (cc)
take-push (c ∷ commands) zero command at = let same : c ≡ command = cc in ap (λ (x : Command). x ∷ []) same
take-push (c ∷ commands) (suc j) command at =
    let size : suc j + 1 ≡ suc (j + 1) = omega arith in
    ap (λ (n : ℕ). take n (c ∷ commands)) size ∙ ap (λ (l : List Command). c ∷ l) (take-push commands j command at)

pub command_at : (commands : List Command) (j : ℕ) (command : Command) → j < length commands → command ≡ get_or commands j command → slice_get commands j ≡ Some command
command_at [] j command lt is = absurd (omega (arith, lt))
command_at (c ∷ commands) zero command lt is = ap (λ (x : Command). Some x) (sym is)
command_at (c ∷ commands) (suc j) command lt is = command_at commands j command (omega (arith, lt)) is

module _ (answers : FilesValue → Query → ℕ → Answer → Type 0) (terms : Terms) (opening : FilesValue) (table : Table) where
  holds_later : (xs ys : List Entry) (r : ℕ) (P : FilesValue → Type 0) → IsPrefix xs ys → HoldsAt answers terms opening table xs r P → HoldsAt answers terms opening table ys r P
  holds_later xs ys r P more (before, begins, size, holds) = (before, prefix_trans before xs ys begins more, size, holds)

  in_later : (xs ys : List Entry) (top top' i j front : ℕ) (command : Command) (rec : Record) → IsPrefix xs ys → top ≤ top' → IsHonestIn answers terms opening table xs top i j front command rec → IsHonestIn answers terms opening table ys top' i j front command rec
  in_later xs ys top top' i j front (Commit edits) (Accepted r) more up (above, (before, begins, size)) = (above, (before, prefix_trans (before ++ entry i j ∷ []) xs ys begins more, size))
  in_later xs ys top top' i j front (Commit edits) (Refused r edit why) more up (above, holds) = (above, holds_later xs ys r (λ (files : FilesValue). refusal_of files edits ≡ Some (record { edit = edit; why = why })) more holds)
  in_later xs ys top top' i j front (Commit edits) (Answered r lines) more up h = h
  in_later xs ys top top' i j front (Commit edits) (Cancelled base newer) more up h = h
  in_later xs ys top top' i j front (Commit edits) (Spent r limit) more up h = h
  in_later xs ys top top' i j front (Ask query mode budget) (Accepted r) more up h = h
  in_later xs ys top top' i j front (Ask query mode budget) (Refused r edit why) more up h = h
  in_later xs ys top top' i j front (Ask query mode budget) (Answered r lines) more up (above, holds) = (above, holds_later xs ys r (λ (files : FilesValue). answers files query (budget_under terms budget) (Done lines)) more holds)
  in_later xs ys top top' i j front (Ask query mode budget) (Cancelled base newer) more up (latest, above, later, within) = (latest, above, later, omega (arith, within, up))
  in_later xs ys top top' i j front (Ask query mode budget) (Spent r limit) more up (above, same, holds) = (above, same, holds_later xs ys r (λ (files : FilesValue). answers files query limit Unanswered) more holds)

  pub walks_later : (xs ys : List Entry) (top top' i j front : ℕ) (commands : List Command) (recs : List Record) → IsPrefix xs ys → top ≤ top' → WalksIn answers terms opening table xs top i j front commands recs
      → WalksIn answers terms opening table ys top' i j front commands recs
  walks_later xs ys top top' i j front [] [] more up w = tt
  walks_later xs ys top top' i j front [] (rec ∷ recs) more up w = absurd w
  walks_later xs ys top top' i j front (command ∷ commands) [] more up w = absurd w
  walks_later xs ys top top' i j front (command ∷ commands) (rec ∷ recs) more up (here, rest) =
      (in_later xs ys top top' i j front command rec more up here, walks_later xs ys top top' i (j + 1) (front_after front rec) commands recs more up rest)

  walks-push : (log : List Entry) (top i j front : ℕ) (commands : List Command) (recs : List Record) (command : Command) (rec : Record) → WalksIn answers terms opening table log top i j front commands recs
      → IsHonestIn answers terms opening table log top i (j + length commands) (front_at front recs) command rec → WalksIn answers terms opening table log top i j front (commands ++ command ∷ []) (recs ++ rec ∷ [])
  walks-push log top i j front [] [] command rec w here = let same : j + 0 ≡ j = omega arith in (subst (λ (n : ℕ). IsHonestIn answers terms opening table log top i n front command rec) same here, tt)
  walks-push log top i j front [] (r ∷ recs) command rec w here = absurd w
  walks-push log top i j front (c ∷ commands) [] command rec w here = absurd w
  walks-push log top i j front (c ∷ commands) (r ∷ recs) command rec (first, rest) here = (
    first,
    walks-push log top i (j + 1) (front_after front r) commands recs command rec rest
        (subst (λ (n : ℕ). IsHonestIn answers terms opening table log top i n (front_at (front_after front r) recs) command rec) (sym (one_more j (length commands))) here),
  )

  walked_length : (log : List Entry) (top i j front : ℕ) (commands : List Command) (recs : List Record) → WalksIn answers terms opening table log top i j front commands recs → length recs ≡ length commands
  walked_length log top i j front [] [] w = refl
  walked_length log top i j front [] (r ∷ recs) w = absurd w
  walked_length log top i j front (c ∷ commands) [] w = absurd w
  walked_length log top i j front (c ∷ commands) (r ∷ recs) (first, rest) = ap suc (walked_length log top i (j + 1) (front_after front r) commands recs rest)

  -- what client i was told of its first j commands, from any front up to this one
  pub record IsSoFar (board : TableId) (i top : ℕ) (commands : List Command) (j : ℕ) (pass : PassValue) (recs : List Record) : Type 0 where
    pub ready : IsReady board pass
    pub number : pass.number ≡ i
    pub walks : (front : ℕ) → front ≤ top → WalksIn answers terms opening table pass.seen (largest pass.looks) i 1 front (take j commands) recs
    pub reached : (front : ℕ) → front ≤ top → front_at front recs ≤ largest pass.looks
    pub own : map (λ e. e.command) pass.mine ≡ accepted_from 1 recs
    pub next : All (λ e. e.command < j + 1) pass.mine

  module _ (board : TableId) (i top : ℕ) (commands : List Command) where
    pub told_more : (j : ℕ) (before after : PassValue) (recs : List Record) (command : Command) (rec : Record) → IsSoFar board i top commands j before recs → j < length commands → slice_get commands j ≡ Some command → IsLater before after
        → IsReady board after → IsTold answers terms opening table i (j + 1) command before after rec → IsSoFar board i top commands (j + 1) after (recs ++ rec ∷ [])
    told_more j before after recs command rec so_far lt at later ready told =
        let done = take j commands in
        let size : length done ≡ j = length-take-le j commands (omega (arith, lt)) in
        let number : j + 1 ≡ 1 + length done = omega (arith, size) in
        let place : 1 + length recs ≡ j + 1 = omega (arith, size, walked_length before.seen (largest before.looks) i 1 0 done recs (so_far.walks 0 (omega arith))) in
        let P : Entry → Type 0 = λ e. e.command < (j + 1) + 1 in
        record {
          ready = ready;
          number = later.number ∙ so_far.number;
          walks = λ front le. subst (λ (cs : List Command). WalksIn answers terms opening table after.seen (largest after.looks) i 1 front cs (recs ++ rec ∷ [])) (sym (take-push commands j command at))
              (walks-push after.seen (largest after.looks) i 1 front done recs command rec
              (walks_later before.seen after.seen (largest before.looks) (largest after.looks) i 1 front done recs later.seen (largest_prefix before.looks after.looks later.looks) (so_far.walks front le))
              (subst (λ (n : ℕ). IsHonestIn answers terms opening table after.seen (largest after.looks) i n (front_at front recs) command rec) number (told.honest (front_at front recs) (so_far.reached front le))));
          reached = λ front le. subst (λ (n : ℕ). n ≤ largest after.looks) (sym (front_at-push front recs rec)) (told.front (front_at front recs) (so_far.reached front le));
          own = ap (map (λ (e : Entry). e.command)) told.mine ∙ map-append (λ (e : Entry). e.command) before.mine (entered i (j + 1) rec)
              ∙ (λ k. so_far.own k ++ commands_entered i (j + 1) rec k)
              ∙ ap (λ (n : ℕ). accepted_from 1 recs ++ accepted_from n (rec ∷ [])) (sym place) ∙ sym (accepted_from-push 1 recs rec);
          next = subst (All P) (sym told.mine) (All-append P before.mine (entered i (j + 1) rec) (All-weaker (λ (e : Entry). e.command < j + 1) P (λ e lt'. omega (arith, lt')) before.mine so_far.next) (entered_is i (j + 1) rec));
        }

    -- the client has no more entries than commands, so far
    pub few_so_far : (j : ℕ) (pass : PassValue) (recs : List Record) → IsSoFar board i top commands j pass recs → j ≤ length commands → length pass.mine ≤ j
    few_so_far j pass recs so_far le =
        let size : length (take j commands) ≡ j = length-take-le j commands le in
        omega (arith, length-map pass.mine (λ (e : Entry). e.command), ap (λ (l : List ℕ). length l) so_far.own, accepted_length 1 recs, size, walked_length pass.seen (largest pass.looks) i 1 0 (take j commands) recs (so_far.walks 0 (omega arith)))

    pub few_then : (j : ℕ) (before after : PassValue) (recs : List Record) (command : Command) (rec : Record) → IsSoFar board i top commands j before recs → j < length commands → IsTold answers terms opening table i (j + 1) command before after rec → length after.mine ≤ length commands
    few_then j before after recs command rec so_far lt told =
        omega (arith, lt, few_so_far j before recs so_far (omega (arith, lt)), ap (λ (l : List Entry). length l) told.mine, length-append before.mine (entered i (j + 1) rec), entered_length i (j + 1) rec)

    pub few_still : (j : ℕ) (before after : PassValue) (recs : List Record) → IsSoFar board i top commands j before recs → j < length commands → after.mine ≡ before.mine → length after.mine < length commands
    few_still j before after recs so_far lt same = omega (arith, lt, few_so_far j before recs so_far (omega (arith, lt)), ap (λ (l : List Entry). length l) same)
