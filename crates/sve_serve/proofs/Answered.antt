-- Records that are honest for some answers are honest for all that follow from them.
use Rattle.std.proofs.Common.{ℕ, ◌+◌, List, [], ◌∷◌}
use Rattle.sve_text.specs.Files.{FilesValue}
use Rattle.sve_clients.specs.Runs.{next_front}
use Rattle.sve_command.specs.declared.commands.Command.{Command}
use Rattle.sve_command.specs.declared.commands.Command.TheVariants.{Commit, Ask}
use Rattle.sve_command.specs.declared.commands.Query.{Query}
use Rattle.sve_store.specs.declared.answer.Answer.{Answer}
use Rattle.sve_store.specs.declared.answer.Answer.TheVariants.{Done, Spent as Unanswered}
use Rattle.sve_report.specs.declared.entry.Entry.{Entry}
use Rattle.sve_report.specs.declared.record.Record.{Record}
use Rattle.sve_report.specs.declared.record.Record.TheVariants.{Accepted, Refused, Answered, Cancelled, Spent}
use Rattle.sve_runner.specs.declared.terms.Terms.{Terms}
use Rattle.sve_runner.specs.Honest.{budget_under, front_after, front_at, files_of, IsHonest, Walks, AreHonestFrom, AreHonest}

module _ (A B : FilesValue → Query → ℕ → Answer → Type 0) (terms : Terms) (opening : FilesValue) (clients : List (List Command)) (entries : List Entry) where
  -- an answer of the one kind is of the other, at the files of each revision
  abbrev pub Follow : Type 0
  Follow = (r : ℕ) (query : Query) (budget : ℕ) (answer : Answer) → A (files_of A terms opening clients entries r) query budget answer → B (files_of A terms opening clients entries r) query budget answer

  one : Follow → (i j front : ℕ) (command : Command) (rec : Record) → IsHonest A terms opening clients entries i j front command rec → IsHonest B terms opening clients entries i j front command rec
  one follow i j front (Commit edits) (Accepted r) h = h
  one follow i j front (Commit edits) (Refused r edit why) h = h
  one follow i j front (Commit edits) (Answered r lines) h = h
  one follow i j front (Commit edits) (Cancelled base newer) h = h
  one follow i j front (Commit edits) (Spent r limit) h = h
  one follow i j front (Ask query mode budget) (Accepted r) h = h
  one follow i j front (Ask query mode budget) (Refused r edit why) h = h
  one follow i j front (Ask query mode budget) (Answered r lines) (above, within, is) = (above, within, follow r query (budget_under terms budget) (Done lines) is)
  one follow i j front (Ask query mode budget) (Cancelled base newer) h = h
  one follow i j front (Ask query mode budget) (Spent r limit) (above, within, same, is) = (above, within, same, follow r query limit Unanswered is)

  walks : Follow → (i j front : ℕ) (commands : List Command) (recs : List Record) → Walks A terms opening clients entries i j front commands recs → Walks B terms opening clients entries i j front commands recs
  walks follow i j front [] [] w = tt
  walks follow i j front [] (rec ∷ recs) w = absurd w
  walks follow i j front (command ∷ commands) [] w = absurd w
  walks follow i j front (command ∷ commands) (rec ∷ recs) (here, rest) = (one follow i j front command rec here, walks follow i (j + 1) (front_after front rec) commands recs rest)

  from : Follow → (i front : ℕ) (others : List (List Command)) (records : List (List Record)) → AreHonestFrom A terms opening clients entries i front others records → AreHonestFrom B terms opening clients entries i front others records
  from follow i front [] [] h = tt
  from follow i front [] (recs ∷ records) h = absurd h
  from follow i front (commands ∷ others) [] h = absurd h
  from follow i front (commands ∷ others) (recs ∷ records) (walked, own, rest) = (walks follow i 1 front commands recs walked, own, from follow (i + 1) (next_front terms.order (front_at front recs)) others records rest)

  pub are_honest_for : (records : List (List Record)) → Follow → AreHonest A terms opening clients entries records → AreHonest B terms opening clients entries records
  are_honest_for records follow h = record { legal = h.legal; theirs = h.theirs; told = from follow 1 0 clients records h.told }
