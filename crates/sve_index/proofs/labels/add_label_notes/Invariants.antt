-- What is there, and the notes of the mentions that are left, are what was there and all notes.
use Rattle.std.proofs.Common.{◌≡◌, ◌++◌, drop}
use Rattle.std.specs.List.{flat_map}
use Rattle.sve_index.specs.Labels.{mention_note}
use Rattle.sve_index.proofs.labels.add_label_notes.Given as goal

abbrev pub invariant-loop-mention : goal.invariant-loop-mention
invariant-loop-mention l = l.notes.items ++ flat_map (mention_note l.source) (drop l.mention-index l.mentions) ≡ l.initial.notes.items ++ flat_map (mention_note l.source) l.mentions
