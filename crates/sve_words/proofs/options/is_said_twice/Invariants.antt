use Rattle.std.proofs.Common.{◌≡◌, ◌+◌, ◌≤◌, drop, map, string_bytes}
use Rattle.std.specs.List.{count_by}
use Rattle.sve_words.specs.Words.{says}
use Rattle.sve_words.proofs.options.is_said_twice.Given as goal

abbrev pub invariant-loop-word : goal.invariant-loop-word
invariant-loop-word l = (l.count ≤ l.word-index) × (l.count + count_by (says l.plain l.valued) (map string_bytes (drop l.word-index l.words)) ≡ count_by (says l.plain l.valued) (map string_bytes l.words))
