use Rattle.std.proofs.Common.{◌≡◌, drop, map, string_bytes}
use Rattle.std.specs.List.{list_any}
use Rattle.sve_words.specs.Words.{is_foreign}
use Rattle.sve_words.proofs.options.has_foreign.Given as goal

abbrev pub invariant-loop-word : goal.invariant-loop-word
invariant-loop-word l = list_any is_foreign (map string_bytes (drop l.word-index l.words)) ≡ list_any is_foreign (map string_bytes l.words)
