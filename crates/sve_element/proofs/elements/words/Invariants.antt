use Rattle.std.proofs.Common.{◌≡◌, take, map}
use Rattle.sve_tree.specs.TokenWords.{word_of}
use Rattle.sve_element.proofs.elements.words.Given as goal

abbrev pub invariant-words : goal.invariant-words
invariant-words l = l.words.items ≡ map word_of (take l.token-index l.tokens)
