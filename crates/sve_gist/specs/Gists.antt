-- What the index of a design takes from an element, and what of it the words of the element's chunk decide (own).
use Rattle.std.specs.Prelude.{ℕ, Bool, List, [], map, Option, Ok, Err, false}
use Rattle.sve_token.specs.declared.token.Token.{Token}
use Rattle.sve_grammar.specs.Items.{chunk}
use Rattle.sve_grammar.specs.Reading.{Tree, none, Answer, at_depth}
use Rattle.sve_tree.specs.declared.token_word.Word.{Word}
use Rattle.sve_mention.specs.declared.mention.Mention.{Mention}
use Rattle.sve_mention.specs.InElements.{element_mentions}
use Rattle.sve_index.specs.declared.source.FileElement.{FileElement}
use Rattle.sve_index.specs.Sources.{element_in, words_in}
use Rattle.sve_index.specs.Designs.{definition_token, package_token, may_be_top}
use Rattle.sve_gist.specs.Mentions.{mentions_in}
use Rattle.sve_gist.specs.Designs.{definition_token_in, package_token_in, may_be_top_in}

pub record Gist : Type 0 where
  -- the file and the number of the chunk
  pub file : List ℕ
  pub chunk : ℕ
  -- the number of the name of its module or interface, and of its package
  pub definition : Option ℕ
  pub of_package : Option ℕ
  -- whether it is a module that may be a top
  pub alone : Bool
  -- what it mentions
  pub mentions : List Mention
  -- the words of its tokens
  pub words : List Word

-- that of an element
abbrev pub gist_of : FileElement → Gist
gist_of source = record {
  file = source.file;
  chunk = source.chunk;
  definition = definition_token (element_in source).design;
  of_package = package_token (element_in source).design;
  alone = may_be_top (element_in source).design;
  mentions = element_mentions (element_in source);
  words = words_in source;
}

-- that of a chunk with this tree
abbrev pub gist_in : List ℕ → ℕ → Tree → List Word → Gist
gist_in file n t words = record {
  file = file;
  chunk = n;
  definition = definition_token_in t;
  of_package = package_token_in t;
  alone = may_be_top_in t;
  mentions = mentions_in t;
  words = words;
}

-- a token that says of what kind a word is, and nothing else
abbrev pub stand_in : Word → Token
stand_in w = record { kind = w.kind; spelling = []; text = []; place = record { file = []; offset = 0 }; copied = false }

-- a chunk of these words as it is read: kinds alone decide that
unfoldable pub read_words : List Word → Answer
read_words words = at_depth (map stand_in words) 0 chunk 0

abbrev pub tree_in : Answer → Tree
tree_in (Ok read) = read.0
tree_in (Err h) = none

-- the gist of a chunk with these words
abbrev pub gist_of_words : List ℕ → ℕ → List Word → Gist
gist_of_words file n words = gist_in file n (tree_in (read_words words)) words
