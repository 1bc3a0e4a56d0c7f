-- What the values of keys say (own).
use Rattle.std.specs.Prelude.{ℕ, ◌≡◌, List, length, Option, Result, Ok}
use Rattle.std.specs.List.{filter}
use Rattle.sve_bytes.specs.declared.net_type.NetType.{NetType}
use Rattle.sve_diag.specs.declared.diag.Diag.{Diag}
use Rattle.sve_token.specs.declared.token.Token.{Token}
use Rattle.sve_grammar.specs.Machine.{Halt}
use Rattle.sve_tree.specs.declared.element.Element.{Element}
use Rattle.sve_tree.specs.declared.token_word.Word.{Word}
use Rattle.sve_tree.specs.Elements.{element_tree}
use Rattle.sve_text.specs.Rows.{Row, names_in, is_there, name_cmp}
use Rattle.sve_ordered.specs.Ordered.{ordered}
use Rattle.sve_gist.specs.Gists.{read_words}

-- the text of a file, if it is there, and the revision whose commit last touched it
pub record TextValue : Type 0 where
  pub text : Option (List ℕ)
  pub stamp : ℕ

-- the tokens of a file and of what it includes, what its expansion has to say, and the net types that it sets
pub record TokensValue : Type 0 where
  pub tokens : List Token
  pub diags : List Diag
  pub net_types : List (ℕ × NetType)

-- the words of a chunk that the grammar accepts, or where it stops
abbrev pub ReadingValue : Type 0
ReadingValue = Result (List Word) Halt

-- an element is what its words are read as
abbrev pub IsOfItsWords : Element → Type 0
IsOfItsWords e = read_words e.words.items ≡ Ok (element_tree e, length e.words.items)

-- the names of the files that are there, in their order
abbrev pub names_there : List Row → List (List ℕ)
names_there rows = ordered name_cmp (filter (is_there rows) (names_in rows))
