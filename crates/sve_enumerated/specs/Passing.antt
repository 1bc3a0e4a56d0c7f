-- Uses of plain names in a text, token by token (IEEE 1800-2017, 26.3).
use Rattle.std.specs.Prelude.{ℕ, zero, suc, ◌+◌, ◌-◌, ◌==◌, Bool, true, false, not, ◌&&◌, if◌then◌else◌, List, Option, Some, None, slice_get}
use Rattle.sve_token.specs.declared.kind.Kind.{Kind}
use Rattle.sve_token.specs.declared.kind.Kind.TheVariants as is_token
use Rattle.sve_tree.specs.declared.token_word.Word.{Word}
use Rattle.sve_known.specs.Naming.{name_at}
use Rattle.sve_contents.specs.declared.contents.Contents.{Contents}
use Rattle.sve_contents.specs.Uses.{with_use}
use Rattle.sve_enumerated.specs.declared.passed.Passed.{Passed}

abbrev pub is_colons : Kind → Bool
is_colons is_token.ColonColon = true
is_colons kind = false

-- what stands in front of a name of a package, of a member, or of an argument
abbrev pub is_link : Kind → Bool
is_link is_token.ColonColon = true
is_link is_token.Dot = true
is_link kind = false

abbrev pub has_kind : (Kind → Bool) → Option Word → Bool
has_kind holds None = false
has_kind holds (Some w) = holds w.kind

abbrev pub word_before : List Word → ℕ → Option Word
word_before ws token = if token == 0 then None else slice_get ws (token - 1)

-- an identifier there is neither a package, nor a name of one, nor a name behind a dot
abbrev pub is_plain_name : List Word → ℕ → Bool
is_plain_name ws token = not (has_kind is_link (word_before ws token)) && not (has_kind is_colons (slice_get ws (token + 1)))

unfoldable pub used_at : List Word → Contents → ℕ → Contents
used_at ws c token = if is_plain_name ws token then with_use c token (name_at ws token) else c

-- so many tokens, from one on
unfoldable pub used_from : List Word → Contents → ℕ → ℕ → Contents
used_from ws c token zero = c
used_from ws c token (suc n) = used_from ws (used_at ws c token) (token + 1) n

-- the tokens up to another one, which is no use
abbrev pub passed_to : List Word → Passed → ℕ → Passed
passed_to ws p token = record { contents = used_from ws p.contents (p.at + 1) (token - (p.at + 1)); at = token }
