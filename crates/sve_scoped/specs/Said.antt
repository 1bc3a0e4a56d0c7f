-- What a declaration leaves in a scope, and what is said of it (own).
use Rattle.std.specs.Prelude.{ℕ, Bool, if◌then◌else◌, List, Option, Some, None}
use Rattle.sve_diag.specs.declared.code.Code.TheVariants.{E06}
use Rattle.sve_scope.specs.declared.what.What.{What}
use Rattle.sve_tree.specs.declared.token_word.Word.{Word}
use Rattle.sve_known.specs.Naming.{name_at}
use Rattle.sve_contents.specs.declared.contents.Contents.{Contents}
use Rattle.sve_contents.specs.Reading.{declaring_in, remarked, spot_in}

-- a type that is out for its place is said at the name
abbrev pub said_out : Contents → ℕ → Option (List ℕ) → Contents
said_out c token None = c
said_out c token (Some n) = remarked c token E06 (Some n)

unfoldable pub out_if : List Word → Contents → ℕ → Bool → Contents
out_if ws c token is_out = if is_out then said_out c token (name_at ws token) else c

-- the name at a token, which is seen from another on
abbrev pub declared_as : Contents → ℕ → Option (List ℕ) → What → ℕ → Contents
declared_as c token None what from = c
declared_as c token (Some n) what from = declaring_in c (record { name = n; what = what; at = spot_in c token; from = from })

unfoldable pub declared_at : List Word → Contents → ℕ → What → ℕ → Contents
declared_at ws c token what from = declared_as c token (name_at ws token) what from
