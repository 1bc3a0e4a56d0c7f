-- How many bytes a directive and a list of actuals take.
use Rattle.std.proofs.Common.{ℕ, ◌+◌, ◌<◌, ◌≤◌, List, [], ◌∷◌, length, drop, Option, Some, None, option_map, arith, length-take, length-drop}
use Rattle.std.proofs.lemmas.List.{length-map}
use Rattle.sve_unread.specs.Bytes.{Byte, front, ahead, value_of}
use Rattle.sve_macro.specs.Parts.{actuals_of, split_list, spans, list_size, all_closed, pieces_of}
use Rattle.sve_bytes.specs.declared.span.Span.{Span}
use Rattle.sve_directive.specs.declared.directive.Directive.{Directive}
use Rattle.sve_directive.specs.declared.directive.Directive.TheVariants.{Include, Local}
use Rattle.sve_directive.specs.declared.directive.LocalDirective.TheVariants.{Conditional, Macros, NetType, Text, Ignored, Use, Refused}
use Rattle.sve_directive.specs.declared.word.Word.{Word}
use Rattle.sve_bytes.specs.Bytes.{identifier_length}
use Rattle.sve_directive.specs.Words.{word_of}
use Rattle.sve_directive.specs.Directives.{Head, directive_at, whole_of, parts_of, name_at, after_name}

-- what is written for a directive is not much longer than the directive
abbrev pub Pays : Directive → ℕ → ℕ → Type 0
Pays (Local (Text text)) n m = (2 ≤ n) × (2 ≤ m)
Pays other n m = Unit {0}

pays_two : (d : Directive) (n m : ℕ) → 2 ≤ n → 2 ≤ m → Pays d n m
pays_two (Include name) n m h k = tt
pays_two (Local (Conditional x)) n m h k = tt
pays_two (Local (Macros x)) n m h k = tt
pays_two (Local (NetType t)) n m h k = tt
pays_two (Local (Text text)) n m h k = (h, k)
pays_two (Local Ignored) n m h k = tt
pays_two (Local (Use name)) n m h k = tt
pays_two (Local (Refused x)) n m h k = tt

two_more : (m k : ℕ) → 2 ≤ m → m ≤ k → 2 ≤ k
two_more m k h l = omega arith

pub pays_more : (d : Directive) (n m k : ℕ) → Pays d n m → m ≤ k → Pays d n k
pays_more (Include name) n m k p l = tt
pays_more (Local (Conditional x)) n m k p l = tt
pays_more (Local (Macros x)) n m k p l = tt
pays_more (Local (NetType t)) n m k p l = tt
pays_more (Local (Text text)) n m k p l = (p.0, two_more m k p.1 l)
pays_more (Local Ignored) n m k p l = tt
pays_more (Local (Use name)) n m k p l = tt
pays_more (Local (Refused x)) n m k p l = tt

pub record Takes (head : Head) (m : ℕ) : Type 0 where
  pub some : 0 < head.1
  pub pays : Pays head.0 head.1 m

takes_named : (w : Word) (b : ℕ) (bs after : List ℕ) (head : Option Head) (m : ℕ) → 1 + length (b ∷ bs) ≤ m → Takes (whole_of w (b ∷ bs) after head) m
takes_named w b bs after None m h = record { some = omega arith; pays = tt }
takes_named w b bs after (Some head) m h = record { some = omega arith; pays = pays_two head.0 _ m (omega arith) (omega arith) }

takes_whole : (name after : List ℕ) (m : ℕ) → (0 < length name → 1 + length name ≤ m) → Takes (whole_of (word_of name) name after (parts_of (word_of name) name after)) m
unfolding word_of
takes_whole [] after m h = record { some = omega arith; pays = tt }
takes_whole (b ∷ bs) after m h = takes_named (word_of (b ∷ bs)) b bs after (parts_of (word_of (b ∷ bs)) (b ∷ bs) after) m (h (omega arith))

pub directive_takes : (text : List ℕ) → Takes (directive_at text) (length text)
unfolding directive_at
directive_takes text =
    takes_whole (name_at text) (after_name text) (length text)
    (λ h. omega (arith, length-take (identifier_length (drop 1 text)) (drop 1 text), length-drop 1 text))

-- a list of actuals ends behind its beginning
abbrev pub EndsBehind : ℕ → Option (List Span × ℕ) → Type 0
EndsBehind from None = Unit {0}
EndsBehind from (Some list) = from ≤ list.1

ends_behind : (from : ℕ) (parts : Option (List (List (List ℕ)))) → EndsBehind from (option_map (λ parts. (spans from parts, from + list_size parts)) parts)
ends_behind from None = tt
ends_behind from (Some parts) = omega arith

pub list_ends : (text : List ℕ) (from : ℕ) → EndsBehind from (actuals_of text from)
list_ends text from = ends_behind from (split_list all_closed (pieces_of (drop from text)))

-- where something is left, something is left of the text that is read
pub some_ahead : (bs : List Byte) → 0 < length bs → 0 < length (ahead bs)
some_ahead [] h = absurd (omega arith)
some_ahead (b ∷ bs) h = omega (arith, length-map (front (b ∷ bs)) value_of)
