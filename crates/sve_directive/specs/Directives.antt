-- What a backtick begins: a compiler directive with its parts, or a use of a macro (IEEE 1800-2017, clause 22).
use Rattle.std.specs.Prelude.{ℕ, ◌+◌, ◌==◌, ◌&&◌, Bool, false, not, if◌then◌else◌, Option, Some, None, option_map, List, [], ◌∷◌, length, take, drop, bytes_eq, codes}
use Rattle.std.specs.List.{prefix_len}
use Rattle.sve_bytes.specs.declared.net_type.NetType.{NetType}
use Rattle.sve_bytes.specs.declared.net_type.NetType.TheVariants.{Wire, Tri, Uwire, Wand, Wor, Triand, Trior, Tri0, Tri1, Trireg, None as NoNetType}
use Rattle.sve_macro.specs.declared.definition.Definition.{Definition}
use Rattle.sve_directive.specs.declared.directive.Directive.{Directive}
use Rattle.sve_directive.specs.declared.directive.Directive.TheVariants.{Include, Local}
use Rattle.sve_directive.specs.declared.directive.LocalDirective.{LocalDirective}
use Rattle.sve_directive.specs.declared.directive.LocalDirective.TheVariants.{Conditional as Conditionals, Macros, NetType as NetTypes, Text, Ignored, Use, Refused}
use Rattle.sve_directive.specs.declared.directive.Conditional.{Conditional}
use Rattle.sve_directive.specs.declared.directive.Conditional.TheVariants.{Ifdef, Ifndef, Elsif, Else, Endif}
use Rattle.sve_directive.specs.declared.directive.MacroDirective.TheVariants.{Define, Undef, UndefineAll}
use Rattle.sve_directive.specs.declared.directive.MacroName.{MacroName}
use Rattle.sve_directive.specs.declared.directive.SourceText.TheVariants.{File, Line}
use Rattle.sve_directive.specs.declared.directive.Refusal.TheVariants.{Keywords, Malformed, LongUse}
use Rattle.sve_directive.specs.declared.word.Test.{Test}
use Rattle.sve_directive.specs.declared.word.Test.TheVariants.{IfDefined, IfNotDefined, ElseIfDefined}
use Rattle.sve_directive.specs.declared.word.Word.{Word}
use Rattle.sve_directive.specs.declared.word.Word.TheVariants.{Defining, Undefining, UndefiningAll, Testing, Otherwise, EndOfIf, Including, NetTyping, Resetting, FileName, LineNumber, RestOfLine, Alone, Pulling, KeywordSet, NoDirective}
use Rattle.sve_directive.specs.Bytes.{begins_with, identifier, line_length}
use Rattle.sve_directive.specs.Pieces.{gap_length, rest_of_line}
use Rattle.sve_directive.specs.Words.{word_of, is_conditional}
use Rattle.sve_directive.specs.Define.{is_name, argument, argument_end, argument_of, macro_argument_of, own_length, said, macro_of}

-- what a backtick begins, and how many bytes it has
abbrev pub Head : Type 0
Head = Directive × ℕ

-- the first 1,024 bytes, which a diagnostic may name; none where there is no byte (own)
abbrev pub cut : List ℕ → Option (List ℕ)
cut [] = None
cut (b ∷ bs) = Some (take 1024 (b ∷ bs))

-- a directive whose only part is the name of a macro (22.5.2, 22.6)
abbrev pub named : (MacroName → LocalDirective) → List ℕ → Option Head
named make after = option_map (λ a. (Local (make a.0), a.1)) (macro_argument_of after)

-- what the directives of conditional compilation that ask for a macro make of its name
abbrev pub tested : Test → MacroName → Conditional
tested IfDefined name = Ifdef name
tested IfNotDefined name = Ifndef name
tested ElseIfDefined name = Elsif name

abbrev pub defined : List ℕ → ℕ → Option Definition → Option Head
defined name n None = None
defined name n (Some m) = Some (Local (Macros (Define name m)), n)

-- `define (22.5.1): the name is the first identifier of what is said, and n bytes are taken
abbrev pub definition_of : ℕ → List ℕ → Option (List ℕ × ℕ) → Option Head
definition_of n text None = None
definition_of n text (Some (name, end)) = defined name n (macro_of (drop end text))

abbrev pub define_of : List ℕ → Option Head
define_of after = definition_of (own_length false after) (said after) (argument_of (said after))

-- a byte of a file's name that ends with a sign in its line
abbrev pub is_in_file_name : ℕ → ℕ → Bool
is_in_file_name close b = not (b == close) && not (b == 10)

abbrev pub file_length : ℕ → List ℕ → ℕ
file_length close text = prefix_len (is_in_file_name close) text

-- the name of a file before the sign that closes it, and how many bytes it has with the signs at both ends
abbrev pub file_in : ℕ → List ℕ → Option (List ℕ × ℕ)
file_in close text =
    if begins_with close (drop (file_length close text) text) then Some (take (file_length close text) text, file_length close text + 2)
    else None

-- the name of a file in quotes, or between `<` and `>`, in one line (22.4)
abbrev pub file_at : List ℕ → Option (List ℕ × ℕ)
file_at [] = None
file_at (b ∷ bs) = if b == 34 then file_in 34 bs else if b == 60 then file_in 62 bs else None

abbrev pub include_of : List ℕ → Option Head
include_of after = option_map (λ f. (Include f.0, gap_length after + f.1)) (file_at (drop (gap_length after) after))

-- the words of `default_nettype (22.8)
abbrev pub net_type_of : List ℕ → Option NetType
net_type_of name =
    if bytes_eq name (codes "wire") then Some Wire
    else if bytes_eq name (codes "tri") then Some Tri
    else if bytes_eq name (codes "uwire") then Some Uwire
    else if bytes_eq name (codes "wand") then Some Wand
    else if bytes_eq name (codes "wor") then Some Wor
    else if bytes_eq name (codes "triand") then Some Triand
    else if bytes_eq name (codes "trior") then Some Trior
    else if bytes_eq name (codes "tri0") then Some Tri0
    else if bytes_eq name (codes "tri1") then Some Tri1
    else if bytes_eq name (codes "trireg") then Some Trireg
    else if bytes_eq name (codes "none") then Some NoNetType
    else None

abbrev pub nettype_of : List ℕ → Option Head
nettype_of after = option_map (λ t. (Local (NetTypes t), argument_end after)) (net_type_of (argument after))

-- the words of `unconnected_drive (22.9)
abbrev pub pull_of : List ℕ → Option Head
pull_of after =
    if bytes_eq (argument after) (codes "pull0") then Some (Local Ignored, argument_end after)
    else if bytes_eq (argument after) (codes "pull1") then Some (Local Ignored, argument_end after)
    else None

-- `begin_keywords and `end_keywords (22.14)
abbrev pub keywords_of : List ℕ → List ℕ → Option Head
keywords_of name after = option_map (λ n. (Local (Refused (Keywords n)), line_length after)) (cut name)

-- any other name is that of a macro (22.5.1); no macro has a name above 1,024 bytes (own)
abbrev pub use_of : List ℕ → Option Head
use_of name = if is_name name then Some (Local (Use name), 0) else option_map (λ n. (Local (Refused (LongUse n)), 0)) (cut name)

-- the directive of a name, and how many bytes its parts have, of what follows the name; none: it is not of its form
abbrev pub parts_of : Word → List ℕ → List ℕ → Option Head
parts_of Defining name after = define_of after
parts_of Undefining name after = named (λ n. Macros (Undef n)) after
parts_of UndefiningAll name after = Some (Local (Macros UndefineAll), 0)
parts_of (Testing test) name after = named (λ n. Conditionals (tested test n)) after
parts_of Otherwise name after = Some (Local (Conditionals Else), 0)
parts_of EndOfIf name after = Some (Local (Conditionals Endif), 0)
parts_of Including name after = include_of after
parts_of NetTyping name after = nettype_of after
parts_of Resetting name after = Some (Local (NetTypes Wire), 0)
parts_of FileName name after = Some (Local (Text File), 0)
parts_of LineNumber name after = Some (Local (Text Line), 0)
parts_of RestOfLine name after = Some (Local Ignored, line_length after)
parts_of Alone name after = Some (Local Ignored, 0)
parts_of Pulling name after = pull_of after
parts_of KeywordSet name after = keywords_of name after
parts_of NoDirective name after = use_of name

-- a directive that is not of its form takes what is its own (own): a definition all its lines, any other the rest of its line
abbrev pub malformed_length : Word → List ℕ → ℕ
malformed_length Defining after = own_length false after
malformed_length w after = rest_of_line after

abbrev pub whole_of : Word → List ℕ → List ℕ → Option Head → Head
whole_of w name after None = (Local (Refused (Malformed (cut name))), 1 + length name + malformed_length w after)
whole_of w name after (Some head) = (head.0, 1 + length name + head.1)

-- the name after the backtick at the head of a text, and what follows it
abbrev pub name_at : List ℕ → List ℕ
name_at text = identifier (drop 1 text)

abbrev pub after_name : List ℕ → List ℕ
after_name text = drop (1 + length (name_at text)) text

-- what the backtick at the head of a text begins, and how many bytes it has, from the backtick to the end of its last part
unfoldable pub directive_at : List ℕ → Head
directive_at text = whole_of (word_of (name_at text)) (name_at text) (after_name text) (parts_of (word_of (name_at text)) (name_at text) (after_name text))

-- whether the backtick at the head of a text begins a directive of conditional compilation (22.6)
unfoldable pub is_conditional_at : List ℕ → Bool
is_conditional_at text = is_conditional (word_of (name_at text))
