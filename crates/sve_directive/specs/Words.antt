-- The names of the compiler directives (IEEE 1800-2017, clause 22).
use Rattle.std.specs.Prelude.{ℕ, Bool, false, true, bytes_eq, codes, List, if◌then◌else◌}
use Rattle.sve_directive.specs.declared.word.Word.{Word}
use Rattle.sve_directive.specs.declared.word.Word.TheVariants.{Defining, Undefining, UndefiningAll, Testing, Otherwise, EndOfIf, Including, NetTyping, Resetting, FileName, LineNumber, RestOfLine, Alone, Pulling, KeywordSet, NoDirective}
use Rattle.sve_directive.specs.declared.word.Test.TheVariants.{IfDefined, IfNotDefined, ElseIfDefined}

-- macros (22.5)
abbrev pub macro_word : List ℕ → Word → Word
macro_word name else_ =
    if bytes_eq name (codes "define") then Defining
    else if bytes_eq name (codes "undef") then Undefining
    else if bytes_eq name (codes "undefineall") then UndefiningAll
    else else_

-- conditional compilation (22.6)
abbrev pub conditional_word : List ℕ → Word → Word
conditional_word name else_ =
    if bytes_eq name (codes "ifdef") then Testing IfDefined
    else if bytes_eq name (codes "ifndef") then Testing IfNotDefined
    else if bytes_eq name (codes "elsif") then Testing ElseIfDefined
    else if bytes_eq name (codes "else") then Otherwise
    else if bytes_eq name (codes "endif") then EndOfIf
    else else_

-- files, net types, and what the text may say of itself (22.3, 22.4, 22.8, 22.13)
abbrev pub file_word : List ℕ → Word → Word
file_word name else_ =
    if bytes_eq name (codes "include") then Including
    else if bytes_eq name (codes "default_nettype") then NetTyping
    else if bytes_eq name (codes "resetall") then Resetting
    else if bytes_eq name (codes "__FILE__") then FileName
    else if bytes_eq name (codes "__LINE__") then LineNumber
    else else_

-- directives without an effect, and those that are refused (22.7, 22.9 to 22.12, 22.14)
abbrev pub other_word : List ℕ → Word → Word
other_word name else_ =
    if bytes_eq name (codes "timescale") then RestOfLine
    else if bytes_eq name (codes "line") then RestOfLine
    else if bytes_eq name (codes "pragma") then RestOfLine
    else if bytes_eq name (codes "celldefine") then Alone
    else if bytes_eq name (codes "endcelldefine") then Alone
    else if bytes_eq name (codes "nounconnected_drive") then Alone
    else if bytes_eq name (codes "unconnected_drive") then Pulling
    else if bytes_eq name (codes "begin_keywords") then KeywordSet
    else if bytes_eq name (codes "end_keywords") then KeywordSet
    else else_

-- what the name after a backtick asks for
unfoldable pub word_of : List ℕ → Word
word_of name = macro_word name (conditional_word name (file_word name (other_word name NoDirective)))

-- conditional compilation (22.6)
abbrev pub is_conditional : Word → Bool
is_conditional (Testing test) = true
is_conditional Otherwise = true
is_conditional EndOfIf = true
is_conditional w = false
