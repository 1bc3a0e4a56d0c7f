-- The keywords of SystemVerilog, by their first letter (IEEE 1800-2017, Annex B): 248 words.
use Rattle.std.specs.Prelude.{ℕ, ◌==◌, Bool, false, List, [], ◌∷◌, if◌then◌else◌, codes}
use Rattle.std.specs.List.{list_any}
use Rattle.std.specs.Str.{bytes_eq}

-- the words of one letter, each as its bytes
abbrev pub Words : Type 0
Words = List (List ℕ)

abbrev pub a_words : Words
a_words =
    codes "accept_on" ∷ codes "alias" ∷ codes "always" ∷ codes "always_comb" ∷ codes "always_ff" ∷
    codes "always_latch" ∷ codes "and" ∷ codes "assert" ∷ codes "assign" ∷ codes "assume" ∷ codes "automatic" ∷ []

abbrev pub b_words : Words
b_words =
    codes "before" ∷ codes "begin" ∷ codes "bind" ∷ codes "bins" ∷ codes "binsof" ∷ codes "bit" ∷
    codes "break" ∷ codes "buf" ∷ codes "bufif0" ∷ codes "bufif1" ∷ codes "byte" ∷ []

abbrev pub c_words : Words
c_words =
    codes "case" ∷ codes "casex" ∷ codes "casez" ∷ codes "cell" ∷ codes "chandle" ∷ codes "checker" ∷
    codes "class" ∷ codes "clocking" ∷ codes "cmos" ∷ codes "config" ∷ codes "const" ∷ codes "constraint" ∷
    codes "context" ∷ codes "continue" ∷ codes "cover" ∷ codes "covergroup" ∷ codes "coverpoint" ∷
    codes "cross" ∷ []

abbrev pub d_words : Words
d_words =
    codes "deassign" ∷ codes "default" ∷ codes "defparam" ∷ codes "design" ∷ codes "disable" ∷ codes "dist" ∷
    codes "do" ∷ []

abbrev pub e_words : Words
e_words =
    codes "edge" ∷ codes "else" ∷ codes "end" ∷ codes "endcase" ∷ codes "endchecker" ∷ codes "endclass" ∷
    codes "endclocking" ∷ codes "endconfig" ∷ codes "endfunction" ∷ codes "endgenerate" ∷ codes "endgroup" ∷
    codes "endinterface" ∷ codes "endmodule" ∷ codes "endpackage" ∷ codes "endprimitive" ∷ codes "endprogram" ∷
    codes "endproperty" ∷ codes "endsequence" ∷ codes "endspecify" ∷ codes "endtable" ∷ codes "endtask" ∷
    codes "enum" ∷ codes "event" ∷ codes "eventually" ∷ codes "expect" ∷ codes "export" ∷ codes "extends" ∷
    codes "extern" ∷ []

abbrev pub f_words : Words
f_words =
    codes "final" ∷ codes "first_match" ∷ codes "for" ∷ codes "force" ∷ codes "foreach" ∷ codes "forever" ∷
    codes "fork" ∷ codes "forkjoin" ∷ codes "function" ∷ []

abbrev pub g_words : Words
g_words =
    codes "generate" ∷ codes "genvar" ∷ codes "global" ∷ []

abbrev pub h_words : Words
h_words =
    codes "highz0" ∷ codes "highz1" ∷ []

abbrev pub i_words : Words
i_words =
    codes "if" ∷ codes "iff" ∷ codes "ifnone" ∷ codes "ignore_bins" ∷ codes "illegal_bins" ∷
    codes "implements" ∷ codes "implies" ∷ codes "import" ∷ codes "incdir" ∷ codes "include" ∷ codes "initial" ∷
    codes "inout" ∷ codes "input" ∷ codes "inside" ∷ codes "instance" ∷ codes "int" ∷ codes "integer" ∷
    codes "interconnect" ∷ codes "interface" ∷ codes "intersect" ∷ []

abbrev pub j_words : Words
j_words =
    codes "join" ∷ codes "join_any" ∷ codes "join_none" ∷ []

abbrev pub l_words : Words
l_words =
    codes "large" ∷ codes "let" ∷ codes "liblist" ∷ codes "library" ∷ codes "local" ∷ codes "localparam" ∷
    codes "logic" ∷ codes "longint" ∷ []

abbrev pub m_words : Words
m_words =
    codes "macromodule" ∷ codes "matches" ∷ codes "medium" ∷ codes "modport" ∷ codes "module" ∷ []

abbrev pub n_words : Words
n_words =
    codes "nand" ∷ codes "negedge" ∷ codes "nettype" ∷ codes "new" ∷ codes "nexttime" ∷ codes "nmos" ∷
    codes "nor" ∷ codes "noshowcancelled" ∷ codes "not" ∷ codes "notif0" ∷ codes "notif1" ∷ codes "null" ∷ []

abbrev pub o_words : Words
o_words =
    codes "or" ∷ codes "output" ∷ []

abbrev pub p_words : Words
p_words =
    codes "package" ∷ codes "packed" ∷ codes "parameter" ∷ codes "pmos" ∷ codes "posedge" ∷ codes "primitive" ∷
    codes "priority" ∷ codes "program" ∷ codes "property" ∷ codes "protected" ∷ codes "pull0" ∷ codes "pull1" ∷
    codes "pulldown" ∷ codes "pullup" ∷ codes "pulsestyle_ondetect" ∷ codes "pulsestyle_onevent" ∷
    codes "pure" ∷ []

abbrev pub r_words : Words
r_words =
    codes "rand" ∷ codes "randc" ∷ codes "randcase" ∷ codes "randsequence" ∷ codes "rcmos" ∷ codes "real" ∷
    codes "realtime" ∷ codes "ref" ∷ codes "reg" ∷ codes "reject_on" ∷ codes "release" ∷ codes "repeat" ∷
    codes "restrict" ∷ codes "return" ∷ codes "rnmos" ∷ codes "rpmos" ∷ codes "rtran" ∷ codes "rtranif0" ∷
    codes "rtranif1" ∷ []

abbrev pub s_words : Words
s_words =
    codes "s_always" ∷ codes "s_eventually" ∷ codes "s_nexttime" ∷ codes "s_until" ∷ codes "s_until_with" ∷
    codes "scalared" ∷ codes "sequence" ∷ codes "shortint" ∷ codes "shortreal" ∷ codes "showcancelled" ∷
    codes "signed" ∷ codes "small" ∷ codes "soft" ∷ codes "solve" ∷ codes "specify" ∷ codes "specparam" ∷
    codes "static" ∷ codes "string" ∷ codes "strong" ∷ codes "strong0" ∷ codes "strong1" ∷ codes "struct" ∷
    codes "super" ∷ codes "supply0" ∷ codes "supply1" ∷ codes "sync_accept_on" ∷ codes "sync_reject_on" ∷ []

abbrev pub t_words : Words
t_words =
    codes "table" ∷ codes "tagged" ∷ codes "task" ∷ codes "this" ∷ codes "throughout" ∷ codes "time" ∷
    codes "timeprecision" ∷ codes "timeunit" ∷ codes "tran" ∷ codes "tranif0" ∷ codes "tranif1" ∷ codes "tri" ∷
    codes "tri0" ∷ codes "tri1" ∷ codes "triand" ∷ codes "trior" ∷ codes "trireg" ∷ codes "type" ∷
    codes "typedef" ∷ []

abbrev pub u_words : Words
u_words =
    codes "union" ∷ codes "unique" ∷ codes "unique0" ∷ codes "unsigned" ∷ codes "until" ∷ codes "until_with" ∷
    codes "untyped" ∷ codes "use" ∷ codes "uwire" ∷ []

abbrev pub v_words : Words
v_words =
    codes "var" ∷ codes "vectored" ∷ codes "virtual" ∷ codes "void" ∷ []

abbrev pub w_words : Words
w_words =
    codes "wait" ∷ codes "wait_order" ∷ codes "wand" ∷ codes "weak" ∷ codes "weak0" ∷ codes "weak1" ∷
    codes "while" ∷ codes "wildcard" ∷ codes "wire" ∷ codes "with" ∷ codes "within" ∷ codes "wor" ∷ []

abbrev pub x_words : Words
x_words =
    codes "xnor" ∷ codes "xor" ∷ []

-- the words that begin with a letter
unfoldable pub keywords_from : ℕ → Words
keywords_from letter =
    if letter == 97 then a_words
    else if letter == 98 then b_words
    else if letter == 99 then c_words
    else if letter == 100 then d_words
    else if letter == 101 then e_words
    else if letter == 102 then f_words
    else if letter == 103 then g_words
    else if letter == 104 then h_words
    else if letter == 105 then i_words
    else if letter == 106 then j_words
    else if letter == 108 then l_words
    else if letter == 109 then m_words
    else if letter == 110 then n_words
    else if letter == 111 then o_words
    else if letter == 112 then p_words
    else if letter == 114 then r_words
    else if letter == 115 then s_words
    else if letter == 116 then t_words
    else if letter == 117 then u_words
    else if letter == 118 then v_words
    else if letter == 119 then w_words
    else if letter == 120 then x_words
    else []

-- whether a text is one of the words
abbrev pub is_among : Words → List ℕ → Bool
is_among words text = list_any (λ w. bytes_eq w text) words

-- whether a text is a keyword: it is one of the words from its first letter
abbrev pub is_keyword_text : List ℕ → Bool
is_keyword_text [] = false
is_keyword_text (b ∷ bs) = is_among (keywords_from b) (b ∷ bs)
