-- The generated session of a number of modules: a package with a width, that many modules whose port has it, and a top with an instance of each (own).
use Rattle.std.specs.Prelude.{ℕ, List, [], ◌∷◌, ◌++◌, None, map, codes, decimal}
use Rattle.std.specs.List.{flat_map, range_with_len}
use Rattle.sve_text.specs.declared.edit.Edit.TheVariants.{Put}
use Rattle.sve_text.specs.declared.edit.Mode.TheVariants.{Pinned}
use Rattle.sve_text.specs.Files.{opening_files}
use Rattle.sve_command.specs.declared.commands.Command.{Command}
use Rattle.sve_command.specs.declared.commands.Command.TheVariants.{Commit, Ask}
use Rattle.sve_command.specs.declared.commands.Query.TheVariants.{Tree, TypeOf, Diagnostics}
use Rattle.sve_script.specs.declared.sessions.Script.{Script}

-- a line with the line feed that ends it
abbrev pub line : List ℕ → List ℕ
line text = text ++ 10 ∷ []

abbrev pub package_name : List ℕ
package_name = codes "pkg.sv"

-- `package p; parameter W = <width>; endpackage`
abbrev pub package_text : ℕ → List ℕ
package_text width = line (codes "package p; parameter W = " ++ decimal width ++ codes "; endpackage")

abbrev pub leaf_name : ℕ → List ℕ
leaf_name i = codes "leaf" ++ decimal i ++ codes ".sv"

-- `module leaf<i>(input logic [p::W-1:0] a); endmodule`
abbrev pub leaf_text : ℕ → List ℕ
leaf_text i = line (codes "module leaf" ++ decimal i ++ codes "(input logic [p::W-1:0] a); endmodule")

abbrev pub top_name : List ℕ
top_name = codes "top.sv"

-- ` leaf<i> u<i>(.a(x));`
abbrev pub instance_text : ℕ → List ℕ
instance_text i = line (codes " leaf" ++ decimal i ++ codes " u" ++ decimal i ++ codes "(.a(x));")

-- the numbers of the modules, from 0
abbrev pub leaves : ℕ → List ℕ
leaves n = range_with_len 0 n

-- `module top;`, ` logic [p::W-1:0] x;`, a line for each instance, and `endmodule`
abbrev pub top_text : ℕ → List ℕ
top_text n = line (codes "module top;") ++ line (codes " logic [p::W-1:0] x;") ++ flat_map instance_text (leaves n) ++ line (codes "endmodule")

-- the opening files, by their names and texts
abbrev pub made_files : ℕ → List (List ℕ × List ℕ)
made_files n = (package_name, package_text 8) ∷ map (λ i. (leaf_name i, leaf_text i)) (leaves n) ++ (top_name, top_text n) ∷ []

-- its one client asks for `tree` and `diagnostics`, puts the package with another width, and asks for the type of the port `a` of the first instance
abbrev pub made_commands : List Command
made_commands =
    Ask Tree Pinned None
    ∷ Ask Diagnostics Pinned None
    ∷ Commit (Put package_name (package_text 16) ∷ [])
    ∷ Ask (TypeOf (codes "top.u0") (codes "a")) Pinned None
    ∷ []

-- the generated session
abbrev pub made_session : ℕ → Script
made_session n = record { files = opening_files (made_files n); clients = made_commands ∷ [] }
