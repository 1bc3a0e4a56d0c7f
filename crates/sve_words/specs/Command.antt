-- The command that the options of a run are.
use Rattle.std.specs.Prelude.{ℕ, true, List, Some, codes}
use Rattle.clap.specs.Words.{App, Rule, new_app, new_rule, with_rule}
use Rattle.clap.specs.declared.builder.ArgAction.TheVariants.{Set, SetTrue}

abbrev pub budget_rule : Rule
budget_rule = record (new_rule (codes "budget")) { long = Some (codes "budget"); action = Some Set }

-- an option without a value
abbrev pub flag_rule : List ℕ → Rule
flag_rule name = record (new_rule name) { long = Some name; action = Some SetTrue }

-- the command without its options
abbrev pub bare_app : App
bare_app = let app = new_app (codes "run") in record app { top = record app.top { no_binary_name = true; disable_help_flag = true; args_override_self = true } }

abbrev pub options_app : App
options_app = with_rule (with_rule (with_rule bare_app budget_rule) (flag_rule (codes "serial"))) (flag_rule (codes "lint"))
