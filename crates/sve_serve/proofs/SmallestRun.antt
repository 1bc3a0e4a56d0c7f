-- The definitions, computed on the smallest whole run: a file is put and asked for.
use Rattle.std.proofs.Common.{ℕ, List, [], ◌∷◌, None, codes, refl}
use Rattle.std.specs.Fmt.{digits}
use Rattle.sve_text.specs.declared.edit.Edit.TheVariants.{Put}
use Rattle.sve_text.specs.declared.edit.Mode.TheVariants.{Latest}
use Rattle.sve_text.specs.Files.{FilesValue, files_after, opening_files}
use Rattle.sve_command.specs.declared.commands.Command.{Command}
use Rattle.sve_command.specs.declared.commands.Command.TheVariants.{Commit, Ask}
use Rattle.sve_command.specs.declared.commands.Query.TheVariants.{File}
use Rattle.sve_store.specs.declared.answer.Answer.TheVariants.{Done}
use Rattle.sve_report.specs.declared.entry.Entry.{Entry}
use Rattle.sve_report.specs.declared.record.Record.{Record}
use Rattle.sve_report.specs.declared.record.Record.TheVariants.{Accepted, Answered}
use Rattle.sve_serve.specs.Answers.{IsAnswerAt}
use Rattle.sve_serve.specs.Serial.{IsReportInTurn}

text : List ℕ
text = codes "module a;\nendmodule\n"

-- the files after the commit
abbrev files : FilesValue
files = files_after 1 (opening_files []) (Put (codes "a.sv") text ∷ [])

abbrev lines : List (List ℕ)
lines = codes "stamp 1 bytes 20" ∷ codes "|module a;" ∷ codes "|endmodule" ∷ codes "|" ∷ []

smallest_answer : IsAnswerAt files (File (codes "a.sv")) 1000000 (Done lines)
unfolding digits text
smallest_answer = refl

absent_answer : IsAnswerAt files (File (codes "b.sv")) 1000000 (Done (codes "none" ∷ []))
unfolding digits text
absent_answer = refl

abbrev commands : List Command
commands = Commit (Put (codes "a.sv") text ∷ []) ∷ Ask (File (codes "a.sv")) Latest None ∷ []

abbrev entries : List Entry
entries = record { client = 1; command = 1 } ∷ []

abbrev records : List (List Record)
records = (Accepted 1 ∷ Answered 1 lines ∷ []) ∷ []

smallest_report : IsReportInTurn 1000000 (opening_files []) (commands ∷ []) (codes "history 1\n1 1 1\nclient 1\n1 accepted 1\n2 answer 1 4\nstamp 1 bytes 20\n|module a;\n|endmodule\n|\n")
unfolding digits text
smallest_report = (entries, records, (((refl, ((Done lines, refl, refl), tt)), tt), refl), refl)
