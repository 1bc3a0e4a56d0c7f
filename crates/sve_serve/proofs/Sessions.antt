-- What is known of a session that was read, and of the report of its run.
use Rattle.std.proofs.Common.{◌≡◌, ℕ, ◌<◌, ◌≤◌, ◌^◌, ◌⊎◌, inl, inr, List, Option, Some, None, true, false, refl, if◌then◌else◌, sym, ap, subst, arith}
use Rattle.std.specs.Prelude.{All, Bool, IfOk, Result, Ok, Err, length}
use Rattle.std.proofs.lemmas.List.Elements.{All-weaker}
use Rattle.sve_text.specs.Files.{opening_files}
use Rattle.sve_history.specs.Histories.{IsOpening}
use Rattle.sve_history.proofs.Stamps.{opening_files_are_untouched}
use Rattle.sve_clients.specs.declared.runs.Order.TheVariants.{AtOnce, InTurn}
use Rattle.sve_command.specs.declared.commands.Command.{Command}
use Rattle.sve_command.specs.Sizes.{edit_count}
use Rattle.sve_script.specs.declared.sessions.Script.{Script}
use Rattle.sve_script.specs.declared.sessions.TheConstants.{MAX_EDITS}
use Rattle.sve_script.specs.declared.limits.Beyond.{Beyond}
use Rattle.sve_script.specs.declared.parts.Parts.{Parts}
use Rattle.sve_script.specs.Limits.{limit_of, AreInLimits}
use Rattle.sve_script.specs.Made.{made_files, made_session}
use Rattle.sve_script.specs.Session.{within as in_limits, session_from, parts_of, IsSession}
use Rattle.sve_report.specs.declared.entry.Entry.{Entry}
use Rattle.sve_report.specs.declared.record.Record.{Record}
use Rattle.sve_lint.specs.Rules.{RuleState}
use Rattle.sve_runner.specs.Told.{AreFew}
use Rattle.sve_words.specs.declared.request.Options.{Options}
use Rattle.sve_serve.specs.Honest.{default_budget, run_order, terms_of, Honest, AreInTurn}
use Rattle.sve_serve.specs.declared.serving.Reply.{Reply}
use Rattle.sve_serve.specs.declared.status.Status.{Status}
use Rattle.sve_serve.specs.declared.status.Status.TheVariants.{Done}
use Rattle.sve_serve.specs.Runs.{IsReportOf, IsOutputForSession, IsSummaryOf}
use Rattle.sve_serve.specs.Serial.{AreRecordsInTurn, opened}
use Rattle.sve_serve.specs.Summary.{summary}
use Rattle.sve_serve.specs.Texts.{IsTextOf, last_files}
use Rattle.sve_serve.proofs.InTurn.{are_in_turn}

-- ---- its opening files

made_of : (files : List (List ℕ × List ℕ)) (clients : List (List Command)) (beyond : Option Beyond) (script : Script) → in_limits (record { files = files; clients = clients }) beyond ≡ Ok script → script.files ≡ opening_files files
made_of files clients None script is = let same : record { files = opening_files files; clients = clients } ≡ script = cc in ap (λ (s : Script). s.files) (sym same)
made_of files clients (Some beyond) script is = absurd (cc)

opened_from : (parts : Result Parts (List ℕ)) (script : Script) → session_from parts ≡ Ok script → IsOpening script.files
opened_from (Err path) script is = absurd (cc)
opened_from (Ok parts) script is = subst IsOpening (sym (made_of parts.files parts.clients (limit_of parts.files parts.clients) script is)) (opening_files_are_untouched parts.files)

-- no commit has touched them
pub session_opening : (bytes : List ℕ) (script : Script) → IsSession bytes script → IsOpening script.files
session_opening bytes script session = opened_from (parts_of session.0) script session.2

-- ---- its clients

-- their commands and edits can be counted in 32 bits
pub are_few : (clients : List (List Command)) → AreInLimits clients → AreFew clients
are_few clients limits = record {
  commands = omega (arith, limits.few_commands);
  edits = All-weaker (λ (commands : List Command). All (λ command. edit_count command ≤ MAX_EDITS) commands) (λ (commands : List Command). All (λ command. edit_count command < 2 ^ 32) commands)
      (λ commands few. All-weaker (λ (command : Command). edit_count command ≤ MAX_EDITS) (λ (command : Command). edit_count command < 2 ^ 32) (λ command le. omega (arith, le)) commands few) clients limits.few_edits;
}

-- ---- its report

in_turn : (options : Options) (clients : List (List Command)) → AreInTurn options clients → (run_order options ≡ InTurn) ⊎ (length clients ≡ 1)
in_turn options clients (inl serial) = inl (ap (λ (b : Bool). if b then InTurn else AtOnce) serial)
in_turn options clients (inr one) = inr one

pub reported : (options : Options) (rules : List RuleState) (bytes text : List ℕ) (script : Script) (entries : List Entry) (records : List (List Record)) → IsSession bytes script → Honest options script entries records
    → IsTextOf options rules (last_files script entries) entries records text → IsReportOf options rules bytes text
reported options rules bytes text script entries records session honest written = record {
  script = script;
  entries = entries;
  records = records;
  session = session;
  honest = honest;
  in_turn = λ turns. are_in_turn (terms_of options) script.files script.clients entries records (in_turn options script.clients turns) honest;
  written = written;
}

pub reported_output : {E : Type 0} (options : Options) (rules : List RuleState) (bytes : List ℕ) (script : Script) (r : Result Reply E) → IsSession bytes script → IfOk r (λ reply. reply.status ≡ Done)
    → IfOk r (λ reply. (entries : List Entry) × (records : List (List Record)) × Honest options script entries records × IsTextOf options rules (last_files script entries) entries records reply.text.items)
    → IfOk r (λ reply. IsOutputForSession options rules bytes reply.status reply.text.items)
reported_output options rules bytes script (Ok reply) session done (entries, records, honest, written) =
    subst (λ (s : Status). IsOutputForSession options rules bytes s reply.text.items) (sym done) (reported options rules bytes reply.text.items script entries records session honest written)
reported_output options rules bytes script (Err e) session done text = tt

-- ---- the generated session

-- no commit has touched its files
pub made_opening : (n : ℕ) (script : Script) → script ≡ made_session n → IsOpening script.files
made_opening n script is = subst (λ (s : Script). IsOpening s.files) (sym is) (opening_files_are_untouched (made_files n))

abbrev made_options : Options
made_options = record { budget = None; serial = true; lint = false }

pub summed_up : (n : ℕ) (script : Script) (entries : List Entry) (records : List (List Record)) (text : List ℕ) → script ≡ made_session n → Honest made_options script entries records → text ≡ summary n records → IsSummaryOf n text
summed_up n script entries records text is honest written =
    let told = are_in_turn (terms_of made_options) script.files script.clients entries records (inl refl) honest in
    (records, subst (λ (s : Script). AreRecordsInTurn default_budget (opened s.files) 1 s.clients records) is told.0, written)
