-- What is known of a session that is in its limits, and of its parts.
use Rattle.std.proofs.Common.{◌≡◌, ℕ, ◌+◌, ◌≤◌, Bool, true, false, List, [], ◌∷◌, Option, Some, None, Result, Ok, Err, IfOk, length, sum_by, All, if◌then◌else◌, nat_le, codes, decimal, refl, sym, subst, arith}
use Rattle.std.specs.List.{AllByRecursion}
use Rattle.std.proofs.lemmas.Bool.{leb-true}
use Rattle.std.proofs.lemmas.List.Elements.{All-from_recursion}
use Rattle.serde_json.specs.Data.{Data, Items, no_items, item, Members}
use Rattle.serde_json.specs.Find.{as_array, as_object, get_member}
use Rattle.sve_text.specs.Files.{HaveDistinctNames, TextsFit}
use Rattle.sve_text.specs.Rows.{IsInLimit}
use Rattle.sve_text.specs.declared.edit.TheConstants.{MAX_FILE_LEN, MAX_FILES}
use Rattle.sve_shape.specs.Shapes.{Shaped, under, shaped_map, shaped_then, shaped_of, has_exactly, member_as, items_as, array_as}
use Rattle.sve_command.specs.declared.commands.Command.{Command}
use Rattle.sve_command.specs.Sizes.{edit_count, bad_budget_of, HasFairBudget}
use Rattle.sve_command.specs.Commands.{command_of}
use Rattle.sve_script.specs.declared.sessions.Script.{Script}
use Rattle.sve_script.specs.declared.sessions.BadSession.{BadSession}
use Rattle.sve_script.specs.declared.sessions.Which.{Which}
use Rattle.sve_script.specs.declared.sessions.Which.TheVariants.{Files, Bytes, Clients, Commands, Edits, Budget}
use Rattle.sve_script.specs.declared.sessions.TheConstants.{MAX_CLIENTS, MAX_COMMANDS, MAX_EDITS}
use Rattle.sve_script.specs.declared.limits.Beyond.{Beyond}
use Rattle.sve_script.specs.declared.parts.Parts.{Parts}
use Rattle.sve_script.specs.Limits.{above, or_else, first_of, long_file, large_commit, first_bad_budget, beyond, limit_of, AreInLimits}
use Rattle.sve_script.specs.Session.{some_items, clients_of, files_of, files_as, parts_from, parts_of, within, session_from, session_of}
use Rattle.sve_script.proofs.Inversions.{then_at, then_ok, map_ok, under_ok, then_branch}
use Rattle.sve_script.proofs.NewNames.{names_are_new}

-- ---- limits

pub at_most_limit : (most number : ℕ) → above most number ≡ None → number ≤ most
at_most_limit most number none = by_test (nat_le number most) refl none
  where
    by_test : (b : Bool) → nat_le number most ≡ b → (if b then None else Some number) ≡ None → number ≤ most
    by_test true test none = leb-true number most test
    by_test false test none = absurd (cc)

neither : {A : Type 0} (first second : Option A) → or_else first second ≡ None → (first ≡ None) × (second ≡ None)
neither None second none = (refl, none)
neither (Some x) second none = absurd (cc)

each : {A : Type 0} (P : A → Type 0) (number : A → Option ℕ) → ((x : A) → number x ≡ None → P x) → (xs : List A) → first_of number xs ≡ None → AllByRecursion P xs
each P number one [] none = tt
each P number one (x ∷ xs) none =
    let both = neither (number x) (first_of number xs) none in
    (one x both.0, each P number one xs both.1)

pub each_has : {A : Type 0} (P : A → Type 0) (number : A → Option ℕ) → ((x : A) → number x ≡ None → P x) → (xs : List A) → first_of number xs ≡ None → All P xs
each_has P number one xs none = All-from_recursion P xs (each P number one xs none)

not_beyond : (which : Which) (number : Option ℕ) (rest : Option Beyond) → beyond which number rest ≡ None → (number ≡ None) × (rest ≡ None)
not_beyond which None rest none = (refl, none)
not_beyond which (Some number) rest none = absurd (cc)

pub record IsInLimits (files : List (List ℕ × List ℕ)) (clients : List (List Command)) : Type 0 where
  pub texts : TextsFit files
  pub few_clients : length clients ≤ MAX_CLIENTS
  pub few_commands : sum_by length clients ≤ MAX_COMMANDS
  pub few_edits : All (λ commands. All (λ command. edit_count command ≤ MAX_EDITS) commands) clients
  pub fair_budgets : All (λ commands. All HasFairBudget commands) clients

pub in_limits : (files : List (List ℕ × List ℕ)) (clients : List (List Command)) → limit_of files clients ≡ None → IsInLimits files clients
in_limits files clients none =
    let a = not_beyond Files (above MAX_FILES (length files)) _ none in
    let b = not_beyond Bytes (long_file files) _ a.1 in
    let c = not_beyond Clients (above MAX_CLIENTS (length clients)) _ b.1 in
    let d = not_beyond Commands (above MAX_COMMANDS (sum_by length clients)) _ c.1 in
    let e = not_beyond Edits (large_commit clients) _ d.1 in
    let f = not_beyond Budget (first_bad_budget clients) None e.1 in
    record {
      texts = each_has (λ (file : List ℕ × List ℕ). IsInLimit file.1) (λ file. above MAX_FILE_LEN (length file.1)) (λ file e. at_most_limit MAX_FILE_LEN (length file.1) e) files b.0;
      few_clients = at_most_limit MAX_CLIENTS (length clients) c.0;
      few_commands = at_most_limit MAX_COMMANDS (sum_by length clients) d.0;
      few_edits = each_has (λ (commands : List Command). All (λ command. edit_count command ≤ MAX_EDITS) commands) (first_of (λ command. above MAX_EDITS (edit_count command))) (λ commands e. each_has (λ (command : Command). edit_count command ≤ MAX_EDITS) (λ command. above MAX_EDITS (edit_count command)) (λ command e. at_most_limit MAX_EDITS (edit_count command) e) commands e) clients e.0;
      fair_budgets = each_has (λ (commands : List Command). All HasFairBudget commands) (first_of bad_budget_of) (λ commands e. each_has HasFairBudget bad_budget_of (λ command e. e) commands e) clients f.0;
    }

-- ---- parts

some_are_read : {A : Type 0} (taken : Data → Shaped A) (items : Items) (xs : List A) → shaped_then (items_as taken 0) (some_items items) ≡ Ok xs → 1 ≤ length xs
some_are_read taken no_items xs is = absurd (cc)
some_are_read taken (item d ds) xs is =
    let first = then_ok (λ first. shaped_map (λ others. first ∷ others) (items_as taken (0 + 1) ds)) (under (decimal 0) (taken d)) xs is in
    let rest = map_ok (λ (others : List _). first.0 ∷ others) (items_as taken (0 + 1) ds) xs first.2 in
    subst (λ (ys : List _). 1 ≤ length ys) rest.2 (omega arith)

pub record AreFair (parts : Parts) : Type 0 where
  pub distinct_names : HaveDistinctNames parts.files
  pub some_client : 1 ≤ length parts.clients

pub parts_are_fair : (value : Data) (parts : Parts) → parts_of value ≡ Ok parts → AreFair parts
parts_are_fair value parts is =
    let object = then_ok parts_from (shaped_of (as_object value)) parts is in
    let ms : Members = object.0 in
    let both = then_branch (has_exactly (codes "files" ∷ codes "clients" ∷ []) ms) _ [] parts object.2 in
    let files = then_ok (λ files. shaped_map (λ clients. record { files = files; clients = clients }) (member_as clients_of (codes "clients") ms)) (member_as files_of (codes "files") ms) parts both.1 in
    let clients = map_ok (λ (clients : List (List Command)). let made : Parts = record { files = files.0; clients = clients } in made) (member_as clients_of (codes "clients") ms) parts files.2 in
    let file_value = then_ok files_of (shaped_of (get_member (codes "files") ms)) files.0 (under_ok (codes "files") _ files.0 files.1) in
    let file_items = then_ok (files_as (λ name. false) 0) (shaped_of (as_array file_value.0)) files.0 file_value.2 in
    let client_value = then_ok clients_of (shaped_of (get_member (codes "clients") ms)) clients.0 (under_ok (codes "clients") _ clients.0 clients.1) in
    let client_items = then_ok (items_as (array_as command_of) 0) (shaped_then some_items (shaped_of (as_array client_value.0))) clients.0 client_value.2 in
    let items = then_ok some_items (shaped_of (as_array client_value.0)) client_items.0 client_items.1 in
    subst AreFair clients.2
    (record {
      distinct_names = (names_are_new (λ name. false) 0 file_items.0 files.0 file_items.2).1;
      some_client = some_are_read (array_as command_of) items.0 clients.0 (then_at (items_as (array_as command_of) 0) (some_items items.0) client_items.0 clients.0 items.2 client_items.2);
    })

-- ---- sessions

within_fits : (parts : Parts) (limit : Option Beyond) → limit_of parts.files parts.clients ≡ limit → AreFair parts → IfOk (within parts limit) (λ script. AreInLimits script.clients)
within_fits parts (Some beyond) is fair = tt
within_fits parts None is fair =
    let limits = in_limits parts.files parts.clients is in
    record { some_client = fair.some_client; few_clients = limits.few_clients; few_commands = limits.few_commands; few_edits = limits.few_edits; fair_budgets = limits.fair_budgets }

parts_fit : (value : Data) (shaped : Shaped Parts) → parts_of value ≡ shaped → IfOk (session_from shaped) (λ script. AreInLimits script.clients)
parts_fit value (Err path) is = tt
parts_fit value (Ok parts) is = within_fits parts (limit_of parts.files parts.clients) refl (parts_are_fair value parts is)

pub session_fits : (value : Data) (read : Result Script BadSession) → read ≡ session_of value → IfOk read (λ script. AreInLimits script.clients)
session_fits value read is = subst (λ (r : Result Script BadSession). IfOk r (λ script. AreInLimits script.clients)) (sym is) (parts_fit value (parts_of value) refl)
