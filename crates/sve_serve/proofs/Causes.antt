-- What follows from how a call ended.
use Rattle.std.proofs.Common.{◌≡◌, ℕ, ◌+◌, ◌<◌, ◌≤◌, ◌⊎◌, inl, inr, List, [], ◌∷◌, ◌++◌, Option, Some, None, IfSome, length, take, refl, sym, ap, ◌∙◌, subst, arith, length-append}
use Rattle.sve_io.specs.Faults.{HasRisen}
use Rattle.sve_io.specs.Moves.{Loses, Gains}
use Rattle.sve_io.proofs.MovesInTurn.{Loses-nil}
use Rattle.sve_script.specs.declared.sessions.Script.{Script}
use Rattle.sve_script.specs.Session.{IsSession}
use Rattle.sve_lint.specs.Rules.{RuleState}
use Rattle.sve_serve.specs.declared.status.Status.{Status}
use Rattle.sve_serve.specs.declared.status.Status.TheVariants.{Done, Usage, BadSession, ReadFault, WriteFault, TooLarge, NoMemory}
use Rattle.sve_serve.specs.Endings.{Seen, IsReadUpTo, IsOutputForRead, HasWrittenOutput, Ends}
use Rattle.sve_serve.specs.Runs.{max_session, usage_line, too_large_line, AreLeft, IsReportOf, IsRefusalOf, IsBad, IsOutputFor, IsSummaryOf, WritesItsOutput, IsRunOver}
use Rattle.sve_words.specs.declared.request.Options.{Options}
use Rattle.sve_words.specs.declared.request.Spoken.{Spoken}
use Rattle.sve_words.specs.declared.request.Spoken.TheVariants.{Run, Make, Usage as NoRun}
use Rattle.sve_words.specs.Words.{spoken}
use Rattle.sve_serve.specs.Words.{IsRun, IsMade}

same_bytes : (left : Option (List ℕ)) (bytes all : List ℕ) → left ≡ Some bytes → IfSome left (λ l. l ≡ all) → all ≡ bytes
same_bytes None bytes all is same = absurd (cc)
same_bytes (Some l) bytes all is same = cc

at_least : (left after : Option (List ℕ)) (bytes moved : List ℕ) → left ≡ Some bytes → Loses left after moved → length moved ≤ length bytes
at_least left None bytes moved is loses = absurd (cc)
at_least left (Some rest) bytes moved is loses = let e : bytes ≡ moved ++ rest = cc in omega (arith, ap length e, length-append moved rest)

some_left : (left : Option (List ℕ)) → (bytes : List ℕ) × AreLeft left bytes
some_left None = ([], tt)
some_left (Some bytes) = (bytes, refl)

-- where a byte too many was moved, too many are left
many_left : (left after : Option (List ℕ)) (moved : List ℕ) → length moved ≡ max_session + 1 → Loses left after moved → (bytes : List ℕ) × AreLeft left bytes × (max_session < length bytes)
many_left None after moved size loses = (moved, tt, omega (arith, size))
many_left (Some bytes) after moved size loses = (bytes, refl, omega (arith, size, at_least (Some bytes) after bytes moved refl loses))

nothing : (xs : List ℕ) → length xs ≡ 0 → xs ≡ []
nothing [] e = refl
nothing (x ∷ xs) e = absurd (omega (arith, e))

at_end : (before after : Option (List ℕ)) (bytes : List ℕ) → Loses before after bytes → IfSome before (λ l. l ≡ bytes) → IfSome after (λ l. l ≡ [])
at_end before None bytes loses all = tt
at_end before (Some rest) bytes loses all =
    let e : bytes ++ rest ≡ bytes = subst (λ (o : Option (List ℕ)). IfSome o (λ l. l ≡ bytes)) loses all in
    nothing rest (omega (arith, ap length e, length-append bytes rest))

-- bytes that are a session are not bad
not_both : (bytes : List ℕ) (script : Script) → IsSession bytes script → IsBad bytes → ⊥
not_both bytes script session (inl no_json) = no_json session.0 session.1
not_both bytes script session (inr (inl (path, misshapen))) = cc (session.1.1, misshapen.1.1, session.2, misshapen.2)
not_both bytes script session (inr (inr (which, number, beyond))) = cc (session.1.1, beyond.1.1, session.2, beyond.2)

is_bad : (bytes text : List ℕ) → IsRefusalOf bytes text → IsBad bytes
is_bad bytes text (inl r) = inl r.0
is_bad bytes text (inr (inl (path, misshapen, line))) = inr (inl (path, misshapen))
is_bad bytes text (inr (inr (which, number, beyond, line))) = inr (inr (which, number, beyond))

not_refused : (bytes text : List ℕ) (script : Script) → IsSession bytes script → IsRefusalOf bytes text → ⊥
not_refused bytes text script session r = not_both bytes script session (is_bad bytes text r)

module _ (words : List (List ℕ)) (rules : List RuleState) (unread unwritten : Type 0) (s s' k k' : Seen) where
  -- the output for what was read is that for all bytes that the source has left, where it tells them, and else for some
  output_for : (status : Status) (text : List ℕ) → IsOutputForRead words rules unread s s' status text → (bytes : List ℕ) × AreLeft s.bytes bytes × IsOutputFor words rules bytes status text
  output_for Done text (inl (asked, (given, whole, report))) = (given, whole.all, inl (asked, whole.in_limit, report))
  output_for Done text (inr (asked, alone, summary)) = let (bytes, all) = some_left s.bytes in (bytes, all, inr (asked, summary))
  output_for BadSession text (asked, (given, whole, refusal)) = (given, whole.all, (asked, whole.in_limit, refusal))
  output_for Usage text (asked, alone, line) = let (bytes, all) = some_left s.bytes in (bytes, all, (asked, line))
  output_for TooLarge text (asked, (moved, size, loses), line) = let (bytes, all, many) = many_left s.bytes s'.bytes moved size loses in (bytes, all, (asked, many, line))
  output_for ReadFault text output = absurd output
  output_for WriteFault text output = absurd output
  output_for NoMemory text output = absurd output

  -- the bytes and the text of an output that was written
  abbrev pub HasGained : Status → Type 0
  HasGained status = (bytes : List ℕ) × (text : List ℕ) × AreLeft s.bytes bytes × IsOutputFor words rules bytes status text × Gains k.bytes k'.bytes text

  gained : (status : Status) → HasWrittenOutput words rules unread s s' k k' status → HasGained status
  gained status (text, output, (gains, still)) = let (bytes, all, is_for) = output_for status text output in (bytes, text, all, is_for, gains)

  -- the same over a source that tells its bytes
  gained_told : (status : Status) (bytes : List ℕ) → s.bytes ≡ Some bytes → HasWrittenOutput words rules unread s s' k k' status → (text : List ℕ) × IsOutputFor words rules bytes status text
  gained_told status bytes is written =
      let (given, text, all, is_for, gains) = gained status written in
      (text, subst (λ (b : List ℕ). IsOutputFor words rules b status text) (same_bytes s.bytes bytes given is all) is_for)

  not_both_asked : IsRun words → IsMade words → ⊥
  not_both_asked a b = let bad : ◌≡◌ {A = Spoken} (Run a.0) (Make b.0) = sym a.1 ∙ b.1 in absurd (cc)

  not_made : spoken words ≡ NoRun → IsMade words → ⊥
  not_made a b = let bad : ◌≡◌ {A = Spoken} NoRun (Make b.0) = sym a ∙ b.1 in absurd (cc)

  same_options : (options : Options) → spoken words ≡ Run options → (asked : IsRun words) → asked.0 ≡ options
  same_options options is asked = let same : ◌≡◌ {A = Spoken} (Run asked.0) (Run options) = sym asked.1 ∙ is in cc

  same_number : (n : ℕ) → spoken words ≡ Make n → (asked : IsMade words) → asked.0 ≡ n
  same_number n is asked = let same : ◌≡◌ {A = Spoken} (Make asked.0) (Make n) = sym asked.1 ∙ is in cc

  -- what was written where the call ends with Done
  done_written : (result : Status) → Ends words rules unread unwritten s s' k k' result → result ≡ Done → HasWrittenOutput words rules unread s s' k k' Done
  done_written result ends done = subst (Ends words rules unread unwritten s s' k k') done ends

  reported : (options : Options) → spoken words ≡ Run options → (text : List ℕ) → IsOutputForRead words rules unread s s' Done text → (bytes : List ℕ) × AreLeft s.bytes bytes × IsReportOf options rules bytes text
  reported options is text (inl (asked, (given, whole, report))) = (given, whole.all, subst (λ (o : Options). IsReportOf o rules given text) (same_options options is asked) report)
  reported options is text (inr (asked, alone, summary)) = absurd (not_both_asked (options, is) asked)

  pub headline : (result : Status) → Ends words rules unread unwritten s s' k k' result → (options : Options) → spoken words ≡ Run options → result ≡ Done → (bytes : List ℕ) × (text : List ℕ) × AreLeft s.bytes bytes × IsReportOf options rules bytes text × Gains k.bytes k'.bytes text
  headline result ends options is done =
      let (text, output, (gains, still)) = done_written result ends done in
      let (bytes, all, report) = reported options is text output in
      (bytes, text, all, report, gains)

  summarized : (n : ℕ) → spoken words ≡ Make n → (text : List ℕ) → IsOutputForRead words rules unread s s' Done text → IsSummaryOf n text
  summarized n is text (inl (asked, reply)) = absurd (not_both_asked asked (n, is))
  summarized n is text (inr (asked, alone, summary)) = subst (λ (m : ℕ). IsSummaryOf m text) (same_number n is asked) summary

  pub made : (result : Status) → Ends words rules unread unwritten s s' k k' result → (n : ℕ) → spoken words ≡ Make n → result ≡ Done → (text : List ℕ) × IsSummaryOf n text × Gains k.bytes k'.bytes text
  made result ends n is done =
      let (text, output, (gains, still)) = done_written result ends done in
      (text, summarized n is text output, gains)

  asked_for : (text : List ℕ) → IsOutputForRead words rules unread s s' Done text → IsRun words ⊎ IsMade words
  asked_for text (inl (asked, reply)) = inl asked
  asked_for text (inr (asked, alone, summary)) = inr asked

  pub done_where : (result : Status) → Ends words rules unread unwritten s s' k k' result → result ≡ Done → IsRun words ⊎ IsMade words
  done_where result ends done = let (text, output, written) = done_written result ends done in asked_for text output

  pub said : (result : Status) → Ends words rules unread unwritten s s' k k' result → WritesItsOutput result → HasGained result
  said Done ends writes = gained Done ends
  said Usage ends writes = gained Usage ends
  said BadSession ends writes = gained BadSession ends
  said TooLarge ends writes = gained TooLarge ends
  said ReadFault ends writes = absurd writes
  said WriteFault ends writes = absurd writes
  said NoMemory ends writes = absurd writes

  done_at_end : IsRun words → (text : List ℕ) → IsOutputForRead words rules unread s s' Done text → IfSome s'.bytes (λ left. left ≡ [])
  done_at_end run text (inl (asked, (given, whole, reply))) = at_end s.bytes s'.bytes given whole.read whole.all
  done_at_end run text (inr (asked, alone, summary)) = absurd (not_both_asked run asked)

  pub read_to_end : (result : Status) → Ends words rules unread unwritten s s' k k' result → IsRun words → (result ≡ Done) ⊎ (result ≡ BadSession) → IfSome s'.bytes (λ left. left ≡ [])
  read_to_end result ends run (inl done) = let (text, output, written) = done_written result ends done in done_at_end run text output
  read_to_end result ends run (inr bad) =
      let (text, (asked, (given, whole, reply)), written) = subst (Ends words rules unread unwritten s s' k k') bad ends in
      at_end s.bytes s'.bytes given whole.read whole.all

  pub usage_only : (result : Status) → Ends words rules unread unwritten s s' k k' result → result ≡ Usage → (spoken words ≡ NoRun) × Gains k.bytes k'.bytes usage_line
  usage_only result ends is =
      let (text, (asked, alone, line), (gains, still)) = subst (Ends words rules unread unwritten s s' k k') is ends in
      (asked, subst (Gains k.bytes k'.bytes) line gains)

  not_asked : spoken words ≡ NoRun → IsRun words → ⊥
  not_asked a b = let bad : ◌≡◌ {A = Spoken} NoRun (Run b.0) = sym a ∙ b.1 in absurd (cc)

  output_unread : (status : Status) (text : List ℕ) → spoken words ≡ NoRun → IsOutputForRead words rules unread s s' status text → unread
  output_unread Done text a (inl output) = absurd (not_asked a output.0)
  output_unread Done text a (inr output) = output.1
  output_unread BadSession text a output = absurd (not_asked a output.0)
  output_unread Usage text a output = output.1
  output_unread TooLarge text a output = absurd (not_asked a output.0)
  output_unread ReadFault text a output = absurd output
  output_unread WriteFault text a output = absurd output
  output_unread NoMemory text a output = absurd output

  pub usage_where : (result : Status) → Ends words rules unread unwritten s s' k k' result → spoken words ≡ NoRun → unread × ((result ≡ Usage) ⊎ (result ≡ WriteFault) ⊎ (result ≡ NoMemory))
  usage_where Done (text, inl output, written) a = absurd (not_asked a output.0)
  usage_where Done (text, inr output, written) a = absurd (not_made a output.0)
  usage_where BadSession ends a = absurd (not_asked a ends.1.0)
  usage_where Usage ends a = (ends.1.1, inl refl)
  usage_where TooLarge ends a = absurd (not_asked a ends.1.0)
  usage_where ReadFault ends a = absurd (not_asked a ends.0)
  usage_where WriteFault ends a = (output_unread ends.0 ends.1 a ends.2, inr (inl refl))
  usage_where NoMemory (untouched, inl still) a = (still, inr (inr refl))
  usage_where NoMemory (untouched, inr asked) a = absurd (not_asked a asked.0)

  made_unread : (status : Status) (text : List ℕ) → IsMade words → IsOutputForRead words rules unread s s' status text → unread
  made_unread Done text a (inl output) = absurd (not_both_asked output.0 a)
  made_unread Done text a (inr output) = output.1
  made_unread BadSession text a output = absurd (not_both_asked output.0 a)
  made_unread Usage text a output = output.1
  made_unread TooLarge text a output = absurd (not_both_asked output.0 a)
  made_unread ReadFault text a output = absurd output
  made_unread WriteFault text a output = absurd output
  made_unread NoMemory text a output = absurd output

  pub made_where : (result : Status) → Ends words rules unread unwritten s s' k k' result → IsMade words → unread × ((result ≡ Done) ⊎ (result ≡ WriteFault) ⊎ (result ≡ NoMemory))
  made_where Done ends a = (made_unread Done ends.0 a ends.1, inl refl)
  made_where BadSession ends a = absurd (not_both_asked ends.1.0 a)
  made_where Usage ends a = absurd (not_made ends.1.0 a)
  made_where TooLarge ends a = absurd (not_both_asked ends.1.0 a)
  made_where ReadFault ends a = absurd (not_both_asked ends.0 a)
  made_where WriteFault ends a = (made_unread ends.0 ends.1 a ends.2, inr (inl refl))
  made_where NoMemory (untouched, inl still) a = (still, inr (inr refl))
  made_where NoMemory (untouched, inr asked) a = absurd (not_both_asked asked.0 a)

  pub read_fault : (result : Status) → Ends words rules unread unwritten s s' k k' result → result ≡ ReadFault → HasRisen s.faults s'.faults × unwritten
  read_fault result ends is = let e = subst (Ends words rules unread unwritten s s' k k') is ends in (e.3, e.1)

  pub write_fault : (result : Status) → Ends words rules unread unwritten s s' k k' result → result ≡ WriteFault → HasRisen k.faults k'.faults
  write_fault result ends is = (subst (Ends words rules unread unwritten s s' k k') is ends).3.1

  pub cut_short : (result : Status) → Ends words rules unread unwritten s s' k k' result → result ≡ WriteFault
      → (bytes : List ℕ) × (status : Status) × (text : List ℕ) × (count : ℕ) × AreLeft s.bytes bytes × IsOutputFor words rules bytes status text × (count ≤ length text) × Gains k.bytes k'.bytes (take count text)
  cut_short result ends is =
      let (status, text, output, ((count, in_text, gains), risen)) = subst (Ends words rules unread unwritten s s' k k') is ends in
      let (bytes, all, is_for) = output_for status text output in
      (bytes, status, text, count, all, is_for, in_text, gains)

  pub too_large : (result : Status) → Ends words rules unread unwritten s s' k k' result → result ≡ TooLarge
      → (moved : List ℕ) × (length moved ≡ max_session + 1) × Loses s.bytes s'.bytes moved × Gains k.bytes k'.bytes too_large_line
  too_large result ends is =
      let (text, (asked, (moved, size, loses), line), (gains, still)) = subst (Ends words rules unread unwritten s s' k k') is ends in
      (moved, size, loses, subst (Gains k.bytes k'.bytes) line gains)

  pub no_memory : (result : Status) → Ends words rules unread unwritten s s' k k' result → result ≡ NoMemory → unwritten × (unread ⊎ IsRun words)
  no_memory result ends is = let e = subst (Ends words rules unread unwritten s s' k k') is ends in (e.0, which e.1)
    where
      which : (unread ⊎ (IsRun words × IsReadUpTo s s' (max_session + 1))) → unread ⊎ IsRun words
      which (inl same) = inl same
      which (inr asked) = inr asked.0

  -- so many bytes were read, and where they are too many the call ends in one of three ways
  abbrev pub Reads : Status → Type 0
  Reads result = (moved : List ℕ) × (length moved ≤ max_session + 1) × Loses s.bytes s'.bytes moved × (max_session < length moved → (result ≡ TooLarge) ⊎ (result ≡ WriteFault) ⊎ (result ≡ NoMemory))

  few : (result : Status) → IsReadUpTo s s' max_session → Reads result
  few result (moved, size, loses) = (moved, omega (arith, size), loses, λ many. absurd (omega (arith, size, many)))

  alone : (result : Status) → s'.bytes ≡ s.bytes → Reads result
  alone result same = few result ([], omega arith, subst (λ (b : Option (List ℕ)). Loses s.bytes b []) (sym same) (Loses-nil s.bytes))

  output_reads : (unread → s'.bytes ≡ s.bytes) → (status : Status) (text : List ℕ) → IsOutputForRead words rules unread s s' status text → Reads WriteFault
  output_reads same Done text (inl (asked, (given, whole, reply))) = few WriteFault (given, whole.in_limit, whole.read)
  output_reads same Done text (inr output) = alone WriteFault (same output.1)
  output_reads same BadSession text (asked, (given, whole, reply)) = few WriteFault (given, whole.in_limit, whole.read)
  output_reads same Usage text output = alone WriteFault (same output.1)
  output_reads same TooLarge text (asked, (moved, size, loses), line) = (moved, omega (arith, size), loses, λ many. inr (inl refl))
  output_reads same ReadFault text output = absurd output
  output_reads same WriteFault text output = absurd output
  output_reads same NoMemory text output = absurd output

  pub read : (unread → s'.bytes ≡ s.bytes) → (result : Status) → Ends words rules unread unwritten s s' k k' result → Reads result
  read same Done (text, inl (asked, (given, whole, reply)), written) = few Done (given, whole.in_limit, whole.read)
  read same Done (text, inr output, written) = alone Done (same output.1)
  read same BadSession (text, (asked, (given, whole, reply)), written) = few BadSession (given, whole.in_limit, whole.read)
  read same Usage ends = alone Usage (same ends.1.1)
  read same TooLarge (text, (asked, (moved, size, loses), line), written) = (moved, omega (arith, size), loses, λ many. inl refl)
  read same ReadFault ends = few ReadFault ends.2
  read same WriteFault ends = output_reads same ends.0 ends.1 ends.2
  read same NoMemory (untouched, inl still) = alone NoMemory (same still)
  read same NoMemory (untouched, inr (asked, (moved, size, loses))) = (moved, size, loses, λ many. inr (inr refl))

  -- the words ask for a run over a source that tells these bytes, and no end fails
  abbrev pub Smooth : List ℕ → Type 0
  Smooth bytes = IsRunOver words s.bytes bytes × (¬ HasRisen s.faults s'.faults) × (¬ HasRisen k.faults k'.faults)

  run_output : IsRun words → (bytes text : List ℕ) → IsOutputFor words rules bytes Done text → (length bytes ≤ max_session) × (asked : IsRun words) × IsReportOf asked.0 rules bytes text
  run_output run bytes text (inl (asked, small, report)) = (small, asked, report)
  run_output run bytes text (inr (asked, summary)) = absurd (not_both_asked run asked)

  pub answered : (bytes : List ℕ) (script : Script) → Smooth bytes → length bytes ≤ max_session → IsSession bytes script → (result : Status) → Ends words rules unread unwritten s s' k k' result → (result ≡ Done) ⊎ (result ≡ NoMemory)
  answered bytes script smooth small session Done ends = inl refl
  answered bytes script smooth small session NoMemory ends = inr refl
  answered bytes script smooth small session Usage ends = absurd (not_asked ends.1.0 smooth.0.0)
  answered bytes script smooth small session BadSession ends = let (text, is_for) = gained_told BadSession bytes smooth.0.1 ends in absurd (not_refused bytes text script session is_for.2)
  answered bytes script smooth small session TooLarge ends = let (text, is_for) = gained_told TooLarge bytes smooth.0.1 ends in absurd (omega (arith, small, is_for.1))
  answered bytes script smooth small session ReadFault ends = absurd (smooth.1 ends.3)
  answered bytes script smooth small session WriteFault ends = absurd (smooth.2 ends.3.1)

  pub refused : (bytes : List ℕ) → Smooth bytes → length bytes ≤ max_session → IsBad bytes → (result : Status) → Ends words rules unread unwritten s s' k k' result → (result ≡ BadSession) ⊎ (result ≡ NoMemory)
  refused bytes smooth small bad BadSession ends = inl refl
  refused bytes smooth small bad NoMemory ends = inr refl
  refused bytes smooth small bad Usage ends = absurd (not_asked ends.1.0 smooth.0.0)
  refused bytes smooth small bad Done ends =
      let (text, is_for) = gained_told Done bytes smooth.0.1 ends in
      let (within, asked, report) = run_output smooth.0.0 bytes text is_for in
      absurd (not_both bytes report.script report.session bad)
  refused bytes smooth small bad TooLarge ends = let (text, is_for) = gained_told TooLarge bytes smooth.0.1 ends in absurd (omega (arith, small, is_for.1))
  refused bytes smooth small bad ReadFault ends = absurd (smooth.1 ends.3)
  refused bytes smooth small bad WriteFault ends = absurd (smooth.2 ends.3.1)

  pub too_many : (bytes : List ℕ) → Smooth bytes → max_session < length bytes → (result : Status) → Ends words rules unread unwritten s s' k k' result → (result ≡ TooLarge) ⊎ (result ≡ NoMemory)
  too_many bytes smooth many TooLarge ends = inl refl
  too_many bytes smooth many NoMemory ends = inr refl
  too_many bytes smooth many Usage ends = absurd (not_asked ends.1.0 smooth.0.0)
  too_many bytes smooth many Done ends =
      let (text, is_for) = gained_told Done bytes smooth.0.1 ends in
      let (within, asked, report) = run_output smooth.0.0 bytes text is_for in
      absurd (omega (arith, many, within))
  too_many bytes smooth many BadSession ends = let (text, is_for) = gained_told BadSession bytes smooth.0.1 ends in absurd (omega (arith, many, is_for.1))
  too_many bytes smooth many ReadFault ends = absurd (smooth.1 ends.3)
  too_many bytes smooth many WriteFault ends = absurd (smooth.2 ends.3.1)
