-- Each kind of step keeps the rule and tells what it says; the board as it opens and as it closes.
use Rattle.std.proofs.Common.{◌≡◌, ℕ, zero, suc, ◌+◌, ◌%◌, ◌^◌, ◌≤◌, ◌<◌, List, [], ◌∷◌, ◌++◌, length, set, refl, sym, ap, ◌∙◌, subst, arith, length-append, replicate, Some, slice_get}
use Rattle.std.specs.Prelude.{slice_index}
use Rattle.std.proofs.lemmas.List.{length-set, set-get_or, get_or-set_same, get_or-set_other, length-replicate}
use Rattle.std.proofs.lemmas.List.Elements.{All-push}
use mathlib.Core.Option.{some, some-ne-none, some-injective, none}
use mathlib.Core.List.{IsPrefix}
use lib.ListN.{get_elem?}
use Rattle.atomic_table.specs.Table.{State, Me, step, keeps, Allows, Splits, Joins, opening}
use Rattle.atomic_table.proofs.Lists.{set_else, at_last, at_longer}
use Rattle.sve_board.specs.declared.knowledge.Entry.{Entry}
use Rattle.sve_board.specs.declared.knowledge.ClientView.{ClientView}
use Rattle.sve_board.specs.declared.knowledge.WriterView.{WriterView}
use Rattle.sve_board.specs.declared.knowledge.View.{View}
use Rattle.sve_board.specs.declared.knowledge.View.TheVariants.{Writer, Client, Note, Spent}
use Rattle.sve_board.specs.Log.{IsClient, AreOfClients, entries_of, longer}
use Rattle.sve_board.specs.Values.{TableId, BoardValue, PassValue, WriterValue, NoteValue, FitsLog}
use Rattle.sve_board.specs.Knowledge.{new_client, client_in, writer_in, client_view, writer_view, note_view, opening_view}
use Rattle.sve_board.specs.Steps.{after_look, Looks, after_meeting, Meets, after_raise, Raises, after_check, Checks, after_publish, Publishes, note_left, note_made, note_taken, pass_left, pass_made, pass_returned}
use Rattle.sve_board.specs.Rule.{IsReader, CountsLog, IsSeat, AreSeats, IsBoard}
use Rattle.sve_board.proofs.Lists.{zero_at, set_rises, set_below}
use Rattle.sve_board.proofs.Prefixes.{prefix_refl, prefix_length, longer_is_prefix, longer_begins_first, longer_begins_second, entries_of-prefix, entries_of-push, largest-push, with_length_below}
use Rattle.sve_board.proofs.Seated.{some_seat, of_writer, note_is_not_first, client_steps, writer_steps, seat_made, seat_spent, client_returns}

-- a seat is the board's where its value says so
pub one_table : {t u : TableId} {b v : BoardValue} → t ≡ u → u ≡ v.table → b ≡ v → t ≡ b.table
one_table seat said board = seat ∙ said ∙ sym (ap (λ (x : BoardValue). x.table) board)

-- what each of these passes knew is among what came back
abbrev pub AreReturned : List PassValue → List ClientView → Type 0
AreReturned passes returned = (i : ℕ) (pass : PassValue) → slice_get passes i ≡ Some pass → (j : ℕ) × (get_elem? returned j ≡ some (client_in (client_view pass)))

pub one_more_returned : (passes : List PassValue) (returned : List ClientView) (pass : PassValue) → AreReturned passes returned → AreReturned (pass ∷ passes) (returned ++ client_in (client_view pass) ∷ [])
one_more_returned passes returned pass all zero p is =
    let same : pass ≡ p = cc in
    (length returned, subst (λ (q : PassValue). get_elem? (returned ++ client_in (client_view pass) ∷ []) (length returned) ≡ some (client_in (client_view q))) same (at_last returned (client_in (client_view pass)) (length returned) refl))
one_more_returned passes returned pass all (suc i) p is = let was = all i p is in (was.0, at_longer returned (client_in (client_view pass) ∷ []) was.0 (client_in (client_view p)) was.1)

-- a client has at most as many entries as it has announced
few_entries : {clients : ℕ} {words : List ℕ} {log : List Entry} {known : List ℕ} (counts : CountsLog clients words log known) (c : ClientView) → IsReader clients words log c
    → length (entries_of c.number log) ≤ c.raises
few_entries counts c reader = omega (arith, counts.entries c.number, counts.announced c.number, reader.word)

-- a word that rises, and is not word 0
counts_raised : (clients : ℕ) (words : List ℕ) (log : List Entry) (known : List ℕ) (i n : ℕ) → 0 < i → slice_index words i ≤ n → CountsLog clients words log known → CountsLog clients (set words i n) log known
counts_raised clients words log known i n positive le counts = record {
  words_long = length-set words i n ∙ counts.words_long;
  known_long = counts.known_long;
  log_long = get_or-set_other words i 0 n 0 (λ e. absurd (omega arith)) ∙ counts.log_long;
  announced = λ j. omega (arith, counts.announced j, set_rises words i n le j);
  entries = counts.entries;
  of_clients = counts.of_clients;
}

-- the writer's seat before the log begins
abbrev before_log : ℕ → List ℕ → View
before_log seats known = Writer (record { log = []; known = known; seats = seats; returned = [] })

module _ {S : Type 0} (clients : ℕ) where
  abbrev pub Holds : State S View → Type 0
  Holds s = IsBoard clients s.words s.views

  -- a load of word 0 by a client: the words stay, and the client knows more
  client_loads : (n id : ℕ) (c : ClientView) (next : ℕ → ClientView) (tells : ℕ → Me S View → Type 0)
      → ((words : List ℕ) (w : WriterView) → CountsLog clients words w.log w.known → IsReader clients words w.log c
      → ((next (slice_index words 0)).number ≡ c.number) × IsReader clients words w.log (next (slice_index words 0)) × tells (slice_index words 0) (Client (next (slice_index words 0)), []))
      → Allows Holds n id (Client c, []) 0 (λ m. m) tells
  client_loads n id c next tells goes s h long at small =
      let seat = h.seated.each id (Client c) at in
      let found : ℕ = slice_index s.words 0 in
      let went = goes s.words h.writer h.counts seat.1 in
      let stepped : AreSeats clients s.words (set s.views id (Client (next found))) h.writer = client_steps h.seated s.words id c (next found) at (λ i differ. refl) (went.0 ∙ seat.0) went.1 in (
        Client (next found),
        keeps,
        tt,
        subst (λ (ws : List ℕ). IsBoard clients ws (set s.views id (Client (next found)))) (sym (set-get_or s.words 0 0)) (record { writer = h.writer; counts = h.counts; seated = stepped }),
        went.2,
      )

  pub looks_up : (n id : ℕ) (me : Me S View) (x : PassValue) → me ≡ (client_view x, []) → Allows Holds n id me 0 (λ m. m) (Looks (step n 0 0 0 none) me)
  looks_up n id me x is = subst (λ (m : Me S View). Allows Holds n id m 0 (λ j. j) (Looks (step n 0 0 0 none) m)) (sym is)
      (client_loads n id (client_in (client_view x)) (λ m. client_in (after_look m (client_view x))) (Looks (step n 0 0 0 none) (client_view x, [])) goes)
    where
      goes : (words : List ℕ) (w : WriterView) → CountsLog clients words w.log w.known → IsReader clients words w.log (client_in (client_view x))
          → (x.number ≡ x.number) × IsReader clients words w.log (client_in (after_look (slice_index words 0) (client_view x)))
          × Looks {S = S} (step n 0 0 0 none) (client_view x, []) (slice_index words 0) (after_look (slice_index words 0) (client_view x), [])
      goes words w counts reader =
          let below = largest-push x.looks (slice_index words 0) (length w.log) reader.knows.looks (omega (arith, counts.log_long)) in (
            refl,
            record { client = reader.client; knows = record { seen = reader.knows.seen; unmet = reader.knows.unmet; mine = reader.knows.mine; looks = below }; word = reader.word },
            (refl, omega (arith, counts.log_long, reader.knows.looks), omega (arith, counts.log_long, prefix_length x.seen w.log reader.knows.seen)),
          )

  pub meets : (n id : ℕ) (me : Me S View) (x : PassValue) (y : NoteValue) → me ≡ (note_taken (client_view x) (note_view y), []) → Allows Holds n id me 0 (λ m. m) (Meets (step n 0 0 0 none) me)
  meets n id me x y is = subst (λ (m : Me S View). Allows Holds n id m 0 (λ j. j) (Meets (step n 0 0 0 none) m)) (sym is)
      (client_loads n id (client_in (note_taken (client_view x) (note_view y))) (λ m. client_in (after_meeting (note_taken (client_view x) (note_view y)))) (Meets (step n 0 0 0 none) (note_taken (client_view x) (note_view y), [])) goes)
    where
      goes : (words : List ℕ) (w : WriterView) → CountsLog clients words w.log w.known → IsReader clients words w.log (client_in (note_taken (client_view x) (note_view y)))
          → (x.number ≡ x.number) × IsReader clients words w.log (client_in (after_meeting (note_taken (client_view x) (note_view y))))
          × Meets {S = S} (step n 0 0 0 none) (note_taken (client_view x) (note_view y), []) (slice_index words 0) (after_meeting (note_taken (client_view x) (note_view y)), [])
      goes words w counts reader =
          let seen = reader.knows.seen in
          let unmet = reader.knows.unmet in
          let both : IsPrefix (longer x.seen y.seen) w.log = longer_is_prefix x.seen y.seen w.log seen unmet in
          let own = prefix_length _ _ (entries_of-prefix x.number (longer x.seen y.seen) w.log both) in
          let below = with_length_below x.looks (length y.seen) (length w.log) reader.knows.looks (prefix_length y.seen w.log unmet) in (
            refl,
            record { client = reader.client; knows = record { seen = both; unmet = (w.log, refl); mine = refl; looks = below }; word = reader.word },
            (
              refl,
              longer_begins_first x.seen y.seen w.log seen unmet,
              longer_begins_second x.seen y.seen w.log seen unmet,
              reader.knows.mine,
              omega (arith, own, few_entries counts (client_in (note_taken (client_view x) (note_view y))) reader),
            ),
          )

  pub raises : (n id word : ℕ) (me : Me S View) (x : PassValue) → me ≡ (client_view x, []) → word ≡ x.number → x.raises < 2 ^ 63
      → Allows Holds n id me word (λ m. (m + 1) % 2 ^ 64) (Raises (step n word 1 0 none) me)
  raises n id word me x is own room = subst (λ (m : Me S View). Allows Holds n id m word (λ j. (j + 1) % 2 ^ 64) (Raises (step n word 1 0 none) m)) (sym is)
      (subst (λ (i : ℕ). Allows Holds n id (client_view x, []) i (λ j. (j + 1) % 2 ^ 64) (Raises (step n i 1 0 none) (client_view x, []))) (sym own) goes)
    where
      goes : Allows Holds n id (client_view x, []) x.number (λ j. (j + 1) % 2 ^ 64) (Raises (step n x.number 1 0 none) (client_view x, []))
      goes s h long at small =
          let seat = h.seated.each id (client_view x) at in
          let reader : IsReader clients s.words h.writer.log (client_in (client_view x)) = seat.1 in
          let number : x.number ≡ id = seat.0 in
          let next : ℕ = (slice_index s.words x.number + 1) % 2 ^ 64 in
          let next_is : next ≡ x.raises + 1 = omega (arith, reader.word, room) in
          let within : x.number < length s.words = omega (arith, reader.client.1, h.counts.words_long) in
          let put : slice_index (set s.words x.number next) x.number ≡ next = get_or-set_same s.words x.number next 0 within in
          let raised : View = after_raise (client_view x) in (
            raised,
            keeps,
            tt,
            record {
              writer = h.writer;
              counts = counts_raised clients s.words h.writer.log h.writer.known x.number next reader.client.0 (omega (arith, next_is, reader.word)) h.counts;
              seated = client_steps h.seated (set s.words x.number next) id (client_in (client_view x)) (client_in raised) at
                  (λ i differ. get_or-set_other s.words x.number i next 0 (λ (e : i ≡ x.number). differ (e ∙ number))) number
                  (record { client = reader.client; knows = record { seen = reader.knows.seen; unmet = reader.knows.unmet; mine = reader.knows.mine; looks = reader.knows.looks }; word = put ∙ next_is });
            },
            (refl, reader.word),
          )

  pub checks : (n id number seats : ℕ) (me : Me S View) (x : WriterValue) → me ≡ (writer_view seats [] x, []) → number ≤ clients → Allows Holds n id me number (λ m. m) (Checks (step n number 0 0 none) me)
  checks n id number seats me x is le = subst (λ (m : Me S View). Allows Holds n id m number (λ j. j) (Checks (step n number 0 0 none) m)) (sym is) goes
    where
      goes : Allows Holds n id (writer_view seats [] x, []) number (λ j. j) (Checks (step n number 0 0 none) (writer_view seats [] x, []))
      goes s h long at small =
          let of = of_writer h id (writer_in (writer_view seats [] x)) at in
          let counts : CountsLog clients s.words x.log x.known = of.1 in
          let found : ℕ = slice_index s.words number in
          let checked : View = after_check number found (writer_view seats [] x) in
          let seated : AreSeats clients s.words (set s.views 0 checked) (writer_in checked) = writer_steps of.2 s.words (writer_in checked) refl refl (prefix_refl x.log) (λ i differ. refl) in
          let more : (i : ℕ) → slice_index x.known i ≤ slice_index (set x.known number found) i = set_rises x.known number found (counts.announced number) in (
            checked,
            keeps,
            tt,
            subst (λ (ws : List ℕ). IsBoard clients ws (set s.views id checked)) (sym (set-get_or s.words number 0)) (record {
              writer = writer_in checked;
              counts = record {
                words_long = counts.words_long;
                known_long = length-set x.known number found ∙ counts.known_long;
                log_long = counts.log_long;
                announced = set_below (slice_index s.words) x.known number found (omega arith) counts.announced;
                entries = λ i. omega (arith, counts.entries i, more i);
                of_clients = counts.of_clients;
              };
              seated = subst (λ (i : ℕ). AreSeats clients s.words (set s.views i checked) (writer_in checked)) (sym of.0) seated;
            }),
            (refl, omega (arith, counts.known_long)),
          )

  pub publishes : (n id seats : ℕ) (me : Me S View) (x : WriterValue) (e : Entry) → me ≡ (writer_view seats [] x, []) → IsClient clients e.client → length (entries_of e.client x.log) < slice_index x.known e.client → length x.log < 2 ^ 62
      → Allows Holds n id me 0 (λ m. (m + 1) % 2 ^ 64) (Publishes e (step n 0 1 0 none) me)
  publishes n id seats me x e is client announced room = subst (λ (m : Me S View). Allows Holds n id m 0 (λ j. (j + 1) % 2 ^ 64) (Publishes e (step n 0 1 0 none) m)) (sym is) goes
    where
      goes : Allows Holds n id (writer_view seats [] x, []) 0 (λ j. (j + 1) % 2 ^ 64) (Publishes e (step n 0 1 0 none) (writer_view seats [] x, []))
      goes s h long at small =
          let of = of_writer h id (writer_in (writer_view seats [] x)) at in
          let counts : CountsLog clients s.words x.log x.known = of.1 in
          let next : ℕ = (slice_index s.words 0 + 1) % 2 ^ 64 in
          let next_is : next ≡ length x.log + 1 = omega (arith, counts.log_long, room) in
          let rises : slice_index s.words 0 ≤ next = omega (arith, next_is, counts.log_long) in
          let put : slice_index (set s.words 0 next) 0 ≡ next = get_or-set_same s.words 0 next 0 (omega (arith, counts.words_long)) in
          let published : View = after_publish e (writer_view seats [] x) in
          let seated : AreSeats clients (set s.words 0 next) (set s.views 0 published) (writer_in published) =
          writer_steps of.2 (set s.words 0 next) (writer_in published) refl refl (e ∷ [], refl) (λ i differ. get_or-set_other s.words 0 i next 0 differ) in (
            published,
            keeps,
            tt,
            record {
              writer = writer_in published;
              counts = record {
                words_long = length-set s.words 0 next ∙ counts.words_long;
                known_long = counts.known_long;
                log_long = omega (arith, put, next_is, length-append x.log (e ∷ []));
                announced = λ i. omega (arith, counts.announced i, set_rises s.words 0 next rises i);
                entries = entries_of-push x.log x.known e announced counts.entries;
                of_clients = All-push (λ (entry : Entry). IsClient clients entry.client) x.log e counts.of_clients client;
              };
              seated = subst (λ (i : ℕ). AreSeats clients (set s.words 0 next) (set s.views i published) (writer_in published)) (sym of.0) seated;
            },
            (refl, counts.log_long),
          )

  -- a seat that leaves the writer's
  seat_leaves : (id : ℕ) (w : WriterView) (made : View) → ((words : List ℕ) (views : List View) → CountsLog clients words w.log w.known → AreSeats clients words views w → IsSeat clients words w.log w.seats made)
      → Splits {S = S} Holds id (Writer w) (Writer (record w { seats = w.seats + 1 })) made
  seat_leaves id w made fits s h at =
      let of = of_writer h id w at in
      let left : View = Writer (record w { seats = w.seats + 1 }) in record {
        writer = record w { seats = w.seats + 1 };
        counts = of.1;
        seated = subst (λ (i : ℕ). AreSeats clients s.words (set s.views i left ++ made ∷ []) (record w { seats = w.seats + 1 })) (sym of.0) (seat_made of.2 made (fits s.words s.views of.1 of.2));
      }

  pub notes : (id seats : ℕ) (v : View) (x : WriterValue) → v ≡ writer_view seats [] x → Splits {S = S} Holds id v (note_left v) (note_made v)
  notes id seats v x is = subst (λ (u : View). Splits {S = S} Holds id u (note_left u) (note_made u)) (sym is)
      (seat_leaves id (writer_in (writer_view seats [] x)) (Note x.log) (λ words views counts seated. prefix_refl x.log))

  pub deals : (id seats : ℕ) (known : List ℕ) (v : View) → v ≡ before_log seats known → seats ≤ clients → Splits {S = S} Holds id v (pass_left v) (pass_made v)
  deals id seats known v is le = subst (λ (u : View). Splits {S = S} Holds id u (pass_left u) (pass_made u)) (sym is)
      (seat_leaves id (writer_in (before_log seats known)) (Client (new_client seats)) fits)
    where
      fits : (words : List ℕ) (views : List View) → CountsLog clients words [] known → AreSeats clients words views (writer_in (before_log seats known)) → IsSeat clients words [] seats (Client (new_client seats))
      fits words views counts seated = (
        refl,
        record {
          client = (some_seat seated, le);
          knows = record { seen = ([], refl); unmet = ([], refl); mine = refl; looks = omega arith };
          word = seated.unused seats (omega arith);
        },
      )

  pub takes_note : (id other : ℕ) (v note : View) (x : PassValue) (y : NoteValue) → v ≡ client_view x → note ≡ note_view y → Joins {S = S} Holds id v other note (note_taken v note) Spent
  takes_note id other v note x y is told = subst (λ (u : View). Joins {S = S} Holds id u other note (note_taken u note) Spent) (sym is)
      (subst (λ (u : View). Joins {S = S} Holds id (client_view x) other u (note_taken (client_view x) u) Spent) (sym told) goes)
    where
      goes : Joins {S = S} Holds id (client_view x) other (note_view y) (note_taken (client_view x) (note_view y)) Spent
      goes s h at apart there =
          let was : get_elem? s.views other ≡ some (Note y.seen) = sym (set_else s.views id other (note_taken (client_view x) (note_view y)) apart) ∙ there in
          let seat = h.seated.each id (client_view x) at in
          let reader : IsReader clients s.words h.writer.log (client_in (client_view x)) = seat.1 in
          let taken : ClientView = client_in (note_taken (client_view x) (note_view y)) in
          let prefix : IsPrefix y.seen h.writer.log = h.seated.each other (Note y.seen) was in
          let stepped : AreSeats clients s.words (set s.views id (Client taken)) h.writer = client_steps h.seated s.words id (client_in (client_view x)) taken at (λ i differ. refl) seat.0
          (record { client = reader.client; knows = record { seen = reader.knows.seen; unmet = prefix; mine = reader.knows.mine; looks = reader.knows.looks }; word = reader.word }) in
          record { writer = h.writer; counts = h.counts; seated = seat_spent stepped other (note_is_not_first h.seated other y.seen was) }

  pub takes_back : (id other : ℕ) (v pass : View) (w : WriterView) (x : PassValue) → v ≡ Writer w → pass ≡ client_view x → Joins {S = S} Holds id v other pass (pass_returned v pass) Spent
  takes_back id other v pass w x is of = subst (λ (u : View). Joins {S = S} Holds id u other pass (pass_returned u pass) Spent) (sym is)
      (subst (λ (u : View). Joins {S = S} Holds id (Writer w) other u (pass_returned (Writer w) u) Spent) (sym of) goes)
    where
      goes : Joins {S = S} Holds id (Writer w) other (client_view x) (pass_returned (Writer w) (client_view x)) Spent
      goes s h at apart there =
          let of = of_writer h id w at in
          let right : View = pass_returned (Writer w) (client_view x) in
          let was : get_elem? s.views other ≡ some (client_view x) = sym (set_else s.views id other right apart) ∙ there in
          let seated : AreSeats clients s.words (set (set s.views 0 right) other Spent) (writer_in right) = client_returns of.2 other (client_in (client_view x)) was in
          record { writer = writer_in right; counts = of.1; seated = subst (λ (i : ℕ). AreSeats clients s.words (set (set s.views i right) other Spent) (writer_in right)) (sym of.0) seated }

  -- the board as it opens: words of 0 and one seat
  pub opens : (slots : List S) → Holds (opening (replicate (clients + 1) 0) slots (opening_view clients 1))
  opens slots = record {
    writer = writer_in (opening_view clients 1);
    counts = record {
      words_long = length-replicate (clients + 1) 0;
      known_long = length-replicate (clients + 1) 0;
      log_long = zero_at (clients + 1) 0;
      announced = λ i. omega arith;
      entries = λ i. omega arith;
      of_clients = λ k d lt. absurd (omega arith);
    };
    seated = record {
      writer = refl;
      seats = refl;
      unused = λ i le. zero_at (clients + 1) i;
      each = first;
      returned = λ j c e. absurd (some-ne-none c (sym e));
    };
  }
    where
      first : (seat : ℕ) (v : View) → get_elem? (opening_view clients 1 ∷ []) seat ≡ some v → IsSeat clients (replicate (clients + 1) 0) [] seat v
      first zero v e = subst (IsSeat clients (replicate (clients + 1) 0) [] 0) (some-injective (opening_view clients 1) v e) refl
      first (suc seat) v e = absurd (some-ne-none v (sym e))

  -- the board as it closes
  pub closes : (id seats : ℕ) (returned : List ClientView) (v : View) (x : WriterValue) (s : State S View) → v ≡ writer_view seats returned x → Holds s → get_elem? s.views id ≡ some v
      → (slice_index s.words 0 ≡ length x.log) × AreOfClients clients x.log
      × ((j : ℕ) (pass : PassValue) → get_elem? returned j ≡ some (client_in (client_view pass)) → FitsLog x.log pass)
  closes id seats returned v x s is h at0 =
      let at : get_elem? s.views id ≡ some (writer_view seats returned x) = at0 ∙ ap some is in
      let of = of_writer h id (writer_in (writer_view seats returned x)) at in (
        of.1.log_long,
        of.1.of_clients,
        λ j pass e.
            let reader : IsReader clients s.words x.log (client_in (client_view pass)) = (of.2.returned j (client_in (client_view pass)) e).0 in
            record { seen = reader.knows.seen; mine = reader.knows.mine; looks = reader.knows.looks; raises = few_entries of.1 (client_in (client_view pass)) reader },
      )
