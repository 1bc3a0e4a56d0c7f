-- What a step leaves of the seats, one lemma for each way in which a step moves them.
use Rattle.std.proofs.Common.{◌≡◌, ◌≢◌, ℕ, ◌+◌, ◌<◌, List, [], ◌∷◌, ◌++◌, length, set, refl, sym, ap, ◌∙◌, subst, arith, length-append}
use Rattle.std.specs.Prelude.{slice_index}
use Rattle.std.proofs.lemmas.List.{length-set, set_comm}
use mathlib.Core.Option.{some}
use mathlib.Core.List.{IsPrefix}
use lib.ListN.{get_elem?}
use Rattle.atomic_table.proofs.Lists.{set_here, set_else, at_longer}
use Rattle.sve_board.specs.declared.knowledge.Entry.{Entry}
use Rattle.sve_board.specs.declared.knowledge.ClientView.{ClientView}
use Rattle.sve_board.specs.declared.knowledge.WriterView.{WriterView}
use Rattle.sve_board.specs.declared.knowledge.View.{View}
use Rattle.sve_board.specs.declared.knowledge.View.TheVariants.{Writer, Client, Note, Spent}
use Rattle.sve_board.specs.Rule.{IsReader, CountsLog, IsSeat, AreSeats, IsBoard}
use Rattle.sve_board.proofs.Lists.{is_within, one_at, apart, each_set, each_push, still_at}
use Rattle.sve_board.proofs.Prefixes.{prefix_refl, prefix_trans, prefix_length}

-- the variants of a view differ
writer_same : (u w : WriterView) → Writer u ≡ Writer w → u ≡ w
writer_same u w e = cc

module _ (clients : ℕ) (words words' : List ℕ) (log log' : List Entry) (grown : IsPrefix log log') where
  reads_on : (c : ClientView) → slice_index words' c.number ≡ slice_index words c.number → IsReader clients words log c → IsReader clients words' log' c
  reads_on c same reader = record {
    client = reader.client;
    knows = record {
      seen = prefix_trans c.seen log log' reader.knows.seen grown;
      unmet = prefix_trans c.unmet log log' reader.knows.unmet grown;
      mine = reader.knows.mine;
      looks = omega (arith, reader.knows.looks, prefix_length log log' grown);
    };
    word = same ∙ reader.word;
  }

  -- who does not step keeps its seat, while the log grows and the word of its seat stays
  seat_stays : (seat : ℕ) (v : View) → slice_index words' seat ≡ slice_index words seat → IsSeat clients words log seat v → IsSeat clients words' log' seat v
  seat_stays seat (Writer w) same is = is
  seat_stays seat (Client c) same is = (is.0, reads_on c (ap (slice_index words') is.0 ∙ same ∙ ap (slice_index words) (sym is.0)) is.1)
  seat_stays seat (Note told) same is = prefix_trans told log log' is grown
  seat_stays seat Spent same is = tt

-- whose seat it is that writes
pub of_writer : {clients : ℕ} {words : List ℕ} {views : List View} (h : IsBoard clients words views) (seat : ℕ) (w : WriterView) → get_elem? views seat ≡ some (Writer w)
    → (seat ≡ 0) × CountsLog clients words w.log w.known × AreSeats clients words views w
of_writer {clients} {words} {views} h seat w at =
    let first : seat ≡ 0 = h.seated.each seat (Writer w) at in
    let here : get_elem? views 0 ≡ some (Writer w) = subst (λ (i : ℕ). get_elem? views i ≡ some (Writer w)) first at in
    let same : h.writer ≡ w = writer_same h.writer w (one_at views 0 (Writer h.writer) (Writer w) h.seated.writer here) in
    (first, subst (λ (u : WriterView). CountsLog clients words u.log u.known) same h.counts, subst (AreSeats clients words views) same h.seated)

module _ {clients : ℕ} {words : List ℕ} {views : List View} {w : WriterView} (h : AreSeats clients words views w) where
  pub some_seat : 0 < w.seats
  some_seat = omega (arith, h.seats, is_within views 0 (Writer w) h.writer)

  client_is_not_first : (a : ℕ) (c : ClientView) → get_elem? views a ≡ some (Client c) → 0 ≢ a
  client_is_not_first a c at = apart views 0 a (Writer w) (Client c) h.writer at (λ (e : Writer w ≡ Client c). absurd (cc))

  pub note_is_not_first : (a : ℕ) (told : List Entry) → get_elem? views a ≡ some (Note told) → 0 ≢ a
  note_is_not_first a told at = apart views 0 a (Writer w) (Note told) h.writer at (λ (e : Writer w ≡ Note told). absurd (cc))

  -- a client steps: all words but its own stay
  pub client_steps : (words' : List ℕ) (a : ℕ) (c c' : ClientView) → get_elem? views a ≡ some (Client c) → ((i : ℕ) → i ≢ a → slice_index words' i ≡ slice_index words i)
      → c'.number ≡ a → IsReader clients words' w.log c' → AreSeats clients words' (set views a (Client c')) w
  client_steps words' a c c' at others number reader = record {
    writer = set_else views a 0 (Client c') (client_is_not_first a c at) ∙ h.writer;
    seats = length-set views a (Client c') ∙ h.seats;
    unused = λ i le. others i (λ (e : i ≡ a). absurd (omega (arith, is_within views a (Client c) at, h.seats))) ∙ h.unused i le;
    each = each_set (IsSeat clients words' w.log) views a (Client c') (number, reader) (λ j v differ e. seat_stays clients words words' w.log w.log (prefix_refl w.log) j v (others j differ) (h.each j v e));
    returned = λ j q e.
        let was = h.returned j q e in
        let differ : q.number ≢ a = apart views q.number a Spent (Client c) was.1 at (λ (s : Spent ≡ Client c). absurd (cc)) in
        (reads_on clients words words' w.log w.log (prefix_refl w.log) q (others q.number differ) was.0, set_else views a q.number (Client c') differ ∙ was.1);
  }

  -- the writer adds to the log or to what is known: all words but word 0 stay
  pub writer_steps : (words' : List ℕ) (w' : WriterView) → w'.seats ≡ w.seats → w'.returned ≡ w.returned → IsPrefix w.log w'.log
      → ((i : ℕ) → i ≢ 0 → slice_index words' i ≡ slice_index words i) → AreSeats clients words' (set views 0 (Writer w')) w'
  writer_steps words' w' seats returned grown others = record {
    writer = set_here views 0 (Writer w') (is_within views 0 (Writer w) h.writer);
    seats = length-set views 0 (Writer w') ∙ h.seats ∙ sym seats;
    unused = λ i le. others i (λ (e : i ≡ 0). absurd (omega (arith, some_seat))) ∙ h.unused i (omega arith);
    each = each_set (IsSeat clients words' w'.log) views 0 (Writer w') refl (λ j v differ e. seat_stays clients words words' w.log w'.log grown j v (others j differ) (h.each j v e));
    returned = λ j q e.
        let was = h.returned j q (subst (λ (l : List ClientView). get_elem? l j ≡ some q) returned e) in
        let positive : 0 < q.number = was.0.client.0 in
        let differ : q.number ≢ 0 = (λ (s : q.number ≡ 0). absurd (omega arith)) in
        (reads_on clients words words' w.log w'.log grown q (others q.number differ) was.0, set_else views 0 q.number (Writer w') differ ∙ was.1);
  }

  -- a seat leaves the writer's
  pub seat_made : (v : View) → IsSeat clients words w.log w.seats v → AreSeats clients words (set views 0 (Writer (record w { seats = w.seats + 1 })) ++ v ∷ []) (record w { seats = w.seats + 1 })
  seat_made v is =
      let left : View = Writer (record w { seats = w.seats + 1 }) in
      let kept : List View = set views 0 left in
      let long : length kept ≡ w.seats = length-set views 0 left ∙ h.seats in record {
        writer = at_longer kept (v ∷ []) 0 left (set_here views 0 left (is_within views 0 (Writer w) h.writer));
        seats = omega (arith, length-append kept (v ∷ []), long);
        unused = λ i le. h.unused i (omega arith);
        each = each_push (IsSeat clients words w.log) kept v (subst (λ (n : ℕ). IsSeat clients words w.log n v) (sym long) is)
            (each_set (IsSeat clients words w.log) views 0 left refl (λ j u differ e. h.each j u e));
        returned = λ j q e.
            let was = h.returned j q e in
            let positive : 0 < q.number = was.0.client.0 in
            (was.0, at_longer kept (v ∷ []) q.number Spent (set_else views 0 q.number left (λ (s : q.number ≡ 0). absurd (omega arith)) ∙ was.1));
      }

  -- a seat goes into another
  pub seat_spent : (a : ℕ) → 0 ≢ a → AreSeats clients words (set views a Spent) w
  seat_spent a differ = record {
    writer = set_else views a 0 Spent differ ∙ h.writer;
    seats = length-set views a Spent ∙ h.seats;
    unused = h.unused;
    each = each_set (IsSeat clients words w.log) views a Spent tt (λ j v apart e. h.each j v e);
    returned = λ j q e. ((h.returned j q e).0, still_at views a q.number Spent (h.returned j q e).1);
  }

  -- what a client knew whose seat is spent comes to the writer
  client_kept : (c : ClientView) → IsReader clients words w.log c → get_elem? views c.number ≡ some Spent
      → AreSeats clients words (set views 0 (Writer (record w { returned = w.returned ++ c ∷ [] }))) (record w { returned = w.returned ++ c ∷ [] })
  client_kept c reader spent =
      let right : View = Writer (record w { returned = w.returned ++ c ∷ [] }) in record {
        writer = set_here views 0 right (is_within views 0 (Writer w) h.writer);
        seats = length-set views 0 right ∙ h.seats;
        unused = h.unused;
        each = each_set (IsSeat clients words w.log) views 0 right refl (λ j v differ e. h.each j v e);
        returned = each_push (λ (j : ℕ) (q : ClientView). IsReader clients words w.log q × (get_elem? (set views 0 right) q.number ≡ some Spent)) w.returned c
            (reader, stays c.number right reader.client.0 spent) (λ j q e. ((h.returned j q e).0, stays q.number right (h.returned j q e).0.client.0 (h.returned j q e).1));
      }
    where
      stays : (i : ℕ) (v : View) → 0 < i → get_elem? views i ≡ some Spent → get_elem? (set views 0 v) i ≡ some Spent
      stays i v positive is = set_else views 0 i v (λ (s : i ≡ 0). absurd (omega arith)) ∙ is

-- a client's seat goes into the writer's
pub client_returns : {clients : ℕ} {words : List ℕ} {views : List View} {w : WriterView} (h : AreSeats clients words views w) (a : ℕ) (c : ClientView) → get_elem? views a ≡ some (Client c)
    → AreSeats clients words (set (set views 0 (Writer (record w { returned = w.returned ++ c ∷ [] }))) a Spent) (record w { returned = w.returned ++ c ∷ [] })
client_returns {clients} {words} {views} {w} h a c at =
    let is = h.each a (Client c) at in
    let differ : 0 ≢ a = client_is_not_first h a c at in
    let spent : get_elem? (set views a Spent) c.number ≡ some Spent = subst (λ (i : ℕ). get_elem? (set views a Spent) i ≡ some Spent) (sym is.0) (set_here views a Spent (is_within views a (Client c) at)) in
    subst (λ (vs : List View). AreSeats clients words vs (record w { returned = w.returned ++ c ∷ [] }))
    (sym (set_comm views 0 a (Writer (record w { returned = w.returned ++ c ∷ [] })) Spent differ))
    (client_kept (seat_spent h a differ) c is.1 spent)
