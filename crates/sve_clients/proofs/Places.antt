-- Passes and what clients leave, by their places, and clients that run in turn.
use Rattle.std.proofs.Common.{◌≡◌, ℕ, zero, suc, ◌+◌, ◌<◌, ◌≤◌, inl, inr, List, [], ◌∷◌, ◌++◌, map, length, get_or, Some, slice_get, refl, ap, sym, ◌∙◌, subst, arith, append_assoc, length-append}
use Rattle.std.specs.List.{range_with_len}
use Rattle.std.proofs.lemmas.List.FromFn.{length-map-range_with_len, get_or-map-range_with_len}
use Rattle.sve_board.specs.Log.{entries_of, largest}
use Rattle.sve_board.specs.Values.{PassValue, TableId, new_pass, new_passes}
use Rattle.sve_board.proofs.Prefixes.{prefix_refl, prefix_trans}
use Rattle.sve_history.specs.Histories.{HistoryValue}
use Rattle.sve_session.specs.Shared.{log_of}
use Rattle.sve_session.specs.Passes.{IsReady, HasGoneOn}
use Rattle.sve_session.specs.Ends.{EndsPass}
use Rattle.sve_session.proofs.Meets.{largest_prefix}
use Rattle.sve_clients.specs.declared.client.Ran.{Ran}
use Rattle.sve_clients.specs.declared.runs.Order.{Order}
use Rattle.sve_clients.specs.declared.runs.Order.TheVariants.{AtOnce, InTurn}
use Rattle.sve_clients.specs.Runs.{pass_of, left_of, next_front, HasRun, HasDone, HaveDone, IsTurn, AreTurns, HasLeft, HaveLeft}

pub passes-length : (board : TableId) (clients : ℕ) → length (new_passes board clients) ≡ clients
passes-length board clients = length-map-range_with_len (new_pass board) 1 clients

-- the pass at a place
pub pass_at : (board : TableId) (clients i : ℕ) (passes : List PassValue) (pass : PassValue) → passes ≡ new_passes board clients → i < length passes → pass ≡ get_or passes i pass → pass ≡ new_pass board (i + 1)
pass_at board clients i passes pass are lt at =
    let within : i < clients = omega (arith, ap length are, passes-length board clients) in
    at ∙ ap (λ (l : List PassValue). get_or l i pass) are ∙ get_or-map-range_with_len (new_pass board) 1 clients i (i + 1) pass within (omega arith)

-- a new pass is ready, and has no entry
pub new_ready : (board : TableId) (number : ℕ) (pass : PassValue) → pass ≡ new_pass board number → IsReady board pass
new_ready board number pass is = subst (IsReady board) (sym is) (record { board = refl; even = refl })

pub new_none : (board : TableId) (number : ℕ) (pass : PassValue) → pass ≡ new_pass board number → pass.mine ≡ []
new_none board number pass is = ap (λ (p : PassValue). p.mine) is

-- the first of the passes that are left, and the others
pub next_pass : (board : TableId) (number : ℕ) (pass : PassValue) (others : List PassValue) → pass ∷ others ≡ map (new_pass board) (range_with_len number (length (pass ∷ others)))
    → (pass ≡ new_pass board number) × (others ≡ map (new_pass board) (range_with_len (number + 1) (length others)))
next_pass board number pass others are = (cc, cc)

pub get_read : {X : Type 0} (xs : List X) (i : ℕ) (r : X) → slice_get xs i ≡ Some r → (i < length xs) × (get_or xs i r ≡ r)
get_read [] i r at = absurd (cc)
get_read (x ∷ xs) zero r at = (omega arith, cc)
get_read (x ∷ xs) (suc i) r at = let rest = get_read xs i r at in (omega (arith, rest.0), rest.1)

pub map_get : {A B : Type 0} (f : A → B) (xs : List A) (i : ℕ) (y : B) → slice_get (map f xs) i ≡ Some y → (x : A) × (slice_get xs i ≡ Some x) × (f x ≡ y)
map_get f [] i y at = absurd (cc)
map_get f (x ∷ xs) zero y at = (x, refl, cc)
map_get f (x ∷ xs) (suc i) y at = map_get f xs i y at

pub get_map : {A B : Type 0} (f : A → B) (xs : List A) (i : ℕ) (x : A) → slice_get xs i ≡ Some x → slice_get (map f xs) i ≡ Some (f x)
get_map f [] i x at = absurd (cc)
get_map f (y ∷ xs) zero x at = let same : y ≡ x = cc in ap (λ z. Some (f z)) same
get_map f (y ∷ xs) (suc i) x at = get_map f xs i x at

pub no_items : {X : Type 0} (xs : List X) → length xs ≡ 0 → xs ≡ []
no_items [] is = refl
no_items (x ∷ xs) is = absurd (omega (arith, is))

push-same : {X : Type 0} (xs ys : List X) (x y : X) → xs ++ x ∷ [] ≡ ys ++ y ∷ [] → (xs ≡ ys) × (x ≡ y)
push-same [] [] x y is = (refl, cc)
push-same [] (b ∷ ys) x y is = absurd (omega (arith, ap length is, length-append ys (y ∷ [])))
push-same (a ∷ xs) [] x y is = absurd (omega (arith, ap length is, length-append xs (x ∷ [])))
push-same (a ∷ xs) (b ∷ ys) x y is =
    let tails : xs ++ x ∷ [] ≡ ys ++ y ∷ [] = cc in
    let rest = push-same xs ys x y tails in
    (cc (is, rest.0), rest.1)

module _ {X : Type 0} (leaves : ℕ → ℕ → PassValue → X → Type 0) where
  -- a client that ran from this pass is done, at a front that the pass reached
  pub done : (board : TableId) (number front : ℕ) (before : PassValue) (ran : Ran X) → before.number ≡ number → front ≤ largest before.looks → HasRun leaves board before ran → HasDone leaves board number front ran
  done board number front before ran who reached run = record {
    pass = ran.pass;
    who = run.who ∙ who;
    since = record { later = record { table = refl; number = refl; seen = prefix_refl ran.pass.seen; looks = prefix_refl ran.pass.looks }; ready = run.ready; mine = refl };
    does = λ from le. subst (λ (n : ℕ). leaves n from ran.pass ran.left) who (run.does from (omega (arith, le, reached)));
  }

  -- its pass may go on
  abbrev pub done_still : (board : TableId) (number front : ℕ) (ran ran' : Ran X) → HasGoneOn board ran.pass ran'.pass → ran'.left ≡ ran.left → HasDone leaves board number front ran → HasDone leaves board number front ran'
  done_still board number front ran ran' more same one = record {
    pass = one.pass;
    who = one.who;
    since = record {
      later = record {
        table = more.later.table ∙ one.since.later.table;
        number = more.later.number ∙ one.since.later.number;
        seen = prefix_trans one.pass.seen ran.pass.seen ran'.pass.seen one.since.later.seen more.later.seen;
        looks = prefix_trans one.pass.looks ran.pass.looks ran'.pass.looks one.since.later.looks more.later.looks;
      };
      ready = more.ready;
      mine = more.mine ∙ one.since.mine;
    };
    does = λ from le. subst (λ (x : X). leaves number from one.pass x) (sym same) (one.does from le);
  }

  -- clients that run at once all begin at 0
  pub all_done : (board : TableId) (number : ℕ) (rans : List (Ran X)) → ((i : ℕ) (ran : Ran X) → slice_get rans i ≡ Some ran → HasDone leaves board (number + i) 0 ran) → HaveDone leaves AtOnce board number 0 rans
  all_done board number [] each = tt
  all_done board number (ran ∷ rans) each =
      let here : number + 0 ≡ number = omega arith in
      (subst (λ (n : ℕ). HasDone leaves board n 0 ran) here (each 0 ran refl), all_done board (number + 1) rans (λ i r at. let there : number + suc i ≡ number + 1 + i = omega arith in subst (λ (n : ℕ). HasDone leaves board n 0 r) there (each (suc i) r at)))

  pub first_turn : (board : TableId) (pass : PassValue) (rans : List (Ran X)) (ran : Ran X) → rans ≡ [] → pass.number ≡ 1 → HasRun leaves board pass ran → IsTurn leaves board rans ran
  first_turn board pass [] ran none who run = record { front = 0; one = done board 1 0 pass ran who (omega arith) run; before = λ more after. after }
  first_turn board pass (r ∷ rans) ran none who run = absurd (cc)

  module _ (board : TableId) (rans rans' : List (Ran X)) (last last' : Ran X) (turn : IsTurn leaves board rans last) (pushed : rans' ≡ rans ++ last' ∷ []) where
    size : length rans' ≡ length rans + 1
    size = ap length pushed ∙ length-append rans (last' ∷ [])

    -- the next one goes on from where it ended
    pub next_turn : HasGoneOn board last.pass last'.pass → last'.left ≡ last.left → (pass : PassValue) (ran : Ran X) → pass.number ≡ length rans + 2 → largest last.pass.looks ≤ largest pass.looks → HasRun leaves board pass ran → IsTurn leaves board rans' ran
    next_turn more same pass ran who reached run =
        let one = done_still board (length rans + 1) turn.front last last' more same turn.one in
        let top : ℕ = largest turn.one.pass.looks in
        let number : length rans + 2 ≡ length rans' + 1 = omega (arith, size) in
        record {
          front = top;
          one = done board (length rans' + 1) top pass ran (who ∙ number) (omega (arith, reached, largest_prefix turn.one.pass.looks last.pass.looks turn.one.since.later.looks)) run;
          before = λ others after.
              let follow : HaveDone leaves InTurn board (length rans + 1 + 1) top others = subst (λ (n : ℕ). HaveDone leaves InTurn board n top others) (let e : length rans' + 1 ≡ length rans + 1 + 1 = omega (arith, size) in e) after in
              subst (HaveDone leaves InTurn board 1 0) (sym (append_assoc rans (last' ∷ []) others) ∙ ap (λ (l : List (Ran X)). l ++ others) (sym pushed)) (turn.before (last' ∷ others) (one, follow));
        }

    pub last_turn : last' ≡ last → HaveDone leaves InTurn board 1 0 rans'
    last_turn same =
        let one : HasDone leaves board (length rans + 1) turn.front last' = subst (HasDone leaves board (length rans + 1) turn.front) (sym same) turn.one in
        subst (HaveDone leaves InTurn board 1 0) (sym pushed) (turn.before (last' ∷ []) (one, tt))

  -- all who ran in turn are done
  pub turns_done : (board : TableId) (rans : List (Ran X)) → AreTurns leaves board rans → HaveDone leaves InTurn board 1 0 rans
  turns_done board rans (inl none) = subst (HaveDone leaves InTurn board 1 0) (sym none) tt
  turns_done board rans (inr (before, last, are, turn)) = last_turn board before rans last last turn are refl

  pub turn_of : (board : TableId) (rest : List (Ran X)) (last : Ran X) (rans : List (Ran X)) → rans ≡ rest ++ last ∷ [] → AreTurns leaves board rans → IsTurn leaves board rest last
  turn_of board rest last rans are (inl none) = absurd (omega (arith, ap length (sym are ∙ none), length-append rest (last ∷ [])))
  turn_of board rest last rans are (inr (before, l, same, turn)) =
      let both = push-same before rest l last (sym same ∙ are) in
      subst (λ (xs : List (Ran X)). IsTurn leaves board xs last) both.0 (subst (IsTurn leaves board before) both.1 turn)

  module _ (order : Order) (board : TableId) where
    -- the passes that clients hand back are the session's
    are_ready_from : (number front : ℕ) (rans : List (Ran X)) → HaveDone leaves order board number front rans → (i : ℕ) (ran : Ran X) → slice_get rans i ≡ Some ran → IsReady board ran.pass
    are_ready_from number front [] all i ran at = absurd (cc)
    are_ready_from number front (r ∷ rans) (one, others) zero ran at = let same : r ≡ ran = cc in subst (λ (x : Ran X). IsReady board x.pass) same one.since.ready
    are_ready_from number front (r ∷ rans) (one, others) (suc i) ran at = are_ready_from (number + 1) (next_front order (largest one.pass.looks)) rans others i ran at

    pub are_ready : (rans : List (Ran X)) (passes : List PassValue) → HaveDone leaves order board 1 0 rans → passes ≡ map pass_of rans → (i : ℕ) (pass : PassValue) → slice_get passes i ≡ Some pass → IsReady board pass
    are_ready rans passes all are i pass at =
        let found = map_get pass_of rans i pass (subst (λ (l : List PassValue). slice_get l i ≡ Some pass) are at) in
        subst (IsReady board) found.2 (are_ready_from 1 0 rans all i found.0 found.1)

    abbrev has_left : (history : HistoryValue) (number front : ℕ) (ran : Ran X) → EndsPass history ran.pass → HasDone leaves board number front ran → HasLeft leaves history number front ran.left
    has_left history number front ran ends one = record {
      pass = one.pass;
      who = one.who;
      ends = record {
        seen = prefix_trans one.pass.seen ran.pass.seen (log_of history.entries) one.since.later.seen ends.seen;
        looks = omega (arith, ends.looks, largest_prefix one.pass.looks ran.pass.looks one.since.later.looks);
        mine = ap (λ (n : ℕ). entries_of n (log_of history.entries)) (sym one.since.later.number) ∙ ends.mine ∙ one.since.mine;
      };
      does = one.does;
    }

    have_left_from : (history : HistoryValue) (number front : ℕ) (rans : List (Ran X)) → HaveDone leaves order board number front rans → ((i : ℕ) (ran : Ran X) → slice_get rans i ≡ Some ran → EndsPass history ran.pass)
        → HaveLeft leaves order history number front (map left_of rans)
    have_left_from history number front [] all ends = tt
    have_left_from history number front (ran ∷ rans) (one, others) ends =
        (has_left history number front ran (ends 0 ran refl) one, have_left_from history (number + 1) (next_front order (largest one.pass.looks)) rans others (λ i r at. ends (suc i) r at))

    -- what the clients left, beside their passes
    pub have_left : (history : HistoryValue) (rans : List (Ran X)) (passes : List PassValue) (left : List X) → HaveDone leaves order board 1 0 rans → passes ≡ map pass_of rans → left ≡ map left_of rans
        → ((i : ℕ) (pass : PassValue) → slice_get passes i ≡ Some pass → EndsPass history pass) → HaveLeft leaves order history 1 0 left
    have_left history rans passes left all are left_are ends =
        subst (HaveLeft leaves order history 1 0) (sym left_are)
        (have_left_from history 1 0 rans all (λ i ran at. ends i ran.pass (subst (λ (l : List PassValue). slice_get l i ≡ Some ran.pass) (sym are) (get_map pass_of rans i ran at))))

  -- what one of the clients left, from whatever front
  pub left_from : (order : Order) (history : HistoryValue) (number front : ℕ) (lefts : List X) → HaveLeft leaves order history number front lefts → (i : ℕ) (left : X) → slice_get lefts i ≡ Some left → HasLeft leaves history (number + i) 0 left
  left_from order history number front [] all i left at = absurd (cc)
  left_from order history number front (x ∷ lefts) (one, others) zero left at =
      let here : number ≡ number + 0 = omega arith in
      let same : x ≡ left = cc in
      subst (λ (n : ℕ). HasLeft leaves history n 0 left) here (subst (HasLeft leaves history number 0) same (record { pass = one.pass; who = one.who; ends = one.ends; does = λ from le. one.does from (omega (arith, le)) }))
  left_from order history number front (x ∷ lefts) (one, others) (suc i) left at =
      let there : number + 1 + i ≡ number + suc i = omega arith in
      subst (λ (n : ℕ). HasLeft leaves history n 0 left) there (left_from order history (number + 1) (next_front order (largest one.pass.looks)) lefts others i left at)
