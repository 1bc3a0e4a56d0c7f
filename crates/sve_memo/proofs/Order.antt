-- Memos in order, around one of them: where a key is found, and where a memo is put.
use Rattle.std.proofs.Common.{◌≡◌, ℕ, ◌<◌, length, arith, length-append, List, [], ◌∷◌, ◌++◌, Option, None, Some, refl, ap, ◌∙◌}
use Rattle.std.specs.declared.cmp.Ordering.{Ordering}
use Rattle.std.specs.declared.cmp.Ordering.TheVariants.{Less, Equal, Greater}
use Rattle.std.specs.Ordering.{ordering_reverse, match_ordering}
use Rattle.std.specs.Cmp.{IsTotalOrder}
use Rattle.sve_memo.specs.Memos.{MemoValue, memo_in, put_memo, AllAfter, IsInOrder}

greater : {K : Type 0} (cmp : K → K → Ordering) → IsTotalOrder cmp → (a b : K) → cmp a b ≡ Less → cmp b a ≡ Greater
greater cmp total a b is = total.antisymm b a ∙ ap ordering_reverse is

less : {K : Type 0} (cmp : K → K → Ordering) → IsTotalOrder cmp → (a b : K) → cmp a b ≡ Greater → cmp b a ≡ Less
less cmp total a b is = total.antisymm b a ∙ ap ordering_reverse is

module _ {K V : Type 0} (cmp : K → K → Ordering) (total : IsTotalOrder cmp) where
  later_too : (a b : K) (memos : List (MemoValue K V)) → cmp a b ≡ Less → AllAfter cmp b memos → AllAfter cmp a memos
  later_too a b [] is after = tt
  later_too a b (memo ∷ memos) is after = (total.trans a b memo.finding.key is after.0, later_too a b memos is after.1)

  after_front : (k : K) (l m : List (MemoValue K V)) → AllAfter cmp k (l ++ m) → AllAfter cmp k l
  after_front k [] m after = tt
  after_front k (x ∷ l) m after = (after.0, after_front k l m after.1)

  after_middle : (k : K) (l : List (MemoValue K V)) (memo : MemoValue K V) (r : List (MemoValue K V)) → AllAfter cmp k (l ++ memo ∷ r) → cmp k memo.finding.key ≡ Less
  after_middle k [] memo r after = after.0
  after_middle k (x ∷ l) memo r after = after_middle k l memo r after.1

  pub in_order-front : (l m : List (MemoValue K V)) → IsInOrder cmp (l ++ m) → IsInOrder cmp l
  in_order-front [] m order = tt
  in_order-front (x ∷ l) m order = (after_front x.finding.key l m order.0, in_order-front l m order.1)

  pub in_order-back : (l : List (MemoValue K V)) (memo : MemoValue K V) (r : List (MemoValue K V)) → IsInOrder cmp (l ++ memo ∷ r) → IsInOrder cmp r
  in_order-back [] memo r order = order.1
  in_order-back (x ∷ l) memo r order = in_order-back l memo r order.1

  -- a key at or after the middle comes after each one of the left side
  beyond_left : (k : K) (x : MemoValue K V) (l : List (MemoValue K V)) (memo : MemoValue K V) (r : List (MemoValue K V)) → cmp k memo.finding.key ≡ Greater → IsInOrder cmp (x ∷ (l ++ memo ∷ r)) → cmp k x.finding.key ≡ Greater
  beyond_left k x l memo r is order = greater cmp total x.finding.key k (total.trans x.finding.key memo.finding.key k (after_middle x.finding.key l memo r order.0) (less cmp total k memo.finding.key is))

  at_middle : (k : K) (x : MemoValue K V) (l : List (MemoValue K V)) (memo : MemoValue K V) (r : List (MemoValue K V)) → cmp k memo.finding.key ≡ Equal → IsInOrder cmp (x ∷ (l ++ memo ∷ r)) → cmp k x.finding.key ≡ Greater
  at_middle k x l memo r is order = total.congr k memo.finding.key x.finding.key is ∙ greater cmp total x.finding.key memo.finding.key (after_middle x.finding.key l memo r order.0)

  found_nowhere : (k : K) (memos : List (MemoValue K V)) → AllAfter cmp k memos → memo_in cmp memos k ≡ None
  found_nowhere k [] after = refl
  found_nowhere k (memo ∷ memos) after = rw after.0 (found_nowhere k memos after.1)

  pub found_left : (k : K) (l : List (MemoValue K V)) (memo : MemoValue K V) (r : List (MemoValue K V)) → cmp k memo.finding.key ≡ Less → IsInOrder cmp (l ++ memo ∷ r) → memo_in cmp (l ++ memo ∷ r) k ≡ memo_in cmp l k
  found_left k [] memo r is order = rw is (found_nowhere k r (later_too k memo.finding.key r is order.0))
  found_left k (x ∷ l) memo r is order = ap (λ (o : Option (MemoValue K V)). match_ordering (cmp k x.finding.key) o (Some x) o) (found_left k l memo r is order.1)

  pub found_middle : (k : K) (l : List (MemoValue K V)) (memo : MemoValue K V) (r : List (MemoValue K V)) → cmp k memo.finding.key ≡ Equal → IsInOrder cmp (l ++ memo ∷ r) → memo_in cmp (l ++ memo ∷ r) k ≡ Some memo
  found_middle k [] memo r is order = rw is
  found_middle k (x ∷ l) memo r is order = rw (at_middle k x l memo r is order) (found_middle k l memo r is order.1)

  pub found_right : (k : K) (l : List (MemoValue K V)) (memo : MemoValue K V) (r : List (MemoValue K V)) → cmp k memo.finding.key ≡ Greater → IsInOrder cmp (l ++ memo ∷ r) → memo_in cmp (l ++ memo ∷ r) k ≡ memo_in cmp r k
  found_right k [] memo r is order = rw is
  found_right k (x ∷ l) memo r is order = rw (beyond_left k x l memo r is order) (found_right k l memo r is order.1)

  put_in_front : (o : Ordering) (new x : MemoValue K V) (t u v w : List (MemoValue K V)) → w ≡ u ++ v → match_ordering o (new ∷ x ∷ (t ++ v)) (new ∷ (t ++ v)) (x ∷ w) ≡ match_ordering o (new ∷ x ∷ t) (new ∷ t) (x ∷ u) ++ v
  put_in_front Less new x t u v w is = refl
  put_in_front Equal new x t u v w is = refl
  put_in_front Greater new x t u v w is = ap (λ memos. x ∷ memos) is

  pub put_left : (new : MemoValue K V) (l : List (MemoValue K V)) (memo : MemoValue K V) (r : List (MemoValue K V)) → cmp new.finding.key memo.finding.key ≡ Less → put_memo cmp new (l ++ memo ∷ r) ≡ put_memo cmp new l ++ memo ∷ r
  put_left new [] memo r is = rw is
  put_left new (x ∷ l) memo r is = put_in_front (cmp new.finding.key x.finding.key) new x l (put_memo cmp new l) (memo ∷ r) _ (put_left new l memo r is)

  pub put_middle : (new : MemoValue K V) (l : List (MemoValue K V)) (memo : MemoValue K V) (r : List (MemoValue K V)) → cmp new.finding.key memo.finding.key ≡ Equal → IsInOrder cmp (l ++ memo ∷ r) → put_memo cmp new (l ++ memo ∷ r) ≡ l ++ new ∷ r
  put_middle new [] memo r is order = rw is
  put_middle new (x ∷ l) memo r is order = rw (at_middle new.finding.key x l memo r is order) (ap (λ memos. x ∷ memos) (put_middle new l memo r is order.1))

  pub put_right : (new : MemoValue K V) (l : List (MemoValue K V)) (memo : MemoValue K V) (r : List (MemoValue K V)) → cmp new.finding.key memo.finding.key ≡ Greater → IsInOrder cmp (l ++ memo ∷ r) → put_memo cmp new (l ++ memo ∷ r) ≡ l ++ memo ∷ put_memo cmp new r
  put_right new [] memo r is order = rw is
  put_right new (x ∷ l) memo r is order = rw (beyond_left new.finding.key x l memo r is order) (ap (λ memos. x ∷ memos) (put_right new l memo r is order.1))

  put_after_by : (k : K) (new memo : MemoValue K V) (memos rest : List (MemoValue K V)) → cmp k new.finding.key ≡ Less → AllAfter cmp k (memo ∷ memos) → AllAfter cmp k rest → (o : Ordering)
      → AllAfter cmp k (match_ordering o (new ∷ memo ∷ memos) (new ∷ memos) (memo ∷ rest))
  put_after_by k new memo memos rest is after later Less = (is, after)
  put_after_by k new memo memos rest is after later Equal = (is, after.1)
  put_after_by k new memo memos rest is after later Greater = (after.0, later)

  -- a memo that is put in leaves the others behind those that they are behind
  put_after : (k : K) (new : MemoValue K V) (memos : List (MemoValue K V)) → cmp k new.finding.key ≡ Less → AllAfter cmp k memos → AllAfter cmp k (put_memo cmp new memos)
  put_after k new [] is after = (is, tt)
  put_after k new (memo ∷ memos) is after = put_after_by k new memo memos (put_memo cmp new memos) is after (put_after k new memos is after.1) (cmp new.finding.key memo.finding.key)

  same_after : (a b : K) (rest : List (MemoValue K V)) → cmp a b ≡ Equal → AllAfter cmp b rest → AllAfter cmp a rest
  same_after a b [] same after = tt
  same_after a b (x ∷ rest) same after = (total.congr a b x.finding.key same ∙ after.0, same_after a b rest same after.1)

  put_in_order_by : (new memo : MemoValue K V) (memos rest : List (MemoValue K V)) → IsInOrder cmp (memo ∷ memos) → IsInOrder cmp rest → (cmp memo.finding.key new.finding.key ≡ Less → AllAfter cmp memo.finding.key rest)
      → (o : Ordering) → cmp new.finding.key memo.finding.key ≡ o → IsInOrder cmp (match_ordering o (new ∷ memo ∷ memos) (new ∷ memos) (memo ∷ rest))
  put_in_order_by new memo memos rest order later after Less is = ((is, later_too new.finding.key memo.finding.key memos is order.0), order)
  put_in_order_by new memo memos rest order later after Equal is = (same_after new.finding.key memo.finding.key memos is order.0, order.1)
  put_in_order_by new memo memos rest order later after Greater is = (after (less cmp total new.finding.key memo.finding.key is), later)

  pub put_in_order : (new : MemoValue K V) (memos : List (MemoValue K V)) → IsInOrder cmp memos → IsInOrder cmp (put_memo cmp new memos)
  put_in_order new [] order = (tt, tt)
  put_in_order new (memo ∷ memos) order =
      put_in_order_by new memo memos (put_memo cmp new memos) order (put_in_order new memos order.1) (λ is. put_after memo.finding.key new memos is order.0) (cmp new.finding.key memo.finding.key) refl

pub left_shorter : {A : Type 0} (l : List A) (x : A) (r : List A) → length l < length (l ++ x ∷ r)
left_shorter l x r = omega (arith, length-append l (x ∷ r))

pub right_shorter : {A : Type 0} (l : List A) (x : A) (r : List A) → length r < length (l ++ x ∷ r)
right_shorter l x r = omega (arith, length-append l (x ∷ r))
