use Rattle.std.proofs.Common.{◌≡◌, List, [], ◌∷◌, ◌++◌, sym, ap, ◌∙◌, subst}
use Rattle.sve_memo.specs.Memos.{MemoValue}
use Rattle.sve_store.specs.Noted.{told_values, IsTableOf, entered}
use Rattle.sve_store.proofs.Notes.{told_values-push, enters}
use Rattle.sve_store.proofs.known.Known.put.Goals as goal

pub invariant_of-self-2 : goal.invariant_of-self-2
invariant_of-self-2 g c =
    let cmp = g.Q.Ord.cmp in
    let memo = c.in_ok-memo.memo in
    let told = c.self.inside.told.items in
    let items : c.push_reserved.new.self.items ≡ told ++ memo ∷ [] = c.push_reserved.ensures.items ∙ ap (λ (l : List (MemoValue g.row.Q.Denot g.row.V.Denot)). l ++ memo ∷ []) c.in_ok-reserve.ensures.items in
    subst (IsTableOf cmp c.push_reserved.new.self.items) (sym c.in_ok-enter.ensures.entered)
    (subst (λ (l : List (MemoValue g.row.Q.Denot g.row.V.Denot)). IsTableOf cmp l (entered cmp memo c.self.inside.table)) (sym items) (enters cmp g.met.Q.Ord.total memo told c.self.inside.table c.self.invariant))

pub returns-clause-put : goal.returns-clause-put
returns-clause-put g c =
    let memo = c.in_ok-memo.memo in
    let told = c.self.inside.told.items in
    let items : c.push_reserved.new.self.items ≡ told ++ memo ∷ [] = c.push_reserved.ensures.items ∙ ap (λ (l : List (MemoValue g.row.Q.Denot g.row.V.Denot)). l ++ memo ∷ []) c.in_ok-reserve.ensures.items in
    ap told_values items ∙ told_values-push told memo
    ∙ (λ i. c.self.view_is i ++ (((c.in_ok-memo.ensures i).finding.key, (c.in_ok-memo.ensures i).finding.value) ∷ []))
