use Rattle.std.proofs.Common.{IsTrue, ◌==◌, ◌∷◌, sym, ap, ◌∙◌, ◌≡◌, [], length, arith, subst, List, Bool, ℕ, true, refl}
use Rattle.sve_unread.proofs.Nested.{some_left}
use Rattle.sve_unread.specs.Frames.{left_of_all, AreNested}
use Rattle.sve_unread.specs.declared.frame.Frame.{Frame}
use Rattle.sve_unread.specs.Bytes.{Byte}
use Rattle.sve_unread.proofs.stack.Stack.is_done.Goals as goal

empty_left : (fs : List Frame) → length fs ≡ 0 → left_of_all fs ≡ []
empty_left [] e = refl
empty_left (f ∷ fs) e = absurd (omega arith)

zero_from : (n : ℕ) → (n == 0) ≡ true → n ≡ 0
zero_from n e = grind arith

decided : (fs : List Frame) (bs : List Byte) (n : ℕ) (r : Bool) → n ≡ length fs → AreNested fs → left_of_all fs ≡ bs → r ≡ (n == 0) → (IsTrue r → bs ≡ []) × (bs ≡ [] → IsTrue r)
decided fs bs n r ok p v h = (
  λ t. sym v ∙ empty_left fs (sym ok ∙ zero_from n (subst (λ (b : Bool). IsTrue b) h t)),
  λ e. h ∙ ap (λ k. k == 0) (ok ∙ ap length (some_left fs p (v ∙ e))),
)

pub returns : goal.returns
returns c = decided c.self.inside.texts.items c.args.self.now c.self.inside.texts.len c.is_empty.result c.self.inside.texts.ok.0 c.self.invariant c.self.view_is c.is_empty.ensures
