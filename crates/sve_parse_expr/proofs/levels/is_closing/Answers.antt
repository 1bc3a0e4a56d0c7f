use Rattle.std.proofs.Common.{inl, inr}
use Rattle.sve_parse_expr.proofs.ClosingKinds.{idle_Semicolon, idle_Comma, idle_RightParen, idle_RightBracket, idle_RightBrace, idle_Colon}
use Rattle.sve_parse_expr.proofs.levels.is_closing.Goals as goal

pub returns-in-Semicolon : goal.returns-in-Semicolon
returns-in-Semicolon c told level lo hi = elim c.in-Semicolon.is [
  | inl e ↦ rw e (idle_Semicolon level lo hi)
  | inr (inl e) ↦ rw e (idle_Comma level lo hi)
  | inr (inr (inl e)) ↦ rw e (idle_RightParen level lo hi)
  | inr (inr (inr (inl e))) ↦ rw e (idle_RightBracket level lo hi)
  | inr (inr (inr (inr (inl e)))) ↦ rw e (idle_RightBrace level lo hi)
  | inr (inr (inr (inr (inr e)))) ↦ rw e (idle_Colon level lo hi)
]
