-- A loop by what stands in front of its statement, and the statement.
use Rattle.std.proofs.Common.{◌≡◌, ℕ, zero, suc, ◌-◌, List, Ok, Err, refl}
use Rattle.sve_token.specs.declared.token.Token.{Token}
use Rattle.sve_grammar.specs.declared.stop.Stop.{Stop}
use Rattle.sve_grammar.specs.declared.stop.Stop.TheVariants.{At, NoMemory}
use Rattle.sve_grammar.specs.declared.symbol.Symbol.TheVariants.{Statement}
use Rattle.sve_grammar.specs.Rule.{Rule, sym}
use Rattle.sve_grammar.specs.Statements.{for_statement, foreach_statement}
use Rattle.sve_grammar.specs.Reading.{Tree, Answer, at_depth}
use Rattle.sve_grammar.specs.Gives.{Fails}
use Rattle.sve_grammar.specs.Machine.{Halt}
use Rattle.sve_parse_expr.specs.Alternatives.{alternative}
use Rattle.sve_parse_part.specs.Heads.{Heads, for_front, foreach_front, for_head_tree, foreach_head_tree}
use Rattle.sve_parse_part.specs.declared.heads.ForHead.{ForHead}
use Rattle.sve_parse_part.specs.declared.heads.ForeachHead.{ForeachHead}

-- an alternative stops where its rule stops
stays : (n : ℕ) (h : Halt) → alternative n (Err h) ≡ Err h
stays zero h = refl
stays (suc n) h = rw (stays n h) refl

pub way_fails : (n : ℕ) (e : Stop) (x : Answer) → Fails e x → Fails e (alternative n x)
way_fails n NoMemory x f = tt
way_fails n (At index deep) x f = rw f (stays n (record { index = index; deep = deep }))

-- where the statement stops, the loop does
head_fails : {X : Type 0} (view : X → Tree → Tree) (ts : List Token) (d : ℕ) (front : Rule → Rule) (i : ℕ) (x : X × ℕ) → Heads view ts d front i (Ok x) → (last : Rule) (e : Stop) → Fails e (at_depth ts d last x.1) → Fails e (at_depth ts d (front last) i)
head_fails view ts d front i x h last NoMemory f = tt
head_fails view ts d front i x h last (At index deep) f = h.1 last (record { index = index; deep = deep }) f

module _ (ts : List Token) (d i : ℕ) where
  pub for_reads : (x : ForHead) (j : ℕ) → Heads (for_head_tree i) ts d for_front i (Ok (x, j)) → (t : Tree) (k : ℕ) → at_depth ts d (sym Statement) j ≡ Ok (t, k) → at_depth ts d for_statement i ≡ Ok (for_head_tree i x t, k)
  unfolding for_statement
  for_reads x j h t k s = h.0 (sym Statement) t k s

  pub for_fails : (x : ForHead) (j : ℕ) → Heads (for_head_tree i) ts d for_front i (Ok (x, j)) → (e : Stop) → Fails e (at_depth ts d (sym Statement) j) → Fails e (at_depth ts d for_statement i)
  unfolding for_statement
  for_fails x j h e f = head_fails (for_head_tree i) ts d for_front i (x, j) h (sym Statement) e f

  pub for_stops : (e : Stop) → Heads (for_head_tree i) ts d for_front i (Err e) → Fails e (at_depth ts d for_statement i)
  unfolding for_statement
  for_stops e h = h (sym Statement)

  pub foreach_reads : (x : ForeachHead) (j : ℕ) → Heads (foreach_head_tree i) ts d foreach_front i (Ok (x, j)) → (t : Tree) (k : ℕ) → at_depth ts d (sym Statement) j ≡ Ok (t, k) → at_depth ts d foreach_statement i ≡ Ok (foreach_head_tree i x t, k)
  unfolding foreach_statement
  foreach_reads x j h t k s = h.0 (sym Statement) t k s

  pub foreach_fails : (x : ForeachHead) (j : ℕ) → Heads (foreach_head_tree i) ts d foreach_front i (Ok (x, j)) → (e : Stop) → Fails e (at_depth ts d (sym Statement) j) → Fails e (at_depth ts d foreach_statement i)
  unfolding foreach_statement
  foreach_fails x j h e f = head_fails (foreach_head_tree i) ts d foreach_front i (x, j) h (sym Statement) e f

  pub foreach_stops : (e : Stop) → Heads (foreach_head_tree i) ts d foreach_front i (Err e) → Fails e (at_depth ts d foreach_statement i)
  unfolding foreach_statement
  foreach_stops e h = h (sym Statement)
