-- The steps so far, and those of the items that are left, are all steps.
use Rattle.std.proofs.Common.{◌≡◌, drop}
use Rattle.std.specs.List.{flat_map, fold}
use Rattle.sve_statement_use.specs.Steps.{happens}
use Rattle.sve_statement_use.specs.Statements.{block_item_steps, case_item_steps}
use Rattle.sve_statement_use.proofs.walk.+statement.Given as goal

abbrev pub invariant-names_in_block_items-items : goal.invariant-names_in_block_items-items
invariant-names_in_block_items-items g l = fold (happens g.S.Resolver.after g.S.Scopes.does) l.scopes (flat_map block_item_steps (drop l.item-index l.items)) ≡ fold (happens g.S.Resolver.after g.S.Scopes.does) l.fn.scopes (flat_map block_item_steps l.items)

abbrev pub invariant-in_case_items-items : goal.invariant-in_case_items-items
invariant-in_case_items-items g l = fold (happens g.S.Resolver.after g.S.Scopes.does) l.scopes (flat_map case_item_steps (drop l.item-index l.items)) ≡ fold (happens g.S.Resolver.after g.S.Scopes.does) l.fn.scopes (flat_map case_item_steps l.items)
