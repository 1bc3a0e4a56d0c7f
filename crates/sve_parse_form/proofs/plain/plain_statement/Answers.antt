use Rattle.std.proofs.Common.{◌-◌}
use Rattle.sve_parse_form.proofs.Leads.{plain_leads}
use Rattle.sve_parse_form.proofs.plain.plain_statement.Goals as goal

pub returns-in-Empty-clause-tree : goal.returns-in-Empty-clause-tree
returns-in-Empty-clause-tree c = rw (plain_leads _ _ (512 - c.args.depth) _ _ c.in-Empty.is c.requires.form) c.empty_stmt.ensures.tree

pub returns-in-Return-clause-tree : goal.returns-in-Return-clause-tree
returns-in-Return-clause-tree c = rw (plain_leads _ _ (512 - c.args.depth) _ _ c.in-Return.is c.requires.form) c.return_stmt.ensures.tree

pub returns-in-Break-clause-tree : goal.returns-in-Break-clause-tree
returns-in-Break-clause-tree c = rw (plain_leads _ _ (512 - c.args.depth) _ _ c.in-Break.is c.requires.form) c.break_stmt.ensures.tree

pub returns-in-Continue-clause-tree : goal.returns-in-Continue-clause-tree
returns-in-Continue-clause-tree c = rw (plain_leads _ _ (512 - c.args.depth) _ _ c.in-Continue.is c.requires.form) c.continue_stmt.ensures.tree

pub returns-in-SystemTask-clause-tree : goal.returns-in-SystemTask-clause-tree
returns-in-SystemTask-clause-tree c = rw (plain_leads _ _ (512 - c.args.depth) _ _ c.in-SystemTask.is c.requires.form) c.system_task_stmt.ensures.tree

pub returns-in-VoidCall-clause-tree : goal.returns-in-VoidCall-clause-tree
returns-in-VoidCall-clause-tree c = rw (plain_leads _ _ (512 - c.args.depth) _ _ c.in-VoidCall.is c.requires.form) c.void_call_stmt.ensures.tree

pub returns-in-Step-clause-tree : goal.returns-in-Step-clause-tree
returns-in-Step-clause-tree c = rw (plain_leads _ _ (512 - c.args.depth) _ _ c.in-Step.is c.requires.form) c.step_stmt.ensures.tree

pub returns-in-Concatenation-clause-tree : goal.returns-in-Concatenation-clause-tree
returns-in-Concatenation-clause-tree c = rw (plain_leads _ _ (512 - c.args.depth) _ _ c.in-Concatenation.is c.requires.form) c.concatenation_stmt.ensures.tree

pub returns-in-Name-clause-tree : goal.returns-in-Name-clause-tree
returns-in-Name-clause-tree c = rw (plain_leads _ _ (512 - c.args.depth) _ _ c.in-Name.is c.requires.form) c.name_stmt.ensures.tree
