use Rattle.std.proofs.Common.{◌-◌}
use Rattle.sve_parse_form.proofs.Leads.{declared_leads}
use Rattle.sve_parse_form.proofs.declared.declared_item.Goals as goal

pub returns-in-Local-clause-tree : goal.returns-in-Local-clause-tree
returns-in-Local-clause-tree c = rw (declared_leads _ _ (512 - c.args.depth) _ _ c.in-Local.is c.requires.form) c.local_item.ensures.tree

pub returns-in-Variable-clause-tree : goal.returns-in-Variable-clause-tree
returns-in-Variable-clause-tree c = rw (declared_leads _ _ (512 - c.args.depth) _ _ c.in-Variable.is c.requires.form) c.variable_item.ensures.tree

pub returns-in-Data-clause-tree : goal.returns-in-Data-clause-tree
returns-in-Data-clause-tree c = rw (declared_leads _ _ (512 - c.args.depth) _ _ c.in-Data.is c.requires.form) c.data_item.ensures.tree

pub returns-in-Parameters-clause-tree : goal.returns-in-Parameters-clause-tree
returns-in-Parameters-clause-tree c = rw (declared_leads _ _ (512 - c.args.depth) _ _ c.in-Parameters.is c.requires.form) c.parameters_item.ensures.tree

pub returns-in-Typedef-clause-tree : goal.returns-in-Typedef-clause-tree
returns-in-Typedef-clause-tree c = rw (declared_leads _ _ (512 - c.args.depth) _ _ c.in-Typedef.is c.requires.form) c.typedef_item.ensures.tree

pub returns-in-Name-clause-tree : goal.returns-in-Name-clause-tree
returns-in-Name-clause-tree c = rw (declared_leads _ _ (512 - c.args.depth) _ _ c.in-Name.is c.requires.form) c.named_block_item.ensures.tree
