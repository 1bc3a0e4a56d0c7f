use Rattle.std.proofs.Common.{◌≡◌, ℕ, ◌-◌, List, Result, Ok, Err, refl}
use Rattle.std.specs.Prelude.{IfOk}
use Rattle.sve_token.specs.declared.token.Token.{Token}
use Rattle.sve_grammar.specs.declared.stop.Stop.{Stop}
use Rattle.sve_grammar.specs.declared.stop.Stop.TheVariants.{At, NoMemory}
use Rattle.sve_grammar.specs.Rule.{opt}
use Rattle.sve_grammar.specs.Reading.{leaf, reads, symbol}
use Rattle.sve_grammar.specs.Gives.{Gives}
use Rattle.sve_grammar.specs.Types.{initializer, more_declarators, declaration_end}
use Rattle.sve_tree.specs.Shape.{optional_tree, row_rest, IsRow}
use Rattle.sve_tree.specs.Types.{initializer_tree}
use Rattle.sve_tree.specs.Declarations.{initialized_declarator_tree, declaration_end_tree, first_declarator}
use Rattle.sve_tree.specs.declared.row.Row.{Row}
use Rattle.sve_tree.specs.declared.data_type.Declarator.{Declarator}
use Rattle.sve_tree.specs.declared.declaration.InitializedDeclarator.{InitializedDeclarator}
use Rattle.sve_tree.proofs.Shapes.{first_is}
use Rattle.sve_grammar.specs.Reading.{Tree}
use Rattle.sve_parse_type.proofs.names.declaration_end.Goals as goal

abbrev Declarators : Type 0
Declarators = Row InitializedDeclarator ℕ × ℕ

-- the first name's value was read, and the other names behind it
behind_value : (ts : List Token) (n from at : ℕ) (first : InitializedDeclarator) (result : Result Declarators Stop)
    → reads ts (symbol ts n) (opt initializer) from ≡ Ok (optional_tree initializer_tree first.value, at)
    → Gives (λ x. (row_rest initialized_declarator_tree leaf x.0, x.1)) result (reads ts (symbol ts n) more_declarators at)
    → IfOk result (λ x. IsRow first x.0.items.items x.0.separators.items)
    → Gives (λ x. (declaration_end_tree x.0, x.1)) result (reads ts (symbol ts n) declaration_end from)
unfolding declaration_end
behind_value ts n from at first (Ok x) v g r = rw (v, g, first_is (λ (d : InitializedDeclarator). optional_tree initializer_tree d.value) first x.0.items.items x.0.separators.items r) refl
behind_value ts n from at first (Err NoMemory) v g r = tt
behind_value ts n from at first (Err (At index deep)) v g r = rw (v, g) refl

its_name : (first : InitializedDeclarator) (result : Result Declarators Stop) → IfOk result (λ x. IsRow first x.0.items.items x.0.separators.items)
    → IfOk result (λ x. (f : Declarator → Tree) → first_declarator f x.0 ≡ f first.declarator)
its_name first (Ok x) r = λ f. first_is (λ (d : InitializedDeclarator). f d.declarator) first x.0.items.items x.0.separators.items r
its_name first (Err e) r = tt

pub returns-clause-tree : goal.returns-clause-tree
returns-clause-tree c = behind_value _ _ _ _ _ _ c.in_ok-value.ensures.tree c.more_declarators.ensures.tree c.more_declarators.ensures.first

pub returns-clause-first : goal.returns-clause-first
returns-clause-first c = its_name _ _ c.more_declarators.ensures.first
