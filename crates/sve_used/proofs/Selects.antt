-- Selects as what is applied to a name.
use Rattle.std.proofs.Common.{◌≡◌, List, [], ◌∷◌, refl}
use Rattle.std.specs.List.{fold}
use Rattle.sve_tree.specs.declared.expression.Select.{Select}
use Rattle.sve_tree.specs.declared.token_word.Word.{Word}
use Rattle.sve_use.specs.Use.{applied}
use Rattle.sve_env.specs.Told.{Told}
use Rattle.sve_used.specs.declared.steps.Reading.{Reading}
use Rattle.sve_used.specs.Steps.{after_postfix, after_select}

pub after_applied : (m : Told) (ws : List Word) (r : Reading) (ss : List Select) → fold (after_postfix m ws) r (applied ss) ≡ fold (after_select m ws) r ss
after_applied m ws r [] = refl
after_applied m ws r (s ∷ ss) = after_applied m ws (after_select m ws r s) ss
