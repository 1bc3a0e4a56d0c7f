use Rattle.std.proofs.Common.{◌≡◌, ◌≢◌, List, [], ◌∷◌, Ok, IfOk, length, refl, sym, subst, arith}
use Rattle.serde_json.specs.View.{items_view}
use Rattle.serde_json.specs.declared.value.Value.{Value}
use Rattle.sve_shape.specs.Shapes.{shaped_then, items_as, array_as}
use Rattle.sve_command.specs.Commands.{command_of}
use Rattle.sve_script.specs.Session.{some_items}
use Rattle.sve_script.proofs.clients.some_clients.Goals as goal

some_are_there : (values : List Value) → length values ≢ 0 → some_items (items_view values) ≡ Ok (items_view values)
some_are_there [] some = absurd (some refl)
some_are_there (v ∷ vs) some = refl

pub returns : goal.returns
returns c =
    subst (λ s. IfOk c.clients_in.result (λ shaped. shaped ≡ shaped_then (items_as (array_as command_of) 0) s))
    (sym (some_are_there c.args.items.now (grind (arith, c.is_empty.ensures, c.if-is_empty.false)))) c.clients_in.ensures
