-- What stands in front of the port's name, what it stands for, and the token behind it, stand in the call.
use Rattle.std.proofs.Common.{◌≡◌, ◌∙◌, ℕ, IfOk, List, Option, slice_get, ap, subst}
use Rattle.sve_types.specs.DataType.{DataType}
use Rattle.sve_tree.specs.declared.header.Port.{Port as WrittenPort}
use Rattle.sve_scope.specs.declared.what.What.{What}
use Rattle.sve_enumerated.specs.declared.passed.Passed.{Passed}
use Rattle.sve_header.specs.Coming.{come_in, separator}
use Rattle.sve_header.specs.Ports.{in_front_at, port_after, what_of}
use Rattle.sve_header.proofs.ports.port_after.Goals as goal

pub returns : goal.returns
unfolding port_after
returns c =
    let list = c.args.list.now in
    let ws = c.args.words.now in
    let port = c.args.port.now in
    let faces = c.args.faces.now in
    let written = c.written_at-written.ensures in
    let from = c.separator-from.ensures ∙ ap (λ (commas : List ℕ). separator commas list.closing c.args.place) c.as_slice.ensures.value in
    subst (λ (ty : DataType). IfOk c.come_in.result (λ p. p ≡ come_in ws (in_front_at ws ty c.args.passed (slice_get list.ports.items.items c.args.place)) port.token (what_of faces port) (separator list.ports.separators.items list.closing c.args.place))) c.ty.ensures
    (subst (λ (o : Option WrittenPort). IfOk c.come_in.result (λ p. p ≡ come_in ws (in_front_at ws c.ty.result.now c.args.passed o) port.token (what_of faces port) (separator list.ports.separators.items list.closing c.args.place))) written
    (subst (λ (q : Passed). IfOk c.come_in.result (λ p. p ≡ come_in ws q port.token (what_of faces port) (separator list.ports.separators.items list.closing c.args.place))) c.in_ok-passed.ensures
    (subst (λ (w : What). IfOk c.come_in.result (λ p. p ≡ come_in ws c.in_ok-passed.passed port.token w (separator list.ports.separators.items list.closing c.args.place))) c.in_ok-what.ensures
    (subst (λ (f : ℕ). IfOk c.come_in.result (λ p. p ≡ come_in ws c.in_ok-passed.passed port.token c.in_ok-what.what f)) from c.come_in.ensures))))
