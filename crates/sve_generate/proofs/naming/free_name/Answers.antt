use Rattle.std.proofs.Common.{◌≡◌, List, ℕ, IfOk, subst, arith}
use Rattle.sve_generate.proofs.FreeZeros.{found, goes_on, tried_all}
use Rattle.sve_generate.proofs.naming.free_name.Goals as goal

pub returns-in-None : goal.returns-in-None
returns-in-None g c =
    found g.T.Named.called c.args.declared.now c.args.number c.most_zeros-most.result c.tries.zeros c.most_zeros-most.ensures c.tries.invariant c.in_ok-name.name c.tries-test.true c.in_ok-name.ensures c.in-None.ensures

pub tries-preserved : goal.tries-preserved
tries-preserved g c =
    goes_on g.T.Named.called c.args.declared.now c.args.number c.most_zeros-most.result c.tries.zeros c.most_zeros-most.ensures c.tries.invariant c.in_ok-name.name c.in-Some.field-0.now c.tries-test.true c.in_ok-name.ensures c.in-Some.ensures

pub returns : goal.returns
returns g c =
    let e : c.tries.zeros ≡ c.most_zeros-most.result = omega arith in
    subst (λ (text : List ℕ). IfOk c.named-2.result (λ name. name ≡ text)) (tried_all g.T.Named.called c.args.declared.now c.args.number c.most_zeros-most.result c.tries.zeros c.most_zeros-most.ensures c.tries.invariant e) c.named-2.ensures
