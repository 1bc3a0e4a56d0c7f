use Rattle.std.proofs.Common.{◌≡◌, arith}
use Rattle.sve_package_order.proofs.Steps.{solves_more, solves_all}
use Rattle.sve_package_order.proofs.search.sweep.Goals as goal

pub packages-preserved : goal.packages-preserved
packages-preserved c = record {
  fits = c.in_ok-try_again.ensures.fits;
  falls = omega (arith, c.packages.invariant.falls, c.in_ok-try_again.ensures.falls);
  solves = λ same.
      let before : c.packages.search.left ≡ c.args.search.now.left = omega (arith, same, c.packages.invariant.falls, c.in_ok-try_again.ensures.falls) in
      let here : c.try_again.new.search.left ≡ c.packages.search.left = omega (arith, same, before) in
      solves_more c.args.graph.now c.packages.search.progress.items c.try_again.new.search.progress.items c.packages.place (c.packages.invariant.solves before) (c.in_ok-try_again.ensures.tried here);
}

pub returns-clause-solves : goal.returns-clause-solves
returns-clause-solves c = λ same. solves_all c.args.graph.now c.packages.search.progress.items c.packages.place (omega arith) (c.packages.invariant.solves same)
