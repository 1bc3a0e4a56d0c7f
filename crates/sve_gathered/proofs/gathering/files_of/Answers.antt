use Rattle.std.proofs.Common.{ℕ, List, ◌++◌, drop, ◌+◌, ◌∙◌, refl, sym, subst, arith}
use Rattle.std.proofs.lemmas.List.{drop_all}
use Rattle.sve_kinds.specs.Passes.{passes_itself, passes_on}
use Rattle.sve_gathered.specs.Told.{AreTold}
use Rattle.sve_gathered.proofs.SoFar.{name_then, told_on, told_all}
use Rattle.sve_gathered.proofs.gathering.files_of.Goals as goal

pub names-init : goal.names-init
names-init g c = record {
  passes = passes_itself (g.met.F.Fetch.keeps_itself c.args.from.now);
  went = refl;
  told = λ others are. subst (λ (files : List (List ℕ × List ℕ)). AreTold (g.F.Fetch.tells c.args.from.now) c.args.names.now (files ++ others)) (sym c.new-files.ensures.items) are;
}

pub names-preserved : goal.names-preserved
names-preserved g c =
    let i = c.names.invariant in
    let e = c.in_ok-add_file.ensures in
    record {
      passes = passes_on (g.met.F.Fetch.keeps_on c.args.from.now c.names.from c.add_file.new.from) i.passes c.add_file.ensures.passes;
      went = e.went ∙ i.went;
      told = told_on (g.F.Fetch.tells c.args.from.now) (g.F.Fetch.tells c.names.from) (λ k f v. (i.passes.same k f v).1) c.args.names.now (drop c.names.name-index c.args.names.now) (drop (c.names.name-index + 1) c.args.names.now) c.name-item.result c.names.files.items c.add_file.new.files.items
          (name_then c.args.names.now c.names.name-index c.name-item.result c.names-test.true c.name-item.is) i.told e.added;
    }

pub returns-in_err-add_file-clause-passes : goal.returns-in_err-add_file-clause-passes
returns-in_err-add_file-clause-passes g c = passes_on (g.met.F.Fetch.keeps_on c.args.from.now c.names.from c.add_file.new.from) c.names.invariant.passes c.add_file.ensures.passes

pub returns-clause-told : goal.returns-clause-told
returns-clause-told g c = told_all (g.F.Fetch.tells c.args.from.now) c.args.names.now (drop c.names.name-index c.args.names.now) c.names.files.items (drop_all c.names.name-index c.args.names.now (omega (arith, c.names-test.false))) c.names.invariant.told
