use Rattle.std.proofs.Common.{◌≡◌, ◌∙◌, ap, subst, List, ℕ, map}
use Rattle.sve_package_order.specs.Graph.{graph_of}
use Rattle.sve_package_order.specs.Search.{Fits, Solves, found}
use Rattle.sve_package_order.proofs.Steps.{if_ok}
use Rattle.sve_package_order.proofs.Early.{rounds_found, rounds_first}
use Rattle.sve_package_order.proofs.rounds.order.Goals as goal

pub returns-clause-rounds : goal.returns-clause-rounds
returns-clause-rounds c =
    let graph : c.as_slice.result.now ≡ graph_of c.args.packages.now = c.as_slice.ensures.value ∙ c.in_ok-graph.ensures in
    let fits = subst (λ (g : List (List ℕ)). Fits g c.in_ok-progress.progress.items c.in_ok-progress.ensures.fits.0) graph c.in_ok-progress.ensures.fits.1 in
    let solves = subst (λ (g : List (List ℕ)). Solves g c.in_ok-progress.progress.items) graph c.in_ok-progress.ensures.solves in
    if_ok c.rounds_in.result
    (λ rounds is. is ∙ ap (map found) c.as_slice-2.ensures.value ∙ rounds_found c.args.packages.now c.in_ok-progress.progress.items c.in_ok-progress.ensures.fits.0 fits solves)
    c.rounds_in.ensures

pub returns-clause-first : goal.returns-clause-first
returns-clause-first c =
    let graph : c.as_slice.result.now ≡ graph_of c.args.packages.now = c.as_slice.ensures.value ∙ c.in_ok-graph.ensures in
    let fits = subst (λ (g : List (List ℕ)). Fits g c.in_ok-progress.progress.items c.in_ok-progress.ensures.fits.0) graph c.in_ok-progress.ensures.fits.1 in
    let solves = subst (λ (g : List (List ℕ)). Solves g c.in_ok-progress.progress.items) graph c.in_ok-progress.ensures.solves in
    if_ok c.rounds_in.result (λ rounds is. rounds_first c.args.packages.now c.in_ok-progress.progress.items c.in_ok-progress.ensures.fits.0 fits solves) c.rounds_in.ensures
