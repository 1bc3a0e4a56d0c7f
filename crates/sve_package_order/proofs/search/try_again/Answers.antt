use Rattle.std.proofs.Common.{◌≡◌, ◌∙◌, sym, ap, subst, List, None, Some, slice_get, take}
use Rattle.std.proofs.lemmas.Option.{slice_get_within}
use Rattle.sve_package_order.specs.declared.progress.Progress.{Progress}
use Rattle.sve_package_order.specs.declared.progress.Progress.TheVariants.{Waits}
use Rattle.sve_package_order.specs.Search.{Tried, next_round, settled}
use Rattle.sve_package_order.proofs.Steps.{low_here, settles_to, waits_to, tried_waits, both_ok, some_left}
use Rattle.sve_package_order.proofs.search.try_again.Goals as goal

pub advance-requires-clause-low : goal.advance-requires-clause-low
advance-requires-clause-low c =
    low_here c.args.graph.now c.args.search.now.progress.items c.args.search.now.left c.requires.fits c.requires.few c.as_slice-2.result.now c.as_slice-2.ensures.value

pub settle-requires-clause-left : goal.settle-requires-clause-left
settle-requires-clause-left c =
    let before : slice_get c.args.search.now.progress.items c.args.place ≡ Some (Waits c.in-Waits.at c.in-Waits.round) = ap (λ (ps : List Progress). slice_get ps c.args.place) (sym c.as_slice.ensures.value) ∙ sym c.in-Some-progress_at.ensures ∙ ap Some c.in-Waits.is in
    some_left c.args.graph.now c.args.search.now.progress.items c.args.search.now.left c.args.place c.in-Waits.at c.in-Waits.round c.requires.fits before

pub wait-requires : goal.wait-requires
wait-requires c =
    let before : slice_get c.args.search.now.progress.items c.args.place ≡ Some (Waits c.in-Waits.at c.in-Waits.round) = ap (λ (ps : List Progress). slice_get ps c.args.place) (sym c.as_slice.ensures.value) ∙ sym c.in-Some-progress_at.ensures ∙ ap Some c.in-Waits.is in
    slice_get_within c.args.search.now.progress.items c.args.place (Waits c.in-Waits.at c.in-Waits.round) before

pub returns-in-Settled-clause-fits : goal.returns-in-Settled-clause-fits
returns-in-Settled-clause-fits c =
    let there : slice_get c.args.graph.now c.args.place ≡ Some c.in-Some.imports.now = sym c.in-Some.ensures in
    let before : slice_get c.args.search.now.progress.items c.args.place ≡ Some (Waits c.in-Waits.at c.in-Waits.round) = ap (λ (ps : List Progress). slice_get ps c.args.place) (sym c.as_slice.ensures.value) ∙ sym c.in-Some-progress_at.ensures ∙ ap Some c.in-Waits.is in
    let goes = ap (λ (ps : List Progress). next_round (settled ps) c.in-Some.imports.now) (sym c.as_slice-2.ensures.value) ∙ c.in-Settled.ensures in
    both_ok c.settle.result
    (λ is less.
    settles_to c.args.graph.now c.args.search.now.progress.items c.settle.new.search.progress.items c.args.search.now.left c.settle.new.search.left
    c.args.place c.in-Waits.at c.in-Waits.round c.in-Settled.round c.in-Some.imports.now c.requires.fits there before goes is less)
    c.settle.ensures.progress c.settle.ensures.left

pub returns-in-Waits-advance-clause-fits : goal.returns-in-Waits-advance-clause-fits
returns-in-Waits-advance-clause-fits c =
    let there : slice_get c.args.graph.now c.args.place ≡ Some c.in-Some.imports.now = sym c.in-Some.ensures in
    let before : slice_get c.args.search.now.progress.items c.args.place ≡ Some (Waits c.in-Waits.at c.in-Waits.round) = ap (λ (ps : List Progress). slice_get ps c.args.place) (sym c.as_slice.ensures.value) ∙ sym c.in-Some-progress_at.ensures ∙ ap Some c.in-Waits.is in
    let front = subst (λ (ps : List Progress). next_round (settled ps) (take c.in-Waits-advance.at c.in-Some.imports.now) ≡ Some c.in-Waits-advance.round) c.as_slice-2.ensures.value c.in-Waits-advance.ensures.1 in
    waits_to c.args.graph.now c.args.search.now.progress.items c.wait.new.search.progress.items c.args.search.now.left c.wait.new.search.left
    c.args.place c.in-Waits.at c.in-Waits.round c.in-Waits-advance.at c.in-Waits-advance.round c.in-Some.imports.now c.requires.fits there before
    c.in-Waits-advance.ensures.0 front c.wait.ensures.progress c.wait.ensures.left

pub returns-in-Waits-advance-clause-tried : goal.returns-in-Waits-advance-clause-tried
returns-in-Waits-advance-clause-tried c = λ same.
    let there : slice_get c.args.graph.now c.args.place ≡ Some c.in-Some.imports.now = sym c.in-Some.ensures in
    let before : slice_get c.args.search.now.progress.items c.args.place ≡ Some (Waits c.in-Waits.at c.in-Waits.round) = ap (λ (ps : List Progress). slice_get ps c.args.place) (sym c.as_slice.ensures.value) ∙ sym c.in-Some-progress_at.ensures ∙ ap Some c.in-Waits.is in
    let none = subst (λ (ps : List Progress). next_round (settled ps) c.in-Some.imports.now ≡ None) c.as_slice-2.ensures.value c.in-Waits-advance.ensures.2 in
    subst (λ (ps : List Progress). Tried c.args.graph.now c.args.place c.args.search.now.progress.items ps) (sym c.wait.ensures.progress)
    (tried_waits c.args.graph.now c.args.search.now.progress.items c.args.place c.in-Waits.at c.in-Waits.round c.in-Waits-advance.at c.in-Waits-advance.round c.in-Some.imports.now there before none)
