use Rattle.std.proofs.Common.{ℕ, List, subst, arith, sym}
use Rattle.sve_text.specs.Files.{HaveDistinctNames, TextsFit}
use Rattle.sve_script.proofs.MadeFiles.{made_names_differ, made_texts_fit}
use Rattle.sve_script.proofs.made.made_session.Goals as goal

pub of-requires-clause-distinct_names : goal.of-requires-clause-distinct_names
of-requires-clause-distinct_names c =
    subst (λ (files : List (List ℕ × List ℕ)). HaveDistinctNames files) (sym c.in_ok-files.ensures) (made_names_differ c.args.n (omega arith))

pub of-requires-clause-texts_in_limit : goal.of-requires-clause-texts_in_limit
of-requires-clause-texts_in_limit c =
    subst (λ (files : List (List ℕ × List ℕ)). TextsFit files) (sym c.in_ok-files.ensures) (made_texts_fit c.args.n (omega arith))
