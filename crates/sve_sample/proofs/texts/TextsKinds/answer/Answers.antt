use Rattle.std.proofs.Common.{◌≡◌, ℕ, false, List, sym, subst}
use Rattle.sve_bytes.specs.FileName.{is_file_name_of}
use Rattle.sve_sample.proofs.texts.TextsKinds.answer.Goals as goal

-- the one name that is asked for was fetched
pub returns-in-Ok-clause-done : goal.returns-in-Ok-clause-done
returns-in-Ok-clause-done g c = λ remembers table follows up k f not asks.
    let quiet = g.F.Fetch.is_quiet c.fetch.new.self in
    let here : quiet c.args.q.now 0 = c.in_ok-content.ensures.again remembers (subst (λ (name : List ℕ). is_file_name_of name ≡ false) asks.0 not) in
    subst (λ (n : ℕ). quiet k n) (sym asks.1) (subst (λ (name : List ℕ). quiet name 0) (sym asks.0) here)
