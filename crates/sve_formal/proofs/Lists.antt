-- The parameters of a header from one on, and behind the last.
use Rattle.std.proofs.Common.{◌≡◌, ◌<◌, ◌≤◌, ℕ, ◌+◌, List, [], ◌∷◌, ◌++◌, length, drop, get_or, refl, ap, sym, ◌∙◌, append_assoc}
use Rattle.std.proofs.lemmas.List.{append-nil, drop_more}
use Rattle.std.proofs.Math.ListN.{drop_of_length-le}
use Rattle.sve_tree.specs.declared.word.ParameterKeyword.{ParameterKeyword}
use Rattle.sve_tree.specs.declared.header.ParameterPort.{ParameterPort}
use Rattle.sve_formal.specs.declared.formal.Formal.{Formal}
use Rattle.sve_formal.specs.Formals.{header_formal, header_formals, keyword_after}

pub port_added : (ports : List ParameterPort) (i : ℕ) (port : ParameterPort) (before : ParameterKeyword) → i < length ports → port ≡ get_or ports i port →
    header_formals before (drop i ports) ≡ header_formal (keyword_after before port.keyword) port ∷ header_formals (keyword_after before port.keyword) (drop (i + 1) ports)
unfolding header_formals
port_added ports i port before h e = rw (drop_more ports i port h, ← e) refl

pub all_added : (ports : List ParameterPort) (i : ℕ) (before : ParameterKeyword) → length ports ≤ i → header_formals before (drop i ports) ≡ []
unfolding header_formals
all_added ports i before h = rw (drop_of_length-le ports h) refl

-- what was added so far, behind one parameter more
pub one_more : (ports : List ParameterPort) (i : ℕ) (port : ParameterPort) (before keyword : ParameterKeyword) (found more whole : List Formal) (formal : Formal) → i < length ports → port ≡ get_or ports i port →
    keyword ≡ keyword_after before port.keyword → formal ≡ header_formal keyword port → more ≡ found ++ formal ∷ [] → found ++ header_formals before (drop i ports) ≡ whole → more ++ header_formals keyword (drop (i + 1) ports) ≡ whole
one_more ports i port before keyword found more whole formal h is k f pushed so_far =
    let added = port_added ports i port before h is in
    let first : formal ∷ header_formals keyword (drop (i + 1) ports) ≡ header_formals before (drop i ports) = cc in
    ap (λ (xs : List Formal). xs ++ header_formals keyword (drop (i + 1) ports)) pushed ∙ append_assoc found (formal ∷ []) (header_formals keyword (drop (i + 1) ports)) ∙ ap (λ (xs : List Formal). found ++ xs) first ∙ so_far

pub at_end : (ports : List ParameterPort) (i : ℕ) (before : ParameterKeyword) (found whole : List Formal) → length ports ≤ i → found ++ header_formals before (drop i ports) ≡ whole → found ≡ whole
at_end ports i before found whole h so_far = sym (append-nil found) ∙ ap (λ (xs : List Formal). found ++ xs) (sym (all_added ports i before h)) ∙ so_far
