use Rattle.std.proofs.Common.{◌≡◌, ℕ, ◌+◌, ◌-◌, ◌++◌, ◌∷◌, [], List, IfOk, length, map, take, ap, ◌∙◌, subst, arith, rules}
use Rattle.sve_facts.specs.declared.facts.Child.{Child}
use Rattle.sve_facts.specs.declared.facts.ParameterValue.{ParameterValue}
use Rattle.sve_facts.specs.declared.facts.Port.{Port}
use Rattle.sve_listing.specs.Lists.{max_listed, on_one_line, with_more}
use Rattle.sve_facts_lines.specs.Texts.{at_text}
use Rattle.sve_facts_lines.specs.Instances.{child_text, instance_texts, module_text, param_text, port_text}
use Rattle.sve_facts_lines.proofs.Whole.{count_is, lines_are}
use Rattle.sve_facts_lines.proofs.instance.instance_lines.Goals as goal

pub returns : goal.returns
returns c =
    let facts = c.args.facts.now in
    let one = module_text c.args.definition.now in
    let two = at_text c.args.at.now c.args.text.now in
    let texts = instance_texts c.args.definition.now c.args.at.now c.args.text.now facts in
    let first : c.in_ok-lines-2.lines ≡ on_one_line one ∷ on_one_line two ∷ [] = search rules in
    let second : c.in_ok-lines-3.lines ≡ c.in_ok-lines-2.lines ++ map (λ (p : ParameterValue). on_one_line (param_text p)) (take (max_listed - length c.in_ok-lines-2.lines) facts.params) =
    c.in_ok-lines-3.ensures ∙ ap (λ (ps : List ParameterValue). c.in_ok-lines-2.lines ++ map (λ (p : ParameterValue). on_one_line (param_text p)) (take (max_listed - length c.in_ok-lines-2.lines) ps)) c.items.ensures in
    let third : c.in_ok-lines-4.lines ≡ c.in_ok-lines-3.lines ++ map (λ (p : Port). on_one_line (port_text p)) (take (max_listed - length c.in_ok-lines-3.lines) facts.ports) =
    c.in_ok-lines-4.ensures ∙ ap (λ (ps : List Port). c.in_ok-lines-3.lines ++ map (λ (p : Port). on_one_line (port_text p)) (take (max_listed - length c.in_ok-lines-3.lines) ps)) c.items-2.ensures in
    let last : c.in_ok-lines-5.lines ≡ c.in_ok-lines-4.lines ++ map (λ (k : Child). on_one_line (child_text k)) (take (max_listed - length c.in_ok-lines-4.lines) facts.children) =
    c.in_ok-lines-5.ensures ∙ ap (λ (ks : List Child). c.in_ok-lines-4.lines ++ map (λ (k : Child). on_one_line (child_text k)) (take (max_listed - length c.in_ok-lines-4.lines) ks)) c.items-3.ensures in
    let whole : c.in_ok-lines-5.lines ≡ map on_one_line (take max_listed texts) = lines_are (one ∷ two ∷ []) facts.params facts.ports facts.children c.in_ok-lines-2.lines c.in_ok-lines-3.lines c.in_ok-lines-4.lines c.in_ok-lines-5.lines first second third last in
    let counted = count_is one two facts.params facts.ports facts.children in
    let params = ap (λ (ps : List ParameterValue). length ps) c.items-4.ensures in
    let ports = ap (λ (ps : List Port). length ps) c.items-5.ensures in
    let children = ap (λ (ks : List Child). length ks) c.items-6.ensures in
    let count : 2 + length c.items-4.result.now + length c.items-5.result.now + length c.items-6.result.now ≡ length texts = omega arith in
    subst (λ (ls : List (List ℕ)). IfOk c.with_more.result (λ lines. lines ≡ ls)) (ap (λ (n : ℕ). with_more n c.in_ok-lines-5.lines) count ∙ ap (with_more (length texts)) whole) c.with_more.ensures
