-- The lines of an instance are put together kind by kind.
use Rattle.std.proofs.Common.{◌≡◌, ℕ, ◌+◌, ◌-◌, List, [], ◌∷◌, ◌++◌, length, map, take, ◌∙◌, arith, length-append}
use Rattle.std.proofs.lemmas.List.{length-map}
use Rattle.sve_facts.specs.declared.facts.Child.{Child}
use Rattle.sve_facts.specs.declared.facts.ParameterValue.{ParameterValue}
use Rattle.sve_facts.specs.declared.facts.Port.{Port}
use Rattle.sve_listing.specs.Lists.{max_listed, on_one_line}
use Rattle.sve_facts_lines.specs.Instances.{child_text, param_text, port_text}
use Rattle.sve_facts_lines.proofs.Room.{with_room}

pub lines_are : (head : List (List ℕ)) (params : List ParameterValue) (ports : List Port) (children : List Child) (first second third last : List (List ℕ)) → first ≡ map on_one_line (take max_listed head) → second ≡ first ++ map (λ p. on_one_line (param_text p)) (take (max_listed - length first) params) → third ≡ second ++ map (λ p. on_one_line (port_text p)) (take (max_listed - length second) ports) → last ≡ third ++ map (λ c. on_one_line (child_text c)) (take (max_listed - length third) children)
    → last ≡ map on_one_line (take max_listed (head ++ map param_text params ++ map port_text ports ++ map child_text children))
lines_are head params ports children first second third last e f g h =
    let with_params : second ≡ map on_one_line (take max_listed (head ++ map param_text params)) = f ∙ with_room on_one_line param_text first head params e in
    let with_ports : third ≡ map on_one_line (take max_listed (head ++ map param_text params ++ map port_text ports)) = g ∙ with_room on_one_line port_text second (head ++ map param_text params) ports with_params in
    h ∙ with_room on_one_line child_text third (head ++ map param_text params ++ map port_text ports) children with_ports

pub count_is : (one two : List ℕ) (params : List ParameterValue) (ports : List Port) (children : List Child) → 2 + length params + length ports + length children ≡ length ((one ∷ two ∷ []) ++ map param_text params ++ map port_text ports ++ map child_text children)
count_is one two params ports children =
    let a = length-append ((one ∷ two ∷ []) ++ map param_text params ++ map port_text ports) (map child_text children) in
    let b = length-append ((one ∷ two ∷ []) ++ map param_text params) (map port_text ports) in
    let c = length-append (one ∷ two ∷ []) (map param_text params) in
    let d = length-map params param_text in
    let e = length-map ports port_text in
    let f = length-map children child_text in
    omega arith
