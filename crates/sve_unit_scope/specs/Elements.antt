-- The elements of a file up to a chunk (IEEE 1800-2017, 3.12.1).
use Rattle.std.specs.Prelude.{ℕ, List, [], ◌∷◌, ◌++◌, Option, Some, None, refl}
use Rattle.std.specs.List.{range_with_len}
use Rattle.std.specs.Coded.{Coded, code_by, coded×, coded_ℕ}
use Rattle.sve_tree.specs.declared.element.Element.{Element}
use Rattle.sve_tree.specs.contracts.element.Element as element
use Rattle.sve_plan.specs.Plan.{Give, Plan, and_then, ask, each}
use Rattle.sve_look.specs.Questions.{ElementOf, Reply}

-- the tree of a chunk, with the number of the chunk in its file, from 0
pub record ChunkElement : Type 0 where
  pub chunk : ℕ
  pub element : Element

-- they are told apart by both
abbrev pub chunk_element_code : Coded ChunkElement
chunk_element_code = code_by (ℕ × Element) (coded× coded_ℕ element.the_row.coded) (λ e. (e.chunk, e.element)) (λ p. record { chunk = p.0; element = p.1 }) (λ _. refl)

-- a chunk that is refused has no tree
abbrev pub with_element : List ChunkElement → ℕ → Option Element → List ChunkElement
with_element es chunk None = es
with_element es chunk (Some e) = es ++ record { chunk = chunk; element = e } ∷ []

-- the tree of one chunk more
abbrev pub element_of : List ℕ → ℕ → List ChunkElement → Plan Reply (List ChunkElement)
element_of file chunk es = and_then (ask (ElementOf file chunk)) (λ e. Give (with_element es chunk e))

-- the trees of the chunks of a file in front of one, in the order of the text
abbrev pub elements_before : List ℕ → ℕ → Plan Reply (List ChunkElement)
elements_before file chunk = each (element_of file) (range_with_len 0 chunk) []
