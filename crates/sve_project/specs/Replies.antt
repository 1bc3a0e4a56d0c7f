-- What the elaboration of bodies is told of a project, and the design that follows (IEEE 1800-2017, 3.12.1, clauses 23 and 26).
use Rattle.std.specs.Prelude.{ℕ, List, [], map, option_map, unwrap_or}
use Rattle.sve_table.specs.Tables.{item_of}
use Rattle.sve_spec.specs.declared.spec.Spec.{Spec}
use Rattle.sve_facts.specs.declared.facts.Facts.{Facts}
use Rattle.sve_facts.specs.declared.facts.Port.{Port}
use Rattle.sve_facts.specs.Facts.{no_facts}
use Rattle.sve_facts.specs.Bodies.{Design}
use Rattle.sve_known.specs.Packages.{package_name}
use Rattle.sve_plan.specs.Plan.{Counted}
use Rattle.sve_settled.specs.Settled.{settled}
use Rattle.sve_look.specs.Questions.{ElementOf, IndexOf, NetAt, PackageOf, PortsOf, Question, Reply}
use Rattle.sve_elaborate.specs.Bodies.{elaborated, header_ports}
use Rattle.sve_packages.specs.Packages.{found_of}
use Rattle.sve_project.specs.Projects.{ProjectValue, known_in, net_in, tree_in}
use Rattle.sve_project.specs.Tops.{top_spec}

-- what is found of a package, which is nothing where there is none
unfoldable pub facts_named : ProjectValue → List ℕ → Facts
facts_named p name = unwrap_or (option_map found_of (item_of package_name name (known_in p))) no_facts

-- what a header is told: it asks for no ports
abbrev pub reply_but_ports : ProjectValue → (question : Question) → Reply question
reply_but_ports p (ElementOf file chunk) = tree_in p file chunk
reply_but_ports p (NetAt file chunk token) = net_in p file chunk token
reply_but_ports p IndexOf = p.index
reply_but_ports p (PackageOf name) = facts_named p name
reply_but_ports p (PortsOf spec) = []

-- the ports of a specialization are those of its header (23.2.2)
unfoldable pub ports_of : ProjectValue → Spec → List Port
ports_of p spec = (settled (reply_but_ports p) 0 (header_ports spec)).1

-- what a body is told
abbrev pub reply_in : ProjectValue → (question : Question) → Reply question
reply_in p (ElementOf file chunk) = tree_in p file chunk
reply_in p (NetAt file chunk token) = net_in p file chunk token
reply_in p IndexOf = p.index
reply_in p (PackageOf name) = facts_named p name
reply_in p (PortsOf spec) = ports_of p spec

-- what is found of the body of a specialization, with what that costs
abbrev pub body_of : ProjectValue → Spec → Counted Facts
body_of p spec = settled (reply_in p) 0 (elaborated spec)

-- the design of a project: its tops, in the order of the index, and the bodies of all specializations
unfoldable pub design_of : ProjectValue → Design
design_of p = record { tops = map (top_spec p) p.index.tops; facts = λ spec. (body_of p spec).1; cost = λ spec. (body_of p spec).0 }
