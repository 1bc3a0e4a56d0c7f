-- The hierarchical names of a body (IEEE 1800-2017, 23.6): each is kept with the path of the scope in which it is used.
use Rattle.std.specs.Prelude.{List, ◌++◌, map}
use Rattle.sve_bytes.specs.declared.path.Path.{Path}
use Rattle.sve_facts.specs.declared.facts.HierarchicalUse.{HierarchicalUse}
use Rattle.sve_contents.specs.declared.contents.DottedName.{DottedName}
use Rattle.sve_contents.specs.Reading.{without_dotted}
use Rattle.sve_nested.specs.Blocks.{inner_path}
use Rattle.sve_elaboration.specs.State.{Found}

abbrev pub use_in : Path → DottedName → HierarchicalUse
use_in path d = record { scope = path; name = d.name; token = d.token }

-- those of the innermost scope since a scope last began or ended
abbrev pub uses_so_far : Found → List HierarchicalUse
uses_so_far s = map (use_in (inner_path s.nested)) s.nested.contents.dotted

-- they are kept before another scope is the innermost one
abbrev pub uses_kept : Found → Found
uses_kept s = record s { nested = record s.nested { contents = without_dotted s.nested.contents }; hierarchical = s.hierarchical ++ uses_so_far s }
