-- A body at its beginning and at its end (IEEE 1800-2017, 23.2 and 23.9).
use Rattle.std.specs.Prelude.{List, [], ◌++◌}
use Rattle.std.specs.Option.{is_none}
use Rattle.sve_tree.specs.declared.token_word.Word.{Word}
use Rattle.sve_tree.specs.declared.element.Definition.{Definition}
use Rattle.sve_contents.specs.declared.contents.Contents.{Contents}
use Rattle.sve_contents.specs.Reading.{without_dotted}
use Rattle.sve_item_names.specs.Declarations.{header_headings}
use Rattle.sve_ahead.specs.Ahead.{ahead_in}
use Rattle.sve_spec.specs.declared.given.Given.{Given}
use Rattle.sve_known.specs.Packages.{Known}
use Rattle.sve_design_kinds.specs.Designs.{Designs}
use Rattle.sve_nested.specs.Blocks.{begun, closed}
use Rattle.sve_facts.specs.declared.facts.Facts.{Facts}
use Rattle.sve_elaboration.specs.State.{Found}
use Rattle.sve_elaboration.specs.Hierarchical.{uses_so_far}

-- A body begins, where these packages are known, in a chunk of these words that names these designs, by what its parameters are given: in its scope what its text declares further on
-- is announced. Hierarchical names of the compilation unit around it are none of its own.
abbrev pub begun_body : List Known → List Word → Designs → List Given → Contents → Definition → Found
begun_body packages ws designs given c d = record {
  packages = packages;
  words = ws;
  designs = designs;
  given = given;
  is_open = is_none d.header.parameters;
  place = 0;
  nested = begun (without_dotted c) (ahead_in ws (header_headings d.header) d.items.items);
  overrides = [];
  values = [];
  ports = [];
  children = [];
  nets = [];
  hierarchical = [];
}

-- what is found of a body whose text was gone over to its end
abbrev pub facts_of : Found → Facts
facts_of s = record {
  scopes = closed s.nested.blocks.inner s.nested.contents.scope s.nested.blocks.scopes;
  params = s.values;
  ports = s.ports;
  children = s.children;
  hierarchical = s.hierarchical ++ uses_so_far s;
  nets = s.nets;
  notes = s.nested.contents.notes;
}
