-- What is known behind an element, part by part.
use Rattle.std.proofs.Common.{refl}
use Rattle.sve_index.proofs.Parts.{one_after}
use Rattle.sve_index.proofs.gathered.add_element.Goals as goal

pub returns : goal.returns
returns c = one_after (record { definitions = c.args.definitions.now; packages = c.args.packages.now; instantiated = c.args.instantiated.now; roots = c.args.roots.now.items; notes = c.args.notes.now.items }) c.args.source.now
    c.element-element.result.now c.definition_token-definition.result c.package_token.result c.in_ok-is_new.is_new
    c.add_def_at.new.defs c.add_def_at-2.new.defs c.add_instances.new.names
    c.args.roots.now.items c.add_root.new.roots.items c.add_root.new.roots.items
    c.args.notes.now.items c.add_def_at.new.notes.items c.add_def_at-2.new.notes.items c.add_label_notes.new.notes.items c.add_label_notes.new.notes.items
    c.as_slice.result.now c.in_ok-found.found.items c.as_slice-2.result.now c.as_slice-3.result.now
    record {
      element_is = c.element-element.ensures;
      definition_is = c.definition_token-definition.ensures;
      package_is = c.package_token.ensures;
      words_are = c.as_slice.ensures.value;
      found_are = c.in_ok-found.ensures;
      first_are = c.as_slice-2.ensures.value;
      second_are = c.as_slice-3.ensures.value;
    }
    record {
      definitions_are = c.in_ok-is_new.ensures.defs;
      packages_are = c.in_ok-add_def_at.ensures.defs;
      instantiated_are = c.in_ok-add_instances.ensures;
      is_new_is = c.in_ok-is_new.ensures.is_new;
      roots_before = refl;
      roots_then = c.in_ok-add_root.ensures;
      roots_are = refl;
      notes_before = refl;
      notes_first = c.in_ok-is_new.ensures.notes;
      notes_then = c.in_ok-add_def_at.ensures.notes;
      notes_last = c.in_ok-add_label_notes.ensures;
      notes_are = refl;
    }
