use Rattle.std.proofs.Common.{◌≡◌, ◌+◌, ◌<◌, ℕ, List, [], ◌∷◌, length, map, drop, sym, ap, subst, ◌∙◌, arith}
use Rattle.std.specs.List.{flat_map}
use Rattle.std.proofs.lemmas.List.{drop_all}
use Rattle.sve_table.specs.Tables.{with_item, with_items, table_of}
use Rattle.sve_front.specs.declared.unit.Unit.{Unit}
use Rattle.sve_front.specs.Diagnostics.{unit_diags}
use Rattle.sve_front.specs.Elements.{AreElementsOf}
use Rattle.sve_front.specs.Readings.{AreUnitsOf, file_of, itself}
use Rattle.sve_front.proofs.Names.{name_then}
use Rattle.sve_front.proofs.Held.{are_cut, names_go_on, units_after}
use Rattle.sve_front.proofs.Additions.{ends, gives_on, units_go_on}
use Rattle.sve_front.proofs.reading.read_units.Goals as goal

pub units-preserved : goal.units-preserved
units-preserved c =
    let rows = c.args.files.now.rows in
    let names = c.deref-name-items.result.now in
    let i = c.units.name-index in
    let name = c.name-item.result in
    let within : i < length names = omega (arith, c.units-test.true, c.units.auto.name-index-end) in
    let here : drop i names ≡ name ∷ drop (i + 1) names = name_then names i name within c.name-item.is in
    let table : c.add.new.self ≡ with_item file_of c.units.units c.in_ok-unit.unit = c.in_ok-add.ensures.table in
    record {
      elements = units_go_on rows names i name [] c.units.elements.items c.read_unit.new.elements.items here c.units.invariant.elements c.in_ok-unit.ensures.elements;
      diags = gives_on (unit_diags rows) names i name (flat_map (unit_diags rows) names) c.units.diags.items c.read_unit.new.diags.items here c.units.invariant.diags c.in_ok-unit.ensures.diags;
      units = subst (AreUnitsOf rows) (sym table) (units_after rows c.units.units c.in_ok-unit.unit c.units.invariant.units c.in_ok-unit.ensures.unit);
      names =
          subst (λ (us : List Unit). with_items itself (map file_of us) (drop (i + 1) names) ≡ table_of itself names) (sym table)
          (names_go_on names i name c.units.units c.in_ok-unit.unit (table_of itself names) here c.in_ok-unit.ensures.file c.units.invariant.names);
    }

pub returns-clause-elements : goal.returns-clause-elements
returns-clause-elements c =
    let rows = c.args.files.now.rows in
    let names = c.deref-name-items.result.now in
    let none : drop c.units.name-index names ≡ [] = drop_all c.units.name-index names (omega (arith, c.units-test.false, c.units.auto.name-index-end)) in
    let all =
    ends (AreElementsOf rows names) (AreElementsOf rows (drop c.units.name-index names)) [] c.units.elements.items c.units.invariant.elements
    (subst (λ (l : List (List ℕ)). AreElementsOf rows l []) (sym none) AreElementsOf.no_unit) in
    subst (λ (l : List (List ℕ)). AreElementsOf rows l c.units.elements.items) (c.deref-name-items.ensures.value ∙ c.in_ok-names.ensures) (subst (AreElementsOf rows names) (sym all.1) all.2)

pub returns-clause-units : goal.returns-clause-units
returns-clause-units c =
    let rows = c.args.files.now.rows in
    let names = c.deref-name-items.result.now in
    let none : drop c.units.name-index names ≡ [] = drop_all c.units.name-index names (omega (arith, c.units-test.false, c.units.auto.name-index-end)) in
    record {
      names =
          sym (ap (λ (l : List (List ℕ)). with_items itself (map file_of c.units.units) l) none)
          ∙ c.units.invariant.names
          ∙ ap (table_of itself) (c.deref-name-items.ensures.value ∙ c.in_ok-names.ensures);
      each = c.units.invariant.units;
    }

pub returns-clause-cut : goal.returns-clause-cut
returns-clause-cut c = are_cut c.args.files.now.rows c.units.units c.units.invariant.units
