-- Names and their places.
use Rattle.std.proofs.Common.{arith, ◌≡◌, ◌∙◌, ◌+◌, ℕ, suc, Bool, true, false, List, [], ◌∷◌, slice_get, Option, None, Some, refl, ap, nat_eq, option_map, cond, map}
use Rattle.std.proofs.Math.Path.{fun_ext}
use Rattle.std.specs.List.{filter_map}
use Rattle.std.specs.Cmp.Lexicographic.{pointwise}
use Rattle.sve_table.specs.Tables.{item_of, table_of}
use Rattle.sve_table.proofs.Added.{first_of_its_name}
use Rattle.sve_package_order.specs.declared.package_imports.PackageImports.{PackageImports}
use Rattle.sve_package_order.specs.declared.graph.Place.{Place}
use Rattle.sve_package_order.specs.Rounds.{package_name}
use Rattle.sve_package_order.specs.Graph.{graph_of, numbered, place_in, place_name, place_of}

abbrev number : Option Place → Option ℕ
number o = option_map (λ (p : Place). p.at) o

in_numbered : (name : List ℕ) (k : ℕ) (ps : List PackageImports) → number (item_of place_name name (numbered k ps)) ≡ place_in name k ps
in_numbered name k [] = refl
in_numbered name k (p ∷ ps) = by (pointwise nat_eq name p.name) (in_numbered name (k + 1) ps)
  where
    by : (b : Bool) → number (item_of place_name name (numbered (k + 1) ps)) ≡ place_in name (k + 1) ps
        → number (cond b (Some (record { name = p.name; at = k })) (item_of place_name name (numbered (k + 1) ps))) ≡ cond b (Some k) (place_in name (k + 1) ps)
    by true rest = refl
    by false rest = rest

-- the place that the table tells
pub place_is : (name : List ℕ) (ps : List PackageImports) → number (item_of place_name name (table_of place_name (numbered 0 ps))) ≡ place_of ps name
place_is name ps = ap number (first_of_its_name place_name (numbered 0 ps) name) ∙ in_numbered name 0 ps

-- a name without a place is that of no package
pub none_named : (name : List ℕ) (k : ℕ) (ps : List PackageImports) → place_in name k ps ≡ None → item_of package_name name ps ≡ None
none_named name k [] e = refl
none_named name k (p ∷ ps) e = by (pointwise nat_eq name p.name) refl (none_named name (k + 1) ps)
  where
    by : (b : Bool) → pointwise nat_eq name p.name ≡ b → (place_in name (k + 1) ps ≡ None → item_of package_name name ps ≡ None)
        → cond (pointwise nat_eq name p.name) (Some p) (item_of package_name name ps) ≡ None
    by true h rest = let t : Some k ≡ None = rw h at e in cc
    by false h rest = rw h (rest (rw h at e))

-- a name with a place is that of the package there
pub one_named : (name : List ℕ) (k : ℕ) (ps : List PackageImports) (j : ℕ) → place_in name k ps ≡ Some j
    → (i : ℕ) × (p : PackageImports) × (j ≡ k + i) × (slice_get ps i ≡ Some p) × (item_of package_name name ps ≡ Some p)
one_named name k [] j e = cc
one_named name k (p ∷ ps) j e = by (pointwise nat_eq name p.name) refl (one_named name (k + 1) ps j)
  where
    by : (b : Bool) → pointwise nat_eq name p.name ≡ b
        → (place_in name (k + 1) ps ≡ Some j → (i : ℕ) × (q : PackageImports) × (j ≡ k + 1 + i) × (slice_get ps i ≡ Some q) × (item_of package_name name ps ≡ Some q))
        → (i : ℕ) × (q : PackageImports) × (j ≡ k + i) × (slice_get (p ∷ ps) i ≡ Some q) × (cond (pointwise nat_eq name p.name) (Some p) (item_of package_name name ps) ≡ Some q)
    by true h rest =
        let t : Some k ≡ Some j = rw h at e in
        let same : k ≡ j = cc in
        (0, p, omega arith, refl, rw h refl)
    by false h rest =
        let r = rest (rw h at e) in
        (suc r.0, r.1, omega (arith, r.2), r.3, rw h r.4)

-- what a package imports, by the table's answers
abbrev pub told_places : List PackageImports → PackageImports → List ℕ
told_places ps p = filter_map (λ name. option_map (λ (q : Place). q.at) (item_of place_name name (table_of place_name (numbered 0 ps)))) p.imports

pub same_graph : (ps : List PackageImports) → map (told_places ps) ps ≡ graph_of ps
same_graph ps = ap (λ (f : List ℕ → Option ℕ). map (λ (p : PackageImports). filter_map f p.imports) ps) (fun_ext (λ name. place_is name ps))
