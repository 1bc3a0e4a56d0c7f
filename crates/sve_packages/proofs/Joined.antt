-- The packages of a design, from the answers of the calls that find them.
use Rattle.std.proofs.Common.{arith, ◌≡◌, ◌≤◌, ◌∙◌, ℕ, List, [], ◌∷◌, length, map, slice_get, option_map, Option, None, Some, Result, Ok, Err, IfOk, ap}
use Rattle.std.specs.List.{filter_map, fold, cons_option}
use Rattle.std.proofs.lemmas.List.{length-map}
use Rattle.std.proofs.lemmas.Option.{slice_get-map}
use Rattle.sve_package_order.specs.Rounds.{rounds_of}
use Rattle.sve_known.specs.Packages.{Known}
use Rattle.sve_packages.specs.declared.design_package.DesignPackage as code
use Rattle.sve_packages.specs.declared.turn.Turn.{Turn}
use Rattle.sve_packages.specs.Turns.{turns}
use Rattle.sve_packages.specs.Packages.{DesignPackage, PackageText, design_package, imports_of, known_of, packages_named, packages_of, with_package_at, with_turn}

no_more : {X Y : Type 0} (f : X → Option Y) (xs : List X) → length (filter_map f xs) ≤ length xs
no_more f [] = omega arith
no_more {Y = Y} f (x ∷ xs) = by (f x) (filter_map f xs) (no_more f xs)
  where
    by : (o : Option Y) (ys : List Y) → length ys ≤ length xs → length (cons_option o ys) ≤ length (x ∷ xs)
    by None ys h = omega arith
    by (Some y) ys h = omega arith

-- what is found of some of these is no more than they are
pub at_most : {W X Y Z : Type 0} (g : W → Z) (f : Y → Option Z) (h : X → Y) (ws : List W) (xs : List X) → map g ws ≡ filter_map f (map h xs) → length ws ≤ length xs
at_most g f h ws xs e = let l = ap length e in omega (arith, length-map ws g, length-map xs h, no_more f (map h xs))

pub is_whole : (texts : List PackageText) (ps : List DesignPackage) (rounds : List (Option ℕ)) (ts : List Turn) → ps ≡ packages_named texts → rounds ≡ rounds_of (map imports_of ps) → ts ≡ turns rounds → fold (with_turn ps) [] ts ≡ packages_of texts
unfolding packages_of
is_whole texts ps rounds ts named round turn = ap (fold (with_turn ps) []) (turn ∙ ap turns round) ∙ ap known_of named

pub if_ok : {X E : Type 0} {P Q : X → Type 0} (r : Result X E) → ((x : X) → P x → Q x) → IfOk r P → IfOk r Q
if_ok (Ok x) h p = h x p
if_ok (Err e) h p = p

-- the turn of one of these packages
pub at_turn : (ps : List code.DesignPackage) (known : List Known) (t : Turn) (o : Option code.DesignPackage) → slice_get ps t.place ≡ o → with_turn (map design_package ps) known t ≡ with_package_at known t.round (option_map design_package o)
at_turn ps known t o e = ap (with_package_at known t.round) (slice_get-map design_package ps t.place ∙ ap (option_map design_package) e)
