-- Which functions are seen ahead, declaration by declaration.
use Rattle.std.proofs.Common.{◌≡◌, ◌∙◌, sym, subst, ℕ, Bool, true, false, not, ◌||◌, ◌&&◌, cond, List, [], ◌∷◌, Option, None, Some, refl, ap, nat_eq, is_some}
use Rattle.std.specs.Cmp.Lexicographic.{pointwise}
use Rattle.std.specs.List.{fold}
use Rattle.std.specs.Option.{option_or}
use Rattle.sve_table.specs.Tables.{item_of, with_item}
use Rattle.sve_table.proofs.Added.{item_of-with_items, same_name}
use Rattle.sve_scope.specs.declared.declared.Declared.{Declared}
use Rattle.sve_scope.specs.Declarations.{declared_name}
use Rattle.sve_scope.specs.Scopes.{declaration_of, itself}
use Rattle.sve_tree.specs.declared.token_word.Word.{Word}
use Rattle.sve_heading.specs.declared.heading.Heading.{Heading}
use Rattle.sve_heading.specs.Items.{headings}
use Rattle.sve_known.specs.Naming.{name_at}
use Rattle.sve_contents.specs.declared.contents.Contents.{Contents}
use Rattle.sve_package.specs.declared.opening.Opening.{Opening}
use Rattle.sve_package.specs.Opening.{function_at, function_of, is_declared, with_heading, with_name_if, with_named}
use Rattle.sve_package.specs.FirstFunctions.{FirstFunctionsAreAhead, first_of, function_in, is_named}

-- ---- items of tables

nothing_more : {X : Type 0} (o : Option X) → option_or o None ≡ o
nothing_more None = refl
nothing_more (Some x) = refl

there : {X : Type 0} (o : Option X) (x : X) → is_some (option_or o (Some x)) ≡ true
there None x = refl
there (Some y) x = refl

module _ {X : Type 0} (called : X → List ℕ) where
  found : (items : List X) (item : X) (n : List ℕ) → pointwise nat_eq n (called item) ≡ true → item_of called n (with_item called items item) ≡ option_or (item_of called n items) (Some item)
  found items item n e = item_of-with_items called (item ∷ []) items n ∙ ap (λ (b : Bool). option_or (item_of called n items) (cond b (Some item) None)) e

  unfound : (items : List X) (item : X) (n : List ℕ) → pointwise nat_eq n (called item) ≡ false → item_of called n (with_item called items item) ≡ item_of called n items
  unfound items item n e = item_of-with_items called (item ∷ []) items n ∙ ap (λ (b : Bool). option_or (item_of called n items) (cond b (Some item) None)) e ∙ nothing_more (item_of called n items)

-- ---- booleans

or_true : (b : Bool) → (b || true) ≡ true
or_true true = refl
or_true false = refl

or_false : (b : Bool) → (b || false) ≡ b
or_false true = refl
or_false false = refl

abbrev no_declaration : Option Declared
no_declaration = None

neither : (b : Bool) → cond b no_declaration no_declaration ≡ no_declaration
neither true = refl
neither false = refl

-- ---- one declaration more

-- what is seen ahead by a name at the end, where this is the first declaration of it that is left
abbrev rest : List ℕ → Contents → List (List ℕ) → Option Heading → Option Declared
rest n c names r = option_or (declaration_of n c.scope.ahead) (cond (is_declared c.scope names n) None (function_in c n r))

-- behind its first declaration nothing changes
hidden : (n : List ℕ) (c : Contents) (names : List (List ℕ)) (r : Option Heading) → is_some (item_of itself n names) ≡ true → rest n c names r ≡ declaration_of n c.scope.ahead
hidden n c names r e =
    ap (λ (b : Bool). option_or (declaration_of n c.scope.ahead) (cond (is_some (declaration_of n c.scope.declared) || b) None (function_in c n r))) e
    ∙ ap (λ (b : Bool). option_or (declaration_of n c.scope.ahead) (cond b None (function_in c n r))) (or_true (is_some (declaration_of n c.scope.declared)))
    ∙ nothing_more (declaration_of n c.scope.ahead)

-- the first declaration of a name
seen : (n : List ℕ) (c : Contents) (t : ℕ) → pointwise nat_eq n n ≡ true → (f b : Bool)
    → declaration_of n (cond (f && not b) (function_at c t n) c).scope.ahead ≡ option_or (declaration_of n c.scope.ahead) (cond b None (cond f (Some (function_of c t n)) None))
seen n c t e true true = sym (nothing_more (declaration_of n c.scope.ahead))
seen n c t e true false = found declared_name c.scope.ahead (function_of c t n) n e
seen n c t e false true = sym (nothing_more (declaration_of n c.scope.ahead))
seen n c t e false false = sym (nothing_more (declaration_of n c.scope.ahead))

same : (n : List ℕ) (o : Opening) (h : Heading) (r : Option Heading) → pointwise nat_eq n n ≡ true
    → rest n (with_named o h n).contents (with_named o h n).names r ≡ rest n o.contents o.names (Some h)
same n o h r e =
    hidden n (with_named o h n).contents (with_named o h n).names r (ap (λ (x : Option (List ℕ)). is_some x) (found itself o.names n n e) ∙ there (item_of itself n o.names) n)
    ∙ seen n o.contents h.token e h.is_function (is_declared o.contents.scope o.names n)

-- a declaration of another name
alike : (n m : List ℕ) (c : Contents) (t : ℕ) (r : Option Heading) → function_in (function_at c t m) n r ≡ function_in c n r
alike n m c t None = refl
alike n m c t (Some h) = refl

passed : (n m : List ℕ) (c : Contents) (names : List (List ℕ)) (t : ℕ) (r : Option Heading) → pointwise nat_eq n m ≡ false → (f : Bool)
    → rest n (cond f (function_at c t m) c) names r ≡ rest n c names r
passed n m c names t r e true =
    ap (λ (x : Option Declared). option_or x (cond (is_declared c.scope names n) None (function_in (function_at c t m) n r))) (unfound declared_name c.scope.ahead (function_of c t m) n e)
    ∙ ap (λ (x : Option Declared). option_or (declaration_of n c.scope.ahead) (cond (is_declared c.scope names n) None x)) (alike n m c t r)
passed n m c names t r e false = refl

other : (n m : List ℕ) (o : Opening) (h : Heading) (r : Option Heading) → pointwise nat_eq n m ≡ false
    → rest n (with_named o h m).contents (with_named o h m).names r ≡ rest n o.contents o.names r
other n m o h r e =
    let c : Contents = (with_named o h m).contents in
    ap (λ (x : Option (List ℕ)). option_or (declaration_of n c.scope.ahead) (cond (is_some (declaration_of n c.scope.declared) || is_some x) None (function_in c n r))) (unfound itself o.names m n e)
    ∙ passed n m o.contents o.names h.token r e (h.is_function && not (is_declared o.contents.scope o.names m))

step : (n : List ℕ) (o : Opening) (h : Heading) (r : Option Heading) (m : Option (List ℕ))
    → rest n (with_name_if o h m).contents (with_name_if o h m).names r ≡ rest n o.contents o.names (cond (is_named n m) (Some h) r)
step n o h r None = refl
step n o h r (Some m) =
    elim (pointwise nat_eq n m) as (λ v. pointwise nat_eq n m ≡ v → rest n (with_named o h m).contents (with_named o h m).names r ≡ rest n o.contents o.names (cond v (Some h) r)) [
      | true ↦ λ e. let q : n ≡ m = same_name n m e in
          subst (λ (k : List ℕ). rest n (with_named o h k).contents (with_named o h k).names r ≡ rest n o.contents o.names (Some h)) q
          (same n o h r (subst (λ (k : List ℕ). pointwise nat_eq n k ≡ true) (sym q) e))
      | false ↦ λ e. other n m o h r e
    ] refl

-- ---- all of them

ahead_of : (ws : List Word) (n : List ℕ) (hs : List Heading) (o : Opening) → declaration_of n (fold (with_heading ws) o hs).contents.scope.ahead ≡ rest n o.contents o.names (first_of ws n hs)
ahead_of ws n [] o =
    sym (ap (λ (x : Option Declared). option_or (declaration_of n o.contents.scope.ahead) x) (neither (is_declared o.contents.scope o.names n)) ∙ nothing_more (declaration_of n o.contents.scope.ahead))
ahead_of ws n (h ∷ hs) o = ahead_of ws n hs (with_heading ws o h) ∙ step n o h (first_of ws n hs) (name_at ws h.token)

pub first_functions : FirstFunctionsAreAhead
first_functions ws c items n =
    ahead_of ws n (headings items) (record { contents = c; names = [] })
    ∙ ap (λ (b : Bool). option_or (declaration_of n c.scope.ahead) (cond b None (function_in c n (first_of ws n (headings items))))) (or_false (is_some (declaration_of n c.scope.declared)))
