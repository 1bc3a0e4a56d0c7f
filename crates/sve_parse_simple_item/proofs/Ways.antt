-- Which alternative of an item that begins with a name is read, by what stands behind its names.
use Rattle.std.proofs.Common.{◌≡◌, ℕ, Bool, true, false, List, [], ◌∷◌, length, Option, Some, None, Ok, Err, refl, sym as flip, ap, ◌∙◌ as ◌∘◌}
use Rattle.std.specs.Prelude.{◌||◌, ◌&&◌, not}
use Rattle.std.proofs.lemmas.Bool.{false≢true}
use Rattle.sve_token.specs.declared.kind.Kind.{Kind}
use Rattle.sve_token.specs.declared.kind.Kind.TheVariants.{Identifier, Hash, ColonColon, LeftBracket, LeftParen, Semicolon}
use Rattle.sve_token.specs.declared.token.Token.{Token}
use Rattle.sve_grammar.specs.Token.{kind_at, has_kind, same_kind}
use Rattle.sve_grammar.specs.Rule.{Rule, tok, ◌∙◌, ◌∣◌, starts, empties, opens}
use Rattle.sve_grammar.specs.Reading.{Tree, leaf, pair, turn, ended, Answer, ◌>>=◌, with_left, with_right, both, turns, reads, symbol}
use Rattle.sve_grammar.specs.Expressions.{dimension, dimensions, argument_list}
use Rattle.sve_grammar.specs.Types.{net_type, parameter_keyword, declared_name, declaration_end}
use Rattle.sve_grammar.specs.Declarations.{import_declaration, parameter_declaration, type_declaration, net_declaration, variable_declaration, data_declaration}
use Rattle.sve_grammar.specs.Statements.{function_declaration, system_task}
use Rattle.sve_grammar.specs.Items.{genvar_declaration, continuous_assign, clocked_keyword, clocked_procedure, plain_keyword, plain_procedure, generate_region, loop_generate, if_generate, case_generate, modport_declaration, instance, more_instances, instances_or_variables, named_item, item}
use Rattle.sve_grammar.proofs.Idle.{first_way, last_way}
use Rattle.sve_grammar.proofs.Loops.{many_goes}
use Rattle.sve_grammar.proofs.StartsOfExpressions.{dimension_starts, dimension_full, argument_list_starts, argument_list_full}
use Rattle.sve_tree.specs.Shape.{◌▸◌, way, repeated_tree}
use Rattle.sve_tree.specs.Expressions.{dimension_tree}
use Rattle.sve_tree.specs.Types.{declarator_tree}
use Rattle.sve_tree.specs.Declarations.{first_declarator, declaration_end_tree}
use Rattle.sve_tree.specs.Items.{named_data_tree}
use Rattle.sve_tree.specs.declared.row.Row.{Row}
use Rattle.sve_tree.specs.declared.declaration.InitializedDeclarator.{InitializedDeclarator}
use Rattle.sve_tree.specs.declared.expression.Dimension.{Dimension}
use Rattle.sve_parse_expr.specs.Alternatives.{last_alternative}

-- ---- alternatives that no token of a kind begins

-- alternatives in their order, in front of the last
abbrev ahead : List Rule → Rule → Rule
ahead [] last = last
ahead (r ∷ rs) last = r ∣ ahead rs last

-- none of the rules begins with this kind, and none can be empty
abbrev passes : Option Kind → List Rule → Bool
passes k [] = true
passes k (r ∷ rs) = not (starts r k || empties r) && passes k rs

parts_pass : (begins empty others : Bool) → (not (begins || empty) && others) ≡ true → (begins ≡ false) × (empty ≡ false) × (others ≡ true)
parts_pass false false others h = (refl, refl, h)
parts_pass false true others h = absurd (false≢true h)
parts_pass true empty others h = absurd (false≢true h)

-- the alternatives of an item that begin with no name
abbrev unnamed : List Rule
unnamed =
    tok Semicolon ∷ import_declaration ∷ parameter_declaration ∷ type_declaration ∷ function_declaration ∷ genvar_declaration ∷ net_declaration
    ∷ variable_declaration ∷ data_declaration ∷ continuous_assign ∷ clocked_procedure ∷ plain_procedure ∷ generate_region ∷ loop_generate
    ∷ if_generate ∷ case_generate ∷ modport_declaration ∷ system_task ∷ []

unnamed_pass : (k : Option Kind) → has_kind k Identifier ≡ true → passes k unnamed ≡ true
unfolding opens same_kind import_declaration parameter_declaration parameter_keyword type_declaration function_declaration genvar_declaration net_declaration net_type variable_declaration data_declaration continuous_assign clocked_procedure clocked_keyword plain_procedure plain_keyword generate_region loop_generate if_generate case_generate modport_declaration system_task
unnamed_pass None e = absurd (false≢true e)
unnamed_pass (Some Identifier) e = refl
unnamed_pass (Some k) e = absurd (false≢true e)

colons_pass : (k : Option Kind) → has_kind k ColonColon ≡ true → has_kind k Hash ≡ false
unfolding same_kind
colons_pass None e = refl
colons_pass (Some ColonColon) e = refl
colons_pass (Some k) e = absurd (false≢true e)

bracket_pass : (k : Option Kind) → has_kind k LeftBracket ≡ true → (has_kind k Hash ≡ false) × (has_kind k ColonColon ≡ false)
unfolding same_kind
bracket_pass None e = (refl, refl)
bracket_pass (Some LeftBracket) e = (refl, refl)
bracket_pass (Some k) e = absurd (false≢true e)

-- ---- one at least, seen as the first and the others

abbrev through : (Tree → Tree) → Answer → Answer
through f x = x >>= λ p. Ok (f p.0, p.1)

-- the first turn stands by itself
abbrev pub first_apart : Tree → Tree
first_apart (pair (turn t ts) u) = pair t (pair ts u)
first_apart t = t

-- a tree in front of what is read, and a turn in front of it
abbrev behind : Tree → Answer → Answer
behind t x = x >>= λ p. Ok (pair t p.0, p.1)

abbrev turned : Tree → Answer → Answer
turned t x = x >>= λ p. Ok (turn t p.0, p.1)

turn_apart : (x : Answer) (f g : ℕ → Answer) → both x (λ j. both (f j) g) ≡ through first_apart (both (turns x f) g)
turn_apart (Err h) f g = refl
turn_apart (Ok p) f g = second (f p.1)
  where
    third : (q : Tree × ℕ) (z : Answer) → behind p.0 (behind q.0 z) ≡ through first_apart (behind (turn p.0 q.0) z)
    third q (Ok r) = refl
    third q (Err h) = refl

    second : (y : Answer) → behind p.0 (both y g) ≡ through first_apart (both (turned p.0 y) g)
    second (Ok q) = third q (g q.1)
    second (Err h) = refl

abbrev is_ended : Tree → Bool
is_ended ended = true
is_ended t = false

abbrev gives_ended : Answer → Bool
gives_ended (Ok x) = is_ended x.0
gives_ended (Err h) = false

not_ended : (x : Answer) (f : ℕ → Answer) → gives_ended (turns x f) ≡ false
not_ended (Err h) f = refl
not_ended (Ok p) f = go (f p.1)
  where
    go : (y : Answer) → gives_ended (turned p.0 y) ≡ false
    go (Ok q) = refl
    go (Err h) = refl

-- where a turn is taken, there is one at least
no_turn : (x : Answer) (f : ℕ → Answer) (j : ℕ) → turns x f ≡ Ok (ended, j) → ⊥
no_turn x f j e = false≢true (flip (not_ended x f) ∘ ap gives_ended e)

-- the alternatives of what stands behind the name at the front of an item
abbrev overridden : Rule
overridden = tok Hash ∙ argument_list ∙ instance ∙ more_instances ∙ tok Semicolon

abbrev named_variables : Rule
named_variables = declared_name ∙ declaration_end ∙ tok Semicolon

abbrev of_package : Rule
of_package = tok ColonColon ∙ tok Identifier ∙ dimensions ∙ named_variables

abbrev ranged : Rule
ranged = dimension ∙ dimensions ∙ named_variables

abbrev twice_named : Rule
twice_named = tok Identifier ∙ instances_or_variables

module _ (ts : List Token) (n i : ℕ) where
  -- what is read here by a rule
  abbrev Reads : Rule → Answer
  Reads r = reads ts (symbol ts n) r i

  passed : (rs : List Rule) (last : Rule) → passes (kind_at ts i) rs ≡ true → Reads (ahead rs last) ≡ last_alternative (length rs) (Reads last)
  passed [] last h = refl
  passed (r ∷ rs) last h =
      let p = parts_pass (starts r (kind_at ts i)) (empties r) (passes (kind_at ts i) rs) h in
      last_way ts n r (ahead rs last) i p.0 p.1 ∘ ap with_right (passed rs last p.2)

  -- ---- an item that begins with a name

  pub item_way : has_kind (kind_at ts i) Identifier ≡ true → Reads item ≡ last_alternative 18 (Reads (tok Identifier ∙ named_item))
  unfolding item
  item_way h = passed unnamed (tok Identifier ∙ named_item) (unnamed_pass (kind_at ts i) h)

  pub overridden_way : has_kind (kind_at ts i) Hash ≡ true → Reads named_item ≡ with_left (Reads overridden)
  unfolding named_item
  overridden_way h = first_way ts n overridden (of_package ∣ ranged ∣ twice_named) i (rw h refl)

  pub package_way : has_kind (kind_at ts i) ColonColon ≡ true → Reads named_item ≡ with_right (with_left (Reads of_package))
  unfolding named_item
  package_way h =
      passed (overridden ∷ []) (of_package ∣ ranged ∣ twice_named) (rw (colons_pass (kind_at ts i) h) refl)
      ∘ ap with_right (first_way ts n of_package (ranged ∣ twice_named) i (rw h refl))

  pub twice_named_way : has_kind (kind_at ts i) Hash ≡ false → has_kind (kind_at ts i) ColonColon ≡ false → has_kind (kind_at ts i) LeftBracket ≡ false
      → Reads named_item ≡ last_alternative 3 (Reads twice_named)
  unfolding named_item
  twice_named_way h c b =
      passed (overridden ∷ of_package ∷ ranged ∷ []) twice_named (rw (h, c, dimension_starts (kind_at ts i) ∘ b, dimension_full) refl)

  -- ---- packed dimensions, of which one stands here

  one_turn : has_kind (kind_at ts i) LeftBracket ≡ true → Reads dimensions ≡ turns (Reads dimension) (reads ts (symbol ts n) dimensions)
  unfolding dimensions
  one_turn h = many_goes ts n dimension i ∘ rw (dimension_starts (kind_at ts i) ∘ h) refl

  pub ranged_way : has_kind (kind_at ts i) LeftBracket ≡ true → Reads named_item ≡ with_right (with_right (with_left (through first_apart (Reads (dimensions ∙ named_variables)))))
  unfolding named_item
  ranged_way h =
      let no = bracket_pass (kind_at ts i) h in
      passed (overridden ∷ of_package ∷ []) (ranged ∣ twice_named) (rw (no.0, no.1) refl)
      ∘ ap with_right (ap with_right (first_way ts n ranged twice_named i (rw (dimension_starts (kind_at ts i) ∘ h) refl)
      ∘ ap with_left (turn_apart (Reads dimension) (reads ts (symbol ts n) dimensions) (reads ts (symbol ts n) named_variables)
      ∘ ap (λ (x : Answer). through first_apart (both x (reads ts (symbol ts n) named_variables))) (flip (one_turn h)))))

  pub ranged_tree : (xs : List Dimension) (j : ℕ) (row : Row InitializedDeclarator ℕ) (semicolon : ℕ) → has_kind (kind_at ts i) LeftBracket ≡ true → Reads dimensions ≡ Ok (repeated_tree dimension_tree xs, j)
      → named_data_tree xs row semicolon ≡ way 2 (first_apart (repeated_tree dimension_tree xs ▸ first_declarator declarator_tree row ▸ declaration_end_tree row ▸ leaf semicolon))
  unfolding repeated_tree named_data_tree
  ranged_tree [] j row semicolon h e = absurd (no_turn (Reads dimension) (reads ts (symbol ts n) dimensions) j (flip (one_turn h) ∘ e))
  ranged_tree (x ∷ xs) j row semicolon h e = refl

  -- ---- behind two names

  pub instances_way : has_kind (kind_at ts i) LeftParen ≡ true → Reads instances_or_variables ≡ with_left (Reads (argument_list ∙ more_instances ∙ tok Semicolon))
  unfolding instances_or_variables
  instances_way h = first_way ts n (argument_list ∙ more_instances ∙ tok Semicolon) (dimensions ∙ declaration_end ∙ tok Semicolon) i (rw (argument_list_starts (kind_at ts i) ∘ h) refl)

  pub variables_way : has_kind (kind_at ts i) LeftParen ≡ false → Reads instances_or_variables ≡ with_right (Reads (dimensions ∙ declaration_end ∙ tok Semicolon))
  unfolding instances_or_variables
  variables_way h =
      last_way ts n (argument_list ∙ more_instances ∙ tok Semicolon) (dimensions ∙ declaration_end ∙ tok Semicolon) i (rw (argument_list_starts (kind_at ts i) ∘ h, argument_list_full) refl) (rw argument_list_full refl)
