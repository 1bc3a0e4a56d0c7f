-- A port is read as a declared name with its type is, but where an interface's modport stands before the name.
use Rattle.std.proofs.Common.{◌≡◌, ℕ, ◌+◌, Bool, true, false, cond, List, [], ◌∷◌, Option, Some, None, Ok, Err, refl, sym as flip, ap, ◌∙◌ as ◌∘◌}
use Rattle.std.specs.Prelude.{◌||◌, ◌&&◌}
use Rattle.std.proofs.lemmas.Bool.{false≢true}
use Rattle.sve_token.specs.declared.kind.Kind.{Kind}
use Rattle.sve_token.specs.declared.kind.Kind.TheVariants.{Identifier, ColonColon, Dot}
use Rattle.sve_token.specs.declared.token.Token.{Token}
use Rattle.sve_grammar.specs.declared.symbol.Symbol.TheVariants.{DataType}
use Rattle.sve_grammar.specs.declared.stop.Stop.{Stop}
use Rattle.sve_grammar.specs.declared.stop.Stop.TheVariants.{At, NoMemory}
use Rattle.sve_grammar.specs.Token.{kind_at, has_kind, same_kind}
use Rattle.sve_grammar.specs.Rule.{Rule, tok, sym, ◌∙◌, ◌∣◌, opt, starts, opens}
use Rattle.sve_grammar.specs.Reading.{Tree, leaf, pair, left, right, Answer, ◌>>=◌, halt, both, with_left, with_right, token, reads, symbol}
use Rattle.sve_grammar.specs.Gives.{Fails}
use Rattle.sve_grammar.specs.Expressions.{signing, dimension, dimensions}
use Rattle.sve_grammar.specs.Types.{declared_name, declared_type, declared_type_end, port_type, port_type_end}
use Rattle.sve_grammar.proofs.Begins.{or_none}
use Rattle.sve_grammar.proofs.Idle.{last_way}
use Rattle.sve_tree.specs.Shape.{way, final}
use Rattle.sve_tree.specs.Types.{ranged_tree, scoped_type_tree, typed_tree}
use Rattle.sve_tree.specs.Declarations.{port_type_tree}
use Rattle.sve_tree.specs.declared.data_type.DeclaredType.{DeclaredType}
use Rattle.sve_tree.specs.declared.data_type.Declarator.{Declarator}
use Rattle.sve_tree.specs.declared.expression.Dimension.{Dimension}
use Rattle.sve_tree.specs.declared.word.PackageScope.{PackageScope}
use Rattle.sve_tree.specs.declared.data_type.DeclaredType.TheVariants as is_declared_type
use Rattle.sve_tree.specs.declared.data_type.TypeRef.TheVariants as is_type_ref
use Rattle.sve_tree.specs.declared.header.PortType.TheVariants as is_port_type

-- ---- the tree of a port, of that of a declared name with its type: behind an identifier one more alternative stands before the last

abbrev in_right : (Tree → Tree) → Tree → Tree
in_right f (right t) = right (f t)
in_right f t = t

abbrev in_second : (Tree → Tree) → Tree → Tree
in_second f (pair t u) = pair t (f u)
in_second f t = t

abbrev later : Tree → Tree
later t = in_right right t

abbrev pub widened : Tree → Tree
widened t = in_right (in_right (in_right (in_second later))) t

abbrev through : (Tree → Tree) → Answer → Answer
through f x = x >>= λ p. Ok (f p.0, p.1)

kept : (f : Tree → Tree) (x : Answer) → through (in_right f) (with_left x) ≡ with_left x
kept f (Ok x) = refl
kept f (Err h) = refl

goes_in : (f : Tree → Tree) (x : Answer) → through (in_right f) (with_right x) ≡ with_right (through f x)
goes_in f (Ok x) = refl
goes_in f (Err h) = refl

later_right : (x : Answer) → through later (with_right x) ≡ with_right (with_right x)
later_right (Ok x) = refl
later_right (Err h) = refl

-- ---- behind an identifier without a dot

scoped : Rule
scoped = tok ColonColon ∙ tok Identifier ∙ dimensions ∙ declared_name

by_modport : Rule
by_modport = tok Dot ∙ tok Identifier ∙ declared_name

by_name : Rule
by_name = dimensions ∙ opt declared_name

ends_agree : (ts : List Token) (n j : ℕ) → has_kind (kind_at ts j) Dot ≡ false
    → reads ts (symbol ts n) port_type_end j ≡ through later (reads ts (symbol ts n) declared_type_end j)
unfolding port_type_end declared_type_end scoped by_modport by_name
ends_agree ts n j d = go (has_kind (kind_at ts j) ColonColon) refl
  where
    go : (b : Bool) → has_kind (kind_at ts j) ColonColon ≡ b → reads ts (symbol ts n) (scoped ∣ by_modport ∣ by_name) j ≡ through later (reads ts (symbol ts n) (scoped ∣ by_name) j)
    go true e = rw e (flip (kept right (reads ts (symbol ts n) scoped j)))
    go false e =
        let no : starts scoped (kind_at ts j) ≡ false = or_none (has_kind (kind_at ts j) ColonColon) ∘ e in
        last_way ts n scoped (by_modport ∣ by_name) j no refl
        ∘ ap with_right (last_way ts n by_modport by_name j (or_none (has_kind (kind_at ts j) Dot) ∘ d) refl)
        ∘ flip (ap (through later) (last_way ts n scoped by_name j no refl) ∘ later_right (reads ts (symbol ts n) by_name j))

names_agree : (ts : List Token) (n i : ℕ) → has_kind (kind_at ts i) Identifier ≡ true → has_kind (kind_at ts (i + 1)) Dot ≡ false
    → reads ts (symbol ts n) (tok Identifier ∙ port_type_end) i ≡ through (in_second later) (reads ts (symbol ts n) (tok Identifier ∙ declared_type_end) i)
unfolding token
names_agree ts n i e d = rw (e, ends_agree ts n (i + 1) d) (inner (reads ts (symbol ts n) declared_type_end (i + 1)))
  where
    inner : (x : Answer) → (through later x >>= λ q. Ok (pair (leaf i) q.0, q.1)) ≡ through (in_second later) (x >>= λ q. Ok (pair (leaf i) q.0, q.1))
    inner (Ok x) = refl
    inner (Err h) = refl

-- ---- the four alternatives

abbrev chosen : Bool → Bool → Bool → Bool → ℕ → Answer → Answer → Answer → Answer → Answer
chosen a b c d i x y z v =
    cond a (with_left x) (cond (b || (c || d)) (with_right
    (cond b (with_left y) (cond (c || d) (with_right
    (cond c (with_left z) (cond d (with_right v) (halt i false)))) (halt i false)))) (halt i false))

chosen_agree : (a b c d : Bool) (i : ℕ) (x y z u v : Answer) → (d ≡ true → v ≡ through (in_second later) u) → chosen a b c d i x y z v ≡ through widened (chosen a b c d i x y z u)
chosen_agree true b c d i x y z u v e = flip (kept _ x)
chosen_agree false true c d i x y z u v e = flip (goes_in _ (with_left y) ∘ ap with_right (kept _ y))
chosen_agree false false true d i x y z u v e = flip (goes_in _ (with_right (with_left z)) ∘ ap with_right (goes_in _ (with_left z) ∘ ap with_right (kept _ z)))
chosen_agree false false false true i x y z u v e =
    ap (λ (w : Answer). with_right (with_right (with_right w))) (e refl)
    ∘ flip (goes_in _ (with_right (with_right u)) ∘ ap with_right (goes_in _ (with_right u) ∘ ap with_right (goes_in _ u)))
chosen_agree false false false false i x y z u v e = refl

-- no interface with a modport stands here
and_false : (a b : Bool) → (a && b) ≡ false → a ≡ true → b ≡ false
and_false true b h e = h
and_false false b h e = absurd (false≢true e)

port_reads : (ts : List Token) (n i : ℕ) → (has_kind (kind_at ts i) Identifier && has_kind (kind_at ts (i + 1)) Dot) ≡ false
    → reads ts (symbol ts n) port_type i ≡ through widened (reads ts (symbol ts n) declared_type i)
unfolding port_type declared_type signing dimension
port_reads ts n i h =
    chosen_agree (opens DataType (kind_at ts i) || false) (starts (signing ∙ dimensions ∙ declared_name) (kind_at ts i)) (starts (dimension ∙ dimensions ∙ declared_name) (kind_at ts i)) (has_kind (kind_at ts i) Identifier || false) i
    (reads ts (symbol ts n) (sym DataType ∙ declared_name) i) (reads ts (symbol ts n) (signing ∙ dimensions ∙ declared_name) i) (reads ts (symbol ts n) (dimension ∙ dimensions ∙ declared_name) i)
    (reads ts (symbol ts n) (tok Identifier ∙ declared_type_end) i) (reads ts (symbol ts n) (tok Identifier ∙ port_type_end) i)
    (λ e. let named = flip (or_none (has_kind (kind_at ts i) Identifier)) ∘ e in names_agree ts n i named (and_false _ _ h named))

port_seen : (t : DeclaredType) (d : Declarator) → port_type_tree (is_port_type.Data t) d ≡ widened (typed_tree t d)
unfolding ranged_tree
port_seen (is_declared_type.Explicit (is_type_ref.Written data_type)) d = refl
port_seen (is_declared_type.Explicit (is_type_ref.Named named)) d = by_scope named.name.scope
  where
    by_scope : (s : Option PackageScope) → final 3 (scoped_type_tree (way 0) (final 2) s named.name.name named.dimensions.items d) ≡ widened (final 3 (scoped_type_tree left right s named.name.name named.dimensions.items d))
    by_scope None = refl
    by_scope (Some scope) = refl
port_seen (is_declared_type.Implicit (Some sign) ranges) d = refl
port_seen (is_declared_type.Implicit None ranges) d = by_list ranges.items
  where
    by_list : (xs : List Dimension) → ranged_tree (final 2) xs d ≡ widened (ranged_tree right xs d)
    by_list [] = refl
    by_list (x ∷ xs) = refl

-- what is read as a declared name with its type is read as a port
pub port_typed : (ts : List Token) (n i j : ℕ) (t : DeclaredType) (d : Declarator) → (has_kind (kind_at ts i) Identifier && has_kind (kind_at ts (i + 1)) Dot) ≡ false
    → reads ts (symbol ts n) declared_type i ≡ Ok (typed_tree t d, j) → reads ts (symbol ts n) port_type i ≡ Ok (port_type_tree (is_port_type.Data t) d, j)
port_typed ts n i j t d h e =
    port_reads ts n i h ∘ ap (through widened) e ∘ ap (λ (u : Tree). let r : Answer = Ok (u, j) in r) (flip (port_seen t d))

-- and where that stops, the port does
pub port_stops : (ts : List Token) (n i : ℕ) (e : Stop) → (has_kind (kind_at ts i) Identifier && has_kind (kind_at ts (i + 1)) Dot) ≡ false
    → Fails e (reads ts (symbol ts n) declared_type i) → Fails e (reads ts (symbol ts n) port_type i)
port_stops ts n i NoMemory h f = tt
port_stops ts n i (At index deep) h f = port_reads ts n i h ∘ ap (through widened) f

-- ---- an interface with a modport

only_last : (k : Option Kind) → has_kind k Identifier ≡ true → (opens DataType k ≡ false) × (starts signing k ≡ false) × (starts dimension k ≡ false)
unfolding opens signing dimension same_kind
only_last None e = absurd (false≢true e)
only_last (Some Identifier) e = (refl, refl, refl)
only_last (Some k) e = absurd (false≢true e)

no_colons : (k : Option Kind) → has_kind k Dot ≡ true → has_kind k ColonColon ≡ false
unfolding same_kind
no_colons None e = absurd (false≢true e)
no_colons (Some Dot) e = refl
no_colons (Some k) e = absurd (false≢true e)

and_true : (a b : Bool) → (a && b) ≡ true → (a ≡ true) × (b ≡ true)
and_true true b h = (refl, h)
and_true false b h = absurd (false≢true h)

modport_end : (ts : List Token) (n j : ℕ) → has_kind (kind_at ts j) Dot ≡ true → reads ts (symbol ts n) port_type_end j ≡ with_right (with_left (reads ts (symbol ts n) by_modport j))
unfolding port_type_end scoped by_modport by_name
modport_end ts n j d =
    last_way ts n scoped (by_modport ∣ by_name) j (or_none (has_kind (kind_at ts j) ColonColon) ∘ no_colons (kind_at ts j) d) refl
    ∘ ap with_right (rw d refl)

chosen_last : (a b c d : Bool) (i : ℕ) (x y z v : Answer) → a ≡ false → b ≡ false → c ≡ false → d ≡ true → chosen a b c d i x y z v ≡ with_right (with_right (with_right v))
chosen_last a b c d i x y z v p q r s = rw (p, q, r, s) refl

-- behind an interface a modport's name and that of the port
pub interface_reads : (ts : List Token) (n i : ℕ) → (has_kind (kind_at ts i) Identifier && has_kind (kind_at ts (i + 1)) Dot) ≡ true
    → reads ts (symbol ts n) port_type i ≡ with_right (with_right (with_right (both (token ts Identifier i) (λ j. with_right (with_left (reads ts (symbol ts n) (tok Dot ∙ tok Identifier ∙ declared_name) j))))))
unfolding port_type token by_modport signing dimension
interface_reads ts n i h =
    let both_here = and_true _ _ h in
    let others = only_last (kind_at ts i) both_here.0 in
    chosen_last (opens DataType (kind_at ts i) || false) (starts (signing ∙ dimensions ∙ declared_name) (kind_at ts i)) (starts (dimension ∙ dimensions ∙ declared_name) (kind_at ts i)) (has_kind (kind_at ts i) Identifier || false) i
    (reads ts (symbol ts n) (sym DataType ∙ declared_name) i) (reads ts (symbol ts n) (signing ∙ dimensions ∙ declared_name) i) (reads ts (symbol ts n) (dimension ∙ dimensions ∙ declared_name) i)
    (reads ts (symbol ts n) (tok Identifier ∙ port_type_end) i)
    (or_none _ ∘ others.0) (or_none _ ∘ others.1) (or_none _ ∘ others.2) (or_none _ ∘ both_here.0)
    ∘ rw (both_here.0, modport_end ts n (i + 1) both_here.1) refl
