-- Which alternative of a type is read, by what begins here.
use Rattle.std.proofs.Common.{◌≡◌, ℕ, true, false, List, Option, Some, None, Ok, refl, ap, ◌∙◌ as ◌∘◌}
use Rattle.std.proofs.lemmas.Bool.{false≢true}
use Rattle.sve_token.specs.declared.kind.Kind.{Kind}
use Rattle.sve_token.specs.declared.kind.Kind.TheVariants.{Keyword, Identifier}
use Rattle.sve_token.specs.declared.keywords.Keyword.TheVariants.{KwString, KwEnum, KwStruct}
use Rattle.sve_token.specs.declared.token.Token.{Token}
use Rattle.sve_grammar.specs.declared.symbol.Symbol.TheVariants.{DataType}
use Rattle.sve_grammar.specs.Token.{kind_at, has_kind, same_kind}
use Rattle.sve_grammar.specs.Rule.{Rule, sym, ◌∣◌, nothing, opt, word, starts, opens}
use Rattle.sve_grammar.specs.Reading.{Answer, none, right, halt, with_left, with_right, reads, symbol}
use Rattle.sve_grammar.specs.Expressions.{integer_atom_type, integer_vector_type}
use Rattle.sve_grammar.specs.Types.{atom_type, vector_type, enumeration, structure, data_type, enum_base, named_type, type_reference}
use Rattle.sve_grammar.proofs.Idle.{first_way, last_way, stops_here}
use Rattle.sve_grammar.proofs.StartsOfTypes.{atom_type_begins, atom_type_full, vector_type_begins, vector_type_full, enumeration_starts, enumeration_full, structure_starts, structure_full, named_type_starts, enum_base_full}

module _ (ts : List Token) (n i : ℕ) where
  -- what is read here by a rule, and whether it begins
  abbrev Reads : Rule → Answer
  Reads r = reads ts (symbol ts n) r i

  abbrev Lacks : Rule → Type 0
  Lacks r = starts r (kind_at ts i) ≡ false

  no_atom : Lacks integer_atom_type → Lacks atom_type
  no_atom a = atom_type_begins (kind_at ts i) ∘ a

  no_vector : Lacks integer_vector_type → Lacks vector_type
  no_vector v = vector_type_begins (kind_at ts i) ∘ v

  -- ---- a type that begins with a keyword

  pub plain_atom : starts integer_atom_type (kind_at ts i) ≡ true → Reads data_type ≡ with_left (Reads atom_type)
  unfolding data_type
  plain_atom h = first_way ts n atom_type (vector_type ∣ word KwString ∣ enumeration ∣ structure) i (atom_type_begins (kind_at ts i) ∘ h)

  behind_atom : Lacks integer_atom_type → Reads data_type ≡ with_right (Reads (vector_type ∣ word KwString ∣ enumeration ∣ structure))
  unfolding data_type
  behind_atom a = last_way ts n atom_type (vector_type ∣ word KwString ∣ enumeration ∣ structure) i (no_atom a) atom_type_full

  pub plain_vector : Lacks integer_atom_type → starts integer_vector_type (kind_at ts i) ≡ true → Reads data_type ≡ with_right (with_left (Reads vector_type))
  plain_vector a h = behind_atom a ∘ ap with_right (first_way ts n vector_type (word KwString ∣ enumeration ∣ structure) i (vector_type_begins (kind_at ts i) ∘ h))

  behind_vector : Lacks integer_atom_type → Lacks integer_vector_type → Reads data_type ≡ with_right (with_right (Reads (word KwString ∣ enumeration ∣ structure)))
  behind_vector a v = behind_atom a ∘ ap with_right (last_way ts n vector_type (word KwString ∣ enumeration ∣ structure) i (no_vector v) vector_type_full)

  pub plain_text : Lacks integer_atom_type → Lacks integer_vector_type → has_kind (kind_at ts i) (Keyword KwString) ≡ true → Reads data_type ≡ with_right (with_right (with_left (Reads (word KwString))))
  plain_text a v h = behind_vector a v ∘ ap with_right (ap with_right (first_way ts n (word KwString) (enumeration ∣ structure) i h))

  behind_text : Lacks integer_atom_type → Lacks integer_vector_type → Lacks (word KwString) → Reads data_type ≡ with_right (with_right (with_right (Reads (enumeration ∣ structure))))
  behind_text a v s = behind_vector a v ∘ ap with_right (ap with_right (last_way ts n (word KwString) (enumeration ∣ structure) i s refl))

  pub plain_enum : Lacks integer_atom_type → Lacks integer_vector_type → Lacks (word KwString) → has_kind (kind_at ts i) (Keyword KwEnum) ≡ true
      → Reads data_type ≡ with_right (with_right (with_right (with_left (Reads enumeration))))
  plain_enum a v s h = behind_text a v s ∘ ap with_right (ap with_right (ap with_right (first_way ts n enumeration structure i (enumeration_starts (kind_at ts i) ∘ h))))

  behind_enum : Lacks integer_atom_type → Lacks integer_vector_type → Lacks (word KwString) → has_kind (kind_at ts i) (Keyword KwEnum) ≡ false
      → Reads data_type ≡ with_right (with_right (with_right (with_right (Reads structure))))
  behind_enum a v s e = behind_text a v s ∘ ap with_right (ap with_right (ap with_right (last_way ts n enumeration structure i (enumeration_starts (kind_at ts i) ∘ e) enumeration_full)))

  pub plain_stops : Lacks integer_atom_type → Lacks integer_vector_type → Lacks (word KwString) → has_kind (kind_at ts i) (Keyword KwEnum) ≡ false → has_kind (kind_at ts i) (Keyword KwStruct) ≡ false
      → Reads data_type ≡ halt i false
  plain_stops a v s e h = behind_enum a v s e ∘ rw (stops_here ts n structure i (structure_starts (kind_at ts i) ∘ h) structure_full) refl

  -- ---- the base of an enumeration

  in_base : starts enum_base (kind_at ts i) ≡ true → Reads (opt enum_base) ≡ with_left (Reads enum_base)
  in_base h = first_way ts n enum_base nothing i h

  pub base_atom : starts integer_atom_type (kind_at ts i) ≡ true → Reads (opt enum_base) ≡ with_left (with_left (Reads atom_type))
  unfolding enum_base
  base_atom h =
      let begins : starts atom_type (kind_at ts i) ≡ true = atom_type_begins (kind_at ts i) ∘ h in
      in_base (rw begins refl) ∘ ap with_left (first_way ts n atom_type (vector_type ∣ named_type) i begins)

  pub base_vector : Lacks integer_atom_type → starts integer_vector_type (kind_at ts i) ≡ true → Reads (opt enum_base) ≡ with_left (with_right (with_left (Reads vector_type)))
  unfolding enum_base
  base_vector a h =
      let begins : starts vector_type (kind_at ts i) ≡ true = vector_type_begins (kind_at ts i) ∘ h in
      in_base (rw (no_atom a, begins) refl)
      ∘ ap with_left (last_way ts n atom_type (vector_type ∣ named_type) i (no_atom a) atom_type_full ∘ ap with_right (first_way ts n vector_type named_type i begins))

  pub base_named : Lacks integer_atom_type → Lacks integer_vector_type → has_kind (kind_at ts i) Identifier ≡ true → Reads (opt enum_base) ≡ with_left (with_right (with_right (Reads named_type)))
  unfolding enum_base
  base_named a v h =
      let begins : starts named_type (kind_at ts i) ≡ true = named_type_starts (kind_at ts i) ∘ h in
      in_base (rw (no_atom a, no_vector v, begins) refl)
      ∘ ap with_left (last_way ts n atom_type (vector_type ∣ named_type) i (no_atom a) atom_type_full ∘ ap with_right (last_way ts n vector_type named_type i (no_vector v) vector_type_full))

  pub base_none : Lacks integer_atom_type → Lacks integer_vector_type → has_kind (kind_at ts i) Identifier ≡ false → Reads (opt enum_base) ≡ Ok (right none, i)
  unfolding enum_base
  base_none a v h = last_way ts n enum_base nothing i (rw (no_atom a, no_vector v, named_type_starts (kind_at ts i) ∘ h) refl) enum_base_full

no_other : (k : Option Kind) → has_kind k (Keyword KwStruct) ≡ true → (starts atom_type k ≡ false) × (starts vector_type k ≡ false) × (has_kind k (Keyword KwString) ≡ false) × (starts enumeration k ≡ false)
unfolding atom_type integer_atom_type vector_type integer_vector_type enumeration same_kind
no_other None e = absurd (false≢true e)
no_other (Some (Keyword KwStruct)) e = (refl, refl, refl, refl)
no_other (Some k) e = absurd (false≢true e)

-- `struct` begins no type but a structure
pub structure_way : (ts : List Token) (n i : ℕ) → has_kind (kind_at ts i) (Keyword KwStruct) ≡ true
    → reads ts (symbol ts n) data_type i ≡ with_right (with_right (with_right (with_right (reads ts (symbol ts n) structure i))))
unfolding data_type
structure_way ts n i h =
    let no = no_other (kind_at ts i) h in
    last_way ts n atom_type (vector_type ∣ word KwString ∣ enumeration ∣ structure) i no.0 atom_type_full
    ∘ ap with_right (last_way ts n vector_type (word KwString ∣ enumeration ∣ structure) i no.1 vector_type_full
    ∘ ap with_right (last_way ts n (word KwString) (enumeration ∣ structure) i no.2 refl
    ∘ ap with_right (last_way ts n enumeration structure i no.3 enumeration_full)))

pub written_way : (ts : List Token) (n i : ℕ) → opens DataType (kind_at ts i) ≡ true → reads ts (symbol ts n) type_reference i ≡ with_left (reads ts (symbol ts n) (sym DataType) i)
unfolding type_reference
written_way ts n i h = first_way ts n (sym DataType) named_type i h

pub named_way : (ts : List Token) (n i : ℕ) → opens DataType (kind_at ts i) ≡ false → reads ts (symbol ts n) type_reference i ≡ with_right (reads ts (symbol ts n) named_type i)
unfolding type_reference
named_way ts n i h = last_way ts n (sym DataType) named_type i h refl
