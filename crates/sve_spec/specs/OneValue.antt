-- What has the same tree is the same.
use Rattle.std.specs.Prelude.{◌≡◌, ℕ, pos, negsuc, ◌<◌, true, false, List, [], ◌∷◌, length, Some, None, refl}
use Rattle.std.proofs.Common.{ap, arith}
use base.Stored.{Gv, gnum}
use Rattle.sve_value.specs.declared.bit.Bit.{Bit}
use Rattle.sve_value.specs.declared.bit.Bit.TheVariants as is_bit
use Rattle.sve_value.specs.Planes.{ones_digit, unknowns_digit, ones_word, unknowns_word}
use Rattle.sve_types.specs.declared.ty.Atom.{Atom}
use Rattle.sve_types.specs.declared.ty.Atom.TheVariants.{Byte, ShortInt, Int, LongInt, Integer, Time}
use Rattle.sve_types.specs.declared.ty.Vec_.{Vec_}
use Rattle.sve_types.specs.declared.ty.Vec_.TheVariants.{Bit as bit, Logic as logic, Reg as reg}
use Rattle.sve_types.specs.DataType.{data_type, Form, atom, vector, enumeration, structure, text, Members, no_member, member}
use Rattle.sve_types.specs.declared.value.Value.TheVariants as is_value
use Rattle.sve_spec.specs.declared.given.Given.TheVariants as is_given
use Rattle.sve_spec.specs.Trees.{bool_tree, int_tree, list_tree, name_tree, option_tree, bits_tree, range_tree, named_bits_tree, atom_number, vec_number, type_tree, form_tree, members_tree, value_tree, given_tree, face_tree, spec_tree}

-- two things with the same tree are one
abbrev pub IsOne : {X : Type 0} → (X → Gv) → Type 0
IsOne {X} tree = (x y : X) → tree x ≡ tree y → x ≡ y

one_number : (m n : ℕ) → gnum m ≡ gnum n → m ≡ n
one_number m n e = cc

one_bool : IsOne bool_tree
one_bool false false e = refl
one_bool false true e = cc
one_bool true false e = cc
one_bool true true e = refl

one_int : IsOne int_tree
one_int (pos m) (pos n) e = let s : m ≡ n = cc in ap pos s
one_int (pos m) (negsuc n) e = cc
one_int (negsuc m) (pos n) e = cc
one_int (negsuc m) (negsuc n) e = let s : m ≡ n = cc in ap negsuc s

one_list : {X : Type 0} (tree : X → Gv) → IsOne tree → IsOne (list_tree tree)
one_list tree one [] [] e = refl
one_list tree one [] (y ∷ ys) e = cc
one_list tree one (x ∷ xs) [] e = cc
one_list tree one (x ∷ xs) (y ∷ ys) e =
    let a : tree x ≡ tree y = cc in
    let b : list_tree tree xs ≡ list_tree tree ys = cc in
    let head : x ≡ y = one x y a in
    let tail : xs ≡ ys = one_list tree one xs ys b in
    λ i. head i ∷ tail i

one_name : IsOne name_tree
one_name = one_list gnum one_number

one_option : {X : Type 0} (tree : X → Gv) → IsOne tree → IsOne (option_tree tree)
one_option tree one None None e = refl
one_option tree one None (Some y) e = cc
one_option tree one (Some x) None e = cc
one_option tree one (Some x) (Some y) e = let a : tree x ≡ tree y = cc in ap Some (one x y a)

-- digits below two, by which a word is read back
ones_low : (b : Bit) → ones_digit b < 2
ones_low is_bit.Zero = omega arith
ones_low is_bit.One = omega arith
ones_low is_bit.X = omega arith
ones_low is_bit.Z = omega arith

unknowns_low : (b : Bit) → unknowns_digit b < 2
unknowns_low is_bit.Zero = omega arith
unknowns_low is_bit.One = omega arith
unknowns_low is_bit.X = omega arith
unknowns_low is_bit.Z = omega arith

one_bit : (b c : Bit) → ones_digit b ≡ ones_digit c → unknowns_digit b ≡ unknowns_digit c → b ≡ c
one_bit is_bit.Zero is_bit.Zero e f = refl
one_bit is_bit.One is_bit.One e f = refl
one_bit is_bit.X is_bit.X e f = refl
one_bit is_bit.Z is_bit.Z e f = refl
one_bit b c e f = cc

one_word : (bs cs : List Bit) → length bs ≡ length cs → ones_word bs ≡ ones_word cs → unknowns_word bs ≡ unknowns_word cs → bs ≡ cs
unfolding ones_word unknowns_word
one_word [] [] l o u = refl
one_word [] (c ∷ cs) l o u = absurd (omega arith)
one_word (b ∷ bs) [] l o u = absurd (omega arith)
one_word (b ∷ bs) (c ∷ cs) l o u =
    let head : b ≡ c = one_bit b c (omega (arith, ones_low b, ones_low c)) (omega (arith, unknowns_low b, unknowns_low c)) in
    let tail : bs ≡ cs = one_word bs cs (omega arith) (omega (arith, ones_low b, ones_low c)) (omega (arith, unknowns_low b, unknowns_low c)) in
    λ i. head i ∷ tail i

one_bits : IsOne bits_tree
one_bits v w e =
    let signs : bool_tree v.signed ≡ bool_tree w.signed = cc in
    let lengths : length v.bits ≡ length w.bits = cc in
    let ones : ones_word v.bits ≡ ones_word w.bits = cc in
    let unknowns : unknowns_word v.bits ≡ unknowns_word w.bits = cc in
    let sign : v.signed ≡ w.signed = one_bool v.signed w.signed signs in
    let bits : v.bits ≡ w.bits = one_word v.bits w.bits lengths ones unknowns in
    λ i. record { signed = sign i; bits = bits i }

one_range : IsOne range_tree
one_range r s e =
    let lefts : int_tree r.left ≡ int_tree s.left = cc in
    let rights : int_tree r.right ≡ int_tree s.right = cc in
    let left : r.left ≡ s.left = one_int r.left s.left lefts in
    let right : r.right ≡ s.right = one_int r.right s.right rights in
    λ i. record { left = left i; right = right i }

one_named : IsOne named_bits_tree
one_named p q e =
    let names : name_tree p.0 ≡ name_tree q.0 = cc in
    let values : bits_tree p.1 ≡ bits_tree q.1 = cc in
    let name : p.0 ≡ q.0 = one_name p.0 q.0 names in
    let value : p.1 ≡ q.1 = one_bits p.1 q.1 values in
    λ i. (name i, value i)

one_atom : (a b : Atom) → atom_number a ≡ atom_number b → a ≡ b
one_atom Byte Byte e = refl
one_atom ShortInt ShortInt e = refl
one_atom Int Int e = refl
one_atom LongInt LongInt e = refl
one_atom Integer Integer e = refl
one_atom Time Time e = refl
one_atom a b e = cc

one_vec : (a b : Vec_) → vec_number a ≡ vec_number b → a ≡ b
one_vec bit bit e = refl
one_vec logic logic e = refl
one_vec reg reg e = refl
one_vec a b e = cc

mutual
  one_type : IsOne type_tree
  one_type (data_type f p u) (data_type g q v) e =
      let forms : form_tree f ≡ form_tree g = cc in
      let packed : list_tree range_tree p ≡ list_tree range_tree q = cc in
      let unpacked : list_tree range_tree u ≡ list_tree range_tree v = cc in
      let a : f ≡ g = one_form f g forms in
      let b : p ≡ q = one_list range_tree one_range p q packed in
      let c : u ≡ v = one_list range_tree one_range u v unpacked in
      cc

  one_form : (x y : Form) → form_tree x ≡ form_tree y → x ≡ y
  one_form (atom a s) (atom b t) e =
      let p : a ≡ b = one_atom a b cc in
      let q : s ≡ t = one_bool s t cc in
      cc
  one_form (vector a s) (vector b t) e =
      let p : a ≡ b = one_vec a b cc in
      let q : s ≡ t = one_bool s t cc in
      cc
  one_form (enumeration i s m) (enumeration j t n) e =
      let files : i.0 ≡ j.0 = one_name i.0 j.0 cc in
      let chunks : i.1 ≡ j.1 = cc in
      let tokens : i.2 ≡ j.2 = cc in
      let a : i ≡ j = (λ k. (files k, chunks k, tokens k)) in
      let b : s ≡ t = one_type s t cc in
      let c : m ≡ n = one_list named_bits_tree one_named m n cc in
      cc
  one_form (structure s ms) (structure t ns) e =
      let a : s ≡ t = one_bool s t cc in
      let b : ms ≡ ns = one_members ms ns cc in
      cc
  one_form text text e = refl
  one_form x y e = cc

  one_members : (x y : Members) → members_tree x ≡ members_tree y → x ≡ y
  one_members no_member no_member e = refl
  one_members (member n t ms) (member m u ns) e =
      let a : n ≡ m = one_name n m cc in
      let b : t ≡ u = one_type t u cc in
      let c : ms ≡ ns = one_members ms ns cc in
      cc
  one_members x y e = cc

one_value : IsOne value_tree
one_value (is_value.Bits a) (is_value.Bits b) e = let s : a ≡ b = one_bits a b cc in ap is_value.Bits s
one_value (is_value.Text a) (is_value.Text b) e = let s : a ≡ b = one_name a b cc in ap is_value.Text s
one_value (is_value.OfType a) (is_value.OfType b) e = let s : a ≡ b = one_type a b cc in ap is_value.OfType s
one_value x y e = cc

one_given : IsOne given_tree
one_given is_given.Default is_given.Default e = refl
one_given (is_given.Value a) (is_given.Value b) e = let s : a ≡ b = one_value a b cc in ap is_given.Value s
one_given is_given.Bad is_given.Bad e = refl
one_given x y e = cc

one_face : IsOne face_tree
one_face f g e =
    let ports : name_tree f.port ≡ name_tree g.port = cc in
    let interfaces : name_tree f.interface ≡ name_tree g.interface = cc in
    let modports : option_tree name_tree f.modport ≡ option_tree name_tree g.modport = cc in
    let port : f.port ≡ g.port = one_name f.port g.port ports in
    let interface : f.interface ≡ g.interface = one_name f.interface g.interface interfaces in
    let modport : f.modport ≡ g.modport = one_option name_tree one_name f.modport g.modport modports in
    λ i. record { port = port i; interface = interface i; modport = modport i }

pub one_spec : IsOne spec_tree
one_spec s t e =
    let definitions : name_tree s.definition ≡ name_tree t.definition = cc in
    let givens : list_tree given_tree s.values ≡ list_tree given_tree t.values = cc in
    let given_faces : list_tree face_tree s.faces ≡ list_tree face_tree t.faces = cc in
    let definition : s.definition ≡ t.definition = one_name s.definition t.definition definitions in
    let values : s.values ≡ t.values = one_list given_tree one_given s.values t.values givens in
    let faces : s.faces ≡ t.faces = one_list face_tree one_face s.faces t.faces given_faces in
    λ i. record { definition = definition i; values = values i; faces = faces i }
