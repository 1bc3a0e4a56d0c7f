-- A tree of numbers for each data type, no two of which share one: by it a proof tells data types apart (own).
use Rattle.std.specs.Prelude.{◌≡◌, refl, ℕ, zero, suc, ℤ, Bool, List}
use Rattle.std.specs.Coded.{Coded, code_by, coded×, coded_ℕ, coded_ℤ, coded_bool, coded_list}
use Rattle.std.proofs.Common.{ap}
use base.Stored.{Gv, gnil, gnum, gcons}
use Rattle.sve_value.specs.declared.bit.Bit.{Bit}
use Rattle.sve_value.specs.declared.bit.Bit.TheVariants.{Zero, One, X, Z}
use Rattle.sve_value.specs.Vector.{Vector}
use Rattle.sve_types.specs.declared.ty.Atom.{Atom}
use Rattle.sve_types.specs.declared.ty.Atom.TheVariants.{Byte, ShortInt, Int, LongInt, Integer, Time}
use Rattle.sve_types.specs.declared.ty.Vec_.{Vec_}
use Rattle.sve_types.specs.declared.ty.Vec_.TheVariants.{Bit as bit, Logic as logic, Reg as reg}
use Rattle.sve_types.specs.declared.ty.Range.{Range}
use Rattle.sve_types.specs.DataType.{DataType, data_type, Form, atom, vector, enumeration, structure, text, Members, no_member, member}

-- a number for each bit, and back
abbrev bit_number : Bit → ℕ
bit_number Zero = 0
bit_number One = 1
bit_number X = 2
bit_number Z = 3

abbrev bit_at : ℕ → Bit
bit_at zero = Zero
bit_at (suc zero) = One
bit_at (suc (suc zero)) = X
bit_at (suc (suc (suc n))) = Z

bit_at-bit_number : (b : Bit) → bit_at (bit_number b) ≡ b
bit_at-bit_number Zero = refl
bit_at-bit_number One = refl
bit_at-bit_number X = refl
bit_at-bit_number Z = refl

-- a number for each word of an integer type, and back
abbrev atom_number : Atom → ℕ
atom_number Byte = 0
atom_number ShortInt = 1
atom_number Int = 2
atom_number LongInt = 3
atom_number Integer = 4
atom_number Time = 5

abbrev atom_at : ℕ → Atom
atom_at zero = Byte
atom_at (suc zero) = ShortInt
atom_at (suc (suc zero)) = Int
atom_at (suc (suc (suc zero))) = LongInt
atom_at (suc (suc (suc (suc zero)))) = Integer
atom_at (suc (suc (suc (suc (suc n))))) = Time

atom_at-atom_number : (a : Atom) → atom_at (atom_number a) ≡ a
atom_at-atom_number Byte = refl
atom_at-atom_number ShortInt = refl
atom_at-atom_number Int = refl
atom_at-atom_number LongInt = refl
atom_at-atom_number Integer = refl
atom_at-atom_number Time = refl

abbrev vec_number : Vec_ → ℕ
vec_number bit = 0
vec_number logic = 1
vec_number reg = 2

abbrev vec_at : ℕ → Vec_
vec_at zero = bit
vec_at (suc zero) = logic
vec_at (suc (suc n)) = reg

vec_at-vec_number : (v : Vec_) → vec_at (vec_number v) ≡ v
vec_at-vec_number bit = refl
vec_at-vec_number logic = refl
vec_at-vec_number reg = refl

-- the parts of a data type that hold none
abbrev vector_code : Coded Vector
vector_code =
    code_by (Bool × List Bit) (coded× coded_bool (coded_list (code_by ℕ coded_ℕ bit_number bit_at bit_at-bit_number)))
    (λ v. (v.signed, v.bits)) (λ p. record { signed = p.0; bits = p.1 }) (λ _. refl)

abbrev range_code : Coded Range
range_code = code_by (ℤ × ℤ) (coded× coded_ℤ coded_ℤ) (λ r. (r.left, r.right)) (λ p. record { left = p.0; right = p.1 }) (λ _. refl)

abbrev ranges_code : Coded (List Range)
ranges_code = coded_list range_code

abbrev atom_code : Coded (Atom × Bool)
atom_code = coded× (code_by ℕ coded_ℕ atom_number atom_at atom_at-atom_number) coded_bool

abbrev word_code : Coded (Vec_ × Bool)
word_code = coded× (code_by ℕ coded_ℕ vec_number vec_at vec_at-vec_number) coded_bool

abbrev name_code : Coded (List ℕ)
name_code = coded_list coded_ℕ

abbrev declared_code : Coded (List ℕ × ℕ × ℕ)
declared_code =
    code_by (List ℕ × (ℕ × ℕ)) (coded× name_code (coded× coded_ℕ coded_ℕ)) (λ d. (d.0, (d.1, d.2))) (λ p. (p.0, p.1.0, p.1.1)) (λ _. refl)

abbrev values_code : Coded (List (List ℕ × Vector))
values_code = coded_list (coded× name_code vector_code)

-- the whole
abbrev mutual
  tree : DataType → Gv
  tree (data_type f p u) = gcons (form_tree f) (gcons (ranges_code.code p) (ranges_code.code u))

  form_tree : Form → Gv
  form_tree (atom a s) = gcons (gnum 0) (atom_code.code (a, s))
  form_tree (vector v s) = gcons (gnum 1) (word_code.code (v, s))
  form_tree (enumeration id of names) =
      gcons (gnum 2) (gcons (declared_code.code id) (gcons (tree of) (values_code.code names)))
  form_tree (structure s ms) = gcons (gnum 3) (gcons (coded_bool.code s) (members_tree ms))
  form_tree text = gnum 4

  members_tree : Members → Gv
  members_tree no_member = gnil
  members_tree (member n t ms) = gcons (name_code.code n) (gcons (tree t) (members_tree ms))

mutual
  one_type : (x y : DataType) → tree x ≡ tree y → x ≡ y
  one_type (data_type f p u) (data_type g q v) e =
      let a : f ≡ g = one_form f g cc in
      let b : p ≡ q = ranges_code.inj p q cc in
      let c : u ≡ v = ranges_code.inj u v cc in
      cc

  one_form : (x y : Form) → form_tree x ≡ form_tree y → x ≡ y
  one_form (atom a s) (atom b t) e = let p : (a, s) ≡ (b, t) = atom_code.inj (a, s) (b, t) cc in ap (λ (x : Atom × Bool). atom x.0 x.1) p
  one_form (vector a s) (vector b t) e = let p : (a, s) ≡ (b, t) = word_code.inj (a, s) (b, t) cc in ap (λ (x : Vec_ × Bool). vector x.0 x.1) p
  one_form (enumeration i s m) (enumeration j t n) e =
      let a : i ≡ j = declared_code.inj i j cc in
      let b : s ≡ t = one_type s t cc in
      let c : m ≡ n = values_code.inj m n cc in
      cc
  one_form (structure s ms) (structure t ns) e =
      let a : s ≡ t = coded_bool.inj s t cc in
      let b : ms ≡ ns = one_list ms ns cc in
      cc
  one_form text text e = refl
  one_form x y e = cc

  one_list : (x y : Members) → members_tree x ≡ members_tree y → x ≡ y
  one_list no_member no_member e = refl
  one_list (member n t ms) (member m u ns) e =
      let a : n ≡ m = name_code.inj n m cc in
      let b : t ≡ u = one_type t u cc in
      let c : ms ≡ ns = one_list ms ns cc in
      cc
  one_list x y e = cc

pub data_type_code : Coded DataType
data_type_code = record { code = tree; inj = one_type }
