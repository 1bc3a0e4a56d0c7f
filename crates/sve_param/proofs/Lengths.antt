-- As many things are given as there are parameters that can be overridden, whatever overrides there are.
use Rattle.std.proofs.Common.{◌≡◌, ℕ, ◌+◌, Bool, true, false, not, List, [], ◌∷◌, ◌++◌, length, set, nat_lt, nat_eq, Option, Some, None, cond, refl, ap, sym, ◌∙◌, length-append, length-set, arith}
use Rattle.std.specs.List.{fold, count_by}
use Rattle.std.proofs.lemmas.List.Sums.{sum_by-cons}
use Rattle.sve_table.specs.Tables.{item_of}
use Rattle.sve_tree.specs.declared.element.Element.{Element}
use Rattle.sve_tree.specs.declared.token_word.Word.{Word}
use Rattle.sve_known.specs.Naming.{name_at}
use Rattle.sve_spec.specs.declared.given.Given.{Given}
use Rattle.sve_spec.specs.declared.given.Given.TheVariants.{Default}
use Rattle.sve_formal.specs.declared.formal.Formal.{Formal}
use Rattle.sve_formal.specs.Formals.{can_be_overridden, overridable_count}
use Rattle.sve_param.specs.declared.giving.Giving.{Giving}
use Rattle.sve_param.specs.declared.numbered.Numbered.{Numbered}
use Rattle.sve_param.specs.declared.numbered.Parameter.{Parameter}
use Rattle.sve_param.specs.declared.numbered.Required.{Required}
use Rattle.sve_param.specs.declared.overriding.Override.{Override}
use Rattle.sve_param.specs.Places.{formals_in, no_parameters, numbered, parameter_name, place_of, with_default, with_formal, with_name, with_required}
use Rattle.sve_param.specs.Giving.{by_place, counted, given_by, in_form, is_free, is_missing, missing, named, no_givings, ordered, placed, taken, takes, takes_by, with_form}

-- ---- overrides put one thing for another

placed_length : (g : Giving) (place : ℕ) (value : Given) → length (placed g place value).given ≡ length g.given
placed_length g place value = either (is_free g.given place)
  where
    either : (b : Bool) → length (cond b (record g { given = set g.given place value }) g).given ≡ length g.given
    either true = length-set g.given place value
    either false = refl

module _ (file : List ℕ) (chunk : ℕ) where
  either : (b : Bool) (g x y : Giving) → length x.given ≡ length g.given → length y.given ≡ length g.given → length (cond b x y).given ≡ length g.given
  either true g x y p q = p
  either false g x y p q = q

  by_place_length : (g : Giving) (name : List ℕ) (value : Given) (token : ℕ) (place : Option ℕ) → length (by_place file chunk g name value token place).given ≡ length g.given
  by_place_length g name value token (Some place) = placed_length g place value
  by_place_length g name value token None = refl

  named_length : (g : Giving) (name : List ℕ) (value : Given) (token : ℕ) (p : Option Parameter) → length (named file chunk g name value token p).given ≡ length g.given
  named_length g name value token (Some p) = by_place_length g name value token p.place
  named_length g name value token None = refl

  ordered_length : (g : Giving) (value : Given) (token : ℕ) → length (ordered file chunk g value token).given ≡ length g.given
  ordered_length g value token = either (nat_lt g.next (length g.given)) g _ _ (placed_length (counted g) g.next value) (either (nat_eq g.next (length g.given)) g _ _ refl refl)

  takes_length : (ps : List Parameter) (g : Giving) (o : Override) → length (takes file chunk ps g o).given ≡ length g.given
  takes_length ps g o = by_name o.name
    where
      by_name : (name : Option (List ℕ)) → length (takes_by file chunk ps g o.given o.token name).given ≡ length g.given
      by_name (Some name) = either (in_form g.form false) g _ _ (named_length (with_form g false) name o.given o.token (item_of parameter_name name ps)) refl
      by_name None = either (in_form g.form true) g _ _ (ordered_length (with_form g true) o.given o.token) refl

  all_taken : (ps : List Parameter) (os : List Override) (g : Giving) → length (fold (takes file chunk ps) g os).given ≡ length g.given
  all_taken ps [] g = refl
  all_taken ps (o ∷ os) g = all_taken ps os (takes file chunk ps g o) ∙ takes_length ps g o

  missing_length : (words : List Word) (at : ℕ) (g : Giving) (r : Required) → length (missing file chunk words at g r).given ≡ length g.given
  missing_length words at g r = either (is_missing g.given r.place) g _ _ refl refl

  all_missing : (words : List Word) (at : ℕ) (rs : List Required) (g : Giving) → length (fold (missing file chunk words at) g rs).given ≡ length g.given
  all_missing words at [] g = refl
  all_missing words at (r ∷ rs) g = all_missing words at rs (missing file chunk words at g r) ∙ missing_length words at g r

-- ---- at first nothing is given to each

required_given : (n : Numbered) (formal : Formal) (place : Option ℕ) → (with_required n formal place).given ≡ n.given
required_given n formal place = either_way formal.has_value
  where
    either_way : (b : Bool) → (cond b n (record n { required = n.required ++ (record { token = formal.token; place = place }) ∷ [] })).given ≡ n.given
    either_way true = refl
    either_way false = refl

name_given : (n : Numbered) (name : Option (List ℕ)) (place : Option ℕ) → (with_name n name place).given ≡ n.given
name_given n None place = refl
name_given n (Some name) place = refl

default_length : (n : Numbered) (formal : Formal) (more : ℕ) → length (with_default n formal).given + more ≡ length n.given + (cond (can_be_overridden formal) 1 0 + more)
default_length n formal more = either_way formal.is_local
  where
    either_way : (b : Bool) → length (cond b n (record n { given = n.given ++ Default ∷ [] })).given + more ≡ length n.given + (cond (not b) 1 0 + more)
    either_way true = omega arith
    either_way false = omega (arith, length-append n.given (Default ∷ []))

formal_length : (words : List Word) (n : Numbered) (formal : Formal) (more : ℕ) → length (with_formal words n formal).given + more ≡ length n.given + (cond (can_be_overridden formal) 1 0 + more)
formal_length words n formal more =
    let place = place_of formal (length n.given) in
    ap (λ (xs : List Given). length xs + more) (name_given (with_default (with_required n formal place) formal) (name_at words formal.token) place)
    ∙ default_length (with_required n formal place) formal more
    ∙ ap (λ (xs : List Given). length xs + (cond (can_be_overridden formal) 1 0 + more)) (required_given n formal place)

all_numbered : (words : List Word) (formals : List Formal) (n : Numbered) → length (fold (with_formal words) n formals).given ≡ length n.given + count_by can_be_overridden formals
all_numbered words [] n = omega arith
all_numbered words (formal ∷ formals) n = all_numbered words formals (with_formal words n formal) ∙ formal_length words n formal (count_by can_be_overridden formals)
    ∙ ap (λ (c : ℕ). length n.given + c) (sym (sum_by-cons (λ (x : Formal). cond (can_be_overridden x) 1 0) formal formals))

zero_more : (n : ℕ) → 0 + n ≡ n
zero_more n = omega arith

pub given_are_as_many : (element : Element) (overrides : List Override) (file : List ℕ) (chunk at : ℕ) → length (given_by element overrides file chunk at).given ≡ overridable_count (formals_in element)
given_are_as_many element overrides file chunk at =
    all_missing file chunk element.words.items at (numbered element).required (taken file chunk (numbered element).parameters (numbered element).given overrides)
    ∙ all_taken file chunk (numbered element).parameters overrides (no_givings (numbered element).given)
    ∙ all_numbered element.words.items (formals_in element) no_parameters
    ∙ zero_more (overridable_count (formals_in element))
