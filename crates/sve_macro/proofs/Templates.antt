-- A macro's text as it is kept.
use Rattle.std.proofs.Common.{◌≡◌, ℕ, ◌≤◌, List, [], ◌∷◌, ◌++◌, length, take, drop, Some, None, option_map, unwrap_or, ap, sym, ◌∙◌, arith, append_assoc}
use Rattle.std.specs.BTreeMap.{BTreeMap}
use Rattle.std.specs.Borrow.{Bor}
use Rattle.std.proofs.lemmas.Grind.{flat_map-append}
use Rattle.std.proofs.lemmas.List.{append-nil, take-append-drop, take-take, drop-append-le, length-take-le, drop_all}
use Rattle.std.proofs.lemmas.List.Concat.{flat_map-cons}
use Rattle.sve_macro.specs.declared.lexeme.Kind.{Kind}
use Rattle.sve_macro.specs.declared.lexeme.Kind.TheVariants.{Word}
use Rattle.sve_macro.specs.declared.template.Piece.{Piece}
use Rattle.sve_macro.specs.Index.{place_in}
use Rattle.sve_macro.specs.Substitution.{value_of}
use Rattle.sve_macro.specs.Template.{bytes_between, piece_value, filled}

-- no byte stands between a place and itself
pub between-none : (to : ℕ) (text : List ℕ) → to ≤ length text → bytes_between to to text ≡ []
between-none to text h = drop_all to (take to text) (let e : length (take to text) ≡ to = length-take-le to text h in omega (arith, e))

pub between-join : (from at end : ℕ) (text : List ℕ) → from ≤ at → at ≤ end → end ≤ length text → bytes_between from end text ≡ bytes_between from at text ++ bytes_between at end text
between-join from at end text p q r =
    let size : length (take at text) ≡ at = length-take-le at text (omega arith) in
    ap (drop from) (sym (take-append-drop at (take end text)) ∙ ap (λ t. t ++ drop at (take end text)) (take-take at end text q))
    ∙ drop-append-le from (take at text) (drop at (take end text)) (omega (arith, size))

-- the bytes up to the end of a lexeme that stands for itself
pub joins : (out text : List ℕ) (from at end : ℕ) (value : List ℕ) → from ≤ at → at ≤ end → end ≤ length text → value ≡ bytes_between at end text →
    out ++ bytes_between from end text ≡ out ++ (bytes_between from at text ++ value)
joins out text from at end value p q r e = ap (λ x. out ++ x) (between-join from at end text p q r ∙ ap (λ x. bytes_between from at text ++ x) (sym e))

-- a lexeme that does not, behind the bytes up to it
pub behind : (out new text : List ℕ) (end : ℕ) (more : List ℕ) → end ≤ length text → new ≡ out ++ more → new ++ bytes_between end end text ≡ out ++ more
behind out new text end more h e = ap (λ x. new ++ x) (between-none end text h) ∙ append-nil new ∙ e

pub filled-push : (text : List ℕ) (value : ℕ → List ℕ) (ps new : List Piece) (p : Piece) → new ≡ ps ++ p ∷ [] → filled text value new ≡ filled text value ps ++ piece_value text value p
filled-push text value ps new p e =
    ap (filled text value) e ∙ flat_map-append (piece_value text value) ps (p ∷ [])
    ∙ ap (λ x. filled text value ps ++ x) (flat_map-cons (piece_value text value) p [] ∙ append-nil (piece_value text value p))

pub pushed_behind : (text : List ℕ) (value : ℕ → List ℕ) (old mid new : List Piece) (run : List ℕ) (p : Piece) → filled text value mid ≡ filled text value old ++ run → new ≡ mid ++ p ∷ [] →
    filled text value new ≡ filled text value old ++ (run ++ piece_value text value p)
pushed_behind text value old mid new run p e h =
    filled-push text value mid new p h ∙ ap (λ x. x ++ piece_value text value p) e ∙ append_assoc (filled text value old) run (piece_value text value p)

-- what a word stands for, which is a formal or not
pub word_alone : (index : BTreeMap (Bor (List ℕ)) ℕ) (value : ℕ → List ℕ) (kind : Kind) (word : List ℕ) → kind ≡ Word → place_in index word ≡ None → value_of (λ w. option_map value (place_in index w)) kind word ≡ word
word_alone index value kind word k e = ap (λ x. value_of (λ w. option_map value (place_in index w)) x word) k ∙ ap (λ o. unwrap_or (option_map value o) word) e

pub word_of_formal : (index : BTreeMap (Bor (List ℕ)) ℕ) (value : ℕ → List ℕ) (kind : Kind) (word : List ℕ) (place : ℕ) → kind ≡ Word → place_in index word ≡ Some place → value_of (λ w. option_map value (place_in index w)) kind word ≡ value place
word_of_formal index value kind word place k e = ap (λ x. value_of (λ w. option_map value (place_in index w)) x word) k ∙ ap (λ o. unwrap_or (option_map value o) word) e

-- one more lexeme was read
pub read_on : (old from_old new from_new value : List ℕ) → new ++ from_new ≡ old ++ (from_old ++ value) → new ++ from_new ≡ (old ++ from_old) ++ value
read_on old from_old new from_new value e = e ∙ sym (append_assoc old from_old value)
