-- What each kind of waiting value stands for, and chains that grow.
use Rattle.std.specs.Global.{Box, Vec}
use Rattle.std.proofs.Common.{◌≡◌, ◌<◌, ◌≤◌, ◌+◌, ℕ, Bool, List, [], ◌∷◌, ◌++◌, ◌&&◌, max, subst, length, drop, get_or, refl, ap, ◌∙◌, sym}
use Rattle.std.proofs.lemmas.List.{drop_more}
use Rattle.std.proofs.Math.ListN.{drop_of_length-le}
use Rattle.sve_value.specs.declared.bit.Bit.{Bit}
use Rattle.sve_value.specs.declared.operators.Unary.{Unary}
use Rattle.sve_value.specs.declared.operators.Binary.{Binary}
use Rattle.sve_value.specs.Vector.{Vector}
use Rattle.sve_value.specs.Moves.{extend_of, filled_of, choose_of}
use Rattle.sve_value.specs.Operators.{unary_of, binary_of}
use Rattle.sve_operand.specs.Sharing.{sharing_of, shift_operator}
use Rattle.sve_operand.specs.Meaning.{own_value, binary_meaning, binary_meaning_by}
use Rattle.sve_operand.specs.Pending.{value_in, linked, row_applied, links_applied, means, meaning_of}
use Rattle.sve_operand.specs.declared.operand.Operand.{Operand}
use Rattle.sve_operand.specs.declared.sharing.Sharing.{Sharing}
use Rattle.sve_operand.specs.declared.sharing.Sharing.TheVariants.{Shared, Shifted}
use Rattle.sve_operand.specs.declared.sharing.Shift.{Shift}
use Rattle.sve_operand.specs.declared.pending.Pending.{Pending, Row_of-Link, end_of-Link, more_of-Link, items-the_row-Link}
use Rattle.sve_operand.specs.declared.pending.Pending.TheVariants as is_pending
use Rattle.sve_operand.specs.declared.pending.Link.TheBlock.{hidden-the_row-Link-0, items_hidden-the_row-Link-0}
use Rattle.sve_operand.specs.declared.pending.Link.{Link}
use Rattle.sve_operand.specs.declared.pending.Link.TheVariants as is_link

-- each kind
pub value_settled : (w : ℕ) (s : Bool) (v : Vector) → value_in w s (is_pending.Settled v) ≡ extend_of w s v
unfolding value_in
value_settled w s v = refl

pub value_spread : (w : ℕ) (s : Bool) (b : Bit) → value_in w s (is_pending.Spread b) ≡ filled_of w s b
unfolding value_in
value_spread w s b = refl

pub value_unary : (w : ℕ) (s : Bool) (op : Unary) (a : Box Pending) → value_in w s (is_pending.Unary op a) ≡ extend_of w s (unary_of op (value_in w s a.value))
unfolding value_in
value_unary w s op a = refl

pub value_choice : (w : ℕ) (s : Bool) (c : Vector) (a b : Box Pending) → value_in w s (is_pending.Choice c a b) ≡ extend_of w s (choose_of c (value_in w s a.value) (value_in w s b.value))
unfolding value_in
value_choice w s c a b = refl

row_is_list : {n : _} (w : ℕ) (s : Bool) (row : Row_of-Link n) (a : Vector) → row_applied w s row a ≡ links_applied w s (items-the_row-Link n row) a
unfolding value_in links_applied
row_is_list w s end_of-Link a = refl
row_is_list w s (more_of-Link link rest) a = row_is_list w s rest (linked w s link a)

pub value_chain : (w : ℕ) (s : Bool) (first : Box Pending) (links : Vec Link) → value_in w s (is_pending.Chain first links) ≡ links_applied w s links.items (value_in w s first.value)
unfolding value_in
value_chain w s first links =
    row_is_list w s (hidden-the_row-Link-0 links) (value_in w s first.value)
    ∙ ap (λ (xs : List Link). links_applied w s xs (value_in w s first.value)) (items_hidden-the_row-Link-0 links)

pub linked_shared : (w : ℕ) (s : Bool) (op : Binary) (b : Pending) (a : Vector) → linked w s (is_link.Shared op b) a ≡ extend_of w s (binary_of op a (value_in w s b))
unfolding linked
linked_shared w s op b a = refl

pub linked_shifted : (w : ℕ) (s : Bool) (op : Shift) (b : Vector) (a : Vector) → linked w s (is_link.Shifted op b) a ≡ extend_of w s (binary_of (shift_operator op) a b)
unfolding linked
linked_shifted w s op b a = refl

-- the loop over the operators of a chain
pub links_step : (w : ℕ) (s : Bool) (links : List Link) (i : ℕ) (x : Link) (a : Vector) → i < length links → x ≡ get_or links i x → links_applied w s (drop (i + 1) links) (linked w s x a) ≡ links_applied w s (drop i links) a
unfolding links_applied
links_step w s links i x a h e = rw (drop_more links i x h, ← e) refl

pub links_end : (w : ℕ) (s : Bool) (links : List Link) (i : ℕ) (a : Vector) → length links ≤ i → links_applied w s (drop i links) a ≡ a
unfolding links_applied
links_end w s links i a h = rw (drop_of_length-le links h) refl

-- one more operator at the end
links_push : (w : ℕ) (s : Bool) (links : List Link) (link : Link) (a : Vector) → links_applied w s (links ++ link ∷ []) a ≡ linked w s link (links_applied w s links a)
unfolding links_applied
links_push w s [] link a = refl
links_push w s (x ∷ links) link a = links_push w s links link (linked w s x a)

pub chain_grows : (w : ℕ) (s : Bool) (first : Box Pending) (links grown : Vec Link) (link : Link) → grown.items ≡ links.items ++ link ∷ [] → value_in w s (is_pending.Chain first grown) ≡ linked w s link (value_in w s (is_pending.Chain first links))
chain_grows w s first links grown link h =
    value_chain w s first grown
    ∙ ap (λ (xs : List Link). links_applied w s xs (value_in w s first.value)) h
    ∙ links_push w s links.items link (value_in w s first.value)
    ∙ ap (linked w s link) (sym (value_chain w s first links))

pub chain_begins : (w : ℕ) (s : Bool) (first : Box Pending) (pending : Pending) (links : Vec Link) (link : Link) → first.value ≡ pending → links.items ≡ link ∷ [] → value_in w s (is_pending.Chain first links) ≡ linked w s link (value_in w s pending)
unfolding links_applied
chain_begins w s first pending links link e h = value_chain w s first links ∙ rw (h, e) refl

-- Operators that wait: meanings are equal where their values are in each context.
pub means_shared : (op : Binary) (a b : Operand) (width : ℕ) (r : Pending) → width ≡ max a.width b.width → Shared ≡ sharing_of op →
    ((w : ℕ) (s : Bool) → value_in w s r ≡ linked w s (is_link.Shared op b.pending) (value_in w s a.pending)) →
    means width (a.signed && b.signed) r ≡ binary_meaning op (meaning_of a) (meaning_of b)
unfolding linked
means_shared op a b width r e k h =
    let P : Sharing → Type 0 = λ x. means width (a.signed && b.signed) r ≡ binary_meaning_by x op (meaning_of a) (meaning_of b) in
    subst P k (λ i. record { width = e i; signed = a.signed && b.signed; value = λ w s. h w s i })

pub means_shifted : (op : Binary) (shift : Shift) (a b : Operand) (r : Pending) → Shifted shift ≡ sharing_of op →
    ((w : ℕ) (s : Bool) → value_in w s r ≡ linked w s (is_link.Shifted shift (own_value (meaning_of b))) (value_in w s a.pending)) →
    means a.width a.signed r ≡ binary_meaning op (meaning_of a) (meaning_of b)
unfolding linked
means_shifted op shift a b r k h =
    let P : Sharing → Type 0 = λ x. means a.width a.signed r ≡ binary_meaning_by x op (meaning_of a) (meaning_of b) in
    subst P k (λ i. record { width = a.width; signed = a.signed; value = λ w s. h w s i })

pub ruleset values = (value_settled, value_spread, value_unary, value_chain, value_choice)

pub ruleset link_values = (linked_shared, linked_shifted)
