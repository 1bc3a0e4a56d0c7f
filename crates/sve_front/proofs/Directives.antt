-- Directives that name net types, gone over along rising starts.
use Rattle.std.proofs.Common.{◌≡◌, ℕ, ◌<◌, ◌≤◌, true, false, nat_lt, List, [], ◌∷◌, ◌++◌, length, drop, refl, sym, ap, subst, ◌∙◌, arith, append_assoc}
use Rattle.std.proofs.lemmas.List.{append-nil, drop_all}
use Rattle.std.proofs.lemmas.Bool.{lt-ltb, le-ltb}
use Rattle.sve_bytes.specs.declared.net_type.NetType.{NetType}
use Rattle.sve_bytes.specs.declared.net_type.NetType.TheVariants.{Wire}
use Rattle.sve_lex.specs.Tokens.{Rise}
use Rattle.sve_front.specs.Nets.{net_from, nets_at}

abbrev pub Named : Type 0
Named = ℕ × NetType

-- a directive that does not stand behind a place
pub passed : (net : NetType) (e : Named) (named rest : List Named) (at : ℕ) → named ≡ e ∷ rest → e.0 ≤ at → net_from net named at ≡ net_from e.1 rest at
passed net e named rest at is h =
    let t : nat_lt at e.0 ≡ false = le-ltb at e.0 h in
    ap (λ (l : List Named). net_from net l at) is ∙ (rw t refl)

-- and one that does
pub not_passed : (net : NetType) (e : Named) (named rest : List Named) (at : ℕ) → named ≡ e ∷ rest → at < e.0 → net_from net named at ≡ net
not_passed net e named rest at is h =
    let t : nat_lt at e.0 ≡ true = lt-ltb at e.0 h in
    ap (λ (l : List Named). net_from net l at) is ∙ (rw t refl)

pub all_passed : (net : NetType) (named : List Named) (n at : ℕ) → length named ≤ n → net_from net (drop n named) at ≡ net
all_passed net named n at h = ap (λ (l : List Named). net_from net l at) (drop_all n named h)

-- from a start on the same is in force by the directives that are left as by all
pub record IsLeft (named : List Named) (starts : List ℕ) (net : NetType) (next : ℕ) : Type 0 where
  pub least : ℕ
  pub rise : Rise least starts
  pub same : (at : ℕ) → least ≤ at → net_from net (drop next named) at ≡ net_from Wire named at

pub left_first : (named : List Named) (starts : List ℕ) → Rise 0 starts → IsLeft named starts Wire 0
left_first named starts h = record { least = 0; rise = h; same = λ at k. refl }

rise_next : (least : ℕ) (starts : List ℕ) (start : ℕ) (rest : List ℕ) → starts ≡ start ∷ rest → Rise least starts → (least ≤ start) × Rise start rest
rise_next least starts start rest is h = subst (Rise least) is h

module _ (named : List Named) (starts : List ℕ) (start : ℕ) (rest : List ℕ) (net new_net : NetType) (next new_next : ℕ)
    (is : starts ≡ start ∷ rest) (left : IsLeft named starts net next)
    (here : net_from new_net (drop new_next named) start ≡ new_net)
    (later : (at : ℕ) → start ≤ at → net_from new_net (drop new_next named) at ≡ net_from net (drop next named) at) where
  pub left_next : IsLeft named rest new_net new_next
  left_next =
      let on = rise_next left.least starts start rest is left.rise in
      let above : left.least ≤ start = on.0 in
      record { least = start; rise = on.1; same = λ at h. later at h ∙ left.same at (omega arith) }

  pub net_here : new_net ≡ net_from Wire named start
  net_here =
      let on = rise_next left.least starts start rest is left.rise in
      sym here ∙ later start (omega arith) ∙ left.same start on.0

  pub nets_go_on : (whole now new : List NetType) → now ++ nets_at named starts ≡ whole → new ≡ now ++ new_net ∷ [] → new ++ nets_at named rest ≡ whole
  nets_go_on whole now new so_far added =
      ap (λ (l : List NetType). l ++ nets_at named rest) (added ∙ ap (λ (n : NetType). now ++ n ∷ []) net_here)
      ∙ append_assoc now (net_from Wire named start ∷ []) (nets_at named rest)
      ∙ sym (ap (λ (l : List ℕ). now ++ nets_at named l) is)
      ∙ so_far

pub nets_end : (named : List Named) (starts : List ℕ) (i : ℕ) (now whole : List NetType) → length starts ≤ i → now ++ nets_at named (drop i starts) ≡ whole → now ≡ whole
nets_end named starts i now whole h so_far =
    sym (append-nil now) ∙ sym (ap (λ (l : List ℕ). now ++ nets_at named l) (drop_all i starts h)) ∙ so_far
