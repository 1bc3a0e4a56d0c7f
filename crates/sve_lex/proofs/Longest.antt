-- What is known of the longest front that is of a form.
use Rattle.std.proofs.Common.{◌≡◌, ℕ, zero, suc, ◌+◌, ◌<◌, ◌≤◌, List, [], ◌∷◌, ◌++◌, length, take, drop, Option, Some, None, refl, sym, ap, ◌∙◌, arith, add-one, IfSome, length-append, subst}
use Rattle.sve_lex.specs.Longest.{Form, after, or_here, longest}

pub longest_cons : {W : Type 0} → (c : ℕ) (cs : List ℕ) (f : Form W) → longest (c ∷ cs) f ≡ or_here (longest cs (after c f)) (f [] (c ∷ cs))
unfolding longest
longest_cons c cs f = refl

pub longest_end : {W : Type 0} → (f : Form W) → longest [] f ≡ or_here None (f [] [])
unfolding longest
longest_end f = refl

-- two forms that say the same of every front have the same longest one
pub longest_same : {W : Type 0} → (cs : List ℕ) (f g : Form W) → ((s rest : List ℕ) → s ++ rest ≡ cs → f s rest ≡ g s rest) → longest cs f ≡ longest cs g
unfolding longest
longest_same [] f g h = ap (or_here None) (h [] [] refl)
longest_same (c ∷ cs) f g h =
    ap (λ r. or_here r (f [] (c ∷ cs))) (longest_same cs (after c f) (after c g) (λ s rest e. h (c ∷ s) rest (ap (λ t. c ∷ t) e)))
    ∙ ap (or_here (longest cs (after c g))) (h [] (c ∷ cs) refl)

-- the form that nothing is of
abbrev pub never : {W : Type 0} → Form W
never s rest = None

pub longest_never : {W : Type 0} → (cs : List ℕ) → longest cs (never {W = W}) ≡ None
unfolding longest
longest_never [] = refl
longest_never {W = W} (c ∷ cs) = ap (λ r. or_here {W = W} r None) (longest_never cs)

-- where no front is of the form, nothing is found
pub longest_none : {W : Type 0} → (cs : List ℕ) (f : Form W) → ((s rest : List ℕ) → s ++ rest ≡ cs → f s rest ≡ None) → longest cs f ≡ None
longest_none cs f h = longest_same cs f never h ∙ longest_never cs

-- where no front with a byte is of the form, only the empty one is left
pub longest_here : {W : Type 0} → (c : ℕ) (cs : List ℕ) (f : Form W) → ((s rest : List ℕ) → s ++ rest ≡ cs → f (c ∷ s) rest ≡ None) → longest (c ∷ cs) f ≡ or_here None (f [] (c ∷ cs))
longest_here c cs f h = longest_cons c cs f ∙ ap (λ r. or_here r (f [] (c ∷ cs))) (longest_none cs (after c f) h)

-- the first n bytes are of the form, and no longer front is
pub record IsLongest {W : Type 0} (f : Form W) (cs : List ℕ) (w : W) (n : ℕ) : Type 0 where
  pub within : n ≤ length cs
  pub found : f (take n cs) (drop n cs) ≡ Some w
  pub most : (s rest : List ℕ) → s ++ rest ≡ cs → n < length s → f s rest ≡ None

pub longest_is : {W : Type 0} → (f : Form W) (cs : List ℕ) (w : W) (n : ℕ) → IsLongest f cs w n → longest cs f ≡ Some (w, n)
longest_is f [] w zero p = longest_end f ∙ ap (or_here None) p.found
longest_is f [] w (suc n) p = absurd (omega (arith, p.within))
longest_is f (c ∷ cs) w zero p =
    longest_here c cs f (λ s rest e. p.most (c ∷ s) rest (ap (λ t. c ∷ t) e) (omega arith)) ∙ ap (or_here None) p.found
longest_is f (c ∷ cs) w (suc n) p =
    let q : IsLongest (after c f) cs w n = record { within = omega (arith, p.within); found = p.found; most = λ s rest e h. p.most (c ∷ s) rest (ap (λ t. c ∷ t) e) (omega arith) } in
    longest_cons c cs f ∙ ap (λ r. or_here r (f [] (c ∷ cs))) (longest_is (after c f) cs w n q) ∙ ap (λ m. Some (w, m)) (add-one n)

here_within : {W : Type 0} → (n m : ℕ) (r : Option (W × ℕ)) (here : Option W) → n < m → IfSome r (λ x. x.1 ≤ n) → IfSome (or_here r here) (λ x. x.1 ≤ m)
here_within n m None None l h = tt
here_within n m None (Some w) l h = omega arith
here_within n m (Some (w, k)) here l h = let g : k ≤ n = h in omega arith

end_within : {W : Type 0} → (here : Option W) → IfSome (or_here None here) (λ x. x.1 ≤ 0)
end_within None = tt
end_within (Some w) = omega arith

-- what is found lies within the text
pub longest_within : {W : Type 0} → (cs : List ℕ) (f : Form W) → IfSome (longest cs f) (λ x. x.1 ≤ length cs)
longest_within [] f = rw (longest_end f) (end_within (f [] []))
longest_within (c ∷ cs) f = rw (longest_cons c cs f) (here_within (length cs) (suc (length cs)) (longest cs (after c f)) (f [] (c ∷ cs)) (omega arith) (longest_within cs (after c f)))

less : {W : Type 0} → (n by m : ℕ) (r : Option (W × ℕ)) → by + n < m → IfSome r (λ x. x.1 ≤ n) → IfSome r (λ x. by + x.1 < m)
less n by m None h p = tt
less n by m (Some (w, k)) h p = let g : k ≤ n = p in omega arith

-- the same, some bytes further on
pub found_within : {W : Type 0} → (r : Option (W × ℕ)) (cs : List ℕ) (f : Form W) (by m : ℕ) → r ≡ longest cs f → by + length cs < m → IfSome r (λ x. by + x.1 < m)
found_within r cs f by m e h = less (length cs) by m r h (rw e (longest_within cs f))

-- what is found has these properties
none_both : {W : Type 0} → (r : Option (W × ℕ)) (here : Option W) → or_here r here ≡ None → (r ≡ None) × (here ≡ None)
none_both None None e = (refl, refl)
none_both None (Some w) e = cc
none_both (Some (w, n)) here e = cc

pub is_none : {W : Type 0} → (cs : List ℕ) (f : Form W) → longest cs f ≡ None → (s rest : List ℕ) → s ++ rest ≡ cs → f s rest ≡ None
is_none [] f e [] [] g = (none_both None (f [] []) (sym (longest_end f) ∙ e)).1
is_none [] f e [] (d ∷ ds) g = cc
is_none [] f e (d ∷ s) rest g = cc
is_none (c ∷ cs) f e [] rest g = ap (f []) g ∙ (none_both (longest cs (after c f)) (f [] (c ∷ cs)) (sym (longest_cons c cs f) ∙ e)).1
is_none {W = W} (c ∷ cs) f e (d ∷ s) rest g =
    let h : d ≡ c = cc in
    let k : s ++ rest ≡ cs = cc in
    ap (λ x. f (x ∷ s) rest) h ∙ is_none cs (after c f) (none_both (longest cs (after c f)) (f [] (c ∷ cs)) (sym (longest_cons c cs f) ∙ e)).0 s rest k

same_here : {W : Type 0} → (v w : W) (n : ℕ) → ◌≡◌ {A = Option (W × ℕ)} (Some (v, 0)) (Some (w, n)) → (v ≡ w) × (n ≡ 0)
same_here {W = W} v w n e =
    let p : ◌≡◌ {A = W × ℕ} (v, 0) (w, n) = cc in
    (ap (λ (x : W × ℕ). x.0) p, sym (ap (λ (x : W × ℕ). x.1) p))

same_more : {W : Type 0} → (v w : W) (m n : ℕ) → ◌≡◌ {A = Option (W × ℕ)} (Some (v, m + 1)) (Some (w, n)) → (v ≡ w) × (n ≡ suc m)
same_more {W = W} v w m n e =
    let p : ◌≡◌ {A = W × ℕ} (v, m + 1) (w, n) = cc in
    (ap (λ (x : W × ℕ). x.0) p, sym (ap (λ (x : W × ℕ). x.1) p) ∙ add-one m)

found_here : {W : Type 0} → (cs : List ℕ) (f : Form W) (here : Option W) (w : W) (n : ℕ) → f [] cs ≡ here → ((s rest : List ℕ) → s ++ rest ≡ cs → 0 < length s → f s rest ≡ None) → or_here None here ≡ Some (w, n) → IsLongest f cs w n
found_here cs f None w n e none h = cc
found_here cs f (Some v) w n e none h =
    let q = same_here v w n h in
    let P : ℕ → Type 0 = λ m. IsLongest f cs w m in
    subst P (sym q.1) (record { within = omega arith; found = e ∙ ap Some q.0; most = none })

found_step : {W : Type 0} → (c : ℕ) (cs : List ℕ) (f : Form W) (r : Option (W × ℕ)) (w : W) (n : ℕ) → longest cs (after c f) ≡ r → ((v : W) (m : ℕ) → r ≡ Some (v, m) → IsLongest (after c f) cs v m) → or_here r (f [] (c ∷ cs)) ≡ Some (w, n) → IsLongest f (c ∷ cs) w n
found_step c cs f None w n g deep e =
    found_here (c ∷ cs) f (f [] (c ∷ cs)) w n refl (λ s rest k l. past s rest k l) e
  where
    past : (s rest : List ℕ) → s ++ rest ≡ c ∷ cs → 0 < length s → f s rest ≡ None
    past [] rest k l = absurd (omega arith)
    past (d ∷ s) rest k l = let h : d ≡ c = cc in let j : s ++ rest ≡ cs = cc in ap (λ x. f (x ∷ s) rest) h ∙ is_none cs (after c f) g s rest j
found_step c cs f (Some (v, m)) w n g deep e =
    let q = same_more v w m n e in
    let p = deep v m refl in
    let P : ℕ → Type 0 = λ k. IsLongest f (c ∷ cs) w k in
    subst P (sym q.1) (record { within = omega (arith, p.within); found = p.found ∙ ap Some q.0; most = λ s rest k l. past p s rest k l })
  where
    past : IsLongest (after c f) cs v m → (s rest : List ℕ) → s ++ rest ≡ c ∷ cs → suc m < length s → f s rest ≡ None
    past p [] rest k l = absurd (omega arith)
    past p (d ∷ s) rest k l = let h : d ≡ c = cc in let j : s ++ rest ≡ cs = cc in ap (λ x. f (x ∷ s) rest) h ∙ p.most s rest j (omega arith)

pub is_longest : {W : Type 0} → (cs : List ℕ) (f : Form W) (w : W) (n : ℕ) → longest cs f ≡ Some (w, n) → IsLongest f cs w n
is_longest [] f w n e = found_here [] f (f [] []) w n refl (λ s rest k l. absurd (let x : length (s ++ rest) ≡ 0 = ap length k in omega (arith, x, length-append s rest))) (sym (longest_end f) ∙ e)
is_longest (c ∷ cs) f w n e = found_step c cs f (longest cs (after c f)) w n refl (λ v m g. is_longest cs (after c f) v m g) (sym (longest_cons c cs f) ∙ e)
