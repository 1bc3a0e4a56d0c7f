-- A watch over calls one after another, and what is known of a call that ends with another.
use Rattle.std.proofs.Common.{◌≡◌, ℕ, true, false, List, [], ◌++◌, refl, sym, ◌∙◌, ap, subst, Result, Ok, Err}
use Rattle.std.specs.Prelude.{IsErrAnd, MatchResult, IfOk, IsErr}
use Rattle.sve_io.specs.declared.halt.Halt.{Halt}
use Rattle.sve_io.specs.declared.halt.Halt.TheVariants.{NoMemory, Stopped}
use Rattle.sve_ask.specs.Watched.{IsCaused, HasCause, GaveMore, IsWatched, lost, spare, spent}
use Rattle.sve_ask.proofs.Lists.{append_assoc, append_none, one_behind}

caused_later : (halt : Halt) (r : ℕ) (first more : List ℕ) → IsCaused halt r more → IsCaused halt r (first ++ more)
caused_later NoMemory r first more caused = tt
caused_later (Stopped n) r first more caused = (caused.0, one_behind first more n caused.1)

cause_later : {A : Type 0} (result : Result A Halt) (r : ℕ) (first more : List ℕ) → HasCause result r more → HasCause result r (first ++ more)
cause_later (Ok x) r first more caused = tt
cause_later (Err halt) r first more caused = caused_later halt r first more caused

pub more_then : (a b c : List ℕ) → GaveMore a b → GaveMore b c → GaveMore a c
more_then a b c one two = (one.0 ++ two.0, two.1 ∙ ap (λ x. x ++ two.0) one.1 ∙ append_assoc a one.0 two.0)

pub no_more : (a : List ℕ) → GaveMore a a
no_more a = ([], sym (append_none a))

-- a call that ends with another
pub watched_then : {A : Type 0} (result : Result A Halt) (r : ℕ) (a b c : List ℕ) → GaveMore a b → IsWatched result r b c → IsWatched result r a c
watched_then result r a b c more watched = (more.0 ++ watched.0, watched.1 ∙ ap (λ x. x ++ watched.0) more.1 ∙ append_assoc a more.0 watched.0, cause_later result r more.0 watched.0 watched.2)

-- a call that ends with the halt of another
pub watched_from : {B : Type 0} (result : Result B Halt) (halt : Halt) (r : ℕ) (a b c : List ℕ) → IsErrAnd result (λ e. e ≡ halt) → GaveMore a b → (more : List ℕ) × (c ≡ b ++ more) × IsCaused halt r more → IsWatched result r a c
watched_from (Ok x) halt r a b c is more caused = absurd is
watched_from (Err e) halt r a b c is more caused =
    (more.0 ++ caused.0, caused.1 ∙ ap (λ x. x ++ caused.0) more.1 ∙ append_assoc a more.0 caused.0, caused_later e r more.0 caused.0 (subst (λ y. IsCaused y r caused.0) (sym is) caused.2))

-- a call that ends for want of memory
pub watched_none : {B : Type 0} (result : Result B Halt) (r : ℕ) (a b : List ℕ) → IsErrAnd result (λ e. e ≡ NoMemory) → GaveMore a b → IsWatched result r a b
watched_none (Ok x) r a b is more = absurd is
watched_none (Err e) r a b is more = (more.0, more.1, subst (λ y. IsCaused y r more.0) (sym is) tt)

pub watched_note : {B : Type 0} (result : Result B Halt) (halt : Halt) (r : ℕ) (a b : List ℕ) → IsErrAnd result (λ e. e ≡ halt) → halt ≡ NoMemory → GaveMore a b → IsWatched result r a b
watched_note (Ok x) halt r a b is none more = absurd is
watched_note (Err e) halt r a b is none more = (more.0, more.1, subst (λ y. IsCaused y r more.0) (sym none ∙ sym is) tt)

-- a call that ends with one that does not look
pub watched_free : {B : Type 0} (result : Result B Halt) (P : B → Type 0) (Q : Halt → Type 0) (r : ℕ) (a b : List ℕ) → MatchResult result P Q → ((e : Halt) → Q e → e ≡ NoMemory) → GaveMore a b → IsWatched result r a b
watched_free (Ok x) P Q r a b is none more = (more.0, more.1, tt)
watched_free (Err e) P Q r a b is none more = (more.0, more.1, subst (λ y. IsCaused y r more.0) (sym (none e is)) tt)

-- ---- what is said of a result, from what is said of another or of the same

pub ok_from : {B : Type 0} (result : Result B Halt) (P R : B → Type 0) (Q : Halt → Type 0) → MatchResult result P Q → ((x : B) → P x → R x) → IfOk result R
ok_from (Ok x) P R Q is f = f x is
ok_from (Err e) P R Q is f = tt

pub either_from : {B : Type 0} (result : Result B Halt) (P : B → Type 0) (Q : Halt → Type 0) (R : Type 0) → MatchResult result P Q → ((x : B) → P x → R) → ((e : Halt) → Q e → R) → R
either_from (Ok x) P Q R is f g = f x is
either_from (Err e) P Q R is f g = g e is

pub ok_map : {B : Type 0} (result : Result B Halt) (P R : B → Type 0) → IfOk result P → ((x : B) → P x → R x) → IfOk result R
ok_map (Ok x) P R is f = f x is
ok_map (Err e) P R is f = tt

pub not_true : false ≡ true → ⊥
not_true e = absurd (cc)

pub ok_never : {T E : Type 0} (r : Result T E) (P : T → Type 0) → IsErr r → IfOk r P
ok_never (Ok x) P is = absurd (cc)
ok_never (Err e) P is = tt

-- ---- what a halt has lost

pub spare_from : {B : Type 0} (result : Result B Halt) (halt : Halt) → IsErrAnd result (λ e. e ≡ halt) → spare result ≡ lost halt
spare_from (Ok x) halt is = absurd is
spare_from (Err e) halt is = ap lost is

pub spent_from : {B : Type 0} (result : Result B Halt) (halt : Halt) → IsErrAnd result (λ e. e ≡ halt) → spent result ≡ lost halt
spent_from (Ok x) halt is = absurd is
spent_from (Err e) halt is = ap lost is

pub spent_free : {B : Type 0} (result : Result B Halt) (P : B → Type 0) → MatchResult result P (λ e. e ≡ NoMemory) → spent result ≡ 1
spent_free (Ok x) P is = refl
spent_free (Err e) P is = ap lost is

pub spent_err : {B : Type 0} (result : Result B Halt) → IsErr result → spent result ≡ spare result
spent_err (Ok x) is = absurd (cc)
spent_err (Err e) is = refl

pub ok_spent : {B : Type 0} (result : Result B Halt) (P R : B → Type 0) → IfOk result P → ((x : B) → spent result ≡ 1 → P x → R x) → IfOk result R
ok_spent (Ok x) P R is f = f x refl is
ok_spent (Err e) P R is f = tt

pub match_spare : {B : Type 0} (result : Result B Halt) (P : B → Type 0) (Q : Halt → Type 0) (S : Type 0) → MatchResult result P Q → ((x : B) → spare result ≡ 0 → P x → S) → ((e : Halt) → spare result ≡ lost e → IsErr result → Q e → S) → S
match_spare (Ok x) P Q S is f g = f x refl is
match_spare (Err e) P Q S is f g = g e refl refl is
