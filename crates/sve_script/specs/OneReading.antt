-- Bytes are read one way: as one session, as JSON that is not as it should be at one path, as a session beyond one limit, or as no JSON.
use Rattle.std.specs.Prelude.{ℕ, ◌≡◌, ◌⊎◌, List}
use Rattle.sve_script.specs.declared.sessions.Script.{Script}
use Rattle.sve_script.specs.declared.sessions.Which.{Which}
use Rattle.sve_script.specs.Session.{IsSession, IsMisshapen, IsBeyondLimit, IsNotJson}

-- no bytes are two sessions
abbrev pub IsOfOneSession : List ℕ → Type 0
IsOfOneSession bytes = (first second : Script) → IsSession bytes first → IsSession bytes second → first ≡ second

-- a session is nothing else
abbrev pub IsSessionAlone : List ℕ → Type 0
IsSessionAlone bytes = (script : Script) → IsSession bytes script → ((path : List ℕ) → ¬ IsMisshapen bytes path) × ((which : Which) (number : ℕ) → ¬ IsBeyondLimit bytes which number) × ¬ IsNotJson bytes

-- bytes have one first fault, and are beyond no limit then, and are JSON
abbrev pub IsMisshapenOnce : List ℕ → Type 0
IsMisshapenOnce bytes = (path : List ℕ) → IsMisshapen bytes path → ((other : List ℕ) → IsMisshapen bytes other → path ≡ other) × ((which : Which) (number : ℕ) → ¬ IsBeyondLimit bytes which number) × ¬ IsNotJson bytes

-- bytes are beyond one limit first, and are JSON then
abbrev pub IsBeyondOneLimit : List ℕ → Type 0
IsBeyondOneLimit bytes = (which : Which) (number : ℕ) → IsBeyondLimit bytes which number → ((w : Which) (n : ℕ) → IsBeyondLimit bytes w n → (which ≡ w) × (number ≡ n)) × ¬ IsNotJson bytes

-- the bytes are one of the four
abbrev pub IsReadSomehow : List ℕ → Type 0
IsReadSomehow bytes =
    ((script : Script) × IsSession bytes script)
    ⊎ ((path : List ℕ) × IsMisshapen bytes path)
    ⊎ ((which : Which) × (number : ℕ) × IsBeyondLimit bytes which number)
    ⊎ IsNotJson bytes
