-- One log and its prefixes (own).
-- The log holds the accepted commits in their one order, and only grows. So what anybody has seen of it is a prefix of it, and of two such prefixes the shorter is a prefix of the longer.
use Rattle.std.specs.Prelude.{ℕ, ◌<◌, ◌≤◌, max, List, [], ◌∷◌, ◌++◌, length, nat_eq, nat_le, if◌then◌else◌}
use Rattle.std.specs.List.{All, filter}
use Rattle.sve_board.specs.declared.knowledge.Entry.{Entry}

-- clients count from 1
abbrev pub IsClient : ℕ → ℕ → Type 0
IsClient clients number = (0 < number) × (number ≤ clients)

-- each entry is one of these clients'
abbrev pub AreOfClients : ℕ → List Entry → Type 0
AreOfClients clients log = All (λ entry. IsClient clients entry.client) log

-- the entries of one client, in the order of the log
abbrev pub entries_of : ℕ → List Entry → List Entry
entries_of number log = filter (λ entry. nat_eq entry.client number) log

-- of two prefixes the longer one
abbrev pub longer : List Entry → List Entry → List Entry
longer first second = if nat_le (length second) (length first) then first else second

-- the largest number, or 0 where there is none
abbrev pub largest : List ℕ → ℕ
largest [] = 0
largest (look ∷ looks) = max (largest looks) look

-- a length that a client is told of counts as a look, unless it has looked up a larger one: looks never fall
abbrev pub with_length : List ℕ → ℕ → List ℕ
with_length looks n = if nat_le (largest looks) n then looks ++ n ∷ [] else looks
