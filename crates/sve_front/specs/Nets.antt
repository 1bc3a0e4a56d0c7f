-- The net type that is in force at a place of an expanded text (IEEE 1800-2017, 22.8).
use Rattle.std.specs.Prelude.{ℕ, List, [], ◌∷◌, map, nat_lt, if◌then◌else◌}
use Rattle.sve_bytes.specs.declared.net_type.NetType.{NetType}
use Rattle.sve_bytes.specs.declared.net_type.NetType.TheVariants.{Wire}

-- what is in force behind so many bytes: in their order directives name net types, each from behind so many bytes on; in front
-- of the first of them `net` is in force
abbrev pub net_from : NetType → List (ℕ × NetType) → ℕ → NetType
net_from net [] at = net
net_from net (named ∷ later) at = if nat_lt at named.0 then net else net_from named.1 later at

-- the same behind each of these numbers of bytes, where a wire is in force at first
abbrev pub nets_at : List (ℕ × NetType) → List ℕ → List NetType
nets_at named starts = map (net_from Wire named) starts
