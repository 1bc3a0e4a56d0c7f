-- What JSON values are taken for, and the path of the first value that is not as it should be (own). A value is tested before its parts.
use Rattle.std.specs.Prelude.{ℕ, ◌+◌, ◌&&◌, ◌==◌, Bool, List, [], ◌∷◌, ◌++◌, Option, Some, None, Result, Ok, Err, length, nat_le, is_some, decimal, option_and_then, if◌then◌else◌}
use Rattle.std.specs.List.{list_all}
use Rattle.serde_json.specs.Data.{Data, Items, no_items, item, Members, no_members, member}
use Rattle.serde_json.specs.Find.{as_str, as_number, as_u64, as_array, as_object, get_member}

-- what a value is taken for, or else the path of the first value in it that is not as it should be
abbrev pub Shaped : Type 0 → Type 0
Shaped A = Result A (List ℕ)

-- ---- paths: `/` and a member's name, or an index from 0, for each step

abbrev pub below : List ℕ → List ℕ → List ℕ
below step path = 47 ∷ step ++ path

-- what a value is taken for that stands under this step
abbrev pub under : {A : Type 0} → List ℕ → Shaped A → Shaped A
under step (Ok x) = Ok x
under step (Err path) = Err (below step path)

-- ---- one thing after another

abbrev pub shaped_map : {A B : Type 0} → (A → B) → Shaped A → Shaped B
shaped_map f (Ok x) = Ok (f x)
shaped_map f (Err path) = Err path

abbrev pub shaped_then : {A B : Type 0} → (A → Shaped B) → Shaped A → Shaped B
shaped_then f (Ok x) = f x
shaped_then f (Err path) = Err path

-- what is there, or else a fault of the value itself
abbrev pub shaped_of : {A : Type 0} → Option A → Shaped A
shaped_of (Some x) = Ok x
shaped_of None = Err []

-- ---- single values

abbrev pub string_of : Data → Shaped (List ℕ)
string_of value = shaped_of (as_str value)

-- the value as a whole number below 2 ^ 64
abbrev pub whole_of : Data → Option ℕ
whole_of value = option_and_then as_u64 (as_number value)

abbrev pub at_most : ℕ → ℕ → Shaped ℕ
at_most most number = if nat_le number most then Ok number else Err []

-- the value as a whole number up to this one
abbrev pub whole_to : ℕ → Data → Shaped ℕ
whole_to most value = shaped_then (at_most most) (shaped_of (whole_of value))

-- ---- objects

abbrev pub count_members : Members → ℕ
count_members no_members = 0
count_members (member key value rest) = count_members rest + 1

-- the object has a member for each of these keys, and no other
abbrev pub has_exactly : List (List ℕ) → Members → Bool
has_exactly keys members = count_members members == length keys && list_all (λ key. is_some (get_member key members)) keys

-- what the member under this key is, if it is there and that
abbrev pub find_as : {A : Type 0} → (Data → Option A) → List ℕ → Members → Option A
find_as found key members = option_and_then found (get_member key members)

-- what the member under this key is taken for
abbrev pub member_as : {A : Type 0} → (Data → Shaped A) → List ℕ → Members → Shaped A
member_as taken key members = under key (shaped_then taken (shaped_of (get_member key members)))

abbrev pub object_as : {A : Type 0} → (Members → Shaped A) → Data → Shaped A
object_as taken value = shaped_then taken (shaped_of (as_object value))

-- ---- arrays

-- what the items from this index on are taken for, each for itself
abbrev pub items_as : {A : Type 0} → (Data → Shaped A) → ℕ → Items → Shaped (List A)
items_as taken index no_items = Ok []
items_as taken index (item value rest) = shaped_then (λ first. shaped_map (λ others. first ∷ others) (items_as taken (index + 1) rest)) (under (decimal index) (taken value))

abbrev pub array_as : {A : Type 0} → (Data → Shaped A) → Data → Shaped (List A)
array_as taken value = shaped_then (items_as taken 0) (shaped_of (as_array value))
