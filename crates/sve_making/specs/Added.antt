-- Elements that are added for what the index takes from them (own).
use Rattle.std.specs.Prelude.{◌≡◌, ◌++◌, List, map}
use Rattle.sve_index.specs.declared.source.FileElement.{FileElement}
use Rattle.sve_gist.specs.Gists.{Gist, gist_of}
use Rattle.sve_store.specs.Made.{Made, Done}
use Rattle.sve_key.specs.declared.key.Key.{Key}

-- elements were added whose gists are made
abbrev pub Adds : Made Key (List Gist) → List FileElement → List FileElement → Type 0
Adds made old new = (own : List FileElement) × (new ≡ old ++ own) × (made ≡ Done (map gist_of own))
