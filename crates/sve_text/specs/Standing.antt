-- The reason of an edit by what is told of its file: the length of its text, its stamp, and whether an earlier edit of the commit names it.
use Rattle.std.specs.Prelude.{ℕ, ◌+◌, ◌-◌, ◌==◌, ◌&&◌, min, Bool, not, nat_lt, nat_le, if◌then◌else◌, length, Option, Some, None, is_some}
use Rattle.std.specs.Option.{option_or}
use Rattle.sve_text.specs.declared.edit.Edit.{Edit}
use Rattle.sve_text.specs.declared.edit.Edit.TheVariants.{Put, Drop, Splice}
use Rattle.sve_text.specs.declared.edit.TheConstants.{MAX_FILES}
use Rattle.sve_text.specs.declared.why.Why.{Why}
use Rattle.sve_text.specs.declared.why.Why.TheVariants.{NoFile, Stale, Range, TooManyFiles}
use Rattle.sve_text.specs.Refusals.{reason_if, too_large}

-- the length of a text of this length in which so many new bytes take the place of those that begin at this offset
abbrev pub spliced_length : ℕ → ℕ → ℕ → ℕ → ℕ
spliced_length offset cut new old = min offset old + new + (old - (offset + cut))

-- the reason of a splice in a text of this length, whatever its base
abbrev pub reach_reason : ℕ → ℕ → ℕ → ℕ → Option Why
reach_reason offset cut new old =
    option_or (reason_if (nat_lt old (offset + cut)) (Range old)) (too_large (spliced_length offset cut new old))

abbrev pub splice_reason_told : Bool → ℕ → ℕ → ℕ → ℕ → ℕ → Option ℕ → Option Why
splice_reason_told named stamp base offset cut new None = Some NoFile
splice_reason_told named stamp base offset cut new (Some old) =
    option_or (reason_if (not named && not (base == stamp)) (Stale stamp)) (reach_reason offset cut new old)

abbrev pub put_reason_told : Bool → ℕ → ℕ → Option Why
put_reason_told is_there there bytes =
    option_or (too_large bytes) (reason_if (not is_there && nat_le MAX_FILES there) TooManyFiles)

-- the reason of an edit whose file is told so, where so many files are there
abbrev pub reason_told : Bool → ℕ → Option ℕ → ℕ → Edit → Option Why
reason_told named stamp old there (Put name text) = put_reason_told (is_some old) there (length text)
reason_told named stamp old there (Drop name) = reason_if (not (is_some old)) NoFile
reason_told named stamp old there (Splice name base offset cut text) =
    splice_reason_told named stamp base offset cut (length text) old

-- how many files are there after an edit without a reason, of so many before it
abbrev pub count_told : Bool → ℕ → Edit → ℕ
count_told is_there there (Put name text) = if is_there then there else there + 1
count_told is_there there (Drop name) = if is_there then there - 1 else there
count_told is_there there (Splice name base offset cut text) = there
