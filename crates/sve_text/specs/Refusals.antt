-- Why a commit is refused: the first of its edits that has a reason on what the earlier ones left, and its first reason.
use Rattle.std.specs.Prelude.{ℕ, ◌+◌, ◌==◌, ◌&&◌, Bool, not, nat_lt, nat_le, if◌then◌else◌, List, [], ◌∷◌, ◌++◌, length, Option, Some, None, option_map, bytes_eq}
use Rattle.std.specs.List.{list_any}
use Rattle.std.specs.Option.{option_or}
use Rattle.sve_text.specs.declared.edit.Edit.{Edit}
use Rattle.sve_text.specs.declared.edit.Edit.TheVariants.{Put, Drop, Splice}
use Rattle.sve_text.specs.declared.edit.TheConstants.{MAX_FILE_LEN, MAX_FILES}
use Rattle.sve_text.specs.declared.why.Refusal.{Refusal}
use Rattle.sve_text.specs.declared.why.Why.{Why}
use Rattle.sve_text.specs.declared.why.Why.TheVariants.{NoFile, Stale, Range, FileTooLarge, TooManyFiles}
use Rattle.sve_text.specs.Rows.{Row, text_of, is_there, stamp_of, count}
use Rattle.sve_rope.specs.Splice.{spliced}
use Rattle.sve_text.specs.Files.{FilesValue, name_of, rows_after}

-- this reason where the test holds, else none
abbrev pub reason_if : Bool → Why → Option Why
reason_if test why = if test then Some why else None

-- so many bytes are above the limit of a file
abbrev pub too_large : ℕ → Option Why
too_large bytes = reason_if (nat_lt MAX_FILE_LEN bytes) (FileTooLarge bytes)

-- The first reason of a splice of this file, of which this is there: it is not there; its stamp is not `base`, where `named` does not say
-- that an earlier edit of the commit names it; the bytes that are cut do not all lie in it; it would be too large.
abbrev pub splice_reason : Bool → ℕ → ℕ → ℕ → ℕ → List ℕ → Option (List ℕ) → Option Why
splice_reason named stamp base offset cut new None = Some NoFile
splice_reason named stamp base offset cut new (Some old) =
    option_or (reason_if (not named && not (base == stamp)) (Stale stamp))
    (option_or (reason_if (nat_lt (length old) (offset + cut)) (Range (length old)))
    (too_large (length (spliced offset cut new old))))

-- the first reason of an edit, where these rows are what the earlier edits of its commit left, and `named` tells whether one of them names its file
abbrev pub reason : Bool → List Row → Edit → Option Why
reason named rows (Put name text) =
    option_or (too_large (length text))
    (reason_if (not (is_there rows name) && nat_le MAX_FILES (count rows)) TooManyFiles)
reason named rows (Drop name) = reason_if (not (is_there rows name)) NoFile
reason named rows (Splice name base offset cut text) =
    splice_reason named (stamp_of rows name) base offset cut text (text_of rows name)

-- some edit names the file
abbrev pub name_file : List Edit → List ℕ → Bool
name_file edits name = list_any (λ e. bytes_eq name (name_of e)) edits

-- The first reason of an edit of a commit on these rows, behind these earlier edits. The stamp of what they touch is asked of nobody, so that it
-- is 0 here whichever revision the commit would make.
abbrev pub reason_behind : List Row → List Edit → Edit → Option Why
reason_behind rows earlier e = reason (name_file earlier (name_of e)) (rows_after 0 rows earlier) e

-- the first of these edits that has a reason, behind the earlier ones of their commit; edits count from 1
abbrev pub refused_behind : List Row → List Edit → List Edit → Option Refusal
refused_behind rows earlier [] = None
refused_behind rows earlier (e ∷ es) =
    option_or
    (option_map (λ why. record { edit = length earlier + 1; why = why }) (reason_behind rows earlier e))
    (refused_behind rows (earlier ++ e ∷ []) es)

-- why the commit of these edits is refused, if it is
abbrev pub refusal_of : FilesValue → List Edit → Option Refusal
refusal_of files edits = refused_behind files.rows [] edits
