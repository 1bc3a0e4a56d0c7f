-- The eight kinds of step: what a seat knows afterwards, and what the number that was found tells (own).
use Rattle.std.specs.Prelude.{◌≡◌, ℕ, ◌+◌, ◌<◌, ◌≤◌, [], ◌∷◌, ◌++◌, length, slice_set}
use Rattle.atomic_table.specs.Table.{Me, Step}
use mathlib.Core.List.{IsPrefix}
use Rattle.sve_board.specs.declared.knowledge.Entry.{Entry}
use Rattle.sve_board.specs.declared.knowledge.View.{View}
use Rattle.sve_board.specs.declared.knowledge.View.TheVariants.{Writer, Client, Note}
use Rattle.sve_board.specs.Log.{entries_of, longer, largest, with_length}
use Rattle.sve_board.specs.Knowledge.{new_client, client_in, writer_in, told_in}

-- a look: the number found joins the looks. It is not below them, nor below what was seen
abbrev pub after_look : ℕ → View → View
after_look n v = Client (record (client_in v) { looks = (client_in v).looks ++ n ∷ [] })

abbrev pub Looks : {S : Type 0} → Step S → Me S View → ℕ → Me S View → Type 0
Looks at before n after = (after ≡ (after_look n before.0, before.1)) × (largest (client_in before.0).looks ≤ n) × (length (client_in before.0).seen ≤ n)

-- a look that meets a note: what was seen and what the note tells are prefixes of the longer of both, which is seen from now on
abbrev pub after_meeting : View → View
after_meeting v =
    let c = client_in v in
    let seen = longer c.seen c.unmet in
    Client (record { number = c.number; seen = seen; mine = entries_of c.number seen; looks = with_length c.looks (length c.unmet); raises = c.raises; unmet = [] })

abbrev pub Meets : {S : Type 0} → Step S → Me S View → ℕ → Me S View → Type 0
Meets at before n after =
    let c = client_in before.0 in
    let seen = longer c.seen c.unmet in
    (after ≡ (after_meeting before.0, before.1)) × IsPrefix c.seen seen × IsPrefix c.unmet seen × (c.mine ≡ entries_of c.number c.seen) × (length (entries_of c.number seen) ≤ c.raises)

-- a raise: the number found was the client's own count
abbrev pub after_raise : View → View
after_raise v = Client (record (client_in v) { raises = (client_in v).raises + 1 })

abbrev pub Raises : {S : Type 0} → Step S → Me S View → ℕ → Me S View → Type 0
Raises at before n after = (after ≡ (after_raise before.0, before.1)) × (n ≡ (client_in before.0).raises)

-- a check: the writer knows the number found of this client, which has a place
abbrev pub after_check : ℕ → ℕ → View → View
after_check number n v = Writer (record (writer_in v) { known = slice_set (writer_in v).known number n })

abbrev pub Checks : {S : Type 0} → Step S → Me S View → ℕ → Me S View → Type 0
Checks at before n after = (after ≡ (after_check at.word n before.0, before.1)) × (at.word < length (writer_in before.0).known)

-- a publish: the number found was the length of the log
abbrev pub after_publish : Entry → View → View
after_publish entry v = Writer (record (writer_in v) { log = (writer_in v).log ++ entry ∷ [] })

abbrev pub Publishes : Entry → {S : Type 0} → Step S → Me S View → ℕ → Me S View → Type 0
Publishes entry at before n after = (after ≡ (after_publish entry before.0, before.1)) × (n ≡ length (writer_in before.0).log)

-- a note leaves the writer's seat
abbrev pub note_left : View → View
note_left v = Writer (record (writer_in v) { seats = (writer_in v).seats + 1 })

abbrev pub note_made : View → View
note_made v = Note (writer_in v).log

-- a note goes into a pass
abbrev pub note_taken : View → View → View
note_taken v note = Client (record (client_in v) { unmet = told_in note })

-- a pass leaves the writer's seat: its number is that of its seat
abbrev pub pass_left : View → View
pass_left v = Writer (record (writer_in v) { seats = (writer_in v).seats + 1 })

abbrev pub pass_made : View → View
pass_made v = Client (new_client (writer_in v).seats)

-- a pass goes back into the writer's seat
abbrev pub pass_returned : View → View → View
pass_returned v pass = Writer (record (writer_in v) { returned = (writer_in v).returned ++ client_in pass ∷ [] })
