-- What a seat knows, and what contracts see of it (own).
use Rattle.std.specs.Prelude.{ℕ, ◌+◌, List, [], replicate}
use Rattle.atomic_table.specs.Seated.{TableId}
use Rattle.sve_board.specs.declared.knowledge.Entry.{Entry}
use Rattle.sve_board.specs.declared.knowledge.ClientView.{ClientView}
use Rattle.sve_board.specs.declared.knowledge.WriterView.{WriterView}
use Rattle.sve_board.specs.declared.knowledge.View.{View}
use Rattle.sve_board.specs.declared.knowledge.View.TheVariants.{Writer, Client, Note, Spent}
use Rattle.sve_board.specs.Values.{PassValue, WriterValue, NoteValue}

-- the client with this number that knows nothing
abbrev pub new_client : ℕ → ClientView
new_client number = record { number = number; seen = []; mine = []; looks = []; raises = 0; unmet = [] }

-- a seat with a client's knowledge knows this; every other seat knows nothing as a client
abbrev pub client_in : View → ClientView
client_in (Writer w) = new_client 0
client_in (Client c) = c
client_in (Note log) = new_client 0
client_in Spent = new_client 0

-- a seat with the writer's knowledge knows this; every other seat knows nothing as a writer
abbrev pub writer_in : View → WriterView
writer_in (Writer w) = w
writer_in (Client c) = record { log = []; known = []; seats = 0; returned = [] }
writer_in (Note log) = record { log = []; known = []; seats = 0; returned = [] }
writer_in Spent = record { log = []; known = []; seats = 0; returned = [] }

-- what a note tells
abbrev pub told_in : View → List Entry
told_in (Writer w) = []
told_in (Client c) = []
told_in (Note log) = log
told_in Spent = []

-- as contracts see them
abbrev pub pass_in : TableId → View → PassValue
pass_in table v = let c = client_in v in record { table = table; number = c.number; seen = c.seen; mine = c.mine; looks = c.looks; raises = c.raises }

abbrev pub writer_of : TableId → View → WriterValue
writer_of table v = let w = writer_in v in record { table = table; log = w.log; known = w.known }

abbrev pub note_in : TableId → View → NoteValue
note_in table v = record { table = table; seen = told_in v }

-- what the seat of a pass knows between two calls
abbrev pub client_view : PassValue → View
client_view pass = Client (record { number = pass.number; seen = pass.seen; mine = pass.mine; looks = pass.looks; raises = pass.raises; unmet = [] })

-- what the writer's seat knows among so many seats, when these passes were handed back
abbrev pub writer_view : ℕ → List ClientView → WriterValue → View
writer_view seats returned writer = Writer (record { log = writer.log; known = writer.known; seats = seats; returned = returned })

abbrev pub note_view : NoteValue → View
note_view note = Note note.seen

-- the writer's seat before the log begins
abbrev pub opening_view : ℕ → ℕ → View
opening_view clients seats = Writer (record { log = []; known = replicate (clients + 1) 0; seats = seats; returned = [] })
