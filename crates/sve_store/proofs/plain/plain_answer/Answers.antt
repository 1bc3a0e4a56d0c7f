use Rattle.std.proofs.Common.{refl, ◌∙◌, subst}
use Rattle.sve_store.specs.Made.{values_of}
use Rattle.sve_store.specs.Values.{IsValue}
use Rattle.sve_store.specs.Snapshots.{SnapshotValue}
use Rattle.sve_store.proofs.Ways.{no_input}
use Rattle.sve_store.proofs.Tables.{gives_one, table_of_all}
use Rattle.sve_store.proofs.plain.plain_answer.Goals as goal

pub returns-in-Ok : goal.returns-in-Ok
returns-in-Ok g c =
    let files = c.args.snapshot.now.files in
    let cmp = g.K.Key.Ord.cmp in
    let given = values_of (g.K.Keyed.given files) in
    let make = g.K.Kinds.make in
    let table = table_of_all cmp given make (λ a b. (g.met.K.Keyed.one_key a b).0) (λ k. (g.met.K.Keyed.one_key k k).1 refl) (record {
      height = g.K.Ending.height files;
      reads = g.K.Ending.reads files;
      lower = λ k f told j none tells needs. g.met.K.Ending.lower files k f told j (no_input (g.K.Keyed.given files k) (g.K.Keyed.is_input k) (g.met.K.Keyed.inputs files k) none) (λ q v is low. tells q v is) needs;
      reading = λ k f told j none tells needs. g.met.K.Ending.reading files k f told j (no_input (g.K.Keyed.given files k) (g.K.Keyed.is_input k) (g.met.K.Keyed.inputs files k) none) tells needs;
    }) in (
      table.0,
      table.1,
      c.in-Ok.ensures.answered table.0 (λ k f v is.
          let told = subst (λ (s : SnapshotValue). IsValue cmp (values_of (g.K.Keyed.given s.files)) make k f v) c.new-from.ensures.snapshot is in
          (g.met.K.Kinds.own_fuel files k f v told).1 ∙ (gives_one cmp given make told.1 (table.1 k f).1).0),
    )
