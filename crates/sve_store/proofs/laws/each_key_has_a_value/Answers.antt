use Rattle.std.proofs.Common.{refl}
use Rattle.sve_store.specs.Made.{values_of}
use Rattle.sve_store.proofs.Ways.{no_input}
use Rattle.sve_store.proofs.Tables.{table_of_all}
use Rattle.sve_store.proofs.laws.each_key_has_a_value.Goals as goal

pub returns : goal.returns
returns g c = λ files.
    table_of_all g.K.Key.Ord.cmp (values_of (g.K.Keyed.given files)) g.K.Kinds.make (λ a b. (g.met.K.Keyed.one_key a b).0) (λ k. (g.met.K.Keyed.one_key k k).1 refl) (record {
      height = g.K.Ending.height files;
      reads = g.K.Ending.reads files;
      lower = λ k f told j none tells needs. g.met.K.Ending.lower files k f told j (no_input (g.K.Keyed.given files k) (g.K.Keyed.is_input k) (g.met.K.Keyed.inputs files k) none) (λ q v is low. tells q v is) needs;
      reading = λ k f told j none tells needs. g.met.K.Ending.reading files k f told j (no_input (g.K.Keyed.given files k) (g.K.Keyed.is_input k) (g.met.K.Keyed.inputs files k) none) tells needs;
    })
