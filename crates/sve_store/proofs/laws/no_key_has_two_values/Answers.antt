use Rattle.sve_store.specs.Made.{values_of}
use Rattle.sve_store.proofs.Tables.{gives_one}
use Rattle.sve_store.proofs.laws.no_key_has_two_values.Goals as goal

pub returns : goal.returns
returns g c = λ files k f v w first second. (gives_one g.K.Key.Ord.cmp (values_of (g.K.Keyed.given files)) g.K.Kinds.make first.1 second.1).0
