use Rattle.sve_ask.specs.Sound.{Defined}
use Rattle.sve_kept.proofs.Longer.{sound_longer}
use Rattle.sve_kept.proofs.laws.sound_memos_stay_sound.Given as given
use Rattle.sve_kept.proofs.laws.sound_memos_stay_sound.Goals as goal

abbrev D : (g : given.Over) → Defined g.row.K-Key.Denot g.row.K-Value.Denot
D g = record { cmp = g.K.Key.Ord.cmp; given = g.K.Keyed.given; make = g.K.Kinds.make; ranked = g.K.Keyed.ranked; serves = g.K.Keyed.serves }

pub returns : goal.returns
returns g c = λ earlier later memo goes sound. sound_longer (D g) earlier later goes memo sound
