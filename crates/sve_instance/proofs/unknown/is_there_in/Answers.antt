-- What a name stands for around the instance is what it stands for where the text was read so far.
use Rattle.std.proofs.Common.{◌∙◌, ap}
use Rattle.sve_connect.specs.Seen.{Seen}
use Rattle.sve_instance.specs.Unknown.{is_there}
use Rattle.sve_instance.proofs.unknown.is_there_in.Goals as goal

pub returns : goal.returns
returns g c = c.is_there.ensures ∙ ap (λ (s : Seen). is_there (s.thing c.args.name.now)) c.surroundings-around.ensures
