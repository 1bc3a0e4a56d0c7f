use Rattle.sve_enumerated.proofs.enumeration.with_enumeration.Goals as goal

pub returns : goal.returns
returns c = rw (← c.enumeration_in-found.ensures) c.names_over.ensures
