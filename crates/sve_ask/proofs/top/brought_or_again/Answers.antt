use Rattle.sve_ask.proofs.top.brought_or_again.Goals as goal

pub again-requires-clause-lacking : goal.again-requires-clause-lacking
again-requires-clause-lacking g c = c.is_serving-serving.ensures.lacking c.if-serving.false
