use Rattle.std.proofs.Common.{Err, map, string_bytes, refl, ap, sym, ◌∙◌, subst}
use Rattle.sve_serve.specs.declared.status.Status.TheVariants.{Usage, TooLarge}
use Rattle.sve_serve.specs.Endings.{Seen, IsReadWhole}
use Rattle.sve_serve.specs.Runs.{IsOutputForSession}
use Rattle.sve_serve.specs.Words.{IsRun, IsMade}
use Rattle.sve_serve.proofs.Endings.{made_ends, output_ends, session_output}
use Rattle.sve_serve.proofs.serving.served.Goals as goal

pub returns-in-Ok-Usage : goal.returns-in-Ok-Usage
returns-in-Ok-Usage g c =
    output_ends (map string_bytes c.args.words.now) _ _ _
    (record { bytes = g.S.Source.left c.args.source.now; faults = g.S.Source.faults c.args.source.now })
    (record { bytes = g.S.Source.left c.args.source.now; faults = g.S.Source.faults c.args.source.now })
    (record { bytes = g.K.Sink.held c.args.sink.now; faults = g.K.Sink.faults c.args.sink.now })
    (record { bytes = g.K.Sink.held c.say.new.sink; faults = g.K.Sink.faults c.say.new.sink })
    Usage c.say.result _ (sym c.in-Ok-Usage.ensures.said ∙ c.in-Ok-Usage.field-0-is, refl, refl) c.say.ensures

pub returns-in-Ok-Make : goal.returns-in-Ok-Make
returns-in-Ok-Make g c =
    let asked : IsMade (map string_bytes c.args.words.now) = (c.in-Ok-Make.n, sym c.in-Ok-Make.ensures.said ∙ c.in-Ok-Make.field-0-is) in
    made_ends (map string_bytes c.args.words.now) _ _ _
    (record { bytes = g.S.Source.left c.args.source.now; faults = g.S.Source.faults c.args.source.now })
    (record { bytes = g.S.Source.left c.args.source.now; faults = g.S.Source.faults c.args.source.now })
    (record { bytes = g.K.Sink.held c.args.sink.now; faults = g.K.Sink.faults c.args.sink.now })
    (record { bytes = g.K.Sink.held c.make.new.sink; faults = g.K.Sink.faults c.make.new.sink })
    c.make.result asked refl c.make.ensures

pub returns-in-Err-TooLarge : goal.returns-in-Err-TooLarge
returns-in-Err-TooLarge g c =
    let asked : IsRun (map string_bytes c.args.words.now) = (c.in-Ok-Run.options, sym c.in-Ok-Run.ensures.said ∙ c.in-Ok-Run.field-0-is) in
    output_ends (map string_bytes c.args.words.now) _ _ _
    (record { bytes = g.S.Source.left c.args.source.now; faults = g.S.Source.faults c.args.source.now })
    (record { bytes = g.S.Source.left c.read_session.new.source; faults = g.S.Source.faults c.read_session.new.source })
    (record { bytes = g.K.Sink.held c.args.sink.now; faults = g.K.Sink.faults c.args.sink.now })
    (record { bytes = g.K.Sink.held c.say-in-Err-TooLarge.new.sink; faults = g.K.Sink.faults c.say-in-Err-TooLarge.new.sink })
    TooLarge c.say-in-Err-TooLarge.result _ (asked, c.in-Err-TooLarge.ensures.too_large (ap Err c.in-Err-TooLarge.field-0-is), refl) c.say-in-Err-TooLarge.ensures

pub returns-in-Ok-reply_to : goal.returns-in-Ok-reply_to
returns-in-Ok-reply_to g c =
    let asked : IsRun (map string_bytes c.args.words.now) = (c.in-Ok-Run.options, sym c.in-Ok-Run.ensures.said ∙ c.in-Ok-Run.field-0-is) in
    let before : Seen = record { bytes = g.S.Source.left c.args.source.now; faults = g.S.Source.faults c.args.source.now } in
    let after : Seen = record { bytes = g.S.Source.left c.read_session.new.source; faults = g.S.Source.faults c.read_session.new.source } in
    let whole : IsReadWhole before after c.in-Ok.bytes.items = record { in_limit = c.in-Ok.ensures.in_limit; read = c.in-Ok.ensures.read; all = c.in-Ok.ensures.all } in
    let reply = subst (IsOutputForSession c.in-Ok-Run.options _ c.in-Ok.bytes.items c.in-Ok-reply_to.reply.status) (sym c.deref.ensures.value) c.in-Ok-reply_to.ensures in
    output_ends (map string_bytes c.args.words.now) _ _ _ before after
    (record { bytes = g.K.Sink.held c.args.sink.now; faults = g.K.Sink.faults c.args.sink.now })
    (record { bytes = g.K.Sink.held c.say-in-Ok-reply_to.new.sink; faults = g.K.Sink.faults c.say-in-Ok-reply_to.new.sink })
    c.in-Ok-reply_to.reply.status c.say-in-Ok-reply_to.result _
    (session_output (map string_bytes c.args.words.now) _ _ before after c.in-Ok.bytes.items c.in-Ok-reply_to.reply.status _ asked whole reply) c.say-in-Ok-reply_to.ensures
