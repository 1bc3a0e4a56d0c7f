use Rattle.std.proofs.Common.{◌≡◌, ℕ, List, map, string_bytes, ap}
use Rattle.sve_serve.specs.Endings.{Seen}
use Rattle.sve_serve.proofs.Causes as cause
use Rattle.sve_serve.proofs.serving.serve.Goals as goal

pub returns : goal.returns
returns g c =
    let words : List (List ℕ) = map string_bytes c.args.words.now in
    let s : Seen = record { bytes = g.S.Source.left c.args.source.now; faults = g.S.Source.faults c.args.source.now } in
    let s' : Seen = record { bytes = g.S.Source.left c.served.new.source; faults = g.S.Source.faults c.served.new.source } in
    let k : Seen = record { bytes = g.K.Sink.held c.args.sink.now; faults = g.K.Sink.faults c.args.sink.now } in
    let k' : Seen = record { bytes = g.K.Sink.held c.served.new.sink; faults = g.K.Sink.faults c.served.new.sink } in
    let unread : Type 0 = c.served.new.source ≡ c.args.source.now in
    let unwritten : Type 0 = c.served.new.sink ≡ c.args.sink.now in
    let r = c.served.result in
    let e = c.served.ensures in
    record {
      headline = cause.headline words _ unread unwritten s s' k k' r e;
      made = cause.made words _ unread unwritten s s' k k' r e;
      done_where = cause.done_where words _ unread unwritten s s' k k' r e;
      said = cause.said words _ unread unwritten s s' k k' r e;
      read_to_end = cause.read_to_end words _ unread unwritten s s' k k' r e;
      usage_only = cause.usage_only words _ unread unwritten s s' k k' r e;
      usage_where = cause.usage_where words _ unread unwritten s s' k k' r e;
      made_where = cause.made_where words _ unread unwritten s s' k k' r e;
      read_fault = cause.read_fault words _ unread unwritten s s' k k' r e;
      write_fault = cause.write_fault words _ unread unwritten s s' k k' r e;
      cut_short = cause.cut_short words _ unread unwritten s s' k k' r e;
      read = cause.read words _ unread unwritten s s' k k' (λ same. ap g.S.Source.left same) r e;
      too_large = cause.too_large words _ unread unwritten s s' k k' r e;
      no_memory = cause.no_memory words _ unread unwritten s s' k k' r e;
      answered = λ bytes script over small session reads writes. cause.answered words _ unread unwritten s s' k k' bytes script (over, reads, writes) small session r e;
      refused = λ bytes over small bad reads writes. cause.refused words _ unread unwritten s s' k k' bytes (over, reads, writes) small bad r e;
      too_many = λ bytes over many reads writes. cause.too_many words _ unread unwritten s s' k k' bytes (over, reads, writes) many r e;
    }
