use Rattle.std.proofs.Common.{None, sym, ◌∙◌}
use Rattle.sve_token.proofs.SpelledSo.{none_of_empty, empty_reserved, filled_if, found_value, found_reserved, keyword_exactly, reserved_exactly}
use Rattle.sve_token.proofs.lookup.keyword.Goals as goal

pub returns-then-is_empty-clause-value : goal.returns-then-is_empty-clause-value
returns-then-is_empty-clause-value c = none_of_empty c.args.bytes.now (sym c.is_empty.ensures ∙ c.if-is_empty.true)

pub returns-then-is_empty-clause-spelled : goal.returns-then-is_empty-clause-spelled
returns-then-is_empty-clause-spelled c = λ k. keyword_exactly c.args.bytes.now None k (none_of_empty c.args.bytes.now (sym c.is_empty.ensures ∙ c.if-is_empty.true))

pub returns-then-is_empty-clause-unread : goal.returns-then-is_empty-clause-unread
returns-then-is_empty-clause-unread c = λ k. reserved_exactly c.args.bytes.now None k (none_of_empty c.args.bytes.now (sym c.is_empty.ensures ∙ c.if-is_empty.true))

pub returns-then-is_empty-clause-reserved : goal.returns-then-is_empty-clause-reserved
returns-then-is_empty-clause-reserved c = empty_reserved c.args.bytes.now (sym c.is_empty.ensures ∙ c.if-is_empty.true)

pub returns-clause-value : goal.returns-clause-value
returns-clause-value c = found_value c.args.bytes.now c.kinds_at.result.now c.beside.result (filled_if c.args.bytes.now (sym c.is_empty.ensures ∙ c.if-is_empty.false)) c.kinds_at.ensures.table c.beside.ensures

pub returns-clause-spelled : goal.returns-clause-spelled
returns-clause-spelled c = λ k. keyword_exactly c.args.bytes.now c.beside.result k (found_value c.args.bytes.now c.kinds_at.result.now c.beside.result (filled_if c.args.bytes.now (sym c.is_empty.ensures ∙ c.if-is_empty.false)) c.kinds_at.ensures.table c.beside.ensures)

pub returns-clause-unread : goal.returns-clause-unread
returns-clause-unread c = λ k. reserved_exactly c.args.bytes.now c.beside.result k (found_value c.args.bytes.now c.kinds_at.result.now c.beside.result (filled_if c.args.bytes.now (sym c.is_empty.ensures ∙ c.if-is_empty.false)) c.kinds_at.ensures.table c.beside.ensures)

pub returns-clause-reserved : goal.returns-clause-reserved
returns-clause-reserved c = found_reserved c.args.bytes.now c.kinds_at.result.now c.beside.result (filled_if c.args.bytes.now (sym c.is_empty.ensures ∙ c.if-is_empty.false)) c.kinds_at.ensures.words c.beside.ensures
