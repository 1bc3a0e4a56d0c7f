use Rattle.std.proofs.Common.{sym, ap, ◌∙◌}
use Rattle.sve_ask.specs.Sound.{Defined}
use Rattle.sve_ask.proofs.Watching.{ok_map}
use Rattle.sve_reader.proofs.Served.{sound_with, ready_with, up_to_date_with, served_value}
use Rattle.sve_reader.proofs.answered.read_answer.Given as given
use Rattle.sve_reader.proofs.answered.read_answer.Goals as goal

abbrev D : (g : given.Over) → Defined g.row.K-Key.Denot g.row.K-Value.Denot
D g = record { cmp = g.K.Key.Ord.cmp; given = g.K.Keyed.given; make = g.K.Kinds.make; ranked = g.K.Keyed.ranked; serves = g.K.Keyed.serves }

pub returns-clause-sound : goal.returns-clause-sound
returns-clause-sound g c =
    let from = c.answer-answer.new.from in
    let keeps = c.answer-answer.ensures.keeps in
    let same = keeps.2 ∙ ap (λ l. l.snapshot) c.new-from.ensures.lent in
    let last = c.fresh-1.given.1 (sym (keeps.1 ∙ c.new-from.ensures.same_fresh)) ∙ c.end-watch.ensures.fresh in
    sound_with (D g) from.lent.now.snapshot c.args.lent.now.snapshot same from.fresh.now.memos _ (ap (λ f. f.memos) last) from.sound

pub returns-clause-still : goal.returns-clause-still
returns-clause-still g c = λ k fuel up.
    let from = c.answer-answer.new.from in
    let keeps = c.answer-answer.ensures.keeps in
    let lent = c.new-from.ensures.lent in
    let last = c.fresh-1.given.1 (sym (keeps.1 ∙ c.new-from.ensures.same_fresh)) ∙ c.end-watch.ensures.fresh in
    up_to_date_with (D g) c.args.lent.now.snapshot c.new-from.result.lent.now.snapshot c.args.lent.now.memos c.new-from.result.lent.now.memos c.args.fresh.now.memos c.new-from.result.fresh.now.memos from.fresh.now.memos _
    (ap (λ l. l.snapshot) lent) (ap (λ l. l.memos) lent) (ap (λ f. f.memos) c.new-from.ensures.fresh) (ap (λ f. f.memos) last) keeps.5 k fuel up

pub returns-clause-answer : goal.returns-clause-answer
returns-clause-answer g c =
    let snapshot = c.args.lent.now.snapshot in
    let table = c.each_key_has_a_value.ensures snapshot.files in
    let same = ap (λ l. l.snapshot) c.new-from.ensures.lent in
    let told = c.answer-answer.ensures.answered table.0 (λ k f v is. served_value (D g) g.row.K-Value.coded g.K.Keyed.read_at c.new-from.result.lent.now.snapshot snapshot same table.0 table.1 (c.no_key_has_two_values.ensures snapshot.files) k f v is) in
    ok_map c.answer-answer.result _ _ told (λ answer is. (table.0, table.1, is))

pub returns-clause-quiet : goal.returns-clause-quiet
returns-clause-quiet g c = λ table is all.
    let snapshot = c.args.lent.now.snapshot in
    let lent = c.new-from.ensures.lent in
    let same = ap (λ l. l.snapshot) lent in
    let counted = g.K.Keyed.counted in
    let keeps = c.answer-answer.ensures.keeps in
    let still = c.answer-answer.ensures.quiet table (λ k f v told. served_value (D g) g.row.K-Value.coded g.K.Keyed.read_at c.new-from.result.lent.now.snapshot snapshot same table is (c.no_key_has_two_values.ensures snapshot.files) k f v told) (λ k f asks. ready_with (D g) c.new-from.result.lent.now.snapshot snapshot c.new-from.result.lent.now.memos c.args.lent.now.memos c.new-from.result.fresh.now.memos c.args.fresh.now.memos same (ap (λ l. l.memos) lent) (ap (λ f. f.memos) c.new-from.ensures.fresh) k f (all k f asks)) in
    let last = c.kinds-1.given.1 (sym (keeps.0 ∙ c.new-from.ensures.same_kinds)) ∙ c.end-watch.ensures.kinds in
    ap counted last ∙ still ∙ ap counted c.new-from.ensures.kinds

pub returns-clause-done : goal.returns-clause-done
returns-clause-done g c = λ table is.
    let snapshot = c.args.lent.now.snapshot in
    let from = c.answer-answer.new.from in
    let keeps = c.answer-answer.ensures.keeps in
    let lent = c.new-from.ensures.lent in
    let same = ap (λ l. l.snapshot) lent in
    let last = c.fresh-1.given.1 (sym (keeps.1 ∙ c.new-from.ensures.same_fresh)) ∙ c.end-watch.ensures.fresh in
    let told = c.answer-answer.ensures.done tt table (λ k f v told. served_value (D g) g.row.K-Value.coded g.K.Keyed.read_at c.new-from.result.lent.now.snapshot snapshot same table is (c.no_key_has_two_values.ensures snapshot.files) k f v told) in
    ok_map c.answer-answer.result _ _ told (λ answer up done k f not asks. ready_with (D g) snapshot from.lent.now.snapshot c.args.lent.now.memos from.lent.now.memos _ from.fresh.now.memos
    (sym (keeps.2 ∙ same)) (sym (keeps.3 ∙ ap (λ l. l.memos) lent)) (ap (λ f. f.memos) last) k f (up done k f not asks))
