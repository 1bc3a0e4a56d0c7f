use Rattle.std.proofs.Common.{◌∙◌, sym, ap}
use Rattle.std.specs.List.{prefix_len}
use Rattle.sve_bytes.specs.Bytes.{continues_identifier}
use Rattle.sve_lex.proofs.Pieces.{word_longest}
use Rattle.sve_lex.proofs.scan.word.Goals as goal

pub returns : goal.returns
returns c = rw (c.named.ensures, c.word_kind-kind.ensures) (sym (word_longest c.args.text.now _ c.requires (c.identifier_rest_len-n.ensures.value ∙ ap (prefix_len continues_identifier) c.past-more.ensures)))
