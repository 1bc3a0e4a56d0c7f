use Rattle.std.proofs.Common.{◌∙◌, ap, sym, Some}
use Rattle.std.specs.List.{prefix_len}
use Rattle.std.proofs.lemmas.List.Folds.{length-prefix_len}
use Rattle.sve_token.specs.declared.kind.Kind.TheVariants.{Identifier}
use Rattle.sve_lex.specs.Bytes.{is_printable}
use Rattle.sve_lex.specs.Classes.{named, escaped_class}
use Rattle.sve_lex.proofs.Runs.{filled_yes}
use Rattle.sve_lex.proofs.scan.escaped.Goals as goal

pub returns : goal.returns
returns c = rw (c.named.ensures, c.printable_len-n.ensures.value)
    (sym (filled_yes is_printable escaped_class c.args.rest.now (λ z. c.if-n-eq0.false (c.printable_len-n.ensures.value ∙ z))
    ∙ ap (λ n. Some (named Identifier n, prefix_len is_printable c.args.rest.now)) (length-prefix_len is_printable c.args.rest.now)))
