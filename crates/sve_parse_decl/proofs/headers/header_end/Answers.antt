use Rattle.std.proofs.Common.{◌-◌}
use Rattle.std.proofs.lemmas.Result.{err_from_is_err_and}
use Rattle.sve_token.specs.declared.kind.Kind.TheVariants.{Semicolon}
use Rattle.sve_grammar.specs.Rule.{tok, opt}
use Rattle.sve_grammar.specs.Types.{parameter_ports, ports}
use Rattle.sve_parse_decl.proofs.Sequences.{third_fails}
use Rattle.sve_parse_decl.proofs.headers.header_end.Goals as goal

-- by hand: what is dropped here has many variants, and none of them matters
pub returns-in_err-end-clause-tree : goal.returns-in_err-end-clause-tree
returns-in_err-end-clause-tree c =
    let p = err_from_is_err_and c.from_residual-in_err-end.result c.from_residual-in_err-end.ensures.1 in
    rw (p.1, p.2)
    (third_fails c.args.tokens.now (512 - c.args.depth) (opt parameter_ports) (opt ports) (tok Semicolon) c.args.from c.in_ok-parameters.at c.in_ok-ports.semicolon _ _ c.in_err-end.field-0.0 c.in_ok-parameters.ensures.tree c.in_ok-ports.ensures.tree c.in_err-end.ensures.token)
