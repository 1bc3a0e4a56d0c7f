use Rattle.sve_macro.proofs.Templates.{pushed_behind}
use Rattle.sve_macro.specs.Template.{bytes_between}
use Rattle.sve_macro.proofs.template.push_behind.Goals as goal

pub returns : goal.returns
returns c = λ value. pushed_behind c.args.text.now value c.args.pieces.now.items c.push_run.new.pieces.items c.push.new.self.items (bytes_between c.args.from c.args.to c.args.text.now) c.args.piece (c.in_ok-push_run.ensures value) c.in_ok-push.ensures.items
