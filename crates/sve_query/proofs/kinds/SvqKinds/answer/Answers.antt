use Rattle.std.proofs.Common.{◌≡◌, true, Result, Ok, Err, IfOk, refl, ap}
use Rattle.sve_command.specs.declared.commands.Query.{Query}
use Rattle.sve_command.specs.declared.commands.Query.TheVariants.{File, Expand, Tops, Instance, Tree, TypeOf, Param, Resolve, Diagnostics}
use Rattle.sve_key.specs.declared.key.Key.{Key}
use Rattle.sve_make.specs.Make.{input_of}
use Rattle.sve_query.specs.Answering.{IsAskedFor}
use Rattle.sve_query.proofs.kinds.SvqKinds.answer.Goals as goal

pub returns-clause-quiet : goal.returns-clause-quiet
returns-clause-quiet g c = λ table follows quiet. c.answer_of.ensures.passes.counted (λ j one. quiet j 0 (one, refl))

-- all that is asked for is read off the files
asked_input : (query : Query) (k : Key) → IsAskedFor query k → input_of k ≡ true
asked_input (File name) k is = ap input_of is
asked_input (Expand name) k is = ap input_of is.1
asked_input Tops k is = is
asked_input (Instance path) k is = is
asked_input Tree k is = is
asked_input (TypeOf path name) k is = is
asked_input (Param path name) k is = is
asked_input (Resolve path name) k is = is
asked_input Diagnostics k is = is

-- what holds of each answer
of_each : {X E : Type 0} {P : X → Type 0} (r : Result X E) → ((x : X) → P x) → IfOk r P
of_each (Ok x) h = h x
of_each (Err e) h = tt

pub returns-clause-done : goal.returns-clause-done
returns-clause-done g c = λ remembers table follows. of_each c.answer_of.result (λ answer done k f not asks. let is = asked_input c.args.q.now k asks.0 in absurd (cc))
