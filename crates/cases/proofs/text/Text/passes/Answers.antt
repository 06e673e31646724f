-- Bytes that are the same byte by byte are the same.
use Rattle.std.specs.declared.option.Option.TheVariants.{Some}
use Rattle.std.proofs.lemmas.Slice.Eq.{strip_prefix_is}
use Rattle.std.proofs.lemmas.Bool.Decides.{Decides-eqb}
use Rattle.cases.proofs.text.Text.passes.Goals as goal

pub returns-clause-yes : goal.returns-clause-yes
returns-clause-yes c = λ _. strip_prefix_is Decides-eqb c.args.self.now.rest.now c.args.bytes.now (Some c.in-Some.rest) c.in-Some.ensures.cases
