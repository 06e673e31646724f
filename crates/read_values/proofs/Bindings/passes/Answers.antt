use Rattle.read_values.proofs.Held.{same_passes, different_passes, none_passes}
use Rattle.read_values.proofs.Bindings.passes.Goals as goal

pub returns-in-Same : goal.returns-in-Same
returns-in-Same c = same_passes _ c.value_of.ensures c.value_of-in-Same.ensures c.in-Same.is

pub returns-in-Different : goal.returns-in-Different
returns-in-Different c = different_passes _ c.value_of-in-Different.ensures c.value_of-in-Different-2.ensures c.in-Different.is

pub returns-in-Draw : goal.returns-in-Draw
returns-in-Draw c = none_passes _ _ c.in-Draw.in-Draw-own.keys3
