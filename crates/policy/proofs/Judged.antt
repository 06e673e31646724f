-- The table holds, by computation.
use mathlib.Core.Path.{refl}
use Rattle.policy.specs.Decoded.{again, unions}
use Rattle.policy.specs.Judged.{JudgesUnder, Judges, literal, AllHold}

pub table : AllHold
unfolding JudgesUnder Judges again unions literal
table = record {
  portal = (refl, refl, refl, refl, refl, refl, refl, refl, refl, refl, refl);
  header = (refl, refl, refl, refl, refl);
  formats = (refl, refl, refl, refl, refl, refl, refl, refl);
  entries = (refl, refl, refl, refl, refl, refl, refl, refl);
  query_length = (refl, refl, refl, refl, refl);
  left_over = (refl, refl, refl, refl);
  available = (refl, refl, refl, refl);
  of_leaves = (refl, refl, refl, refl);
  of_definitions = (refl, refl, refl);
  of_vetted = (refl, refl, refl, refl, refl, refl, refl, refl, refl);
  vetted_in_definitions = (refl, refl, refl, refl, refl);
  own_names = (refl, refl, refl, refl, refl, refl, refl, refl);
  of_own_names = (refl, refl, refl, refl, refl);
  open_own_names = (refl, refl, refl, refl);
  own_vetteds = (refl, refl, refl, refl, refl, refl, refl);
  our_keys = (refl, refl, refl, refl);
  other_keys = (refl, refl, refl);
  of_unions = (refl, refl, refl);
  of_differences = (refl, refl, refl, refl);
  of_guards = (refl, refl, refl, refl);
  not_of_comparisons = (refl, refl, refl, refl);
  open_sets = (refl, refl, refl, refl, refl, refl, refl);
  closed_sets = (refl, refl, refl, refl);
  any_depth = (refl, refl, refl, refl);
  six_before_seven = (refl, refl, refl);
  definitions_first = (refl, refl);
}
