-- The table holds, by computation.
use mathlib.Core.Path.{refl}
use Rattle.rows.specs.Name.{polarity_of}
use Rattle.policy.specs.Decoded.{Decodes, again, unions, four, AllHold}

pub table : AllHold
unfolding polarity_of Decodes again unions four
table = record {
  run_out = (refl, refl, refl, refl);
  codes = (refl, refl);
  counts = (refl, refl, refl, refl, refl);
  widths = (refl, refl, refl, refl);
  tags = (refl, refl);
  guards = (refl, refl);
  issuers = (refl, refl, refl, refl);
  definitions = (refl, refl);
  vetted = (refl, refl, refl, refl, refl, refl);
  own_names = (refl, refl, refl, refl, refl, refl, refl, refl, refl, refl);
  own_vetted = (refl, refl, refl, refl, refl, refl);
  own_by_variable = refl;
  left_over = refl;
  none_at_first = (refl, refl);
  earlier_in_pattern = (refl, refl);
  not_where_drawn_from = refl;
  end_with_comprehension = refl;
  new_numbers = (refl, refl, refl);
  sixteen = (refl, refl);
  fifteen_levels = (refl, refl, refl, refl, refl);
  eight_draws = (refl, refl, refl, refl);
  first_word = (refl, refl, refl);
}
