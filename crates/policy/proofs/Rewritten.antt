-- The table holds, by computation.
use mathlib.Core.Path.{refl}
use Rattle.policy.specs.Decoded.{again}
use Rattle.policy.specs.Judged.{literal}
use Rattle.policy.specs.External.{rewrite}
use Rattle.policy.specs.Rewritten.{Rewrites, RewritesInto, nine, AllHold}

pub table : AllHold
unfolding rewrite Rewrites RewritesInto again literal nine
table = record {
  later = (refl, refl, refl, refl);
  own_names = (refl, refl, refl, refl, refl);
  our_keys = (refl, refl, refl);
  elsewhere = (refl, refl, refl);
  without_keys = (refl, refl, refl, refl);
  formats = (refl, refl, (refl, refl), refl, refl, refl, refl, refl, refl);
  minus_elsewhere = (refl, refl, refl, refl, refl, refl);
  differences = (refl, refl, refl, refl, refl);
  absent_guards = (refl, refl, refl, refl);
  codes8 = (refl, refl, refl);
  after_seven = (refl, refl, refl, refl, refl, refl, refl, refl);
  areas = ((refl, refl), (refl, refl), (refl, refl), (refl, refl), (refl, refl), (refl, refl), (refl, refl));
  long = (refl, refl);
}
