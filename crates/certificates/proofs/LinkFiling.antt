-- Links by example, each by computation.
use mathlib.Core.Path.{refl}
use Rattle.rows.specs.Word.{All}
use Rattle.certificates.specs.Filing.{reply_given, file_reply}
use Rattle.certificates.specs.Link.{sound_link, sound_links}
use Rattle.certificates.specs.LinkFiling.{Theorem}

pub theorem : Theorem
unfolding All reply_given file_reply sound_link sound_links
theorem = record {
  sound = refl;
  eighteen = (refl, (refl, (refl, (refl, (refl, (refl, (refl, tt)))))));
  new = refl;
  again = refl;
  last = refl;
  nineteen = refl;
  full_held = refl;
  room = refl;
  two = refl;
  two_turned = refl;
  twice = refl;
  over = refl;
  short = refl;
  eighteen_store = refl;
}
