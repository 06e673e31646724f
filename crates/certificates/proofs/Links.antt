-- What soundness says of a link and of a link store.
use Prim.Native.Nat.{ℕ}
use mathlib.Core.Path.{◌≡◌}
use mathlib.Core.Bool.{Bool, true}
use mathlib.Core.List.{List}
use lib.Dec.{eqb}
use lib.ListN.{length, get_or}
use borrow.Author.Tests.{eqb-true}
use Rattle.rows.specs.Ordered.{PassFirst}
use Rattle.rows.specs.Row.{is_key}
use Rattle.rows.specs.Name.{is_name, is_polarity}
use Rattle.rows.specs.Records.{begins_before}
use Rattle.rows.proofs.Case.{and_true}
use Rattle.rows.proofs.Order.{words_order}
use Rattle.certificates.specs.Link.{link_words, sound_link, link_kind, link_records, sound_links}
use Rattle.certificates.proofs.Filings.{Lawful, Sound, sound_in_lem}
use Rattle.rows.proofs.Fronts.{begin_first, fronts_ascend}

-- a link, test by test
pub record SoundLink (w : List ℕ) : Type 0 where
  pub five : length w ≡ link_words
  pub key : is_key (get_or w 0 0) ≡ true
  pub name : is_name (get_or w 1 0) ≡ true
  pub polarity : is_polarity (get_or w 2 0) ≡ true
  pub other_key : is_key (get_or w 3 0) ≡ true
  pub other_name : is_name (get_or w 4 0) ≡ true

pub sound_link_lem : (w : List ℕ) → sound_link w ≡ true → SoundLink w
unfolding sound_link
sound_link_lem w e =
    let a = and_true (eqb (length w) link_words) _ e in
    let b = and_true (is_key (get_or w 0 0)) _ a.1 in
    let c = and_true (is_name (get_or w 1 0)) _ b.1 in
    let d = and_true (is_polarity (get_or w 2 0)) _ c.1 in
    let f = and_true (is_key (get_or w 3 0)) _ d.1 in
    record { five = eqb-true (length w) link_words a.0; key = b.0; name = c.0; polarity = d.0; other_key = f.0; other_name = f.1 }

-- links are a kind
abbrev pub link_laws : Lawful link_kind
link_laws = record { order = words_order; sized = λ w e. (sound_link_lem w e).five }

pub sound_links_lem : (links : List ℕ) → sound_links links ≡ true → Sound link_laws links
unfolding sound_links
sound_links_lem links e = sound_in_lem link_laws links e

-- those that begin with words before these, or with these, stand first
pub links_begin_first : (words : List ℕ) (also : Bool) (links : List ℕ) → sound_links links ≡ true → PassFirst (begins_before also words) (link_records links)
links_begin_first words also links e = begin_first words words_order (fronts_ascend (length words)) also (link_records links) (sound_links_lem links e).order
