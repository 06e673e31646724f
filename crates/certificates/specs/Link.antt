-- Document 02, N5: links, their five words, and the second store, which holds them.
use Rattle.std.specs.Prelude.{ℕ, Bool, ◌&&◌, List, map, eqb, length, get_or}
use Rattle.refusals.specs.RefusalTable.{bad_link, links_full}
use Rattle.rows.specs.Ordered.{words_before}
use Rattle.rows.specs.Row.{is_key}
use Rattle.rows.specs.Name.{Polarity, is_name, is_polarity, polarity_of}
use Rattle.rows.specs.Records.{records_in}
use Rattle.certificates.specs.Filing.{Kind, sound_in}

-- a key's list, of a polarity that is known: "The same number under both polarities is two names", and a link is between names of one polarity
pub record Named : Type 0 where
  pub key : ℕ
  pub name : ℕ

-- "A + link says that the first list contains the second, a − link that it is contained in it."
pub record Link : Type 0 where
  pub polarity : Polarity
  pub first : Named
  pub second : Named

-- ---- its words

-- "key, name, polarity (of both sides), other key, other name"
abbrev pub link_words : ℕ
link_words = 5

-- "A link is malformed if it is not five words, either key is a number, either name is over 65,535 or its polarity over 1."
unfoldable pub sound_link : List ℕ → Bool
sound_link w = eqb (length w) link_words && (is_key (get_or w 0 0) && (is_name (get_or w 1 0) && (is_polarity (get_or w 2 0) && (is_key (get_or w 3 0) && is_name (get_or w 4 0)))))

-- what the words of a link say
unfoldable pub link_of : List ℕ → Link
unfolding polarity_of
link_of w = record {
  polarity = polarity_of (get_or w 2 0);
  first = record { key = get_or w 0 0; name = get_or w 1 0 };
  second = record { key = get_or w 3 0; name = get_or w 4 0 };
}

-- ---- the link store

-- "A second store of at least 1,281 words has a count, then at most 256 links of five words, strictly ascending word by word"
abbrev pub most_links : ℕ
most_links = 256

-- "18, a malformed link or an unsound link store, when filing before Held ..; 19, 256 links held and this one is new"
abbrev pub link_kind : Kind
link_kind = record {
  words = link_words;
  most = most_links;
  sound = sound_link;
  before = words_before;
  bad_store = bad_link;
  bad_record = λ w. bad_link;
  full = links_full;
}

-- the links' words, and what they say
abbrev pub link_records : List ℕ → List (List ℕ)
link_records links = records_in link_words links

unfoldable pub sound_links : List ℕ → Bool
unfolding sound_in sound_link words_before
sound_links links = sound_in link_kind links

unfoldable pub links_said : List (List ℕ) → List Link
unfolding link_of
links_said ws = map link_of ws
