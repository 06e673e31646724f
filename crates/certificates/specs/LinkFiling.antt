-- Document 02, N5: which words are a link, and what filing says of them, by example. Shown in proofs/LinkFiling.antt.
use Rattle.std.specs.Prelude.{ℕ, ◌+◌, ◌*◌, ◌≡◌, true, false, List, [], ◌∷◌, ◌++◌, replicate}
use Rattle.refusals.specs.RefusalTable.{bad_link, links_full}
use Rattle.rows.specs.Word.{All}
use Rattle.rows.specs.Row.{first_key}
use Rattle.certificates.specs.Filing.{filed, held, refused, reply_given, file_reply}
use Rattle.certificates.specs.Link.{link_words, sound_link, most_links, link_kind, sound_links}

-- the first key's list 65,535 − is contained in its list 0 −; and another link
abbrev pub a_link : List ℕ
a_link = first_key ∷ 65535 ∷ 1 ∷ first_key ∷ 0 ∷ []

abbrev pub another : List ℕ
another = first_key ∷ 0 ∷ 0 ∷ first_key ∷ 1 ∷ []

-- "not five words, either key is a number, either name is over 65,535 or its polarity over 1"
abbrev pub malformed : List (List ℕ)
malformed = (first_key ∷ 65535 ∷ 1 ∷ first_key ∷ []) ∷ (first_key ∷ 65535 ∷ 1 ∷ first_key ∷ 0 ∷ 0 ∷ [])
    ∷ (2147483647 ∷ 65535 ∷ 1 ∷ first_key ∷ 0 ∷ []) ∷ (first_key ∷ 65535 ∷ 1 ∷ 2147483647 ∷ 0 ∷ [])
    ∷ (first_key ∷ 65536 ∷ 1 ∷ first_key ∷ 0 ∷ []) ∷ (first_key ∷ 65535 ∷ 1 ∷ first_key ∷ 65536 ∷ [])
    ∷ (first_key ∷ 65535 ∷ 2 ∷ first_key ∷ 0 ∷ []) ∷ []

-- a link store with a count and these words
abbrev pub links_with : ℕ → List ℕ → List ℕ
links_with count words = count ∷ (words ++ replicate 1280 0)

pub record Theorem : Type 0 where
  pub sound : sound_link a_link ≡ true
  -- "18, a malformed link .., when filing before Held"
  pub eighteen : All (λ w. reply_given link_kind (w ∷ []) w ≡ refused bad_link) malformed
  -- "filing answers Filed or Held as before"
  pub new : reply_given link_kind (another ∷ []) a_link ≡ filed
  pub again : reply_given link_kind (another ∷ a_link ∷ []) a_link ≡ held
  -- "19, 256 links held and this one is new"
  pub last : reply_given link_kind (replicate 255 another) a_link ≡ filed
  pub nineteen : reply_given link_kind (replicate 256 another) a_link ≡ refused links_full
  pub full_held : reply_given link_kind (replicate 256 a_link) a_link ≡ held
  -- "A second store of at least 1,281 words has a count, then at most 256 links of five words, strictly ascending word by word"
  pub room : 1 + link_words * most_links ≡ 1281
  pub two : sound_links (links_with 2 (another ++ a_link)) ≡ true
  pub two_turned : sound_links (links_with 2 (a_link ++ another)) ≡ false
  pub twice : sound_links (links_with 2 (a_link ++ a_link)) ≡ false
  pub over : sound_links (links_with 257 []) ≡ false
  pub short : sound_links (replicate 1280 0) ≡ false
  -- 18, "an unsound link store" too
  pub eighteen_store : file_reply link_kind (replicate 1280 0) a_link ≡ refused bad_link
