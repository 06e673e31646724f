-- The links of a sound store, link by link, and those that start at a name: they stand side by side, and the search finds the first.
use Prim.Native.Nat.{ℕ, zero, suc, ◌+◌, ◌*◌, ◌≤◌, ◌<◌}
use mathlib.Core.Path.{◌≡◌, refl, sym, ◌∙◌, ap, subst}
use mathlib.Core.Bool.{Bool, true, false}
use mathlib.Core.List.{List, [], ◌∷◌}
use native.Mathlib.Omega.{arith}
use lib.Dec.{ltb, eqb}
use lib.ListN.{length, get_or, take, drop}
use lib.Seq.{get_or-take, get_or-drop}
use borrow.Author.Tests.{ltb-true, ltb-false, leb-true, eqb-true, eq-eqb}
use Rattle.rows.specs.Ordered.{◌∈◌, leading, words_before}
use Rattle.rows.specs.Name.{polarity_of}
use Rattle.rows.specs.Records.{count_of, record_at, begins_before}
use Rattle.rows.proofs.Case.{Case, is_true, is_false, split, never}
use Rattle.rows.proofs.Order.{words_order}
use Rattle.rows.proofs.Lists.{map-∈}
use Rattle.rows.proofs.Place.{get_or-∈, at-∈, ascending_at}
use Rattle.rows.proofs.Leading.{leading_stops, leading_past}
use Rattle.rows.proofs.Fronts.{fronts_ascend}
use Rattle.rows.proofs.Records.{records_length, record_at_lem, record_sound_at}
use Rattle.certificates.specs.Link.{Named, Link, link_words, sound_link, link_of, most_links, link_records, sound_links, links_said}
use Rattle.certificates.proofs.Links.{SoundLink, sound_link_lem, sound_links_lem, links_begin_first}
use Rattle.meaning.specs.Evidence.{named}
use Rattle.read_links.specs.Reached.{links_of, StartsAt, SayLinked, link_in, From, SayFrom, FirstFrom}

same_word : (a b : ℕ) → a ≤ 1 → b ≤ 1 → polarity_of a ≡ polarity_of b → a ≡ b
unfolding polarity_of
same_word zero zero h k e = refl
same_word zero (suc b) h k e = let z : ◌≡◌ {A = ℕ} 0 1 = cc in absurd (omega arith)
same_word (suc a) zero h k e = let z : ◌≡◌ {A = ℕ} 0 1 = cc in absurd (omega arith)
same_word (suc a) (suc b) h k e = omega arith

-- the name and the polarity are a link's first three words
front_words : (w : List ℕ) → 3 ≤ length w → take 3 w ≡ get_or w 0 0 ∷ get_or w 1 0 ∷ get_or w 2 0 ∷ []
front_words [] h = absurd (omega arith)
front_words (a ∷ []) h = absurd (omega arith)
front_words (a ∷ b ∷ []) h = absurd (omega arith)
front_words (a ∷ b ∷ c ∷ w) h = refl

module _ (links : List ℕ) (sound : sound_links links ≡ true) where
  -- no link is cut off
  pub links_whole : 1 + link_words * count_of links ≤ length links
  links_whole = let s = sound_links_lem links sound in omega arith

  pub links_few : count_of links ≤ most_links
  links_few = (sound_links_lem links sound).few

  link_sound : (i : ℕ) → i < count_of links → SoundLink (record_at link_words links i)
  link_sound i h = sound_link_lem (record_at link_words links i) (record_sound_at link_words most_links sound_link words_order links (sound_links_lem links sound) i h)

  pub link_held : (i : ℕ) → i < count_of links → link_in links i ∈ links_of links
  unfolding links_said
  link_held i h =
      let there : get_or (link_records links) i [] ∈ link_records links = get_or-∈ (link_records links) i [] (omega (arith, records_length link_words links)) in
      (map-∈ link_of (link_records links) (link_in links i)).1 (get_or (link_records links) i [], there, ap link_of (sym (record_at_lem link_words links i h)))

  pub held_link : (l : Link) → l ∈ links_of links → (i : ℕ) × (i < count_of links) × (l ≡ link_in links i)
  unfolding links_said
  held_link l m =
      let r = (map-∈ link_of (link_records links) l).0 m in
      let a = at-∈ (link_records links) r.0 [] r.1 in
      let less : a.0 < count_of links = omega (arith, records_length link_words links, a.1) in
      (a.0, less, r.2 ∙ ap link_of (a.2 ∙ record_at_lem link_words links a.0 less))

  pub link_inside : (i : ℕ) → i < count_of links → link_words * i + 1 + link_words ≤ length links
  link_inside i h = omega (arith, links_whole)

  -- the words of link i, by their places in the store
  link_word : (i j at : ℕ) → j < link_words → at ≡ link_words * i + 1 + j → get_or (record_at link_words links i) j 0 ≡ get_or links at 0
  unfolding record_at
  link_word i j at h e =
      let f : 1 + link_words * i + j ≡ at = omega arith in
      get_or-take link_words (drop (1 + link_words * i) links) j 0 h ∙ get_or-drop (1 + link_words * i) links j 0 ∙ ap (λ (k : ℕ). get_or links k 0) f

  pub second_words : (i : ℕ) → named (get_or links (1 + link_words * i + 3) 0) (get_or links (1 + link_words * i + 4) 0) ≡ (link_in links i).second
  unfolding link_of
  second_words i = rw (link_word i 3 (1 + link_words * i + 3) (omega arith) (omega arith), link_word i 4 (1 + link_words * i + 4) (omega arith) (omega arith)) refl

  module _ (key name polarity : ℕ) (fits : polarity ≤ 1) where
    abbrev words : List ℕ
    words = key ∷ name ∷ polarity ∷ []

    from_front : {i : ℕ} → From links key name polarity i → take 3 (record_at link_words links i) ≡ words
    unfolding link_of
    from_front {i} f =
        let r : List ℕ = record_at link_words links i in
        let s = link_sound i f.held in
        let a : get_or r 0 0 ≡ key = ap (λ (x : Named). x.key) f.here in
        let b : get_or r 1 0 ≡ name = ap (λ (x : Named). x.name) f.here in
        let c : get_or r 2 0 ≡ polarity = same_word (get_or r 2 0) polarity (leb-true (get_or r 2 0) 1 s.polarity) fits f.polar in
        front_words r (omega (arith, s.five)) ∙ rw (a, b, c)

    front_from : {i : ℕ} → i < count_of links → take 3 (record_at link_words links i) ≡ words → From links key name polarity i
    unfolding link_of
    front_from {i} h e =
        let r : List ℕ = record_at link_words links i in
        let w : get_or r 0 0 ∷ get_or r 1 0 ∷ get_or r 2 0 ∷ [] ≡ words = sym (front_words r (omega (arith, (link_sound i h).five))) ∙ e in
        let a : get_or r 0 0 ≡ key = ap (λ (x : List ℕ). get_or x 0 0) w in
        let b : get_or r 1 0 ≡ name = ap (λ (x : List ℕ). get_or x 1 0) w in
        let c : get_or r 2 0 ≡ polarity = ap (λ (x : List ℕ). get_or x 2 0) w in
        record { held = h; polar = ap polarity_of c; here = rw (a, b) }

    -- the search by halving counts the links that begin with earlier words
    module _ (start : ℕ) (counted : start ≡ leading (begins_before false words) (link_records links)) where
      -- a link that begins with these words is not counted
      starts_late : {i : ℕ} → From links key name polarity i → start ≤ i
      unfolding begins_before
      starts_late {i} f = omega (
        arith,
        leading_stops (begins_before false words) (link_records links) [] i (omega (arith, records_length link_words links, f.held))
            (ap (λ (r : List ℕ). words_before (take 3 r) words) (record_at_lem link_words links i f.held)
            ∙ ap (λ (r : List ℕ). words_before r words) (from_front f) ∙ words_order.irreflexive words),
      )

      -- one behind those that are counted does not begin with earlier words
      not_earlier : {i : ℕ} → start ≤ i → i < count_of links → words_before (take 3 (record_at link_words links i)) words ≡ false
      unfolding begins_before
      not_earlier {i} h k = go (split (words_before (take 3 (record_at link_words links i)) words))
        where
          go : Case (words_before (take 3 (record_at link_words links i)) words) → words_before (take 3 (record_at link_words links i)) words ≡ false
          go (is_true t) =
              let late = leading_past (begins_before false words) (link_records links) [] i (links_begin_first words false links sound) (omega (arith, records_length link_words links))
              (ap (λ (r : List ℕ). words_before (take 3 r) words) (record_at_lem link_words links i k) ∙ t) in
              absurd (omega arith)
          go (is_false t) = t

      -- nor with later ones, if one behind it begins with these
      not_later_lem : {i j : ℕ} → i < j → From links key name polarity j → words_before words (take 3 (record_at link_words links i)) ≡ false
      not_later_lem {i} {j} h f =
          let less = f.held in
          let climbs = ascending_at words_before words_order [] (link_records links) (sound_links_lem links sound).order i j h (omega (arith, records_length link_words links)) in
          let e : words_before (record_at link_words links i) (record_at link_words links j) ≡ true =
          rw (record_at_lem link_words links i (omega arith), record_at_lem link_words links j less) at climbs in
          ap (λ (r : List ℕ). words_before r (take 3 (record_at link_words links i))) (sym (from_front f)) ∙ fronts_ascend 3 (record_at link_words links i) (record_at link_words links j) e

      pub first_from : FirstFrom links key name polarity start
      first_from = record { none = λ i f. starts_late f; together = λ i j h k f. go h k f (split (ltb i j)) }
        where
          go : {i j : ℕ} → start ≤ i → i ≤ j → From links key name polarity j → Case (ltb i j) → From links key name polarity i
          go {i} {j} h k f (is_true t) =
              let l = f.held in
              let less : i < count_of links = omega arith in
              front_from less (words_order.total (take 3 (record_at link_words links i)) words (not_earlier h less) (not_later_lem (ltb-true i j t) f))
          go {i} {j} h k f (is_false t) = let e : j ≡ i = omega (arith, ltb-false i j t) in subst (λ (n : ℕ). From links key name polarity n) e f

    -- whether link i starts at the name, word by word
    module _ (i : ℕ) where
      its_key : get_or (record_at link_words links i) 0 0 ≡ get_or links (1 + link_words * i) 0
      its_key = link_word i 0 (1 + link_words * i) (omega arith) (omega arith)

      its_name : get_or (record_at link_words links i) 1 0 ≡ get_or links (1 + link_words * i + 1) 0
      its_name = link_word i 1 (1 + link_words * i + 1) (omega arith) (omega arith)

      its_polarity : get_or (record_at link_words links i) 2 0 ≡ get_or links (1 + link_words * i + 2) 0
      its_polarity = link_word i 2 (1 + link_words * i + 2) (omega arith) (omega arith)

      pub other_key_lem : (get_or links (1 + link_words * i) 0 ≡ key → ⊥) → SayFrom links key name polarity i false
      unfolding link_of
      other_key_lem n = record { means = (λ t. never t refl, λ f. absurd (n (sym its_key ∙ ap (λ (x : Named). x.key) f.here))) }

      pub other_name_lem : (get_or links (1 + link_words * i + 1) 0 ≡ name → ⊥) → SayFrom links key name polarity i false
      unfolding link_of
      other_name_lem n = record { means = (λ t. never t refl, λ f. absurd (n (sym its_name ∙ ap (λ (x : Named). x.name) f.here))) }

      pub by_polarity : i < count_of links → get_or links (1 + link_words * i) 0 ≡ key → get_or links (1 + link_words * i + 1) 0 ≡ name →
          SayFrom links key name polarity i (eqb (get_or links (1 + link_words * i + 2) 0) polarity)
      unfolding link_of
      by_polarity h a b = record { means = (λ t. there (eqb-true _ _ t), λ f. eq-eqb _ _ (sym its_polarity ∙ same_word _ polarity (leb-true _ 1 (link_sound i h).polarity) fits f.polar)) }
        where
          there : get_or links (1 + link_words * i + 2) 0 ≡ polarity → From links key name polarity i
          there c = record { held = h; polar = ap polarity_of (its_polarity ∙ c); here = rw (its_key, its_name, a, b) }

    -- none does that is past the last
    pub none_there : {i : ℕ} {b : Bool} → count_of links ≤ i → b ≡ false → SayFrom links key name polarity i b
    none_there h e = record { means = (λ t. never t e, λ f. let l = f.held in absurd (omega arith)) }

    pub none_linked : count_of links ≡ 0 → SayLinked links polarity key name false
    none_linked z = record { means = (λ t. never t refl, λ s. let h = (held_link s.link s.held).1 in absurd (omega arith)) }

    -- some link starts at the name just if the first of those that would does
    pub linked : {start : ℕ} {b : Bool} → FirstFrom links key name polarity start → SayFrom links key name polarity start b → SayLinked links polarity key name b
    linked {start} {b} first say = record { means = (λ t. to (say.means.0 t), λ s. say.means.1 (from s)) }
      where
        to : From links key name polarity start → StartsAt links (polarity_of polarity) (named key name)
        to f = record { link = link_in links start; held = link_held start f.held; polar = f.polar; here = f.here }

        from : StartsAt links (polarity_of polarity) (named key name) → From links key name polarity start
        from s =
            let a = held_link s.link s.held in
            let f : From links key name polarity a.0 = record { held = a.1; polar = ap (λ (l : Link). l.polarity) (sym a.2) ∙ s.polar; here = ap (λ (l : Link). l.first) (sym a.2) ∙ s.here } in
            first.together start a.0 (omega arith) (first.none a.0 f) f
