-- The search along links in words: a name's links followed one by one, then name after name.
use Prim.Native.Nat.{ℕ, ◌+◌, ◌≤◌, ◌<◌}
use mathlib.Core.Path.{◌≡◌, refl, sym, ◌∙◌, ap, subst}
use mathlib.Core.Logic.{inl, inr}
use mathlib.Core.Bool.{true}
use mathlib.Core.List.{List}
use native.Mathlib.Omega.{arith}
use lib.Dec.{ltb}
use lib.ListN.{length, get_or, length-map}
use borrow.Author.Tests.{ltb-true, ltb-false}
use Rattle.rows.specs.Ordered.{◌∈◌}
use Rattle.rows.specs.Name.{polarity_of}
use Rattle.rows.specs.Polarities.{polarity_is, polarity_number}
use Rattle.rows.specs.declared.Polarity as Held
use Rattle.rows.specs.declared.Polarity.TheVariants.{Plus, Minus}
use Rattle.read_links.specs.declared.Name.{Name}
use Rattle.rows.specs.Records.{count_of}
use Rattle.rows.proofs.Case.{Case, is_true, is_false, split}
use Rattle.rows.proofs.Records.{records_length}
use Rattle.certificates.specs.Link.{Named, Link, link_words, link_of, link_records, sound_links, links_said}
use Rattle.meaning.specs.Links.{Reaches, itself}
use Rattle.read_links.specs.Reached.{links_of, nobody, named_by, names_in, Once, link_in, name_in, From, FirstFrom, RoomFor, Adding, Added, Search, Grows, Led, SayFollowed, SayReached}
use Rattle.read_links.proofs.Starting.{links_few, link_held, held_link}
use Rattle.read_links.proofs.Searching.{grows_same, grows_on, grows-∈, adding_grows, adding_has, sought_few, sought_adding, sought_room, reach_next, followed_all}
use Rattle.read_links.proofs.Names.{names_length, name-∈, ∈-name, names_some, names_more, name_kept}

links_length : (links : List ℕ) → length (links_of links) ≡ count_of links
unfolding links_said
links_length links = length-map (link_records links) link_of ∙ records_length link_words links

pub polarity_few : (p : Held.Polarity) → polarity_number p ≤ 1
polarity_few Plus = omega arith
polarity_few Minus = omega arith

pub of_number : (p : Held.Polarity) → polarity_of (polarity_number p) ≡ polarity_is p
unfolding polarity_of
of_number Plus = refl
of_number Minus = refl

-- link i starts at name `next`, and the first that would is link `start`
abbrev pub Starts : List ℕ → Held.Polarity → List Name → ℕ → ℕ → Type 0
Starts links p found next i = From links (get_or found next nobody).key (get_or found next nobody).number (polarity_number p) i

abbrev pub FirstOf : List ℕ → Held.Polarity → List Name → ℕ → ℕ → Type 0
FirstOf links p found next start = FirstFrom links (get_or found next nobody).key (get_or found next nobody).number (polarity_number p) start

-- the links of name `next` up to link i are followed: `found` and `many` are the names since
pub record Following (links : List ℕ) (p : Held.Polarity) (found₀ : List Name) (count next : ℕ) (found : List Name) (many i : ℕ) : Type 0 where
  pub search : Search links p found many
  pub grows : Grows (names_in count found₀) (names_in many found)
  pub led : (j : ℕ) → j < i → Starts links p found₀ next j → (link_in links j).second ∈ names_in many found

-- the names before name `next` are followed
pub record Reaching (links : List ℕ) (name : Name) (found : List Name) (count next : ℕ) : Type 0 where
  pub search : Search links name.polarity found count
  pub start : name_in found 0 ≡ named_by name
  pub few : next ≤ count
  pub led : (i : ℕ) → i < next → Led (links_of links) (polarity_is name.polarity) (name_in found i) (names_in count found)

module _ {links : List ℕ} (sound : sound_links links ≡ true) {p : Held.Polarity} where
  pub search_few : {found : List Name} {count : ℕ} → Search links p found count → count ≤ 257
  search_few {found} {count} s = omega (
    arith,
    sought_few (links_of links) (polarity_is p) s.sought,
    names_length count found,
    links_length links,
    links_few links sound,
  )

  -- ---- the links of one name

  module _ {found₀ : List Name} {count next : ℕ} (inside : next < count) where
    pub following_start : {start : ℕ} → Search links p found₀ count → FirstOf links p found₀ next start → Following links p found₀ count next found₀ count start
    following_start s first = record {
      search = s;
      grows = grows_same (names_in count found₀);
      led = λ j h f. let late = first.none j f in absurd (omega arith);
    }

    module _ {found : List Name} {many i : ℕ} (f : Following links p found₀ count next found many i) where
      module _ (from : Starts links p found₀ next i) where
        -- the name that link i leads to is reached
        next_reached : Reaches (links_of links) (polarity_is p) (name_in found 0) (link_in links i).second
        next_reached =
            let more = names_more count many found₀ found f.grows in
            let same : name_in found next ≡ name_in found₀ next = name_kept count many found₀ found f.grows next inside in
            reach_next (links_of links) (polarity_is p) (link_in links i) (link_held links sound i from.held) (from.polar ∙ of_number p) (from.here ∙ sym same)
            (f.search.sought.only (name_in found next) (name-∈ many found next (omega arith)))

        pub following_room : (n : Name) → named_by n ≡ (link_in links i).second → RoomFor (named_by n) found many
        following_room n is = record {
          new = λ m. omega (
            arith,
            sought_room (links_of links) (polarity_is p) f.search.sought next_reached (subst (λ (x : Named). ¬ (x ∈ names_in many found)) is m),
            names_length many found,
            links_length links,
            links_few links sound,
          );
        }

        pub following_next : (n : Name) → named_by n ≡ (link_in links i).second → n.polarity ≡ p → {found' : List Name} {many' : ℕ} → Added n found many found' many' →
            Following links p found₀ count next found' many' (i + 1)
        following_next n is polar {found'} {many'} a =
            let names : Adding (link_in links i).second (names_in many found) (names_in many' found') = subst (λ (x : Named). Adding x (names_in many found) (names_in many' found')) is a.names in
            let grows = adding_grows names in
            let same : name_in found' 0 ≡ name_in found 0 = name_kept many many' found found' grows 0 (names_some many found (name_in found 0) f.search.sought.start) in
            record {
              search = record {
                sought = rw same (sought_adding (links_of links) (polarity_is p) f.search.sought next_reached names);
                polar = λ j h. elim (a.each j h) [ inl e ↦ ap (λ (m : Name). m.polarity) e ∙ polar | inr t ↦ ap (λ (m : Name). m.polarity) t.1 ∙ f.search.polar j t.0 ];
              };
              grows = grows_on f.grows grows;
              led = λ j h s. go names grows j h s (split (ltb j i));
            }
          where
            go : Adding (link_in links i).second (names_in many found) (names_in many' found') → Grows (names_in many found) (names_in many' found') → (j : ℕ) → j < i + 1 → Starts links p found₀ next j → Case (ltb j i) → (link_in links j).second ∈ names_in many' found'
            go names grows j h s (is_true t) = grows-∈ grows (link_in links j).second (f.led j (ltb-true j i t) s)
            go names grows j h s (is_false t) =
                let e : i ≡ j = omega (arith, ltb-false j i t) in
                subst (λ (k : ℕ). (link_in links k).second ∈ names_in many' found') e (adding_has names)

      -- link i does not start at the name: no later one does
      pub following_end : {start : ℕ} → FirstOf links p found₀ next start → start ≤ i → (Starts links p found₀ next i → ⊥) →
          SayFollowed links p found₀ count next found many
      following_end {start} first low past = record { search = f.search; grows = f.grows; led = all }
        where
          all : Led (links_of links) (polarity_is p) (name_in found₀ next) (names_in many found)
          all l m e h = go (held_link links sound l m)
            where
              go : (i : ℕ) × (i < count_of links) × (l ≡ link_in links i) → l.second ∈ names_in many found
              go t =
                  let s : Starts links p found₀ next t.0 = record { held = t.1; polar = ap (λ (k : Link). k.polarity) (sym t.2) ∙ e ∙ sym (of_number p); here = ap (λ (k : Link). k.first) (sym t.2) ∙ h } in
                  subst (λ (k : Link). k.second ∈ names_in many found) (sym t.2) (f.led t.0 (before s (split (ltb t.0 i))) s)
                where
                  before : Starts links p found₀ next t.0 → Case (ltb t.0 i) → t.0 < i
                  before s (is_true less) = ltb-true t.0 i less
                  before s (is_false less) = absurd (past (first.together i t.0 low (ltb-false t.0 i less) s))

-- ---- name after name

module _ {links : List ℕ} (sound : sound_links links ≡ true) (name : Name) where
  pub reaching_start : (names : List Name) → get_or names 0 nobody ≡ name → Reaching links name names 1 0
  unfolding names_in Once ◌∈◌
  reaching_start names first =
      record {
        search = record {
          sought = record {
            start = inl refl;
            only = λ y m. elim m [ inl e ↦ subst (Reaches (links_of links) (polarity_is name.polarity) (name_in names 0)) (sym e) itself | inr i ↦ absurd i ];
            once = (λ m. m, tt);
          };
          polar = λ i h. let z : i ≡ 0 = omega arith in ap (λ (k : ℕ). (get_or names k nobody).polarity) z ∙ ap (λ (n : Name). n.polarity) first;
        };
        start = ap named_by first;
        few = omega arith;
        led = λ i l. absurd (omega arith);
      }

  module _ {found : List Name} {count next : ℕ} (r : Reaching links name found count next) where
    pub reaching_next : {found' : List Name} {count' : ℕ} → next < count → SayFollowed links name.polarity found count next found' count' → Reaching links name found' count' (next + 1)
    reaching_next {found'} {count'} h s =
        let more = names_more count count' found found' s.grows in
        record {
          search = s.search;
          start = name_kept count count' found found' s.grows 0 (omega arith) ∙ r.start;
          few = omega arith;
          led = λ i k. go i k (split (ltb i next));
        }
      where
        go : (i : ℕ) → i < next + 1 → Case (ltb i next) → Led (links_of links) (polarity_is name.polarity) (name_in found' i) (names_in count' found')
        go i k (is_true t) l m e f =
            let less = ltb-true i next t in
            grows-∈ s.grows l.second (r.led i less l m e (f ∙ name_kept count count' found found' s.grows i (omega arith)))
        go i k (is_false t) l m e f =
            let q : i ≡ next = omega (arith, ltb-false i next t) in
            s.led l m e (f ∙ name_kept count count' found found' s.grows i (omega arith) ∙ ap (name_in found) q)

    pub reaching_end : count ≤ next → SayReached links name found count
    reaching_end h = record {
      few = search_few sound r.search;
      just = λ y. (
        λ m. subst (λ (x : Named). Reaches (links_of links) (polarity_is name.polarity) x y) r.start (r.search.sought.only y m),
        λ s. followed_all (links_of links) (polarity_is name.polarity) (names_in count found) all r.search.sought.start
            (subst (λ (x : Named). Reaches (links_of links) (polarity_is name.polarity) x y) (sym r.start) s),
      );
      once = r.search.sought.once;
      polar = r.search.polar;
    }
      where
        all : (z : Named) → z ∈ names_in count found → Led (links_of links) (polarity_is name.polarity) z (names_in count found)
        all z m l i e f = let t = ∈-name count found z m in let less = t.1 in r.led t.0 (omega arith) l i e (f ∙ t.2)
