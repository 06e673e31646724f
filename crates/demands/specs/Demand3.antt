-- Demand 3, over a list of filings as a whole.
--
-- "For every list of filings from an empty store, refused ones included, and at whatever point of it: any query under any policy is answered
-- exactly when no listed refusal applies, with document 01's verdict and layout. A row is in a lower answer exactly when it belongs to the query
-- in every world where all certificates accepted so far are true. A row is missing from an upper answer exactly when it is missing in every such
-- world. In each such world by itself, a row is in an exact answer exactly when it belongs to the query. Take two points of the list that both
-- answer the same query under the same policy: every row of the earlier lower answer is in the later one, every row of the later upper answer is
-- in the earlier one, and exact answers are equal in form and rows."
--
-- Document 02, N4: "The worlds of a minute are those where all certificates accepted so far that hold then are true; demand 3 speaks of these, and two points
-- are compared at one minute." N5: "Demand 3's lists now hold filings of both kinds, into two empty stores, and 'held' counts those of the filing's own kind
-- alone. In its worlds the links accepted so far are true as well." N6: "The bounds users rely on are shown over the matching rule, for both": a policy is of
-- either format. N7: "The worlds keep their lists for our key, which only variables and links can reach. Two points are compared with one word given as our key."
use Rattle.std.specs.Prelude.{ℕ, ◌≡◌, ◌↔◌, true, List, [], ◌∷◌, ◌++◌, T}
use Rattle.rows.specs.Word.{All, Words}
use Rattle.rows.specs.Row.{Row, IsRow}
use Rattle.rows.specs.Sets.{RowSet, has}
use Rattle.rows.specs.Records.{count_of}
use Rattle.certificates.specs.Filing.{Kind, sound_in, Keeps}
use Rattle.certificates.specs.Store.{certificate_kind}
use Rattle.certificates.specs.Link.{link_kind}
use Rattle.certificates.specs.Stores.{AnyFiling, certificate, link, Stores, reply_at, stores_after, stores_at, accepted_certificates, accepted_links, reply_after, Held, held_after}
use Rattle.policy.specs.Polarity.{Verdict, exact, lower, upper}
use Rattle.meaning.specs.Evidence.{names_held}
use Rattle.meaning.specs.World.{World, AllTrue}
use Rattle.demands.specs.Query.{answered, refused, Call, query_call, answer_area}
use Rattle.demands.specs.Refusal.{all_sound, Refusal}
use Rattle.demands.specs.Demand2.{CallWords, InQuery, Answer, LaidOut}

-- "An empty store is a sound one with the count 0, whatever words follow." Of either kind:
pub record Empty (kind : Kind) (store : List ℕ) : Type 0 where
  pub sound : sound_in kind store ≡ true
  pub none : count_of store ≡ 0

-- "two empty stores"
pub record EmptyStores (s : Stores) : Type 0 where
  pub store : Empty certificate_kind s.store
  pub links : Empty link_kind s.links

-- "A point lies before the first filing or after any of them."
pub record Point (filings : List AnyFiling) : Type 0 where
  pub passed : List AnyFiling
  pub ahead : List AnyFiling
  pub whole : filings ≡ passed ++ ahead

pub record Earlier {filings : List AnyFiling} (p q : Point filings) : Type 0 where
  pub between : List AnyFiling
  pub reached : q.passed ≡ p.passed ++ between

-- what a portal does with the stores: it files words of either kind, or asks a query
pub data Event : Type 0 where
  files : AnyFiling → Event
  asks : Call → Event

-- the stores that a call leaves, as the contracts of filing and of `query` say
unfoldable pub stores_left : Event → Stores → Stores
unfolding stores_after
stores_left (files f) s = stores_after s f
stores_left (asks c) s = s

unfoldable pub stores_through : Stores → List Event → Stores
unfolding stores_left
stores_through s [] = s
stores_through s (e ∷ events) = stores_through (stores_left e s) events

unfoldable pub filings_in : List Event → List AnyFiling
filings_in [] = []
filings_in (files f ∷ events) = f ∷ filings_in events
filings_in (asks c ∷ events) = filings_in events

-- all that is filed is words
unfoldable pub words_filed : AnyFiling → List ℕ
words_filed (certificate w) = w
words_filed (link w) = w

abbrev pub FiledWords : List AnyFiling → Type 0
FiledWords filings = All (λ f. Words (words_filed f)) filings

-- what a verdict promises of the rows, where these certificates and links are held
pub record Bounds (h : Held) (c : Call) (v : Verdict) (S : RowSet) : Type 1 where
  pub lower_rows : v ≡ lower → (r : Row) → IsRow r → T (has S r) ↔ ((W : World) → AllTrue W h → InQuery c W r)
  pub upper_rows : v ≡ upper → (r : Row) → IsRow r → (¬ T (has S r)) ↔ ((W : World) → AllTrue W h → ¬ InQuery c W r)
  pub exact_rows : v ≡ exact → (W : World) → AllTrue W h → (r : Row) → IsRow r → T (has S r) ↔ InQuery c W r

-- two answers to one query under one policy, the second at a later point
pub record Grows (v v' : Verdict) (S S' : RowSet) : Type 0 where
  pub same_verdict : v ≡ v'
  pub lower_grows : v ≡ lower → (r : Row) → IsRow r → T (has S r) → T (has S' r)
  pub upper_shrinks : v ≡ upper → (r : Row) → IsRow r → T (has S' r) → T (has S r)
  pub exact_stays : v ≡ exact → S ≡ S'

pub record Demand3 (s : Stores) (filings : List AnyFiling) : Type 1 where
  -- each filing is answered by what was accepted before it, of its own kind
  pub replies : (p : Point filings) (f : AnyFiling) (rest : List AnyFiling) → p.ahead ≡ f ∷ rest → reply_at (stores_at s p.passed) f ≡ reply_after p.passed f
  -- each store is sound and holds just what was accepted of its kind
  pub holds : (p : Point filings) → Keeps certificate_kind s.store (stores_at s p.passed).store (accepted_certificates p.passed)
  pub holds_links : (p : Point filings) → Keeps link_kind s.links (stores_at s p.passed).links (accepted_links p.passed)
  -- "A query call there reads the store as it then is, and changes nothing in it": whatever is asked between the filings, the stores are as they alone leave them
  pub asked : (p : Point filings) (events : List Event) → filings_in events ≡ p.passed → stores_through s events ≡ stores_at s p.passed
  -- a call is refused with just the refusals that apply where both stores are sound (8 and 18 never do) and say what was accepted and holds
  pub refuses : (p : Point filings) (c : Call) (n part : ℕ) →
      (query_call (stores_at s p.passed) c ≡ refused n part) ↔ Refusal all_sound (names_held (held_after c.minute p.passed)) c n part
  -- and answered exactly when none does
  pub answers : (p : Point filings) (c : Call) →
      ((v : Verdict) × (k : ℕ) × (S : RowSet) × (query_call (stores_at s p.passed) c ≡ answered v k S)) ↔
      (¬ ((n : ℕ) × (part : ℕ) × Refusal all_sound (names_held (held_after c.minute p.passed)) c n part))
  -- an answer has document 01's verdict, with the set and the draws that reading gives;
  pub answer : (p : Point filings) (c : Call) (v : Verdict) (k : ℕ) (S : RowSet) →
      query_call (stores_at s p.passed) c ≡ answered v k S → Answer (names_held (held_after c.minute p.passed)) c v k S
  -- all that was filed and asked being words, it has document 01's layout
  pub laid_out : FiledWords filings → (p : Point filings) (c : Call) → CallWords c → (v : Verdict) (k : ℕ) (S : RowSet) →
      query_call (stores_at s p.passed) c ≡ answered v k S → LaidOut c.answer (answer_area (answered v k S) c.answer) S
  -- and the rows that its verdict promises;
  pub bounds : FiledWords filings → (p : Point filings) (c : Call) → CallWords c → (v : Verdict) (k : ℕ) (S : RowSet) →
      query_call (stores_at s p.passed) c ≡ answered v k S → Bounds (held_after c.minute p.passed) c v S
  -- over two points, at one minute and with one key of ours, lower answers grow, upper answers shrink, exact answers stay; the areas lent may differ
  pub later : FiledWords filings → (p q : Point filings) → Earlier p q → (c d : Call) → CallWords c → c.policy ≡ d.policy → c.query ≡ d.query → c.our_key ≡ d.our_key →
      c.minute ≡ d.minute →
      (v v' : Verdict) (k k' : ℕ) (S S' : RowSet) →
      query_call (stores_at s p.passed) c ≡ answered v k S → query_call (stores_at s q.passed) d ≡ answered v' k' S' → Grows v v' S S'

-- the theorem
abbrev pub Theorem : Type 1
Theorem = (s : Stores) → EmptyStores s → (filings : List AnyFiling) → Demand3 s filings
