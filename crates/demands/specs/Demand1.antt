-- Demand 1: "Every call ends, and for every input the following hold: a malformed policy, query, store or certificate gets the refusal number that
-- document 01 lists; a refused filing leaves the store unchanged; a refused query leaves the answer area unchanged." With document 02's links (N5), filed into
-- a store of their own.
-- (That every call ends is what the checker shows of each function; these are the definitions that the contracts of the calls cite.)
use Rattle.std.specs.Prelude.{ℕ, ◌<◌, ◌≡◌, ◌↔◌, true, false, List, []}
use Rattle.refusals.specs.RefusalTable.{bad_certificate, bad_term, complement_drawn}
use Rattle.rows.specs.Ordered.{◌∈◌}
use Rattle.rows.specs.Records.{count_of}
use Rattle.certificates.specs.Certificate.{sound_certificate, sound_term}
use Rattle.certificates.specs.Filing.{FilingReply, filed, held, refused, Kind, records_of, sound_in, file_reply, store_after}
use Rattle.certificates.specs.Store.{sound_store, certificate_kind}
use Rattle.certificates.specs.Link.{link_kind}
use Rattle.certificates.specs.Stores.{Stores, Held, held_in}
use Rattle.policy.specs.Format.{format_of}
use Rattle.policy.specs.Syntax.{Expr}
use Rattle.policy.specs.Polarity.{Verdict}
use Rattle.policy.specs.Checking.{checked, check}
use Rattle.meaning.specs.Evidence.{names_held}
use Rattle.demands.specs.Query.{read_from, roomy, Call, query_call, answer_area, draws_of}
use Rattle.demands.specs.Query as Query
use Rattle.demands.specs.Refusal.{soundness, Refusal}

-- Which reply applies to words filed. Of certificates "Filing: 8, 9, Held, 10", with 17 "right after 9"; of links "18 .. before Held", then 19. The numbers are
-- the kind's.
pub data Filing (kind : Kind) (store w : List ℕ) : FilingReply → Type 0 where
  unsound_store : sound_in kind store ≡ false → Filing kind store w (refused kind.bad_store)
  unsound_record : sound_in kind store ≡ true → kind.sound w ≡ false → Filing kind store w (refused (kind.bad_record w))
  is_held : sound_in kind store ≡ true → kind.sound w ≡ true → w ∈ records_of kind store → Filing kind store w held
  is_full : sound_in kind store ≡ true → kind.sound w ≡ true → (¬ (w ∈ records_of kind store)) → count_of store ≡ kind.most → Filing kind store w (refused kind.full)
  is_new : sound_in kind store ≡ true → kind.sound w ≡ true → (¬ (w ∈ records_of kind store)) → count_of store < kind.most → Filing kind store w filed

-- two calls alike but for what the definition and scratch areas hold; and both have areas long enough, or neither has
pub record Alike (c d : Call) : Type 0 where
  pub policy : c.policy ≡ d.policy
  pub query : c.query ≡ d.query
  pub our_key : c.our_key ≡ d.our_key
  pub minute : c.minute ≡ d.minute
  pub answer : c.answer ≡ d.answer
  pub room : roomy c ≡ roomy d

pub record Theorem : Type 0 where
  -- each reply to a certificate filed is given exactly where it applies, and a refused filing leaves the store unchanged
  pub filing : (store w : List ℕ) (r : FilingReply) → (file_reply certificate_kind store w ≡ r) ↔ Filing certificate_kind store w r
  pub store_stays : (store w : List ℕ) (n : ℕ) → file_reply certificate_kind store w ≡ refused n → store_after certificate_kind store w ≡ store
  -- 9: "certificate not [ten] words or unsound", exactly there
  pub nine : (store w : List ℕ) → (file_reply certificate_kind store w ≡ refused bad_certificate) ↔ ((sound_store store ≡ true) × (sound_certificate w ≡ false))
  -- "17, an end not after its first minute, when filing, right after 9": exactly where 9 does not apply and the term is such
  pub seventeen : (store w : List ℕ) →
      (file_reply certificate_kind store w ≡ refused bad_term) ↔ ((sound_store store ≡ true) × (sound_certificate w ≡ true) × (sound_term w ≡ false))
  -- the same of links and their store
  pub link_filing : (links w : List ℕ) (r : FilingReply) → (file_reply link_kind links w ≡ r) ↔ Filing link_kind links w r
  pub links_stay : (links w : List ℕ) (n : ℕ) → file_reply link_kind links w ≡ refused n → store_after link_kind links w ≡ links
  -- each refusal of a query is met exactly where it applies, and a refused query leaves the answer area unchanged
  pub query : (s : Stores) (c : Call) (n part : ℕ) → (query_call s c ≡ Query.refused n part) ↔ Refusal (soundness s) (names_held (held_in c.minute s)) c n part
  pub answer_stays : (s : Stores) (c : Call) (n part : ℕ) → query_call s c ≡ Query.refused n part → answer_area (query_call s c) c.answer ≡ c.answer
  -- "draws are 0"
  pub no_draws : (s : Stores) (c : Call) (n part : ℕ) → query_call s c ≡ Query.refused n part → draws_of (query_call s c) ≡ 0
  -- 12 is never met: what passed the checks draws only from what is not open, and that is read as a finite set, whatever is held, whichever format the policy
  -- has and whichever key is ours
  pub never12 : (ours : ℕ) (policy query : List ℕ) (es : List Expr) (q : Expr) (v : Verdict) → check ours policy query ≡ checked es q v → (h : Held) (part : ℕ) →
      ¬ (read_from (format_of policy) (names_held h) es q v [] 0 ≡ Query.refused complement_drawn part)
  -- "no result depends on their earlier words": those of the definition area and of the scratch area
  pub earlier_words : (s : Stores) (c d : Call) → Alike c d → (query_call s c ≡ query_call s d) × (answer_area (query_call s c) c.answer ≡ answer_area (query_call s d) d.answer)
