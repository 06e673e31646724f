-- Filings of both kinds: each store is as the filings of its own kind leave it, and the two hold just what was accepted.
use Prim.Native.Nat.{ℕ}
use mathlib.Core.Path.{◌≡◌, refl, sym, ap, subst}
use mathlib.Core.Bool.{true}
use mathlib.Core.List.{List, [], ◌∷◌, ◌++◌}
use Rattle.rows.specs.Ordered.{◌∈◌}
use Rattle.rows.specs.Records.{count_of}
use Rattle.rows.proofs.Lists.{map-∈}
use Rattle.certificates.specs.Certificate.{Certificate}
use Rattle.certificates.specs.Filing.{Kind, Keeps, sound_in, store_at, accepted, accepted_from}
use Rattle.certificates.specs.Store.{records, sound_store, certificate_kind, certificates_at}
use Rattle.certificates.specs.Link.{Link, link_of, link_records, sound_links, link_kind, links_said}
use Rattle.certificates.specs.Stores.{AnyFiling, certificate, link, Stores, reply_at, stores_after, stores_at, certificates_filed, links_filed, accepted_certificates, accepted_links, reply_after, Held, held_in, held_after}
use Rattle.certificates.proofs.Filings.{Lawful, empty_keeps, reply_keeps, at_keeps, accepted_from_append, accepted_stays}
use Rattle.certificates.proofs.Sound.{certificate_laws}
use Rattle.certificates.proofs.Links.{link_laws}
use Rattle.certificates.proofs.Saying.{said_more}

-- each filing goes to its own store
stores_apart : (s : Stores) (fs : List AnyFiling) →
    stores_at s fs ≡ record { store = store_at certificate_kind s.store (certificates_filed fs); links = store_at link_kind s.links (links_filed fs) }
unfolding stores_at stores_after store_at certificates_filed links_filed
stores_apart s [] = refl
stores_apart s (certificate w ∷ fs) = stores_apart (stores_after s (certificate w)) fs
stores_apart s (link w ∷ fs) = stores_apart (stores_after s (link w)) fs

pub certificates_append : (xs ys : List AnyFiling) → certificates_filed (xs ++ ys) ≡ certificates_filed xs ++ certificates_filed ys
unfolding certificates_filed
certificates_append [] ys = refl
certificates_append (certificate w ∷ xs) ys = ap (λ (l : List (List ℕ)). w ∷ l) (certificates_append xs ys)
certificates_append (link w ∷ xs) ys = certificates_append xs ys

links_append : (xs ys : List AnyFiling) → links_filed (xs ++ ys) ≡ links_filed xs ++ links_filed ys
unfolding links_filed
links_append [] ys = refl
links_append (certificate w ∷ xs) ys = links_append xs ys
links_append (link w ∷ xs) ys = ap (λ (l : List (List ℕ)). w ∷ l) (links_append xs ys)

-- both stores keep what was accepted
pub record BothKeep (first now : Stores) (fs : List AnyFiling) : Type 0 where
  pub store : Keeps certificate_kind first.store now.store (accepted_certificates fs)
  pub links : Keeps link_kind first.links now.links (accepted_links fs)

module _ {kind : Kind} (laws : Lawful kind) where
  from_empty : (store : List ℕ) → sound_in kind store ≡ true → count_of store ≡ 0 → (ws : List (List ℕ)) → Keeps kind store (store_at kind store ws) (accepted kind ws)
  unfolding accepted
  from_empty store s z ws = at_keeps laws (empty_keeps laws store s z) ws

  -- what was accepted stays accepted
  later_too : (xs ys : List (List ℕ)) (w : List ℕ) → w ∈ accepted kind xs → w ∈ accepted kind (xs ++ ys)
  unfolding accepted
  later_too xs ys w i = subst (λ (rs : List (List ℕ)). w ∈ rs) (sym (accepted_from_append laws [] xs ys)) (accepted_stays laws (accepted_from kind [] xs) ys w i)

pub both_keep : (s : Stores) → sound_store s.store ≡ true → count_of s.store ≡ 0 → sound_links s.links ≡ true → count_of s.links ≡ 0 → (fs : List AnyFiling) →
    BothKeep s (stores_at s fs) fs
unfolding sound_store sound_links
both_keep s a b c d fs = subst (λ (now : Stores). BothKeep s now fs) (sym (stores_apart s fs)) (record {
  store = from_empty certificate_laws s.store a b (certificates_filed fs);
  links = from_empty link_laws s.links c d (links_filed fs);
})

-- a filing is answered by what was accepted before it
pub reply_both : {first now : Stores} {fs : List AnyFiling} → BothKeep first now fs → (f : AnyFiling) → reply_at now f ≡ reply_after fs f
unfolding reply_at reply_after
reply_both k (certificate w) = reply_keeps certificate_laws k.store w
reply_both k (link w) = reply_keeps link_laws k.links w

-- the one is held where the other is
pub record Within (h i : Held) : Type 0 where
  pub certificates : (c : Certificate) → c ∈ h.certificates → c ∈ i.certificates
  pub links : (l : Link) → l ∈ h.links → l ∈ i.links

links_more : (vs ws : List (List ℕ)) → ((w : List ℕ) → w ∈ vs → w ∈ ws) → (l : Link) → l ∈ links_said vs → l ∈ links_said ws
unfolding links_said
links_more vs ws more l i = let t = (map-∈ link_of vs l).0 i in (map-∈ link_of ws l).1 (t.0, more t.0 t.1, t.2)

-- the stores hold what was accepted, and that alone
module _ {first now : Stores} {fs : List AnyFiling} (k : BothKeep first now fs) (minute : ℕ) where
  pub held_accepted : Within (held_in minute now) (held_after minute fs)
  unfolding held_in held_after certificates_at
  held_accepted = record {
    certificates = said_more minute (records now.store) (accepted_certificates fs) (λ w. (k.store.just w).0);
    links = links_more (link_records now.links) (accepted_links fs) (λ w. (k.links.just w).0);
  }

  pub accepted_held : Within (held_after minute fs) (held_in minute now)
  unfolding held_in held_after certificates_at
  accepted_held = record {
    certificates = said_more minute (accepted_certificates fs) (records now.store) (λ w. (k.store.just w).1);
    links = links_more (accepted_links fs) (link_records now.links) (λ w. (k.links.just w).1);
  }

pub held_stays : (minute : ℕ) (xs ys : List AnyFiling) → Within (held_after minute xs) (held_after minute (xs ++ ys))
unfolding held_after
held_stays minute xs ys = record {
  certificates = said_more minute (accepted_certificates xs) (accepted_certificates (xs ++ ys)) (λ w i.
      rw (certificates_append xs ys) (later_too certificate_laws (certificates_filed xs) (certificates_filed ys) w i));
  links = links_more (accepted_links xs) (accepted_links (xs ++ ys)) (λ w i. rw (links_append xs ys) (later_too link_laws (links_filed xs) (links_filed ys) w i));
}
