-- Document 02, N5: "Demand 3's lists now hold filings of both kinds, into two empty stores, and 'held' counts those of the filing's own kind alone."
use Rattle.std.specs.Prelude.{ℕ, List, [], ◌∷◌}
use Rattle.certificates.specs.Certificate.{Certificate, sound_record, record_before, said_at}
use Rattle.certificates.specs.Filing.{FilingReply, reply_given, file_reply, store_after, accepted}
use Rattle.certificates.specs.Store.{certificate_refusal, certificate_kind, certificates_at}
use Rattle.certificates.specs.Link.{Link, sound_link, link_kind, link_records, links_said}
use Rattle.rows.specs.Ordered.{words_before}
use Rattle.rows.specs.Records.{records_in}

-- a certificate's words, or a link's: "The words filed are any at all."
pub data AnyFiling : Type 0 where
  certificate : List ℕ → AnyFiling
  link : List ℕ → AnyFiling

-- the store, which holds certificates, and the second store, which holds links
pub record Stores : Type 0 where
  pub store : List ℕ
  pub links : List ℕ

-- ---- filing: each goes to the store of its kind, and sees and changes no other

unfoldable pub reply_at : Stores → AnyFiling → FilingReply
unfolding file_reply
reply_at s (certificate w) = file_reply certificate_kind s.store w
reply_at s (link w) = file_reply link_kind s.links w

unfoldable pub stores_after : Stores → AnyFiling → Stores
unfolding store_after sound_record record_before certificate_refusal sound_link words_before
stores_after s (certificate w) = record { store = store_after certificate_kind s.store w; links = s.links }
stores_after s (link w) = record { store = s.store; links = store_after link_kind s.links w }

unfoldable pub stores_at : Stores → List AnyFiling → Stores
unfolding stores_after
stores_at s [] = s
stores_at s (f ∷ fs) = stores_at (stores_after s f) fs

-- ---- what a list of filings has accepted, of either kind

unfoldable pub certificates_filed : List AnyFiling → List (List ℕ)
certificates_filed [] = []
certificates_filed (certificate w ∷ fs) = w ∷ certificates_filed fs
certificates_filed (link w ∷ fs) = certificates_filed fs

unfoldable pub links_filed : List AnyFiling → List (List ℕ)
links_filed [] = []
links_filed (certificate w ∷ fs) = links_filed fs
links_filed (link w ∷ fs) = w ∷ links_filed fs

abbrev pub accepted_certificates : List AnyFiling → List (List ℕ)
accepted_certificates fs = accepted certificate_kind (certificates_filed fs)

abbrev pub accepted_links : List AnyFiling → List (List ℕ)
accepted_links fs = accepted link_kind (links_filed fs)

-- the reply to a filing after these: "'held' counts those of the filing's own kind alone"
unfoldable pub reply_after : List AnyFiling → AnyFiling → FilingReply
unfolding reply_given accepted certificates_filed links_filed sound_record record_before certificate_refusal sound_link words_before
reply_after fs (certificate w) = reply_given certificate_kind (accepted_certificates fs) w
reply_after fs (link w) = reply_given link_kind (accepted_links fs) w

-- ---- what is held at a minute: the certificates that hold then, and the links, which "have no term of validity"

pub record Held : Type 0 where
  pub certificates : List Certificate
  pub links : List Link

-- by the two stores
unfoldable pub held_in : ℕ → Stores → Held
unfolding certificates_at links_said records_in
held_in minute s = record { certificates = certificates_at minute s.store; links = links_said (link_records s.links) }

-- after these filings
unfoldable pub held_after : ℕ → List AnyFiling → Held
unfolding accepted said_at certificates_filed links_filed links_said sound_record record_before certificate_refusal sound_link words_before
held_after minute fs = record { certificates = said_at minute (accepted_certificates fs); links = links_said (accepted_links fs) }
