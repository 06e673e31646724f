-- Document 01, refusal table: which refusal applies to a query call, in the order "1, 2; each definition, then the query; 8; 11; then reading, first met", with
-- document 02's 18 (N5) "in a query right after 8" and 20 (N7) "before all others".
use Rattle.std.specs.Prelude.{ℕ, ◌≡◌, Bool, true, false, List, []}
use Rattle.refusals.specs.RefusalTable.{bad_store, bad_link, short_area, not_a_key, no_part}
use Rattle.rows.specs.Row.{is_key}
use Rattle.certificates.specs.Store.{sound_store}
use Rattle.certificates.specs.Link.{sound_links}
use Rattle.certificates.specs.Stores.{Stores}
use Rattle.policy.specs.Format.{format_of}
use Rattle.policy.specs.Syntax.{Expr}
use Rattle.policy.specs.Polarity.{Verdict}
use Rattle.policy.specs.Checking.{checked, check}
use Rattle.policy.specs.Judgement.{refused, judge}
use Rattle.meaning.specs.Evidence.{Evidence}
use Rattle.demands.specs.Query.{read_from, roomy, Call}
use Rattle.demands.specs.Query as Query

-- which of the stores that a call is lent are sound
pub record Soundness : Type 0 where
  pub store : Bool
  pub links : Bool

unfoldable pub soundness : Stores → Soundness
unfolding sound_store sound_links
soundness s = record { store = sound_store s.store; links = sound_links s.links }

abbrev pub all_sound : Soundness
all_sound = record { store = true; links = true }

-- these of the stores being sound, and their names these, the refusal of this number and part applies to the call
pub data Refusal (sound : Soundness) (names : Evidence) (c : Call) : ℕ → ℕ → Type 0 where
  -- 20
  number : is_key c.our_key ≡ false → Refusal sound names c not_a_key no_part
  -- 1 to 7
  judged : {n part : ℕ} → is_key c.our_key ≡ true → judge c.our_key c.policy c.query ≡ refused n part → Refusal sound names c n part
  -- 8
  unsound : {es : List Expr} {q : Expr} {v : Verdict} → check c.our_key c.policy c.query ≡ checked es q v → sound.store ≡ false →
      Refusal sound names c bad_store no_part
  -- 18, whatever is read
  unsound_links : {es : List Expr} {q : Expr} {v : Verdict} → check c.our_key c.policy c.query ≡ checked es q v → sound.store ≡ true → sound.links ≡ false →
      Refusal sound names c bad_link no_part
  -- 11
  short : {es : List Expr} {q : Expr} {v : Verdict} → check c.our_key c.policy c.query ≡ checked es q v → sound ≡ all_sound → roomy c ≡ false →
      Refusal sound names c short_area no_part
  -- 12, 13 and 14, the first that is met while reading in the policy's format
  reading : {es : List Expr} {q : Expr} {v : Verdict} {n part : ℕ} → check c.our_key c.policy c.query ≡ checked es q v → sound ≡ all_sound → roomy c ≡ true →
      read_from (format_of c.policy) names es q v [] 0 ≡ Query.refused n part → Refusal sound names c n part
