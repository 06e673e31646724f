-- What a reader reads. A spelling says how a value is written in words, which draws are met on them, and which values are written so; a reader
-- reads a spelling if whatever it gets is one of these values, with the value's words taken, and if it gets back each of them from its words.
-- Each reader of the decoder has one lemma, `X-reads`, made of the few below.
use Prim.Native.Nat.{ℕ, ◌+◌, ◌≤◌}
use mathlib.Core.Path.{◌≡◌, refl, ap}
use mathlib.Core.List.{List, [], ◌∷◌, ◌++◌, append_assoc, append-nil}
use native.Mathlib.Nat.{add-zero}
use native.Mathlib.Omega.{arith}
use Rattle.policy.specs.Decode.{Read, got, refused, Reader, after, give, refuse, word}
use Rattle.policy.proofs.Basics.{impossible}

pub record Spelling (A : Type 0) : Type 1 where
  pub words : A → List ℕ
  pub draws : A → ℕ
  pub Good : A → Type 0

-- a spelling without draws
abbrev pub plain : {A : Type 0} → (A → List ℕ) → (A → Type 0) → Spelling A
plain words rule = record { words = words; draws = λ a. 0; Good = rule }

-- one word
abbrev pub one_word : (ℕ → Type 0) → Spelling ℕ
one_word rule = plain (λ w. w ∷ []) rule

-- a value that is spelled so, its words and its draws
pub record Made {A : Type 0} (S : Spelling A) (a : A) (u : List ℕ) (d : ℕ) : Type 0 where
  pub spelled : u ≡ S.words a
  pub met : d ≡ S.draws a
  pub good : S.Good a

pub made : {A : Type 0} {S : Spelling A} {a : A} → S.Good a → Made S a (S.words a) (S.draws a)
made g = record { spelled = refl; met = refl; good = g }

-- words are taken off the front, draws are met, and there are no more than eight so far
pub record Taken {A : Type 0} (Q : A → List ℕ → ℕ → Type 0) (ws : List ℕ) (k : ℕ) (a : A) (rest : List ℕ) (j : ℕ) : Type 0 where
  pub words : List ℕ
  pub draws : ℕ
  pub front : ws ≡ words ++ rest
  pub count : j ≡ k + draws
  pub few : j ≤ 8
  pub so : Q a words draws

-- whatever the reader gets is, with the words taken and the draws met, as Q says
pub record Takes {A : Type 0} (m : Reader A) (Q : A → List ℕ → ℕ → Type 0) : Type 0 where
  pub taken : (ws : List ℕ) (k : ℕ) (a : A) (rest : List ℕ) (j : ℕ) → k ≤ 8 → m ws k ≡ got a rest j → Taken Q ws k a rest j

-- the reader gets the value back from these words, unless the draws met are too many
pub record Returns {A : Type 0} (m : Reader A) (a : A) (u : List ℕ) (d : ℕ) : Type 0 where
  pub back : (rest : List ℕ) (k : ℕ) → k + d ≤ 8 → m (u ++ rest) k ≡ got a rest (k + d)

pub record Reads {A : Type 0} (m : Reader A) (S : Spelling A) : Type 0 where
  pub takes : Takes m (Made S)
  pub returns : (a : A) → S.Good a → Returns m a (S.words a) (S.draws a)

pub refuse_takes : {A : Type 0} {Q : A → List ℕ → ℕ → Type 0} (n : ℕ) → Takes (refuse n) Q
refuse_takes n = record { taken = λ ws k a rest j h e. impossible cc }

pub give_takes : {A : Type 0} {Q : A → List ℕ → ℕ → Type 0} (a : A) → Q a [] 0 → Takes (give a) Q
give_takes {Q} a q = record {
  taken = λ ws k b rest j h e.
      let f : a ≡ b = cc in
      let l : ws ≡ rest = cc in
      let c : k ≡ j = cc in
      record { words = []; draws = 0; front = l; count = omega arith; few = omega arith; so = rw f at q };
}

pub give_returns : {A : Type 0} (a : A) → Returns (give a) a [] 0
give_returns a = record { back = λ rest k h. let o : k ≡ k + 0 = omega arith in ap (λ j. got a rest j) o }

front_front : (ws u vs v rest : List ℕ) → ws ≡ u ++ vs → vs ≡ v ++ rest → ws ≡ u ++ v ++ rest
front_front ws u vs v rest p q = rw (p, q, append_assoc)

module _ {A B : Type 0} {m : Reader A} {S : Spelling A} where
  -- first m, then what depends on the value that it got
  pub then_takes : {f : A → Reader B} {Q : B → List ℕ → ℕ → Type 0} → Reads m S →
      ((a : A) → S.Good a → Takes (f a) (λ b v e. Q b (S.words a ++ v) (S.draws a + e))) → Takes (λ ws k. after (m ws k) f) Q
  then_takes {f} {Q} x g = record { taken = λ ws k b rest j h e. go ws k b rest j h (m ws k) refl e }
    where
      go : (ws : List ℕ) (k : ℕ) (b : B) (rest : List ℕ) (j : ℕ) → k ≤ 8 → (r : Read A) → m ws k ≡ r → after r f ≡ got b rest j → Taken Q ws k b rest j
      go ws k b rest j h (got a vs i) p e =
          let y = x.takes.taken ws k a vs i h p in
          let z = (g a y.so.good).taken vs i b rest j y.few e in
          let d = y.so.met in
          record {
            words = S.words a ++ z.words;
            draws = S.draws a + z.draws;
            front = front_front ws (S.words a) vs z.words rest (rw y.so.spelled at y.front) z.front;
            count = omega arith;
            few = z.few;
            so = z.so;
          }
      go ws k b rest j h (refused n) p e = impossible cc

  -- m last, its value being part of what is given
  pub last_takes : {Q : B → List ℕ → ℕ → Type 0} (c : A → B) → Reads m S → ((a : A) → S.Good a → Q (c a) (S.words a) (S.draws a)) →
      Takes (λ ws k. after (m ws k) (λ a. give (c a))) Q
  last_takes {Q} c x q = then_takes x (λ a g. give_takes (c a) (rw (append-nil, add-zero) (q a g)))

  pub then_returns : {b : B} {v : List ℕ} {e : ℕ} (f : A → Reader B) → Reads m S → (a : A) → S.Good a → Returns (f a) b v e →
      Returns (λ ws k. after (m ws k) f) b (S.words a ++ v) (S.draws a + e)
  then_returns {b} {v} {e} f x a g y = record {
    back = λ rest k h.
        let s = (x.returns a g).back (v ++ rest) k (omega arith) in
        let t = y.back rest (k + S.draws a) (omega arith) in
        let o : k + S.draws a + e ≡ k + (S.draws a + e) = omega arith in
        rw (append_assoc, s, t, o);
  }

  pub last_returns : (c : A → B) → Reads m S → (a : A) → S.Good a → Returns (λ ws k. after (m ws k) (λ a. give (c a))) (c a) (S.words a) (S.draws a)
  last_returns c x a g = record { back = λ rest k h. rw ((x.returns a g).back rest k h) }

-- m alone
pub whole_takes : {A : Type 0} {m : Reader A} {S : Spelling A} {Q : A → List ℕ → ℕ → Type 0} → Reads m S → ((a : A) → S.Good a → Q a (S.words a) (S.draws a)) → Takes m Q
whole_takes {S} {Q} x q = record {
  taken = λ ws k a rest j h e.
      let y = x.takes.taken ws k a rest j h e in
      record {
        words = S.words a;
        draws = S.draws a;
        front = rw y.so.spelled at y.front;
        count = rw y.so.met at y.count;
        few = y.few;
        so = q a y.so.good;
      };
}

-- the next word, then what depends on it
pub word_takes : {B : Type 0} {f : ℕ → Reader B} {Q : B → List ℕ → ℕ → Type 0} → ((w : ℕ) → Takes (f w) (λ b v e. Q b (w ∷ v) e)) → Takes (λ ws k. after (word ws k) f) Q
word_takes {B} {f} {Q} g = record { taken = go }
  where
    go : (ws : List ℕ) (k : ℕ) (b : B) (rest : List ℕ) (j : ℕ) → k ≤ 8 → after (word ws k) f ≡ got b rest j → Taken Q ws k b rest j
    go [] k b rest j h e = impossible cc
    go (w ∷ ws) k b rest j h e =
        let y = (g w).taken ws k b rest j h e in
        record { words = w ∷ y.words; draws = y.draws; front = ap (λ l. w ∷ l) y.front; count = y.count; few = y.few; so = y.so }

pub word_returns : {B : Type 0} {f : ℕ → Reader B} {b : B} {v : List ℕ} {e : ℕ} (w : ℕ) → Returns (f w) b v e → Returns (λ ws k. after (word ws k) f) b (w ∷ v) e
word_returns w x = record { back = λ rest k h. x.back rest k h }

-- the draws, counted another way
pub returns_as : {A : Type 0} {m : Reader A} {a : A} {u : List ℕ} {d e : ℕ} → Returns m a u d → d ≡ e → Returns m a u e
returns_as x p = rw p at x
