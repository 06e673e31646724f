-- What the decoder's small readers read: words that keep a rule, terms, rows and patterns.
use Prim.Native.Nat.{ℕ, zero, suc, ◌+◌, ◌≤◌}
use mathlib.Core.Path.{◌≡◌, refl, ap}
use mathlib.Core.Logic.{◌↔◌}
use mathlib.Core.Bool.{Bool, true, false, ◌&&◌}
use mathlib.Core.List.{List, [], ◌∷◌}
use native.Mathlib.Omega.{arith}
use lib.Dec.{T, leb, ltb, eqb, leb→le, le→leb, ltb→lt, lt→ltb, eqb→eq, eqb_refl}
use lib.ListN.{length}
use Rattle.refusals.specs.RefusalTable.{bad_word, not_in_scope}
use Rattle.rows.specs.Word.{All}
use Rattle.rows.specs.Row.{is_key}
use Rattle.rows.specs.Name.{Polarity, plus, minus, is_polarity, polarity_of, polarity_word}
use Rattle.rows.proofs.Case.{T_and, iff_refl}
use Rattle.policy.specs.Syntax.{Term, atom, var, Slot, old, new}
use Rattle.policy.specs.Words.{term_words, each, term_row_words, slot_words, fresh}
use Rattle.policy.specs.WellFormed.{FitTerm, FitIssuer, FitRow, FitRows, FitSlots}
use Rattle.policy.specs.Decode.{Reader, after, give, need, word, word_where, times, polarity, tag_of, term_as, any_atom, term, issuer, width, row, rows, Pattern, push_slot, slot_as, slots}
use Rattle.policy.proofs.Spelling.{Spelling, plain, one_word, Made, made, Takes, Returns, Reads, refuse_takes, give_takes, give_returns, then_takes, last_takes, whole_takes, then_returns, last_returns, word_takes, word_returns}

-- a word that keeps a rule
pub where_reads : {Good : ℕ → Type 0} (n : ℕ) (rule : ℕ → Bool) → ((w : ℕ) → T (rule w) ↔ Good w) → Reads (word_where n rule) (one_word Good)
unfolding word_where
where_reads {Good} n rule same = record {
  takes = word_takes (λ w. taking w (rule w) (same w).0);
  returns = λ w g. word_returns w (returning w (rule w) ((same w).1 g));
}
  where
    taking : (w : ℕ) (b : Bool) → (T b → Good w) → Takes (λ ws k. after (need n b ws k) (λ t. give w)) (λ v u d. Made (one_word Good) v (w ∷ u) d)
    taking w true g = give_takes w (made (g tt))
    taking w false g = refuse_takes n

    returning : (w : ℕ) (b : Bool) → T b → Returns (λ ws k. after (need n b ws k) (λ t. give w)) w [] 0
    returning w true t = give_returns w
    returning w false t = elim t [ ]

-- c things, each of a spelling without draws
abbrev pub many : {A : Type 0} → (A → List ℕ) → (A → Type 0) → ℕ → Spelling (List A)
many words Good c = plain (each words) (λ xs. All Good xs × (length xs ≡ c))

pub times_reads : {A : Type 0} {m : Reader A} {words : A → List ℕ} {Good : A → Type 0} → Reads m (plain words Good) → (c : ℕ) → Reads (times c m) (many words Good c)
unfolding times each All
times_reads {A} {m} {words} {Good} x zero = record {
  takes = give_takes [] (made (tt, refl));
  returns = λ xs g. returning xs g.1;
}
  where
    returning : (xs : List A) → length xs ≡ 0 → Returns (give []) xs (each words xs) 0
    returning [] l = give_returns []
    returning (a ∷ xs) l = absurd (omega arith)
times_reads {A} {m} {words} {Good} x (suc c) =
    let more = times_reads x c in
    record {
      takes = then_takes x (λ a g. last_takes (λ xs. a ∷ xs) more (λ xs h. made ((g, h.0), ap suc h.1)));
      returns = λ xs g. returning more xs g.0 g.1;
    }
  where
    returning : Reads (times c m) (many words Good c) → (xs : List A) → All Good xs → length xs ≡ suc c → Returns (times (suc c) m) xs (each words xs) 0
    returning more [] g l = absurd (omega arith)
    returning more (a ∷ xs) g l = then_returns _ x a g.0 (last_returns (λ xs. a ∷ xs) more xs (g.1, omega arith))

pub polarity_reads : Reads polarity (plain (λ p. polarity_word p ∷ []) (λ p. Unit {0}))
unfolding polarity polarity_of polarity_word
polarity_reads = record { takes = last_takes polarity_of word_reads taking; returns = λ p g. returning p }
  where
    word_reads : Reads (word_where bad_word is_polarity) (one_word (λ w. w ≤ 1))
    word_reads = where_reads bad_word is_polarity (λ w. (leb→le w 1, le→leb w 1))

    taking : (w : ℕ) → w ≤ 1 → Made (plain (λ p. polarity_word p ∷ []) (λ p. Unit {0})) (polarity_of w) (w ∷ []) 0
    taking zero h = made tt
    taking (suc zero) h = made tt
    taking (suc (suc w)) h = absurd (omega arith)

    returning : (p : Polarity) → Returns polarity p (polarity_word p ∷ []) 0
    returning plus = last_returns polarity_of word_reads 0 (omega arith)
    returning minus = last_returns polarity_of word_reads 1 (omega arith)

-- a term's words are its tag and one more
tag_word : Term → ℕ
tag_word (atom a) = 0
tag_word (var i) = 1

untagged : Term → List ℕ
untagged (atom a) = a ∷ []
untagged (var i) = i ∷ []

tagged : (t : Term) → tag_word t ∷ untagged t ≡ term_words t
unfolding tag_word untagged term_words
tagged (atom a) = refl
tagged (var i) = refl

-- n variables are in scope; `Good` says which atoms and variables may stand
module _ (rule : ℕ → Bool) (n : ℕ) (Good : Term → Type 0) (atoms : (a : ℕ) → T (rule a) ↔ Good (atom a)) (vars : (i : ℕ) → T (ltb i n) ↔ Good (var i)) where
  -- the word after the tag w
  term_as_reads : (w : ℕ) → Reads (term_as rule n (tag_of w)) (plain untagged (λ t. Good t × (tag_word t ≡ w)))
  unfolding term_as tag_of tag_word untagged
  term_as_reads w = record { takes = taking w; returns = λ t g. rw g.1 at (returning t g.0) }
    where
      atom_reads : Reads (word_where bad_word rule) (one_word (λ a. Good (atom a)))
      atom_reads = where_reads bad_word rule atoms

      var_reads : Reads (word_where not_in_scope (λ i. ltb i n)) (one_word (λ i. Good (var i)))
      var_reads = where_reads not_in_scope (λ i. ltb i n) vars

      taking : (w : ℕ) → Takes (term_as rule n (tag_of w)) (Made (plain untagged (λ t. Good t × (tag_word t ≡ w))))
      taking zero = last_takes atom atom_reads (λ a g. made (g, refl))
      taking (suc zero) = last_takes var var_reads (λ i g. made (g, refl))
      taking (suc (suc zero)) = refuse_takes bad_word
      taking (suc (suc (suc w))) = refuse_takes bad_word

      returning : (t : Term) → Good t → Returns (term_as rule n (tag_of (tag_word t))) t (untagged t) 0
      returning (atom a) g = last_returns atom atom_reads a g
      returning (var i) g = last_returns var var_reads i g

  tagged_reads : Reads (λ ws k. after (word ws k) (λ t. term_as rule n (tag_of t))) (plain term_words Good)
  tagged_reads = record {
    takes = word_takes (λ w. whole_takes (term_as_reads w) (λ t g. record { spelled = rw (← g.1) (tagged t); met = refl; good = g.0 }));
    returns = λ t g. rw (← (tagged t)) (word_returns (tag_word t) ((term_as_reads (tag_word t)).returns t (g, refl)));
  }

fit_atom : (n a : ℕ) → T (any_atom a) ↔ FitTerm n (atom a)
unfolding any_atom FitTerm
fit_atom n a = (λ h. tt, λ h. tt)

fit_var : (n i : ℕ) → T (ltb i n) ↔ FitTerm n (var i)
unfolding FitTerm
fit_var n i = (ltb→lt i n, lt→ltb i n)

pub term_reads : (n : ℕ) → Reads (term n) (plain term_words (FitTerm n))
unfolding term
term_reads n = tagged_reads any_atom n (FitTerm n) (fit_atom n) (fit_var n)

pub issuer_reads : (n : ℕ) → Reads (issuer n) (plain term_words (FitIssuer n))
unfolding issuer FitIssuer
issuer_reads n = tagged_reads is_key n (FitIssuer n) (λ a. iff_refl) (λ i. (ltb→lt i n, lt→ltb i n))

-- a count, then so many things
counted_reads : {A : Type 0} {m : Reader A} {words : A → List ℕ} {Good : A → Type 0} {number : Reader ℕ} {Count : ℕ → Type 0} (Fit : List A → Type 0) →
    ((xs : List A) → (Count (length xs) × All Good xs) ↔ Fit xs) → Reads number (one_word Count) → Reads m (plain words Good) →
    Reads (λ ws k. after (number ws k) (λ c. times c m)) (plain (λ xs. length xs ∷ each words xs) Fit)
counted_reads {Count} Fit fits x y = record {
  takes = then_takes x (λ c g. whole_takes (times_reads y c) (λ xs h. record { spelled = rw h.1; met = refl; good = (fits xs).0 (rw h.1 g, h.0) }));
  returns = λ xs g. let h = (fits xs).1 g in then_returns _ x (length xs) h.0 ((times_reads y (length xs)).returns xs (h.1, refl));
}

between : (a b w : ℕ) → T (leb a w && leb w b) ↔ ((a ≤ w) × (w ≤ b))
between a b w =
    (λ t. let h = (T_and (leb a w) (leb w b)).0 t in (leb→le a w h.0, leb→le w b h.1), λ h. (T_and (leb a w) (leb w b)).1 (le→leb a w h.0, le→leb w b h.1))

pub width_reads : Reads width (one_word (λ w. (1 ≤ w) × (w ≤ 4)))
unfolding width
width_reads = where_reads bad_word (λ w. leb 1 w && leb w 4) (between 1 4)

pub row_reads : (n : ℕ) → Reads (row n) (plain term_row_words (FitRow n))
unfolding row term_row_words
row_reads n = counted_reads (FitRow n) (λ ts. (λ h. record { some = h.0.0; few = h.0.1; terms = h.1 }, λ h. ((h.some, h.few), h.terms))) width_reads (term_reads n)

pub rows_reads : (n : ℕ) → Reads (rows n) (plain (λ rs. length rs ∷ each term_row_words rs) (FitRows n))
unfolding rows
rows_reads n =
    counted_reads (FitRows n) (λ rs. (λ h. record { few = h.0; rows = h.1 }, λ h. (h.few, h.rows)))
    (where_reads bad_word (λ c. leb c 128) (λ c. (leb→le c 128, le→leb c 128))) (row_reads n)

-- a pattern of c slots, n variables being in scope before it
pub record FitSlotsOf (c n : ℕ) (p : Pattern) : Type 0 where
  pub slots : FitSlots n p.0
  pub size : length p.0 ≡ c
  pub scope : p.1 ≡ n + fresh p.0

abbrev pub pattern : ℕ → ℕ → Spelling Pattern
pattern c n = plain (λ p. slot_words n p.0) (FitSlotsOf c n)

no_slots : (n : ℕ) → Reads (slots zero n) (pattern zero n)
unfolding slots slot_words fresh FitSlots
no_slots n = record {
  takes = give_takes ([], n) (made (record { slots = tt; size = refl; scope = omega arith }));
  returns = λ p g. returning p.0 p.1 g.size g.scope;
}
  where
    returning : (s : List Slot) (m : ℕ) → length s ≡ 0 → m ≡ n + fresh s → Returns (slots zero n) (s, m) (slot_words n s) 0
    returning [] m l e = let o : m ≡ n = omega arith in rw o (give_returns ([], n))
    returning (x ∷ s) m l e = absurd (omega arith)

-- one slot, then those after it
module _ (c n : ℕ) (more : (m : ℕ) → Reads (slots c m) (pattern c m)) where
  old_reads : (w : ℕ) → Reads (term_as any_atom n (tag_of w)) (plain untagged (λ t. FitTerm n t × (tag_word t ≡ w)))
  old_reads = term_as_reads any_atom n (FitTerm n) (fit_atom n) (fit_var n)

  new_reads : Reads (word_where not_in_scope (λ v. eqb v n && leb v 15)) (one_word (λ v. (v ≡ n) × (n ≤ 15)))
  new_reads = where_reads not_in_scope (λ v. eqb v n && leb v 15) fits
    where
      fits : (v : ℕ) → T (eqb v n && leb v 15) ↔ ((v ≡ n) × (n ≤ 15))
      fits v = (
        λ t. let h = (T_and (eqb v n) (leb v 15)).0 t in let e = eqb→eq v n h.0 in (e, omega (arith, leb→le v 15 h.1)),
        λ h. (T_and (eqb v n) (leb v 15)).1 (rw h.0 (eqb_refl n), le→leb v 15 (omega arith)),
      )

  old_takes : (w : ℕ) →
      Takes (λ ws k. after (term_as any_atom n (tag_of w) ws k) (λ t us i. after (slots c n us i) (λ p. give (push_slot (old t) p)))) (λ p u d. Made (pattern (suc c) n) p (w ∷ u) d)
  unfolding push_slot slot_words fresh FitSlots
  old_takes w =
      then_takes (old_reads w) (λ t g.
      last_takes (push_slot (old t)) (more n) (λ p h. record {
        spelled = rw (← (tagged t), g.1);
        met = refl;
        good = record { slots = (g.0, h.slots); size = ap suc h.size; scope = h.scope };
      }))

  slot_as_takes : (w : ℕ) → Takes (slot_as n (λ m. slots c m) (tag_of w)) (λ p u d. Made (pattern (suc c) n) p (w ∷ u) d)
  unfolding slot_as tag_of push_slot slot_words fresh FitSlots
  slot_as_takes zero = old_takes 0
  slot_as_takes (suc zero) = old_takes 1
  slot_as_takes (suc (suc zero)) =
      then_takes new_reads (λ v g.
      last_takes (push_slot new) (more (n + 1)) (λ p h. record {
        spelled = rw g.0;
        met = refl;
        good = record { slots = (g.1, h.slots); size = ap suc h.size; scope = omega (arith, h.scope) };
      }))
  slot_as_takes (suc (suc (suc w))) = refuse_takes bad_word

  slots_returns : (s : List Slot) (m : ℕ) → FitSlots n s → length s ≡ suc c → m ≡ n + fresh s → Returns (slots (suc c) n) (s, m) (slot_words n s) 0
  unfolding slots slot_as tag_of tag_word untagged term_words push_slot slot_words fresh FitSlots
  slots_returns [] m f l e = absurd (omega arith)
  slots_returns (old (atom a) ∷ s) m f l e =
      word_returns 0 (then_returns _ (old_reads 0) (atom a) (f.0, refl) (last_returns (push_slot (old (atom a))) (more n) (s, m) (record { slots = f.1; size = omega arith; scope = e })))
  slots_returns (old (var i) ∷ s) m f l e =
      word_returns 1 (then_returns _ (old_reads 1) (var i) (f.0, refl) (last_returns (push_slot (old (var i))) (more n) (s, m) (record { slots = f.1; size = omega arith; scope = e })))
  slots_returns (new ∷ s) m f l e =
      word_returns 2 (then_returns _ new_reads n (refl, f.0) (last_returns (push_slot new) (more (n + 1)) (s, m) (record { slots = f.1; size = omega arith; scope = omega arith })))

pub slots_reads : (c n : ℕ) → Reads (slots c n) (pattern c n)
unfolding slots
slots_reads zero n = no_slots n
slots_reads (suc c) n =
    let more : (m : ℕ) → Reads (slots c m) (pattern c m) = λ m. slots_reads c m in
    record { takes = word_takes (slot_as_takes c n more); returns = λ p g. slots_returns c n more p.0 p.1 g.slots g.size g.scope }
