-- Reading a name where it stands in the words: a number issues nothing, and a key's rows are listed, or one is looked up among them.
use Prim.Native.Nat.{ℕ, suc, ◌+◌, ◌-◌, ◌≤◌, ◌<◌}
use mathlib.Core.Path.{◌≡◌, refl, sym, ap, subst, ◌∙◌}
use mathlib.Core.Bool.{Bool, true, false, not}
use mathlib.Core.List.{List, [], ◌∷◌}
use native.Mathlib.Omega.{arith}
use lib.ListN.{length, get_or, take}
use borrow.Author.Tests.{lt-leb, le-leb}
use Rattle.refusals.specs.declared.Refusal.{Refusal}
use Rattle.rows.specs.Ordered.{lists}
use Rattle.rows.specs.Row.{Row, is_key, first_key}
use Rattle.rows.specs.Name.{Polarity, plus, minus, polarity_of, polarity_word}
use Rattle.rows.specs.Polarities.{polarity_is, polarity_number, form_number, form_of}
use Rattle.rows.specs.declared.Form.{Form}
use Rattle.rows.specs.declared.Polarity as HeldPolarity
use Rattle.rows.specs.declared.Polarity.TheVariants.{Plus, Minus}
use Rattle.rows.specs.Sets.{RowSet, only, listing, has}
use Rattle.rows.specs.Layout.{row_in, rows_in, formed, set_in}
use Rattle.row_words.specs.Values.{five_is, row_is}
use Rattle.row_words.specs.declared.row.Row as HeldRow
use Rattle.rows.proofs.LayoutLaws.{formed_listing}
use Rattle.certificates.specs.Stores.{Held, held_in}
use Rattle.policy.specs.Syntax.{Term}
use Rattle.policy.specs.Words.{term_words}
use Rattle.policy.specs.Held.{term_is}
use Rattle.policy.specs.declared.Term as HeldTerm
use Rattle.meaning.specs.Values.{Values, value}
use Rattle.meaning.specs.Evidence.{joined, names_held}
use Rattle.std.proofs.Common.{Result, Ok, Err, MatchResult}
use Rattle.policy_places.specs.Places.{At, name_words, SomeName, IsTerm}
use Rattle.policy_places.proofs.Places.{at_word, at_next, at_skip, at_front, at_long, term_length}
use Rattle.read_values.specs.Answers.{Empty}
use Rattle.read_links.specs.declared.Name as HeldName
use Rattle.read_names.specs.declared.held.Held as Lent
use Rattle.read_names.specs.Reached.{Listed, Belongs, Large}
use Rattle.read_names.specs.Names.{name_set, rows_for, StandsFor, SayBelongs}

-- what is told of an answer, said otherwise
pub told_so : {A E : Type 0} {P Q : A → Type 0} {R S : E → Type 0} (r : Result A E) → MatchResult r P R → ((a : A) → P a → Q a) → ((e : E) → R e → S e) → MatchResult r Q S
told_so (Ok a) t f g = f a t
told_so (Err e) t f g = g e t

names_key : (h : Held) (k n : ℕ) (p : Polarity) → is_key k ≡ true → names_held h k n p ≡ formed (polarity_word p) (joined h.links h.certificates k n p)
unfolding names_held formed polarity_word
names_key h k n plus e = rw (e, names_held)
names_key h k n minus e = rw (e, names_held)

names_number : (h : Held) (k n : ℕ) (p : Polarity) → is_key k ≡ false → names_held h k n p ≡ formed (polarity_word p) []
unfolding names_held formed polarity_word
names_number h k n plus e = rw (e, names_held)
names_number h k n minus e = rw (e, names_held)

polarity_small : (p : Polarity) → polarity_word p ≤ 1
unfolding polarity_word
polarity_small plus = omega arith
polarity_small minus = omega arith

pub polarity_back : (p : Polarity) → p ≡ polarity_of (polarity_word p)
unfolding polarity_word polarity_of
polarity_back plus = refl
polarity_back minus = refl

pub polarity_few : (p : HeldPolarity.Polarity) → polarity_number p ≤ 1
polarity_few Plus = omega arith
polarity_few Minus = omega arith

-- the form that it says
pub polarity_form : (p : HeldPolarity.Polarity) {f : Form} → f ≡ form_of p → form_number f ≡ polarity_number p
polarity_form Plus e = ap form_number e
polarity_form Minus e = ap form_number e

-- its number, its word and what it is
word_is : (p : HeldPolarity.Polarity) → polarity_word (polarity_is p) ≡ polarity_number p
unfolding polarity_word
word_is Plus = refl
word_is Minus = refl

of_number : (p : HeldPolarity.Polarity) → polarity_is p ≡ polarity_of (polarity_number p)
unfolding polarity_of
of_number Plus = refl
of_number Minus = refl

-- whether it belongs goes by the form and by whether the row is listed
module _ {form : ℕ} {listed : Bool} where
  pub belongs_finite : form ≡ 0 → SayBelongs form listed listed
  unfolding formed has
  belongs_finite z = record { means = λ xs x l. ap (λ (f : ℕ). has (formed f xs) x) z ∙ l }

  pub belongs_complement : (form ≡ 0 → ⊥) → SayBelongs form listed (not listed)
  unfolding formed has
  belongs_complement z =
      let f : suc (form - 1) ≡ form = omega arith in
      record { means = λ xs x l. ap (λ (i : ℕ). has (formed i xs) x) (sym f) ∙ ap not l }

-- ---- the set of a name, by its key

module _ (h : Lent.Held) (n : HeldName.Name) where
  abbrev form : ℕ
  form = polarity_number n.polarity

  abbrev lent : Held
  lent = held_in h.minute (record { store = h.store.now; links = h.links.now })

  number_set : n.key < 2147483648 → name_set h n ≡ formed form []
  number_set l = names_number lent n.key n.number (polarity_is n.polarity) (lt-leb first_key n.key l) ∙ ap (λ (f : ℕ). formed f []) (word_is n.polarity)

  key_set : 2147483648 ≤ n.key → name_set h n ≡ formed form (rows_for h n)
  unfolding held_in
  key_set l =
      names_key lent n.key n.number (polarity_is n.polarity) (le-leb first_key n.key l)
      ∙ ap (λ (f : ℕ). formed f (joined lent.links lent.certificates n.key n.number (polarity_is n.polarity))) (word_is n.polarity)
      ∙ ap (λ (p : Polarity). formed form (joined lent.links lent.certificates n.key n.number p)) (of_number n.polarity)

  -- a number's is empty, or its complement is
  pub number_listed : {area : List ℕ} → n.key < 2147483648 → Empty form area → Listed (name_set h n) area
  unfolding set_in
  number_listed {area} l m = record {
    filled = m.filled;
    set = ap (λ (f : ℕ). formed f (rows_in area)) m.is ∙ ap (formed form) m.none ∙ sym (number_set l);
    few = omega (arith, ap (λ (s : RowSet). length (listing s)) (number_set l), ap length (formed_listing form []));
  }

  pub number_belongs : {x : Row} {b : Bool} → n.key < 2147483648 → SayBelongs form false b → Belongs (name_set h n) x b
  unfolding lists
  number_belongs {x} l g = record {
    few = omega (arith, ap (λ (s : RowSet). length (listing s)) (number_set l), ap length (formed_listing form []));
    means = ap (λ (s : RowSet). has s x) (number_set l) ∙ g.means [] x refl;
  }

  -- a key's lists the rows that are certified
  module _ (l : 2147483648 ≤ n.key) where
    pub key_listed : {area : List ℕ} → Listed (formed form (rows_for h n)) area → Listed (name_set h n) area
    key_listed {area} s = subst (λ (z : RowSet). Listed z area) (sym (key_set l)) s

    pub key_large : {e : Refusal} → Large (formed form (rows_for h n)) e → Large (name_set h n) e
    key_large {e} s = subst (λ (z : RowSet). Large z e) (sym (key_set l)) s

    pub key_belongs : {x : Row} {b c : Bool} → Belongs (only (rows_for h n)) x b → SayBelongs form b c → Belongs (name_set h n) x c
    unfolding listing has
    key_belongs {x} s g = record {
      few = omega (arith, s.few, ap (λ (z : RowSet). length (listing z)) (key_set l), ap length (formed_listing form (rows_for h n)));
      means = ap (λ (z : RowSet). has z x) (key_set l) ∙ g.means (rows_for h n) x s.means;
    }

    pub key_not_looked_up : {e : Refusal} → Large (only (rows_for h n)) e → Large (name_set h n) e
    unfolding listing
    key_not_looked_up s = (s.0, omega (arith, s.1, ap (λ (z : RowSet). length (listing z)) (key_set l), ap length (formed_listing form (rows_for h n))))

-- ---- a name where it stands

-- the issuer, the name and the polarity where they stand
pub record NameHere (ws : List ℕ) (at : ℕ) (t : Term) (m : ℕ) (p : Polarity) : Type 0 where
  pub issuer : At ws at (term_words t)
  pub name : get_or ws (at + 2) 0 ≡ m
  pub polarity : get_or ws (at + 3) 0 ≡ polarity_word p
  pub inside : at + 4 ≤ length ws

pub name_here : {ws : List ℕ} {at : ℕ} (t : Term) (m : ℕ) (p : Polarity) → At ws at (name_words t m p) → NameHere ws at t m p
name_here {ws} {at} t m p h =
    let l = term_length t in
    let e : at + length (term_words t) ≡ at + 2 = omega arith in
    let i : At ws (at + 2) (m ∷ polarity_word p ∷ []) = subst (λ (k : ℕ). At ws k (m ∷ polarity_word p ∷ [])) e (at_skip (term_words t) (m ∷ polarity_word p ∷ []) h) in
    let f : at + 2 + 1 ≡ at + 3 = omega arith in
    record {
      issuer = at_front (term_words t) (m ∷ polarity_word p ∷ []) h;
      name = at_word i;
      polarity = ap (λ (k : ℕ). get_or ws k 0) (sym f) ∙ at_word (at_next i);
      inside = omega (arith, at_long (omega arith) i);
    }

module _ {ws : List ℕ} {at : ℕ} (some : SomeName ws at) where
  pub name_long : at + 4 ≤ length ws
  name_long = (name_here some.t some.m some.p some.words).inside

  pub name_form : get_or ws (at + 3) 0 ≤ 1
  name_form = let n = name_here some.t some.m some.p some.words in omega (arith, n.polarity, polarity_small some.p)

-- the atoms of a row in hand
pub atoms_lem : (r : HeldRow.Row) {n : ℕ} → n ≡ r.width → take n r.atoms ≡ row_is r
unfolding row_is row_in five_is
atoms_lem r e = ap (λ (k : ℕ). take k r.atoms) e

-- a word that is 0 or not
pub form_is : (w : ℕ) (p : Polarity) → w ≡ polarity_word p → (q : HeldPolarity.Polarity) → (w ≡ 0 → q ≡ Plus) → ((w ≡ 0 → ⊥) → q ≡ Minus) → p ≡ polarity_is q
unfolding polarity_word
form_is w plus e q a b = sym (ap polarity_is (a e))
form_is w minus e q a b = sym (ap polarity_is (b (λ z. omega (arith, e, z))))

module _ {ws : List ℕ} {at : ℕ} (vs : Values) {x : HeldTerm.Term} (issuer : IsTerm ws at x) where
  pub stands_for : (n : HeldName.Name) → n.key ≡ value vs (term_is x) → n.number ≡ get_or ws (at + 2) 0 →
      (get_or ws (at + 3) 0 ≡ 0 → n.polarity ≡ Plus) → ((get_or ws (at + 3) 0 ≡ 0 → ⊥) → n.polarity ≡ Minus) → StandsFor ws at vs n
  stands_for n k m a b = record {
    key = λ t i p h. sym (ap (value vs) (issuer.is t (name_here t i p h).issuer)) ∙ sym k;
    number = λ t i p h. sym (name_here t i p h).name ∙ sym m;
    polarity = λ t i p h. form_is (get_or ws (at + 3) 0) p (name_here t i p h).polarity n.polarity a b;
  }
