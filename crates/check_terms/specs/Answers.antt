-- What a reading in code came to: the value with what the decoder is left with, or the refusal. Its contract says that the definition comes to the same.
use Rattle.std.specs.Prelude.{ℕ, ◌+◌, Bool, ◌&&◌, Result, Ok, Err, leb, eqb}
use Rattle.refusals.specs.RefusalTable.{bad_word, not_in_scope}
use Rattle.refusals.specs.declared.Refusal.{Refusal}
use Rattle.refusals.specs.Numbers.{number}
use Rattle.policy.specs.Syntax.{Slot, old, new}
use Rattle.policy.specs.Decode.{Read, got, refused, Reader, ◌>>=◌, give, refuse, word, word_where, Tag, is_atom, is_var, is_new, no_tag, tag_of, term_as, any_atom, term, width, Pattern, slots, Guard, is_draw, is_same, is_different, is_absent, no_guard, guard_of}
use Rattle.policy.specs.Held.{Opening, draw_opens, absent_opens, same_opens, different_opens}
use Rattle.policy.specs.declared.codes.Tag as HeldTag
use Rattle.policy.specs.declared.codes.Tag.TheVariants as tag
use Rattle.check_terms.specs.declared.Decoder.{Decoder}

-- the value as a function of what the code holds
abbrev pub answered : {A B : Type 0} → (A → B) → Result A Refusal → Decoder → Read B
answered f (Ok a) d = got (f a) d.words.now d.draws
answered f (Err r) d = refused (number r)

abbrev pub same : {A : Type 0} → A → A
same a = a

-- a reader of whose value only this is kept
unfoldable pub kept : {A B : Type 0} → (A → B) → Read A → Read B
kept f (got a ws k) = got (f a) ws k
kept f (refused n) = refused n

unfoldable pub keeping : {A B : Type 0} → (A → B) → Reader A → Reader B
unfolding kept
keeping f m = λ ws k. kept f (m ws k)

abbrev pub nothing : {A : Type 0} → A → Unit {0}
nothing a = tt

-- the rule of a new variable's number
unfoldable pub next : ℕ → ℕ → Bool
next n v = eqb v n && leb v 15

abbrev pub tag_is : HeldTag.Tag → Tag
tag_is tag.Atom = is_atom
tag_is tag.Variable = is_var
tag_is tag.New = is_new

-- one slot of a pattern, and the count of variables in scope after it
unfoldable pub slot_for : ℕ → Tag → Reader Slot
unfolding term_as any_atom word_where next
slot_for n is_atom = do
  t ← term_as any_atom n is_atom
  give (old t)
slot_for n is_var = do
  t ← term_as any_atom n is_var
  give (old t)
slot_for n is_new = do
  v ← word_where not_in_scope (next n)
  give new
slot_for n no_tag = refuse bad_word

unfoldable pub slot : ℕ → Reader Slot
unfolding slot_for tag_of
slot n = do
  t ← word
  slot_for n (tag_of t)

unfoldable pub scope_after : ℕ → Slot → ℕ
scope_after n (old t) = n
scope_after n new = n + 1

-- a whole pattern; of it the count of variables in scope is kept
unfoldable pub pattern : ℕ → Reader Pattern
unfolding width slots
pattern n = do
  w ← width
  slots w n

abbrev pub scope : Pattern → ℕ
scope p = p.1

-- a guard as far as its expression
unfoldable pub opening_for : ℕ → Guard → Reader Opening
unfolding term
opening_for n is_draw = give draw_opens
opening_for n is_same = do
  x ← term n
  y ← term n
  give (same_opens x y)
opening_for n is_different = do
  x ← term n
  y ← term n
  give (different_opens x y)
opening_for n is_absent = give absent_opens
opening_for n no_guard = refuse bad_word

unfoldable pub opening : ℕ → Reader Opening
unfolding opening_for guard_of
opening n = do
  t ← word
  opening_for n (guard_of t)
