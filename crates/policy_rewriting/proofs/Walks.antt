-- The walk over a definition, node by node: what was laid for the parts is what is due for the whole.
use Prim.Native.Nat.{ℕ, ◌+◌, ◌-◌, ◌*◌, ◌≤◌, ◌<◌}
use Rattle.std.proofs.Common.{Some, None}
use mathlib.Core.Path.{◌≡◌, refl, sym, ◌∙◌, ap, subst}
use mathlib.Core.Bool.{Bool, true, false, ◌&&◌}
use mathlib.Core.List.{List, [], ◌∷◌, ◌++◌, append_assoc}
use native.Mathlib.Omega.{arith}
use lib.ListN.{length, get_or, take, drop, length-append}
use lib.Seq.{take-append_seam}
use Rattle.rows.specs.Name.{Polarity}
use Rattle.policy.specs.Syntax.{Term, comprehension, draw}
use Rattle.policy.specs.Words.{term_words, term_row_words, fresh, guard_count, expr_words, body_words}
use Rattle.policy.specs.Decode.{is_node}
use Rattle.policy.specs.External.{external_expr, external_body, each_leaf}
use Rattle.policy.proofs.Vetting.{each_guards}
use Rattle.policy_places.specs.Places.{At, pattern_words, Stands, StandsBody, SomeRow, SomeExpr, SomeBody, PastRow, PastExpr, PastPattern}
use Rattle.policy_places.proofs.Places.{at_front, at_long, on_leaf, on_union, on_difference, on_comprehension, in_leaf, in_union, in_comprehension, in_head, in_draw, in_same, in_different, on_head, on_draw, on_absent, term_length, inside, inside_body}
use Rattle.policy_places.proofs.Held.{is_draw_lem, is_absent_lem}
use Rattle.policy_places.proofs.Past.{right_here, pattern_here, rest_here, on_test, some_first, some_second, some_operand, some_pattern, draw_rest, test_rest}
use Rattle.policy_rewriting.specs.Laid.{laid}
use Rattle.policy_rewriting.specs.Walks.{out_leaf, out, out_body, Laying, Answered, Walked, Roomy, Vetted, To, WalkedLeaf, WalkedExpr, WalkedBody}
use Rattle.policy_rewriting.proofs.Laid.{laid_append}

-- ---- words one after the other

pub then_laid : (to : ℕ) (before : List ℕ) {mid after : List ℕ} (u v : List ℕ) → mid ≡ laid to u before → after ≡ laid (to + length u) v mid → after ≡ laid to (u ++ v) before
then_laid to before u v a b = b ∙ ap (λ (l : List ℕ). laid (to + length u) v l) a ∙ laid_append to u v before

-- a walk, then another
both_laying : {at size₁ size₂ to next end next₂ end₂ : ℕ} {ws us before mid after : List ℕ} → Laying at size₁ to ws before next end mid → Laying next size₂ end us mid next₂ end₂ after →
    Laying at (size₁ + size₂) to (ws ++ us) before next₂ end₂ after
both_laying {to = to} {ws = ws} {us = us} {before = before} {mid = mid} v w =
    let passed = v.passed in
    let ends = v.ends in
    let few = v.few in
    let passed₂ = w.passed in
    let ends₂ = w.ends in
    let few₂ = w.few in
    let long = length-append ws us in
    record {
      passed = omega arith;
      ends = omega arith;
      few = omega arith;
      area = then_laid to before ws us v.area (w.area ∙ ap (λ (i : ℕ). laid i us mid) ends);
    }

pub both_walked : {a b : Bool} {at size₁ size₂ to next end : ℕ} {ws us before mid after : List ℕ} {r : Vetted} → Walked a at size₁ to ws before (To next end) mid →
    Walked b next size₂ end us mid r after → Walked (a && b) at (size₁ + size₂) to (ws ++ us) before r after
unfolding Answered
both_walked {a} {b} {at} {size₁} {size₂} {to} {next} {end} {ws} {us} {before} {mid} {after} {r} v w = go r w
  where
    go : (r : Vetted) → Walked b next size₂ end us mid r after → Walked (a && b) at (size₁ + size₂) to (ws ++ us) before r after
    go (Some l) w = record { answer = (rw (v.answer.0, w.answer.0) refl, both_laying v.answer.1 w.answer.1) }
    go None w = record { answer = rw (v.answer.0, w.answer) refl }

-- words laid before a walk
pub front_walked : {external : Bool} {at size to : ℕ} {ws before mid after : List ℕ} {r : Vetted} (k : ℕ) (u : List ℕ) → mid ≡ laid to u before → length u ≤ 2 * k →
    Walked external (at + k) size (to + length u) ws mid r after → Walked external at (k + size) to (u ++ ws) before r after
unfolding Answered
front_walked k u l h w = both_walked {a = true} (record { answer = (refl, record { passed = refl; ends = refl; few = h; area = l }) }) w

sized : {external : Bool} {at size size' to : ℕ} {ws before after : List ℕ} {r : Vetted} → size ≡ size' → Walked external at size to ws before r after → Walked external at size' to ws before r after
sized {external} {at} {to = to} {ws = ws} {before = before} {after = after} {r = r} e w = subst (λ (s : ℕ). Walked external at s to ws before r after) e w

-- words that are passed and laid as they are
pub copied : {at to next end : ℕ} {ws before after : List ℕ} (u : List ℕ) → At ws at u → next ≡ at + length u → (end ≡ to + (next - at)) × (after ≡ laid to (take (next - at) (drop at ws)) before) →
    Laying at (length u) to u before next end after
copied {at} {to} {next} {ws = ws} {before = before} u h p l =
    let ends = l.0 in
    let k : next - at ≡ length u = omega arith in
    let same : take (next - at) (drop at ws) ≡ u = ap (λ (n : ℕ). take n (drop at ws)) k ∙ ap (take (length u)) h.spelled ∙ take-append_seam u h.rest in
    record { passed = p; ends = omega arith; few = omega arith; area = l.1 ∙ ap (λ (w : List ℕ). laid to w before) same }

-- there is room for them
pub copy_room : {ws u : List ℕ} {at to next : ℕ} → 0 < length u → At ws at u → next ≡ at + length u → Roomy ws at to → (at ≤ next) × (next ≤ length ws) × (to + (next - at) ≤ 65536)
copy_room z h e room = let long = at_long z h in let fits = room.fits in (omega arith, omega arith, omega arith)

-- the code and the two terms of a comparison, then a walk
module _ {ws before mid : List ℕ} {at to past : ℕ} (l : (past ≡ to + (at + 5 - at)) × (mid ≡ laid to (take (at + 5 - at) (drop at ws)) before)) where
  five : (code : ℕ) (x y : Term) (v : List ℕ) → At ws at (code ∷ (term_words x ++ (term_words y ++ v))) → Laying at 5 to (code ∷ (term_words x ++ term_words y)) before (at + 5) past mid
  five code x y v h =
      let u : List ℕ = code ∷ (term_words x ++ term_words y) in
      let all : At ws at (u ++ v) = subst (At ws at) (ap (λ (w : List ℕ). code ∷ w) (sym (append_assoc (term_words x) (term_words y) v))) h in
      let long : length u ≡ 5 = omega (arith, length-append (term_words x) (term_words y), term_length x, term_length y) in
      subst (λ (k : ℕ). Laying at k to u before (at + 5) past mid) long (copied u (at_front u v all) (omega arith) l)

  compared : {external : Bool} {r : Vetted} {after : List ℕ} (code : ℕ) (x y : Term) (v us : List ℕ) → At ws at (code ∷ (term_words x ++ (term_words y ++ v))) →
      Walked external (at + 5) (length v) past us mid r after →
      Walked external at (length (code ∷ (term_words x ++ (term_words y ++ v)))) to (code ∷ (term_words x ++ (term_words y ++ us))) before r after
  unfolding Answered
  compared {external} {r} {after} code x y v us h w =
      let long : 5 + length v ≡ length (code ∷ (term_words x ++ (term_words y ++ v))) =
      omega (arith, length-append (term_words x) (term_words y ++ v), length-append (term_words y) v, term_length x, term_length y) in
      let spelled : (code ∷ (term_words x ++ term_words y)) ++ us ≡ code ∷ (term_words x ++ (term_words y ++ us)) = ap (λ (u : List ℕ). code ∷ u) (append_assoc (term_words x) (term_words y) us) in
      subst (λ (u : List ℕ). Walked external at (length (code ∷ (term_words x ++ (term_words y ++ v)))) to u before r after) spelled
      (sized long (both_walked {a = true} (record { answer = (refl, five code x y v h) }) w))

-- ---- an expression

-- the walk goes on, and has laid two words for each at most
pub record Onward (at to next end : ℕ) : Type 0 where
  pub on : at ≤ next
  pub few : end ≤ to + 2 * (next - at)

module _ {keys : Bool} {p : Polarity} {ws : List ℕ} {at to : ℕ} {before : List ℕ} {next end : ℕ} {after : List ℕ} (w : WalkedExpr keys p ws at to before (To next end) after) where
  pub past_walked : PastExpr ws at next
  unfolding Answered
  past_walked = record { past = λ scope n e s. (w.walked scope n e s).answer.1.passed }

  pub onward : SomeExpr ws at → Onward at to next end
  unfolding Answered
  onward x =
      let l = (w.walked x.scope x.n x.e x.here).answer.1 in
      let passed = l.passed in
      let ends = l.ends in
      let few = l.few in
      record { on = omega arith; few = omega arith }

pub answer_told : {external : Bool} {at size to : ℕ} {ws before after : List ℕ} {r r' : Vetted} → Walked external at size to ws before r after → r ≡ r' → Walked external at size to ws before r' after
answer_told {external} {at} {size} {to} {ws} {before} {after} w e = subst (λ (r : Vetted). Walked external at size to ws before r after) e w

pub told : {keys : Bool} {p : Polarity} {ws : List ℕ} {at to : ℕ} {before after : List ℕ} {r r' : Vetted} → WalkedExpr keys p ws at to before r after → r ≡ r' →
    WalkedExpr keys p ws at to before r' after
told {keys} {p} {ws} {at} {to} {before} {after} w e = subst (λ (r : Vetted). WalkedExpr keys p ws at to before r after) e w

-- the second part of a union
pub record Second (ws : List ℕ) (at next end : ℕ) : Type 0 where
  pub after : at < next
  pub here : SomeExpr ws next
  pub room : Roomy ws next end

pub union_second : {keys : Bool} {p : Polarity} {ws first mid : List ℕ} {at to next end : ℕ} → SomeExpr ws at → is_node (get_or ws at 0) ≡ true → (get_or ws at 0 ≡ 7 → ⊥) → Roomy ws at to →
    WalkedExpr keys p ws (at + 1) (to + 1) first (To next end) mid → Second ws at next end
union_second x l k room w =
    let o = onward w (some_first x l k) in
    let on = o.on in
    let few = o.few in
    let fits = room.fits in
    let there = some_second (past_walked w) x l k in
    let i = inside there.here in
    record { after = omega arith; here = there; room = record { fits = omega arith } }

module _ {keys : Bool} {p : Polarity} {ws : List ℕ} {at to : ℕ} {before : List ℕ} where
  pub leaf_walked : {r : Vetted} {after : List ℕ} → is_node (get_or ws at 0) ≡ false → WalkedLeaf keys p ws at to before r after → WalkedExpr keys p ws at to before r after
  unfolding external_expr each_leaf expr_words
  leaf_walked {r} {after} c g = record {
    walked = λ scope n e s.
        on_leaf (λ x. Stands scope n ws at x → Walked (external_expr p x) at (length (expr_words x n)) to (expr_words (out keys p x) n) before r after) s c (λ x h. g.walked scope n x (in_leaf h)) s;
  }

  pub difference_broken : {after : List ℕ} → get_or ws at 0 ≡ 6 → WalkedExpr keys p ws at to before None after
  unfolding Answered external_expr
  difference_broken {after} c = record {
    walked = λ scope n e s. on_difference (λ x. Walked (external_expr p x) at (length (expr_words x n)) to (expr_words (out keys p x) n) before None after) s c (λ a b. record { answer = refl });
  }

  module _ (c : get_or ws at 0 ≡ 5) {first mid : List ℕ} where
    pub union_broken : {after : List ℕ} → WalkedExpr keys p ws (at + 1) (to + 1) first None mid → WalkedExpr keys p ws at to before None after
    unfolding Answered external_expr
    union_broken {after} g = record {
      walked = λ scope n e s.
          on_union (λ x. Stands scope n ws at x → Walked (external_expr p x) at (length (expr_words x n)) to (expr_words (out keys p x) n) before None after) s c
          (λ a b h. record { answer = rw (g.walked scope n a (in_union h).left).answer refl }) s;
    }

    pub union_walked : {next end : ℕ} {r : Vetted} {after : List ℕ} → first ≡ laid to (get_or ws at 0 ∷ []) before → WalkedExpr keys p ws (at + 1) (to + 1) first (To next end) mid →
        WalkedExpr keys p ws next end mid r after → WalkedExpr keys p ws at to before r after
    unfolding external_expr each_leaf expr_words
    union_walked {r = r} {after = after} l g k = record {
      walked = λ scope n e s.
          on_union (λ x. Stands scope n ws at x → Walked (external_expr p x) at (length (expr_words x n)) to (expr_words (out keys p x) n) before r after) s c
          (λ a b h.
          let long : 1 + (length (expr_words a n) + length (expr_words b n)) ≡ length (5 ∷ (expr_words a n ++ expr_words b n)) = omega (arith, length-append (expr_words a n) (expr_words b n)) in
          sized long (front_walked 1 (5 ∷ []) (l ∙ ap (λ (w : ℕ). laid to (w ∷ []) before) c) (omega arith)
          (both_walked (g.walked scope n a (in_union h).left) (k.walked scope n b (right_here (past_walked g) (in_union h)))))) s;
    }

  pub comprehension_walked : {mid : List ℕ} {r : Vetted} {after : List ℕ} → get_or ws at 0 ≡ 7 → mid ≡ laid to (get_or ws at 0 ∷ get_or ws (at + 1) 0 ∷ []) before →
      WalkedBody keys p ws (at + 2) (get_or ws (at + 1) 0) (to + 2) mid r after → WalkedExpr keys p ws at to before r after
  unfolding external_expr each_leaf expr_words
  comprehension_walked {mid} {r} {after} c l g = record {
    walked = λ scope n e s.
        on_comprehension (λ x. Stands scope n ws at x → Walked (external_expr p x) at (length (expr_words x n)) to (expr_words (out keys p x) n) before r after) s c
        (λ b h.
        let i = in_comprehension h in
        let count : get_or ws (at + 1) 0 ≡ guard_count (out_body keys p b) = sym i.body.count ∙ sym (each_guards (out_leaf keys p) b) in
        let long : 2 + length (body_words b n) ≡ length (expr_words (comprehension b) n) = omega arith in
        sized long (front_walked 2 (7 ∷ guard_count (out_body keys p b) ∷ []) (l ∙ rw (c, count) refl) (omega arith) (g.walked scope n b i.body))) s;
  }

-- ---- guards

pub row_room : {ws : List ℕ} {at to next : ℕ} → SomeRow ws at → Roomy ws at to → PastRow ws at next → (at ≤ next) × (next ≤ length ws) × (to + (next - at) ≤ 65536)
unfolding term_row_words
row_room x room past = copy_room (omega arith) x.here.words (past.past x.n x.ts x.here) room

-- the pattern of a draw, and what follows it
pub record Pattern (ws : List ℕ) (at left next end rest : ℕ) : Type 0 where
  pub room : (next ≤ rest) × (rest ≤ length ws) × (end + (rest - next) ≤ 65536)
  pub after : at < rest
  pub body : SomeBody ws rest (left - 1)
  pub body_room : (past : ℕ) → past ≡ end + (rest - next) → Roomy ws rest past

pub draw_pattern : {keys : Bool} {p : Polarity} {ws first mid : List ℕ} {at left to next end rest : ℕ} → (left ≡ 0 → ⊥) → get_or ws at 0 ≡ 1 → SomeBody ws at left → Roomy ws at to →
    WalkedExpr keys p ws (at + 1) (to + 1) first (To next end) mid → PastPattern ws next rest → Pattern ws at left next end rest
draw_pattern z c x room w q =
    let o = onward w (some_operand z c x) in
    let on = o.on in
    let few = o.few in
    let fits = room.fits in
    let pattern = some_pattern z c (past_walked w) x in
    let e = q.past pattern.0 pattern.1.p pattern.1.here in
    let body = draw_rest z c (past_walked w) q x in
    let i = inside_body body.here in
    record { room = (omega arith, omega arith, omega arith); after = omega arith; body = body; body_room = λ past h. record { fits = omega arith } }

-- what follows a comparison
pub record Test (ws : List ℕ) (at left to : ℕ) : Type 0 where
  pub room : (at ≤ at + 5) × (at + 5 ≤ length ws) × (to + (at + 5 - at) ≤ 65536)
  pub body : SomeBody ws (at + 5) (left - 1)
  pub body_room : (past : ℕ) → past ≡ to + (at + 5 - at) → Roomy ws (at + 5) past

pub test_room : {ws : List ℕ} {at left to : ℕ} → (left ≡ 0 → ⊥) → (get_or ws at 0 ≡ 1 → ⊥) → (get_or ws at 0 ≡ 4 → ⊥) → SomeBody ws at left → Roomy ws at to → Test ws at left to
test_room z d f x room =
    let fits = room.fits in
    let body = test_rest z d f x in
    let i = inside_body body.here in
    record { room = (omega arith, omega arith, omega arith); body = body; body_room = λ past h. record { fits = omega arith } }

module _ {keys : Bool} {p : Polarity} {ws : List ℕ} {at left to : ℕ} {before : List ℕ} where
  pub head_walked : {next end : ℕ} {after : List ℕ} → left ≡ 0 → PastRow ws at next → (end ≡ to + (next - at)) × (after ≡ laid to (take (next - at) (drop at ws)) before) →
      WalkedBody keys p ws at left to before (To next end) after
  unfolding Answered external_expr each_leaf expr_words
  head_walked {next} {end} {after} z past l = record {
    walked = λ scope n b s.
        on_head (λ x. StandsBody scope n ws at left x → Walked (external_body p x) at (length (body_words x n)) to (body_words (out_body keys p x) n) before (To next end) after) s z
        (λ ts h. record { answer = (refl, copied (term_row_words ts) (in_head h).words (past.past n ts (in_head h)) l) }) s;
  }

  module _ (z : left ≡ 0 → ⊥) where
    pub absent_broken : {after : List ℕ} → get_or ws at 0 ≡ 4 → WalkedBody keys p ws at left to before None after
    unfolding Answered external_expr
    absent_broken {after} c = record {
      walked = λ scope n b s.
          on_absent (λ x. Walked (external_body p x) at (length (body_words x n)) to (body_words (out_body keys p x) n) before None after) s z (is_absent_lem c) (λ r e b. record { answer = refl });
    }

    module _ (c : get_or ws at 0 ≡ 1) {first mid : List ℕ} where
      pub draw_broken : {after : List ℕ} → WalkedExpr keys p ws (at + 1) (to + 1) first None mid → WalkedBody keys p ws at left to before None after
      unfolding Answered external_expr
      draw_broken {after} g = record {
        walked = λ scope n b s.
            on_draw (λ x. StandsBody scope n ws at left x → Walked (external_body p x) at (length (body_words x n)) to (body_words (out_body keys p x) n) before None after) s z (is_draw_lem c)
            (λ e q b h. record { answer = rw (g.walked scope n e (in_draw h).operand).answer refl }) s;
      }

      pub draw_walked : {next end rest past : ℕ} {last : List ℕ} {r : Vetted} {after : List ℕ} → first ≡ laid to (get_or ws at 0 ∷ []) before →
          WalkedExpr keys p ws (at + 1) (to + 1) first (To next end) mid → PastPattern ws next rest →
          (past ≡ end + (rest - next)) × (last ≡ laid end (take (rest - next) (drop next ws)) mid) → WalkedBody keys p ws rest (left - 1) past last r after →
          WalkedBody keys p ws at left to before r after
      unfolding Answered external_expr each_leaf expr_words
      draw_walked {next} {end} {rest} {past} {last} {r} {after} f g q l k = record {
        walked = λ scope n b s.
            on_draw (λ x. StandsBody scope n ws at left x → Walked (external_body p x) at (length (body_words x n)) to (body_words (out_body keys p x) n) before r after) s z (is_draw_lem c)
            (λ e u b h.
            let d = in_draw h in
            let there = pattern_here (past_walked g) d in
            let pattern : Walked true next (length (pattern_words n u)) end (pattern_words n u) mid (To rest past) last = record { answer = (refl, copied (pattern_words n u) there.words (q.past n u there) l) } in
            let body = k.walked scope (n + fresh u) b (rest_here (past_walked g) d q) in
            let long : 1 + (length (expr_words e n) + (length (pattern_words n u) + length (body_words b (n + fresh u)))) ≡ length (body_words (draw e u b) n) =
            omega (arith, length-append (expr_words e n) (pattern_words n u ++ body_words b (n + fresh u)), length-append (pattern_words n u) (body_words b (n + fresh u))) in
            sized long (front_walked 1 (1 ∷ []) (f ∙ ap (λ (w : ℕ). laid to (w ∷ []) before) c) (omega arith)
            (both_walked (g.walked scope n e d.operand) (both_walked pattern body)))) s;
      }

    pub test_walked : {past : ℕ} {mid : List ℕ} {r : Vetted} {after : List ℕ} → (get_or ws at 0 ≡ 1 → ⊥) → (get_or ws at 0 ≡ 4 → ⊥) →
        (past ≡ to + (at + 5 - at)) × (mid ≡ laid to (take (at + 5 - at) (drop at ws)) before) → WalkedBody keys p ws (at + 5) (left - 1) past mid r after →
        WalkedBody keys p ws at left to before r after
    unfolding external_expr each_leaf expr_words
    test_walked {r = r} {after = after} d f l k = record {
      walked = λ scope n b s.
          on_test (λ x. StandsBody scope n ws at left x → Walked (external_body p x) at (length (body_words x n)) to (body_words (out_body keys p x) n) before r after) s z d f
          (λ x y c h. compared l 2 x y (body_words c n) (body_words (out_body keys p c) n) h.words (k.walked scope n c (in_same h)))
          (λ x y c h. compared l 3 x y (body_words c n) (body_words (out_body keys p c) n) h.words (k.walked scope n c (in_different h))) s;
    }
