-- The query call's way through the definitions: what is left to read, and that it is read on as the definition of reading does.
use Prim.Native.Nat.{ℕ, suc, ◌+◌, ◌-◌, ◌*◌, ◌≤◌, ◌<◌}
use mathlib.Core.Path.{◌≡◌, refl, sym, ◌∙◌, ap, subst}
use mathlib.Core.List.{List, [], ◌∷◌, ◌++◌, map, append_assoc, append-nil, map-append}
use native.Mathlib.Omega.{arith}
use lib.ListN.{length, get_or}
use Rattle.refusals.specs.RefusalTable.{query_part}
use Rattle.rows.specs.Sets.{RowSet}
use Rattle.rows.specs.Layout.{set_in, set_words, put, written}
use Rattle.certificates.specs.Stores.{Stores}
use Rattle.policy.specs.OwnKey.{Declared}
use Rattle.policy.specs.Leaf.{declaration}
use Rattle.policy.specs.Syntax.{Expr}
use Rattle.policy.specs.Parse.{parse, parsed}
use Rattle.policy.specs.Polarity.{Known, Verdict}
use Rattle.policy.specs.Table.{Entry, entry_at, entry_words, table}
use Rattle.policy.specs.Definitions.{known_of}
use Rattle.policy.specs.Checking.{checked, check}
use Rattle.policy.proofs.Judging.{AcceptedDefinition, Accepted, none, one, AcceptedPair, check_accepted}
use Rattle.policy_table.specs.Entries.{entry_place, Inside, entries_from, declared_as, declared_in}
use Rattle.policy_table.proofs.Declared.{known_more}
use Rattle.policy_table.proofs.PartAnswers.{table_parts, Listed, listed_of}
use Rattle.meaning.specs.Reading.{done, refused}
use Rattle.read_values.specs.Answers.{Filled}
use Rattle.read_values.specs.Outcomes.{outcome, IfOk}
use Rattle.read_values.specs.From.{From, with_sets, sets_in, names, sets, SoundFrom}
use Rattle.std.specs.Prelude.{Result, Ok, Err}
use Rattle.refusals.specs.Numbers.{number, part_number}
use Rattle.refusals.specs.declared.Refusal.{Refusal}
use Rattle.refusals.specs.declared.Part.TheVariants as part
use Rattle.refusals.specs.declared.Refused as Failed
use Rattle.read_expressions.specs.Readers.{reading, AskWhole, SayWhole}
use Rattle.demands.specs.Query.{Outcome, answered, read_from, answer_area}
use Rattle.demands.specs.Query as Query
use Rattle.engine.specs.Reply.{reply_for, reply_is}
use Rattle.policy.specs.Codes.{verdict_number}
use Rattle.policy.specs.declared.codes.Verdict as HeldVerdict
use Rattle.engine.specs.Steps.{Ready, ReadyPolicy, left_to_read, SoundIf, ReadsTo, AnswersTo, ReadDefinitions, ReadAll}
use Rattle.engine.proofs.Placing.{sets_length, sound_more, sets_more}

-- ---- what is left to read when d of n definitions are read

pub record Left (ours : ℕ) (policy : List ℕ) (n d : ℕ) (rest : List Expr) : Type 0 where
  pub before : List Known
  pub after : List Known
  pub accepted : Accepted ours policy (entries_from (n - d) policy (entry_place d)) before rest after
  pub declared : map declaration before ≡ declared_in policy d

-- what is known of definitions that passed has their names and polarities
accepted_declared : {ours : ℕ} {policy : List ℕ} {xs : List Entry} {ks ls : List Known} {es : List Expr} → Accepted ours policy xs ks es ls → map declaration ls ≡ map declaration ks ++ map declared_as xs
unfolding known_of
accepted_declared (none {ks = ks}) = sym (append-nil (map declaration ks))
accepted_declared (one {x = x} {xs = xs} {ks = ks} {e = e} a others) =
    accepted_declared others ∙ ap (λ (l : List Declared). l ++ map declared_as xs) (map-append declaration ks (known_of x e ks ∷ []))
    ∙ append_assoc (map declaration ks) (declared_as x ∷ []) (map declared_as xs)

-- of a policy that passed with some query
module _ (ours : ℕ) (policy query : List ℕ) {n : ℕ} (counted : get_or policy 1 0 ≡ n) {es : List Expr} {q : Expr} {v : Verdict} (passes : check ours policy query ≡ checked es q v) where
  pair : AcceptedPair ours policy query es q v
  pair = check_accepted ours policy query es q v passes

  entries_are_lem : pair.entries ≡ entries_from n policy 2
  entries_are_lem = (table_parts policy pair.entries pair.listed).are ∙ ap (λ (m : ℕ). entries_from m policy 2) counted

  table_listed : Listed policy n
  table_listed = listed_of policy n (sym (pair.listed ∙ ap table entries_are_lem))

  all_left : Left ours policy n 0 es
  unfolding declared_in
  all_left =
      let e : n ≡ n - 0 = omega arith in
      let are = entries_are_lem ∙ ap (λ (m : ℕ). entries_from m policy 2) e in
      record { before = []; after = pair.known; accepted = subst (λ (xs : List Entry). Accepted ours policy xs [] es pair.known) are pair.definitions; declared = refl }

  -- the query is read with all definitions known
  query_parses : parse (record { our_key = ours; available = declared_in policy n }) query ≡ parsed q
  unfolding declared_in
  query_parses =
      let e : map declaration pair.known ≡ declared_in policy n = accepted_declared pair.definitions ∙ ap (map declared_as) entries_are_lem in
      subst (λ (l : List Declared). parse (record { our_key = ours; available = l }) query ≡ parsed q) e pair.asked.parses

-- the first of several
record First (ours : ℕ) (policy : List ℕ) (x : Entry) (xs : List Entry) (ks : List Known) (es : List Expr) (ls : List Known) : Type 0 where
  e : Expr
  others : List Expr
  is : es ≡ e ∷ others
  accepted : AcceptedDefinition ours policy ks x e
  rest : Accepted ours policy xs (ks ++ (known_of x e ks ∷ [])) others ls

first_of : {ours : ℕ} {policy : List ℕ} {x : Entry} {xs : List Entry} {ks ls : List Known} {es : List Expr} → Accepted ours policy (x ∷ xs) ks es ls → First ours policy x xs ks es ls
first_of (one {e = e} {es = es} a others) = record { e = e; others = es; is = refl; accepted = a; rest = others }

record Next (ours : ℕ) (policy : List ℕ) (n d : ℕ) (rest : List Expr) : Type 0 where
  e : Expr
  others : List Expr
  is : rest ≡ e ∷ others
  parses : parse (record { our_key = ours; available = declared_in policy d }) (entry_words policy (entry_at policy (entry_place d))) ≡ parsed e
  left : Left ours policy n (d + 1) others

next : {ours : ℕ} {policy : List ℕ} {n d : ℕ} {rest : List Expr} → d < n → Left ours policy n d rest → Next ours policy n d rest
unfolding entries_from
next {ours} {policy} {n} {d} {rest} h l =
    let x : Entry = entry_at policy (entry_place d) in
    let m : n - d ≡ suc (n - (d + 1)) = omega arith in
    let p : entry_place d + 4 ≡ entry_place (d + 1) = omega arith in
    let f = first_of (subst (λ (k : ℕ). Accepted ours policy (entries_from k policy (entry_place d)) l.before rest l.after) m l.accepted) in
    record {
      e = f.e;
      others = f.others;
      is = f.is;
      parses = subst (λ (ds : List Declared). parse (record { our_key = ours; available = ds }) (entry_words policy x) ≡ parsed f.e) l.declared f.accepted.parses;
      left = record {
        before = l.before ++ (known_of x f.e l.before ∷ []);
        after = l.after;
        accepted = subst (λ (k : ℕ). Accepted ours policy (entries_from (n - (d + 1)) policy k) (l.before ++ (known_of x f.e l.before ∷ [])) f.others l.after) p f.rest;
        declared = known_more policy d l.before f.e l.declared ∙ ap (declared_in policy) (let e : suc d ≡ d + 1 = omega arith in e);
      };
    }

none_of : {ours : ℕ} {policy : List ℕ} {ks ls : List Known} {es : List Expr} → Accepted ours policy [] ks es ls → es ≡ []
none_of none = refl

none_left_lem : {ours : ℕ} {policy : List ℕ} {n d : ℕ} {rest : List Expr} → n ≤ d → Left ours policy n d rest → rest ≡ []
unfolding entries_from
none_left_lem {ours} {policy} {n} {d} {rest} h l =
    let m : n - d ≡ 0 = omega arith in
    none_of (subst (λ (k : ℕ). Accepted ours policy (entries_from k policy (entry_place d)) l.before rest l.after) m l.accepted)

-- ---- reading on

module _ (f : From) (e : Expr) (others : List Expr) (q : Expr) (v : Verdict) (k : ℕ) where
  read_done : {s : RowSet} {j : ℕ} → reading f e [] k ≡ done s j → read_from f.format (names f) (e ∷ others) q v (sets f) k ≡ read_from f.format (names f) others q v (sets f ++ (s ∷ [])) j
  unfolding read_from
  read_done h = rw (h, read_from)

  read_refused : {n : ℕ} → reading f e [] k ≡ refused n → read_from f.format (names f) (e ∷ others) q v (sets f) k ≡ Query.refused n (length (sets f))
  unfolding read_from
  read_refused h = rw (h, read_from)

module _ (f : From) (q : Expr) (v : Verdict) (k : ℕ) where
  query_done : {s : RowSet} {j : ℕ} → reading f q [] k ≡ done s j → read_from f.format (names f) [] q v (sets f) k ≡ answered v j s
  unfolding read_from
  query_done h = rw (h, read_from)

  reading_refused : {n : ℕ} → reading f q [] k ≡ refused n → read_from f.format (names f) [] q v (sets f) k ≡ Query.refused n query_part
  unfolding read_from
  reading_refused h = rw (h, read_from)

pub done_filled : {f : From} {ws : List ℕ} {k : ℕ} {area : List ℕ} {total : ℕ} → SayWhole f ws k (Ok total) area → Filled area
unfolding IfOk
done_filled say = say.filled

-- ---- the definitions

pub ready_listed : {s : Stores} {ours : ℕ} {policy query definitions scratch : List ℕ} {n : ℕ} → Ready s ours policy query definitions scratch → get_or policy 1 0 ≡ n → Listed policy n
ready_listed {ours = ours} {policy = policy} {query = query} ready counted = table_listed ours policy query counted ready.passes

module _ {s : Stores} {ours : ℕ} {policy : List ℕ} {count : ℕ} {definitions scratch : List ℕ} (ready : ReadyPolicy s ours policy count definitions scratch) {d : ℕ} (more : d < count) where
  listed : Listed policy count
  listed = ready_listed ready.ready ready.counted

  pub number_small : d ≤ 15
  number_small = omega (arith, listed.few)

  -- a definition has its words in the policy, and its place in the area
  pub words_inside : (d ≤ 15) × (entry_place d + 4 ≤ length policy) × Inside policy (entry_at policy (entry_place d))
  words_inside = (number_small, omega (arith, listed.fits), listed.parts d more)

  pub place_inside : {n : ℕ} → n ≡ length definitions → 642 * d + 642 ≤ n
  place_inside e = let room = ready.ready.room in omega (arith, number_small)

-- the definitions before number `f.known` are read, with so many draws
pub record Rest (count : ℕ) (f : From) (draws : ℕ) (es : List Expr) (q : Expr) (v : Verdict) : Type 0 where
  pub rest : List Expr
  pub left : Left f.our_key f.policy count f.known rest
  pub goes : read_from f.format (names f) es q v [] 0 ≡ read_from f.format (names f) rest q v (sets f) draws

pub record ReadSoFar (count : ℕ) (f : From) (draws : ℕ) : Type 0 where
  pub few : f.known ≤ count
  pub sound : SoundFrom f
  pub means : (query : List ℕ) (es : List Expr) (q : Expr) (v : Verdict) → check f.our_key f.policy query ≡ checked es q v → Rest count f draws es q v

pub none_read : {minute format ours : ℕ} {s : Stores} {policy : List ℕ} {count : ℕ} {definitions scratch : List ℕ} → ReadyPolicy s ours policy count definitions scratch →
    ReadSoFar count (record { minute = minute; format = format; our_key = ours; policy = policy; stores = s; defs = definitions; known = 0 }) 0
unfolding sets_in
none_read {ours = ours} {policy = policy} ready = record {
  few = omega arith;
  sound = record { store = ready.ready.sound; links = ready.ready.links; table = omega (arith, (ready_listed ready.ready ready.counted).fits); defs = λ d h. absurd (omega arith) };
  means = λ query es q v h. record { rest = es; left = all_left ours policy query ready.counted h; goes = refl };
}

module _ {count : ℕ} {f : From} {draws : ℕ} (before : ReadSoFar count f draws) where
  module _ (more : f.known < count) {words : List ℕ} (is : words ≡ entry_words f.policy (entry_at f.policy (entry_place f.known))) where
    pub next_asked : {definitions₀ scratch₀ scratch : List ℕ} → ReadyPolicy f.stores f.our_key f.policy count definitions₀ scratch₀ → length scratch ≡ length scratch₀ → AskWhole f words scratch
    next_asked ready size =
        let n = next more (before.means ready.query ready.ready.es ready.ready.q ready.ready.v ready.ready.passes).left in
        let space = ready.ready.space in
        record {
          sound = before.sound;
          e = n.e;
          parses = rw is n.parses;
          long = omega arith;
        }

    -- the next definition's reading comes to what the code answered
    next_means : {r : Result ℕ Refusal} {scratch : List ℕ} → SayWhole f words draws r scratch → (query : List ℕ) (es : List Expr) (q : Expr) (v : Verdict) → check f.our_key f.policy query ≡ checked es q v →
        (e : Expr) × (others : List Expr) × (read_from f.format (names f) es q v [] 0 ≡ read_from f.format (names f) (e ∷ others) q v (sets f) draws) × (reading f e [] draws ≡ outcome (set_in scratch) r)
        × Left f.our_key f.policy count (f.known + 1) others
    next_means said query es q v h =
        let b = before.means query es q v h in
        let n = next more b.left in
        (n.e, n.others, b.goes ∙ ap (λ (xs : List Expr). read_from f.format (names f) xs q v (sets f) draws) n.is, said.means n.e (rw is n.parses), n.left)

    pub next_read : {total : ℕ} {scratch definitions : List ℕ} → SayWhole f words draws (Ok total) scratch → 642 * f.known + 642 ≤ length f.defs → entry_place f.known + 4 ≤ length f.policy →
        definitions ≡ put (642 * f.known) (set_words (set_in scratch)) f.defs →
        ReadSoFar count (with_sets f definitions (f.known + 1)) total
    unfolding outcome
    next_read {total} said room fits e = subst (λ (z : List ℕ). ReadSoFar count (with_sets f z (f.known + 1)) total) (sym e) (record {
      few = omega arith;
      sound = sound_more before.sound (done_filled said) room fits;
      means = λ query es q v h.
          let n = next_means said query es q v h in
          record {
            rest = n.1;
            left = n.4;
            goes = n.2 ∙ read_done f n.0 n.1 q v draws n.3
                ∙ ap (λ (ss : List RowSet). read_from f.format (names f) n.1 q v ss total) (sym (sets_more before.sound (done_filled said) room fits));
          };
    })

    -- the reading ends at the definition, whatever its number
    pub refused_means : {x : Refusal} {scratch : List ℕ} → SayWhole f words draws (Err x) scratch → ReadsTo (with_sets f f.defs count) (Err (record { refusal = x; part = part.Definition f.known }))
    unfolding left_to_read outcome
    refused_means {x} said query es q v h =
        let n = next_means said query es q v h in
        n.2 ∙ read_refused f n.0 n.1 q v draws n.3 ∙ ap (Query.refused (number x)) (sets_length f.known f.defs)

    pub next_refused : {x : Refusal} {scratch : List ℕ} → f.known ≤ 15 → SayWhole f words draws (Err x) scratch → ReadDefinitions (with_sets f f.defs count) (Err (record { refusal = x; part = part.Definition f.known }))
    unfolding SoundIf
    next_refused small said = record { sound = tt; part = omega arith; means = refused_means said }

  pub all_read : count ≤ f.known → ReadDefinitions (with_sets f f.defs count) (Ok draws)
  unfolding SoundIf left_to_read
  all_read h =
      let few = before.few in
      let e : f.known ≡ count = omega arith in
      subst (λ (n : ℕ). ReadDefinitions (with_sets f f.defs n) (Ok draws)) e (record {
        sound = before.sound;
        part = tt;
        means = λ query es q v p.
            let b = before.means query es q v p in
            b.goes ∙ ap (λ (xs : List Expr). read_from f.format (names f) xs q v (sets f) draws) (none_left_lem h b.left);
      })

-- ---- the query, after the definitions

pub refusal_answers : (f : From) (query : List ℕ) (verdict : ℕ) (area : List ℕ) (x : Failed.Refused) → ReadsTo f (Err x) → AnswersTo f.our_key f.format (names f) f.policy query verdict area (Err x) area
unfolding left_to_read reply_for reply_is answer_area
refusal_answers f query verdict area x reads es q v h w =
    let o : read_from f.format (names f) es q v [] 0 ≡ Query.refused (number x.refusal) (part_number x.part) = reads query es q v h in
    (ap reply_for (sym o), ap (λ (x : Outcome). answer_area x area) (sym o))

module _ {f : From} {query : List ℕ} {verdict : ℕ} {area : List ℕ} where
  pub definition_refused : {x : Failed.Refused} → ReadDefinitions f (Err x) → ReadAll f.our_key f.format (names f) f.policy query verdict area (Err x) area
  definition_refused {x} said = record { part = said.part; means = refusal_answers f query verdict area x said.means }

module _ {f : From} {before : ℕ} (said : ReadDefinitions f (Ok before)) (counted : get_or f.policy 1 0 ≡ f.known) where
  pub query_asked : {query definitions₀ scratch₀ scratch : List ℕ} → Ready f.stores f.our_key f.policy query definitions₀ scratch₀ → length scratch ≡ length scratch₀ → AskWhole f query scratch
  unfolding SoundIf
  query_asked {query} ready size =
      let space = ready.space in
      record {
        sound = said.sound;
        e = ready.q;
        parses = query_parses f.our_key f.policy query counted ready.passes;
        long = omega arith;
      }

  goes : (query : List ℕ) (es : List Expr) (q : Expr) (v : Verdict) → check f.our_key f.policy query ≡ checked es q v → read_from f.format (names f) es q v [] 0 ≡ read_from f.format (names f) [] q v (sets f) before
  unfolding left_to_read
  goes query es q v h = said.means query es q v h

  module _ {query scratch : List ℕ} where
    reads : {r : Result ℕ Refusal} → SayWhole f query before r scratch → {es : List Expr} {q : Expr} {v : Verdict} → check f.our_key f.policy query ≡ checked es q v → reading f q [] before ≡ outcome (set_in scratch) r
    reads answer {q = q} h = answer.means q (query_parses f.our_key f.policy query counted h)

    pub query_refused : {x : Refusal} {verdict : ℕ} {area : List ℕ} → SayWhole f query before (Err x) scratch →
        ReadAll f.our_key f.format (names f) f.policy query verdict area (Err (record { refusal = x; part = part.Query })) area
    unfolding outcome reply_for reply_is answer_area
    query_refused {x} {area = area} answer = record {
      part = tt;
      means = λ es q v h w.
          let o : read_from f.format (names f) es q v [] 0 ≡ Query.refused (number x) query_part = goes query es q v h ∙ reading_refused f q v before (reads answer h) in
          (ap reply_for (sym o), ap (λ (x : Outcome). answer_area x area) (sym o));
    }

    pub query_answered : {draws : ℕ} {verdict : HeldVerdict.Verdict} {area now : List ℕ} → SayWhole f query before (Ok draws) scratch → now ≡ written (set_in scratch) area →
        ReadAll f.our_key f.format (names f) f.policy query (verdict_number verdict) area (Ok (record { verdict = verdict; draws = draws })) now
    unfolding outcome reply_for reply_is answer_area
    query_answered {draws} {area = area} answer is = record {
      part = tt;
      means = λ es q v h w.
          let o : read_from f.format (names f) es q v [] 0 ≡ answered v draws (set_in scratch) = goes query es q v h ∙ query_done f q v before (reads answer h) in
          (ap (λ (x : ℕ). Ok (x, draws)) (sym w) ∙ ap reply_for (sym o), is ∙ ap (λ (x : Outcome). answer_area x area) (sym o));
    }
