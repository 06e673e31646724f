-- The rows of a name, through links: its own where no link starts at it, and otherwise those of all names reached.
use Prim.Native.Nat.{ℕ, suc, ◌+◌, ◌*◌, ◌/◌, ◌≤◌, ◌<◌}
use mathlib.Core.Path.{◌≡◌, refl, sym, ap, subst, ◌∙◌}
use mathlib.Core.Logic.{◌⊎◌, inl, inr, ◌↔◌}
use mathlib.Core.Bool.{Bool, true, false}
use mathlib.Core.List.{List, [], ◌∷◌, ◌++◌}
use native.Mathlib.Omega.{arith}
use lib.ListN.{length, get_or}
use Rattle.rows.specs.Ordered.{◌∈◌, lists, insert, join}
use Rattle.rows.specs.Row.{Row, row_before}
use Rattle.rows.specs.Name.{polarity_of}
use Rattle.rows.specs.Layout.{row_in, five_at, rows_in, formed, set_in, written}
use Rattle.row_words.specs.Values.{five_is, row_is}
use Rattle.row_words.specs.declared.row.Row as HeldRow
use Rattle.rows.proofs.Case.{never, T_true, same_test, true_T, ◌then◌, iff_refl, iff_sym}
use Rattle.rows.proofs.Order.{row_order}
use Rattle.rows.proofs.Ordered.{Ascending, ascending_true, true_ascending, ascending_unique, insert-∈, insert_ascending, join-∈, join_ascending, lists_iff}
use Rattle.rows.proofs.Lists.{all_in}
use Rattle.rows.proofs.Place.{lists_not}
use Rattle.rows.proofs.Joining.{∈-last, join_shorter, within_shorter}
use Rattle.rows.proofs.LayoutLaws.{Width, sound_width, rows_count, true_sound}
use Rattle.sets.proofs.SetWords.{sound_ascending}
use Rattle.sets.proofs.Standing.{formed_fit, formed_few, written_stands}
use Rattle.certificates.specs.Certificate.{holds_at}
use Rattle.certificates.specs.Store.{sound_store, certificates_at}
use Rattle.certificates.specs.NamePart.{name_part}
use Rattle.certificates.specs.Link.{Named}
use Rattle.certificates.proofs.Sound.{sound_record_lem}
use Rattle.meaning.specs.Evidence.{joined}
use Rattle.meaning.proofs.Model.{rows_ascending, joined_alone, reached-∈}
use Rattle.read_values.specs.Answers.{Filled, Empty}
use Rattle.meaning.specs.Links.{Reaches}
use Rattle.read_links.specs.declared.Name.{Name}
use Rattle.read_links.specs.Reached.{links_of, nobody, named_by, names_in, name_in, SayLinked, SayReached}
use Rattle.rows.specs.Polarities.{polarity_number}
use Rattle.read_links.proofs.Finding.{of_number}
use lib.ListN.{take, length-take}
use lib.Seq.{get_or-take}
use Rattle.read_links.proofs.Names.{names_last, name-∈, ∈-name}
use Rattle.read_values.proofs.Answers.{stands_filled}
use Rattle.read_steps.proofs.Inserting as inserting
use Rattle.read_held.specs.Held.{Records, Copied, TooMany, row_at, rows_held, SayFound}
use Rattle.refusals.specs.declared.Refusal.{Refusal}
use Rattle.refusals.specs.declared.Refusal.TheVariants.{TooManyRows}
use Rattle.rows.specs.Sets.{only, listing, has}
use Rattle.rows.proofs.LayoutLaws.{formed_listing}
use Rattle.read_names.specs.Reached.{records_of, own_rows, name_rows, HeldFor, Joined, NotJoined, SayLooking, Listed, Belongs, Large}
use Rattle.read_names.specs.declared.reached.Looking.{Looking}
use Rattle.certificates.specs.Certificate.{record_row, sound_record}
use Rattle.rows.specs.Layout.{pieces}
use Rattle.read_held.proofs.Holding.{rows_none, rows_few, rows_ascend}
use Rattle.read_held.proofs.Copying.{record_wide, rows_of, rows_put, rows_same, all_rows, rows_within, rows_wide}
use Rattle.read_names.proofs.Own.{own_rows_lem, part_records, records_few}

-- just these names are reached
pub record Reached (links : List ℕ) (v : ℕ) (x : Named) (found : List Name) (count : ℕ) : Type 0 where
  pub just : (y : Named) → (y ∈ names_in count found) ↔ Reaches (links_of links) (polarity_of v) x y

-- ---- what a name's rows are

module _ (minute : ℕ) (store links : List ℕ) (key name v : ℕ) where
  pub name_ascends : Ascending row_before row_order (name_rows minute store links key name v)
  name_ascends = rows_ascending (record { certificates = certificates_at minute store; links = links_of links }) key name (polarity_of v)

  module _ (sound : sound_store store ≡ true) (small : v ≤ 1) where
    pub alone_rows : {b : Bool} → SayLinked links v key name b → b ≡ false → {part : List ℕ} → part ≡ name_part store key name v →
        name_rows minute store links key name v ≡ rows_held minute (pieces 10 (length part / 10) part)
    alone_rows {b} s f e =
        joined_alone (links_of links) (certificates_at minute store) key name (polarity_of v)
        (λ l i p h. let t : b ≡ true = s.means.1 (record { link = l; held = i; polar = p; here = h }) in never t f)
        ∙ own_rows_lem store sound key name v e small minute

    pub reached_rows : {found : List Name} {count : ℕ} → Reached links v (record { key = key; name = name }) found count →
        (x : Row) → (x ∈ name_rows minute store links key name v) ↔ HeldFor minute store v (names_in count found) x
    reached_rows s x = reached-∈ (links_of links) (certificates_at minute store) key name (polarity_of v) x then (
      λ t. (t.0, (s.just t.0).1 t.1, subst (λ (l : List Row). x ∈ l) (own t.0) t.2),
      λ t. (t.0, (s.just t.0).0 t.1, subst (λ (l : List Row). x ∈ l) (sym (own t.0)) t.2),
    )
      where
        own : (y : Named) → joined [] (certificates_at minute store) y.key y.name (polarity_of v) ≡ own_rows minute store v y
        own y = own_rows_lem store sound y.key y.name v refl small minute

    -- no name has a row of more than four atoms
    pub name_wide : (x : Row) → x ∈ name_rows minute store links key name v → Width x
    name_wide x m =
        let t = (reached-∈ (links_of links) (certificates_at minute store) key name (polarity_of v) x).0 m in
        let own : x ∈ own_rows minute store v t.0 = subst (λ (l : List Row). x ∈ l) (own_rows_lem store sound t.0.key t.0.name v refl small minute) t.2 in
        all_in Width (own_rows minute store v t.0) (rows_wide (part_records store sound t.0.key t.0.name v refl) minute) x own

    pub longer_apart : {x y : Row} {b : Bool} → 4 < length x → Belongs (only (name_rows minute store links key name v)) y b → Belongs (only (name_rows minute store links key name v)) x false
    unfolding has
    longer_apart {x} h said = record {
      few = said.few;
      means = lists_not row_before row_order [] (name_rows minute store links key name v) x (λ m. let wide = name_wide x m in absurd (omega (arith, wide.few)));
    }

-- ---- rows joined to those of a set

-- so far these rows are in
pub record Joining (P : Row → Type 0) (before area : List ℕ) : Type 0 where
  pub size : length area ≡ length before
  pub filled : Filled area
  pub form : get_or area 0 0 ≡ get_or before 0 0
  pub rows : (x : Row) → (x ∈ rows_in area) ↔ ((x ∈ rows_in before) ⊎ P x)

module _ {before : List ℕ} where
  pub joining_start : (P : Row → Type 0) → Filled before → ((x : Row) → P x → ⊥) → Joining P before before
  joining_start P f none = record { size = refl; filled = f; form = refl; rows = λ x. (λ i. inl i, λ t. elim t [ inl i ↦ i | inr p ↦ absurd (none x p) ]) }

  pub joining_all : {P : Row → Type 0} {area : List ℕ} → Joining P before area → Joined P before area
  joining_all j = record { filled = j.filled; form = j.form; rows = j.rows }

  module _ {P Q : Row → Type 0} {area : List ℕ} (j : Joining P before area) where
    -- the same rows, said otherwise
    pub joining_same : ((x : Row) → P x ↔ Q x) → Joining Q before area
    joining_same same = record {
      size = j.size;
      filled = j.filled;
      form = j.form;
      rows = λ x. j.rows x then (
        λ t. elim t [ inl i ↦ inl i | inr p ↦ inr ((same x).0 p) ],
        λ t. elim t [ inl i ↦ inl i | inr q ↦ inr ((same x).1 q) ],
      );
    }

    -- more of them, by a call that says so
    pub joining_more : {R : Row → Type 0} {now : List ℕ} → ((x : Row) → Q x ↔ (P x ⊎ R x)) → length now ≡ length area → Joined R area now → Joining Q before now
    joining_more {now} more same s = record {
      size = same ∙ j.size;
      filled = s.filled;
      form = s.form ∙ j.form;
      rows = λ x. s.rows x then (
        λ t. elim t [ inl i ↦ elim ((j.rows x).0 i) [ inl k ↦ inl k | inr p ↦ inr ((more x).1 (inl p)) ] | inr r ↦ inr ((more x).1 (inr r)) ],
        λ t. elim t [ inl k ↦ inl ((j.rows x).1 (inl k)) | inr q ↦ elim ((more x).0 q) [ inl p ↦ inl ((j.rows x).1 (inr p)) | inr r ↦ inr r ] ],
      );
    }

    -- too many of them, and so too many of more
    pub joining_full : {R : Row → Type 0} {e : Refusal} → ((x : Row) → (P x ⊎ R x) → Q x) → NotJoined R area e → NotJoined Q before e
    joining_full more s = (
      s.0,
      λ ys a h. s.1 ys a (λ x t. elim t [
        | inl i ↦ elim ((j.rows x).0 i) [ inl k ↦ h x (inl k) | inr p ↦ h x (inr (more x (inl p))) ]
        | inr r ↦ h x (inr (more x (inr r)))
      ]),
    )

-- the row of a record, loaded
pub record Loaded (w : List ℕ) (r : HeldRow.Row) : Type 0 where
  pub is : row_is r ≡ record_row w
  pub some : 1 ≤ r.width
  pub few : r.width ≤ 4
  pub wide : Width (row_is r)

pub loaded : (w : List ℕ) → sound_record w ≡ true → (r : HeldRow.Row) → five_is r ≡ five_at w 3 → Loaded w r
unfolding five_is row_is
loaded w sound r e =
    let width : r.width ≡ get_or (five_at w 3) 0 0 = ap (λ (l : List ℕ). get_or l 0 0) e in
    let s = sound_width (five_at w 3) (sound_record_lem w sound).row in
    let is : row_is r ≡ record_row w = ap row_in e in
    record { is = is; some = omega (arith, s.some); few = omega (arith, s.few); wide = subst Width (sym is) (record_wide w sound) }

-- one row inserted
pub one_listed : {area now : List ℕ} {r q : Row} → r ≡ q → inserting.Listed area r now → Joined (λ x. x ≡ q) area now
one_listed {area} {now} {r} is l = subst (λ (y : Row). Joined (λ x. x ≡ y) area now) is (record {
  filled = l.filled;
  form = l.form;
  rows = λ x.
      subst (λ (xs : List Row). (x ∈ xs) ↔ ((x ∈ rows_in area) ⊎ (x ≡ r))) (sym l.rows)
      (insert-∈ row_before row_order r (rows_in area) x then (λ t. elim t [ inl e ↦ inr e | inr i ↦ inl i ], λ t. elim t [ inl i ↦ inr i | inr e ↦ inl e ]));
})

pub one_full : {area now : List ℕ} {r q : Row} → r ≡ q → Filled area → inserting.NoRoom area r now → NotJoined (λ x. x ≡ q) area TooManyRows
one_full {area} {now} {r} is f n = subst (λ (y : Row). NotJoined (λ x. x ≡ y) area TooManyRows) is (
  refl,
  λ ys a h.
      let w = within_shorter row_before row_order (insert row_before r (rows_in area)) ys (insert_ascending row_before row_order r (rows_in area) (sound_ascending area f.sound)) (ascending_true row_before row_order ys a)
      (λ x i. elim ((insert-∈ row_before row_order r (rows_in area) x).0 i) [ inl q ↦ h x (inr q) | inr m ↦ h x (inl m) ]) in
      omega (arith, w, n.many),
)

-- the rows of one record more
module _ (minute : ℕ) (rs : List (List ℕ)) (i : ℕ) where
  abbrev HeldBefore : ℕ → Row → Type 0
  HeldBefore j x = x ∈ rows_of minute rs j

  pub record_adds : i < length rs → holds_at minute (get_or rs i []) ≡ true → (x : Row) → HeldBefore (i + 1) x ↔ (HeldBefore i x ⊎ (x ≡ row_at rs i))
  record_adds h e x =
      subst (λ (xs : List Row). (x ∈ xs) ↔ ((x ∈ rows_of minute rs i) ⊎ (x ≡ row_at rs i))) (sym (rows_put minute rs h e))
      (insert-∈ row_before row_order (row_at rs i) (rows_of minute rs i) x then (λ t. elim t [ inl e ↦ inr e | inr i ↦ inl i ], λ t. elim t [ inl i ↦ inr i | inr e ↦ inl e ]))

  pub record_adds_nothing : i < length rs → holds_at minute (get_or rs i []) ≡ false → (x : Row) → HeldBefore i x ↔ HeldBefore (i + 1) x
  record_adds_nothing h e x = subst (λ (xs : List Row). (x ∈ rows_of minute rs i) ↔ (x ∈ xs)) (sym (rows_same minute rs h e)) iff_refl

  pub record_among : i < length rs → holds_at minute (get_or rs i []) ≡ true → (x : Row) → HeldBefore i x ⊎ (x ≡ row_at rs i) → x ∈ rows_held minute rs
  record_among h e x t = rows_within minute rs (i + 1) x ((record_adds h e x).1 t)

  pub all_records : length rs ≤ i → (x : Row) → HeldBefore i x ↔ (x ∈ rows_held minute rs)
  all_records h x = subst (λ (xs : List Row). HeldBefore i x ↔ (x ∈ xs)) (all_rows minute rs h) iff_refl

pub no_records : (minute : ℕ) (rs : List (List ℕ)) (x : Row) → x ∈ rows_of minute rs 0 → ⊥
unfolding ◌∈◌
no_records minute rs x m = subst (λ (xs : List Row). x ∈ xs) (rows_none minute) m

-- what is known of the names that were found from a name
module _ {links : List ℕ} {n : Name} {found : List Name} {count : ℕ} (s : SayReached links n found count) where
  pub just_reached : Reached links (polarity_number n.polarity) (named_by n) found count
  just_reached = record { just = λ y. subst (λ p. (y ∈ names_in count found) ↔ Reaches (links_of links) p (named_by n) y) (sym (of_number n.polarity)) (s.just y) }

  -- a place among them, and the records of the name there
  module _ {names : List Name} (is : names ≡ take count found) where
    pub in_found : (i : ℕ) → i < length names → i < count
    in_found i h = omega (arith, h, ap (λ (l : List Name). length l) is, length-take count found)

    pub few_found : (i : ℕ) → i ≤ length names → i ≤ count
    few_found i h = omega (arith, h, ap (λ (l : List Name). length l) is, length-take count found)

    pub its_records : (store : List ℕ) (i : ℕ) → i < length names → {rs : List (List ℕ)} →
        rs ≡ records_of store (polarity_number (get_or names i nobody).polarity) (named_by (get_or names i nobody)) → rs ≡ records_of store (polarity_number n.polarity) (name_in found i)
    its_records store i h e =
        let less = in_found i h in
        let there : get_or names i nobody ≡ get_or found i nobody = ap (λ (l : List Name). get_or l i nobody) is ∙ get_or-take count found i nobody less in
        e ∙ ap (λ (m : Name). records_of store (polarity_number m.polarity) (named_by m)) there
        ∙ ap (λ p. records_of store (polarity_number p) (name_in found i)) (s.polar i less)

-- the rows of one name more
module _ (minute : ℕ) (store : List ℕ) (v : ℕ) (found : List Name) (i : ℕ) where
  pub name_adds : (x : Row) → HeldFor minute store v (names_in (i + 1) found) x ↔ (HeldFor minute store v (names_in i found) x ⊎ (x ∈ own_rows minute store v (name_in found i)))
  name_adds x = (
    λ t. elim ((∈-last (names_in i found) (name_in found i) t.0).0 (subst (λ (ys : List Named). t.0 ∈ ys) last t.1)) [
      | inl m ↦ inl (t.0, m, t.2)
      | inr e ↦ inr (subst (λ (y : Named). x ∈ own_rows minute store v y) e t.2)
    ],
    λ t. elim t [ inl s ↦ (s.0, into (inl s.1), s.2) | inr m ↦ (name_in found i, into (inr refl), m) ],
  )
    where
      last : names_in (i + 1) found ≡ names_in i found ++ (name_in found i ∷ [])
      last = let e : i + 1 ≡ suc i = omega arith in ap (λ (n : ℕ). names_in n found) e ∙ names_last i found

      into : {y : Named} → (y ∈ names_in i found) ⊎ (y ≡ name_in found i) → y ∈ names_in (i + 1) found
      into {y} t = subst (λ (ys : List Named). y ∈ ys) (sym last) ((∈-last (names_in i found) (name_in found i) y).1 t)

-- what is joined from a name's records are its own rows
pub part_joined : (minute v : ℕ) (store : List ℕ) (y : Named) {rs : List (List ℕ)} {before now : List ℕ} → rs ≡ records_of store v y →
    Joined (λ x. x ∈ rows_held minute rs) before now → Joined (λ x. x ∈ own_rows minute store v y) before now
part_joined minute v store y {before} {now} e j = subst (λ (l : List (List ℕ)). Joined (λ x. x ∈ rows_held minute l) before now) e j

pub part_full : (minute v : ℕ) (store : List ℕ) (y : Named) {rs : List (List ℕ)} (before : List ℕ) {r : Refusal} → rs ≡ records_of store v y →
    NotJoined (λ x. x ∈ rows_held minute rs) before r → NotJoined (λ x. x ∈ own_rows minute store v y) before r
part_full minute v store y before {r} e j = subst (λ (l : List (List ℕ)). NotJoined (λ x. x ∈ rows_held minute l) before r) e j

names_within : (found : List Name) (i count : ℕ) → i ≤ count → (y : Named) → y ∈ names_in i found → y ∈ names_in count found
names_within found i count h y m =
    let f = ∈-name i found y m in
    let less = f.1 in
    subst (λ (z : Named). z ∈ names_in count found) (sym f.2) (name-∈ count found f.0 (omega arith))

-- the rows of these names are among those of more
pub name_among : (minute : ℕ) (store : List ℕ) (v : ℕ) (found : List Name) (i count : ℕ) → i < count → (x : Row) →
    HeldFor minute store v (names_in i found) x ⊎ (x ∈ own_rows minute store v (name_in found i)) → HeldFor minute store v (names_in count found) x
name_among minute store v found i count h x t =
    let u = (name_adds minute store v found i x).1 t in
    (u.0, names_within found (i + 1) count (omega arith) u.0 u.1, u.2)

pub all_names : (minute : ℕ) (store : List ℕ) (v : ℕ) (found : List Name) (i count : ℕ) → i ≤ count → count ≤ i → (x : Row) →
    HeldFor minute store v (names_in i found) x ↔ HeldFor minute store v (names_in count found) x
all_names minute store v found i count h l x =
    (λ t. (t.0, names_within found i count h t.0 t.1, t.2), λ t. (t.0, names_within found count i l t.0 t.1, t.2))

pub no_names : (minute : ℕ) (store : List ℕ) (v : ℕ) (found : List Name) (x : Row) → HeldFor minute store v (names_in 0 found) x → ⊥
unfolding names_in ◌∈◌
no_names minute store v found x t = t.1

-- whether a row is held for these names, and rows that have all of theirs
module _ (minute : ℕ) (store : List ℕ) (v : ℕ) (found : List Name) (x : Row) where
  -- so far
  pub record Looked (total : ℕ) (held : Bool) (i : ℕ) : Type 0 where
    pub means : (held ≡ true) ↔ HeldFor minute store v (names_in i found) x
    pub rows : List Row
    pub order : Ascending row_before row_order rows
    pub all : (y : Row) → HeldFor minute store v (names_in i found) y → y ∈ rows
    pub few : length rows ≤ total
    pub most : total ≤ 1600 * i

  pub looked_none : Looked 0 false 0
  unfolding Ascending
  looked_none = record {
    means = (λ e. never e refl, λ t. absurd (no_names minute store v found x t));
    rows = [];
    order = tt;
    all = λ y t. absurd (no_names minute store v found y t);
    few = omega arith;
    most = omega arith;
  }

  module _ {total : ℕ} {held : Bool} {i : ℕ} (l : Looked total held i) {rs : List (List ℕ)} (is : rs ≡ records_of store v (name_in found i)) (sound : sound_store store ≡ true)
      {b : Bool} (f : SayFound minute rs x b) where
    own_found : (b ≡ true) ↔ (x ∈ own_rows minute store v (name_in found i))
    own_found =
        subst (λ (p : List (List ℕ)). (b ≡ true) ↔ (x ∈ rows_held minute p)) is
        ((λ e. (lists_iff row_before row_order _ x).0 (T_true (f.means ∙ e)), λ m. sym f.means ∙ true_T _ ((lists_iff row_before row_order _ x).1 m)))

    more : {h : Bool} → (h ≡ true) ↔ ((held ≡ true) ⊎ (b ≡ true)) → Looked (total + length rs) h (i + 1)
    more {h} either = record {
      means = either then (
        λ t. (name_adds minute store v found i x).1 (elim t [ inl e ↦ inl (l.means.0 e) | inr e ↦ inr (own_found.0 e) ]),
        λ t. elim ((name_adds minute store v found i x).0 t) [ inl u ↦ inl (l.means.1 u) | inr m ↦ inr (own_found.1 m) ],
      );
      rows = join row_before (own_rows minute store v (name_in found i)) l.rows;
      order = join_ascending row_before row_order _ l.rows l.order;
      all = λ y t. (join-∈ row_before row_order _ l.rows y).1 (elim ((name_adds minute store v found i y).0 t) [ inl u ↦ inr (l.all y u) | inr m ↦ inl m ]);
      few =
          let most = rows_few minute (records_of store v (name_in found i)) in
          let n = join_shorter row_before row_order (own_rows minute store v (name_in found i)) l.rows in
          let few = l.few in
          omega (arith, most, ap (λ (p : List (List ℕ)). length p) is, n, few);
      most = let m = l.most in omega (arith, records_few store sound (name_in found i).key (name_in found i).name v refl, ap (λ (p : List (List ℕ)). length p) is, m);
    }

    pub looked_found : b ≡ true → Looked (total + length rs) true (i + 1)
    looked_found e = more (λ t. inr e, λ t. refl)

    pub looked_not : b ≡ false → Looked (total + length rs) held (i + 1)
    looked_not e = more (λ t. inl t, λ t. elim t [ inl h ↦ h | inr q ↦ never q e ])

  pub looked_all : {total : ℕ} {held : Bool} {i count : ℕ} → Looked total held i → i ≤ count → count ≤ i →
      SayLooking minute store v (names_in count found) x (record { records = total; held = held })
  looked_all {i} {count} l h k = record {
    means = l.means then all_names minute store v found i count h k x;
    rows = l.rows;
    order = true_ascending row_before row_order l.rows l.order;
    all = λ y t. l.all y ((all_names minute store v found i count h k y).1 t);
    few = l.few;
  }

-- ---- the whole of them

module _ (minute : ℕ) (store links : List ℕ) (key name v : ℕ) (sound : sound_store store ≡ true) (small : v ≤ 1) {found : List Name} {count : ℕ} (s : Reached links v (record { key = key; name = name }) found count) where
  abbrev rows : List Row
  rows = name_rows minute store links key name v

  abbrev theirs : Row → Type 0
  theirs = HeldFor minute store v (names_in count found)

  too_many_rows_lem : (before : List ℕ) {e : Refusal} → rows_in before ≡ [] → NotJoined theirs before e → 128 < length rows
  unfolding ◌∈◌
  too_many_rows_lem before none j =
      j.1 rows (true_ascending row_before row_order rows (name_ascends minute store links key name v)) (λ x t. elim t [
        | inl i ↦ absurd (subst (λ (xs : List Row). x ∈ xs) none i)
        | inr p ↦ (reached_rows minute store links key name v sound small s x).1 p
      ])

  joined_rows : {before now : List ℕ} → rows_in before ≡ [] → Joined theirs before now → rows_in now ≡ rows
  unfolding ◌∈◌
  joined_rows {before} {now} none j = ascending_unique row_before row_order (rows_in now) rows (sound_ascending now j.filled.sound) (name_ascends minute store links key name v) (λ x.
      j.rows x then (
        λ t. elim t [ inl i ↦ absurd (subst (λ (xs : List Row). x ∈ xs) none i) | inr p ↦ (reached_rows minute store links key name v sound small s x).1 p ],
        λ i. inr ((reached_rows minute store links key name v sound small s x).0 i),
      ))

  reached_few : {before now : List ℕ} → rows_in before ≡ [] → Joined theirs before now → length rows ≤ 128
  reached_few {before} {now} none j = omega (arith, ap length (joined_rows none j), rows_count now, (true_sound now j.filled.sound).count)

  pub say_listed : {before now : List ℕ} → Empty v before → Joined theirs before now → Listed (formed v rows) now
  unfolding set_in
  say_listed {now = now} m j = record {
    filled = j.filled;
    set = ap (λ (f : ℕ). formed f (rows_in now)) (j.form ∙ m.is) ∙ ap (formed v) (joined_rows m.none j);
    few = omega (arith, reached_few m.none j, ap length (formed_listing v rows));
  }

  pub say_large : {before : List ℕ} {e : Refusal} → Empty v before → NotJoined theirs before e → Large (formed v rows) e
  say_large m j = (j.0, omega (arith, too_many_rows_lem _ m.none j, ap length (formed_listing v rows)))

  -- a row looked up: by the names, where their rows are few
  module _ {x : Row} {l : Looking} (looking : SayLooking minute store v (names_in count found) x l) where
    is_listed_lem : lists row_before rows x ≡ l.held
    is_listed_lem = same_test _ _ (lists_iff row_before row_order rows x then reached_rows minute store links key name v sound small s x then iff_sym looking.means then
        (λ e. T_true e, λ t. true_T _ t))

    pub look_few : l.records ≤ 128 → Belongs (only rows) x l.held
    unfolding listing has
    look_few h = record {
      few =
          let w = within_shorter row_before row_order rows looking.rows (name_ascends minute store links key name v) (ascending_true row_before row_order looking.rows looking.order)
          (λ y i. looking.all y ((reached_rows minute store links key name v sound small s y).0 i)) in
          omega (arith, w, looking.few);
      means = is_listed_lem;
    }

    pub look_joined : {before now : List ℕ} → rows_in before ≡ [] → Joined theirs before now → Belongs (only rows) x l.held
    unfolding listing has
    look_joined none j = record { few = reached_few none j; means = is_listed_lem }

  pub look_too_many : (before : List ℕ) {e : Refusal} → rows_in before ≡ [] → NotJoined theirs before e → Large (only rows) e
  unfolding listing
  look_too_many before none j = (j.0, too_many_rows_lem _ none j)

-- ---- a name that no link starts at

module _ (minute : ℕ) (store links : List ℕ) (key name v : ℕ) (sound : sound_store store ≡ true) (small : v ≤ 1) {linked : Bool} (says : SayLinked links v key name linked) (alone : linked ≡ false)
    {rs : List (List ℕ)} (is : rs ≡ records_of store v (record { key = key; name = name })) where
  all_own : name_rows minute store links key name v ≡ rows_held minute rs
  all_own = alone_rows minute store links key name v sound small says alone refl ∙ ap (rows_held minute) (sym is)

  pub own_copied : {before area : List ℕ} → Empty v before → Records rs → Copied minute rs before area → Listed (formed v (name_rows minute store links key name v)) area
  own_copied {before} m records w =
      let own : List Row = rows_held minute rs in
      let fit = formed_fit v own (rows_ascend minute rs) (rows_wide records minute) in
      let s = written_stands fit (formed_few v own w.few) before m.filled.long (w.words ∙ ap (λ (f : ℕ). written (formed f own) before) m.is) in
      record {
        filled = stands_filled s;
        set = s.set ∙ ap (formed v) (sym all_own);
        few = omega (arith, w.few, ap length all_own, ap length (formed_listing v (name_rows minute store links key name v)));
      }

  pub own_large : {e : Refusal} → TooMany (rows_held minute rs) e → Large (formed v (name_rows minute store links key name v)) e
  own_large t = (t.0, omega (arith, t.1, ap length all_own, ap length (formed_listing v (name_rows minute store links key name v))))

  pub own_looked_up : {x : Row} {found : Bool} → length (rows_held minute rs) ≤ 128 → SayFound minute rs x found → Belongs (only (name_rows minute store links key name v)) x found
  unfolding listing has
  own_looked_up {x} few f = record { few = omega (arith, few, ap length all_own); means = ap (λ (xs : List Row). lists row_before xs x) all_own ∙ f.means }

  pub own_not_looked_up : {e : Refusal} → TooMany (rows_held minute rs) e → Large (only (name_rows minute store links key name v)) e
  unfolding listing
  own_not_looked_up t = (t.0, omega (arith, t.1, ap length all_own))
