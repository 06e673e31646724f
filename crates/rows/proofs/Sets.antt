-- What the operations on sets do, row by row, once for all widths; and that what they give is again in order and holds only rows.
use mathlib.Core.Path.{◌≡◌, refl, sym, subst}
use mathlib.Core.Logic.{◌⊎◌, inl, inr, ◌↔◌}
use mathlib.Core.Bool.{Bool, true, false, not, ◌&&◌, ◌||◌}
use mathlib.Core.List.{List, []}
use lib.Dec.{T, T_not, not_T}
use Rattle.rows.specs.Word.{All}
use Rattle.rows.specs.Ordered.{◌∈◌, lists, insert, join, keep, common, without, ascending}
use Rattle.rows.specs.Row.{Row, IsRow, row_before}
use Rattle.rows.specs.Sets.{RowSet, only, all_but, listing, Proper, has, unite, subtract}
use Rattle.rows.proofs.Case.{T_and, T_or, T_and_not, same_test, ◌then◌, iff_sym, both_or, both_not}
use Rattle.rows.proofs.Order.{row_order}
use Rattle.rows.proofs.Lists.{all_in, all_of}
use Rattle.rows.proofs.Ordered.{Ascending, ascending_true, true_ascending, lists_iff, insert-∈, join-∈, keep-∈, insert_ascending, join_ascending, keep_ascending}

pub listed_iff : (xs : List Row) (r : Row) → T (lists row_before xs r) ↔ (r ∈ xs)
listed_iff xs r = lists_iff row_before row_order xs r

pub only_iff : (xs : List Row) (r : Row) → T (has (only xs) r) ↔ (r ∈ xs)
unfolding has
only_iff xs r = listed_iff xs r

pub all_but_iff : (xs : List Row) (r : Row) → T (has (all_but xs) r) ↔ (¬ (r ∈ xs))
unfolding has
all_but_iff xs r = (T_not (lists row_before xs r), not_T (lists row_before xs r)) then both_not (listed_iff xs r)

-- the lists of a union and a difference, test by test
lists_join : (xs ys : List Row) (r : Row) → lists row_before (join row_before xs ys) r ≡ (lists row_before xs r || lists row_before ys r)
lists_join xs ys r = same_test _ _ (
    listed_iff (join row_before xs ys) r then join-∈ row_before row_order xs ys r then
    both_or (iff_sym (listed_iff xs r)) (iff_sym (listed_iff ys r)) then iff_sym (T_or (lists row_before xs r) (lists row_before ys r)))

lists_keep : (f : Row → Bool) (xs : List Row) (r : Row) → lists row_before (keep f xs) r ≡ (f r && lists row_before xs r)
lists_keep f xs r = same_test _ _ (
    listed_iff (keep f xs) r then keep-∈ f xs r then
    (λ t. (t.0, (listed_iff xs r).1 t.1), λ t. (t.0, (listed_iff xs r).0 t.1)) then iff_sym (T_and (f r) (lists row_before xs r)))

lists_common : (xs ys : List Row) (r : Row) → lists row_before (common row_before xs ys) r ≡ (lists row_before ys r && lists row_before xs r)
unfolding common
lists_common xs ys r = lists_keep (lists row_before ys) xs r

lists_without : (xs ys : List Row) (r : Row) → lists row_before (without row_before xs ys) r ≡ (not (lists row_before ys r) && lists row_before xs r)
unfolding without
lists_without xs ys r = lists_keep (λ s. not (lists row_before ys s)) xs r

-- a Boolean law in two variables, by its four cases
four : (f g : Bool → Bool → Bool) → f true true ≡ g true true → f true false ≡ g true false → f false true ≡ g false true → f false false ≡ g false false → (x y : Bool) → f x y ≡ g x y
four f g a b c d true true = a
four f g a b c d true false = b
four f g a b c d false true = c
four f g a b c d false false = d

pub has_unite : (a b : RowSet) (r : Row) → has (unite a b) r ≡ (has a r || has b r)
unfolding has unite
has_unite (only xs) (only ys) r = lists_join xs ys r
has_unite (only xs) (all_but ys) r = rw (lists_without ys xs r) (four (λ x y. not (not x && y)) (λ x y. x || not y) refl refl refl refl (lists row_before xs r) (lists row_before ys r))
has_unite (all_but xs) (only ys) r = rw (lists_without xs ys r) (four (λ x y. not (not y && x)) (λ x y. not x || y) refl refl refl refl (lists row_before xs r) (lists row_before ys r))
has_unite (all_but xs) (all_but ys) r = rw (lists_common xs ys r) (four (λ x y. not (y && x)) (λ x y. not x || not y) refl refl refl refl (lists row_before xs r) (lists row_before ys r))

pub has_subtract : (a b : RowSet) (r : Row) → has (subtract a b) r ≡ (has a r && not (has b r))
unfolding has subtract
has_subtract (only xs) (only ys) r = rw (lists_without xs ys r) (four (λ x y. not y && x) (λ x y. x && not y) refl refl refl refl (lists row_before xs r) (lists row_before ys r))
has_subtract (only xs) (all_but ys) r = rw (lists_common xs ys r) (four (λ x y. y && x) (λ x y. x && not (not y)) refl refl refl refl (lists row_before xs r) (lists row_before ys r))
has_subtract (all_but xs) (only ys) r = rw (lists_join ys xs r) (four (λ x y. not (y || x)) (λ x y. not x && not y) refl refl refl refl (lists row_before xs r) (lists row_before ys r))
has_subtract (all_but xs) (all_but ys) r = rw (lists_without ys xs r) (four (λ x y. not x && y) (λ x y. not x && not (not y)) refl refl refl refl (lists row_before xs r) (lists row_before ys r))

-- belonging to a union, and to a difference
pub unite_iff : (a b : RowSet) (r : Row) → T (has (unite a b) r) ↔ (T (has a r) ⊎ T (has b r))
unite_iff a b r = rw (has_unite a b r) (T_or (has a r) (has b r))

pub subtract_iff : (a b : RowSet) (r : Row) → T (has (subtract a b) r) ↔ (T (has a r) × (¬ T (has b r)))
subtract_iff a b r = rw (has_subtract a b r) (T_and_not (has a r) (has b r))

-- what holds of each row still does, and so does the order
join_all : (P : Row → Type 0) (xs ys : List Row) → All P xs → All P ys → All P (join row_before xs ys)
join_all P xs ys p q = all_of P _ (λ x j. elim ((join-∈ row_before row_order xs ys x).0 j) [ inl k ↦ all_in P xs p x k | inr k ↦ all_in P ys q x k ])

pub keep_all : (P : Row → Type 0) (f : Row → Bool) (xs : List Row) → All P xs → All P (keep f xs)
keep_all P f xs p = all_of P _ (λ x j. all_in P xs p x ((keep-∈ f xs x).0 j).1)

pub insert_all : (P : Row → Type 0) (r : Row) (xs : List Row) → P r → All P xs → All P (insert row_before r xs)
insert_all P r xs i p = all_of P _ (λ x j. elim ((insert-∈ row_before row_order r xs x).0 j) [ inl e ↦ subst P (sym e) i | inr k ↦ all_in P xs p x k ])

pub unite_all : (P : Row → Type 0) (s t : RowSet) → All P (listing s) → All P (listing t) → All P (listing (unite s t))
unfolding listing unite common without
unite_all P (only xs) (only ys) p q = join_all P xs ys p q
unite_all P (only xs) (all_but ys) p q = keep_all P _ ys q
unite_all P (all_but xs) (only ys) p q = keep_all P _ xs p
unite_all P (all_but xs) (all_but ys) p q = keep_all P _ xs p

pub subtract_all : (P : Row → Type 0) (s t : RowSet) → All P (listing s) → All P (listing t) → All P (listing (subtract s t))
unfolding listing subtract common without
subtract_all P (only xs) (only ys) p q = keep_all P _ xs p
subtract_all P (only xs) (all_but ys) p q = keep_all P _ xs p
subtract_all P (all_but xs) (only ys) p q = join_all P ys xs q p
subtract_all P (all_but xs) (all_but ys) p q = keep_all P _ ys q

pub unite_ascending : (s t : RowSet) → Ascending row_before row_order (listing s) → Ascending row_before row_order (listing t) → Ascending row_before row_order (listing (unite s t))
unfolding listing unite common without
unite_ascending (only xs) (only ys) p q = join_ascending row_before row_order xs ys q
unite_ascending (only xs) (all_but ys) p q = keep_ascending row_before row_order _ ys q
unite_ascending (all_but xs) (only ys) p q = keep_ascending row_before row_order _ xs p
unite_ascending (all_but xs) (all_but ys) p q = keep_ascending row_before row_order _ xs p

pub subtract_ascending : (s t : RowSet) → Ascending row_before row_order (listing s) → Ascending row_before row_order (listing t) → Ascending row_before row_order (listing (subtract s t))
unfolding listing subtract common without
subtract_ascending (only xs) (only ys) p q = keep_ascending row_before row_order _ xs p
subtract_ascending (only xs) (all_but ys) p q = keep_ascending row_before row_order _ xs p
subtract_ascending (all_but xs) (only ys) p q = join_ascending row_before row_order ys xs p
subtract_ascending (all_but xs) (all_but ys) p q = keep_ascending row_before row_order _ ys q

pub proper_ascending : {xs : List Row} → Proper xs → Ascending row_before row_order xs
proper_ascending {xs} p = ascending_true row_before row_order xs p.order

pub none_proper : Proper []
unfolding ascending All
none_proper = record { order = refl; rows = tt }

pub insert_proper : (r : Row) (xs : List Row) → IsRow r → Proper xs → Proper (insert row_before r xs)
insert_proper r xs i p = record { order = true_ascending row_before row_order _ (insert_ascending row_before row_order r xs (proper_ascending p)); rows = insert_all IsRow r xs i p.rows }

pub unite_proper : (s t : RowSet) → Proper (listing s) → Proper (listing t) → Proper (listing (unite s t))
unite_proper s t p q = record { order = true_ascending row_before row_order _ (unite_ascending s t (proper_ascending p) (proper_ascending q)); rows = unite_all IsRow s t p.rows q.rows }

pub subtract_proper : (s t : RowSet) → Proper (listing s) → Proper (listing t) → Proper (listing (subtract s t))
subtract_proper s t p q = record { order = true_ascending row_before row_order _ (subtract_ascending s t (proper_ascending p) (proper_ascending q)); rows = subtract_all IsRow s t p.rows q.rows }
