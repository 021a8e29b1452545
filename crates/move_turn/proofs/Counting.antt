-- Counts over a list whose holding elements all stand before the others: a partition point. Assumes nothing.
use mathlib.Core.Path.{◌≡◌, refl, sym, ◌∙◌}
use mathlib.Core.Bool.{Bool, true, false, cond}
use mathlib.Core.List.{List, [], ◌∷◌}
use Prim.Native.Nat.{ℕ, zero, suc, ◌+◌, ◌-◌, ◌<◌, ◌≤◌}
use native.Mathlib.Omega.{arith}
use lib.ListN.{length, get_or, drop}
use Rattle.std.proofs.lemmas.List.{get_or_default, get_or-drop, length-drop}
use Rattle.std.specs.List.{AllWithin, prefix_len}
use Rattle.std.proofs.lemmas.List.Sums.{prefix_len_is}
use Rattle.std.specs.List.Sorted.{IsPartitionedBy, IsPartitionPoint}
use Rattle.std.proofs.lemmas.Bool.{cases_lt}
use mathlib.Core.Logic.{⊎_elim}
use lib.Ieee.{Float, lt, le}
use Rattle.laws.proofs.Bools.{yes}
use Rattle.world.specs.World.{stop_position}
use Rattle.stops_sort.specs.Sorted.{is_stop_before, sorted_stops, IsSortOf, StopsSorted}
use Rattle.stops_sort.proofs.Insertion.{stops_sorted}
use Rattle.move_turn.specs.Passing.{count_in, start_of, end_of}
use Rattle.move_turn.proofs.Thresholds.{sorted_le, sorted_lt}

module _ (is : ℕ → Bool) where
  pub count_most : (xs : List ℕ) → count_in is xs ≤ length xs
  unfolding count_in
  count_most [] = omega arith
  count_most (x ∷ xs) = by (is x) (count_most xs)
    where
      by : (b : Bool) → count_in is xs ≤ length xs → cond b (suc (count_in is xs)) (count_in is xs) ≤ suc (length xs)
      by true h = omega arith
      by false h = omega arith

  -- where one holds, all before it do
  abbrev pub Split : List ℕ → Type 0
  Split xs = (a b : ℕ) → a < b → b < length xs → is (get_or xs b 0) ≡ true → is (get_or xs a 0) ≡ true

  rest : (x : ℕ) (xs : List ℕ) → Split (x ∷ xs) → Split xs
  rest x xs s a b l m h = s (suc a) (suc b) (omega arith) (omega arith) h

  none : (xs : List ℕ) → ((b : ℕ) → b < length xs → is (get_or xs b 0) ≡ true → ⊥) → count_in is xs ≡ 0
  unfolding count_in
  none [] f = refl
  none (x ∷ xs) f = by (is x) refl (none xs (λ b l h. f (suc b) (omega arith) h))
    where
      by : (b : Bool) → is x ≡ b → count_in is xs ≡ 0 → cond b (suc (count_in is xs)) (count_in is xs) ≡ 0
      by true e h = absurd (f 0 (omega arith) e)
      by false e h = h

  -- those that hold are the first ones
  pub count_above : (xs : List ℕ) (k : ℕ) → Split xs → k < length xs → is (get_or xs k 0) ≡ true → k < count_in is xs
  unfolding count_in
  count_above [] k s l h = absurd (omega arith)
  count_above (x ∷ xs) zero s l h = rw h (omega arith)
  count_above (x ∷ xs) (suc k) s l h =
      let e : is x ≡ true = s 0 (suc k) (omega arith) l h in
      let r : k < count_in is xs = count_above xs k (rest x xs s) (omega arith) h in
      rw e (omega arith)

  pub count_below : (xs : List ℕ) (k : ℕ) → Split xs → k < length xs → is (get_or xs k 0) ≡ false → count_in is xs ≤ k
  unfolding count_in
  count_below [] k s l h = absurd (omega arith)
  count_below (x ∷ xs) zero s l h =
      rw (h, none xs (λ b m g. yes (sym (s 0 (suc b) (omega arith) (omega arith) g) ∙ h))) (omega arith)
  count_below (x ∷ xs) (suc k) s l h = by (is x) (count_below xs k (rest x xs s) (omega arith) h)
    where
      by : (b : Bool) → count_in is xs ≤ k → cond b (suc (count_in is xs)) (count_in is xs) ≤ suc k
      by true r = omega arith
      by false r = omega arith

  -- ---- the point between those that hold and the others

  module _ (xs : List ℕ) (s : Split xs) where
    same_at : (k d : ℕ) → k < length xs → is (get_or xs k d) ≡ is (get_or xs k 0)
    same_at k d l = rw (get_or_default xs k d 0 l)

    pub parted : IsPartitionedBy is xs
    parted i j d h l u =
        ⊎_elim (λ (m : i < j). same_at i d (omega arith) ∙ s i j m l (sym (same_at j d l) ∙ u)) (λ (m : j ≤ i). let e : i ≡ j = omega arith in rw e u) (cases_lt i j)

    pub point_is_count : (r : ℕ) → r ≤ length xs → IsPartitionPoint (λ x. is x ≡ true) (λ x. is x ≡ false) xs r
        → r ≡ count_in is xs
    point_is_count r h p = omega (arith, below r h p.0, above)
      where
        below : (r : ℕ) → r ≤ length xs → AllWithin (λ x. is x ≡ true) xs 0 r → r ≤ count_in is xs
        below zero h up = omega arith
        below (suc k) h up = let a = count_above xs k s (omega arith) (up k 0 (omega arith) (omega arith)) in omega arith

        above : count_in is xs ≤ r
        above = ⊎_elim (λ (l : r < length xs). count_below xs r s l (p.1 r 0 (omega arith) l)) (λ (l : length xs ≤ r). omega (arith, count_most xs)) (cases_lt r (length xs))

    -- from a place on, those that hold come first
    pub first_are : (start : ℕ) → start ≤ length xs → prefix_len is (drop start xs) ≡ count_in is xs - start
    first_are start l = prefix_len_is is (drop start xs) (count_in is xs - start) 0 (omega (arith, length-drop start xs, count_most xs)) up down
      where
        up : (k : ℕ) → k < count_in is xs - start → is (get_or (drop start xs) k 0) ≡ true
        up k h = by (is (get_or xs (start + k) 0)) refl
          where
            by : (b : Bool) → is (get_or xs (start + k) 0) ≡ b → is (get_or (drop start xs) k 0) ≡ true
            by true e = rw (get_or-drop start xs k 0) e
            by false e = absurd (omega (arith, count_below xs (start + k) s (omega (arith, h, count_most xs)) e))

        down : count_in is xs - start < length (drop start xs) → is (get_or (drop start xs) (count_in is xs - start) 0) ≡ false
        down h = by (is (get_or xs (start + (count_in is xs - start)) 0)) refl
          where
            by : (b : Bool) → is (get_or xs (start + (count_in is xs - start)) 0) ≡ b → is (get_or (drop start xs) (count_in is xs - start) 0) ≡ false
            by false e = rw (get_or-drop start xs (count_in is xs - start) 0) e
            by true e = absurd (omega (arith, count_above xs (start + (count_in is xs - start)) s (omega (arith, h, length-drop start xs)) e))

-- what holds of each, holds of as many at least
pub count_grows : (is also : ℕ → Bool) → ((x : ℕ) → is x ≡ true → also x ≡ true) → (xs : List ℕ)
    → count_in is xs ≤ count_in also xs
unfolding count_in
count_grows is also f [] = omega arith
count_grows is also f (x ∷ xs) = by (is x) (also x) (f x) (count_grows is also f xs)
  where
    by : (a b : Bool) → (a ≡ true → b ≡ true) → count_in is xs ≤ count_in also xs
        → cond a (suc (count_in is xs)) (count_in is xs) ≤ cond b (suc (count_in also xs)) (count_in also xs)
    by true true g h = omega arith
    by true false g h = yes (sym (g refl))
    by false true g h = omega arith
    by false false g h = h

-- ---- the sort of stops

module _ (stops : List Float) (n : ℕ) (t : Float) where
  sort : IsSortOf stops n (sorted_stops stops n)
  unfolding StopsSorted
  sort = (stops_sorted stops).1 n

  before : (a b : ℕ) → a < b → b < length (sorted_stops stops n) → is_stop_before stops (get_or (sorted_stops stops n) a 0) (get_or (sorted_stops stops n) b 0) ≡ true
  before = sort.sorted

  pub start_split : Split (λ s. le (stop_position stops s) t) (sorted_stops stops n)
  start_split a b l m = sorted_le stops (get_or (sorted_stops stops n) a 0) (get_or (sorted_stops stops n) b 0) (before a b l m) t

  pub end_split : Split (λ s. lt (stop_position stops s) t) (sorted_stops stops n)
  end_split a b l m = sorted_lt stops (get_or (sorted_stops stops n) a 0) (get_or (sorted_stops stops n) b 0) (before a b l m) t

  pub start_most : start_of stops (sorted_stops stops n) t ≤ n
  unfolding start_of
  start_most = omega (arith, count_most (λ s. le (stop_position stops s) t) (sorted_stops stops n), sort.size)

  pub end_most : end_of stops (sorted_stops stops n) t ≤ n
  unfolding end_of
  end_most = omega (arith, count_most (λ s. lt (stop_position stops s) t) (sorted_stops stops n), sort.size)
