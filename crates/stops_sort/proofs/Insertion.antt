-- Insertion from the back, as the code goes, is insertion from the front into a sorted list; and the sort is sorted
-- and has each number once. Assumes nothing.
use mathlib.Core.Path.{◌≡◌, refl, sym, ap, ◌∙◌}
use mathlib.Core.Bool.{Bool, true, false, cond}
use mathlib.Core.List.{List, [], ◌∷◌, ◌++◌}
use Prim.Native.Nat.{ℕ, zero, suc, ◌+◌, ◌-◌, ◌<◌, ◌≤◌}
use native.Mathlib.Numerals.{add-one}
use native.Mathlib.Omega.{arith}
use lib.Dec.{eqb}
use lib.ListN.{length, get_or, set, replicate, length-append}
use lib.Seq.{append_snoc, get_or-append_seam, set-append_seam}
use lib.Ieee.{Float}
use borrow.Author.Tests.{eqb-true, eqb-false, ne_eqb}
use Rattle.laws.proofs.Bools.{yes}
use Rattle.stops_sort.specs.Sorted.{is_stop_before, inserted, sorted_stops, times, StopsSorted}
use Rattle.stops_sort.specs.Parts.{sorted_table}
use Rattle.stops_sort.proofs.Order.{before_through, before_either, stops_order}

-- ---- what holds of each element of a list

abbrev pub All : (ℕ → Type 0) → List ℕ → Type 0
All P [] = Unit {0}
All P (x ∷ xs) = P x × All P xs

all_map : (P Q : ℕ → Type 0) → ((x : ℕ) → P x → Q x) → (xs : List ℕ) → All P xs → All Q xs
all_map P Q f [] h = tt
all_map P Q f (x ∷ xs) h = (f x h.0, all_map P Q f xs h.1)

all_at : (P : ℕ → Type 0) (xs : List ℕ) → All P xs → (k : ℕ) → k < length xs → P (get_or xs k 0)
all_at P [] h k l = absurd (omega arith)
all_at P (x ∷ xs) h zero l = h.0
all_at P (x ∷ xs) h (suc k) l = all_at P xs h.1 k (omega arith)

all_snoc : (P : ℕ → Type 0) (xs : List ℕ) (j : ℕ) → All P xs → P j → All P (xs ++ (j ∷ []))
all_snoc P [] j h p = (p, tt)
all_snoc P (x ∷ xs) j h p = (h.0, all_snoc P xs j h.1 p)

all_front : (P : ℕ → Type 0) (xs : List ℕ) (j : ℕ) → All P (xs ++ (j ∷ [])) → All P xs
all_front P [] j h = tt
all_front P (x ∷ xs) j h = (h.0, all_front P xs j h.1)

all_last : (P : ℕ → Type 0) (xs : List ℕ) (j : ℕ) → All P (xs ++ (j ∷ [])) → P j
all_last P [] j h = h.0
all_last P (x ∷ xs) j h = all_last P xs j h.1

-- a list by its last element
data Snoc : List ℕ → Type 0 where
  empty : Snoc []
  snoc : {xs : List ℕ} → Snoc xs → (j : ℕ) → Snoc (xs ++ (j ∷ []))

front : (x : ℕ) {xs : List ℕ} → Snoc xs → Snoc (x ∷ xs)
front x empty = snoc empty x
front x (snoc s j) = snoc (front x s) j

view : (xs : List ℕ) → Snoc xs
view [] = empty
view (x ∷ xs) = front x (view xs)

module _ (stops : List Float) where
  abbrev pub before : ℕ → ℕ → Type 0
  before i j = is_stop_before stops i j ≡ true

  -- each element is before all later ones
  abbrev pub Sorted : List ℕ → Type 0
  Sorted [] = Unit {0}
  Sorted (x ∷ xs) = All (before x) xs × Sorted xs

  -- ---- insertion keeps a list sorted

  inserted_all : (P : ℕ → Type 0) (i : ℕ) (xs : List ℕ) → P i → All P xs → All P (inserted stops i xs)
  unfolding inserted
  inserted_all P i [] p h = (p, tt)
  inserted_all P i (j ∷ js) p h = by (is_stop_before stops i j) (inserted_all P i js p h.1)
    where
      by : (b : Bool) → All P (inserted stops i js) → All P (cond b (i ∷ j ∷ js) (j ∷ inserted stops i js))
      by true t = (p, h)
      by false t = (h.0, t)

  inserted_sorted : (i : ℕ) (xs : List ℕ) → Sorted xs → All (λ (j : ℕ). j < i) xs → Sorted (inserted stops i xs)
  unfolding inserted
  inserted_sorted i [] s h = (tt, tt)
  inserted_sorted i (j ∷ js) s h = by (is_stop_before stops i j) refl (inserted_sorted i js s.1 h.1)
    where
      by : (b : Bool) → is_stop_before stops i j ≡ b → Sorted (inserted stops i js) → Sorted (cond b (i ∷ j ∷ js) (j ∷ inserted stops i js))
      by true t r = ((t, all_map (before j) (before i) (λ k u. before_through stops i j k t u) js s.0), s)
      by false t r = (inserted_all (before j) i js (before_either stops i j (λ e. let l : j < i = h.0 in omega arith) t) s.0, r)

  pub sorted_below : (n : ℕ) → All (λ (j : ℕ). j < n) (sorted_stops stops n)
  unfolding sorted_stops
  sorted_below zero = tt
  sorted_below (suc n) =
      inserted_all (λ (j : ℕ). j < suc n) n (sorted_stops stops n) (omega arith)
      (all_map (λ (j : ℕ). j < n) (λ (j : ℕ). j < suc n) (λ j l. omega arith) (sorted_stops stops n) (sorted_below n))

  pub sorted_sorted : (n : ℕ) → Sorted (sorted_stops stops n)
  unfolding sorted_stops
  sorted_sorted zero = tt
  sorted_sorted (suc n) = inserted_sorted n (sorted_stops stops n) (sorted_sorted n) (sorted_below n)

  -- ---- insertion from the back

  -- stop i into a table, from place k down: what is after it moves up by one place
  unfoldable pub from_back : List ℕ → ℕ → ℕ → List ℕ
  from_back order i zero = set order 0 i
  from_back order i (suc k) = cond (is_stop_before stops i (get_or order k 0)) (from_back (set order (suc k) (get_or order k 0)) i k) (set order (suc k) i)

  -- the code's turns
  pub moved : (order : List ℕ) (i k : ℕ) → 0 < k → before i (get_or order (k - 1) 0)
      → from_back order i k ≡ from_back (set order k (get_or order (k - 1) 0)) i (k - 1)
  unfolding from_back
  moved order i zero h t = absurd (omega arith)
  moved order i (suc k) h t = let e : suc k - 1 ≡ k = omega arith in let u = rw e at t in rw (e, u)

  pub placed : (order : List ℕ) (i k : ℕ) → 0 < k → is_stop_before stops i (get_or order (k - 1) 0) ≡ false
      → from_back order i k ≡ set order k i
  unfolding from_back
  placed order i zero h t = absurd (omega arith)
  placed order i (suc k) h t = let e : suc k - 1 ≡ k = omega arith in let u = rw e at t in rw u

  -- before the last one: before the list's end
  inserted_before : (i : ℕ) (xs : List ℕ) (j : ℕ) → before i j → inserted stops i (xs ++ (j ∷ [])) ≡ inserted stops i xs ++ (j ∷ [])
  unfolding inserted
  inserted_before i [] j t = rw t
  inserted_before i (x ∷ xs) j t = by (is_stop_before stops i x) (inserted_before i xs j t)
    where
      by : (b : Bool) → inserted stops i (xs ++ (j ∷ [])) ≡ inserted stops i xs ++ (j ∷ [])
          → cond b (i ∷ x ∷ (xs ++ (j ∷ []))) (x ∷ inserted stops i (xs ++ (j ∷ []))) ≡ cond b (i ∷ x ∷ xs) (x ∷ inserted stops i xs) ++ (j ∷ [])
      by true e = refl
      by false e = rw e

  -- before none: at the end
  inserted_last : (i : ℕ) (xs : List ℕ) → All (λ (x : ℕ). is_stop_before stops i x ≡ false) xs → inserted stops i xs ≡ xs ++ (i ∷ [])
  unfolding inserted
  inserted_last i [] h = refl
  inserted_last i (x ∷ xs) h = rw (h.0, inserted_last i xs h.1)

  sorted_front : (xs : List ℕ) (j : ℕ) → Sorted (xs ++ (j ∷ [])) → Sorted xs
  sorted_front [] j s = tt
  sorted_front (x ∷ xs) j s = (all_front (before x) xs j s.0, sorted_front xs j s.1)

  -- what is not before the last is before none
  before_none : (i : ℕ) (xs : List ℕ) (j : ℕ) → is_stop_before stops i j ≡ false → Sorted (xs ++ (j ∷ [])) → All (λ (x : ℕ). is_stop_before stops i x ≡ false) (xs ++ (j ∷ []))
  before_none i [] j t s = (t, tt)
  before_none i (x ∷ xs) j t s = (by (is_stop_before stops i x) refl, before_none i xs j t s.1)
    where
      by : (b : Bool) → is_stop_before stops i x ≡ b → b ≡ false
      by true u = yes (sym (before_through stops i x j u (all_last (before x) xs j s.0)) ∙ t)
      by false u = refl

  back_turn : (i : ℕ) (xs : List ℕ) (j x : ℕ) (ys : List ℕ)
      → from_back (xs ++ (j ∷ []) ++ (x ∷ ys)) i (length (xs ++ (j ∷ [])))
      ≡ cond (is_stop_before stops i j) (from_back (xs ++ (j ∷ j ∷ ys)) i (length xs)) (xs ++ (j ∷ []) ++ (i ∷ ys))
  unfolding from_back
  back_turn i xs j x ys =
      let e : length (xs ++ (j ∷ [])) ≡ suc (length xs) = omega (arith, length-append xs (j ∷ [])) in
      let s : (y : ℕ) → set (xs ++ (j ∷ []) ++ (x ∷ ys)) (suc (length xs)) y ≡ xs ++ (j ∷ []) ++ (y ∷ ys) = λ y. rw e at (set-append_seam (xs ++ (j ∷ [])) x ys y) in
      let g : get_or (xs ++ (j ∷ []) ++ (x ∷ ys)) (length xs) 0 ≡ j = rw (append_snoc xs j (x ∷ ys)) (get_or-append_seam xs j (x ∷ ys) 0) in
      rw (e, g, s j, s i, append_snoc xs j (j ∷ ys))

  -- a sorted list, then a place x that is free, then the rest
  from_back_lem : (i : ℕ) {xs : List ℕ} → Snoc xs → (x : ℕ) (ys : List ℕ) → Sorted xs → from_back (xs ++ (x ∷ ys)) i (length xs) ≡ inserted stops i xs ++ ys
  from_back_lem i empty x ys s = unfold from_back inserted in refl
  from_back_lem i (snoc {xs} v j) x ys s = back_turn i xs j x ys ∙ by (is_stop_before stops i j) refl (from_back_lem i v j (j ∷ ys) (sorted_front xs j s))
    where
      by : (b : Bool) → is_stop_before stops i j ≡ b → from_back (xs ++ (j ∷ j ∷ ys)) i (length xs) ≡ inserted stops i xs ++ (j ∷ ys)
          → cond b (from_back (xs ++ (j ∷ j ∷ ys)) i (length xs)) (xs ++ (j ∷ []) ++ (i ∷ ys)) ≡ inserted stops i (xs ++ (j ∷ [])) ++ ys
      by true t h = h ∙ rw (inserted_before i xs j t, append_snoc (inserted stops i xs) j ys)
      by false t h = rw (inserted_last i (xs ++ (j ∷ [])) (before_none i xs j t s), append_snoc (xs ++ (j ∷ [])) i ys)

  inserted_length : (i : ℕ) (xs : List ℕ) → length (inserted stops i xs) ≡ suc (length xs)
  unfolding inserted
  inserted_length i [] = refl
  inserted_length i (j ∷ js) = by (is_stop_before stops i j) (inserted_length i js)
    where
      by : (b : Bool) → length (inserted stops i js) ≡ suc (length js) → length (cond b (i ∷ j ∷ js) (j ∷ inserted stops i js)) ≡ suc (suc (length js))
      by true e = refl
      by false e = ap suc e

  pub sorted_length : (n : ℕ) → length (sorted_stops stops n) ≡ n
  unfolding sorted_stops
  sorted_length zero = refl
  sorted_length (suc n) = inserted_length n (sorted_stops stops n) ∙ ap suc (sorted_length n)

  -- what the code's insertion makes of the sorted table
  pub table_grows : (i : ℕ) → i < 64 → from_back (sorted_table stops i) i i ≡ sorted_table stops (i + 1)
  unfolding sorted_stops
  table_grows i h =
      let e : 64 - i ≡ suc (64 - suc i) = omega arith in
      rw (add-one, e) (rw (sorted_length i) at (from_back_lem i (view (sorted_stops stops i)) 0 (replicate (64 - suc i) 0) (sorted_sorted i)))

  -- ---- the claims

  at_sorted : (xs : List ℕ) → Sorted xs → (a b : ℕ) → a < b → b < length xs → before (get_or xs a 0) (get_or xs b 0)
  at_sorted [] s a b l m = absurd (omega arith)
  at_sorted (x ∷ xs) s zero zero l m = absurd (omega arith)
  at_sorted (x ∷ xs) s zero (suc b) l m = all_at (before x) xs s.0 b (omega arith)
  at_sorted (x ∷ xs) s (suc a) zero l m = absurd (omega arith)
  at_sorted (x ∷ xs) s (suc a) (suc b) l m = at_sorted xs s.1 a b (omega arith) (omega arith)

  times_inserted : (k i : ℕ) (xs : List ℕ) → times k (inserted stops i xs) ≡ cond (eqb i k) (suc (times k xs)) (times k xs)
  unfolding inserted times
  times_inserted k i [] = refl
  times_inserted k i (j ∷ js) = by (is_stop_before stops i j) (times_inserted k i js)
    where
      swap : (p q : Bool) (t : ℕ) → cond p (suc (cond q (suc t) t)) (cond q (suc t) t) ≡ cond q (suc (cond p (suc t) t)) (cond p (suc t) t)
      swap true true t = refl
      swap true false t = refl
      swap false true t = refl
      swap false false t = refl

      by : (b : Bool) → times k (inserted stops i js) ≡ cond (eqb i k) (suc (times k js)) (times k js)
          → times k (cond b (i ∷ j ∷ js) (j ∷ inserted stops i js)) ≡ cond (eqb i k) (suc (times k (j ∷ js))) (times k (j ∷ js))
      by true e = refl
      by false e = rw e (swap (eqb j k) (eqb i k) (times k js))

  times_none : (n k : ℕ) → n ≤ k → times k (sorted_stops stops n) ≡ 0
  unfolding sorted_stops times
  times_none zero k l = refl
  times_none (suc n) k l = times_inserted k n (sorted_stops stops n) ∙ rw (ne_eqb n k (omega arith), times_none n k (omega arith))

  times_once : (n k : ℕ) → k < n → times k (sorted_stops stops n) ≡ 1
  unfolding sorted_stops
  times_once zero k l = absurd (omega arith)
  times_once (suc n) k l = times_inserted k n (sorted_stops stops n) ∙ by (eqb n k) refl (λ m. times_once n k m)
    where
      by : (b : Bool) → eqb n k ≡ b → (k < n → times k (sorted_stops stops n) ≡ 1) → cond b (suc (times k (sorted_stops stops n))) (times k (sorted_stops stops n)) ≡ 1
      by true e f = ap suc (times_none n k (omega (arith, eqb-true n k e)))
      by false e f = f (omega (arith, eqb-false n k e))

pub stops_sorted : StopsSorted
unfolding StopsSorted
stops_sorted stops = (
  stops_order stops,
  λ n.
      record {
        sorted = at_sorted stops (sorted_stops stops n) (sorted_sorted stops n);
        size = sorted_length stops n;
        once = times_once stops n;
        none = times_none stops n;
      },
)

-- one turn of an insertion
pub ruleset insert_turn = (moved, placed, table_grows)
