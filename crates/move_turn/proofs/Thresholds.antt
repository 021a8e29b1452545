-- Stops in the order of the sort stay on their side of a threshold: where a later one is at most, or below it, so is
-- an earlier one. Assumes nothing.
use mathlib.Core.Path.{◌≡◌, refl, sym, ◌∙◌}
use mathlib.Core.Bool.{Bool, true, false, not, ◌&&◌, ◌||◌, or-false}
use mathlib.Core.List.{List}
use Prim.Native.Nat.{ℕ, ◌+◌, ◌*◌, ◌≤◌}
use native.Mathlib.Omega.{arith}
use lib.Dec.{ltb, eqb}
use lib.Ieee.{Float, nan, inf, fin, up, down, below, level, lt, eq, le, is_nan}
use borrow.Author.Tests.{ltb-true, ltb-false, le-ltb, eq-eqb, eqb-true}
use Rattle.laws.proofs.Bools.{no, yes, and_left, and_right}
use Rattle.world.specs.World.{stop_position}
use Rattle.stops_sort.specs.Sorted.{is_position_before, is_stop_before}
use Rattle.stops_sort.proofs.Order.{not_through, not_later}

-- ---- "at most" is "not above", of ±a and ±b

at_most : (a b : ℕ) (c : Bool) → c ≡ true → a ≤ b → (ltb a b || (eqb a b && c)) ≡ true
at_most a b c e h = by (ltb a b) refl
  where
    by : (t : Bool) → ltb a b ≡ t → (t || (eqb a b && c)) ≡ true
    by true q = refl
    by false q = rw (eq-eqb a b (omega (arith, ltb-false a b q)), e)

not_above : (a b : ℕ) (c : Bool) → (ltb a b || (eqb a b && c)) ≡ true → a ≤ b
not_above a b c = by (ltb a b) refl
  where
    by : (t : Bool) → ltb a b ≡ t → (t || (eqb a b && c)) ≡ true → a ≤ b
    by true q h = omega (arith, ltb-true a b q)
    by false q h = omega (arith, eqb-true a b (and_left (eqb a b) c h))

at_most_of : (s t : Bool) (a b : ℕ) → below t b s a ≡ false → (below s a t b || level s a t b) ≡ true
at_most_of false false a b h = at_most a b true refl (ltb-false b a h)
at_most_of false true a b h = let z = ltb-false 0 (b + a) h in rw (eq-eqb a b (omega arith), eq-eqb a 0 (omega arith))
at_most_of true false a b h = by (ltb 0 (a + b)) refl
  where
    by : (q : Bool) → ltb 0 (a + b) ≡ q → (q || (eqb a b && (false || eqb a 0))) ≡ true
    by true e = refl
    by false e = let z = ltb-false 0 (a + b) e in rw (eq-eqb a b (omega arith), eq-eqb a 0 (omega arith))
at_most_of true true a b h = by (ltb b a) refl
  where
    by : (q : Bool) → ltb b a ≡ q → (q || (eqb a b && true)) ≡ true
    by true e = refl
    by false e = rw (eq-eqb a b (omega (arith, ltb-false b a e, ltb-false a b h)))

of_at_most : (s t : Bool) (a b : ℕ) → (below s a t b || level s a t b) ≡ true → below t b s a ≡ false
of_at_most false false a b h = le-ltb b a (not_above a b true h)
of_at_most false true a b h =
    let x = eqb-true a b (and_left (eqb a b) (eqb a 0) h) in
    let y = eqb-true a 0 (and_right (eqb a b) (eqb a 0) h) in
    le-ltb 0 (b + a) (omega arith)
of_at_most true false a b h = refl
of_at_most true true a b h = by (ltb b a) refl h
  where
    by : (q : Bool) → ltb b a ≡ q → (q || (eqb a b && true)) ≡ true → ltb a b ≡ false
    by true e h = le-ltb a b (omega (arith, ltb-true b a e))
    by false e h = le-ltb a b (omega (arith, eqb-true a b (and_left (eqb a b) true h)))

-- a number at most a threshold is not after it
not_after : (q t : Float) → le q t ≡ true → is_position_before t q ≡ false
unfolding is_position_before le lt eq is_nan
not_after nan t h = no h
not_after (inf s) nan h = no h
not_after (inf true) (inf true) h = refl
not_after (inf true) (inf false) h = refl
not_after (inf false) (inf true) h = no h
not_after (inf false) (inf false) h = refl
not_after (inf true) (fin t n d) h = refl
not_after (inf false) (fin t n d) h = no h
not_after (fin s m e) nan h = no h
not_after (fin s m e) (inf true) h = no h
not_after (fin s m e) (inf false) h = refl
not_after (fin s m e) (fin t n d) h = or-false _ ∙ of_at_most s t (m * up e * down d) (n * up d * down e) h

-- and what is not after a number is at most it
le_of_not_after : (p t : Float) → is_nan t ≡ false → is_position_before t p ≡ false → le p t ≡ true
unfolding is_position_before le lt eq is_nan
le_of_not_after p nan n h = yes n
le_of_not_after nan (inf t) n h = yes h
le_of_not_after nan (fin t k d) n h = yes h
le_of_not_after (inf true) (inf true) n h = refl
le_of_not_after (inf true) (inf false) n h = refl
le_of_not_after (inf false) (inf true) n h = yes h
le_of_not_after (inf false) (inf false) n h = refl
le_of_not_after (inf true) (fin t k d) n h = refl
le_of_not_after (inf false) (fin t k d) n h = yes h
le_of_not_after (fin s m e) (inf true) n h = yes h
le_of_not_after (fin s m e) (inf false) n h = refl
le_of_not_after (fin s m e) (fin t k d) n h = at_most_of s t (m * up e * down d) (k * up d * down e) (sym (or-false _) ∙ h)

le_number : (q t : Float) → le q t ≡ true → is_nan t ≡ false
unfolding le lt eq is_nan
le_number nan t h = no h
le_number (inf s) nan h = no h
le_number (inf s) (inf t) h = refl
le_number (inf s) (fin t n d) h = refl
le_number (fin s m e) nan h = no h
le_number (fin s m e) (inf t) h = refl
le_number (fin s m e) (fin t n d) h = refl

lt_number : (q t : Float) → lt q t ≡ true → is_nan t ≡ false
unfolding lt is_nan
lt_number nan t h = no h
lt_number (inf s) nan h = no h
lt_number (inf s) (inf t) h = refl
lt_number (inf s) (fin t n d) h = refl
lt_number (fin s m e) nan h = no h
lt_number (fin s m e) (inf t) h = refl
lt_number (fin s m e) (fin t n d) h = refl

-- before a number is below it
before_number : (p t : Float) → is_nan t ≡ false → is_position_before p t ≡ lt p t
unfolding is_position_before
before_number p t n = rw n (by (lt p t) (not (is_nan p)))
  where
    by : (a b : Bool) → (a || (b && false)) ≡ a
    by true b = refl
    by false true = refl
    by false false = refl

-- ---- the two laws

-- p is not after q
pub le_through : (p q t : Float) → is_position_before q p ≡ false → le q t ≡ true → le p t ≡ true
le_through p q t h g = le_of_not_after p t (le_number q t g) (not_through p q t h (not_after q t g))

pub lt_through : (p q t : Float) → is_position_before q p ≡ false → lt q t ≡ true → lt p t ≡ true
lt_through p q t h g = by (lt p t) refl
  where
    n : is_nan t ≡ false
    n = lt_number q t g

    by : (b : Bool) → lt p t ≡ b → b ≡ true
    by true e = refl
    by false e = yes (sym g ∙ sym (before_number q t n) ∙ not_through t p q (before_number p t n ∙ e) h)

module _ (stops : List Float) (i j : ℕ) (h : is_stop_before stops i j ≡ true) (t : Float) where
  pub sorted_le : le (stop_position stops j) t ≡ true → le (stop_position stops i) t ≡ true
  sorted_le = le_through (stop_position stops i) (stop_position stops j) t (not_later stops i j h)

  pub sorted_lt : lt (stop_position stops j) t ≡ true → lt (stop_position stops i) t ≡ true
  sorted_lt = lt_through (stop_position stops i) (stop_position stops j) t (not_later stops i j h)
