-- fl(x - y) ≤ x and x ≤ fl(x + y) for y at or above 0: rounding keeps the order, and keeps x. Assumes nothing.
use mathlib.Core.Path.{◌≡◌, refl, sym, subst, ◌∙◌}
use mathlib.Core.Bool.{Bool, true, false, ◌&&◌, ◌||◌, cond}
use Prim.Native.Nat.{ℕ, zero, suc, ◌+◌, ◌-◌, ◌*◌, ◌<◌, ◌≤◌}
use native.Mathlib.Nat.{mul-pos, mul_assoc, mul-le-mul_right, le_trans, le_of_eq, mul_right_comm, sub-le}
use native.Mathlib.Omega.{arith}
use lib.Dec.{T, ltb, eqb}
use lib.IntN.{ℤ}
use lib.Ieee.{Float, nan, inf, fin, binary64, up, down, round, sum, add, sub, neg, le, is_nan, of_bits}
use lib.Ieee.Fits.{down_pos}
use lib.Ieee.Order.{round_mono}
use borrow.Author.Tests.{ltb-false, eq-eqb, lt-ltb}
use Rattle.float.specs.Facts.{IsF64, EpsilonKeepsSide}
use Rattle.float.proofs.Cases.{zero_exponent}
use Rattle.laws.proofs.Bools.{yes, holds}
use Rattle.float.proofs.Rounding.{Plus, plus_round, neg_round, round_own, fits_sign, le_nat}

pub truly : {b : Bool} → T b → b ≡ true
truly {b} = go b
  where
    go : (b : Bool) → T b → b ≡ true
    go true t = refl
    go false t = absurd t

-- the order of two floats with no sign, turned round where both get one
pub flip : (x y : Float) → Plus x → Plus y → T (le x y) → le (neg y) (neg x) ≡ true
unfolding le neg
flip nan y p q t = absurd p
flip (inf s) nan p q t = absurd q
flip (inf true) (inf u) p q t = yes p
flip (inf false) (inf true) p q t = yes q
flip (inf false) (inf false) p q t = refl
flip (inf true) (fin u n d) p q t = yes p
flip (inf false) (fin u n d) p q t = absurd t
flip (fin s m e) nan p q t = absurd q
flip (fin s m e) (inf true) p q t = yes q
flip (fin s m e) (inf false) p q t = refl
flip (fin true m e) (fin u n d) p q t = yes p
flip (fin false m e) (fin true n d) p q t = yes q
flip (fin false m e) (fin false n d) p q t = turned (m * up e * down d) (n * up d * down e) (le_nat (m * up e * down d) (n * up d * down e) t)
  where
    turned : (a b : ℕ) → a ≤ b → (ltb a b || (eqb b a && true)) ≡ true
    turned a b h = go (ltb a b) refl
      where
        go : (x : Bool) → ltb a b ≡ x → (x || (eqb b a && true)) ≡ true
        go true e = refl
        go false e = let same : b ≡ a = omega (arith, ltb-false a b e) in rw (eq-eqb b a same)

-- what has a sign is at most what has none
pub astride : (a b : ℕ) → (ltb 0 (a + b) || (eqb a b && eqb a 0)) ≡ true
astride zero zero = refl
astride zero (suc b) = rw (lt-ltb 0 (0 + suc b) (omega arith))
astride (suc a) b = rw (lt-ltb 0 (suc a + b) (omega arith))

under : (x : Float) (m : ℕ) (e : ℤ) → Plus x → le (neg x) (fin false m e) ≡ true
unfolding le neg
under nan m e p = absurd p
under (inf true) m e p = yes p
under (inf false) m e p = refl
under (fin true n d) m e p = yes p
under (fin false n d) m e p = astride (n * up d * down e) (m * up e * down d)

pub over : (x : Float) (m : ℕ) (e : ℤ) → Plus x → le (fin true m e) x ≡ true
unfolding le
over nan m e p = absurd p
over (inf true) m e p = yes p
over (inf false) m e p = refl
over (fin true n d) m e p = yes p
over (fin false n d) m e p = astride (m * up e * down d) (n * up d * down e)

-- rounding keeps a float of the format, a zero too
kept : (m : ℕ) (e : ℤ) → IsF64 (fin false m e) → round binary64 false (m * up e) (down e) ≡ fin false m e
unfolding round
kept zero e t = rw (zero_exponent false e t)
kept (suc m) e t = round_own false m e (holds t)

-- x = m * 2 ^ e and y = n * 2 ^ d, over one denominator
module _ (m : ℕ) (e : ℤ) (n : ℕ) (d : ℤ) (t : IsF64 (fin false m e)) where
  abbrev a : ℕ
  a = m * up e * down d

  abbrev b : ℕ
  b = n * up d * down e

  abbrev k : ℕ
  k = down e * down d

  k_pos : 0 < k
  k_pos = mul-pos (down_pos e) (down_pos d)

  less : (v : ℕ) → v ≤ a → T (le (round binary64 false v k) (fin false m e))
  less v h =
      subst (λ (z : Float). T (le (round binary64 false v k) z)) (kept m e t)
      (round_mono binary64 v k (m * up e) (down e) k_pos (down_pos e) (le_trans (mul-le-mul_right (down e) h) (le_of_eq (mul_right_comm (m * up e) (down d) (down e) ∙ mul_assoc (m * up e) (down e) (down d)))))

  more : (v : ℕ) → a ≤ v → T (le (fin false m e) (round binary64 false v k))
  more v h =
      subst (λ (z : Float). T (le z (round binary64 false v k))) (kept m e t)
      (round_mono binary64 (m * up e) (down e) v k (down_pos e) k_pos (le_trans (le_of_eq (sym (mul_right_comm (m * up e) (down d) (down e) ∙ mul_assoc (m * up e) (down e) (down d)))) (mul-le-mul_right (down e) h)))

  less_minus : (v : ℕ) → v ≤ a → le (fin true m e) (round binary64 true v k) ≡ true
  unfolding neg
  less_minus v h = rw (← neg_round v k) (flip (round binary64 false v k) (fin false m e) (plus_round v k) refl (less v h))

  more_minus : (v : ℕ) → a ≤ v → le (round binary64 true v k) (fin true m e) ≡ true
  unfolding neg
  more_minus v h = rw (← neg_round v k) (flip (fin false m e) (round binary64 false v k) refl (plus_round v k) (more v h))

  -- fl(x - y) ≤ x where x has no sign
  down_plus : le (sub binary64 (fin false m e) (fin false n d)) (fin false m e) ≡ true
  unfolding sub add neg sum
  down_plus = go (ltb a b)
    where
      go : (s : Bool) → le (cond s (round binary64 true (b - a) k) (round binary64 false (a - b) k)) (fin false m e) ≡ true
      go true = rw (← neg_round (b - a) k) (under (round binary64 false (b - a) k) m e (plus_round (b - a) k))
      go false = truly (less (a - b) (sub-le a b))

  -- x ≤ fl(x + y) where x has a sign
  up_minus : le (fin true m e) (add binary64 (fin true m e) (fin false n d)) ≡ true
  unfolding add sum
  up_minus = go (ltb a b) (ltb b a)
    where
      go : (s r : Bool) → le (fin true m e) (cond s (round binary64 false (b - a) k) (round binary64 r (a - b) k)) ≡ true
      go true r = over (round binary64 false (b - a) k) m e (plus_round (b - a) k)
      go false true = less_minus (a - b) (sub-le a b)
      go false false = over (round binary64 false (a - b) k) m e (plus_round (a - b) k)

  down_minus : le (sub binary64 (fin true m e) (fin false n d)) (fin true m e) ≡ true
  unfolding sub add neg sum
  down_minus = more_minus (a + b) (omega arith)

  up_plus : le (fin false m e) (add binary64 (fin false m e) (fin false n d)) ≡ true
  unfolding add sum
  up_plus = truly (more (a + b) (omega arith))

-- for any y = n * 2 ^ d
keeps_side : (n : ℕ) (d : ℤ) (x : Float) → IsF64 x → is_nan x ≡ false
    → (le (sub binary64 x (fin false n d)) x ≡ true) × (le x (add binary64 x (fin false n d)) ≡ true)
unfolding sub add neg le is_nan
keeps_side n d nan t h = yes h
keeps_side n d (inf true) t h = (refl, refl)
keeps_side n d (inf false) t h = (refl, refl)
keeps_side n d (fin false m e) t h = (down_plus m e n d t, up_plus m e n d t)
keeps_side n d (fin true m e) t h = let u : IsF64 (fin false m e) = fits_sign false true m e ∙ t in (down_minus m e n d u, up_minus m e n d u)

pub epsilon_keeps_side : EpsilonKeepsSide
unfolding EpsilonKeepsSide of_bits
epsilon_keeps_side x t h = keeps_side _ _ x t h
