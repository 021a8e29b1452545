-- A position that lies in the circle is its own remainder, so wrap_position gives it back. Assumes nothing.
use mathlib.Core.Path.{◌≡◌, refl, ◌∙◌}
use mathlib.Core.Bool.{Bool, true, false, ◌||◌, cond}
use Prim.Native.Nat.{ℕ, zero, suc, ◌*◌, ◌<◌, zero-le}
use native.Mathlib.Nat.{zero-mul, mul-pos, mul_assoc, mul_right_comm, mod-eq_of_lt, le_of_lt}
use native.Mathlib.Omega.{arith}
use lib.Dec.{eqb-suc-zero}
use lib.IntN.{ℤ}
use lib.Ieee.{Float, nan, inf, fin, binary64, up, down, rem, lt, le, of_bits}
use lib.Ieee.Fits.{up_pos, down_pos}
use lib.Ieee.Scale.{round_same}
use borrow.Author.Tests.{ltb-true, le-ltb, ne_eqb}
use Rattle.float.specs.Float as F64
use Rattle.float.specs.Facts.{IsF64}
use Rattle.float.proofs.Cases.{null_le_zero, minus_le_zero, placed_minus}
use Rattle.laws.proofs.Bools.{no}
use Rattle.float.proofs.Rounding.{round_self}
use Rattle.motion.specs.Cyclic.{InCircle, is_degenerate, wrap_position}

rem_inside : (s : Bool) (m : ℕ) (e : ℤ) (n : ℕ) (d : ℤ) → IsF64 (fin s m e) → m * up e * down d < suc n * up d * down e → rem binary64 (fin s m e) (fin false (suc n) d) ≡ fin s m e
unfolding rem
rem_inside s m e n d t h =
    rw (eqb-suc-zero n, mod-eq_of_lt h)
    (round_same binary64 s (m * up e * down d) (down e * down d) (m * up e) (down e) (mul-pos (down_pos e) (down_pos d)) (down_pos e)
    (mul_right_comm (m * up e) (down d) (down e) ∙ mul_assoc (m * up e) (down e) (down d))
    ∙ round_self s m e t)

-- ---- the three comparisons

less : (s : Bool) (m : ℕ) (e : ℤ) (n : ℕ) (d : ℤ) → InCircle (fin s m e) (fin false (suc n) d) → m * up e * down d < suc n * up d * down e
unfolding lt
less false m e n d i = ltb-true (m * up e * down d) (suc n * up d * down e) i.1
less true m e n d i = rw (placed_minus m e i.0, zero-mul (up e), zero-mul (down d)) (mul-pos (mul-pos (omega arith) (up_pos d)) (down_pos e))

not_below : (s : Bool) (m : ℕ) (e : ℤ) → le F64.zero (fin s m e) ≡ true → lt (fin s m e) F64.zero ≡ false
unfolding lt of_bits
not_below false m e p = le-ltb (m * up e * 1) (0 * down e) (rw (zero-mul (down e)) zero-le)
not_below true m e p = rw (placed_minus m e p, zero-mul (up e), zero-mul (down e))

not_past : (s : Bool) (m : ℕ) (e : ℤ) (n : ℕ) (d : ℤ) → m * up e * down d < suc n * up d * down e → le (fin false (suc n) d) (fin s m e) ≡ false
unfolding le
not_past false m e n d h =
    rw (le-ltb (suc n * up d * down e) (m * up e * down d) (le_of_lt h), ne_eqb (suc n * up d * down e) (m * up e * down d) (λ q. omega (arith, h, q)))
not_past true m e n d h = rw (ne_eqb (suc n * up d * down e) (m * up e * down d) (λ q. omega (arith, h, q)))

-- ---- so the position is given back

cond_same : (b : Bool) (x : Float) → x ≡ cond b x x
cond_same true x = refl
cond_same false x = refl

pub wrap_inside : (p c : Float) → IsF64 p → InCircle p c → p ≡ wrap_position p c
unfolding wrap_position F64.is_finite F64.rem_euclid le lt of_bits
wrap_inside p nan t i = refl
wrap_inside p (inf u) t i = refl
wrap_inside p (fin true n d) t i = rw (minus_le_zero n d)
wrap_inside p (fin false zero d) t i = rw (null_le_zero false d)
wrap_inside nan (fin false (suc n) d) t i = no i.0
wrap_inside (inf true) (fin false (suc n) d) t i = no i.0
wrap_inside (inf false) (fin false (suc n) d) t i = no i.1
wrap_inside (fin s m e) (fin false (suc n) d) t i =
    let h = less s m e n d i in
    rw (rem_inside s m e n d t h, not_below s m e i.0, not_past s m e n d h) (cond_same (is_degenerate (fin false (suc n) d) || false) (fin s m e))
