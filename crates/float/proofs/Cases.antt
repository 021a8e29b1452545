-- Comparisons with 0 and small laws at each case of a Float. Assumes nothing.
use mathlib.Core.Path.{◌≡◌, refl}
use mathlib.Core.Bool.{◌&&◌, Bool, true, false, not, cond}
use Prim.Native.Nat.{ℕ, zero, suc, ◌+◌, ◌*◌, ◌<◌, ◌^◌}
use native.Mathlib.Nat.{zero-mul, mul-one, one-mul, mul-pos, pow-suc}
use native.Mathlib.Omega.{arith}
use lib.Pow.{pow_pos}
use lib.IntN.{ℤ, pos, negsuc}
use lib.Ieee.{Float, nan, inf, fin, binary64, up, down, lt, le, eq, neg, is_nan, fits, of_bits}
use lib.Ieee.Fits.{up_pos}
use borrow.Author.Tests.{ltb-true, ltb-false, lt-ltb, eqb-true}
use Rattle.std.specs.Float.{NotNan, is_sign_negative}
use Rattle.laws.proofs.Bools.{no, and_left}
use Rattle.float.specs.Float as F64

-- a product with a power of two is 0 only where the other factor is
pub nil : (m : ℕ) (e : ℤ) → m * up e * 1 ≡ 0 → m ≡ 0
nil zero e h = refl
nil (suc m) e h = let p : 0 < suc m * up e = mul-pos (omega arith) (up_pos e) in omega (arith, mul-one (suc m * up e))

pub lt_zero_pos : {A : Type 0} (m : ℕ) (e : ℤ) → lt (fin false m e) F64.zero ≡ true → A
unfolding lt of_bits
lt_zero_pos m e h = absurd (omega (arith, ltb-true (m * up e * 1) (0 * down e) h, zero-mul (down e)))

pub lt_zero_neg : (m : ℕ) (e : ℤ) → lt (fin true m e) F64.zero ≡ false → m ≡ 0
unfolding lt of_bits
lt_zero_neg m e h = nil m e (omega (arith, ltb-false 0 (m * up e * 1 + 0 * down e) h, zero-mul (down e)))

pub null_le_zero : (s : Bool) (e : ℤ) → le (fin s 0 e) F64.zero ≡ true
unfolding le of_bits
null_le_zero true e = rw (zero-mul (up e), zero-mul (down e))
null_le_zero false e = rw (zero-mul (up e), zero-mul (down e))

pub minus_le_zero : (m : ℕ) (e : ℤ) → le (fin true m e) F64.zero ≡ true
unfolding le of_bits
minus_le_zero zero e = rw (zero-mul (up e), zero-mul (down e))
minus_le_zero (suc m) e =
    let h : 0 < suc m * up e = mul-pos (omega arith) (up_pos e) in rw (lt-ltb 0 (suc m * up e * 1 + 0 * down e) (omega (arith, mul-one (suc m * up e))))

-- at or above 0 with a sign: it is a zero
pub placed_minus : (m : ℕ) (e : ℤ) → le F64.zero (fin true m e) ≡ true → m ≡ 0
unfolding le lt of_bits
placed_minus m e p = nil m e (omega (arith, eqb-true (0 * down e) (m * up e * 1) (and_left _ _ p), zero-mul (down e)))

-- a zero is written in the one way
pub zero_exponent : (s : Bool) (e : ℤ) → fits binary64 (fin s 0 e) ≡ true → e ≡ pos 0
unfolding fits
zero_exponent s (pos zero) h = refl
zero_exponent s (pos (suc k)) h = absurd (omega (arith, eqb-true (2 ^ suc k * 1) 1 h, mul-one (2 ^ suc k), pow-suc 2 k, pow_pos k))
zero_exponent s (negsuc k) h = absurd (omega (arith, eqb-true (1 * 2 ^ suc k) 1 h, one-mul (2 ^ suc k), pow-suc 2 k, pow_pos k))

pub finite_between : (x : Float)
    → (lt (of_bits binary64 0xfff0_0000_0000_0000) x && lt x (of_bits binary64 0x7ff0_0000_0000_0000))
    ≡ F64.is_finite x
unfolding lt of_bits F64.is_finite
finite_between nan = refl
finite_between (inf true) = refl
finite_between (inf false) = refl
finite_between (fin s m e) = refl

-- ---- the library's methods

pub signum_is : (x : Float) → F64.signum x ≡ cond (is_nan x) x (cond (is_sign_negative x) (neg F64.one) F64.one)
unfolding is_nan is_sign_negative neg of_bits F64.signum
signum_is nan = refl
signum_is (inf true) = refl
signum_is (inf false) = refl
signum_is (fin true m e) = refl
signum_is (fin false m e) = refl

pub sign_is : (x : Float) → is_sign_negative x ≡ F64.is_sign_negative x
unfolding is_sign_negative F64.is_sign_negative
sign_is nan = refl
sign_is (inf s) = refl
sign_is (fin s m e) = refl

-- what equals a float is a number
pub equal_number : (x y : Float) → eq x y ≡ true → NotNan y
unfolding eq is_nan
equal_number nan y h = no h
equal_number (inf s) nan h = no h
equal_number (inf s) (inf r) h = tt
equal_number (inf s) (fin r n d) h = tt
equal_number (fin s m e) nan h = no h
equal_number (fin s m e) (inf r) h = tt
equal_number (fin s m e) (fin r n d) h = tt
