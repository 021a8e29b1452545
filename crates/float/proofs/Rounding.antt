-- Rounding keeps a value of the format, and keeps the order. The sign bit. Assumes nothing.
use mathlib.Core.Path.{◌≡◌, refl, sym, ap, subst, ◌∙◌}
use mathlib.Core.Bool.{Bool, true, false, not, ◌&&◌, ◌||◌, cond}
use Prim.Native.Nat.{ℕ, zero, suc, ◌+◌, ◌-◌, ◌*◌, ◌/◌, ◌%◌, ◌<◌, ◌≤◌, ◌^◌}
use native.Mathlib.Nat.{zero-mul, mul-one, one-mul, mul-pos, mul_assoc, mul_right_comm, lt_of_lt_of_le, le_of_eq, zero-add, sub-zero}
use native.Mathlib.Omega.{arith}
use lib.Dec.{T, leb, ltb, eqb, ltb→lt, leb→le, eqb→eq}
use lib.Pow.{pow_pos, pow-add, pow_mono, pow-lt, shl_lt}
use lib.IntN.{ℤ, pos, negsuc}
use lib.Ieee.{Float, nan, inf, fin, binary64, up, down, size, odd, units, round, sum, add, sub, neg, lt, le, fits, hid, top, of_bits, to_bits}
use lib.Ieee.Bits.{of_bits-to_bits}
use lib.Ieee.Digits.{back}
use lib.Ieee.Exact.{HasValue, round_exact}
use lib.Ieee.Fits.{up_pos, down_pos, round_is, round-fits}
use lib.Ieee.Nearest.{div_same}
use lib.Ieee.Order.{transfer}
use borrow.Author.Tests.{leb-true, leb-false, lt-ltb, ltb-false, eq-eqb}
use Rattle.float.specs.Float as F64
use Rattle.float.proofs.Cases.{zero_exponent}
use Rattle.laws.proofs.Bools.{no, yes, holds}

-- ---- what the format holds

pub ordered : (k l : ℕ) → 2 ^ k ≤ 2 ^ l → k ≤ l
ordered k l h = go (leb k l) refl
  where
    go : (b : Bool) → leb k l ≡ b → k ≤ l
    go true e = leb-true k l e
    go false e = absurd (omega (arith, pow-lt (leb-false k l e)))

parts : (a b c d : Bool) → T (a && b && c && d) → T b × T c × T d
parts true true true true t = (tt, tt, tt)
parts true true true false t = absurd t
parts true true false d t = absurd t
parts true false c d t = absurd t
parts false b c d t = absurd t

-- what `fits` says of a finite float that is not 0
pub fitting : (s : Bool) (n : ℕ) (d : ℤ) → T (fits binary64 (fin s (suc n) d))
    → T (ltb (suc n) (2 ^ 53)) × T (leb (down d) (2 ^ 1074)) × T (ltb (suc n * up d) (2 ^ 1024 * down d))
unfolding fits
fitting s n d t = parts (eqb (suc n % 2) 1) (ltb (suc n) (2 ^ 53)) (leb (down d) (2 ^ 1074)) (ltb (suc n * up d) (2 ^ 1024 * down d)) t

-- the sign does not matter to it
pub fits_sign : (s t : Bool) (m : ℕ) (e : ℤ) → fits binary64 (fin s m e) ≡ fits binary64 (fin t m e)
unfolding fits
fits_sign s t zero e = refl
fits_sign s t (suc m) e = refl

-- a float of the format keeps its value when it is rounded
pub own : (s : Bool) (n : ℕ) (d : ℤ) → T (fits binary64 (fin s (suc n) d))
    → HasValue (round binary64 s (suc n * up d) (down d)) s (suc n * up d) (down d)
own s n (pos k) t =
    let small : suc n < 2 ^ 53 = ltb→lt (suc n) (2 ^ 53) (fitting s n (pos k) t).0 in
    let under : suc n * 2 ^ k < 2 ^ 1024 = lt_of_lt_of_le (ltb→lt (suc n * 2 ^ k) (2 ^ 1024 * 1) (fitting s n (pos k) t).2) (le_of_eq (mul-one (2 ^ 1024))) in
    let whole : suc n * 2 ^ (k + 1074) ≡ suc n * 2 ^ k * 2 ^ 1074 = ap (λ (x : ℕ). suc n * x) (pow-add 2 k 1074) ∙ sym (mul_assoc (suc n) (2 ^ k) (2 ^ 1074)) in
    round_exact binary64 s (suc n * 2 ^ k) 1 (suc n) (k + 1074) (pow_pos 0) small (rw whole (shl_lt 1024 1074 under)) (sym whole ∙ sym (mul-one (suc n * 2 ^ (k + 1074))))
own s n (negsuc k) t =
    let small : suc n < 2 ^ 53 = ltb→lt (suc n) (2 ^ 53) (fitting s n (negsuc k) t).0 in
    let fine : 2 ^ suc k ≤ 2 ^ 1074 = leb→le (2 ^ suc k) (2 ^ 1074) (fitting s n (negsuc k) t).1 in
    let least : suc k ≤ 1074 = ordered (suc k) 1074 fine in
    let j = 1074 - suc k in
    let whole : 2 ^ j * 2 ^ suc k ≡ 2 ^ 1074 = sym (pow-add 2 j (suc k)) ∙ ap (λ (x : ℕ). 2 ^ x) (back 1074 (suc k) least) in
    let within : 53 + j ≤ 2098 = omega arith in
    let short : 2 ^ (53 + j) ≤ 2 ^ 2098 = pow_mono {i = 53 + j} {j = 2098} within in
    round_exact binary64 s (suc n * 1) (2 ^ suc k) (suc n) j (pow_pos (suc k)) small (lt_of_lt_of_le (shl_lt 53 j small) short)
    (rw (mul-one (suc n), mul_assoc (suc n) (2 ^ j) (2 ^ suc k), whole))

-- the size in units of the smallest value, which a bit pattern is made of
grains : ℕ → ℤ → ℕ
grains m e = m * up e * 2 ^ 1074 / down e

patterned : Bool → ℕ → ℕ
patterned s n = let k = size n - 53 in cond s (top binary64) 0 + k * hid binary64 + n / 2 ^ k

bits_of : (s : Bool) (m : ℕ) (e : ℤ) → to_bits binary64 (fin s m e) ≡ patterned s (grains m e)
unfolding to_bits patterned grains
bits_of s m e = refl

-- two floats of the format with one sign and one size are one
pub unique : (s : Bool) (m : ℕ) (e : ℤ) (n : ℕ) (d : ℤ) → T (fits binary64 (fin s m e)) → T (fits binary64 (fin s n d))
    → m * up e * down d ≡ n * up d * down e → fin s m e ≡ fin s n d
unfolding grains
unique s m e n d t u h =
    sym (of_bits-to_bits binary64 (fin s m e) t) ∙ ap (of_bits binary64) (bits_of s m e ∙ ap (patterned s) same ∙ sym (bits_of s n d)) ∙ of_bits-to_bits binary64 (fin s n d) u
  where
    same : grains m e ≡ grains n d
    same =
        div_same (m * up e * 2 ^ 1074) (down e) (n * up d * 2 ^ 1074) (down d) (down_pos e) (down_pos d)
        (mul_right_comm (m * up e) (2 ^ 1074) (down d) ∙ ap (λ (x : ℕ). x * 2 ^ 1074) h ∙ mul_right_comm (n * up d) (down e) (2 ^ 1074))

-- so rounding gives a float of the format back
pub round_own : (s : Bool) (m : ℕ) (e : ℤ) → T (fits binary64 (fin s (suc m) e))
    → round binary64 s (suc m * up e) (down e) ≡ fin s (suc m) e
round_own s m e t = go (round binary64 s (suc m * up e) (down e)) (round-fits binary64 s (suc m * up e) (down e)) (own s m e t)
  where
    go : (x : Float) → T (fits binary64 x) → HasValue x s (suc m * up e) (down e) → x ≡ fin s (suc m) e
    go nan u v = absurd v
    go (inf r) u v = absurd v
    go (fin r n d) u v =
        let sign : fin r n d ≡ fin s n d = ap (λ (b : Bool). fin b n d) v.0 in
        sign ∙ unique s n d (suc m) e (subst (λ (x : Float). T (fits binary64 x)) sign u) t v.1

-- a zero too
pub round_self : (s : Bool) (m : ℕ) (e : ℤ) → fits binary64 (fin s m e) ≡ true
    → round binary64 s (m * up e) (down e) ≡ fin s m e
unfolding round
round_self s zero e t = rw (zero_exponent s e t)
round_self s (suc m) e t = round_own s m e (holds t)

-- ---- signs of what is rounded

-- no NaN, and no sign
abbrev pub Plus : Float → Type 0
Plus nan = ⊥
Plus (inf s) = s ≡ false
Plus (fin s m e) = s ≡ false

plus_odd : (d q k l : ℕ) → Plus (odd d false q k l)
unfolding odd
plus_odd d zero k l = refl
plus_odd d (suc q) k l = refl

plus_units : (q k : ℕ) → Plus (units binary64 false q k)
unfolding units
plus_units q k = go (ltb (q * 2 ^ k) (2 ^ 2098))
  where
    go : (b : Bool) → Plus (cond b (odd 54 false q k 1074) (inf false))
    go true = plus_odd 54 q k 1074
    go false = refl

pub plus_round : (a b : ℕ) → Plus (round binary64 false a b)
plus_round a b = rw (round_is binary64 false a b) (plus_units _ _)

neg_odd : (d q k l : ℕ) → neg (odd d false q k l) ≡ odd d true q k l
unfolding neg odd
neg_odd d zero k l = refl
neg_odd d (suc q) k l = refl

neg_units : (q k : ℕ) → neg (units binary64 false q k) ≡ units binary64 true q k
unfolding units neg
neg_units q k = go (ltb (q * 2 ^ k) (2 ^ 2098))
  where
    go : (b : Bool) → neg (cond b (odd 54 false q k 1074) (inf false)) ≡ cond b (odd 54 true q k 1074) (inf true)
    go true = neg_odd 54 q k 1074
    go false = refl

pub neg_round : (a b : ℕ) → neg (round binary64 false a b) ≡ round binary64 true a b
neg_round a b = ap neg (round_is binary64 false a b) ∙ neg_units _ _ ∙ sym (round_is binary64 true a b)

-- ---- sizes

-- x is finite, and at most n * 2 ^ d in size
abbrev pub Within : Float → ℕ → ℤ → Type 0
Within nan n d = ⊥
Within (inf s) n d = ⊥
Within (fin s m e) n d = m * up e * down d ≤ n * up d * down e

pub within_neg : (x : Float) (n : ℕ) (d : ℤ) → Within x n d → Within (neg x) n d
unfolding neg
within_neg nan n d w = w
within_neg (inf s) n d w = w
within_neg (fin s m e) n d w = w

pub le_nat : (a b : ℕ) → T (ltb a b || (eqb a b && true)) → a ≤ b
le_nat a b = go (ltb a b) (eqb a b) (ltb→lt a b) (eqb→eq a b)
  where
    go : (x y : Bool) → (T x → a < b) → (T y → a ≡ b) → T (x || (y && true)) → a ≤ b
    go true y f g t = omega (arith, f tt)
    go false true f g t = omega (arith, g tt)
    go false false f g t = absurd t

pub within_of_le : (x y : Float) (n : ℕ) (d : ℤ) → Plus x → HasValue y false (n * up d) (down d) → T (le x y)
    → Within x n d
unfolding le
within_of_le nan y n d p v t = absurd p
within_of_le (inf true) y n d p v t = yes p
within_of_le (inf false) nan n d p v t = absurd v
within_of_le (inf false) (inf s) n d p v t = absurd v
within_of_le (inf false) (fin s n2 d2) n d p v t = absurd t
within_of_le (fin true m e) y n d p v t = yes p
within_of_le (fin false m e) nan n d p v t = absurd v
within_of_le (fin false m e) (inf s) n d p v t = absurd v
within_of_le (fin false m e) (fin true n2 d2) n d p v t = yes v.0
within_of_le (fin false m e) (fin false n2 d2) n d p v t =
    transfer (m * up e) (n * up d) (down e) (down d) (m * up e) (n2 * up d2) (down e) (down d2) (down_pos e) (down_pos d2) refl (sym v.1)
    (le_nat (m * up e * down d2) (n2 * up d2 * down e) t)

pub le_true : (a b : ℕ) → a ≤ b → (ltb a b || (eqb a b && true)) ≡ true
le_true a b h = go (ltb a b) refl
  where
    go : (x : Bool) → ltb a b ≡ x → (x || (eqb a b && true)) ≡ true
    go true e = refl
    go false e = let same : a ≡ b = omega (arith, ltb-false a b e) in rw (eq-eqb a b same)

-- ---- 0 - x, by which the code has f64::abs

opposite : Float → Float
opposite nan = nan
opposite (inf s) = inf (not s)
opposite (fin s zero e) = fin false 0 (pos 0)
opposite (fin s (suc m) e) = fin (not s) (suc m) e

zero_minus : (x : Float) → fits binary64 x ≡ true → sub binary64 F64.zero x ≡ opposite x
unfolding sub add neg sum of_bits opposite
zero_minus nan t = refl
zero_minus (inf s) t = refl
zero_minus (fin true zero e) t = rw (zero_exponent true e t)
zero_minus (fin false zero e) t = rw (zero_exponent false e t)
zero_minus (fin true (suc m) e) t = rw (zero-mul (down e), zero-add, mul-one, one-mul) (round_own false m e (holds (fits_sign false true (suc m) e ∙ t)))
zero_minus (fin false (suc m) e) t =
    let h : 0 < suc m * up e = mul-pos (omega arith) (up_pos e) in
    rw (zero-mul (down e), mul-one, one-mul, lt-ltb 0 (suc m * up e) h, sub-zero) (round_own true m e (holds (fits_sign true false (suc m) e ∙ t)))

pub abs_taken : (x : Float) → fits binary64 x ≡ true → lt (sub binary64 F64.zero x) x ≡ true → x ≡ F64.abs x
unfolding opposite lt F64.abs
abs_taken x t h = go x (sym (ap (λ (y : Float). lt y x) (zero_minus x t)) ∙ h)
  where
    go : (x : Float) → lt (opposite x) x ≡ true → x ≡ F64.abs x
    go nan h = no h
    go (inf true) h = no h
    go (inf false) h = refl
    go (fin true zero e) h = no h
    go (fin true (suc m) e) h = no h
    go (fin false m e) h = refl

pub abs_left : (x : Float) → fits binary64 x ≡ true → lt (sub binary64 F64.zero x) x ≡ false
    → sub binary64 F64.zero x ≡ F64.abs x
unfolding opposite lt F64.abs
abs_left x t h = zero_minus x t ∙ go x t (sym (ap (λ (y : Float). lt y x) (zero_minus x t)) ∙ h)
  where
    go : (x : Float) → fits binary64 x ≡ true → lt (opposite x) x ≡ false → opposite x ≡ F64.abs x
    go nan t h = refl
    go (inf true) t h = refl
    go (inf false) t h = yes h
    go (fin s zero e) t h = rw (zero_exponent s e t)
    go (fin true (suc m) e) t h = refl
    go (fin false (suc m) e) t h =
        let p : 0 < suc m * up e * down e = mul-pos (mul-pos (omega arith) (up_pos e)) (down_pos e) in
        yes (sym (lt-ltb 0 (suc m * up e * down e + suc m * up e * down e) (omega arith)) ∙ h)
