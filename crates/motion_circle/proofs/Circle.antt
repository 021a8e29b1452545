-- The facts of specs/Facts.antt about positions and distances on circles: rounding keeps the order, so a remainder is
-- at most the divisor in size. Assumes nothing.
use mathlib.Core.Logic.{◌⊎◌, inl, inr}
use mathlib.Core.Path.{◌≡◌, refl, sym, ◌∙◌}
use mathlib.Core.Bool.{Bool, true, false, not, ◌&&◌, ◌||◌, cond, beq}
use Prim.Native.Nat.{ℕ, zero, suc, ◌+◌, ◌-◌, ◌*◌, ◌%◌, ◌<◌, ◌≤◌, zero-le}
use native.Mathlib.Nat.{zero-mul, mul-one, mul-pos, mul_assoc, mul-le-mul_right, mod-lt, le_of_lt, le_trans, le_of_eq, eq-or-lt_of_le, mul_right_comm, mul_comm, sub-le, add-zero, zero-add}
use native.Mathlib.Omega.{arith}
use lib.Dec.{T, ltb, eqb, eqb-suc-zero}
use lib.IntN.{ℤ}
use lib.Ieee.{Float, nan, inf, fin, binary64, up, down, round, sum, add, sub, neg, rem, lt, le, is_nan, fits, of_bits}
use lib.Ieee.Fits.{up_pos, down_pos}
use lib.Ieee.Order.{round_mono}
use borrow.Author.Tests.{ltb-true, ltb-false, eqb-false, lt-ltb, le-ltb}
use Rattle.float.specs.Float as F64
use Rattle.motion.specs.Cyclic.{InCircle, is_degenerate, wrap_position, forward_distance}
use Rattle.motion_circle.specs.Facts.{IsCircle, WrapInCircle, ForwardInCircle, ForwardIsNumber}
use Rattle.float.proofs.Cases.{lt_zero_pos, lt_zero_neg, null_le_zero, minus_le_zero, placed_minus}
use Rattle.laws.proofs.Bools.{no, yes, holds}
use Rattle.float.proofs.Rounding.{own, Plus, plus_round, neg_round, Within, within_neg, within_of_le, le_true}

-- a fraction of at most c is at most c when it is rounded
round_plain : (v k n : ℕ) (d : ℤ) → T (fits binary64 (fin false (suc n) d)) → 0 < k → v * down d ≤ suc n * up d * k → Within (round binary64 false v k) (suc n) d
round_plain v k n d t K h =
    within_of_le (round binary64 false v k) (round binary64 false (suc n * up d) (down d)) (suc n) d (plus_round v k) (own false n d t)
    (round_mono binary64 v k (suc n * up d) (down d) K (down_pos d) h)

round_within : (s : Bool) (v k n : ℕ) (d : ℤ) → T (fits binary64 (fin false (suc n) d)) → 0 < k → v * down d ≤ suc n * up d * k → Within (round binary64 s v k) (suc n) d
round_within false v k n d t K h = round_plain v k n d t K h
round_within true v k n d t K h = rw (← neg_round v k) (within_neg (round binary64 false v k) (suc n) d (round_plain v k n d t K h))

-- the remainder is at most the divisor in size
rem_within : (s : Bool) (m : ℕ) (e : ℤ) (n : ℕ) (d : ℤ) → T (fits binary64 (fin false (suc n) d)) → Within (rem binary64 (fin s m e) (fin false (suc n) d)) (suc n) d
unfolding rem
rem_within s m e n d t =
    let full : 0 < suc n * up d * down e = mul-pos (mul-pos (omega arith) (up_pos d)) (down_pos e) in
    rw (eqb-suc-zero n)
    (round_within s (m * up e * down d % (suc n * up d * down e)) (down e * down d) n d t (mul-pos (down_pos e) (down_pos d))
    (le_trans (mul-le-mul_right (down d) (le_of_lt (mod-lt (m * up e * down d) full))) (le_of_eq (mul_assoc (suc n * up d) (down e) (down d)))))

-- ---- order with 0

pub le_zero_plus : (x : Float) → Plus x → le F64.zero x ≡ true
unfolding le of_bits
le_zero_plus nan p = absurd p
le_zero_plus (inf true) p = yes p
le_zero_plus (inf false) p = refl
le_zero_plus (fin true m e) p = yes p
le_zero_plus (fin false zero e) p = rw (zero-mul (up e), zero-mul (down e))
le_zero_plus (fin false (suc m) e) p =
    let h : 0 < suc m * up e = mul-pos (omega arith) (up_pos e) in rw (lt-ltb (0 * down e) (suc m * up e * 1) (omega (arith, zero-mul (down e), mul-one (suc m * up e))))

le_zero_minus : (e : ℤ) → le F64.zero (fin true 0 e) ≡ true
unfolding le of_bits
le_zero_minus e = rw (zero-mul (up e), zero-mul (down e))

zero_lt_suc : (n : ℕ) (d : ℤ) → lt F64.zero (fin false (suc n) d) ≡ true
unfolding lt of_bits
zero_lt_suc n d =
    let h : 0 < suc n * up d = mul-pos (omega arith) (up_pos d) in lt-ltb (0 * down d) (suc n * up d * 1) (omega (arith, zero-mul (down d), mul-one (suc n * up d)))

-- a sum of what is at most c below 0 and of c is not below 0
plus_sum : (a b c : ℕ) → a ≤ b → Plus (sum binary64 true a false b c)
unfolding sum
plus_sum a b c h = rw (le-ltb b a h) (go (ltb a b))
  where
    go : (t : Bool) → Plus (cond t (round binary64 false (b - a) c) (round binary64 false (a - b) c))
    go true = plus_round (b - a) c
    go false = plus_round (a - b) c

euclid : (x : Float) (n : ℕ) (d : ℤ) → Within x n d → (b : Bool) → lt x F64.zero ≡ b → le F64.zero (cond b (add binary64 x (fin false n d)) x) ≡ true
unfolding add
euclid nan n d w b h = absurd w
euclid (inf s) n d w b h = absurd w
euclid (fin false m e) n d w true h = lt_zero_pos m e h
euclid (fin false m e) n d w false h = le_zero_plus (fin false m e) refl
euclid (fin true m e) n d w true h = le_zero_plus _ (plus_sum (m * up e * down d) (n * up d * down e) (down e * down d) w)
euclid (fin true zero e) n d w false h = le_zero_minus e
euclid (fin true (suc m) e) n d w false h = absurd (omega (arith, lt_zero_neg (suc m) e h))

strict : (a b : ℕ) → b ≤ a → (a ≡ b → ⊥) → b < a
strict a b l n = elim (eq-or-lt_of_le l) [ inl e ↦ absurd (n (sym e)) | inr g ↦ g ]

pub lt_nat : (a b : ℕ) → (ltb a b || (eqb a b && true)) ≡ false → b < a
lt_nat a b h = go (ltb a b) (eqb a b) refl refl h
  where
    go : (x y : Bool) → ltb a b ≡ x → eqb a b ≡ y → (x || (y && true)) ≡ false → b < a
    go true y p q k = yes k
    go false true p q k = yes k
    go false false p q k = strict a b (ltb-false a b p) (eqb-false a b q)

lt_of_not_le : (x : Float) (n : ℕ) (d : ℤ) → le F64.zero x ≡ true → le (fin false (suc n) d) x ≡ false → lt x (fin false (suc n) d) ≡ true
unfolding le lt of_bits
lt_of_not_le nan n d p q = no p
lt_of_not_le (inf true) n d p q = no p
lt_of_not_le (inf false) n d p q = yes q
lt_of_not_le (fin false m e) n d p q = lt-ltb (m * up e * down d) (suc n * up d * down e) (lt_nat (suc n * up d * down e) (m * up e * down d) q)
lt_of_not_le (fin true m e) n d p q =
    let h : 0 < suc n * up d * down e = mul-pos (mul-pos (omega arith) (up_pos d)) (down_pos e) in lt-ltb 0 (m * up e * down d + suc n * up d * down e) (omega arith)

-- ---- a wrapped position

turn : (r : Float) (n : ℕ) (d : ℤ) → le F64.zero r ≡ true → (b : Bool) → le (fin false (suc n) d) r ≡ b
    → (le F64.zero (cond b F64.zero r) ≡ true) × (lt (cond b F64.zero r) (fin false (suc n) d) ≡ true)
unfolding of_bits
turn r n d p true h = (le_zero_plus F64.zero refl, zero_lt_suc n d)
turn r n d p false h = (p, lt_of_not_le r n d p h)

wrap_at : (s : Bool) (m : ℕ) (e : ℤ) (n : ℕ) (d : ℤ) → T (fits binary64 (fin false (suc n) d)) → le (fin false (suc n) d) F64.zero ≡ false
    → (le F64.zero (wrap_position (fin s m e) (fin false (suc n) d)) ≡ true) × (lt (wrap_position (fin s m e) (fin false (suc n) d)) (fin false (suc n) d) ≡ true)
unfolding wrap_position F64.is_finite F64.rem_euclid F64.abs
wrap_at s m e n d t g =
    let c = fin false (suc n) d in
    let r0 = rem binary64 (fin s m e) c in
    let r = cond (lt r0 F64.zero) (add binary64 r0 c) r0 in
    rw g (turn r n d (euclid r0 (suc n) d (rem_within s m e n d t) (lt r0 F64.zero) refl) (le c r) refl)

-- a circle is a float above 0
pub on_circle : (P : Float → Type 0) → ((n : ℕ) (d : ℤ) → IsCircle (fin false (suc n) d) → P (fin false (suc n) d))
    → (c : Float) → IsCircle c → P c
unfolding F64.is_finite
on_circle P at nan k = yes k.1
on_circle P at (inf u) k = yes k.1
on_circle P at (fin true n d) k = yes (sym (minus_le_zero n d) ∙ k.1)
on_circle P at (fin false zero d) k = yes (sym (null_le_zero false d) ∙ k.1)
on_circle P at (fin false (suc n) d) k = at n d k

pub wrap_in_circle : WrapInCircle
unfolding WrapInCircle F64.is_finite
wrap_in_circle nan c k p = no p
wrap_in_circle (inf s) c k p = no p
wrap_in_circle (fin s m e) c k p = on_circle (λ c. InCircle (wrap_position (fin s m e) c) c) (λ n d k. wrap_at s m e n d (holds k.0) k.1) c k

-- ---- a forward distance

cond_within : (b : Bool) (x y : Float) (n : ℕ) (d : ℤ) → Within x n d → Within y n d → Within (cond b x y) n d
cond_within true x y n d v w = v
cond_within false x y n d v w = w

sum_within : (s : Bool) (a : ℕ) (u : Bool) (b k n : ℕ) (d : ℤ) → T (fits binary64 (fin false (suc n) d)) → 0 < k → a * down d ≤ suc n * up d * k → b * down d ≤ suc n * up d * k
    → (beq s u ≡ true → (a + b) * down d ≤ suc n * up d * k) → Within (sum binary64 s a u b k) (suc n) d
unfolding sum
sum_within s a u b k n d t K p q z = go (beq s u) z
  where
    go : (x : Bool) → (x ≡ true → (a + b) * down d ≤ suc n * up d * k)
        → Within (cond x (round binary64 s (a + b) k) (cond (ltb a b) (round binary64 u (b - a) k) (round binary64 (s && ltb b a) (a - b) k))) (suc n) d
    go true z = round_within s (a + b) k n d t K (z refl)
    go false z =
        cond_within (ltb a b) (round binary64 u (b - a) k) (round binary64 (s && ltb b a) (a - b) k) (suc n) d
        (round_within u (b - a) k n d t K (le_trans (mul-le-mul_right (down d) (sub-le b a)) q))
        (round_within (s && ltb b a) (a - b) k n d t K (le_trans (mul-le-mul_right (down d) (sub-le a b)) p))

-- at or above 0, and at most n * 2 ^ d
abbrev pub Placed : Float → ℕ → ℤ → Type 0
Placed nan n d = ⊥
Placed (inf s) n d = ⊥
Placed (fin false m e) n d = m * up e * down d ≤ n * up d * down e
Placed (fin true m e) n d = m ≡ 0

pub placed : (x : Float) (n : ℕ) (d : ℤ) → le F64.zero x ≡ true → lt x (fin false n d) ≡ true → Placed x n d
unfolding le lt of_bits
placed nan n d p q = no p
placed (inf true) n d p q = no p
placed (inf false) n d p q = no q
placed (fin false m e) n d p q = le_of_lt (ltb-true (m * up e * down d) (n * up d * down e) q)
placed (fin true m e) n d p q = placed_minus m e p

-- to a common denominator
scaled : (p q r u k : ℕ) → p * q ≤ u * r → p * k * q ≤ u * (r * k)
scaled p q r u k h = le_trans (le_of_eq (mul_right_comm p k q)) (le_trans (mul-le-mul_right k h) (le_of_eq (mul_assoc u r k)))

size_of : (s : Bool) (m : ℕ) (e : ℤ) (n : ℕ) (d : ℤ) → Placed (fin s m e) n d → m * up e * down d ≤ n * up d * down e
size_of false m e n d h = h
size_of true m e n d h = rw (h, zero-mul (up e), zero-mul (down d)) zero-le

-- the sizes of two floats from 0 to c, over one denominator
pub over_one : (s : Bool) (m : ℕ) (e : ℤ) (u : Bool) (l : ℕ) (g : ℤ) (n : ℕ) (d : ℤ) → Placed (fin s m e) n d
    → Placed (fin u l g) n d
    → (m * up e * down g * down d ≤ n * up d * (down e * down g))
    × (l * up g * down e * down d ≤ n * up d * (down e * down g))
over_one s m e u l g n d p q = (
  scaled (m * up e) (down d) (down e) (n * up d) (down g) (size_of s m e n d p),
  rw (mul_comm (down e) (down g)) (scaled (l * up g) (down d) (down g) (n * up d) (down e) (size_of u l g n d q)),
)

-- their sum with signs of which one is a zero's or the two differ is at most c in size
pub signed_within : (s : Bool) (m : ℕ) (e : ℤ) (u : Bool) (l : ℕ) (g : ℤ) (n : ℕ) (d : ℤ)
    → T (fits binary64 (fin false (suc n) d))
    → (m * up e * down g * down d ≤ suc n * up d * (down e * down g))
    × (l * up g * down e * down d ≤ suc n * up d * (down e * down g))
    → (beq s u ≡ true → (m ≡ 0) ⊎ (l ≡ 0))
    → Within (sum binary64 s (m * up e * down g) u (l * up g * down e) (down e * down g)) (suc n) d
signed_within s m e u l g n d t z same =
    sum_within s (m * up e * down g) u (l * up g * down e) (down e * down g) n d t (mul-pos (down_pos e) (down_pos g)) z.0 z.1 (λ h. one (same h))
  where
    one : (m ≡ 0) ⊎ (l ≡ 0) → (m * up e * down g + l * up g * down e) * down d ≤ suc n * up d * (down e * down g)
    one (inl h) = rw (h, zero-mul (up e), zero-mul (down g), zero-add) z.1
    one (inr h) = rw (h, zero-mul (up g), zero-mul (down e), add-zero) z.0

diff_within : (x y : Float) (n : ℕ) (d : ℤ) → T (fits binary64 (fin false (suc n) d)) → Placed x (suc n) d → Placed y (suc n) d → Within (sub binary64 x y) (suc n) d
unfolding sub add neg
diff_within nan y n d t p q = absurd p
diff_within (inf s) y n d t p q = absurd p
diff_within (fin s m e) nan n d t p q = absurd q
diff_within (fin s m e) (inf u) n d t p q = absurd q
diff_within (fin s m e) (fin u l g) n d t p q = signed_within s m e (not u) l g n d t (over_one s m e u l g (suc n) d p q) (zeros s u p q)
  where
    zeros : (s u : Bool) → Placed (fin s m e) (suc n) d → Placed (fin u l g) (suc n) d → beq s (not u) ≡ true → (m ≡ 0) ⊎ (l ≡ 0)
    zeros false false p q h = no h
    zeros true true p q h = no h
    zeros false true p q h = inr q
    zeros true false p q h = inl p

ahead_within : (x : Float) (n : ℕ) (d : ℤ) → T (fits binary64 (fin false (suc n) d)) → Within x (suc n) d → (b : Bool) → lt x F64.zero ≡ b
    → Within (cond b (add binary64 x (fin false (suc n) d)) x) (suc n) d
unfolding add
ahead_within nan n d t w b h = absurd w
ahead_within (inf s) n d t w b h = absurd w
ahead_within (fin s m e) n d t w false h = w
ahead_within (fin false m e) n d t w true h = lt_zero_pos m e h
ahead_within (fin true m e) n d t w true h =
    let B : suc n * up d * down e * down d ≤ suc n * up d * (down e * down d) = le_of_eq (mul_assoc (suc n * up d) (down e) (down d)) in
    sum_within true (m * up e * down d) false (suc n * up d * down e) (down e * down d) n d t (mul-pos (down_pos e) (down_pos d))
    (le_trans (mul-le-mul_right (down d) w) B) B (λ k. no k)

le_of_within : (x : Float) (n : ℕ) (d : ℤ) → Within x (suc n) d → le x (fin false (suc n) d) ≡ true
unfolding le
le_of_within nan n d w = absurd w
le_of_within (inf s) n d w = absurd w
le_of_within (fin false m e) n d w = le_true (m * up e * down d) (suc n * up d * down e) w
le_of_within (fin true m e) n d w =
    let h : 0 < suc n * up d * down e = mul-pos (mul-pos (omega arith) (up_pos d)) (down_pos e) in
    rw (lt-ltb 0 (m * up e * down d + suc n * up d * down e) (omega arith))

or_parts : (a b c : Bool) → (a || not b || not c) ≡ false → (a ≡ false) × (b ≡ true) × (c ≡ true)
or_parts true b c h = yes h
or_parts false true true h = (refl, refl, refl)
or_parts false true false h = yes h
or_parts false false c h = yes h

-- d, and a turn more where d is below 0
abbrev pub ahead : Float → Float → Float
ahead d c = cond (lt d F64.zero) (add binary64 d c) d

forward_at : (from to : Float) (n : ℕ) (d : ℤ) → IsCircle (fin false (suc n) d)
    → (le F64.zero (forward_distance from to (fin false (suc n) d)) ≡ true) × (le (forward_distance from to (fin false (suc n) d)) (fin false (suc n) d) ≡ true)
unfolding forward_distance WrapInCircle of_bits
forward_at from to n d k = go (is_degenerate c || not (F64.is_finite from) || not (F64.is_finite to)) refl
  where
    c : Float
    c = fin false (suc n) d

    at : (p : Float) → F64.is_finite p ≡ true → Placed (wrap_position p c) (suc n) d
    at p f = let w = wrap_in_circle p c k f in placed (wrap_position p c) (suc n) d w.0 w.1

    gap : Float
    gap = sub binary64 (wrap_position to c) (wrap_position from c)

    full : Within gap (suc n) d → (le F64.zero (ahead gap c) ≡ true) × (le (ahead gap c) c ≡ true)
    full w = (
      euclid gap (suc n) d w (lt gap F64.zero) refl,
      le_of_within (ahead gap c) n d (ahead_within gap n d (holds k.0) w (lt gap F64.zero) refl),
    )

    go : (b : Bool) → (is_degenerate c || not (F64.is_finite from) || not (F64.is_finite to)) ≡ b
        → (le F64.zero (cond b F64.zero (ahead gap c)) ≡ true) × (le (cond b F64.zero (ahead gap c)) c ≡ true)
    go true h = (le_zero_plus F64.zero refl, le_zero_plus c refl)
    go false h =
        let g = or_parts (is_degenerate c) (F64.is_finite from) (F64.is_finite to) h in
        full (diff_within (wrap_position to c) (wrap_position from c) n d (holds k.0) (at to g.2) (at from g.1))

pub forward_in_circle : ForwardInCircle
unfolding ForwardInCircle
forward_in_circle from to =
    on_circle (λ c. (le F64.zero (forward_distance from to c) ≡ true) × (le (forward_distance from to c) c ≡ true)) (forward_at from to)

-- ---- no NaN

number : (x : Float) → le F64.zero x ≡ true → is_nan x ≡ false
unfolding le is_nan of_bits
number nan h = sym h
number (inf s) h = refl
number (fin s m e) h = refl

pub forward_is_number : ForwardIsNumber
unfolding ForwardIsNumber ForwardInCircle forward_distance of_bits is_nan
forward_is_number from to c t = go (is_degenerate c) refl
  where
    go : (b : Bool) → is_degenerate c ≡ b → is_nan (forward_distance from to c) ≡ false
    go true h = rw h
    go false h = number (forward_distance from to c) (forward_in_circle from to c (t, h)).0
