-- The steps by which `remainder` finds the remainder of two floats. Assumes nothing.
use mathlib.Core.Path.{◌≡◌, refl, sym, ap, subst, ◌∙◌}
use mathlib.Core.Logic.{◌⊎◌, inl, inr}
use mathlib.Core.Bool.{Bool, true, false, ◌&&◌, cond}
use Prim.Native.Nat.{ℕ, zero, suc, ◌+◌, ◌-◌, ◌*◌, ◌/◌, ◌%◌, ◌<◌, ◌≤◌, ◌^◌}
use native.Mathlib.Nat.{le_of_eq, lt_trans, lt_of_le_of_lt, lt_of_lt_of_le, zero-mul, mul-one, mul-pos, mul_assoc, mul_right_comm, mul-div_cancel}
use native.Mathlib.Nat.{mod-lt, mod-le, mod-eq_of_lt, mod-eq-sub-mod, mod-mod_of_dvd, dvd-mul_left, pow-suc}
use native.Mathlib.Omega.{arith}
use lib.Dec.{ltb, eqb, leb, eqb-suc-zero}
use lib.Pow.{pow_pos, pow-add}
use lib.Ieee.{Float, nan, inf, fin, binary64, up, down, round, add, sub, rem, neg, lt, of_bits}
use lib.Ieee.Digits.{back}
use lib.Ieee.Fits.{up_pos, down_pos}
use lib.Ieee.Scale.{round_same}
use borrow.Author.Tests.{ltb-true, ltb-false, leb-true, leb-false, lt-ltb}
use Rattle.float.specs.Float as F64
use Rattle.float.specs.Facts.{IsF64}
use Rattle.float.proofs.Cases.{lt_zero_pos, lt_zero_neg}
use Rattle.float.proofs.Rounding.{neg_round, round_self}
use Rattle.float.proofs.Units.{held, Within53Bits, Worth, Count, count_of, held_count, held_top, lt_is, add_is, sub_is, rem_is, scaled}
use Rattle.laws.proofs.Bools.{no, yes}

-- ---- sizes whose few digits are kept

-- k zeros more
shifted : (p i j : ℕ) → j ≤ i → p * 2 ^ i ≡ p * 2 ^ (i - j) * 2 ^ j
shifted p i j l = ap (λ (x : ℕ). p * 2 ^ x) (sym (back i j l)) ∙ ap (λ (x : ℕ). p * x) (pow-add 2 (i - j) j) ∙ sym (mul_assoc p (2 ^ (i - j)) (2 ^ j))

few_twice : (n : ℕ) → Within53Bits n → Within53Bits (n + n)
few_twice n w = (w.0, suc w.1, w.2, ap (λ (x : ℕ). x + x) w.3 ∙ two (w.0) (2 ^ w.1) ∙ ap (λ (x : ℕ). w.0 * x) (sym (pow-suc 2 w.1)))
  where
    two : (q x : ℕ) → q * x + q * x ≡ q * (x * 2)
    two q x = omega arith

factor : (a b : ℕ) → 0 < a * b → 0 < a
factor zero b h = absurd (omega (arith, zero-mul b, h))
factor (suc a) b h = omega arith

-- two sizes with k zeros
cut : (n m a b k : ℕ) → 0 < m → n ≡ a * 2 ^ k → m ≡ b * 2 ^ k → (0 < b → a % b < 2 ^ 53) → Within53Bits (n % m)
cut n m a b k M e f l =
    let B : 0 < b = factor b (2 ^ k) (lt_of_lt_of_le M (le_of_eq f)) in
    (a % b, k, l B, ap (λ (x : ℕ). x % m) e ∙ ap (λ (x : ℕ). a * 2 ^ k % x) f ∙ scaled a b (2 ^ k) B (pow_pos k))

few_rem : (n m : ℕ) → 0 < m → Within53Bits n → Within53Bits m → Within53Bits (n % m)
few_rem n m M v w = go v.0 v.1 w.0 w.1 v.2 w.2 v.3 w.3 (leb w.1 v.1) refl
  where
    go : (p i q j : ℕ) → p < 2 ^ 53 → q < 2 ^ 53 → n ≡ p * 2 ^ i → m ≡ q * 2 ^ j → (t : Bool) → leb j i ≡ t → Within53Bits (n % m)
    go p i q j P Q e f true o = cut n m (p * 2 ^ (i - j)) q j M (e ∙ shifted p i j (leb-true j i o)) f (λ B. lt_trans (mod-lt (p * 2 ^ (i - j)) B) Q)
    go p i q j P Q e f false o =
        let l : i ≤ j = omega (arith, leb-false j i o) in
        cut n m p (q * 2 ^ (j - i)) i M e (f ∙ shifted q j i l) (λ B. lt_of_le_of_lt (mod-le p (q * 2 ^ (j - i))) P)

-- ---- the step from the remainder of 2 * b to that of b

-- a is g units and b is h, with b above 0 and no more than a
record Pair (a b : Float) : Type 0 where
  g : ℕ
  h : ℕ
  size : Count a g
  by : Count b h
  some : 0 < h
  least : h ≤ g

pub divisor_plain : (b : Float) → lt F64.zero b ≡ true → F64.abs b ≡ b
unfolding lt of_bits F64.abs
divisor_plain nan h = no h
divisor_plain (inf true) h = no h
divisor_plain (inf false) h = refl
divisor_plain (fin true n d) h = no h
divisor_plain (fin false n d) h = refl

divisor_finite : (a b : Float) → F64.abs a ≡ a → F64.is_finite a ≡ true → lt F64.zero b ≡ true → lt a b ≡ false → F64.is_finite b ≡ true
unfolding lt of_bits F64.is_finite
divisor_finite a nan k f p l = no p
divisor_finite nan (inf t) k f p l = no f
divisor_finite (inf s) (inf t) k f p l = no f
divisor_finite (fin s m e) (inf true) k f p l = no p
divisor_finite (fin s m e) (inf false) k f p l = yes l
divisor_finite a (fin t n d) k f p l = refl

zero_worth : Worth F64.zero 0
unfolding of_bits
zero_worth = (refl, refl)

pair : (a b : Float) → IsF64 a → IsF64 b → F64.abs a ≡ a → F64.is_finite a ≡ true → lt F64.zero b ≡ true → lt a b ≡ false → Pair a b
pair a b t u k f p l =
    let A = count_of a t k f in
    let B = count_of b u (divisor_plain b p) (divisor_finite a b k f p l) in
    record {
      g = A.0;
      h = B.0;
      size = A.1;
      by = B.1;
      some = ltb-true 0 B.0 (sym (lt_is F64.zero b 0 B.0 zero_worth B.1.value) ∙ p);
      least = ltb-false A.0 B.0 (sym (lt_is a b A.0 B.0 A.1.value B.1.value) ∙ l);
    }

-- b + b is 2 * h units, or infinite
Twice : Float → ℕ → Type 0
Twice b h = ((n : ℕ) × (n ≡ h + h) × Count (add binary64 b b) n) ⊎ ((2 ^ 2098 ≤ h + h) × (add binary64 b b ≡ inf false))

twice : (b : Float) (h : ℕ) → Count b h → Twice b h
unfolding Twice
twice b h c = go (ltb (h + h) (2 ^ 2098)) refl
  where
    is : add binary64 b b ≡ held (h + h)
    is = add_is b b h h c.value c.value

    go : (t : Bool) → ltb (h + h) (2 ^ 2098) ≡ t → ((n : ℕ) × (n ≡ h + h) × Count (add binary64 b b) n) ⊎ ((2 ^ 2098 ≤ h + h) × (add binary64 b b ≡ inf false))
    go true e = inl (h + h, refl, subst (λ (x : Float). Count x (h + h)) (sym is) (held_count (h + h) (few_twice h c.few) (ltb-true (h + h) (2 ^ 2098) e)))
    go false e = let l : 2 ^ 2098 ≤ h + h = ltb-false (h + h) (2 ^ 2098) e in inr (l, is ∙ held_top (h + h) l)

rem_top : (a : Float) (g : ℕ) → Worth a g → rem binary64 a (inf false) ≡ a
unfolding rem
rem_top nan g w = absurd w
rem_top (inf s) g w = absurd w
rem_top (fin s m e) g w = refl

zero_top : lt F64.zero (inf false) ≡ true
unfolding lt of_bits
zero_top = refl

-- ---- the measure: how far b is below a + 1, in units, and 0 where b is infinite

count : Float → ℕ
count nan = 0
count (inf s) = 0
count (fin s m e) = m * up e * 2 ^ 1074 / down e

pub need : Float → Float → ℕ
need a nan = 0
need a (inf s) = 0
need a (fin t n d) = suc (count a) - count (fin t n d)

count_is : (x : Float) (g : ℕ) → Worth x g → count x ≡ g
unfolding count
count_is nan g w = absurd w
count_is (inf s) g w = absurd w
count_is (fin s m e) g w = ap (λ (x : ℕ). x / down e) w.1 ∙ mul-div_cancel g (down_pos e)

need_is : (a b : Float) (g h : ℕ) → Worth a g → Worth b h → need a b ≡ suc g - h
unfolding need
need_is a nan g h v w = absurd w
need_is a (inf s) g h v w = absurd w
need_is a (fin t n d) g h v w = rw (count_is a g v, count_is (fin t n d) h w)

need_top : (a : Float) → need a (inf false) ≡ 0
unfolding need
need_top a = refl

module _ (a b : Float) (t : IsF64 a) (u : IsF64 b) (k : F64.abs a ≡ a) (f : F64.is_finite a ≡ true) (p : lt F64.zero b ≡ true) (l : lt a b ≡ false) where
  z : Pair a b
  z = pair a b t u k f p l

  abbrev g : ℕ
  g = z.g

  abbrev h : ℕ
  h = z.h

  by_one : rem binary64 a b ≡ held (g % h)
  by_one = rem_is a b g h z.some z.size.value z.by.value

  -- r is g less some 2 * h
  abbrev Left : Float → Type 0
  Left r = (n : ℕ) × Count r n × (n < h + h) × (n % h ≡ g % h) × (n < h → r ≡ held n)

  by_two : Left (rem binary64 a (add binary64 b b))
  unfolding Twice
  by_two = elim (twice b h z.by) [
    | inl (n, e, c) ↦
        let N : 0 < n = omega (arith, z.some, e) in
        let r = g % n in
        let is : rem binary64 a (add binary64 b b) ≡ held r = rem_is a (add binary64 b b) g n N z.size.value c.value in (
          r,
          subst (λ (x : Float). Count x r) (sym is) (held_count r (few_rem g n N z.size.few c.few) (lt_of_le_of_lt (mod-le g n) z.size.under)),
          lt_of_lt_of_le (mod-lt g N) (le_of_eq e),
          mod-mod_of_dvd h g (rw (e, double h) (dvd-mul_left h 2)),
          λ i. is,
        )
    | inr (top, e) ↦ (g, subst (λ (x : Float). Count x g) (sym (ap (rem binary64 a) e ∙ rem_top a g z.size.value)) z.size, omega (arith, z.size.under, top), refl, λ i. absurd (omega (arith, z.least, i)))
  ]
    where
      double : (h : ℕ) → h + h ≡ 2 * h
      double h = omega arith

  -- what the recursive call asks, and that it has less to do
  pub twice_above : lt F64.zero (add binary64 b b) ≡ true
  unfolding Twice
  twice_above = elim (twice b h z.by) [
    | inl (n, e, c) ↦ lt_is F64.zero (add binary64 b b) 0 n zero_worth c.value ∙ lt-ltb 0 n (omega (arith, z.some, e))
    | inr (top, e) ↦ ap (lt F64.zero) e ∙ zero_top
  ]

  pub less_need : need a (add binary64 b b) < need a b
  unfolding Twice
  less_need = elim (twice b h z.by) [
    | inl (n, e, c) ↦ rw (need_is a (add binary64 b b) g n z.size.value c.value, need_is a b g h z.size.value z.by.value) (omega (arith, z.some, z.least, e))
    | inr (top, e) ↦ rw (e, need_top a, need_is a b g h z.size.value z.by.value) (omega (arith, z.least))
  ]

  pub keep : lt (rem binary64 a (add binary64 b b)) b ≡ true → rem binary64 a (add binary64 b b) ≡ rem binary64 a b
  keep i =
      let w = by_two in
      let r = rem binary64 a (add binary64 b b) in
      let under : w.0 < h = ltb-true w.0 h (sym (lt_is r b w.0 h w.1.value z.by.value) ∙ i) in
      w.4 under ∙ ap held (sym (mod-eq_of_lt under) ∙ w.3) ∙ sym by_one

  pub take : lt (rem binary64 a (add binary64 b b)) b ≡ false
      → sub binary64 (rem binary64 a (add binary64 b b)) b ≡ rem binary64 a b
  take i =
      let w = by_two in
      let r = rem binary64 a (add binary64 b b) in
      let over : h ≤ w.0 = ltb-false w.0 h (sym (lt_is r b w.0 h w.1.value z.by.value) ∙ i) in
      let less : w.0 - h < h = omega (arith, w.2) in
      sub_is r b w.0 h over w.1.value z.by.value ∙ ap held (sym (mod-eq_of_lt less) ∙ sym (mod-eq-sub-mod over) ∙ w.3) ∙ sym by_one

-- ---- the other ways out

-- a size below the divisor's stays
pub less : (x y : Float) → IsF64 x → lt (F64.abs x) (F64.abs y) ≡ true → x ≡ rem binary64 x y
unfolding lt F64.abs rem
less nan y t l = no l
less (inf s) nan t l = no l
less (inf s) (inf u) t l = no l
less (inf s) (fin u n d) t l = no l
less (fin s m e) nan t l = no l
less (fin s m e) (inf u) t l = refl
less (fin s m e) (fin u zero d) t l = absurd (omega (arith, ltb-true (m * up e * down d) (0 * up d * down e) l, zero-mul (up d), zero-mul (down e)))
less (fin s m e) (fin u (suc n) d) t l =
    let a = m * up e * down d in
    let under : a < suc n * up d * down e = ltb-true a (suc n * up d * down e) l in
    rw (eqb-suc-zero n, mod-eq_of_lt under)
    (sym (round_self s m e t) ∙ sym (round_same binary64 s a (down e * down d) (m * up e) (down e) (mul-pos (down_pos e) (down_pos d)) (down_pos e)
    (mul_right_comm (m * up e) (down d) (down e) ∙ mul_assoc (m * up e) (down e) (down d))))

pub less_plain : (a b : Float) → IsF64 a → F64.abs a ≡ a → lt F64.zero b ≡ true → lt a b ≡ true → a ≡ rem binary64 a b
less_plain a b t k p l = less a b t (rw (k, divisor_plain b p) l)

pub abs_twice : (x : Float) → F64.abs (F64.abs x) ≡ F64.abs x
unfolding F64.abs
abs_twice nan = refl
abs_twice (inf s) = refl
abs_twice (fin s m e) = refl

-- no remainder
pub none : (x y : Float) → (lt F64.zero (F64.abs y) && F64.is_finite (F64.abs x)) ≡ false → nan ≡ rem binary64 x y
unfolding lt of_bits F64.abs F64.is_finite rem
none nan y h = refl
none (inf s) y h = refl
none (fin s m e) nan h = refl
none (fin s m e) (inf u) h = yes h
none (fin s m e) (fin u zero d) h = refl
none (fin s m e) (fin u (suc n) d) h =
    let p : 0 < suc n * up d = mul-pos (omega arith) (up_pos d) in
    yes (sym (ap (λ (b : Bool). b && true) (lt-ltb (0 * down d) (suc n * up d * 1) (omega (arith, zero-mul (down d), mul-one (suc n * up d))))) ∙ h)

-- the sign is that of x
pub minus : (x y : Float) → lt x F64.zero ≡ true → neg (rem binary64 (F64.abs x) (F64.abs y)) ≡ rem binary64 x y
unfolding lt of_bits F64.abs rem neg
minus nan y l = no l
minus (inf s) nan l = refl
minus (inf s) (inf u) l = refl
minus (inf s) (fin u n d) l = refl
minus (fin false m e) y l = lt_zero_pos m e l
minus (fin true m e) nan l = refl
minus (fin true m e) (inf u) l = refl
minus (fin true m e) (fin u n d) l = go (eqb n 0) (m * up e * down d % (n * up d * down e)) (down e * down d)
  where
    go : (b : Bool) (r k : ℕ) → neg (cond b nan (round binary64 false r k)) ≡ cond b nan (round binary64 true r k)
    go true r k = refl
    go false r k = neg_round r k

pub plus : (x y : Float) → lt (F64.abs x) (F64.abs y) ≡ false → lt F64.zero (F64.abs y) ≡ true → lt x F64.zero ≡ false
    → rem binary64 (F64.abs x) (F64.abs y) ≡ rem binary64 x y
unfolding lt of_bits F64.abs rem
plus nan y i p l = refl
plus (inf s) nan i p l = refl
plus (inf s) (inf u) i p l = refl
plus (inf s) (fin u n d) i p l = refl
plus (fin false m e) nan i p l = refl
plus (fin false m e) (inf u) i p l = refl
plus (fin false m e) (fin u n d) i p l = refl
plus (fin true m e) nan i p l = no p
plus (fin true m e) (inf u) i p l = yes i
plus (fin true m e) (fin u zero d) i p l = absurd (omega (arith, ltb-true (0 * down d) (0 * up d * 1) p, zero-mul (down d), zero-mul (up d)))
plus (fin true m e) (fin u (suc n) d) i p l =
    let z : m ≡ 0 = lt_zero_neg m e l in
    let q : 0 < suc n * up d * down e = mul-pos (mul-pos (omega arith) (up_pos d)) (down_pos e) in
    let r : m * up e * down d ≡ 0 = rw (z, zero-mul (up e), zero-mul (down d)) in
    absurd (omega (arith, ltb-false (m * up e * down d) (suc n * up d * down e) i, q, r))
