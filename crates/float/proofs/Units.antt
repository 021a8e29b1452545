-- An f64 with no sign as a whole number of units of 2 ^ -1074, which is 53 binary digits and zeros after them. Sums,
-- differences and remainders are those of the numbers, rounded. Assumes nothing.
use mathlib.Core.Path.{◌≡◌, refl, sym, ap, subst, ◌∙◌}
use mathlib.Core.Bool.{Bool, true, false}
use Prim.Native.Nat.{ℕ, zero, suc, ◌+◌, ◌-◌, ◌*◌, ◌/◌, ◌%◌, ◌<◌, ◌≤◌, ◌^◌}
use native.Mathlib.Nat.{le_of_eq, le_trans, lt_of_lt_of_le, zero-mul, mul-one, mul-pos, mul_assoc, mul_comm, mul_right_comm, mul-le-mul_right, mul-lt-mul_of_pos_right, le_of_mul-le-mul_right, eq_of_mul-eq-mul_right}
use native.Mathlib.Nat.{add-mul, mul-sub, mod-lt, mod-eq_of_lt, div-add-mod', mul-add-mod_self_right}
use native.Mathlib.Omega.{arith}
use lib.Dec.{T, ltb, ltb→lt, leb→le, eqb-suc-zero}
use lib.IntN.{ℤ, pos, negsuc}
use lib.Pow.{pow_pos, pow-add, pow_mono, shl_lt}
use lib.Ieee.{Float, nan, inf, fin, binary64, up, down, size, units, round, sum, add, sub, rem, neg, lt, le}
use lib.Ieee.Digits.{back}
use lib.Ieee.Exact.{HasValue, round_exact}
use lib.Ieee.Fits.{up_pos, down_pos}
use lib.Ieee.Order.{round_mono}
use lib.Ieee.Scale.{round_same}
use borrow.Author.Tests.{ltb-true, ltb-false, le-ltb}
use Rattle.float.specs.Float as F64
use Rattle.float.specs.Facts.{IsF64}
use Rattle.float.proofs.Rounding.{Plus, plus_round, ordered, fitting}
use Rattle.laws.proofs.Bools.{no, yes, holds}

-- the f64 nearest to n units
unfoldable pub held : ℕ → Float
held n = round binary64 false n (2 ^ 1074)

-- at most 53 digits, and zeros after them
abbrev pub Within53Bits : ℕ → Type 0
Within53Bits n = (q : ℕ) × (j : ℕ) × (q < 2 ^ 53) × (n ≡ q * 2 ^ j)

-- x has no sign and is g units
abbrev pub Worth : Float → ℕ → Type 0
Worth x g = HasValue x false g (2 ^ 1074)

-- and g is a size that an f64 can have
pub record Count (x : Float) (g : ℕ) : Type 0 where
  pub value : Worth x g
  pub few : Within53Bits g
  pub under : g < 2 ^ 2098

-- every f64 with no sign that is finite
pub count_of : (x : Float) → IsF64 x → F64.abs x ≡ x → F64.is_finite x ≡ true → (g : ℕ) × Count x g
unfolding F64.abs F64.is_finite
count_of nan t a f = no f
count_of (inf s) t a f = no f
count_of (fin true m e) t a f = absurd (cc)
count_of (fin false zero e) t a f =
    (0, record { value = (refl, rw (zero-mul (up e), zero-mul (down e))); few = (0, 0, pow_pos 53, refl); under = pow_pos 2098 })
count_of (fin false (suc m) (pos k)) t a f =
    let w = fitting false m (pos k) (holds t) in
    let small : suc m < 2 ^ 53 = ltb→lt (suc m) (2 ^ 53) w.0 in
    let under : suc m * 2 ^ k < 2 ^ 1024 = lt_of_lt_of_le (ltb→lt (suc m * 2 ^ k) (2 ^ 1024 * 1) w.2) (le_of_eq (mul-one (2 ^ 1024))) in
    let whole : suc m * 2 ^ (k + 1074) ≡ suc m * 2 ^ k * 2 ^ 1074 = ap (λ (x : ℕ). suc m * x) (pow-add 2 k 1074) ∙ sym (mul_assoc (suc m) (2 ^ k) (2 ^ 1074)) in (
      suc m * 2 ^ (k + 1074),
      record { value = (refl, sym whole ∙ sym (mul-one (suc m * 2 ^ (k + 1074)))); few = (suc m, k + 1074, small, refl); under = rw whole (shl_lt 1024 1074 under) },
    )
count_of (fin false (suc m) (negsuc k)) t a f =
    let w = fitting false m (negsuc k) (holds t) in
    let small : suc m < 2 ^ 53 = ltb→lt (suc m) (2 ^ 53) w.0 in
    let least : suc k ≤ 1074 = ordered (suc k) 1074 (leb→le (2 ^ suc k) (2 ^ 1074) w.1) in
    let j = 1074 - suc k in
    let whole : 2 ^ j * 2 ^ suc k ≡ 2 ^ 1074 = sym (pow-add 2 j (suc k)) ∙ ap (λ (x : ℕ). 2 ^ x) (back 1074 (suc k) least) in
    let within : 53 + j ≤ 2098 = omega arith in
    let short : 2 ^ (53 + j) ≤ 2 ^ 2098 = pow_mono {i = 53 + j} {j = 2098} within in (
      suc m * 2 ^ j,
      record { value = (refl, rw (mul-one (suc m), mul_assoc (suc m) (2 ^ j) (2 ^ suc k), whole)); few = (suc m, j, small, refl); under = lt_of_lt_of_le (shl_lt 53 j small) short },
    )

-- such a size is kept
pub held_count : (n : ℕ) → Within53Bits n → n < 2 ^ 2098 → Count (held n) n
unfolding held
held_count n w l = record { value = round_exact binary64 false n (2 ^ 1074) w.0 w.1 (pow_pos 1074) w.2 (subst (λ (x : ℕ). x < 2 ^ 2098) w.3 l) (ap (λ (x : ℕ). x * 2 ^ 1074) w.3); few = w; under = l }

-- from 2 ^ 2098 units on it is an infinity
top_is : held (2 ^ 2098) ≡ inf false
unfolding held round size units
top_is = refl

pub held_top : (n : ℕ) → 2 ^ 2098 ≤ n → held n ≡ inf false
unfolding held le
held_top n l = go (held n) (plus_round n (2 ^ 1074)) (subst (λ (x : Float). T (le x (held n))) top_is (round_mono binary64 (2 ^ 2098) (2 ^ 1074) n (2 ^ 1074) (pow_pos 1074) (pow_pos 1074) (mul-le-mul_right (2 ^ 1074) l)))
  where
    go : (x : Float) → Plus x → T (le (inf false) x) → x ≡ inf false
    go nan p t = absurd p
    go (inf true) p t = yes p
    go (inf false) p t = refl
    go (fin s m e) p t = absurd t

-- ---- two floats over one denominator

-- a of 1 / k is g units
abbrev pub Part : ℕ → ℕ → ℕ → Type 0
Part a k g = a * 2 ^ 1074 ≡ g * k

pub left : (m : ℕ) (e : ℤ) (g : ℕ) (d : ℤ) → Part (m * up e) (down e) g → Part (m * up e * down d) (down e * down d) g
left m e g d w = mul_right_comm (m * up e) (down d) (2 ^ 1074) ∙ ap (λ (x : ℕ). x * down d) w ∙ mul_assoc g (down e) (down d)

pub right : (m : ℕ) (e : ℤ) (g : ℕ) (d : ℤ) → Part (m * up e) (down e) g → Part (m * up e * down d) (down d * down e) g
right m e g d w = left m e g d w ∙ ap (λ (x : ℕ). g * x) (mul_comm (down e) (down d))

-- a remainder keeps a common factor
pub scaled : (a b c : ℕ) → 0 < b → 0 < c → a * c % (b * c) ≡ a % b * c
scaled a b c B C =
    ap (λ (x : ℕ). x * c % (b * c)) (sym (div-add-mod' a b))
    ∙ ap (λ (x : ℕ). x % (b * c)) (add-mul (a / b * b) (a % b) c ∙ ap (λ (x : ℕ). x + a % b * c) (mul_assoc (a / b) b c))
    ∙ mul-add-mod_self_right (a / b) (b * c) (a % b * c)
    ∙ mod-eq_of_lt (mul-lt-mul_of_pos_right (mod-lt a B) C)

module _ (a b k g h : ℕ) (K : 0 < k) (p : Part a k g) (q : Part b k h) where
  pub keeps : a ≤ b → g ≤ h
  keeps l = le_of_mul-le-mul_right (le_trans (le_of_eq (sym p)) (le_trans (mul-le-mul_right (2 ^ 1074) l) (le_of_eq q))) K

  pub gives : g ≤ h → a ≤ b
  gives l = le_of_mul-le-mul_right (le_trans (le_of_eq p) (le_trans (mul-le-mul_right k l) (le_of_eq (sym q)))) (pow_pos 1074)

  pub difference : Part (a - b) k (g - h)
  difference = mul_comm (a - b) (2 ^ 1074) ∙ mul-sub (2 ^ 1074) a b ∙ ap (λ (x : ℕ). x - 2 ^ 1074 * b) (mul_comm (2 ^ 1074) a ∙ p ∙ mul_comm g k)
      ∙ ap (λ (x : ℕ). k * g - x) (mul_comm (2 ^ 1074) b ∙ q ∙ mul_comm h k) ∙ sym (mul-sub k g h) ∙ mul_comm k (g - h)

  pub total : Part (a + b) k (g + h)
  total = rw (add-mul a b (2 ^ 1074), add-mul g h k, p, q)

  rest : 0 < b → 0 < h → Part (a % b) k (g % h)
  rest B H = sym (scaled a b (2 ^ 1074) B (pow_pos 1074)) ∙ ap (λ (x : ℕ). x % (b * 2 ^ 1074)) p ∙ ap (λ (x : ℕ). g * k % x) q ∙ scaled g h k H K

  as_held : (v n : ℕ) → Part v k n → round binary64 false v k ≡ held n
  unfolding held
  as_held v n i = round_same binary64 false v k n (2 ^ 1074) K (pow_pos 1074) i

pub same_lt : (a b k g h : ℕ) → 0 < k → Part a k g → Part b k h → ltb a b ≡ ltb g h
same_lt a b k g h K p q = go (ltb g h) refl
  where
    go : (t : Bool) → ltb g h ≡ t → ltb a b ≡ t
    go true e = by (ltb a b) refl
      where
        by : (t : Bool) → ltb a b ≡ t → t ≡ true
        by true f = refl
        by false f = absurd (omega (arith, ltb-true g h e, keeps b a k h g K q p (ltb-false a b f)))
    go false e = le-ltb a b (gives b a k h g K q p (ltb-false g h e))

pub plainly : (g h : ℕ) (P : Float → Float → Type 0)
    → ((m : ℕ) (e : ℤ) (n : ℕ) (d : ℤ) → 0 < down e * down d → Part (m * up e * down d) (down e * down d) g
    → Part (n * up d * down e) (down e * down d) h → P (fin false m e) (fin false n d))
    → (x y : Float) → Worth x g → Worth y h → P x y
plainly g h P at nan y p q = absurd p
plainly g h P at (inf s) y p q = absurd p
plainly g h P at (fin s m e) nan p q = absurd q
plainly g h P at (fin s m e) (inf u) p q = absurd q
plainly g h P at (fin true m e) (fin u n d) p q = yes p.0
plainly g h P at (fin false m e) (fin true n d) p q = yes q.0
plainly g h P at (fin false m e) (fin false n d) p q = at m e n d (mul-pos (down_pos e) (down_pos d)) (left m e g d p.1) (right n d h e q.1)

pub lt_is : (x y : Float) (g h : ℕ) → Worth x g → Worth y h → lt x y ≡ ltb g h
unfolding lt
lt_is x y g h = plainly g h (λ x y. lt x y ≡ ltb g h) (λ m e n d K i j. same_lt (m * up e * down d) (n * up d * down e) (down e * down d) g h K i j) x y

pub add_is : (x y : Float) (g h : ℕ) → Worth x g → Worth y h → add binary64 x y ≡ held (g + h)
unfolding add sum
add_is x y g h =
    plainly g h (λ x y. add binary64 x y ≡ held (g + h))
    (λ m e n d K i j. let a = m * up e * down d in let b = n * up d * down e in let k = down e * down d in as_held a b k g h K i j (a + b) (g + h) (total a b k g h K i j)) x y

pub sub_is : (x y : Float) (g h : ℕ) → h ≤ g → Worth x g → Worth y h → sub binary64 x y ≡ held (g - h)
unfolding sub add neg sum
sub_is x y g h l =
    plainly g h (λ x y. sub binary64 x y ≡ held (g - h))
    (λ m e n d K i j. let a = m * up e * down d in let b = n * up d * down e in let k = down e * down d in
    rw (le-ltb a b (gives b a k h g K j i l)) (as_held a b k g h K i j (a - b) (g - h) (difference a b k g h K i j))) x y

pub rem_is : (x y : Float) (g h : ℕ) → 0 < h → Worth x g → Worth y h → rem binary64 x y ≡ held (g % h)
unfolding rem
rem_is x y g h H = plainly g h (λ x y. rem binary64 x y ≡ held (g % h)) at x y
  where
    at : (m : ℕ) (e : ℤ) (n : ℕ) (d : ℤ) → 0 < down e * down d → Part (m * up e * down d) (down e * down d) g → Part (n * up d * down e) (down e * down d) h
        → rem binary64 (fin false m e) (fin false n d) ≡ held (g % h)
    at m e zero d K i j =
        let z : h ≡ 0 = eq_of_mul-eq-mul_right (down e * down d) K h 0 (sym j ∙ rw (zero-mul (up d), zero-mul (down e), zero-mul (2 ^ 1074), zero-mul (down e * down d))) in
        absurd (omega arith)
    at m e (suc n) d K i j =
        let a = m * up e * down d in
        let b = suc n * up d * down e in
        let k = down e * down d in
        let some : 0 < b = mul-pos (mul-pos (omega arith) (up_pos d)) (down_pos e) in
        rw (eqb-suc-zero n) (as_held a b k g h K i j (a % b) (g % h) (rest a b k g h K i j some H))
