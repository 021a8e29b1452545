-- An f64 at or above 0 is a whole number of grains of 2 ^ -1074. So sums, differences and comparisons of such floats
-- are those of natural numbers, rounded. Assumes nothing.
use mathlib.Core.Path.{◌≡◌, refl, sym, ap, subst, ◌∙◌}
use mathlib.Core.Bool.{Bool, true, false, not, ◌&&◌, ◌||◌, cond}
use Prim.Native.Nat.{ℕ, zero, suc, ◌+◌, ◌-◌, ◌*◌, ◌/◌, ◌<◌, ◌≤◌, ◌^◌, ◌∣◌, zero-le}
use native.Mathlib.Nat.{le_refl, le_of_eq, le_trans, le_antisymm, lt_of_le_of_lt, lt_of_lt_of_le, zero-add, sub-le}
use native.Mathlib.Nat.{zero-mul, mul-pos, mul-le-mul_right, eq_of_mul-eq-mul_right}
use native.Mathlib.Nat.{mul_comm, mul-div_cancel, mul-div_cancel', dvd-mul_left, dvd-mul_left_of_dvd, dvd-sub, mod-eq-sub-mod, mod-eq_of_lt}
use native.Mathlib.Omega.{arith}
use lib.Dec.{T, ltb, eqb}
use lib.IntN.{ℤ}
use lib.Pow.{pow_pos, pow-add, pow_mono, shr_lt}
use lib.Ieee.{Float, nan, inf, fin, binary64, up, down, below, level, size, round, sum, add, sub, rem, neg, lt, le, eq, of_bits}
use lib.Ieee.Digits.{back, size-lt, size-le}
use lib.Ieee.Exact.{HasValue, round_exact}
use lib.Ieee.Fits.{down_pos, round-fits}
use lib.Ieee.Order.{round_mono}
use lib.Ieee.Scale.{round_same, round_val, round_under, grid, finite}
use borrow.Author.Tests.{ltb-true, ltb-false, lt-ltb, le-ltb, eqb-true, eqb-false, eq-eqb, ne_eqb}
use Rattle.float.specs.Float as F64
use Rattle.float.specs.Facts.{IsF64}
use Rattle.float.proofs.Cases.{placed_minus}
use Rattle.float.proofs.Rounding.{Plus, plus_round, neg_round, round_own}
use Rattle.float.proofs.Sides.{truly}
use Rattle.float.proofs.Units as Units
use Rattle.float.proofs.Units.{held, Part, left, right, keeps, gives, difference, total, same_lt}
use Rattle.laws.proofs.Bools.{no, yes, holds}
use Rattle.motion_circle.proofs.Circle.{le_zero_plus}
use Rattle.motion_circle.proofs.Headway.{finite_below}

-- how many grains the f64 nearest to n grains has
pub rounded : ℕ → ℕ
rounded n = grid binary64 n (2 ^ 1074)

-- x is g grains; -0 is none
abbrev pub Worth : Float → ℕ → Type 0
Worth nan g = ⊥
Worth (inf s) g = ⊥
Worth (fin false m e) g = m * up e * 2 ^ 1074 ≡ g * down e
Worth (fin true m e) g = (m ≡ 0) × (g ≡ 0)

-- and a float of the format
pub record Count (x : Float) (g : ℕ) : Type 0 where
  pub value : Worth x g
  pub kept : rounded g ≡ g
  pub under : g < 2 ^ 2098

pub worth_same : (x : Float) (g h : ℕ) → Worth x g → Worth x h → g ≡ h
worth_same nan g h p q = absurd p
worth_same (inf s) g h p q = absurd p
worth_same (fin true m e) g h p q = p.1 ∙ sym q.1
worth_same (fin false m e) g h p q = eq_of_mul-eq-mul_right (down e) (down_pos e) g h (sym p ∙ q)

worth_of : (x : Float) (g : ℕ) → HasValue x false g (2 ^ 1074) → Worth x g
worth_of nan g v = v
worth_of (inf s) g v = v
worth_of (fin true m e) g v = yes v.0
worth_of (fin false m e) g v = v.1

held_worth : (n : ℕ) → T (finite (held n)) → Worth (held n) (rounded n)
unfolding held rounded
held_worth n f = worth_of (held n) (rounded n) (round_val binary64 n (2 ^ 1074) (round_under binary64 n (2 ^ 1074) f))

-- every f64 at or above 0 that is finite
pub count_of : (x : Float) → IsF64 x → le F64.zero x ≡ true → F64.is_finite x ≡ true → (g : ℕ) × Count x g
unfolding held rounded size F64.is_finite
count_of nan t p f = no f
count_of (inf s) t p f = no f
count_of (fin true m e) t p f = (0, record { value = (placed_minus m e p, refl); kept = refl; under = pow_pos 2098 })
count_of (fin false zero e) t p f = (0, record { value = rw (zero-mul (up e), zero-mul (down e)); kept = refl; under = pow_pos 2098 })
count_of (fin false (suc m) e) t p f =
    let own = round_own false m e (holds t) in
    let a = suc m * up e in
    let g = grid binary64 a (down e) in
    let u = round_under binary64 a (down e) (subst (λ (x : Float). T (finite x)) (sym own) tt) in
    let v = subst (λ (x : Float). HasValue x false g (2 ^ 1074)) own (round_val binary64 a (down e) u) in
    let same : held g ≡ fin false (suc m) e = round_same binary64 false g (2 ^ 1074) a (down e) (pow_pos 1074) (down_pos e) (sym v.1) ∙ own in
    let w = subst (λ (x : Float). Worth x (rounded g)) same (held_worth g (subst (λ (x : Float). T (finite x)) (sym same) tt)) in
    (g, record { value = v.1; kept = worth_same (fin false (suc m) e) (rounded g) g w v.1; under = u })

finite_of : (x : Float) → F64.is_finite x ≡ true → T (finite x)
unfolding F64.is_finite
finite_of nan f = no f
finite_of (inf s) f = no f
finite_of (fin s m e) f = tt

pub plus_held : (n : ℕ) → Plus (held n)
unfolding held
plus_held n = plus_round n (2 ^ 1074)

-- what is rounded to a finite float
pub count_held : (n : ℕ) → F64.is_finite (held n) ≡ true → Count (held n) (rounded n)
unfolding held
count_held n f =
    let c = count_of (held n) (truly (round-fits binary64 false n (2 ^ 1074))) (le_zero_plus (held n) (plus_held n)) f in
    subst (Count (held n)) (worth_same (held n) c.0 (rounded n) c.1.value (held_worth n (finite_of (held n) f))) c.1

-- ---- two floats over one denominator

sized : (s : Bool) (m : ℕ) (e : ℤ) (g : ℕ) → Worth (fin s m e) g → Part (m * up e) (down e) g
sized false m e g w = w
sized true m e g w = rw (w.0, w.1, zero-mul (up e), zero-mul (down e))

over : (s : Bool) (m : ℕ) (e : ℤ) (g : ℕ) (d : ℤ) → Worth (fin s m e) g → Part (m * up e * down d) (down e * down d) g
over s m e g d w = left m e g d (sized s m e g w)

over_right : (s : Bool) (m : ℕ) (e : ℤ) (g : ℕ) (d : ℤ) → Worth (fin s m e) g → Part (m * up e * down d) (down d * down e) g
over_right s m e g d w = right m e g d (sized s m e g w)

-- so the comparisons are those of the grains
same_eq : (a b k g h : ℕ) → 0 < k → Part a k g → Part b k h → eqb a b ≡ eqb g h
same_eq a b k g h K p q = go (eqb g h) refl
  where
    go : (t : Bool) → eqb g h ≡ t → eqb a b ≡ t
    go true e =
        let i : g ≡ h = eqb-true g h e in
        eq-eqb a b (le_antisymm (gives a b k g h K p q (le_of_eq i)) (gives b a k h g K q p (le_of_eq (sym i))))
    go false e = ne_eqb a b (λ i. eqb-false g h e (le_antisymm (keeps a b k g h K p q (le_of_eq i)) (keeps b a k h g K q p (le_of_eq (sym i)))))

-- a sign stands only where there are no grains
abbrev Signed : Bool → ℕ → Type 0
Signed s g = s ≡ true → g ≡ 0

signed : (s : Bool) (m : ℕ) (e : ℤ) (g : ℕ) → Worth (fin s m e) g → Signed s g
signed true m e g w h = w.1
signed false m e g w h = yes (sym h)

-- What holds of two signs and two sizes over one denominator, g and h grains, holds of the floats
Held : ℕ → ℕ → (Bool → ℕ → Bool → ℕ → ℕ → Type 0) → Type 0
Held g h Q = (s : Bool) (a : ℕ) (u : Bool) (b k : ℕ) → 0 < k → Part a k g → Part b k h → Signed s g → Signed u h → Q s a u b k

finitely : (g h : ℕ) (P : Float → Float → Type 0) (Q : Bool → ℕ → Bool → ℕ → ℕ → Type 0)
    → ((s : Bool) (m : ℕ) (e : ℤ) (u : Bool) (n : ℕ) (d : ℤ) → Q s (m * up e * down d) u (n * up d * down e) (down e * down d) → P (fin s m e) (fin u n d))
    → Held g h Q → (x y : Float) → Worth x g → Worth y h → P x y
unfolding Held
finitely g h P Q at all nan y p q = absurd p
finitely g h P Q at all (inf s) y p q = absurd p
finitely g h P Q at all (fin s m e) nan p q = absurd q
finitely g h P Q at all (fin s m e) (inf u) p q = absurd q
finitely g h P Q at all (fin s m e) (fin u n d) p q =
    at s m e u n d
    (all s (m * up e * down d) u (n * up d * down e) (down e * down d) (mul-pos (down_pos e) (down_pos d)) (over s m e g d p) (over_right u n d h e q) (signed s m e g p) (signed u n d h q))

none : (a k g : ℕ) → Part a k g → g ≡ 0 → a ≡ 0
none a k g p z = eq_of_mul-eq-mul_right (2 ^ 1074) (pow_pos 1074) a 0 (p ∙ rw (z, zero-mul k, zero-mul (2 ^ 1074)))

below_is : (g h : ℕ) → Held g h (λ s a u b k. below s a u b ≡ ltb g h)
unfolding Held
below_is g h false a false b k K p q v w = same_lt a b k g h K p q
below_is g h false a true b k K p q v w = sym (le-ltb g h (omega (arith, w refl)))
below_is g h true a true b k K p q v w = rw (none a k g p (v refl), none b k h q (w refl), v refl, w refl)
below_is g h true a false b k K p q v w =
    let z : a ≡ 0 = none a k g p (v refl) in
    let same : ltb 0 (a + b) ≡ ltb a b = rw (z, zero-add) in
    same ∙ same_lt a b k g h K p q

level_is : (g h : ℕ) → Held g h (λ s a u b k. level s a u b ≡ eqb g h)
unfolding Held
level_is g h s a u b k K p q v w = signs s u v w (same_eq a b k g h K p q)
  where
    and_true : (x : Bool) → (x && true) ≡ x
    and_true true = refl
    and_true false = refl

    and_same : (x : Bool) → (x && x) ≡ x
    and_same true = refl
    and_same false = refl

    signs : (s u : Bool) → Signed s g → Signed u h → eqb a b ≡ eqb g h → level s a u b ≡ eqb g h
    signs false false v w i = and_true (eqb a b) ∙ i
    signs true true v w i = and_true (eqb a b) ∙ i
    signs false true v w i = let z : b ≡ 0 = none b k h q (w refl) in rw z (and_same (eqb a 0) ∙ (rw z at i))
    signs true false v w i = let z : a ≡ 0 = none a k g p (v refl) in rw z (and_true (eqb 0 b) ∙ (rw z at i))

pub lt_is : (x y : Float) (g h : ℕ) → Worth x g → Worth y h → lt x y ≡ ltb g h
unfolding lt
lt_is x y g h = finitely g h (λ x y. lt x y ≡ ltb g h) (λ s a u b k. below s a u b ≡ ltb g h) (λ s m e u n d q. q) (below_is g h) x y

pub eq_is : (x y : Float) (g h : ℕ) → Worth x g → Worth y h → eq x y ≡ eqb g h
unfolding eq
eq_is x y g h = finitely g h (λ x y. eq x y ≡ eqb g h) (λ s a u b k. level s a u b ≡ eqb g h) (λ s m e u n d q. q) (level_is g h) x y

pub le_of : (x y : Float) (g h : ℕ) → Worth x g → Worth y h → g ≤ h → le x y ≡ true
unfolding le
le_of x y g h p q l = rw (lt_is x y g h p q, eq_is x y g h p q) (go (ltb g h) refl)
  where
    go : (t : Bool) → ltb g h ≡ t → (t || eqb g h) ≡ true
    go true e = refl
    go false e = eq-eqb g h (omega (arith, ltb-false g h e))

pub of_le : (x y : Float) (g h : ℕ) → Worth x g → Worth y h → le x y ≡ true → g ≤ h
unfolding le
of_le x y g h p q l = go (ltb g h) (eqb g h) refl refl (rw (lt_is x y g h p q, eq_is x y g h p q) at l)
  where
    go : (t u : Bool) → ltb g h ≡ t → eqb g h ≡ u → (t || u) ≡ true → g ≤ h
    go true u i j k = omega (arith, ltb-true g h i)
    go false true i j k = omega (arith, eqb-true g h j)
    go false false i j k = no k

pub le_not : (x y : Float) (g h : ℕ) → Worth x g → Worth y h → h < g → le x y ≡ false
unfolding le
le_not x y g h p q l = rw (lt_is x y g h p q, eq_is x y g h p q, le-ltb g h (omega arith), ne_eqb g h (λ e. omega arith))

pub not_le : (x y : Float) (g h : ℕ) → Worth x g → Worth y h → le x y ≡ false → h < g
not_le x y g h p q n = go (ltb h g) refl
  where
    go : (b : Bool) → ltb h g ≡ b → h < g
    go true i = ltb-true h g i
    go false i = yes (sym (le_of x y g h p q (ltb-false h g i)) ∙ n)

pub zero_worth : Worth F64.zero 0
unfolding of_bits
zero_worth = refl

pub zero_le_is : (x : Float) (g : ℕ) → Worth x g → le F64.zero x ≡ true
zero_le_is x g w = le_of F64.zero x 0 g zero_worth w zero-le

pub not_below : (x : Float) (g : ℕ) → Worth x g → lt x F64.zero ≡ false
not_below x g w = lt_is x F64.zero g 0 w zero_worth ∙ le-ltb g 0 zero-le

-- ---- rounding

pub worth_finite : (x : Float) (g : ℕ) → Worth x g → F64.is_finite x ≡ true
unfolding F64.is_finite
worth_finite nan g w = absurd w
worth_finite (inf s) g w = absurd w
worth_finite (fin s m e) g w = refl

held_le : (a b : ℕ) → a ≤ b → le (held a) (held b) ≡ true
unfolding held
held_le a b l = truly (round_mono binary64 a (2 ^ 1074) b (2 ^ 1074) (pow_pos 1074) (pow_pos 1074) (mul-le-mul_right (2 ^ 1074) l))

pub held_finite : (a b : ℕ) → a ≤ b → F64.is_finite (held b) ≡ true → F64.is_finite (held a) ≡ true
held_finite a b l f = finite_below (held a) (held b) (plus_held a) (holds (held_le a b l)) f

-- what is at most a float is so when it is rounded
pub at_most : {x : Float} {b : ℕ} (a : ℕ) → Count x b → a ≤ b → Count (held a) (rounded a) × (rounded a ≤ b)
unfolding held rounded
at_most {x} {b} a c l =
    let w = worth_of (held b) (rounded b) (round_val binary64 b (2 ^ 1074) (rw c.kept c.under)) in
    let r = count_held a (held_finite a b l (worth_finite (held b) (rounded b) w)) in
    (r, le_trans (of_le (held a) (held b) (rounded a) (rounded b) r.value w (held_le a b l)) (le_of_eq c.kept))

pub rounded_mono : (a b : ℕ) → a ≤ b → F64.is_finite (held b) ≡ true → rounded a ≤ rounded b
rounded_mono a b l f =
    of_le (held a) (held b) (rounded a) (rounded b) (count_held a (held_finite a b l f)).value (count_held b f).value (held_le a b l)

-- a grain is a float, so one or more of them are not rounded to 0
pub some : (n : ℕ) → 0 < n → Worth (held n) (rounded n) → 0 < rounded n
unfolding held round size
some n l w = of_le (held 1) (held n) 1 (rounded n) refl w (held_le 1 n l)

-- ---- sums of sizes

module _ (a b k g h : ℕ) (K : 0 < k) (p : Part a k g) (q : Part b k h) where
  as_held : (s : Bool) (v n : ℕ) → Part v k n → round binary64 s v k ≡ round binary64 s n (2 ^ 1074)
  as_held s v n i = round_same binary64 s v k n (2 ^ 1074) K (pow_pos 1074) i

  sum_like : (s : Bool) → sum binary64 s a s b k ≡ round binary64 s (g + h) (2 ^ 1074)
  unfolding sum
  sum_like true = as_held true (a + b) (g + h) (total a b k g h K p q)
  sum_like false = as_held false (a + b) (g + h) (total a b k g h K p q)

  sum_back : h ≤ g → sum binary64 false a true b k ≡ held (g - h)
  unfolding sum held
  sum_back l = rw (le-ltb a b (gives b a k h g K q p l)) (as_held false (a - b) (g - h) (difference a b k g h K p q))

  sum_below : g < h → sum binary64 false a true b k ≡ neg (held (h - g))
  unfolding sum held
  sum_below l =
      rw (same_lt a b k g h K p q, lt-ltb g h l) (as_held true (b - a) (h - g) (difference b a k h g K q p) ∙ sym (neg_round (h - g) (2 ^ 1074)))

  sum_turned : g ≤ h → sum binary64 true a false b k ≡ held (h - g)
  unfolding sum held
  sum_turned l = rw (le-ltb b a (gives a b k g h K p q l), same_lt a b k g h K p q) (go (ltb g h) refl)
    where
      go : (t : Bool) → ltb g h ≡ t → cond t (round binary64 false (b - a) k) (round binary64 false (a - b) k) ≡ held (h - g)
      go true e = as_held false (b - a) (h - g) (difference b a k h g K q p)
      go false e =
          let z : g - h ≡ h - g = omega (arith, ltb-false g h e) in
          as_held false (a - b) (g - h) (difference a b k g h K p q) ∙ ap held z

-- ---- sums and differences of floats

moved : {z w : Float} {n : ℕ} → z ≡ w → Count w n → Count z n
moved e c = rw e c

negative_zero : Count (round binary64 true 0 (2 ^ 1074)) (rounded 0)
unfolding round size rounded
negative_zero = record { value = (refl, refl); kept = refl; under = pow_pos 2098 }

pub sub_count : (x y : Float) (g h : ℕ) → Count x g → Count y h → h ≤ g → Count (sub binary64 x y) (rounded (g - h))
unfolding sub add neg held Held
sub_count x y g h p q l =
    finitely g h (λ x y. Count (sub binary64 x y) (rounded (g - h))) (λ s a u b k. Count (sum binary64 s a (not u) b k) (rounded (g - h)))
    (λ s m e u n d c. c) signs x y p.value q.value
  where
    here : Count (held (g - h)) (rounded (g - h))
    here = (at_most (g - h) p (sub-le g h)).0

    signs : (s : Bool) (a : ℕ) (u : Bool) (b k : ℕ) → 0 < k → Part a k g → Part b k h → Signed s g → Signed u h
        → Count (sum binary64 s a (not u) b k) (rounded (g - h))
    signs false a false b k K i j v w = moved (sum_back a b k g h K i j l) here
    signs false a true b k K i j v w = let z : g + h ≡ g - h = omega (arith, w refl) in moved (sum_like a b k g h K i j false ∙ ap held z) here
    signs true a false b k K i j v w =
        let z : g + h ≡ 0 = omega (arith, v refl) in
        let y : g - h ≡ 0 = omega arith in
        rw y (moved (sum_like a b k g h K i j true ∙ ap (λ (x : ℕ). round binary64 true x (2 ^ 1074)) z) negative_zero)
    signs true a true b k K i j v w =
        let z : h - g ≡ g - h = omega (arith, v refl, w refl) in moved (sum_turned a b k g h K i j (omega (arith, v refl)) ∙ ap held z) here

pub sub_below : (x y : Float) (g h : ℕ) → Worth x g → Worth y h → g < h → sub binary64 x y ≡ neg (held (h - g))
unfolding sub add neg held Held
sub_below x y g h p q l =
    finitely g h (λ x y. sub binary64 x y ≡ neg (held (h - g))) (λ s a u b k. sum binary64 s a (not u) b k ≡ neg (held (h - g))) (λ s m e u n d c. c) signs x y p q
  where
    signs : (s : Bool) (a : ℕ) (u : Bool) (b k : ℕ) → 0 < k → Part a k g → Part b k h → Signed s g → Signed u h → sum binary64 s a (not u) b k ≡ neg (held (h - g))
    signs s a true b k K i j v w = absurd (omega (arith, w refl))
    signs false a false b k K i j v w = sum_below a b k g h K i j l
    signs true a false b k K i j v w =
        let z : g + h ≡ h - g = omega (arith, v refl) in
        sum_like a b k g h K i j true ∙ ap (λ (x : ℕ). round binary64 true x (2 ^ 1074)) z ∙ sym (neg_round (h - g) (2 ^ 1074))

pub add_count : (x y : Float) (g h : ℕ) → Count x g → Count y h → F64.is_finite (held (g + h)) ≡ true
    → Count (add binary64 x y) (rounded (g + h))
unfolding add held Held
add_count x y g h p q f =
    finitely g h (λ x y. Count (add binary64 x y) (rounded (g + h))) (λ s a u b k. Count (sum binary64 s a u b k) (rounded (g + h)))
    (λ s m e u n d c. c) signs x y p.value q.value
  where
    here : Count (held (g + h)) (rounded (g + h))
    here = count_held (g + h) f

    signs : (s : Bool) (a : ℕ) (u : Bool) (b k : ℕ) → 0 < k → Part a k g → Part b k h → Signed s g → Signed u h → Count (sum binary64 s a u b k) (rounded (g + h))
    signs false a false b k K i j v w = moved (sum_like a b k g h K i j false) here
    signs false a true b k K i j v w =
        let z : g - h ≡ g + h = omega (arith, w refl) in moved (sum_back a b k g h K i j (omega (arith, w refl)) ∙ ap held z) here
    signs true a false b k K i j v w =
        let z : h - g ≡ g + h = omega (arith, v refl) in moved (sum_turned a b k g h K i j (omega (arith, v refl)) ∙ ap held z) here
    signs true a true b k K i j v w =
        let z : g + h ≡ 0 = omega (arith, v refl, w refl) in
        rw z (moved (sum_like a b k g h K i j true ∙ ap (λ (x : ℕ). round binary64 true x (2 ^ 1074)) z) negative_zero)

-- ---- and of floats with no sign

-- such a float has its grains as units of float/proofs/Units
units_of : (x : Float) (g : ℕ) → Plus x → Worth x g → Units.Worth x g
units_of nan g r p = absurd p
units_of (inf s) g r p = absurd p
units_of (fin true m e) g r p = yes r
units_of (fin false m e) g r p = (refl, p)

pub add_is : (x y : Float) (g h : ℕ) → Plus x → Plus y → Worth x g → Worth y h → add binary64 x y ≡ held (g + h)
add_is x y g h r t p q = Units.add_is x y g h (units_of x g r p) (units_of y h t q)

pub sub_is : (x y : Float) (g h : ℕ) → h ≤ g → Plus x → Plus y → Worth x g → Worth y h → sub binary64 x y ≡ held (g - h)
sub_is x y g h l r t p q = Units.sub_is x y g h l (units_of x g r p) (units_of y h t q)

-- -x + y
pub turn_is : (x y : Float) (g h : ℕ) → g ≤ h → Plus x → Plus y → Worth x g → Worth y h
    → add binary64 (neg x) y ≡ held (h - g)
unfolding add neg
turn_is x y g h l r t p q =
    Units.plainly g h (λ x y. add binary64 (neg x) y ≡ held (h - g)) (λ m e n d K i j. sum_turned (m * up e * down d) (n * up d * down e) (down e * down d) g h K i j l)
    x y (units_of x g r p) (units_of y h t q)

-- x less one turn y
pub rem_is : (x y : Float) (g h : ℕ) → h ≤ g → g < h + h → Plus x → Plus y → Worth x g → Worth y h
    → rem binary64 x y ≡ held (g - h)
rem_is x y g h l under r t p q =
    let less : g - h < h = omega arith in
    Units.rem_is x y g h (omega arith) (units_of x g r p) (units_of y h t q) ∙ ap held (mod-eq-sub-mod l ∙ mod-eq_of_lt less)

-- ---- where nothing is lost

-- a float's grains are a multiple of the step of each float that is no more
pub steps : {y : Float} {h : ℕ} (g : ℕ) → Count y h → g ≤ h → 2 ^ (size g - 53) ∣ h
unfolding rounded
steps {y} {h} g c l =
    let whole : h * 2 ^ 1074 / 2 ^ 1074 ≡ h = mul-div_cancel h (pow_pos 1074) in
    let i = size g - 53 in
    let k = size (h * 2 ^ 1074 / 2 ^ 1074) - 53 in
    let more : size g ≤ size h = size-le g (size h) (lt_of_le_of_lt l (size-lt h)) in
    let j : i ≤ k = rw whole (omega arith) in
    let coarse : 2 ^ i ∣ 2 ^ k = rw (sym (back k i j), pow-add 2 (k - i) i) (dvd-mul_left (2 ^ i) (2 ^ (k - i))) in
    subst (λ (x : ℕ). 2 ^ i ∣ x) c.kept (dvd-mul_left_of_dvd (2 ^ i) coarse _)

-- and what is such a multiple, and no more, is a float
pub exact : {x : Float} {g : ℕ} (n : ℕ) → Count x g → 2 ^ (size g - 53) ∣ n → n ≤ g → Count (held n) n
unfolding held
exact {x} {g} n c v l =
    let k = size g - 53 in
    let cover : size g ≤ 53 + k = omega arith in
    let few : n / 2 ^ k < 2 ^ 53 = shr_lt 53 k (lt_of_le_of_lt l (lt_of_lt_of_le (size-lt g) (pow_mono cover))) in
    let whole : n / 2 ^ k * 2 ^ k ≡ n = mul_comm (n / 2 ^ k) (2 ^ k) ∙ mul-div_cancel' (2 ^ k) v in
    let under : n / 2 ^ k * 2 ^ k < 2 ^ 2098 = rw whole (lt_of_le_of_lt l c.under) in
    let v = round_exact binary64 false n (2 ^ 1074) (n / 2 ^ k) k (pow_pos 1074) few under (ap (λ (z : ℕ). z * 2 ^ 1074) (sym whole)) in
    let w = worth_of (held n) n v in
    let r = count_held n (worth_finite (held n) n w) in
    subst (Count (held n)) (worth_same (held n) (rounded n) n r.value w) r

-- as the difference of two floats of which neither is more than twice the other
pub near : {x y : Float} {g h : ℕ} → Count x g → Count y h → g ≤ h → h ≤ g + g → rounded (h - g) ≡ h - g
near {x} {y} {g} {h} p q l m = (exact (h - g) p (dvd-sub (2 ^ (size g - 53)) (steps g q l) (steps g p (le_refl g))) (omega arith)).kept
