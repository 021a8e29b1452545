-- fl(x - y) ≤ fl(z + y) where x < z and y has no sign, for every value of the logic: rounding keeps the order. Assumes
-- nothing.
use mathlib.Core.Path.{◌≡◌, refl}
use mathlib.Core.Bool.{Bool, true, false, cond}
use Prim.Native.Nat.{ℕ, ◌+◌, ◌-◌, ◌*◌, ◌<◌, ◌≤◌}
use native.Mathlib.Nat.{mul-pos, mul_assoc, mul_left_comm, mul-le-mul_right, le_trans, sub-le, le-add_right}
use native.Mathlib.Omega.{arith}
use lib.Dec.{T, ltb}
use lib.IntN.{ℤ}
use lib.Ieee.{Float, nan, inf, fin, binary64, up, down, round, sum, add, sub, neg, lt, eq, le, of_bits}
use lib.Ieee.Fits.{down_pos}
use lib.Ieee.Order.{round_mono}
use borrow.Author.Tests.{ltb-true}
use Rattle.float.specs.Float.{epsilon}
use Rattle.laws.proofs.Bools.{no, yes}
use Rattle.float.proofs.Rounding.{Plus, plus_round, neg_round}
use Rattle.float.proofs.Sides.{truly, flip, astride}
use Rattle.stops_sort.specs.Sorted.{is_position_before}
use Rattle.stops_sort.proofs.Order.{not_both}
use Rattle.move_turn.proofs.Thresholds.{le_through}

-- ---- two floats with no sign

data Unsigned : Float → Type 0 where
  endless : Unsigned (inf false)
  finite : (m : ℕ) (e : ℤ) → Unsigned (fin false m e)

view : (x : Float) → Plus x → Unsigned x
view nan p = absurd p
view (inf true) p = yes p
view (inf false) p = endless
view (fin true m e) p = yes p
view (fin false m e) p = finite m e

unsigned : (a b : ℕ) → Unsigned (round binary64 false a b)
unsigned a b = view (round binary64 false a b) (plus_round a b)

-- one gets a sign: it is at most the other
across : {x y : Float} → Unsigned x → Unsigned y → le (neg x) y ≡ true
unfolding le lt eq neg
across endless endless = refl
across endless (finite n d) = refl
across (finite m e) endless = refl
across (finite m e) (finite n d) = astride (m * up e * down d) (n * up d * down e)

-- ---- two fractions

signed_first : (a b c d : ℕ) → le (round binary64 true a b) (round binary64 false c d) ≡ true
signed_first a b c d = rw (← neg_round a b) (across (unsigned a b) (unsigned c d))

-- a / e < c / g, and d: what lies below a / e and what lies above c / g, over the denominators e * d and g * d
module _ (a e c g d : ℕ) (E : 0 < e) (G : 0 < g) (D : 0 < d) (h : a * g < c * e) (u v : ℕ) (p : u ≤ a * d) (q : c * d ≤ v) where
  between : u * (g * d) ≤ v * (e * d)
  between =
      let l : a * d * (g * d) ≡ a * g * (d * d) = simp (mul_assoc, mul_left_comm) in
      let r : c * d * (e * d) ≡ c * e * (d * d) = simp (mul_assoc, mul_left_comm) in
      le_trans (mul-le-mul_right (g * d) p) (le_trans (rw (l, r) (mul-le-mul_right (d * d) (omega arith))) (mul-le-mul_right (e * d) q))

  rounded : T (le (round binary64 false u (e * d)) (round binary64 false v (g * d)))
  rounded = round_mono binary64 u (e * d) v (g * d) (mul-pos E D) (mul-pos G D) between

  turned : le (round binary64 true v (g * d)) (round binary64 true u (e * d)) ≡ true
  turned = rw (← neg_round v (g * d), ← neg_round u (e * d)) (flip _ _ (plus_round u (e * d)) (plus_round v (g * d)) rounded)

-- ---- the sums

module _ (m : ℕ) (e : ℤ) (k : ℕ) (g : ℤ) (n : ℕ) (d : ℤ) where
  abbrev a : ℕ
  a = m * up e * down d

  abbrev b : ℕ
  b = n * up d * down e

  abbrev c : ℕ
  c = k * up g * down d

  abbrev f : ℕ
  f = n * up d * down g

  abbrev j : ℕ
  j = down e * down d

  abbrev l : ℕ
  l = down g * down d

  above : m * up e * down g < k * up g * down e → le (sum binary64 false a true b j) (round binary64 false (c + f) l) ≡ true
  unfolding sum
  above h = go (ltb a b)
    where
      go : (s : Bool) → le (cond s (round binary64 true (b - a) j) (round binary64 false (a - b) j)) (round binary64 false (c + f) l) ≡ true
      go true = signed_first (b - a) j (c + f) l
      go false =
          truly (rounded (m * up e) (down e) (k * up g) (down g) (down d) (down_pos e) (down_pos g) (down_pos d) h (a - b) (c + f) (sub-le a b) (le-add_right c f))

  mixed : le (round binary64 true (a + b) j) (round binary64 false (c + f) l) ≡ true
  mixed = signed_first (a + b) j (c + f) l

  under : k * up g * down e < m * up e * down g → le (round binary64 true (a + b) j) (sum binary64 true c false f l) ≡ true
  unfolding sum
  under h = go (ltb c f) (ltb f c)
    where
      go : (s r : Bool) → le (round binary64 true (a + b) j) (cond s (round binary64 false (f - c) l) (round binary64 r (c - f) l)) ≡ true
      go true r = signed_first (a + b) j (f - c) l
      go false true =
          turned (k * up g) (down g) (m * up e) (down e) (down d) (down_pos g) (down_pos e) (down_pos d) h (c - f) (a + b) (sub-le c f) (le-add_right a b)
      go false false = signed_first (a + b) j (c - f) l

-- ---- the law: what is below fl(x - y) is at most fl(z + y)

nothing_below : (p : Float) → lt p (inf true) ≡ true → ⊥
unfolding lt
nothing_below nan h = no h
nothing_below (inf true) h = no h
nothing_below (inf false) h = no h
nothing_below (fin s m e) h = no h

all_below : (p q : Float) → lt p q ≡ true → le p (inf false) ≡ true
unfolding le lt eq
all_below nan q h = no h
all_below (inf true) q h = refl
all_below (inf false) q h = refl
all_below (fin s m e) q h = refl

through : (p q t : Float) → lt p q ≡ true → le q t ≡ true → le p t ≡ true
unfolding is_position_before
through p q t h = le_through p q t (not_both p q (rw h))

module _ (n : ℕ) (d : ℤ) (p : Float) where
  law : (x z : Float) → lt x z ≡ true → lt p (sub binary64 x (fin false n d)) ≡ true → le p (add binary64 z (fin false n d)) ≡ true
  unfolding lt sub add neg
  law nan z h q = no h
  law (inf s) nan h q = no h
  law (inf true) (inf t) h q = absurd (nothing_below p q)
  law (inf false) (inf t) h q = no h
  law (inf true) (fin t k g) h q = absurd (nothing_below p q)
  law (inf false) (fin t k g) h q = no h
  law (fin s m e) nan h q = no h
  law (fin s m e) (inf true) h q = no h
  law (fin s m e) (inf false) h q = all_below p (sum binary64 s (m * up e * down d) true (n * up d * down e) (down e * down d)) q
  law (fin false m e) (fin false k g) h q = through p _ _ q (above m e k g n d (ltb-true _ _ h))
  law (fin false m e) (fin true k g) h q = no h
  law (fin true m e) (fin false k g) h q = through p _ _ q (mixed m e k g n d)
  law (fin true m e) (fin true k g) h q = through p _ _ q (under m e k g n d (ltb-true _ _ h))

pub ends_apart : (new old p : Float) → lt new old ≡ true → lt p (sub binary64 new epsilon) ≡ true
    → le p (add binary64 old epsilon) ≡ true
unfolding of_bits
ends_apart new old p = law _ _ p new old
