-- The order of stops is a strict total order of their numbers. Assumes nothing.
use mathlib.Core.Path.{◌≡◌, refl, sym, subst, ◌∙◌}
use mathlib.Core.Bool.{Bool, true, false, not, ◌&&◌, ◌||◌, or-false}
use mathlib.Core.List.{List}
use Prim.Native.Nat.{ℕ, zero, suc, ◌+◌, ◌*◌, ◌<◌, ◌≤◌}
use native.Mathlib.Nat.{le_trans, mul-pos, zero-mul, mul_right_comm, mul-le-mul_right, le_of_mul-le-mul_right}
use native.Mathlib.Omega.{arith}
use lib.Dec.{ltb}
use lib.Ieee.{Float, nan, inf, fin, up, down, below, lt, is_nan}
use lib.Ieee.Fits.{down_pos}
use borrow.Author.Tests.{ltb-true, ltb-false, lt-ltb, le-ltb}
use Rattle.laws.proofs.Bools.{no, yes}
use Rattle.world.specs.World.{stop_position}
use Rattle.stops_sort.specs.Sorted.{is_position_before, is_stop_before, IsOrder}

-- ---- positions: no two are each before the other, and "not before" goes on through a third

-- a / e ≤ b / d and b / d ≤ c / g
chain : (a b c e d g : ℕ) → 0 < d → a * d ≤ b * e → b * g ≤ c * d → a * g ≤ c * e
chain a b c e d g D p q =
    le_of_mul-le-mul_right
    (subst (λ (x : ℕ). x ≤ c * e * d) (mul_right_comm a d g)
    (le_trans (mul-le-mul_right g p)
    (subst (λ (x : ℕ). x ≤ c * e * d) (mul_right_comm b g e) (subst (λ (x : ℕ). b * g * e ≤ x) (mul_right_comm c d e) (mul-le-mul_right e q)))))
    D

-- a product that is 0 is 0 with another factor too
vanish : (a d e : ℕ) → 0 < d → a * d ≤ 0 → a * e ≡ 0
vanish zero d e D h = zero-mul e
vanish (suc a) d e D h = let p : 0 < suc a * d = mul-pos (omega arith) D in absurd (omega arith)

below_not : (s : Bool) (x : ℕ) (t : Bool) (y : ℕ) → below s x t y ≡ true → below t y s x ≡ false
below_not false x false y h = le-ltb y x (omega (arith, ltb-true x y h))
below_not false x true y h = no h
below_not true x false y h = refl
below_not true x true y h = le-ltb x y (omega (arith, ltb-true y x h))

-- ±a / e, ±b / d and ±c / g
below_through : (s t u : Bool) (a b c e d g : ℕ) → 0 < e → 0 < d → 0 < g
    → below t (b * e) s (a * d) ≡ false → below u (c * d) t (b * g) ≡ false → below u (c * e) s (a * g) ≡ false
below_through false false false a b c e d g E D G p q = le-ltb (c * e) (a * g) (chain a b c e d g D (ltb-false (b * e) (a * d) p) (ltb-false (c * d) (b * g) q))
below_through false false true a b c e d g E D G p q =
    let z = ltb-false 0 (c * d + b * g) q in
    let x : c * e ≡ 0 = vanish c d e D (omega arith) in
    let y : b * e ≡ 0 = vanish b g e G (omega arith) in
    let w : a * g ≡ 0 = vanish a d g D (omega (arith, ltb-false (b * e) (a * d) p)) in
    le-ltb 0 (c * e + a * g) (omega arith)
below_through false true false a b c e d g E D G p q =
    let z = ltb-false 0 (b * e + a * d) p in
    let w : a * g ≡ 0 = vanish a d g D (omega arith) in
    le-ltb (c * e) (a * g) (omega arith)
below_through false true true a b c e d g E D G p q =
    let z = ltb-false 0 (b * e + a * d) p in
    let w : a * g ≡ 0 = vanish a d g D (omega arith) in
    let y : b * g ≡ 0 = vanish b e g E (omega arith) in
    let x : c * e ≡ 0 = vanish c d e D (omega (arith, ltb-false (b * g) (c * d) q)) in
    le-ltb 0 (c * e + a * g) (omega arith)
below_through true t false a b c e d g E D G p q = refl
below_through true false true a b c e d g E D G p q =
    let z = ltb-false 0 (c * d + b * g) q in
    let x : c * e ≡ 0 = vanish c d e D (omega arith) in
    le-ltb (a * g) (c * e) (omega arith)
below_through true true true a b c e d g E D G p q = le-ltb (a * g) (c * e) (chain c b a g d e D (ltb-false (b * g) (c * d) q) (ltb-false (a * d) (b * e) p))

pub not_both : (p q : Float) → is_position_before p q ≡ true → is_position_before q p ≡ false
unfolding is_position_before lt is_nan
not_both nan q h = no h
not_both (inf true) nan h = refl
not_both (inf true) (inf true) h = refl
not_both (inf true) (inf false) h = refl
not_both (inf true) (fin t n d) h = refl
not_both (inf false) nan h = refl
not_both (inf false) (inf true) h = no h
not_both (inf false) (inf false) h = refl
not_both (inf false) (fin t n d) h = no h
not_both (fin s m e) nan h = refl
not_both (fin s m e) (inf true) h = no h
not_both (fin s m e) (inf false) h = refl
not_both (fin s m e) (fin t n d) h = or-false _ ∙ below_not s (m * up e * down d) t (n * up d * down e) (sym (or-false _) ∙ h)

pub not_through : (p q r : Float) → is_position_before q p ≡ false → is_position_before r q ≡ false
    → is_position_before r p ≡ false
unfolding is_position_before lt is_nan
not_through nan nan r h k = k
not_through nan (inf t) r h k = yes h
not_through nan (fin t n d) r h k = yes h
not_through (inf true) q nan h k = refl
not_through (inf true) q (inf true) h k = refl
not_through (inf true) q (inf false) h k = refl
not_through (inf true) q (fin u l g) h k = refl
not_through (inf false) nan nan h k = refl
not_through (inf false) nan (inf u) h k = yes k
not_through (inf false) nan (fin u l g) h k = yes k
not_through (inf false) (inf true) r h k = yes h
not_through (inf false) (inf false) r h k = k
not_through (inf false) (fin t n d) r h k = yes h
not_through (fin s m e) nan nan h k = refl
not_through (fin s m e) nan (inf u) h k = yes k
not_through (fin s m e) nan (fin u l g) h k = yes k
not_through (fin s m e) (inf true) r h k = yes h
not_through (fin s m e) (inf false) nan h k = refl
not_through (fin s m e) (inf false) (inf true) h k = yes k
not_through (fin s m e) (inf false) (inf false) h k = refl
not_through (fin s m e) (inf false) (fin u l g) h k = yes k
not_through (fin s m e) (fin t n d) nan h k = refl
not_through (fin s m e) (fin t n d) (inf true) h k = yes k
not_through (fin s m e) (fin t n d) (inf false) h k = refl
not_through (fin s m e) (fin t n d) (fin u l g) h k =
    or-false _ ∙ below_through s t u (m * up e) (n * up d) (l * up g) (down e) (down d) (down g) (down_pos e) (down_pos d) (down_pos g) (sym (or-false _) ∙ h) (sym (or-false _) ∙ k)

-- ---- stops

-- a || (not b && c), by what is known of a and b
second : (a b c : Bool) → (a || (not b && c)) ≡ true → a ≡ false → c ≡ true
second true b c h e = yes e
second false true c h e = no h
second false false c h e = h

third : (a b c : Bool) → (a ≡ true → b ≡ false) → (a || (not b && c)) ≡ true → b ≡ false
third true b c f h = f refl
third false true c f h = no h
third false false c f h = refl

module _ (stops : List Float) where
  abbrev at : ℕ → Float
  at i = stop_position stops i

  -- the later is not before the earlier
  pub not_later : (i j : ℕ) → is_stop_before stops i j ≡ true → is_position_before (at j) (at i) ≡ false
  unfolding is_stop_before
  not_later i j h = third (is_position_before (at i) (at j)) (is_position_before (at j) (at i)) (ltb i j) (not_both (at i) (at j)) h

  pub not_before_lower : (i j : ℕ) → lt (at j) (at i) ≡ true → is_stop_before stops i j ≡ false
  unfolding is_position_before
  not_before_lower i j h = by (is_stop_before stops i j) refl
    where
      by : (b : Bool) → is_stop_before stops i j ≡ b → b ≡ false
      by true e = yes (rw h at (not_later i j e))
      by false e = refl

  by_number : (i j : ℕ) → is_stop_before stops i j ≡ true → is_position_before (at i) (at j) ≡ false → i < j
  unfolding is_stop_before
  by_number i j h e = ltb-true i j (second (is_position_before (at i) (at j)) (is_position_before (at j) (at i)) (ltb i j) h e)

  pub before_itself : (i : ℕ) → is_stop_before stops i i ≡ false
  unfolding is_stop_before
  before_itself i = by (is_position_before (at i) (at i)) refl
    where
      by : (b : Bool) → is_position_before (at i) (at i) ≡ b → (b || (not b && ltb i i)) ≡ false
      by true e = yes (sym e ∙ not_both (at i) (at i) e)
      by false e = le-ltb i i (omega arith)

  pub before_through : (i j k : ℕ) → is_stop_before stops i j ≡ true → is_stop_before stops j k ≡ true
      → is_stop_before stops i k ≡ true
  unfolding is_stop_before
  before_through i j k f g = by (is_position_before (at i) (at k)) refl (not_through (at i) (at j) (at k) (not_later i j f) (not_later j k g))
    where
      by : (b : Bool) → is_position_before (at i) (at k) ≡ b → is_position_before (at k) (at i) ≡ false → (b || (not (is_position_before (at k) (at i)) && ltb i k)) ≡ true
      by true e h = refl
      by false e h =
          let x : i < j = by_number i j f (not_through (at j) (at k) (at i) (not_later j k g) e) in
          let y : j < k = by_number j k g (not_through (at k) (at i) (at j) e (not_later i j f)) in
          rw h (lt-ltb i k (omega arith))

  pub before_either : (i j : ℕ) → (i ≡ j → ⊥) → is_stop_before stops i j ≡ false → is_stop_before stops j i ≡ true
  unfolding is_stop_before
  before_either i j d = by (is_position_before (at i) (at j)) (is_position_before (at j) (at i))
    where
      by : (a b : Bool) → (a || (not b && ltb i j)) ≡ false → (b || (not a && ltb j i)) ≡ true
      by true b h = yes h
      by false true h = refl
      by false false h = lt-ltb j i (omega (arith, d, ltb-false i j h))

  pub stops_order : IsOrder (is_stop_before stops)
  stops_order = record { itself = before_itself; through = before_through; either = before_either }
