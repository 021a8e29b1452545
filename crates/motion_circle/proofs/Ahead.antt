-- The clamp's answer lies its advance ahead: t, c and t + s are multiples of t's step, so where the sum goes past c
-- the way back to t is exact. Assumes nothing.
use mathlib.Core.Path.{◌≡◌, refl, sym, ap, subst, ◌∙◌}
use mathlib.Core.Bool.{Bool, true, false, cond}
use Prim.Native.Nat.{ℕ, ◌+◌, ◌-◌, ◌<◌, ◌≤◌, ◌^◌, ◌∣◌}
use native.Mathlib.Nat.{le_refl, le_of_lt, le_of_eq, le_trans, lt_of_lt_of_le, sub-le, dvd-sub}
use native.Mathlib.Omega.{arith}
use lib.Dec.{T, ltb}
use lib.Ieee.{Float, nan, inf, fin, binary64, size, add, sub, neg, lt, le, eq, is_nan, fits, of_bits}
use lib.Ieee.Bits.{of_bits-fits}
use lib.Ieee.Fits.{cond-fits, add-fits, sub-fits}
use borrow.Author.Tests.{ltb-true, ltb-false, lt-ltb, eqb-true}
use Rattle.float.specs.Float as F64
use Rattle.float.proofs.Sides.{truly}
use Rattle.laws.proofs.Bools.{no, yes}
use Rattle.motion.specs.Cyclic.{wrap_position, forward_distance}
use Rattle.motion.specs.Movement.{headway_clamp_target}
use Rattle.motion.proofs.Inside.{wrap_inside}
use Rattle.motion_circle.specs.Facts.{IsCircle, WrapTwice, ClampAhead}
use Rattle.motion_circle.proofs.Headway.{max_zero}
use Rattle.float.proofs.Units.{held}
use Rattle.motion_circle.proofs.Grains.{rounded, Worth, Count, count_of, worth_finite, lt_is, eq_is, le_of, le_not, not_le, zero_le_is, not_below, at_most, rounded_mono, sub_count, add_count, add_is, rem_is, steps, exact, near}
use Rattle.motion_circle.proofs.Shorter.{circle_count, circle_plus, forward_count}
use Rattle.motion_circle.proofs.Ways.{above, wrap_count, straight, turned}
use Rattle.motion_circle.proofs.Wrapped.{wrap_twice}

-- ---- what is finite

-- what is not at or above a number
below_finite : (x y : Float) → le x x ≡ true → le F64.zero y ≡ true → le x y ≡ false → F64.is_finite y ≡ true
unfolding le of_bits F64.is_finite
below_finite x nan p q h = no q
below_finite x (inf true) p q h = no q
below_finite nan (inf false) p q h = no p
below_finite (inf true) (inf false) p q h = yes h
below_finite (inf false) (inf false) p q h = yes h
below_finite (fin s m e) (inf false) p q h = yes h
below_finite x (fin u n d) p q h = refl

-- x, where x - t is a finite number
back_finite : (x t s : Float) → F64.is_finite t ≡ true → F64.is_finite s ≡ true → eq (sub binary64 x t) s ≡ true → F64.is_finite x ≡ true
unfolding F64.is_finite eq sub add neg
back_finite nan t s p q e = no e
back_finite (inf u) nan s p q e = no p
back_finite (inf u) (inf v) s p q e = no p
back_finite (inf u) (fin v n d) nan p q e = no q
back_finite (inf u) (fin v n d) (inf w) p q e = no q
back_finite (inf u) (fin v n d) (fin w l g) p q e = no e
back_finite (fin u m e) t s p q h = refl

-- ---- t + s, and the way back from it

module _ (t s c : Float) (g h l : ℕ) (k : IsCircle c) (C : Count c l) (A : Count t g) (S : Count s h) (own : wrap_position t c ≡ t) (in-circle : g < l) (less : h < l)
    (again : eq (sub binary64 (add binary64 t s) t) s ≡ true) where
  abbrev sum : Float
  sum = add binary64 t s

  abbrev x : ℕ
  x = rounded (g + h)

  finite : F64.is_finite (held (g + h)) ≡ true
  finite = by (ltb 0 g) (ltb 0 h) refl refl
    where
      there : F64.is_finite sum ≡ true
      there = back_finite sum t s (worth_finite t g A.value) (worth_finite s h S.value) again

      by : (u v : Bool) → ltb 0 g ≡ u → ltb 0 h ≡ v → F64.is_finite (held (g + h)) ≡ true
      by false v i j = worth_finite (held (g + h)) x (at_most (g + h) S (omega (arith, ltb-false 0 g i))).0.value
      by true false i j = worth_finite (held (g + h)) x (at_most (g + h) A (omega (arith, ltb-false 0 h j))).0.value
      by true true i j = rw (add_is t s g h (above t g A.value (ltb-true 0 g i)) (above s h S.value (ltb-true 0 h j)) A.value S.value) at there

  X : Count sum x
  X = add_count t s g h A S finite

  up_from : g ≤ x
  up_from = le_trans (le_of_eq (sym A.kept)) (rounded_mono g (g + h) (omega arith) finite)

  back_is : rounded (x - g) ≡ h
  back_is = eqb-true (rounded (x - g)) h (sym (eq_is (sub binary64 sum t) s (rounded (x - g)) h (sub_count sum t x g X A up_from).value S.value) ∙ again)

  -- less than a turn
  short : x - g < l
  short = go (ltb (x - g) l) refl
    where
      go : (b : Bool) → ltb (x - g) l ≡ b → x - g < l
      go true i = ltb-true (x - g) l i
      go false i =
          let r = (at_most (x - g) X (sub-le x g)).0 in
          let m = rounded_mono l (x - g) (ltb-false (x - g) l i) (worth_finite (held (x - g)) (rounded (x - g)) r.value) in
          absurd (omega (arith, m, C.kept, back_is))

  t_finite : F64.is_finite t ≡ true
  t_finite = worth_finite t g A.value

  from : Count (wrap_position t c) g
  from = rw own A

  -- short of the circle, nothing is wrapped
  reached : x < l → Count (forward_distance t (wrap_position sum c) c) h
  reached i =
      let low = zero_le_is sum x X.value in
      let same : sum ≡ wrap_position sum c = wrap_inside sum c (truly (add-fits binary64 t s)) (low, lt_is sum c x l X.value C.value ∙ lt-ltb x l i) in
      rw (← same)
      (subst (Count (forward_distance t sum c)) back_is (straight t sum c g x l k C t_finite (worth_finite sum x X.value) from (subst (λ z. Count z x) same X) up_from))

  -- past the circle, one turn is taken off, and nothing is lost
  wrapped : l ≤ x → (wrap_position sum c ≡ held (x - l)) × Count (held (x - l)) (x - l)
  unfolding wrap_position F64.rem_euclid le
  wrapped i =
      let r = rem_is sum c x l i (omega (arith, short)) (above sum x X.value (omega arith)) (circle_plus c k) X.value C.value in
      let same : rounded (x - l) ≡ x - l = near C X i (omega (arith, short)) in
      let Y : Count (held (x - l)) (x - l) = subst (Count (held (x - l))) same (at_most (x - l) X (sub-le x l)).0 in
      let y = held (x - l) in (
        rw (k.1, worth_finite sum x X.value, r, not_below y (x - l) Y.value, le_not c y l (x - l) C.value Y.value (omega (arith, short))),
        Y,
      )

  round_about : l ≤ x → Count (forward_distance t (wrap_position sum c) c) h
  unfolding WrapTwice
  round_about i =
      let w = wrapped i in
      let y = wrap_position sum c in
      let step = 2 ^ (size g - 53) in
      let Y : Count y (x - l) = rw w.0 w.1 in
      let B : Count (wrap_position y c) (x - l) = rw (wrap_twice sum c k.0) Y in
      let turn : step ∣ x - l = dvd-sub step (steps g X up_from) (steps g C (le_of_lt in-circle)) in
      let back = (exact (g - (x - l)) A (dvd-sub step (steps g A (le_refl g)) turn) (sub-le g (x - l))).kept in
      let way : l - (g - (x - l)) ≡ x - g = omega (arith, short) in
      subst (Count (forward_distance t y c)) (ap (λ (z : ℕ). rounded (l - z)) back ∙ ap rounded way ∙ back_is)
      (turned t y c g (x - l) l k C t_finite (worth_finite y (x - l) Y.value) from B (omega (arith, short)) in-circle)

  pub advanced : Count (forward_distance t (wrap_position sum c) c) h
  advanced = go (ltb x l) refl
    where
      go : (b : Bool) → ltb x l ≡ b → Count (forward_distance t (wrap_position sum c) c) h
      go true i = reached (ltb-true x l i)
      go false i = round_about (ltb-false x l i)

-- ---- the clamp

number : (x : Float) (g : ℕ) → Worth x g → le x x ≡ true
number x g w = le_of x x g g w w (le_refl g)

max_fits : (x y : Float) → T (fits binary64 x) → T (fits binary64 y) → T (fits binary64 (F64.max x y))
unfolding F64.max
max_fits x y p q = cond-fits binary64 (is_nan y) x (cond (lt y x) x y) p (cond-fits binary64 (lt y x) x y p q)

pub clamp_ahead : ClampAhead
unfolding ClampAhead headway_clamp_target WrapTwice
clamp_ahead trailer leader intended headway c k ft fh again = rw (k.1, fh) (go (le advance safe) refl)
  where
    t : Float
    t = wrap_position trailer c

    room : Float
    room = sub binary64 (forward_distance t (wrap_position leader c) c) headway

    safe : Float
    safe = F64.max room F64.zero

    advance : Float
    advance = forward_distance t (wrap_position intended c) c

    go : (b : Bool) → le advance safe ≡ b → le (forward_distance t (cond b (wrap_position intended c) (wrap_position (add binary64 t safe) c)) c) safe ≡ true
    go true h = h
    go false h =
        let C = circle_count c k in
        let l = C.0 in
        let A = wrap_count trailer c l k C.1 ft in
        let D = forward_count t (wrap_position intended c) c l k C.1 in
        let fit = max_fits room F64.zero (sub-fits binary64 (forward_distance t (wrap_position leader c) c) headway) (of_bits-fits binary64 0) in
        let S = count_of safe (truly fit) (max_zero room) (below_finite advance safe (number advance D.0 D.1.value) (max_zero room) h) in
        let less = lt_of_lt_of_le (not_le advance safe D.0 S.0 D.1.value S.1.value h) D.2 in
        let F = advanced t safe c A.0 S.0 l k C.1 A.1 S.1 (wrap_twice trailer c k.0) A.2 less again in
        le_of (forward_distance t (wrap_position (add binary64 t safe) c) c) safe S.0 S.0 F.value S.1.value (le_refl S.0)
