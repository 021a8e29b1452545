-- The shorter way round is at most half the circle: where the way forward is more than half, c minus it is exact.
-- Assumes nothing.
use mathlib.Core.Path.{◌≡◌, refl}
use mathlib.Core.Bool.{Bool, true, false, not, ◌||◌, cond}
use Prim.Native.Nat.{ℕ, suc, ◌+◌, ◌-◌, ◌≤◌}
use native.Mathlib.Omega.{arith}
use lib.Dec.{ltb, leb}
use lib.Ieee.{Float, nan, inf, fin, binary64, add, sub, lt, le, is_nan, of_bits}
use lib.Ieee.Fits.{cond-fits, add-fits, sub-fits}
use lib.Ieee.Bits.{of_bits-fits}
use borrow.Author.Tests.{ltb-true, ltb-false, leb-true, leb-false}
use Rattle.float.specs.Float as F64
use Rattle.float.specs.Facts.{IsF64}
use Rattle.float.proofs.Rounding.{Plus}
use Rattle.float.proofs.Sides.{truly}
use Rattle.laws.proofs.Bools.{no}
use Rattle.motion.specs.Cyclic.{is_degenerate, wrap_position, forward_distance, cyclic_distance}
use Rattle.motion_circle.specs.Facts.{IsCircle, ForwardInCircle, TwiceCyclic}
use Rattle.motion_circle.proofs.Circle.{le_zero_plus, on_circle, forward_in_circle}
use Rattle.motion_circle.proofs.Wrapped.{circle_finite}
use Rattle.float.proofs.Units.{held}
use Rattle.motion_circle.proofs.Grains.{rounded, Worth, Count, count_of, worth_finite, lt_is, le_of, of_le, at_most, sub_count, add_count, near}

pub circle_plus : (c : Float) → IsCircle c → Plus c
circle_plus = on_circle Plus (λ n d k. refl)

pub circle_count : (c : Float) → IsCircle c → (g : ℕ) × Count c g
unfolding F64.is_finite
circle_count = on_circle (λ c. (g : ℕ) × Count c g) (λ n d k. count_of (fin false (suc n) d) k.0 (le_zero_plus (fin false (suc n) d) refl) refl)

-- what lies from 0 to a finite float is finite
pub finite_between : (x c : Float) → le F64.zero x ≡ true → le x c ≡ true → F64.is_finite c ≡ true
    → F64.is_finite x ≡ true
unfolding le of_bits F64.is_finite
finite_between nan c p q f = no p
finite_between (inf true) c p q f = no p
finite_between (inf false) nan p q f = no q
finite_between (inf false) (inf u) p q f = no f
finite_between (inf false) (fin u n d) p q f = no q
finite_between (fin s m e) c p q f = refl

-- ---- the way forward

forward_fits : (a b c : Float) → IsF64 (forward_distance a b c)
unfolding forward_distance
forward_fits a b c =
    let d = sub binary64 (wrap_position b c) (wrap_position a c) in
    truly (cond-fits binary64 (is_degenerate c || not (F64.is_finite a) || not (F64.is_finite b)) F64.zero (cond (lt d F64.zero) (add binary64 d c) d) (of_bits-fits binary64 0)
    (cond-fits binary64 (lt d F64.zero) (add binary64 d c) d (add-fits binary64 d c) (sub-fits binary64 (wrap_position b c) (wrap_position a c))))

pub forward_count : (a b c : Float) (h : ℕ) → IsCircle c → Count c h
    → (g : ℕ) × Count (forward_distance a b c) g × (g ≤ h)
unfolding ForwardInCircle
forward_count a b c h k C =
    let f = forward_distance a b c in
    let i = forward_in_circle a b c k in
    let F = count_of f (forward_fits a b c) i.0 (finite_between f c i.0 i.1 (circle_finite c k.1)) in
    (F.0, F.1, of_le f c F.0 h F.1.value C.value i.1)

-- ---- the shorter way

number : (x : Float) (g : ℕ) → Worth x g → is_nan x ≡ false
unfolding is_nan
number nan g w = absurd w
number (inf s) g w = refl
number (fin s m e) g w = refl

abbrev pub least : ℕ → ℕ → ℕ
least g h = cond (ltb g h) g h

min_count : (x y : Float) (g h : ℕ) → Count x g → Count y h → Count (F64.min x y) (least g h)
unfolding F64.min
min_count x y g h p q = rw (number y h q.value, lt_is x y g h p.value q.value) (go (ltb g h))
  where
    go : (t : Bool) → Count (cond t x y) (cond t g h)
    go true = p
    go false = q

pub cyclic_count : (a b c : Float) (g h : ℕ) → IsCircle c → Count c h → Count (forward_distance a b c) g → g ≤ h
    → Count (cyclic_distance a b c) (least g (rounded (h - g)))
unfolding cyclic_distance
cyclic_count a b c g h k C F l =
    let f = forward_distance a b c in
    rw k.1 (min_count f (sub binary64 c f) g (rounded (h - g)) F (sub_count c f h g C F l))

-- f or h - f is at most half of h
half : (f g h : ℕ) → f ≤ h → (h ≤ f + f → g ≡ h - f) → least f g + least f g ≤ h
half f g h l m = go (ltb f g) (leb h (f + f)) refl refl
  where
    go : (t u : Bool) → ltb f g ≡ t → leb h (f + f) ≡ u → cond t f g + cond t f g ≤ h
    go true true i j = omega (arith, ltb-true f g i, m (leb-true h (f + f) j))
    go false true i j = omega (arith, leb-true h (f + f) j, m (leb-true h (f + f) j))
    go true false i j = omega (arith, leb-false h (f + f) j)
    go false false i j = omega (arith, ltb-false f g i, leb-false h (f + f) j)

pub twice_cyclic : TwiceCyclic
unfolding TwiceCyclic
twice_cyclic a b c k =
    let x = cyclic_distance a b c in
    let C = circle_count c k in
    let h = C.0 in
    let F = forward_count a b c h k C.1 in
    let f = F.0 in
    let g = least f (rounded (h - f)) in
    let D = cyclic_count a b c f h k C.1 F.1 F.2 in
    let m = at_most (g + g) C.1 (half f (rounded (h - f)) h F.2 (near F.1 C.1 F.2)) in
    let S = add_count x x g g D D (worth_finite (held (g + g)) (rounded (g + g)) m.0.value) in
    le_of (add binary64 x x) c (rounded (g + g)) h S.value C.1.value m.1
