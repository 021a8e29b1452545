-- A tick on a circle ends on it: a landing short of its target is at most the way forward, so the sum that is wrapped
-- is finite. Assumes nothing.
use mathlib.Core.Path.{◌≡◌, refl, sym, ◌∙◌}
use mathlib.Core.Bool.{Bool, true, false, ◌&&◌, ◌||◌, cond}
use Prim.Native.Nat.{ℕ, ◌+◌, ◌-◌, ◌<◌, ◌≤◌}
use native.Mathlib.Nat.{sub-le}
use native.Mathlib.Omega.{arith}
use lib.Dec.{ltb}
use lib.IntN.{ℤ, pos}
use lib.Ieee.{Float, nan, inf, fin, binary64, add, sub, mul, neg, lt, is_nan, of_bits}
use lib.Ieee.Fits.{add-fits}
use borrow.Author.Tests.{ltb-true, ltb-false}
use Rattle.float.specs.Float as F64
use Rattle.float.specs.Facts.{IsF64}
use Rattle.float.proofs.Rounding.{Plus, fits_sign}
use Rattle.float.proofs.Sides.{truly}
use Rattle.laws.proofs.Bools.{no, yes}
use Rattle.motion.specs.Cyclic.{InCircle, wrap_position, forward_distance}
use Rattle.motion.specs.Movement.{arrived_at, tick_movement, tick_movement_cyclic}
use Rattle.motion.specs.declared.movement.MovementResult.{MovementResult}
use Rattle.motion_velocity.specs.Velocity.{fma, new_velocity}
use Rattle.motion_circle.specs.Facts.{WrapInCircle, WrapTwice, TickInCircle}
use Rattle.motion_circle.proofs.Circle.{le_zero_plus, wrap_in_circle}
use Rattle.float.proofs.Units.{held}
use Rattle.motion_circle.proofs.Grains.{rounded, Count, count_of, zero_worth, worth_finite, at_most, plus_held, held_finite, sub_count, sub_below, sub_is, add_count, add_is}
use Rattle.motion_circle.proofs.Shorter.{circle_count, circle_plus, forward_count}
use Rattle.motion_circle.proofs.Ways.{wrap_count, forward_plus}
use Rattle.motion_circle.proofs.Wrapped.{wrap_twice}

-- ---- a landing that did not arrive: the two displacements have one sign

-- the source's test that a landing lies past its goal, from 0: the two displacements' signs are not one
abbrev past : Float → Float → Bool
past goal end = lt F64.epsilon (F64.abs (sub binary64 (F64.signum (sub binary64 goal end)) (F64.signum (sub binary64 goal F64.zero))))

-- a tick's answer that did not arrive is a float, and has not passed its target
Short : Float → MovementResult → Type 0
Short goal r = r.arrived ≡ false
    → IsF64 r.position × (past goal r.position ≡ false)

landing : (velocity goal max_speed acceleration deceleration dt : Float) → Short goal (tick_movement F64.zero velocity goal max_speed acceleration deceleration dt)
unfolding tick_movement Short
landing velocity goal max_speed acceleration deceleration dt = go (lt (F64.abs way) F64.epsilon && lt (F64.abs velocity) F64.epsilon) near (past goal end) refl
  where
    way : Float
    way = sub binary64 goal F64.zero

    speed : Float
    speed = new_velocity way (F64.signum way) velocity max_speed acceleration deceleration dt

    end : Float
    end = fma speed dt F64.zero

    near : Bool
    near = lt (F64.abs (sub binary64 goal end)) F64.epsilon

    go : (s t u : Bool) → past goal end ≡ u → Short goal (cond s (arrived_at goal) (cond (t || u) (arrived_at goal) (record { position = end; velocity = speed; arrived = false })))
    go true t u e h = yes h
    go false true u e h = yes h
    go false false true e h = yes h
    go false false false e h = (truly (add-fits binary64 (mul binary64 speed dt) F64.zero), e)

-- ---- signs

bit : (s u : Bool) → lt F64.epsilon (F64.abs (sub binary64 (fin s 1 (pos 0)) (fin u 1 (pos 0)))) ≡ false → s ≡ u
unfolding lt F64.abs sub add neg of_bits
bit true true h = refl
bit true false h = yes h
bit false true h = yes h
bit false false h = refl

agree : (x y : Float) → is_nan x ≡ false → is_nan y ≡ false → lt F64.epsilon (F64.abs (sub binary64 (F64.signum x) (F64.signum y))) ≡ false
    → F64.is_sign_negative x ≡ F64.is_sign_negative y
unfolding is_nan F64.signum F64.is_sign_negative
agree nan y p q h = yes p
agree (inf s) nan p q h = yes q
agree (inf s) (inf u) p q h = bit s u h
agree (inf s) (fin u n d) p q h = bit s u h
agree (fin s m e) nan p q h = yes q
agree (fin s m e) (inf u) p q h = bit s u h
agree (fin s m e) (fin u n d) p q h = bit s u h

-- a number with no sign, and with one
plus_sign : (x : Float) → Plus x → (is_nan x ≡ false) × (F64.is_sign_negative x ≡ false)
unfolding is_nan F64.is_sign_negative
plus_sign nan p = absurd p
plus_sign (inf s) p = (refl, p)
plus_sign (fin s m e) p = (refl, p)

minus_sign : (x : Float) → Plus x → (is_nan (neg x) ≡ false) × (F64.is_sign_negative (neg x) ≡ true)
unfolding is_nan F64.is_sign_negative neg
minus_sign nan p = absurd p
minus_sign (inf s) p = (refl, rw p)
minus_sign (fin s m e) p = (refl, rw p)

zero_plus : Plus F64.zero
unfolding of_bits
zero_plus = refl

-- a landing beyond a way with no sign would give the other sign
not_past : (x y : Float) (g h : ℕ) → Plus x → Plus y → Count x g → Count y h
    → past x y ≡ false → h ≤ g
not_past x y g h p q X Y e = go (ltb g h) refl
  where
    way : Plus (sub binary64 x F64.zero)
    way = rw (sub_is x F64.zero g 0 (omega arith) p zero_plus X.value zero_worth) (plus_held (g - 0))

    go : (t : Bool) → ltb g h ≡ t → h ≤ g
    go false i = ltb-false g h i
    go true i =
        let m = minus_sign (held (h - g)) (plus_held (h - g)) in
        let b = sub_below x y g h X.value Y.value (ltb-true g h i) in
        let w = plus_sign (sub binary64 x F64.zero) way in
        yes (sym (rw (← b) at m.1) ∙ agree (sub binary64 x y) (sub binary64 x F64.zero) (rw (← b) at m.0) w.0 e ∙ w.1)

-- ---- the sum

negative_finite : (x : Float) (l : ℕ) (d : ℤ) (g : ℕ) → Count x g → IsF64 (fin true l d) → F64.is_finite (add binary64 x (fin true l d)) ≡ true
unfolding F64.is_finite neg sub
negative_finite x l d g X t = go (ltb g h) refl
  where
    y : (h : ℕ) × Count (fin false l d) h
    y = count_of (fin false l d) (fits_sign false true l d ∙ t) (le_zero_plus (fin false l d) refl) refl

    h : ℕ
    h = y.0

    neg_finite : (x : Float) → F64.is_finite x ≡ true → F64.is_finite (neg x) ≡ true
    neg_finite nan f = f
    neg_finite (inf s) f = f
    neg_finite (fin s m e) f = refl

    go : (b : Bool) → ltb g h ≡ b → F64.is_finite (sub binary64 x (fin false l d)) ≡ true
    go true i =
        let r = (at_most (h - g) y.1 (sub-le h g)).0 in
        rw (sub_below x (fin false l d) g h X.value y.1.value (ltb-true g h i)) (neg_finite (held (h - g)) (worth_finite (held (h - g)) (rounded (h - g)) r.value))
    go false i = worth_finite (sub binary64 x (fin false l d)) (rounded (g - h)) (sub_count x (fin false l d) g h X y.1 (ltb-false g h i)).value

pub tick_in_circle : TickInCircle
unfolding TickInCircle tick_movement_cyclic WrapInCircle WrapTwice Short F64.is_finite
tick_in_circle position velocity target max_speed acceleration deceleration dt c k f fp ft fl = rw k.1 (go linear.arrived refl)
  where
    pos : Float
    pos = wrap_position position c

    goal : Float
    goal = wrap_position target c

    way : Float
    way = forward_distance pos goal c

    linear : MovementResult
    linear = tick_movement F64.zero velocity way max_speed acceleration deceleration dt

    C : (g : ℕ) × Count c g
    C = circle_count c k

    l : ℕ
    l = C.0

    P : (g : ℕ) × Count pos g × (g < l)
    P = wrap_count position c l k C.1 fp

    G : (g : ℕ) × Count goal g × (g < l)
    G = wrap_count target c l k C.1 ft

    g : ℕ
    g = P.0

    A : Count (wrap_position pos c) g
    A = rw (wrap_twice position c k.0) P.1

    B : Count (wrap_position goal c) G.0
    B = rw (wrap_twice target c k.0) G.1

    W : (g : ℕ) × Count way g × (g ≤ l)
    W = forward_count pos goal c l k C.1

    plus : Plus c
    plus = circle_plus c k

    finite : {x : Float} {g : ℕ} → Count x g → F64.is_finite x ≡ true
    finite {x} {g} X = worth_finite x g X.value

    doubled : F64.is_finite (add binary64 c c) ≡ true → F64.is_finite (held (l + l)) ≡ true
    doubled f = rw (add_is c c l l plus plus C.1.value C.1.value) at f

    -- the landing is at or above 0
    ahead : (y : Float) (h : ℕ) → Plus y → Count y h
        → past way y ≡ false → F64.is_finite (add binary64 pos y) ≡ true
    ahead y h p Y e = finite (add_count pos y g h P.1 Y (by (ltb 0 g) refl))
      where
        by : (t : Bool) → ltb 0 g ≡ t → F64.is_finite (held (g + h)) ≡ true
        by true i =
            let m = not_past way y W.0 h (forward_plus pos goal c g G.0 l k C.1 (finite P.1) (finite G.1) A B (ltb-true 0 g i) P.2) p W.1 Y e in
            held_finite (g + h) (l + l) (omega (arith, P.2, W.2)) (doubled f)
        by false i = finite (at_most (g + h) Y (omega (arith, ltb-false 0 g i))).0

    sum : (y : Float) → IsF64 y → F64.is_finite y ≡ true
        → past way y ≡ false → F64.is_finite (add binary64 pos y) ≡ true
    sum nan t i e = no i
    sum (inf s) t i e = no i
    sum (fin true m d) t i e = negative_finite pos m d g P.1 t
    sum (fin false m d) t i e = let Y = count_of (fin false m d) t (le_zero_plus (fin false m d) refl) refl in ahead (fin false m d) Y.0 refl Y.1 e

    go : (t : Bool) → linear.arrived ≡ t
        → InCircle (cond t (arrived_at goal) (record { position = wrap_position (add binary64 pos linear.position) c; velocity = linear.velocity; arrived = false })).position c
    go true h = wrap_in_circle target c k ft
    go false h =
        let s = landing velocity way max_speed acceleration deceleration dt h in
        wrap_in_circle (add binary64 pos linear.position) c k (sum linear.position s.0 fl s.1)
