-- The fact of specs/Facts.antt about the headway clamp: its answer lies on the circle, being wrapped; the sum that is
-- wrapped is of two lengths from 0 to c, so it is finite where c + c is. Assumes nothing.
use mathlib.Core.Logic.{inl, inr}
use mathlib.Core.Path.{◌≡◌, refl, sym, ap, ◌∙◌}
use mathlib.Core.Bool.{Bool, true, false, cond}
use Prim.Native.Nat.{ℕ, suc, ◌+◌, ◌*◌, ◌≤◌}
use native.Mathlib.Nat.{mul-pos, mul_assoc, mul-le-mul_right, le_of_lt, le_trans, le_of_eq, mul_right_comm, add-mul}
use native.Mathlib.Omega.{arith}
use lib.Dec.{T}
use lib.IntN.{ℤ}
use lib.Ieee.{Float, nan, inf, fin, binary64, up, down, round, sum, add, sub, lt, le, eq, is_nan, fits, of_bits}
use lib.Ieee.Fits.{down_pos}
use lib.Ieee.Order.{round_mono}
use lib.Ieee.Positive.{through}
use Rattle.float.specs.Float as F64
use Rattle.motion.specs.Cyclic.{InCircle, wrap_position, forward_distance}
use Rattle.motion.specs.Movement.{headway_clamp_target}
use Rattle.motion_circle.specs.Facts.{IsCircle, WrapInCircle, ForwardInCircle, HeadwayInCircle}
use Rattle.laws.proofs.Bools.{no, yes, holds}
use Rattle.float.proofs.Rounding.{Plus, plus_round, Within, le_nat}
use Rattle.float.proofs.Cases.{placed_minus}
use Rattle.float.proofs.Sides.{over}
use Rattle.motion_circle.proofs.Circle.{le_zero_plus, on_circle, lt_nat, wrap_in_circle, Placed, placed, over_one, signed_within, forward_in_circle}

-- max of anything and 0 is at or above 0
pub max_zero : (x : Float) → le F64.zero (F64.max x F64.zero) ≡ true
unfolding F64.max is_nan of_bits le
max_zero x = go (lt F64.zero x) refl
  where
    go : (b : Bool) → lt F64.zero x ≡ b → le F64.zero (cond b x F64.zero) ≡ true
    go true h = rw h
    go false h = le_zero_plus F64.zero refl

-- what is at or above 0, and not at or above something that is at most c
short : (adv x : Float) (n : ℕ) (d : ℤ) → le adv (fin false n d) ≡ true → le F64.zero x ≡ true → le adv x ≡ false → Placed x n d
unfolding le lt eq of_bits
short nan x n d p q h = no p
short (inf false) x n d p q h = no p
short (inf true) nan n d p q h = no q
short (inf true) (inf true) n d p q h = no q
short (inf true) (inf false) n d p q h = yes h
short (inf true) (fin s m e) n d p q h = yes h
short (fin u l g) nan n d p q h = no q
short (fin u l g) (inf true) n d p q h = no q
short (fin u l g) (inf false) n d p q h = yes h
short (fin true l g) (fin true m e) n d p q h = placed_minus m e q
short (fin false l g) (fin true m e) n d p q h = placed_minus m e q
short (fin true l g) (fin false m e) n d p q h = yes (sym (over (fin false m e) l g refl) ∙ h)
short (fin false l g) (fin false m e) n d p q h =
    through (m * up e) (l * up g) (n * up d) (down e) (down g) (down d) (down_pos g) (le_of_lt (lt_nat (l * up g * down e) (m * up e * down g) h))
    (le_nat (l * up g * down d) (n * up d * down g) (holds p))

within_finite : (x : Float) (n : ℕ) (d : ℤ) → Within x n d → F64.is_finite x ≡ true
unfolding F64.is_finite
within_finite nan n d w = absurd w
within_finite (inf s) n d w = absurd w
within_finite (fin s m e) n d w = refl

pub finite_below : (x y : Float) → Plus x → T (le x y) → F64.is_finite y ≡ true → F64.is_finite x ≡ true
unfolding le F64.is_finite
finite_below nan y p t f = absurd p
finite_below (inf true) y p t f = yes p
finite_below (inf false) nan p t f = no f
finite_below (inf false) (inf u) p t f = no f
finite_below (inf false) (fin u n d) p t f = absurd t
finite_below (fin s m e) y p t f = refl

-- the sum of two floats from 0 to c is finite where c + c is
doubled : (a b w d k : ℕ) → a * d ≤ w * k → b * d ≤ w * k → (a + b) * (d * d) ≤ (w * d + w * d) * k
doubled a b w d k p q =
    let both : (a + b) * d ≤ w * k + w * k = rw (add-mul a b d) (omega arith) in
    let right : (w * k + w * k) * d ≡ (w * d + w * d) * k = add-mul (w * k) (w * k) d ∙ ap (λ (x : ℕ). x + x) (mul_right_comm w k d) ∙ sym (add-mul (w * d) (w * d) k) in
    le_trans (le_of_eq (sym (mul_assoc (a + b) d d))) (le_trans (mul-le-mul_right d both) (le_of_eq right))

sum_finite : (x y : Float) (n : ℕ) (d : ℤ) → T (fits binary64 (fin false (suc n) d)) → Placed x (suc n) d → Placed y (suc n) d
    → F64.is_finite (add binary64 (fin false (suc n) d) (fin false (suc n) d)) ≡ true → F64.is_finite (add binary64 x y) ≡ true
unfolding add sum
sum_finite nan y n d t p q f = absurd p
sum_finite (inf s) y n d t p q f = absurd p
sum_finite (fin s m e) nan n d t p q f = absurd q
sum_finite (fin s m e) (inf u) n d t p q f = absurd q
sum_finite (fin false m e) (fin false l g) n d t p q f =
    let a = m * up e * down g in
    let b = l * up g * down e in
    let c = suc n * up d * down d in
    let k = down e * down g in
    let z = over_one false m e false l g (suc n) d p q in
    finite_below (round binary64 false (a + b) k) (round binary64 false (c + c) (down d * down d)) (plus_round (a + b) k)
    (round_mono binary64 (a + b) k (c + c) (down d * down d) (mul-pos (down_pos e) (down_pos g)) (mul-pos (down_pos d) (down_pos d)) (doubled a b (suc n * up d) (down d) k z.0 z.1)) f
sum_finite (fin false m e) (fin true l g) n d t p q f =
    within_finite _ (suc n) d (signed_within false m e true l g n d t (over_one false m e true l g (suc n) d p q) (λ h. inr q))
sum_finite (fin true m e) (fin u l g) n d t p q f =
    within_finite _ (suc n) d (signed_within true m e u l g n d t (over_one true m e u l g (suc n) d p q) (λ h. inl p))

headway_at : (trailer leader intended headway : Float) (n : ℕ) (d : ℤ) → IsCircle (fin false (suc n) d)
    → F64.is_finite (add binary64 (fin false (suc n) d) (fin false (suc n) d)) ≡ true → F64.is_finite trailer ≡ true → F64.is_finite intended ≡ true → F64.is_finite headway ≡ true
    → InCircle (headway_clamp_target trailer leader intended headway (fin false (suc n) d)) (fin false (suc n) d)
unfolding headway_clamp_target WrapInCircle ForwardInCircle
headway_at trailer leader intended headway n d k f ft fi fh = rw (k.1, fh) (go (le advance safe) refl)
  where
    c : Float
    c = fin false (suc n) d

    from : Float
    from = wrap_position trailer c

    advance : Float
    advance = forward_distance from (wrap_position intended c) c

    safe : Float
    safe = F64.max (sub binary64 (forward_distance from (wrap_position leader c) c) headway) F64.zero

    go : (b : Bool) → le advance safe ≡ b → InCircle (cond b (wrap_position intended c) (wrap_position (add binary64 from safe) c)) c
    go true h = wrap_in_circle intended c k fi
    go false h =
        let w = wrap_in_circle trailer c k ft in
        let far = (forward_in_circle from (wrap_position intended c) c k).1 in
        let sum = sum_finite from safe n d (holds k.0) (placed from (suc n) d w.0 w.1) (short advance safe (suc n) d far (max_zero _) h) f in
        wrap_in_circle (add binary64 from safe) c k sum

pub headway_in_circle : HeadwayInCircle
unfolding HeadwayInCircle
headway_in_circle trailer leader intended headway c k f ft fi fh =
    on_circle (λ c. F64.is_finite (add binary64 c c) ≡ true → InCircle (headway_clamp_target trailer leader intended headway c) c)
    (λ n d k f. headway_at trailer leader intended headway n d k f ft fi fh) c k f
