-- A wrapped position is wrapped already: where it was rounded it is an f64 in [0, c), which is its own remainder.
-- Assumes nothing.
use mathlib.Core.Path.{◌≡◌, refl, sym}
use mathlib.Core.Bool.{Bool, true, false}
use Prim.Native.Nat.{◌*◌, ◌%◌}
use lib.Dec.{T, eqb}
use lib.Ieee.{Float, nan, inf, fin, binary64, up, down, round, add, rem, lt, le, fits}
use lib.Ieee.Fits.{cond-fits, nan-fits, round-fits, add-fits}
use lib.Ieee.Bits.{of_bits-fits}
use Rattle.float.specs.Float as F64
use Rattle.float.specs.Facts.{IsF64}
use Rattle.float.proofs.Sides.{truly}
use Rattle.laws.proofs.Bools.{no, yes}
use Rattle.motion.specs.Cyclic.{is_degenerate, wrap_position}
use Rattle.motion.proofs.Inside.{wrap_inside}
use Rattle.motion_circle.specs.Facts.{WrapInCircle, WrapTwice}
use Rattle.motion_circle.proofs.Circle.{wrap_in_circle}

-- the remainder of two finite floats is rounded
rem_fits : (x y : Float) → F64.is_finite x ≡ true → F64.is_finite y ≡ true → T (fits binary64 (rem binary64 x y))
unfolding rem F64.is_finite
rem_fits nan y p q = no p
rem_fits (inf s) y p q = no p
rem_fits (fin s m e) nan p q = no q
rem_fits (fin s m e) (inf u) p q = no q
rem_fits (fin s m e) (fin u n d) p q =
    let a = m * up e * down d % (n * up d * down e) in
    cond-fits binary64 (eqb n 0) nan (round binary64 s a (down e * down d)) (nan-fits binary64) (round-fits binary64 s a (down e * down d))

pub circle_finite : (c : Float) → is_degenerate c ≡ false → F64.is_finite c ≡ true
unfolding F64.is_finite
circle_finite nan h = yes h
circle_finite (inf u) h = yes h
circle_finite (fin u n d) h = refl

-- so a finite position is wrapped to an f64
pub wrap_fits : (p c : Float) → is_degenerate c ≡ false → F64.is_finite p ≡ true → IsF64 (wrap_position p c)
unfolding wrap_position F64.rem_euclid
wrap_fits p c h f =
    let r = rem binary64 p c in
    rw (h, f) (truly (cond-fits binary64 (le c (F64.rem_euclid p c)) F64.zero (F64.rem_euclid p c) (of_bits-fits binary64 0)
    (cond-fits binary64 (lt r F64.zero) (add binary64 r (F64.abs c)) r (add-fits binary64 r (F64.abs c)) (rem_fits p c f (circle_finite c h)))))

pub wrap_twice : WrapTwice
unfolding WrapTwice WrapInCircle wrap_position
wrap_twice p c t = go (is_degenerate c) (F64.is_finite p) refl refl
  where
    go : (x y : Bool) → is_degenerate c ≡ x → F64.is_finite p ≡ y → wrap_position (wrap_position p c) c ≡ wrap_position p c
    go true y h f = rw h
    go false false h f = rw (h, f, f)
    go false true h f = sym (wrap_inside (wrap_position p c) c (wrap_fits p c h f) (wrap_in_circle p c (t, h) f))
