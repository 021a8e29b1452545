-- f64's methods as the pages of Rust's standard library describe them, over the logic's IEEE 754 (lib.Ieee).
-- There is one nan, with no sign and no payload: what a page says of a NaN's sign or bits cannot be said here.
use Rattle.std.specs.Prelude.{Bool, true, false, not, ◌&&◌, ◌||◌, cond, ℕ, pos, Float}
use Rattle.std.specs.Float.{nan, inf, fin, binary64}
use Rattle.std.specs.Float.Ieee.{add, rem, lt, eq, is_nan, of_bits, to_bits}

-- the source's literals
abbrev pub zero : Float
zero = of_bits binary64 0

abbrev pub one : Float
one = of_bits binary64 0x3ff0_0000_0000_0000

abbrev pub two : Float
two = of_bits binary64 0x4000_0000_0000_0000

-- 1e-9
abbrev pub epsilon : Float
epsilon = of_bits binary64 0x3e11_2e0b_e826_d695

-- f64::abs, "computes the absolute value of self": the sign is cleared, a zero's too
unfoldable pub abs : Float → Float
abs nan = nan
abs (inf s) = inf false
abs (fin s m e) = fin false m e

-- f64::signum, "1.0 if the number is positive, +0.0 or INFINITY; -1.0 if the number is negative, -0.0 or
-- NEG_INFINITY; NaN if the number is NaN"
unfoldable pub signum : Float → Float
signum nan = nan
signum (inf s) = fin s 1 (pos 0)
signum (fin s m e) = fin s 1 (pos 0)

-- f64::is_finite, "true if this number is neither infinite nor NaN"
unfoldable pub is_finite : Float → Bool
is_finite nan = false
is_finite (inf s) = false
is_finite (fin s m e) = true

-- f64::max, "if exactly one of the arguments is NaN, then the other argument is returned".
-- The page leaves open which of +0 and -0 is returned; here it is the second.
unfoldable pub max : Float → Float → Float
max x y = cond (is_nan y) x (cond (lt y x) x y)

-- f64::min, likewise
unfoldable pub min : Float → Float → Float
min x y = cond (is_nan y) x (cond (lt x y) x y)

-- f64::clamp, "max if self is greater than max, and min if self is less than min. Otherwise self".
-- The page leaves open which zero is returned where the result is zero and zeros of both signs are among the three;
-- here it is what the source's two tests give. It panics where min > max or one of them is NaN; here the same two
-- tests give an answer.
unfoldable pub clamp : Float → Float → Float → Float
clamp x least most = let y = cond (lt x least) least x in cond (lt most y) most y

-- f64::rem_euclid, "the least nonnegative remainder of self when divided by rhs", by its source: r = self % rhs, and
-- r + |rhs| if r < 0
unfoldable pub rem_euclid : Float → Float → Float
rem_euclid x rhs = let r = rem binary64 x rhs in cond (lt r zero) (add binary64 r (abs rhs)) r

-- f64::is_sign_negative, "true if self has a negative sign, including -0.0"; the one nan is taken as positive
unfoldable pub is_sign_negative : Float → Bool
is_sign_negative nan = false
is_sign_negative (inf s) = s
is_sign_negative (fin s m e) = s

-- f64::total_cmp is Less. The page's order: negative infinity, negative numbers, negative zero, positive zero,
-- positive numbers, positive infinity, positive NaN. The one nan is taken as positive; a negative NaN, which stands
-- first there, has no name here.
unfoldable pub is_total_before : Float → Float → Bool
is_total_before x y =
    cond (eq x y) (is_sign_negative x && not (is_sign_negative y)) (lt x y || (not (is_nan x) && is_nan y))

-- f64::to_bits of a number, and 0 at the nan, whose bits are left open
unfoldable pub number_bits : Float → ℕ
number_bits x = cond (is_nan x) 0 (to_bits binary64 x)
