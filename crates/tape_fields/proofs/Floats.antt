-- A NaN's pattern, with the sign off, is above the infinity's. Assumes nothing.
use mathlib.Core.Path.{◌≡◌, refl, sym, ◌∙◌}
use mathlib.Core.Bool.{true, not}
use Prim.Native.Nat.{ℕ, ◌%◌, ◌<◌, ◌≤◌, ◌^◌}
use lib.Dec.{T}
use lib.Ieee.{Float, nan, inf, fin, binary64, is_nan, of_bits, nan_bits}
use lib.Ieee.Bits.{nan_bits_is, nan_bits_above}
use borrow.Author.Tests.{lt-ltb, le-ltb}
use Rattle.laws.proofs.Bools.{no, fails}

only_nan : (x : Float) → is_nan x ≡ true → nan ≡ x
unfolding is_nan
only_nan nan h = refl
only_nan (inf s) h = no h
only_nan (fin s m e) h = no h

-- the bits of f64::NAN
abbrev quiet : ℕ
quiet = 0x7ff8_0000_0000_0000

pub nan_above : (n : ℕ) → 0x7ff0_0000_0000_0000 < n % 2 ^ 63 → of_bits binary64 quiet ≡ of_bits binary64 n
nan_above n h = is_quiet ∙ only_nan (of_bits binary64 n) (sym (nan_bits_is binary64 n) ∙ nan_bits_above binary64 n ∙ lt-ltb 0x7ff0_0000_0000_0000 (n % 2 ^ 63) h)
  where
    is_quiet : of_bits binary64 quiet ≡ nan
    is_quiet = unfold of_bits in refl

pub number_below : (n : ℕ) → n % 2 ^ 63 ≤ 0x7ff0_0000_0000_0000 → T (not (nan_bits binary64 n))
number_below n h = fails (nan_bits_above binary64 n ∙ le-ltb 0x7ff0_0000_0000_0000 (n % 2 ^ 63) h)
