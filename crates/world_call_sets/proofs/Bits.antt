-- A bit of a number: what it leaves room for. Assumes nothing.
use mathlib.Core.Path.{◌≡◌, refl, ap, ◌∙◌}
use mathlib.Core.Bool.{Bool, true, false, cond}
use Prim.Native.Nat.{ℕ, zero, suc, ◌+◌, ◌-◌, ◌*◌, ◌/◌, ◌%◌, ◌<◌, ◌≤◌, ◌^◌}
use native.Mathlib.Nat.{div-add-mod', mod-lt, mul-le-mul_right, div-lt_iff_lt-mul, pow-suc, add-mul, zero-mul, one-mul, div-eq_of_lt, mod-eq_of_lt, pow-succ', div-div-eq-div-mul}
use native.Mathlib.Omega.{arith}
use lib.Dec.{eqb}
use lib.Pow.{pow_pos, pow-add, pow_mono, pow-lt}
use borrow.Author.Tests.{eqb-true, eqb-false}
use Rattle.std.specs.Int.{bit_at}
use Rattle.std.specs.Int.RustNames.{bit_and, bit_or}
use Rattle.std.proofs.lemmas.Nat.{or_disjoint, and-not, and_comm}
use Rattle.std.proofs.lemmas.Nat.Bits.{shr_and_one, and_pow, bit_at-lt, bit_at_or, bit_at-pow_same, bit_at-pow_other, same_from_bits}
use Rattle.world_call_sets.specs.Calls.{is_called}

pub either : {A : Type 0} (b : Bool) → (b ≡ true → A) → (b ≡ false → A) → A
either true f g = f refl
either false f g = g refl

-- a set bit is at most the number
pub bit_held : (calls s : ℕ) → is_called calls s ≡ true → 2 ^ s ≤ calls
unfolding is_called
bit_held calls s h =
    let q = calls / 2 ^ s in
    let one : q % 2 ≡ 1 = eqb-true (q % 2) 1 h in
    let least : 1 * 2 ^ s ≤ q * 2 ^ s = mul-le-mul_right (2 ^ s) (omega arith) in
    omega (arith, div-add-mod' calls (2 ^ s), one-mul (2 ^ s))

-- the bits above the lowest are those of the half
pub called_half : (calls s : ℕ) → is_called calls (suc s) ≡ is_called (calls / 2) s
unfolding is_called
called_half calls s = rw (div-div-eq-div-mul, ← pow-succ')

-- a higher power is an even number of a lower one
pub pow_above : (n s : ℕ) → s < n → 2 ^ n ≡ 2 ^ (n - s - 1) * 2 * 2 ^ s
pow_above n s l =
    let k = n - s - 1 in
    let sum : n ≡ suc k + s = omega arith in
    ap (λ (x : ℕ). 2 ^ x) sum ∙ pow-add 2 (suc k) s ∙ ap (λ (x : ℕ). x * 2 ^ s) (pow-suc 2 k)

-- an unset bit below n leaves room for it below 2 ^ n
pub bit_room : (n calls s : ℕ) → s < n → calls < 2 ^ n → is_called calls s ≡ false → calls + 2 ^ s < 2 ^ n
unfolding is_called
bit_room n calls s l c h =
    let q = calls / 2 ^ s in
    let k = n - s - 1 in
    let whole : 2 ^ n ≡ 2 ^ k * 2 * 2 ^ s = pow_above n s l in
    let under : q < 2 ^ k * 2 = quotient calls (2 ^ k * 2) (2 ^ s) (pow_pos s) (omega arith) in
    let even : (q % 2 ≡ 1 → ⊥) = eqb-false (q % 2) 1 h in
    let two : q + 2 ≤ 2 ^ k * 2 = halves q (2 ^ k) under even in
    let top : (q + 2) * 2 ^ s ≤ 2 ^ k * 2 * 2 ^ s = mul-le-mul_right (2 ^ s) two in
    omega (arith, div-add-mod' calls (2 ^ s), mod-lt calls (pow_pos s), add-mul q 2 (2 ^ s))
  where
    quotient : (x y z : ℕ) → 0 < z → x < y * z → x / z < y
    quotient x y z p h = (div-lt_iff_lt-mul p).1 h

    halves : (q y : ℕ) → q < y * 2 → (q % 2 ≡ 1 → ⊥) → q + 2 ≤ y * 2
    halves q y h e = go (q % 2) refl
      where
        go : (r : ℕ) → q % 2 ≡ r → q + 2 ≤ y * 2
        go zero k = omega (arith, div-add-mod' q 2)
        go (suc zero) k = absurd (e k)
        go (suc (suc r)) k = absurd (omega (arith, mod-lt q {m = 2} (omega arith)))

-- a stop from 64 on has no bit in a number below 2 ^ 64
pub no_bit : (calls s : ℕ) → calls < 2 ^ 64 → 64 ≤ s → is_called calls s ≡ false
unfolding is_called
no_bit calls s c l = let h : calls < 2 ^ s = omega (arith, pow_mono {i = 64} {j = s} l) in rw (div-eq_of_lt h)

-- what the code's `1 << s` is
pub bit_of : (s : ℕ) → s < 64 → 1 * 2 ^ s % 2 ^ 64 ≡ 2 ^ s
bit_of s l =
    let h : 1 * 2 ^ s < 2 ^ 64 = omega (arith, pow-lt {i = s} {j = 64} l, one-mul (2 ^ s)) in
    mod-eq_of_lt h ∙ one-mul (2 ^ s)

-- ---- what the code's bit operators give

pub read_bit : (calls s : ℕ) → is_called calls s ≡ eqb (bit_and (calls / 2 ^ s) 1) 1
unfolding is_called
read_bit calls s = rw (shr_and_one calls s)

-- a bit is 0 or 1, and `is_called` says which
at_true : (calls s : ℕ) → is_called calls s ≡ true → bit_at calls s ≡ 1
unfolding is_called
at_true calls s h = eqb-true (bit_at calls s) 1 h

at_false : (calls s : ℕ) → is_called calls s ≡ false → bit_at calls s ≡ 0
unfolding is_called
at_false calls s h = let l = bit_at-lt calls s in let ne = eqb-false (bit_at calls s) 1 h in omega arith

pub set_bit : (calls s : ℕ) → s < 64
    → bit_or calls (1 * 2 ^ s % 2 ^ 64) ≡ cond (is_called calls s) calls (calls + 2 ^ s)
set_bit calls s l = rw (bit_of s l) (go (is_called calls s) refl)
  where
    go : (t : Bool) → is_called calls s ≡ t → bit_or calls (2 ^ s) ≡ cond t calls (calls + 2 ^ s)
    go false h = or_disjoint calls (2 ^ s) (rw (and_pow calls s, at_false calls s h, zero-mul))
    go true h = same_from_bits (bit_or calls (2 ^ s)) calls at
      where
        at : (i : ℕ) → bit_at (bit_or calls (2 ^ s)) i ≡ bit_at calls i
        at i = either (eqb i s)
            (λ e. rw (eqb-true i s e, bit_at_or calls (2 ^ s) s, bit_at-pow_same s, at_true calls s h))
            (λ e. rw (bit_at_or calls (2 ^ s) i, bit_at-pow_other s i (eqb-false i s e)) (omega arith))

pub clear_bit : (calls s : ℕ) → calls < 2 ^ 64 → s < 64
    → bit_and calls (2 ^ 64 - 1 - 1 * 2 ^ s % 2 ^ 64) ≡ cond (is_called calls s) (calls - 2 ^ s) calls
clear_bit calls s c l = rw (bit_of s l) (go (is_called calls s) refl)
  where
    whole : bit_and calls (2 ^ 64 - 1 - 2 ^ s) + bit_at calls s * 2 ^ s ≡ calls
    whole =
        rw (and_comm calls (2 ^ 64 - 1 - 2 ^ s), ← and_pow calls s, and_comm calls (2 ^ s)) (and-not 64 (2 ^ s) calls (pow-lt {i = s} {j = 64} l) c)

    go : (t : Bool) → is_called calls s ≡ t → bit_and calls (2 ^ 64 - 1 - 2 ^ s) ≡ cond t (calls - 2 ^ s) calls
    go true h = let w = (rw (at_true calls s h, one-mul) at whole) in omega arith
    go false h = let w = (rw (at_false calls s h, zero-mul) at whole) in omega arith
