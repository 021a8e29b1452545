-- Counting by a test. Assumes nothing.
use mathlib.Core.Path.{◌≡◌}
use mathlib.Core.Bool.{Bool, true, false}
use mathlib.Core.List.{List, [], ◌∷◌, ◌++◌}
use Prim.Native.Nat.{◌+◌, ◌≤◌}
use native.Mathlib.Omega.{arith}
use lib.ListN.{length}
use Rattle.laws.specs.Numbers.{bit}
use Rattle.laws.specs.Counting.{how_many}

pub bit_small : (b : Bool) → bit b ≤ 1
bit_small true = omega arith
bit_small false = omega arith

-- each is counted once at most
pub how_many_few : {A : Type 0} (test : A → Bool) (xs : List A) → how_many test xs ≤ length xs
unfolding how_many
how_many_few test [] = omega arith
how_many_few test (x ∷ xs) = omega (arith, bit_small (test x), how_many_few test xs)

-- counting in parts is counting the whole
pub how_many_append : {A : Type 0} (test : A → Bool) (xs ys : List A)
    → how_many test (xs ++ ys) ≡ how_many test xs + how_many test ys
unfolding how_many
how_many_append test [] ys = omega arith
how_many_append test (x ∷ xs) ys = omega (arith, how_many_append test xs ys)
