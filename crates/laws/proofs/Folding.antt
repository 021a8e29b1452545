-- A fold over the first items of a list, by their numbers, and whether one of them passes a test. Assumes nothing.
use mathlib.Core.Path.{◌≡◌}
use mathlib.Core.Bool.{Bool, false, ◌||◌}
use mathlib.Core.List.{List}
use Prim.Native.Nat.{ℕ, zero, suc, ◌≤◌}
use native.Mathlib.Numerals.{add-one}
use native.Mathlib.Omega.{arith}
use lib.ListN.{length, take, get_or}
use Rattle.std.specs.List.{fold, list_any}
use Rattle.std.proofs.lemmas.List.Folds.{list_any_more}
use Rattle.std.proofs.lemmas.List.Sums.{fold_more}

-- where `g n` is what the first n items come to, one at a time
pub fold_to : {X Y : Type 0} (f : Y → X → Y) (a : Y) (xs : List X) (d : X) (g : ℕ → Y)
    → a ≡ g 0 → ((k : ℕ) → f (g k) (get_or xs k d) ≡ g (suc k)) → (n : ℕ) → n ≤ length xs → fold f a (take n xs) ≡ g n
fold_to f a xs d g none more zero h = none
fold_to f a xs d g none more (suc n) h = rw (← more n, ← fold_to f a xs d g none more n (omega arith), ← fold_more f a xs n d h) (rw add-one)

-- where `g n` is whether one of the first n passes the test
pub list_any_to : {X : Type 0} (p : X → Bool) (xs : List X) (d : X) (g : ℕ → Bool)
    → false ≡ g 0 → ((k : ℕ) → (g k || p (get_or xs k d)) ≡ g (suc k)) → (n : ℕ) → n ≤ length xs
    → list_any p (take n xs) ≡ g n
list_any_to p xs d g none more zero h = none
list_any_to p xs d g none more (suc n) h = rw (← more n, ← list_any_to p xs d g none more n (omega arith), ← list_any_more p xs n d h) (rw add-one)
