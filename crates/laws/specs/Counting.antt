-- Counting in a list.
use Rattle.std.specs.Prelude.{Bool, List, [], ◌∷◌, ℕ, ◌+◌}
use Rattle.laws.specs.Numbers.{bit}

-- how many of a list meet the test
unfoldable pub how_many : {A : Type 0} → (A → Bool) → List A → ℕ
how_many test [] = 0
how_many test (x ∷ xs) = bit (test x) + how_many test xs
