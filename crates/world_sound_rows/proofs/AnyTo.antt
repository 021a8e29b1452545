-- Whether one of a table's items passes a test: a look through its slice is the definition's by number. Assumes
-- nothing.
use Rattle.std.proofs.Common.{◌≡◌, ◌≤◌, ◌<◌, ℕ, zero, suc, Bool, List, length, get_or, take, min, refl, arith, length-take}
use mathlib.Core.Bool.{false, ◌||◌}
use mathlib.Core.Logic.{⊎_elim}
use Rattle.std.specs.List.{fold, list_any}
use Rattle.std.proofs.lemmas.Bool.{cases_eq}
use Rattle.laws.proofs.Bools.{or_left, or_right}
use Rattle.laws.proofs.Folding.{fold_to, list_any_to}
use Rattle.world.specs.Parts.{listed}
use Rattle.world.specs.declared.Table.{Table}
use Rattle.world_sound_rows.specs.Rows.{is_any_below}

-- of the items that are there, where their count is not above the table's size
module _ {X : Type 0} {m : ℕ} (p : X → Bool) (t : Table X m) (d : X) where
  all_there : {xs : List X} → xs ≡ listed t → length xs ≡ min t.count m → t.count ≤ m → (t.count ≤ length t.items) × (xs ≡ take t.count t.items)
  all_there e h few =
      let all : min t.count m ≡ t.count = omega (arith, few) in
      (omega (arith, length-take (min t.count m) t.items, rw e at h), rw (e, all))

  pub any_of_table : {xs : List X} → xs ≡ listed t → length xs ≡ min t.count m → t.count ≤ m
      → list_any p xs ≡ is_any_below (λ k. p (get_or t.items k d)) t.count
  unfolding is_any_below
  any_of_table e h few =
      let a = all_there e h few in rw a.1 (list_any_to p t.items d (is_any_below (λ k. p (get_or t.items k d))) refl (λ k. refl) t.count a.0)

  pub fold_of_table : {xs : List X} → xs ≡ listed t → length xs ≡ min t.count m → t.count ≤ m
      → fold (λ found x. found || p x) false xs ≡ is_any_below (λ k. p (get_or t.items k d)) t.count
  unfolding is_any_below
  fold_of_table e h few =
      let a = all_there e h few in rw a.1 (fold_to (λ found x. found || p x) false t.items d (is_any_below (λ k. p (get_or t.items k d))) refl (λ k. refl) t.count a.0)

-- none of the first n
pub none_to : (f : ℕ → Bool) (n : ℕ) → ((k : ℕ) → k < n → f k ≡ false) → is_any_below f n ≡ false
unfolding is_any_below
none_to f zero h = refl
none_to f (suc n) h = rw (none_to f n (λ k l. h k (omega arith)), h n (omega arith))

pub none_of : (f : ℕ → Bool) (n : ℕ) → is_any_below f n ≡ false → (k : ℕ) → k < n → f k ≡ false
unfolding is_any_below
none_of f zero h k l = absurd (omega arith)
none_of f (suc n) h k l =
    ⊎_elim (λ (e : k ≡ n). rw e (or_right (is_any_below f n) (f n) h)) (λ (e : k ≡ n → ⊥). none_of f n (or_left (is_any_below f n) (f n) h) k (omega (arith, e))) (cases_eq k n)
