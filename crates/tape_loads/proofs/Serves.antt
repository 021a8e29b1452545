-- A line's count of served stops is at most 64; its served words are the items of a slice. Assumes nothing.
use Rattle.std.proofs.Common.{◌≡◌, ◌∙◌, ◌+◌, ◌-◌, ◌<◌, ℕ, zero, suc, Bool, true, false, not, cond, ltb, eqb, ◌&&◌, ◌≤◌, refl, List, arith, length, get_or, get_or-take, get_or-drop, take, drop}
use Rattle.std.proofs.lemmas.List.{length-take}
use mathlib.Core.Bool.{or-true}
use mathlib.Core.Logic.{⊎_elim}
use native.Mathlib.Nat.{eq-or-lt_of_le, le_of_suc-le-suc}
use borrow.Author.Tests.{lt-ltb, ltb-false}
use Rattle.laws.proofs.Bools.{yes}
use Rattle.tape_loads.specs.LoadRecords.{serves_count, has_stop_outside}

small : (a b : Bool) → (a && not b) ≡ false → b ≡ false → a ≡ false
small true true h e = yes e
small true false h e = yes h
small false b h e = refl

pub count_small : (v : ℕ) → (ltb 64 v && not (eqb v 65535)) ≡ false → serves_count v ≤ 64
unfolding serves_count
count_small v h = go (eqb v 65535) refl
  where
    go : (b : Bool) → eqb v 65535 ≡ b → cond b 0 v ≤ 64
    go true e = omega arith
    go false e = ltb-false 64 v (small (ltb 64 v) (eqb v 65535) h e)

-- one that is no stop's number makes the list outside
outside_at : (ws : List ℕ) (n i : ℕ) → i < n → 63 < get_or ws (5 + i) 0 → has_stop_outside ws n ≡ true
unfolding has_stop_outside
outside_at ws zero i h k = absurd (omega arith)
outside_at ws (suc n) i h k =
    ⊎_elim (λ q. rw (← q, lt-ltb 63 (get_or ws (5 + i) 0) k, or-true (has_stop_outside ws i))) (λ l. rw (outside_at ws n i l k)) (eq-or-lt_of_le (le_of_suc-le-suc h))

pub served : (ws : List ℕ) (count i : ℕ) → i < length (take (5 + count - 5) (drop 5 ws))
    → get_or (take (5 + count - 5) (drop 5 ws)) i 0 ≡ get_or ws (5 + i) 0
served ws count i h =
    get_or-take (5 + count - 5) (drop 5 ws) i 0 (omega (arith, h, length-take (5 + count - 5) (drop 5 ws))) ∙ get_or-drop 5 ws i 0

pub served_outside : (ws : List ℕ) (count i : ℕ) → i < length (take (5 + count - 5) (drop 5 ws))
    → 63 < get_or (take (5 + count - 5) (drop 5 ws)) i 0 → has_stop_outside ws count ≡ true
served_outside ws count i h k = outside_at ws count i (omega (arith, h, length-take (5 + count - 5) (drop 5 ws))) (rw (← served ws count i h) k)
