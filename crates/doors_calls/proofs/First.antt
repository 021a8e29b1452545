-- Calls cleared for the first cars of a table are those cleared for its slice of them. Assumes nothing.
use mathlib.Core.Path.{◌≡◌, refl}
use mathlib.Core.List.{List}
use Prim.Native.Nat.{ℕ, zero, suc, ◌≤◌, min}
use native.Mathlib.Omega.{arith}
use lib.ListN.{length, take}
use Rattle.std.proofs.lemmas.List.{get_or-take, length-take}
use Rattle.std.specs.declared.option.Option.{Option}
use Rattle.turn.specs.Steps.{not_opened}
use Rattle.turn.specs.declared.JustOpened.{JustOpened}
use Rattle.world.specs.declared.HallCalls.{HallCalls}
use Rattle.doors_calls.specs.Clearing.{clear_to, clear_words_to}
use Rattle.doors_calls.specs.Parts.{Clears}
use Rattle.log_writes.specs.Parts.{Log}

module _ (os : List (Option JustOpened)) (h : HallCalls) (m : ℕ) where
  first_cleared : (n : ℕ) → n ≤ m → clear_to (take m os) h n ≡ clear_to os h n
  unfolding clear_to
  first_cleared zero l = refl
  first_cleared (suc n) l = rw (first_cleared n (omega arith), get_or-take m os n not_opened (omega arith))

  first_told : (n : ℕ) → n ≤ m → clear_words_to (take m os) h n ≡ clear_words_to os h n
  unfolding clear_words_to
  first_told zero l = refl
  first_told (suc n) l = rw (first_told n (omega arith), first_cleared n (omega arith), get_or-take m os n not_opened (omega arith))

  pub first : {l l' : Log} {r : HallCalls} → m ≤ 16 → m ≤ length os
      → Clears (clear_to (take m os) h (min (length (take m os)) 16))
      (clear_words_to (take m os) h (min (length (take m os)) 16)) l l' r
      → Clears (clear_to os h m) (clear_words_to os h m) l l' r
  first low here k =
      let e : min (length (take m os)) 16 ≡ m = simp length-take (omega (arith, low, here)) in
      rw (e, first_cleared m (omega arith), first_told m (omega arith)) at k
