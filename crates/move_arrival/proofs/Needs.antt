-- What the riders and the queue need: the code's folds are the definition's rounds by number. Assumes nothing.
use mathlib.Core.Path.{◌≡◌, refl, sym}
use mathlib.Core.List.{List}
use Prim.Native.Nat.{ℕ}
use native.Mathlib.Omega.{arith}
use lib.ListN.{length, take}
use lib.Ieee.{Float}
use Rattle.std.specs.List.{fold}
use Rattle.std.proofs.lemmas.List.{length-take}
use Rattle.laws.proofs.Folding.{fold_to}
use Rattle.world.specs.World.{stop_position, no_rider}
use Rattle.world.specs.declared.Lamps.{Lamps}
use Rattle.world.specs.Tables.{Queue}
use Rattle.world.specs.declared.Rider.{Rider}
use Rattle.turn.specs.Steps.{unlit}
use Rattle.move_arrival.specs.Arrival.{needing, needing_rider, riders_lamps_to, queue_lamps_to}

module _ (stops : List Float) (stop : Float) (n : ℕ) where
  pub each_rider : (riders : List Rider) (number : ℕ) (xs : List Rider) → xs ≡ take n riders → length xs ≡ n
      → riders_lamps_to riders stops number stop n ≡ fold (λ l r. needing_rider r l stops number stop) unlit xs
  unfolding riders_lamps_to
  each_rider riders number xs e h =
      rw e (sym (fold_to (λ l r. needing_rider r l stops number stop) unlit riders no_rider (riders_lamps_to riders stops number stop) refl (λ k. refl) n
      (omega (arith, length-take n riders, rw e at h))))

  pub each_queued : (queue : Queue ℕ) (l : Lamps) (xs : List ℕ) → xs ≡ take n queue.items → length xs ≡ n
      → queue_lamps_to queue stops l stop n ≡ fold (λ m s. needing m (stop_position stops s) stop) l xs
  unfolding queue_lamps_to
  each_queued queue l xs e h =
      rw e (sym (fold_to (λ m s. needing m (stop_position stops s) stop) l queue.items 0 (queue_lamps_to queue stops l stop) refl (λ k. refl) n
      (omega (arith, length-take n queue.items, rw e at h))))
