-- The searches of the first stop at a position, as the library's `position` and `find` give it. Assumes nothing.
use mathlib.Core.Path.{◌≡◌, refl, sym, ◌∙◌}
use mathlib.Core.Bool.{Bool}
use mathlib.Core.List.{List}
use Prim.Native.Nat.{ℕ, zero, suc, ◌+◌, ◌<◌, ◌≤◌, min}
use native.Mathlib.Numerals.{add-one}
use native.Mathlib.Omega.{arith}
use lib.ListN.{length, get_or, get_or-eq_default, take, drop, length-take}
use lib.Ieee.{Float, nan, of_bits, binary64}
use Rattle.std.proofs.Math.Seq.{drop-cons}
use Rattle.std.specs.List as L
use Rattle.std.specs.List.{find, position_from}
use Rattle.std.proofs.lemmas.Iterator.Adapters.{position_from-zero}
use Rattle.std.specs.declared.option.Option.{Option}
use Rattle.world.specs.World.{stop_position}
use Rattle.world.specs.Tables.{Stops}
use Rattle.world.specs.Parts.{listed}
use Rattle.world.specs.declared.Table.{Table}
use Rattle.stops_lookup.specs.Stops.{is_standing_at, first_standing, find_stop_at_position, find_stop_at_position_in}

module _ (stops : List Float) (position : Float) where
  abbrev test : ℕ → Bool
  test s = is_standing_at (stop_position stops s) position

  -- the first of the m stops from i on
  first_place : (m i : ℕ) → i + m ≤ length stops
      → position_from (λ (stop : Float). is_standing_at stop position) i (take m (drop i stops)) ≡ first_standing stops position (λ s. s) m i
  unfolding first_standing
  first_place zero i h = refl
  first_place (suc m) i h =
      let l : i < length stops = omega arith in
      rw (drop-cons stops i nan, add-one, first_place m (suc i) (omega arith))

  -- the first of the m numbers of a list from i on
  first_listed : (serves : List ℕ) (m i : ℕ) → i + m ≤ length serves
      → find test (take m (drop i serves)) ≡ first_standing stops position (λ j. get_or serves j 0) m i
  unfolding first_standing
  first_listed serves zero i h = refl
  first_listed serves (suc m) i h =
      let l : i < length serves = omega arith in
      rw (drop-cons serves i 0, add-one, first_listed serves m (suc i) (omega arith))

-- what `position` and `find` give
pub place_found : (stops : Stops) (position : Float) (slice : List Float) (r : Option ℕ)
    → slice ≡ listed stops → length slice ≡ min stops.count 64
    → r ≡ L.position (λ (stop : Float). is_standing_at stop position) slice
    → r ≡ find_stop_at_position stops position
unfolding find_stop_at_position
place_found stops position slice r h l e =
    let n : 0 + min stops.count 64 ≤ length stops.items = omega (arith, rw h at l, length-take (min stops.count 64) stops.items) in
    e ∙ position_from-zero (λ (stop : Float). is_standing_at stop position) slice ∙ rw h (first_place stops.items position (min stops.count 64) 0 n)

pub listed_found : (stops : List Float) (position : Float) (serves : Table ℕ 64) (slice : List ℕ) (r : Option ℕ)
    → slice ≡ listed serves → length slice ≡ min serves.count 64
    → r ≡ find (λ (s : ℕ). is_standing_at (stop_position stops s) position) slice
    → r ≡ find_stop_at_position_in stops position serves
unfolding find_stop_at_position_in
listed_found stops position serves slice r h l e =
    let n : 0 + min serves.count 64 ≤ length serves.items = omega (arith, rw h at l, length-take (min serves.count 64) serves.items) in
    e ∙ rw h (first_listed stops position serves.items (min serves.count 64) 0 n)

-- past the table's end there is no position
pub past_the_table : (stops : List Float) (s : ℕ) → length stops ≤ s
    → of_bits binary64 0x7ff8_0000_0000_0000 ≡ stop_position stops s
unfolding of_bits
past_the_table stops s h = sym (get_or-eq_default stops nan h)
