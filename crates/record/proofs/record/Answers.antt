-- `record::record` meets its contract: the refusals, what was read, and a tick by the two loops. Assumes nothing.
use Rattle.std.proofs.Common.{◌≡◌, ℕ, ◌+◌, ◌≤◌, min, false, List, sym, refl, ap, ◌∙◌, inl, inr, arith, rules}
use Rattle.log_writes.proofs.Written.{written_none, written_also}
use Rattle.log_writes.specs.Parts.{Log}
use Rattle.world_sound.specs.Sound.{is_broken}
use Rattle.world.specs.World.{car_at}
use Rattle.world.specs.declared.World.{World}
use Rattle.world.specs.declared.Line.{Line}
use Rattle.turn.specs.Steps.{Turn, turn_of, run_to}
use Rattle.std.specs.declared.option.Option.{Option}
use Rattle.turn.specs.declared.JustOpened.{JustOpened}
use Rattle.laws.specs.Numbers.{plus}
use Rattle.doors_turn.proofs.Running.{Runs, same, more, turn_on_lem, door_step_lem, passed, ended}
use Rattle.move_turn.proofs.Moving.{Moves, cars_kept, calls_kept, doored_after, looked, comes_in, goes_on_lem, stays}
use Rattle.tick.specs.Tick.{with_next_tick, tick_world, tick_words}
use Rattle.record.proofs.Giving.{gives_broken, is_whole, is_refused, is_made, tick_refused, tick_taken_lem}
use Rattle.record.proofs.record.Goals as goal
use Rattle.record.proofs.record.Goals.{Else-is_broken, then-has_trip+then-landed, then-has_trip+else-landed, else-has_trip, then-is_direction_asked, else-is_direction_asked, then-has_turn, else-has_turn, then-car-ne0, else-car-ne0}

-- ---- counts by another name

moves_at : {turn : World → ℕ → Turn} {world w : World} {l l' : Log} {i j : ℕ} → Moves turn world l i w l' → i ≡ j → Moves turn world l j w l'
moves_at k e = rw (← e) k

runs_at : {turn : World → ℕ → Turn} {world w : World} {l l' : Log} {i j : ℕ} {os : List (Option JustOpened)} → Runs turn world l i w os l' → i ≡ j
    → Runs turn world l j w os l'
runs_at k e = rw (← e) k

-- ---- refusals

whole : (c : Else-is_broken) → is_broken c.args.world ≡ false
whole c = sym c.is_broken.ensures ∙ c.if-is_broken.false

pub returns-then-is_broken : goal.returns-then-is_broken
returns-then-is_broken c = gives_broken c.args.world _ _ (sym c.is_broken.ensures ∙ c.if-is_broken.true) c.refused.ensures

pub returns-in-Err : goal.returns-in-Err
returns-in-Err c =
    let w = c.args.world in
    is_whole w _ _ (whole (goal.at.returns-in-Err c).Else-is_broken) c.decode.ensures (is_refused w _ c.in-Err.is c.refused-in-Err.ensures)

pub returns-in-Change : goal.returns-in-Change
returns-in-Change c =
    let w = c.args.world in
    is_whole w _ _ (whole (goal.at.returns-in-Change c).Else-is_broken) c.decode.ensures
    (is_made w _ c.in-Ok.is c.in-Change.is (c.answered.ensures _))

pub returns-in-Err-take_tick : goal.returns-in-Err-take_tick
returns-in-Err-take_tick c =
    let w = c.args.world in
    is_whole w _ _ (whole (goal.at.returns-in-Err-take_tick c).Else-is_broken) c.decode.ensures
    (is_made w _ c.in-Ok.is c.in-Tick.is (tick_refused w _ _ _ (sym c.take_tick.ensures ∙ c.in-Err-take_tick.is) c.refused-in-Err-take_tick.ensures))

-- ---- the moves

pub loop-i-init : goal.loop-i-init
unfolding run_to
loop-i-init c = (search rules, record { left = refl; written = written_none }, search rules)

-- Stays: the look at a trip is said in both cases: each has a record type of its own, and that of the lamps' choice,
-- which both have, has no name in `Goals` that a lemma could take.
pub loop-i-preserved : goal.loop-i-preserved
unfolding plus
loop-i-preserved c =
    let s = c.loop-i in
    let so_far : s.i + 1 ≤ c.min-cars.result = omega (arith, c.loop-i-test.true) in
    let trip = c.trip_of-trip in
    elim c.if-has_trip.branch [
      | then-has_trip+then-landed u ↦
          let look =
          looked c.in-Tick.dt s.w s.i trip.result _ u.leader_position-leader.result u.landing-landed.result u.if-is_direction_asked.lamps trip.ensures
          (rw c.has_trip.ensures at u.if-has_trip.true) (ap (λ (l : Line). l.kind) u.line_of-kind.ensures) u.leader_position-leader.ensures u.landing-landed.ensures
          (elim u.if-is_direction_asked.branch [
            | then-is_direction_asked z ↦ inr (rw u.is_direction_asked.ensures at z.if-is_direction_asked.true, z.lamps-is ∙ z.lamps_on_arrival-lamps.ensures)
            | else-is_direction_asked z ↦ inl (rw u.is_direction_asked.ensures at z.if-is_direction_asked.false, z.lamps-is)
          ]) in (
            so_far,
            comes_in c.in-Tick.dt _ s.w c.if-has_trip.w _ s.log _ c.if-has_trip.log s.i trip.result _ u.landing-landed.result u.if-is_direction_asked.lamps c.new-sort.result u.emit_turn-moves.result _ _ u.distance_by.result u.arrive.result s.invariant.1 look
                u.emit_turn-moves.ensures refl refl u.distance_by.ensures u.if-landed.true u.arrive.ensures u.w-is u.log-is,
            s.invariant.2,
          )
      | then-has_trip+else-landed u ↦
          let look =
          looked c.in-Tick.dt s.w s.i trip.result _ u.leader_position-leader.result u.landing-landed.result u.if-is_direction_asked.lamps trip.ensures
          (rw c.has_trip.ensures at u.if-has_trip.true) (ap (λ (l : Line). l.kind) u.line_of-kind.ensures) u.leader_position-leader.ensures u.landing-landed.ensures
          (elim u.if-is_direction_asked.branch [
            | then-is_direction_asked z ↦ inr (rw u.is_direction_asked.ensures at z.if-is_direction_asked.true, z.lamps-is ∙ z.lamps_on_arrival-lamps.ensures)
            | else-is_direction_asked z ↦ inl (rw u.is_direction_asked.ensures at z.if-is_direction_asked.false, z.lamps-is)
          ]) in (
            so_far,
            goes_on_lem c.in-Tick.dt _ s.w c.if-has_trip.w _ s.log _ c.if-has_trip.log s.i trip.result _ u.landing-landed.result u.if-is_direction_asked.lamps c.new-sort.result u.emit_turn-moves.result _ _ u.distance_by.result s.invariant.1 look c.new-sort.ensures
                u.emit_turn-moves.ensures refl refl u.distance_by.ensures u.if-landed.false u.w-is u.log-is,
            s.invariant.2,
          )
      | else-has_trip u ↦ (
        so_far,
        stays c.in-Tick.dt _ s.w c.if-has_trip.w _ s.log c.if-has_trip.log s.i trip.result s.invariant.1 trip.ensures (rw c.has_trip.ensures at u.if-has_trip.false) u.w-is u.log-is,
        s.invariant.2,
      )
    ]

-- ---- the doors

pub loop-i-2-init : goal.loop-i-2-init
unfolding run_to
loop-i-2-init c = (search rules, record { left = refl; opens = refl; written = written_none }, c.loop-i.invariant.2)

pub loop-i-2-preserved : goal.loop-i-2-preserved
loop-i-2-preserved c =
    let w = c.loop-i-2 in
    let test = c.loop-i-2-test.true in (
      omega (arith, test),
      elim c.if-has_turn.branch [
        | then-has_turn u ↦
            let h = turn_on_lem w.w w.i (car_at w.w.cars.items w.i) _ _ u.line_of-line.ensures (elim u.if-car-ne0.branch [ then-car-ne0 v ↦ inr (v.traversing-is ∙ v.has_rider_traversing-traversing.ensures) | else-car-ne0 v ↦ inl v.if-car-ne0.false ]) u.door_turn.ensures in
            same (more (turn_of w.w u.door_turn.new.car _ u.door_turn.result) w.invariant.1 (door_step_lem w.w w.i h) h.written) u.log-is u.w-is u.just_opened-is
        | else-has_turn u ↦ same (passed w.invariant.1 (omega (arith, test, w.invariant.2)) (sym c.has_turn.ensures ∙ u.if-has_turn.false)) u.log-is u.w-is u.just_opened-is
      ],
      w.invariant.2,
    )

-- ---- the tick's end

pub returns : goal.returns
unfolding tick_world tick_words plus
returns c =
    let s = c.loop-i in
    let t = c.loop-i-2 in
    let w = c.args.world in
    let n = c.min-cars.ensures in
    let e : min w.cars.count 16 ≡ s.i = omega (arith, n, c.loop-i-test.false, s.invariant.0) in
    let k = moves_at s.invariant.1 (sym e) in
    let f : t.i ≡ min s.w.cars.count 16 = omega (arith, n, c.loop-i-2-test.false, t.invariant.0, cars_kept k) in
    let d : c.min-cars.result ≡ min s.w.cars.count 16 = omega (arith, n, cars_kept k) in
    let r = ended (runs_at t.invariant.1 f) d (calls_kept t.invariant.1) c.clear_hall_calls-w.ensures in
    let x = doored_after c.in-Tick.dt w k r.0 r.1 in
    let all = written_also c.emit.ensures x.1 in
    is_whole w _ _ (whole (goal.at.returns c).Else-is_broken) c.decode.ensures
    (is_made w _ c.in-Ok.is c.in-Tick.is (tick_taken_lem w _ _ _ (sym c.take_tick.ensures ∙ c.in_default.is) refl
    (ap with_next_tick x.0) (search (rules, all.wrote, all.slice))))
