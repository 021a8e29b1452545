-- Lists of lent calls are the certificate's lists of calls: by induction, as a lent call gives the definition's
-- outcome, its answer, world and log.
use mathlib.Core.Path.{◌≡◌, refl, sym, ap, subst, ◌∙◌}
use mathlib.Core.List.{List, [], ◌∷◌}
use Prim.Native.Nat.{ℕ}
use lib.Ieee.{of_bits, le}
use Rattle.float.specs.Float.{is_finite}
use Rattle.world.specs.World.{empty_world}
use Rattle.world_sound_rows.specs.Rows.{is_any_below}
use Rattle.world_sound.specs.Sound.{has_broken_count, is_broken}
use Rattle.world.specs.declared.World.{World}
use Rattle.log_words.specs.Words.{tick_word}
use Rattle.layout.specs.Layout.{kind_of, n_of, s_of, v_of}
use Rattle.turn.specs.Steps.{run_to, run_cars}
use Rattle.laws.specs.Numbers.{plus}
use Rattle.move_turn.specs.Movement.{movement_run}
use Rattle.doors_calls.specs.Clearing.{clear_words_to}
use Rattle.doors_turn.specs.Doors.{doors_run, doors_world, doors_words}
use Rattle.tick.specs.Tick.{tick_world, tick_words}
use Rattle.tick.specs.Room.{room_of}
use Rattle.tape_fields.specs.Fields.{float_at}
use Rattle.tape.specs.Tape.{decoded}
use Rattle.tape.specs.Tape as Tape
use Rattle.record_start.specs.Changes.{start}
use Rattle.record.specs.Record.{Outcome, record_of, tick_outcome}
use Rattle.record.specs.Calls.{outcome, next_world, world_after}
use Rattle.claim_conditions.specs.Conditions.{Kept, FirstCondition}
use Rattle.claim_conditions.proofs.Answering.{first_condition}
use Rattle.record_lent.specs.Lent.{Lent, LentCall, InTurn, calls_given, outcomes_of, world_left, outcomes, AsCalled, FirstLent, three_calls, Three, Shown, LentCallsHold}

-- an outcome is its three parts
whole : (o p : Outcome) → o.answer ≡ p.answer → o.world ≡ p.world → o.log ≡ p.log → o ≡ p
whole o p a w l i = record { answer = a i; world = w i; log = l i }

-- what a lent call gives is the definition's outcome
told : (w : World) (m : LentCall) → Lent w m.call.words m.call.log m.gave.answer m.gave.world m.gave.log → m.gave ≡ outcome w m.call
unfolding outcome
told w m e = whole m.gave (record_of w m.call.words m.call.log) e.answer e.world e.log

-- a claim of the lists behind a call, from the world that it leaves to the world that the definition gives
each_after : (w v v' : World) (m : LentCall) (ms : List LentCall) → m.gave ≡ outcome w m.call → v ≡ v' → outcomes_of ms ≡ outcomes v (calls_given ms) → m.gave ∷ outcomes_of ms ≡ outcome w m.call ∷ outcomes v' (calls_given ms)
each_after w v v' m ms e at ih i = e i ∷ (ih ∙ ap (λ (u : World). outcomes u (calls_given ms)) at) i

as_called : (w : World) (ms : List LentCall) → InTurn w ms → AsCalled w ms
unfolding InTurn outcomes_of calls_given world_left outcomes world_after next_world
as_called w [] t = record { each = refl; last = refl }
as_called w (m ∷ ms) t =
    let e : m.gave ≡ outcome w m.call = told w m t.0 in
    let at : m.gave.world ≡ (outcome w m.call).world = ap (λ (o : Outcome). o.world) e in
    let rest : AsCalled m.gave.world ms = as_called m.gave.world ms t.1 in
    record {
      each = each_after w m.gave.world (outcome w m.call).world m ms e at rest.each;
      last = rest.last ∙ ap (λ (u : World). world_after u (calls_given ms)) at;
    }

-- the first condition, at a definition's outcome
kept : FirstCondition → (w : World) (words log : List ℕ) → Kept w words log (record_of w words log)
unfolding FirstCondition
kept f = f

first_lent : FirstLent
unfolding InTurn outcome
first_lent w m t = subst (λ (o : Outcome). Kept w m.call.words m.call.log o) (sym (told w m t.0)) (kept first_condition w m.call.words m.call.log)

-- what is said of three outcomes, of a list of them
abbrev Threes : List Outcome → Type 0
Threes [] = ⊥
Threes (a ∷ []) = ⊥
Threes (a ∷ b ∷ []) = ⊥
Threes (a ∷ b ∷ c ∷ []) = Three a b c
Threes (a ∷ b ∷ c ∷ d ∷ os) = ⊥

computed : (a b c : Outcome) → Threes (outcomes empty_world (calls_given (three_calls a b c)))
unfolding calls_given outcomes outcome next_world record_of Tape.decoded_by tick_outcome decoded kind_of n_of s_of v_of float_at start is_any_below has_broken_count is_broken room_of empty_world tick_world tick_words doors_world doors_words plus run_to run_cars tick_word is_finite of_bits le movement_run doors_run clear_words_to
computed a b c = record {
  accepted = refl;
  one_word = refl;
  started = refl;
  refused = refl;
  number_12 = refl;
  waits = refl;
  ticked = refl;
  three_words = refl;
  ticks = refl;
  word = refl;
}

shown : Shown
unfolding outcomes_of
shown a b c t = subst Threes (sym (as_called empty_world (three_calls a b c) t).each) (computed a b c)

pub lent_calls : LentCallsHold
unfolding LentCallsHold
lent_calls = (as_called, first_lent, shown)
