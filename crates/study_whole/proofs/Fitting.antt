-- The study never meets refusal 12: it is the page's last, so the world is not broken, and its log of 2,048 words has
-- room for 16 cars and 64 stops. Assumes nothing.
use mathlib.Core.Path.{◌≡◌, refl, ap}
use mathlib.Core.Logic.{inl, inr}
use mathlib.Core.Bool.{Bool, true, not, ◌&&◌}
use mathlib.Core.List.{List, [], ◌∷◌}
use Prim.Native.Nat.{ℕ, zero, suc, ◌*◌, ◌<◌, ◌≤◌}
use native.Mathlib.Omega.{arith}
use lib.Dec.{eqb}
use lib.ListN.{length, drop, replicate}
use borrow.Author.Tests.{eqb-false, not-true}
use Rattle.std.specs.Prelude.{Ok, Err}
use Rattle.laws.proofs.Bools.{and_left, and_right}
use Rattle.laws.proofs.Choices.{both}
use Rattle.world.specs.World.{empty_world}
use Rattle.world.specs.declared.World.{World}
use Rattle.world.specs.declared.refusal.Refusal.TheVariants.{LogShort}
use Rattle.record.specs.Record.{Answer, Outcome, record_of, used_of}
use Rattle.record.specs.Calls.{outcome, next_world}
use Rattle.claim_conditions.specs.Refusals as Page
use Rattle.claim_conditions.specs.Refusals.{Broken, cars_above, stops_above, log_short, Cause, causes, FirstHolds, verdict}
use Rattle.claim_certificate.proofs.Ticking.{most_room}
use Rattle.claim_conditions.proofs.Given.{given_on_its_condition}
use Rattle.study_text.specs.Text.{words_of}
use Rattle.study_whole.specs.Study.{TapeCalls, unless_refused, calls_made}
use Rattle.study_whole.specs.NeverShort.{NoneShort, NeverShort}
use Rattle.study_whole.proofs.Joining.{kept}

-- ---- one call

-- no place but the last has that number
abbrev is_last : ℕ → List Cause → Bool
is_last m [] = true
is_last m (p ∷ []) = true
is_last m (p ∷ q ∷ ps) = not (eqb p.number m) && is_last m (q ∷ ps)

abbrev Last : List Cause → Type 0
Last [] = ⊥
Last (p ∷ []) = p.Holds
Last (p ∷ q ∷ ps) = Last (q ∷ ps)

-- then it is the last that has its condition
last_holds : (m : ℕ) (ps : List Cause) → is_last m ps ≡ true → FirstHolds m ps → Last ps
last_holds m [] e f = f
last_holds m (p ∷ []) e (inl f) = f.1
last_holds m (p ∷ []) e (inr f) = absurd f.1
last_holds m (p ∷ q ∷ ps) e (inl f) =
    absurd (eqb-false p.number m (not-true (eqb p.number m) (and_left (not (eqb p.number m)) (is_last m (q ∷ ps)) e)) f.0)
last_holds m (p ∷ q ∷ ps) e (inr f) = last_holds m (q ∷ ps) (and_right (not (eqb p.number m)) (is_last m (q ∷ ps)) e) f.1

-- in a world that is not broken such a log is long enough
fits : (w : World) (words log : List ℕ) → 1249 ≤ length log → (Broken w → ⊥) → Page.LogShort w words log → ⊥
fits w words log h sound (log_short k l) =
    let room = most_room w.cars.count w.stops.count (most w.cars.count 16 (λ x. sound (cars_above x))) (most w.stops.count 64 (λ x. sound (stops_above x))) in
    omega (arith, h, l, room)
  where
    most : (a b : ℕ) → (b < a → ⊥) → a ≤ b
    most a b f = omega (arith, f)

not_short : (w : World) (words log : List ℕ) → 1249 ≤ length log → (record_of w words log).answer ≡ Err LogShort → ⊥
not_short w words log h e = fits w words log h (sound given) (last_holds 12 (causes w words log) refl given)
  where
    given : FirstHolds 12 (causes w words log)
    given = ((given_on_its_condition.record_call w words log).given 12).0 (ap verdict e)

    sound : FirstHolds 12 (causes w words log) → Broken w → ⊥
    sound (inl f) = absurd (omega (arith, f.0))
    sound (inr f) = f.0

-- ---- a tape's calls

none_short : (n : ℕ) (w : World) (log bytes : List ℕ) → 1249 ≤ length log → NoneShort w (calls_made n w log bytes).calls
unfolding calls_made NoneShort outcome next_world
none_short zero w log bytes h = tt
none_short (suc n) w log bytes h =
    both (λ (m : TapeCalls). NoneShort w m.calls) (eqb (length (words_of bytes)) 0) tt
    (not_short w (words_of bytes) log h, rest o.answer _ (none_short n o.world o.log (drop (4 * used_of o.answer) bytes) (omega (arith, h, (kept w (words_of bytes) log).size))))
  where
    o : Outcome
    o = record_of w (words_of bytes) log

    rest : (a : Answer) (m : TapeCalls) → NoneShort o.world m.calls → NoneShort o.world (unless_refused a bytes m).calls
    rest (Ok a) m k = k
    rest (Err r) m k = tt

pub never_short : NeverShort
never_short = record {
  enough = λ log tape h. none_short (suc (length tape)) empty_world log tape h;
  study = λ tape. none_short (suc (length tape)) empty_world (replicate 2048 0) tape (omega arith);
}
