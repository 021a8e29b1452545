-- The third condition of lent calls, from that of the calls that the definitions make: what was given and gave says
-- the same of both, call by call. Assumes nothing.
use mathlib.Core.Path.{◌≡◌, refl}
use mathlib.Core.List.{List, [], ◌∷◌}
use Rattle.world.specs.declared.World.{World}
use Rattle.record.specs.Calls.{outcome, next_world}
use Rattle.claim_certificate.specs.Certificate.{NoManual, DoorsHold, joined, Holds, ThirdCondition}
use Rattle.claim_certificate.proofs.Proved.{third_condition}
use Rattle.record_lent.specs.Lent.{LentCall, InTurn, calls_given, outcomes_of, outcomes, AsCalled, LentCallsHold}
use Rattle.record_lent.proofs.Lending.{lent_calls}
use Rattle.claim_lent.specs.LentCertificate.{LentNoManual, LentDoorsHold, lent_joined, ThirdLent}

-- what was given and gave says the same as the definitions' calls
record Same (w : World) (ms : List LentCall) : Type 0 where
  tame : LentNoManual ms → NoManual w (calls_given ms)
  doors : DoorsHold w (calls_given ms) → LentDoorsHold w ms
  log : lent_joined ms ≡ joined w (calls_given ms)

same : (ms : List LentCall) (w : World) → outcomes_of ms ≡ outcomes w (calls_given ms) → Same w ms
unfolding outcomes_of calls_given outcomes next_world LentNoManual NoManual LentDoorsHold DoorsHold lent_joined joined
same [] w h = record { tame = λ q. tt; doors = λ q. tt; log = refl }
same (m ∷ ms) w h =
    let e : m.gave ≡ outcome w m.call = cc in
    let rest : outcomes_of ms ≡ outcomes (next_world w m.call) (calls_given ms) = cc in
    let s : Same (next_world w m.call) ms = same ms (next_world w m.call) rest in
    record {
      tame = λ q. (rw e at q.0, s.tame q.1);
      doors = λ q. rw e (q.0, s.doors q.1);
      log = rw (e, s.log) refl;
    }

as_called : LentCallsHold → (w : World) (ms : List LentCall) → InTurn w ms → AsCalled w ms
unfolding LentCallsHold
as_called l = l.0

pub third_lent : ThirdLent
unfolding ThirdLent ThirdCondition
third_lent w e ms t q =
    let a : AsCalled w ms = as_called lent_calls w ms t in
    let s : Same w ms = same ms w a.each in
    let h : Holds w (calls_given ms) = third_condition w e (calls_given ms) (s.tame q) in
    record { doors = s.doors h.doors; log = rw (← s.log) at h.log; totals = rw (← a.last, ← s.log) at h.totals }
