-- A refusal is given on its condition and on no other: the answer is that of the first check that holds, and the
-- checks are read by the page's places in its order. The report's likewise. Assumes nothing.
use mathlib.Core.Path.{◌≡◌, refl, ap, subst⁻¹}
use mathlib.Core.Logic.{◌⊎◌, inl, inr}
use mathlib.Core.Bool.{true}
use mathlib.Core.List.{List, [], ◌∷◌}
use Prim.Native.Nat.{ℕ, zero, suc, ◌<◌}
use native.Mathlib.Omega.{arith}
use lib.ListN.{length}
use Rattle.laws.proofs.Bools.{no}
use Rattle.laws.proofs.Choices.{cases}
use Rattle.layout.specs.Layout.{kind_of}
use Rattle.world_sound.specs.Sound.{is_broken}
use Rattle.world.specs.Refusal.{Check, check, unless, refusal_number}
use Rattle.world.specs.declared.World.{World}
use Rattle.world.specs.declared.refusal.Refusal.{Refusal}
use Rattle.record.specs.Record.{Answer}
use Rattle.std.specs.Prelude.{Ok, Err}
use Rattle.record.specs.Record.{is_accepted, record_of}
use Rattle.report.specs.Report.{has_unknown, counts_of, totals_of, counted_report, report_of}
use Rattle.claim_conditions.specs.Refusals.{Broken, NoWord, LogKind, kind_unknown, cause, causes, report_causes, Verdict, taken, refused, verdict, report_verdict, ByCauses, GivenOnItsCondition}
use Rattle.claim_conditions.proofs.Answering.{Answers, conditions, OnItsCondition, on_its_condition}
use Rattle.claim_conditions.proofs.Deciding.{Decides, most, same, through, never, ◌or◌}
use Rattle.claim_conditions.proofs.Reading.{Says, Read, done, asked, not_first}
use Rattle.claim_conditions.proofs.BrokenWorld.{broken_decided}
use Rattle.claim_conditions.proofs.ByKind.{from_kind, kinds_read}

-- ---- the record call

accepted_taken : (a : Answer) → is_accepted a ≡ true → verdict a ≡ taken
accepted_taken (Ok a) e = refl
accepted_taken (Err r) e = no e

says : (cs : List Check) (a : Answer) → Answers cs a → Says cs (verdict a)
unfolding Answers
says [] a e = accepted_taken a e
says (c ∷ cs) a (inl q) = inl (q.0, ap verdict q.1)
says (c ∷ cs) a (inr q) = inr (q.0, says cs a q.1)

-- the page's order
in_order : (x : Verdict) (w : World) (words log : List ℕ)
    → causes w words log ≡ cause 0 (Broken w) ∷ cause 1 (NoWord words) ∷ from_kind x w words log
in_order x w words log = refl

all_read_lem : (x : Verdict) (w : World) (words log : List ℕ) → Read x (conditions w words log) (causes w words log)
unfolding conditions
all_read_lem x w words log =
    subst⁻¹ (Read x (conditions w words log)) (in_order x w words log)
    (asked x refl (broken_decided w) λ n0.
    asked x refl (same (length words) 0) λ n1.
    kinds_read x w words log n0)

record_given : (w : World) (words log : List ℕ) → ByCauses (causes w words log) (verdict (record_of w words log).answer)
unfolding OnItsCondition
record_given w words log =
    let a = (record_of w words log).answer in
    (all_read_lem (verdict a) w words log).read (says (conditions w words log) a (on_its_condition w words log))

-- ---- the report

unless_says : {A : Type 0} (f : A → Verdict) (cs : List Check) (out : Refusal → A) (next : A)
    → ((r : Refusal) → f (out r) ≡ refused (refusal_number r)) → f next ≡ taken → Says cs (f (unless cs out next))
unless_says f [] out next g h = h
unless_says {A} f (c ∷ cs) out next g h =
    cases (λ (y : A). Says (c ∷ cs) (f y)) c.holds (λ e. inl (e, g c.refusal)) (λ e. inr (e, unless_says f cs out next g h))

log_decided : (log : List ℕ) → Decides (LogKind log) (has_unknown log)
unfolding has_unknown
log_decided [] = never none
  where
    none : LogKind [] → ⊥
    none (kind_unknown i h x) = omega (arith, h)
log_decided (word ∷ log) = through to back (most 11 (kind_of word) or log_decided log)
  where
    later : LogKind log → LogKind (word ∷ log)
    later (kind_unknown i h x) = kind_unknown (suc i) (omega (arith, h)) x

    to : (10 < kind_of word) ⊎ LogKind log → LogKind (word ∷ log)
    to (inl x) = kind_unknown 0 (omega arith) x
    to (inr x) = later x

    back : LogKind (word ∷ log) → (10 < kind_of word) ⊎ LogKind log
    back (kind_unknown zero h x) = inl x
    back (kind_unknown (suc i) h x) = inr (kind_unknown i (omega (arith, h)) x)

report_given : (w : World) (log : List ℕ) → ByCauses (report_causes w log) (report_verdict (report_of w log))
unfolding report_of counted_report counts_of
report_given w log =
    let x = report_verdict (report_of w log) in
    let cs = check Refusal.BrokenWorld (is_broken w) ∷ check Refusal.LogKind (has_unknown log) ∷ [] in
    let reads : Read x cs (report_causes w log) = asked x refl (broken_decided w) λ n0. asked x refl (log_decided log) λ n5. done x in
    reads.read (unless_says report_verdict cs Err (Ok (totals_of w (counts_of log))) (λ r. refl) refl)

pub given_on_its_condition : GivenOnItsCondition
given_on_its_condition = record {
  record_call = record_given;
  never_5 = λ w words log e. not_first 5 (causes w words log) refl (((record_given w words log).given 5).0 e);
  report = report_given;
}
