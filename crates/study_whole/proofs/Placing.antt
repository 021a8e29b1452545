-- Which call is refused, and at which word, by induction on the calls: an accepted one counts itself and the words it
-- used; a tape accepted whole has none. Assumes nothing.
use mathlib.Core.Path.{◌≡◌, refl, sym, ap, ◌∙◌}
use mathlib.Core.Bool.{true}
use mathlib.Core.List.{List, [], ◌∷◌, ◌++◌, append-nil, append_assoc}
use Prim.Native.Nat.{ℕ, zero, suc, ◌+◌, ◌*◌}
use native.Mathlib.Omega.{arith}
use lib.Dec.{eqb}
use lib.ListN.{length, take, drop, replicate}
use lib.Seq.{drop-drop}
use Rattle.std.specs.Prelude.{None, Ok, Err}
use Rattle.std.specs.Result.{result_err}
use Rattle.laws.proofs.Bools.{no}
use Rattle.laws.proofs.Choices.{both}
use Rattle.world.specs.World.{empty_world}
use Rattle.world.specs.declared.World.{World}
use Rattle.record.specs.Record.{Answer, Outcome, record_of, is_accepted, used_of, written_of}
use Rattle.record.specs.Calls.{RecordCall, outcome, next_world, world_after}
use Rattle.claim_certificate.specs.Certificate.{words_written, joined}
use Rattle.report.specs.Report.{no_counts, counts_of, count_more, counted_report, report_of}
use Rattle.report.specs.declared.Counts.{Counts}
use Rattle.report.proofs.Counted as Counted
use Rattle.study_text.specs.Text.{words_of}
use Rattle.study_play.specs.Play.{counts_after, ending_refusal}
use Rattle.study_whole.specs.Study.{TapeCalls, unless_refused, calls_made, calls_of}
use Rattle.study_whole.specs.Certified.{AllAccepted}
use Rattle.study_whole.specs.PrintedTotals.{AcceptsWhole}
use Rattle.study_whole.specs.Place.{refusal_or, refusal_of, accepted_sum, accepted_calls, words_used, error_text, Numbered, PlacesHold}
use Rattle.study_whole.proofs.Certifying.{tells, none_counted, short}
use Rattle.study_whole.proofs.Printing.{reported}

-- ---- the number and the word

record At (w : World) (bytes : List ℕ) (m : TapeCalls) : Type 0 where
  call : (AllAccepted w m.calls → ⊥) → accepted_calls w m.calls + 1 ≡ length m.calls
  end : AllAccepted w m.calls → accepted_calls w m.calls ≡ length m.calls
  word : m.left ≡ drop (4 * words_used w m.calls) bytes

none_made : (w : World) (bytes : List ℕ) → At w bytes (record { calls = []; left = bytes })
unfolding AllAccepted accepted_calls words_used
none_made w bytes = record { call = λ f. absurd (f tt); end = λ a. refl; word = refl }

drop_on : (bytes : List ℕ) (m n : ℕ) → drop (4 * n) (drop (4 * m) bytes) ≡ drop (4 * (m + n)) bytes
drop_on bytes m n = drop-drop (4 * n) (4 * m) bytes ∙ ap (λ (k : ℕ). drop k bytes) (sum m n)
  where
    sum : (a b : ℕ) → 4 * a + 4 * b ≡ 4 * (a + b)
    sum a b = omega arith

-- behind a call with this answer, which leaves this world
record Behind (a : Answer) (w : World) (bytes : List ℕ) (m : TapeCalls) : Type 0 where
  call : ((is_accepted a ≡ true) × AllAccepted w m.calls → ⊥) → accepted_sum a 1 (accepted_calls w m.calls) + 1 ≡ 1 + length m.calls
  end : (is_accepted a ≡ true) × AllAccepted w m.calls → accepted_sum a 1 (accepted_calls w m.calls) ≡ 1 + length m.calls
  word : m.left ≡ drop (4 * accepted_sum a (used_of a) (words_used w m.calls)) bytes

behind : (a : Answer) (w : World) (bytes : List ℕ) (m : TapeCalls) → At w (drop (4 * used_of a) bytes) m → Behind a w bytes (unless_refused a bytes m)
behind (Ok a) w bytes m i = record {
  call = λ f. omega (arith, i.call (λ k. f (refl, k)));
  end = λ k. omega (arith, i.end k.1);
  word = i.word ∙ drop_on bytes a.used (words_used w m.calls);
}
behind (Err r) w bytes m i = record { call = λ f. refl; end = λ k. no k.0; word = refl }

one_call : (n : ℕ) → 1 + n ≡ suc n
one_call n = omega arith

is_at : (n : ℕ) (w : World) (log bytes : List ℕ) → At w bytes (calls_made n w log bytes)
unfolding calls_made AllAccepted accepted_calls words_used outcome next_world
is_at zero w log bytes = none_made w bytes
is_at (suc n) w log bytes =
    both (At w bytes) (eqb (length (words_of bytes)) 0) (none_made w bytes)
    (let b = behind o.answer o.world bytes later (is_at n o.world o.log (drop (4 * used_of o.answer) bytes)) in
    record { call = λ f. b.call f ∙ one_call _; end = λ k. b.end k ∙ one_call _; word = b.word })
  where
    o : Outcome
    o = record_of w (words_of bytes) log

    later : TapeCalls
    later = calls_made n o.world o.log (drop (4 * used_of o.answer) bytes)

-- ---- a tape that is accepted whole

-- no call of it is refused: what is, is its end, by the words of the joined log behind `us`
at_end : (calls : List RecordCall) (w : World) (us left : List ℕ) → AllAccepted w calls
    → refusal_of w (count_more no_counts us) calls left ≡ ending_refusal (world_after w calls) (count_more no_counts (us ++ joined w calls)) (length left)
unfolding refusal_of AllAccepted joined world_after next_world
at_end [] w us left a = rw append-nil
at_end (c ∷ cs) w us left a = by (outcome w c).answer refl (λ vs. at_end cs (outcome w c).world vs left a.1)
  where
    o : Outcome
    o = outcome w c

    Rest : Type 0
    Rest = (vs : List ℕ) → refusal_of o.world (count_more no_counts vs) cs left
        ≡ ending_refusal (world_after o.world cs) (count_more no_counts (vs ++ joined o.world cs)) (length left)

    by : (r : Answer) → o.answer ≡ r → Rest → refusal_or r (refusal_of o.world (counts_after r o.log (count_more no_counts us)) cs left)
        ≡ ending_refusal (world_after o.world cs) (count_more no_counts (us ++ (words_written w c ++ joined o.world cs))) (length left)
    by (Ok b) e i =
        let t : take b.written o.log ≡ words_written w c = ap (λ (x : Answer). take (written_of x) o.log) (sym e) ∙ tells w c a.0 in
        rw (Counted.joined, i (us ++ take b.written o.log), ← t, append_assoc us (take b.written o.log) (joined o.world cs))
    by (Err r) e i = no (rw e at a.0)

-- and its report is not
not_refused : (calls : List RecordCall) (left : List ℕ) → AllAccepted empty_world calls → left ≡ [] → refusal_of empty_world no_counts calls left ≡ None
unfolding report_of ending_refusal
not_refused calls left a l =
    ap (λ (c : Counts). refusal_of empty_world c calls left) (sym none_counted)
    ∙ at_end calls empty_world [] left a
    ∙ rw (l, Counted.whole (joined empty_world calls) (short calls)) (ends (world_after empty_world calls) (counts_of (joined empty_world calls)))
    ∙ ap (λ r. result_err r) (reported calls)
  where
    ends : (v : World) (c : Counts) → ending_refusal v c 0 ≡ result_err (counted_report v c)
    ends v c = refl

silent : (tape : List ℕ) → AcceptsWhole tape → error_text tape ≡ []
unfolding error_text
silent tape a = rw (not_refused (calls_of tape).calls (calls_of tape).left a.accepted a.none)

numbered : (tape : List ℕ) → Numbered tape
numbered tape =
    let i = is_at (suc (length tape)) empty_world (replicate 2048 0) tape in
    record { call = i.call; end = i.end; word = i.word }

pub places : PlacesHold
places = record { numbered = numbered; silent = silent }
