-- What the study prints is of record calls as the certificate has them: call by call, what an accepted one writes is
-- its part of the joined log, and it is counted as that log is. Assumes nothing.
use mathlib.Core.Path.{◌≡◌, refl, sym, ap, ◌∙◌}
use mathlib.Core.Bool.{Bool, true, false, cond}
use mathlib.Core.List.{List, [], ◌∷◌, ◌++◌, append-nil, append_assoc}
use Prim.Native.Nat.{ℕ, ◌^◌, ◌<◌}
use native.Mathlib.Omega.{arith}
use lib.Dec.{eqb}
use lib.ListN.{length, take}
use Rattle.world.specs.World.{empty_world}
use Rattle.world.specs.declared.World.{World}
use Rattle.layout.specs.Layout.{kind_of}
use Rattle.record.specs.Record.{Outcome, record_of, is_accepted, written_of}
use Rattle.record.specs.Calls.{RecordCall, outcome, next_world, head_word, world_after}
use Rattle.record.specs.Record.{Answer}
use Rattle.std.specs.Prelude.{Ok, Err}
use Rattle.claim_certificate.specs.Certificate.{words_written, joined}
use Rattle.claim_certificate.specs.Joined.{JoinedLog}
use Rattle.claim_certificate.proofs.Proved.{joined_log}
use Rattle.claim_certificate.proofs.Computed.{examples}
use Rattle.laws.specs.Counting.{how_many}
use Rattle.laws.proofs.Bools.{no}
use Rattle.report.specs.Report.{no_counts, counts_of, has_unknown, count_more, counted_report, report_of}
use Rattle.laws.specs.Numbers.{plus}
use Rattle.report.specs.declared.Counts.{Counts}
use Rattle.report.proofs.Counted as Counted
use Rattle.study_numbers.specs.NumberText.{word_lines}
use Rattle.study_play.specs.Play as Play
use Rattle.study_play.specs.Play.{counts_after, ending, last_line}
use Rattle.study_whole.specs.Study.{calls_of, goes_on, printed_of, study_text}
use Rattle.study_whole.specs.Certified.{AllAccepted, Certified}
use Rattle.study_whole.proofs.Joining.{kept}

lines_append : (a b : List ℕ) → word_lines (a ++ b) ≡ word_lines a ++ word_lines b
unfolding word_lines
lines_append [] b = refl
lines_append (w ∷ a) b = rw (lines_append a b, append_assoc)

-- what an accepted call writes is its part of the joined log: records of other kinds write no word
pub tells : (w : World) (c : RecordCall) → is_accepted (outcome w c).answer ≡ true
    → take (written_of (outcome w c).answer) (outcome w c).log ≡ words_written w c
unfolding outcome
tells w c a = rw a (go (eqb (kind_of (head_word c)) 12) refl)
  where
    o : Outcome
    o = record_of w c.words c.log

    go : (b : Bool) → eqb (kind_of (head_word c)) 12 ≡ b → take (written_of o.answer) o.log ≡ cond b (take (written_of o.answer) o.log) []
    go true e = refl
    go false e = rw ((kept w c.words c.log).untouched e).1

glue : (t j us : List ℕ) (x : List ℕ → List ℕ) → word_lines t ++ (word_lines j ++ x ((us ++ t) ++ j)) ≡ word_lines (t ++ j) ++ x (us ++ (t ++ j))
glue t j us x = rw (lines_append, append_assoc us t j, append_assoc (word_lines t) (word_lines j))

-- what is printed of accepted calls whose words follow `us`
said_joined : (calls : List RecordCall) (w : World) (us left : List ℕ) → AllAccepted w calls
    → printed_of w (count_more no_counts us) calls left ≡ word_lines (joined w calls) ++ ending (world_after w calls) (count_more no_counts (us ++ joined w calls)) (length left)
unfolding printed_of AllAccepted joined world_after next_world word_lines
said_joined [] w us left a = rw append-nil
said_joined (c ∷ cs) w us left a = by (outcome w c).answer refl (λ vs. said_joined cs (outcome w c).world vs left a.1)
  where
    o : Outcome
    o = outcome w c

    Rest : Type 0
    Rest = (vs : List ℕ) → printed_of o.world (count_more no_counts vs) cs left
        ≡ word_lines (joined o.world cs) ++ ending (world_after o.world cs) (count_more no_counts (vs ++ joined o.world cs)) (length left)

    by : (r : Answer) → o.answer ≡ r → Rest → Play.answer_text r o.log ++ goes_on r (printed_of o.world (counts_after r o.log (count_more no_counts us)) cs left)
        ≡ word_lines (words_written w c ++ joined o.world cs) ++ ending (world_after o.world cs) (count_more no_counts (us ++ (words_written w c ++ joined o.world cs))) (length left)
    by (Ok b) e i =
        let t : take b.written o.log ≡ words_written w c = ap (λ (x : Answer). take (written_of x) o.log) (sym e) ∙ tells w c a.0 in
        rw (Counted.joined, i (us ++ take b.written o.log), ← t)
        (glue (take b.written o.log) (joined o.world cs) us (λ (vs : List ℕ). ending (world_after o.world cs) (count_more no_counts vs) (length left)))
    by (Err r) e i = no (rw e at a.0)

pub none_counted : count_more no_counts [] ≡ no_counts
unfolding count_more counts_of how_many has_unknown plus
none_counted = refl

-- no joined log comes near 2 to the 64 words
pub short : (calls : List RecordCall) → length (joined empty_world calls) < 2 ^ 64
unfolding JoinedLog
short calls = omega (arith, (joined_log empty_world examples.empty calls).size)

pub certified : Certified
unfolding Certified study_text report_of ending
certified tape a l =
    let m = calls_of tape in
    ap (λ (c : Counts). printed_of empty_world c m.calls m.left) (sym none_counted)
    ∙ said_joined m.calls empty_world [] m.left a
    ∙ ap (λ (t : List ℕ). word_lines (joined empty_world m.calls) ++ t) (at_end_lem (world_after empty_world m.calls) (joined empty_world m.calls) m.left l (short m.calls))
  where
    ends : (v : World) (c : Counts) → ending v c 0 ≡ last_line (counted_report v c)
    ends v c = refl

    at_end_lem : (v : World) (j left : List ℕ) → left ≡ [] → length j < 2 ^ 64 → ending v (count_more no_counts j) (length left) ≡ last_line (report_of v j)
    at_end_lem v j left e s = rw (e, Counted.whole j s) (ends v (counts_of j))
