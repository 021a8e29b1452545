-- What a study still says on standard error is the same before and after what is done with the bytes at hand. Assumes
-- nothing.
use mathlib.Core.Path.{◌≡◌, refl, ap, ◌∙◌}
use mathlib.Core.Bool.{Bool, true, false, not, cond}
use mathlib.Core.List.{List, [], ◌∷◌, ◌++◌, append-nil}
use Prim.Native.Nat.{ℕ, zero, suc, ◌+◌, ◌*◌, ◌%◌, ◌^◌, ◌<◌, ◌≤◌}
use native.Mathlib.Omega.{arith}
use lib.Dec.{eqb}
use lib.ListN.{length, drop, length-append, length-drop}
use lib.Seq.{drop-append-le}
use borrow.Author.Tests.{ne_eqb, not-true}
use Rattle.std.specs.Prelude.{None, Some, Ok, Err}
use Rattle.std.specs.Result.{result_err}
use Rattle.laws.proofs.Bools.{yes, and_left, and_right}
use Rattle.laws.specs.Numbers.{plus}
use Rattle.world.specs.World.{empty_world}
use Rattle.world.specs.declared.World.{World}
use Rattle.record.specs.Record.{Answer, Outcome, record_of, is_accepted, used_of}
use Rattle.record.specs.Calls.{RecordCall, outcome}
use Rattle.report.specs.Report.{no_counts}
use Rattle.report.specs.declared.Counts.{Counts}
use Rattle.study_text.specs.Text.{words_of}
use Rattle.study_text.specs.declared.Place.{Place}
use Rattle.study_play.specs.Play.{counts_after, place_after, ending_refusal}
use Rattle.study_pieces.specs.Pieces.{StudyState, study_state, study_of, no_place}
use Rattle.study_pieces.specs.Parts.{next_record, is_ready, has_next_record, play_to, is_at_end, with_ending, close, advanced}
use Rattle.study_whole.proofs.AtHand.{by_records}
use Rattle.study_pieces.proofs.Sizes.{words_few}
use Rattle.study_step.specs.Step.{told_of}
use Rattle.study_whole.specs.Study.{TapeCalls, unless_refused, calls_made, calls_of}
use Rattle.study_whole.specs.Place.{refusal_or, refusal_of, accepted_sum, accepted_calls, words_used, error_text}
use Rattle.study_whole.proofs.Joining.{kept, made_enough, same_record, some_words, words_joined}

-- ---- what is said of calls, from a place on

-- of a refused call; behind an accepted one, of what comes later
abbrev said_by : Answer → Place → List ℕ → List ℕ
said_by (Ok a) place later = later
said_by (Err r) place later = told_of place (Some r)

unfoldable pub said_of : World → Counts → Place → List RecordCall → List ℕ → List ℕ
said_of w c place [] left = told_of place (ending_refusal w c (length left))
said_of w c place (call ∷ calls) left =
    let o = outcome w call in
    said_by o.answer place (said_of o.world (counts_after o.answer o.log c) (place_after o.answer place) calls left)

-- of a tape's bytes; `more` bounds the calls, as in `calls_made`
unfoldable pub printed_of : ℕ → World → Counts → Place → List ℕ → List ℕ → List ℕ
printed_of more w c place log bytes = said_of w c place (calls_made more w log bytes).calls (calls_made more w log bytes).left

-- what a study still says, where these bytes are yet to come
unfoldable pub still_says : StudyState → List ℕ → List ℕ
still_says p more =
    cond p.over (told_of p.place p.refusal)
    (printed_of (suc (length (p.bytes ++ more))) p.world p.counts p.place p.log (p.bytes ++ more))

-- ---- a record

-- as many turns as there are words are enough
enough : (n m : ℕ) (w : World) (c : Counts) (place : Place) (log b : List ℕ) → length (words_of b) < n → length (words_of b) < m
    → printed_of n w c place log b ≡ printed_of m w c place log b
unfolding printed_of
enough n m w c place log b h g = ap (λ (x : TapeCalls). said_of w c place x.calls x.left) (made_enough n m w log b h g)

-- what is said of a record and after it
said_one : (n : ℕ) (w : World) (c : Counts) (place : Place) (log b : List ℕ) (o : Outcome) → record_of w (words_of b) log ≡ o
    → 0 < length (words_of b)
    → printed_of (suc n) w c place log b
    ≡ said_by o.answer place (printed_of n o.world (counts_after o.answer o.log c) (place_after o.answer place) o.log (drop (4 * used_of o.answer) b))
unfolding printed_of calls_made said_of outcome
said_one n w c place log b o e h =
    rw (ne_eqb (length (words_of b)) 0 (λ z. omega arith), e)
    (goes_made o.answer b (calls_made n o.world o.log (drop (4 * used_of o.answer) b))
    (λ (m : TapeCalls). said_of o.world (counts_after o.answer o.log c) (place_after o.answer place) m.calls m.left))
  where
    goes_made : (a : Answer) (b : List ℕ) (m : TapeCalls) (f : TapeCalls → List ℕ)
        → said_by a place (f (unless_refused a b m)) ≡ said_by a place (f m)
    goes_made (Ok a) b m f = refl
    goes_made (Err r) b m f = refl

cond_says : (a : Answer) (place : Place) (s t : List ℕ) → (is_accepted a ≡ true → s ≡ t)
    → cond (not (is_accepted a)) (told_of (place_after a place) (result_err a)) s ≡ said_by a place t
cond_says (Ok a) place s t h = h refl
cond_says (Err r) place s t h = refl

module _ (p : StudyState) (more : List ℕ) (o : Outcome) where
  abbrev rest : List ℕ
  rest = drop (4 * used_of o.answer) p.bytes ++ more

  -- the same words are left, and fewer than before
  rest_says : 0 < used_of o.answer → used_of o.answer ≤ length (words_of p.bytes) → (w : World) (c : Counts) (place : Place) (log : List ℕ)
      → printed_of (suc (length rest)) w c place log rest ≡ printed_of (length (p.bytes ++ more)) w c place log (drop (4 * used_of o.answer) (p.bytes ++ more))
  rest_says s h w c place log =
      rw (drop-append-le (4 * used_of o.answer) p.bytes more (omega (arith, words_few p.bytes)))
      (enough (suc (length rest)) (length (p.bytes ++ more)) w c place log rest (omega (arith, words_few rest))
      (omega (arith, words_few rest, words_few p.bytes, length-append p.bytes more, length-append (drop (4 * used_of o.answer) p.bytes) more, length-drop (4 * used_of o.answer) p.bytes)))

next_says : (ended : Bool) (p : StudyState) (more : List ℕ)
    → has_next_record ended p.over (length (words_of p.bytes)) (length p.text) ≡ true
    → (ended ≡ true → more ≡ [])
    → still_says (next_record p) more ≡ still_says p more
unfolding still_says next_record
next_says ended p more e h =
    let stands : p.over ≡ false = not-true p.over (and_left (not p.over) _ e) in
    let w : is_ready ended (length (words_of p.bytes)) ≡ true = and_left (is_ready ended (length (words_of p.bytes))) _ (and_right (not p.over) _ e) in
    let some : 0 < length (words_of p.bytes) = some_words ended (length (words_of p.bytes)) w in
    let o = record_of p.world (words_of p.bytes) p.log in
    let k = kept p.world (words_of p.bytes) p.log in
    let all : 0 < length (words_of (p.bytes ++ more)) = rw (words_joined, length-append) (omega arith) in
    rw (stands, said_one (length (p.bytes ++ more)) p.world p.counts p.place p.log (p.bytes ++ more) o (same_record ended p more w h) all)
    (cond_says o.answer p.place _ _ (λ a. rest_says p more o (k.some a) k.used o.world (counts_after o.answer o.log p.counts) (place_after o.answer p.place) o.log))

-- ---- what is at hand

closed_says : (ended : Bool) (p : StudyState) (more : List ℕ)
    → is_at_end ended p.over (length (words_of p.bytes)) (length p.text) ≡ true
    → (ended ≡ true → more ≡ [])
    → still_says (with_ending p) more ≡ still_says p more
unfolding still_says printed_of calls_made said_of
closed_says ended p more e h =
    let k = and_right ended _ e in
    let stands : p.over ≡ false = not-true p.over (and_left (not p.over) _ k) in
    let none : eqb (length (words_of p.bytes)) 0 ≡ true = and_left (eqb (length (words_of p.bytes)) 0) _ (and_right (not p.over) _ k) in
    rw (h (and_left ended _ e), stands, append-nil p.bytes, none)

pub advanced_says : (ended : Bool) (p : StudyState) (more : List ℕ) → (ended ≡ true → more ≡ [])
    → still_says (advanced ended p) more ≡ still_says p more
advanced_says ended p more h =
    by_records (λ q. still_says q more ≡ still_says p more) ended (λ q e same. next_says ended q more e h ∙ same)
    (λ q e same. closed_says ended q more e h ∙ same) p refl

-- ---- a study that goes on was not refused

abbrev Quiet : StudyState → Type 0
Quiet p = p.over ≡ false → p.refusal ≡ None

next_quiet : (p : StudyState) → Quiet (next_record p)
unfolding next_record
next_quiet p o = go (record_of p.world (words_of p.bytes) p.log).answer o
  where
    go : (a : Answer) → not (is_accepted a) ≡ false → result_err a ≡ None
    go (Ok a) e = refl
    go (Err r) e = yes e

pub advanced_quiet : (ended : Bool) (p : StudyState) → p.refusal ≡ None → Quiet (advanced ended p)
advanced_quiet ended p n = by_records Quiet ended (λ q e quiet. next_quiet q) (λ q e quiet o. yes o) p (λ o. n)

-- what is said now, and what the next round still says
pub handed_on : (p : StudyState) (more : List ℕ) → Quiet p
    → told_of p.place p.refusal ++ still_says (study_state (study_of p) p.log p.bytes) more ≡ still_says p more
unfolding still_says
handed_on p more q = go p.over refl
  where
    later : List ℕ
    later = printed_of (suc (length (p.bytes ++ more))) p.world p.counts p.place p.log (p.bytes ++ more)

    go : (b : Bool) → p.over ≡ b → told_of p.place p.refusal ++ cond b [] later ≡ cond b (told_of p.place p.refusal) later
    go true e = append-nil (told_of p.place p.refusal)
    go false e = rw (q e)

-- ---- a whole tape's calls

-- a place behind so many records and words
abbrev behind : ℕ → ℕ → Place
behind n m = record { records = n % 2 ^ 64; words = m % 2 ^ 64 }

passed : (n m used : ℕ) → ◌≡◌ {A = Place} (record { records = plus (n % 2 ^ 64) 1; words = plus (m % 2 ^ 64) used }) (behind (n + 1) (m + used))
unfolding plus
passed n m used = rw (sum n 1, sum m used)
  where
    sum : (a b : ℕ) → (a % 2 ^ 64 + b) % 2 ^ 64 ≡ (a + b) % 2 ^ 64
    sum a b = omega arith

none_more : (n : ℕ) → n + 0 ≡ n
none_more n = omega arith

one_more : (a b d : ℕ) → (a + b) + d ≡ a + (b + d)
one_more a b d = omega arith

said_is : (calls : List RecordCall) (w : World) (c : Counts) (left : List ℕ) (n m : ℕ)
    → said_of w c (behind n m) calls left
    ≡ told_of (behind (n + accepted_calls w calls) (m + words_used w calls)) (refusal_of w c calls left)
unfolding said_of accepted_calls words_used refusal_of
said_is [] w c left n m = rw (none_more n, none_more m)
said_is (call ∷ calls) w c left n m = go (outcome w call).answer (λ c n m. said_is calls (outcome w call).world c left n m)
  where
    o : Outcome
    o = outcome w call

    go : (a : Answer)
        → ((c : Counts) (n m : ℕ) → said_of o.world c (behind n m) calls left
        ≡ told_of (behind (n + accepted_calls o.world calls) (m + words_used o.world calls)) (refusal_of o.world c calls left))
        → said_by a (behind n m) (said_of o.world (counts_after a o.log c) (place_after a (behind n m)) calls left)
        ≡ told_of (behind (n + accepted_sum a 1 (accepted_calls o.world calls)) (m + accepted_sum a (used_of a) (words_used o.world calls)))
        (refusal_or a (refusal_of o.world (counts_after a o.log c) calls left))
    go (Ok a) i = rw (passed n m a.used, ← one_more n 1 (accepted_calls o.world calls), ← one_more m a.used (words_used o.world calls)) (i (counts_after (Ok a) o.log c) (n + 1) (m + a.used))
    go (Err r) i = rw (none_more n, none_more m)

from_none : (n : ℕ) → 0 + n ≡ n
from_none n = omega arith

pub begins_says : (tape : List ℕ)
    → said_of empty_world no_counts no_place (calls_of tape).calls (calls_of tape).left ≡ error_text tape
unfolding error_text
begins_says tape =
    let m = calls_of tape in
    rw (← from_none (accepted_calls empty_world m.calls), ← from_none (words_used empty_world m.calls))
    (said_is m.calls empty_world no_counts m.left 0 0)
