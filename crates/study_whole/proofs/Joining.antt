-- What a study still prints is the same before and after what is done with the bytes at hand: a record reads no
-- further than itself, whatever follows, and leaves fewer words. Assumes nothing.
use mathlib.Core.Path.{◌≡◌, refl, ap, ◌∙◌}
use mathlib.Core.Bool.{Bool, true, false, not, cond}
use mathlib.Core.List.{List, [], ◌∷◌, ◌++◌, append-nil, append_assoc}
use Prim.Native.Nat.{ℕ, zero, suc, ◌+◌, ◌*◌, ◌<◌, ◌≤◌}
use native.Mathlib.Omega.{arith}
use lib.Dec.{leb, eqb}
use lib.ListN.{length, drop, length-append, length-drop}
use lib.Seq.{drop-append-le}
use borrow.Author.Tests.{ltb-true, leb-true, ne_eqb, not-true}
use Rattle.world.specs.declared.World.{World}
use Rattle.record.specs.Record.{Outcome, record_of, is_accepted, used_of}
use Rattle.record.specs.Calls.{outcome}
use Rattle.claim_conditions.specs.Conditions.{Kept, FirstCondition}
use Rattle.record.specs.Record.{Answer}
use Rattle.std.specs.Prelude.{Ok, Err}
use Rattle.claim_conditions.proofs.Answering.{first_condition}
use Rattle.report.specs.declared.Counts.{Counts}
use Rattle.study_text.specs.Text.{word_of_bytes, words_of}
use Rattle.study_play.specs.Play.{answer_text, counts_after}
use Rattle.study_pieces.specs.Pieces.{StudyState}
use Rattle.study_pieces.specs.Parts.{next_record, is_ready, has_next_record, play_to, is_at_end, with_ending, close, advanced}
use Rattle.study_whole.proofs.AtHand.{by_records}
use Rattle.study_pieces.proofs.Sizes.{words_drop, words_few}
use Rattle.laws.proofs.Bools.{and_left, and_right}
use Rattle.study_whole.specs.Study.{TapeCalls, with_call_first, unless_refused, calls_made, goes_on, printed_of}
use Rattle.study_whole.specs.WholeTape.{Longest}
use Rattle.study_whole.proofs.Ignoring.{longest}

-- what is printed of a tape's bytes from a world on; `more` bounds the calls, as in `calls_made`
unfoldable pub printed : ℕ → World → Counts → List ℕ → List ℕ → List ℕ
printed more w c log bytes = printed_of w c (calls_made more w log bytes).calls (calls_made more w log bytes).left

-- what a study still prints, where these bytes are yet to come
unfoldable pub still_prints : StudyState → List ℕ → List ℕ
still_prints p more = p.text ++ cond p.over [] (printed (suc (length (p.bytes ++ more))) p.world p.counts p.log (p.bytes ++ more))

-- ---- words of joined bytes

four_more : (n : ℕ) → 4 * suc n ≡ suc (suc (suc (suc (4 * n))))
four_more n = omega arith

pub words_joined : (b m : List ℕ) → words_of (b ++ m) ≡ words_of b ++ words_of (drop (4 * length (words_of b)) b ++ m)
unfolding words_of
words_joined [] m = refl
words_joined (x ∷ []) m = refl
words_joined (x ∷ y ∷ []) m = refl
words_joined (x ∷ y ∷ z ∷ []) m = refl
words_joined (x ∷ y ∷ z ∷ u ∷ b) m = rw (four_more (length (words_of b))) (ap (λ (t : List ℕ). word_of_bytes x y z u ∷ t) (words_joined b m))

-- the record call reads no further than a record
record_joined : (w : World) (ws vs log : List ℕ) → 69 ≤ length ws → record_of w (ws ++ vs) log ≡ record_of w ws log
unfolding record_of Longest
record_joined w ws vs log h = rw (longest ws vs h)

-- ---- as many turns as there are words are enough

module _ (w : World) (ws log : List ℕ) where
  pub kept : Kept w ws log (record_of w ws log)
  unfolding FirstCondition
  kept = first_condition w ws log

pub fewer : (b : List ℕ) (used : ℕ) → 0 < used → used ≤ length (words_of b)
    → length (words_of (drop (4 * used) b)) < length (words_of b)
fewer b used p h = rw (words_drop b used (4 * used) refl, length-drop) (omega arith)

rest_same : (a : Answer) (b : List ℕ) (x y : TapeCalls) → (is_accepted a ≡ true → x ≡ y) → unless_refused a b x ≡ unless_refused a b y
rest_same (Ok a) b x y h = h refl
rest_same (Err r) b x y h = refl

abbrev made_then : List ℕ → List ℕ → TapeCalls → TapeCalls
made_then log b x = cond (eqb (length (words_of b)) 0) (record { calls = []; left = b }) (with_call_first (record { words = words_of b; log = log }) x)

pub made_enough : (n m : ℕ) (w : World) (log b : List ℕ) → length (words_of b) < n → length (words_of b) < m
    → calls_made n w log b ≡ calls_made m w log b
unfolding calls_made
made_enough zero m w log b h g = absurd (omega arith)
made_enough (suc n) zero w log b h g = absurd (omega arith)
made_enough (suc n) (suc m) w log b h g =
    let o = record_of w (words_of b) log in
    let k = kept w (words_of b) log in
    ap (made_then log b)
    (rest_same o.answer b _ _ (λ e.
    let l = fewer b (used_of o.answer) (k.some e) k.used in
    made_enough n m o.world o.log (drop (4 * used_of o.answer) b) (omega arith) (omega arith)))

enough : (n m : ℕ) (w : World) (c : Counts) (log b : List ℕ) → length (words_of b) < n → length (words_of b) < m → printed n w c log b ≡ printed m w c log b
unfolding printed
enough n m w c log b h g = ap (λ (x : TapeCalls). printed_of w c x.calls x.left) (made_enough n m w log b h g)

-- ---- a record

-- the words at hand begin with the record that all begin with
pub same_record : (ended : Bool) (p : StudyState) (more : List ℕ) → is_ready ended (length (words_of p.bytes)) ≡ true
    → (ended ≡ true → more ≡ [])
    → record_of p.world (words_of (p.bytes ++ more)) p.log ≡ record_of p.world (words_of p.bytes) p.log
same_record ended p more e h = go (leb 69 (length (words_of p.bytes))) refl
  where
    go : (b : Bool) → leb 69 (length (words_of p.bytes)) ≡ b → record_of p.world (words_of (p.bytes ++ more)) p.log ≡ record_of p.world (words_of p.bytes) p.log
    go true k = rw words_joined (record_joined p.world (words_of p.bytes) _ p.log (leb-true 69 (length (words_of p.bytes)) k))
    go false k = let n : more ≡ [] = h (and_left ended _ (rw k at e)) in rw (n, append-nil)

pub some_words : (ended : Bool) (n : ℕ) → is_ready ended n ≡ true → 0 < n
some_words ended n e = go (leb 69 n) refl
  where
    go : (b : Bool) → leb 69 n ≡ b → 0 < n
    go true k = omega (arith, leb-true 69 n k)
    go false k = ltb-true 0 n (and_right ended _ (rw k at e))

-- what is printed of a record and after it
printed_one : (n : ℕ) (w : World) (c : Counts) (log b : List ℕ) (o : Outcome) → record_of w (words_of b) log ≡ o → 0 < length (words_of b)
    → printed (suc n) w c log b ≡ answer_text o.answer o.log ++ goes_on o.answer (printed n o.world (counts_after o.answer o.log c) o.log (drop (4 * used_of o.answer) b))
unfolding printed calls_made printed_of outcome
printed_one n w c log b o e h =
    rw (ne_eqb (length (words_of b)) 0 (λ z. omega arith), e)
    (ap (λ (t : List ℕ). answer_text o.answer o.log ++ t)
    (goes_made o.answer b (calls_made n o.world o.log (drop (4 * used_of o.answer) b)) (λ (m : TapeCalls). printed_of o.world (counts_after o.answer o.log c) m.calls m.left)))
  where
    goes_made : (a : Answer) (b : List ℕ) (m : TapeCalls) (f : TapeCalls → List ℕ) → goes_on a (f (unless_refused a b m)) ≡ goes_on a (f m)
    goes_made (Ok a) b m f = refl
    goes_made (Err r) b m f = refl

cond_goes : (a : Answer) (s t : List ℕ) → (is_accepted a ≡ true → s ≡ t) → cond (not (is_accepted a)) [] s ≡ goes_on a t
cond_goes (Ok a) s t h = h refl
cond_goes (Err r) s t h = refl

module _ (p : StudyState) (more : List ℕ) (o : Outcome) where
  abbrev rest : List ℕ
  rest = drop (4 * used_of o.answer) p.bytes ++ more

  -- the same words are left, and fewer than before
  rest_prints : 0 < used_of o.answer → used_of o.answer ≤ length (words_of p.bytes) → (w : World) (c : Counts) (log : List ℕ)
      → printed (suc (length rest)) w c log rest ≡ printed (length (p.bytes ++ more)) w c log (drop (4 * used_of o.answer) (p.bytes ++ more))
  rest_prints s h w c log =
      rw (drop-append-le (4 * used_of o.answer) p.bytes more (omega (arith, words_few p.bytes)))
      (enough (suc (length rest)) (length (p.bytes ++ more)) w c log rest (omega (arith, words_few rest))
      (omega (arith, words_few rest, words_few p.bytes, length-append p.bytes more, length-append (drop (4 * used_of o.answer) p.bytes) more, length-drop (4 * used_of o.answer) p.bytes)))

next_prints : (ended : Bool) (p : StudyState) (more : List ℕ)
    → has_next_record ended p.over (length (words_of p.bytes)) (length p.text) ≡ true
    → (ended ≡ true → more ≡ [])
    → still_prints (next_record p) more ≡ still_prints p more
unfolding still_prints next_record
next_prints ended p more e h =
    let stands : p.over ≡ false = not-true p.over (and_left (not p.over) _ e) in
    let w : is_ready ended (length (words_of p.bytes)) ≡ true = and_left (is_ready ended (length (words_of p.bytes))) _ (and_right (not p.over) _ e) in
    let some : 0 < length (words_of p.bytes) = some_words ended (length (words_of p.bytes)) w in
    let o = record_of p.world (words_of p.bytes) p.log in
    let k = kept p.world (words_of p.bytes) p.log in
    let all : 0 < length (words_of (p.bytes ++ more)) = rw (words_joined, length-append) (omega arith) in
    rw (stands, printed_one (length (p.bytes ++ more)) p.world p.counts p.log (p.bytes ++ more) o (same_record ended p more w h) all, append_assoc)
    (ap (λ (t : List ℕ). p.text ++ (answer_text o.answer o.log ++ t))
    (cond_goes o.answer _ _ (λ a. rest_prints p more o (k.some a) k.used o.world (counts_after o.answer o.log p.counts) o.log)))

-- ---- what is at hand

closed_prints : (ended : Bool) (p : StudyState) (more : List ℕ)
    → is_at_end ended p.over (length (words_of p.bytes)) (length p.text) ≡ true
    → (ended ≡ true → more ≡ [])
    → still_prints (with_ending p) more ≡ still_prints p more
unfolding still_prints printed calls_made printed_of
closed_prints ended p more e h =
    let k = and_right ended _ e in
    let stands : p.over ≡ false = not-true p.over (and_left (not p.over) _ k) in
    let none : eqb (length (words_of p.bytes)) 0 ≡ true = and_left (eqb (length (words_of p.bytes)) 0) _ (and_right (not p.over) _ k) in
    rw (h (and_left ended _ e), append-nil, stands, append-nil p.bytes, none)

pub advanced_prints : (ended : Bool) (p : StudyState) (more : List ℕ) → (ended ≡ true → more ≡ [])
    → still_prints (advanced ended p) more ≡ still_prints p more
advanced_prints ended p more h =
    by_records (λ q. still_prints q more ≡ still_prints p more) ended (λ q e same. next_prints ended q more e h ∙ same)
    (λ q e same. closed_prints ended q more e h ∙ same) p refl
