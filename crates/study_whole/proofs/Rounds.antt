-- The program's rounds come to the whole tape: what is written and what is still to be printed are together the same
-- after each, and each leaves less to do, or is the last. Assumes nothing.
use mathlib.Core.Path.{◌≡◌, refl, sym, ap, ◌∙◌}
use mathlib.Core.Logic.{◌⊎◌, inl, inr, ⊎_elim}
use mathlib.Core.Bool.{Bool, true, false, not, ◌||◌}
use mathlib.Core.List.{List, [], ◌∷◌, ◌++◌, append-nil, append_assoc}
use Prim.Native.Nat.{ℕ, ◌+◌, ◌*◌, ◌<◌}
use native.Mathlib.Omega.{arith}
use borrow.Author.Tests.{eqb-true, not-true}
use lib.Dec.{eqb}
use lib.ListN.{length, length-append}
use Rattle.laws.proofs.Bools.{no, and_left}
use Rattle.laws.proofs.Counting.{bit_small}
use Rattle.laws.specs.Numbers.{bit}
use Rattle.study_pieces.specs.Pieces.{StudyState, study_state}
use Rattle.study_pieces.specs.Parts.{advanced}
use Rattle.study_pieces.specs.declared.Study.{Study}
use Rattle.study_step.specs.Step.{Reading, GotBytes, Failed, Unasked, ProgramState, is_read_wanted, played, stepped}
use Rattle.study_whole.specs.Place.{error_text}
use Rattle.study_whole.specs.Study.{calls_of, study_text}
use Rattle.study_whole.specs.WholeTape.{running_at_start, after_rounds, output_of, error_of, bytes_of, tape_of, InOrder, NoneFailed, is_read, AsWanted, Beginning, Over, RunEnds, InPieces}
use Rattle.study_whole.proofs.Joining.{printed, still_prints, advanced_prints}
use Rattle.study_whole.proofs.Telling.{printed_of, still_says, advanced_says, advanced_quiet, handed_on, begins_says}
use Rattle.study_whole.proofs.Ending.{advanced_few, advanced_over, unasked}

-- a round's study, with nothing printed yet
abbrev resting : ProgramState → StudyState
resting r = study_state r.study r.log r.kept

-- ---- the tape

not_none : {x : ℕ} {l : List ℕ} → x ∷ l ≡ [] → ⊥
not_none e = let z : ◌≡◌ {A = ℕ} 0 1 = cc in omega arith

none_behind : (a b : List ℕ) → a ++ b ≡ [] → b ≡ []
none_behind [] b e = e
none_behind (x ∷ a) b e = absurd (not_none e)

-- after the input's end nothing comes
abbrev Settled : ProgramState → List ℕ → Type 0
Settled r tape = r.ended ≡ true → tape ≡ []

-- by what a read gave
at_its_end : (ended : Bool) (bytes rest : List ℕ) → (ended ≡ true → bytes ++ rest ≡ []) → (GotBytes bytes ≡ GotBytes [] → rest ≡ []) → (ended || eqb (length bytes) 0) ≡ true → rest ≡ []
at_its_end true bytes rest h k e = none_behind bytes rest (h refl)
at_its_end false [] rest h k e = k refl
at_its_end false (x ∷ bytes) rest h k e = absurd (omega (arith, eqb-true (length (x ∷ bytes)) 0 e))

settled_next : (r : ProgramState) (g : Reading) (rest : List ℕ) → Settled r (bytes_of g ++ rest) → (g ≡ GotBytes [] → rest ≡ []) → Settled (stepped r g).next rest
unfolding stepped
settled_next r (GotBytes bytes) rest h k e = at_its_end r.ended bytes rest h k e
settled_next r Unasked rest h k e = h e
settled_next r Failed rest h k e = h e

-- ---- what is over stays so, and writes no more

over_next : (r : ProgramState) (g : Reading) → r.study.over ≡ true → (stepped r g).next.study.over ≡ true
unfolding stepped
over_next r (GotBytes bytes) o = rw (advanced_over (r.ended || eqb (length bytes) 0) (study_state r.study r.log (r.kept ++ bytes)) o) o
over_next r Unasked o = rw (advanced_over r.ended (resting r) o) o
over_next r Failed o = refl

over_stays : (r : ProgramState) (gs : List Reading) → r.study.over ≡ true → (after_rounds r gs).study.over ≡ true
unfolding after_rounds
over_stays r [] o = o
over_stays r (g ∷ gs) o = over_stays (stepped r g).next gs (over_next r g o)

over_silent : (r : ProgramState) (g : Reading) → r.study.over ≡ true → (stepped r g).output ≡ []
unfolding stepped
over_silent r (GotBytes bytes) o = rw (advanced_over (r.ended || eqb (length bytes) 0) (study_state r.study r.log (r.kept ++ bytes)) o)
over_silent r Unasked o = rw (advanced_over r.ended (resting r) o)
over_silent r Failed o = refl

silent : (r : ProgramState) (gs : List Reading) → r.study.over ≡ true → output_of r gs ≡ []
unfolding output_of
silent r [] o = refl
silent r (g ∷ gs) o = rw (over_silent r g o) (silent (stepped r g).next gs (over_next r g o))

-- ---- what is written

-- what is done with the bytes at hand writes a part of what was still to be printed
played_prints : (s : Study) (log bytes : List ℕ) (ended : Bool) (more : List ℕ) → (ended ≡ true → more ≡ [])
    → (played s log bytes ended).output ++ still_prints (resting (played s log bytes ended).next) more ≡ still_prints (study_state s log bytes) more
unfolding still_prints
played_prints s log bytes ended more h = advanced_prints ended (study_state s log bytes) more h

read_prints : (s : Study) (log kept bytes more : List ℕ) → still_prints (study_state s log (kept ++ bytes)) more ≡ still_prints (study_state s log kept) (bytes ++ more)
unfolding still_prints
read_prints s log kept bytes more = rw append_assoc

record Writes (r : ProgramState) (gs : List Reading) (more : List ℕ) : Type 0 where
  rest : List ℕ
  joined : output_of r gs ++ rest ≡ still_prints (resting r) (tape_of gs more)
  all : NoneFailed gs → (after_rounds r gs).study.over ≡ true → rest ≡ []

over_prints : (p : StudyState) (more : List ℕ) → p.text ≡ [] → p.over ≡ true → still_prints p more ≡ []
unfolding still_prints
over_prints p more t o = rw (t, o)

-- a round that plays, and those that follow
after_played : (s : Study) (log bytes : List ℕ) (ended : Bool) (tape written rest : List ℕ) → (ended ≡ true → tape ≡ [])
    → written ++ rest ≡ still_prints (resting (played s log bytes ended).next) tape
    → ((played s log bytes ended).output ++ written) ++ rest ≡ still_prints (study_state s log bytes) tape
after_played s log bytes ended tape written rest h e =
    append_assoc (played s log bytes ended).output written rest
    ∙ ap (λ (t : List ℕ). (played s log bytes ended).output ++ t) e
    ∙ played_prints s log bytes ended tape h

writes : (r : ProgramState) (gs : List Reading) (more : List ℕ) → Settled r (tape_of gs more) → InOrder gs more → Writes r gs more
unfolding output_of after_rounds tape_of InOrder NoneFailed stepped
writes r [] more h k = record {
  rest = still_prints (resting r) more;
  joined = refl;
  all = λ f o. over_prints (resting r) more refl o;
}
writes r (GotBytes bytes ∷ gs) more h k =
    let ended = r.ended || eqb (length bytes) 0 in
    let tape = tape_of gs more in
    let none = at_its_end r.ended bytes tape h k.0 in
    let w = writes (stepped r (GotBytes bytes)).next gs more none k.1 in
    record {
      rest = w.rest;
      joined = after_played r.study r.log (r.kept ++ bytes) ended tape _ w.rest none w.joined ∙ read_prints r.study r.log r.kept bytes tape;
      all = λ f o. w.all f.1 o;
    }
writes r (Unasked ∷ gs) more h k =
    let w = writes (stepped r Unasked).next gs more h k.1 in
    record {
      rest = w.rest;
      joined = after_played r.study r.log r.kept r.ended (tape_of gs more) _ w.rest h w.joined;
      all = λ f o. w.all f.1 o;
    }
writes r (Failed ∷ gs) more h k = record {
  rest = still_prints (resting r) (tape_of gs more);
  joined = rw (silent (stepped r Failed).next gs refl);
  all = λ f o. absurd (f.0 refl);
}

unsettled : {tape : List ℕ} → Settled running_at_start tape
unsettled e = absurd (no e)

begun_prints : (tape : List ℕ) → still_prints (resting running_at_start) tape ≡ study_text tape
unfolding still_prints study_text printed
begun_prints tape = refl

beginning : Beginning
unfolding Beginning
beginning gs more k = let w = writes running_at_start gs more unsettled k in record { rest = w.rest; joined = w.joined ∙ begun_prints (tape_of gs more) }

-- ---- what is said on standard error

read_says : (s : Study) (log kept bytes more : List ℕ) → still_says (study_state s log (kept ++ bytes)) more ≡ still_says (study_state s log kept) (bytes ++ more)
unfolding still_says
read_says s log kept bytes more = rw append_assoc

over_says : (s : Study) (log kept more : List ℕ) → s.over ≡ true → still_says (study_state s log kept) more ≡ []
unfolding still_says
over_says s log kept more o = rw o

-- a round that plays says a part of it
played_says : (s : Study) (log bytes : List ℕ) (ended : Bool) (more later : List ℕ) → (ended ≡ true → more ≡ [])
    → later ≡ still_says (resting (played s log bytes ended).next) more
    → (played s log bytes ended).error ++ later ≡ still_says (study_state s log bytes) more
played_says s log bytes ended more later h e =
    let p = advanced ended (study_state s log bytes) in
    ap (λ (t : List ℕ). (played s log bytes ended).error ++ t) e
    ∙ handed_on p more (advanced_quiet ended (study_state s log bytes) refl)
    ∙ advanced_says ended (study_state s log bytes) more h

says : (r : ProgramState) (gs : List Reading) (more : List ℕ) → Settled r (tape_of gs more) → InOrder gs more → NoneFailed gs
    → (after_rounds r gs).study.over ≡ true → error_of r gs ≡ still_says (resting r) (tape_of gs more)
unfolding error_of after_rounds tape_of InOrder NoneFailed stepped
says r [] more h k f o = sym (over_says r.study r.log r.kept more o)
says r (GotBytes bytes ∷ gs) more h k f o =
    let ended = r.ended || eqb (length bytes) 0 in
    let tape = tape_of gs more in
    let none = at_its_end r.ended bytes tape h k.0 in
    played_says r.study r.log (r.kept ++ bytes) ended tape _ none (says (stepped r (GotBytes bytes)).next gs more none k.1 f.1 o)
    ∙ read_says r.study r.log r.kept bytes tape
says r (Unasked ∷ gs) more h k f o =
    played_says r.study r.log r.kept r.ended (tape_of gs more) _ h (says (stepped r Unasked).next gs more h k.1 f.1 o)
says r (Failed ∷ gs) more h k f o = absurd (f.0 refl)

begun_says : (tape : List ℕ) → still_says (resting running_at_start) tape ≡ error_text tape
unfolding still_says printed_of
begun_says tape = begins_says tape

all_over : Over
unfolding Over
all_over gs more k f o =
    let w = writes running_at_start gs more unsettled k in
    record {
      output = sym (append-nil (output_of running_at_start gs))
          ∙ ap (λ (t : List ℕ). output_of running_at_start gs ++ t) (sym (w.all f o))
          ∙ w.joined
          ∙ begun_prints (tape_of gs more);
      error = says running_at_start gs more unsettled k f o ∙ begun_says (tape_of gs more);
    }

-- ---- that it ends

-- what is left to do: a read of each byte, a record of each byte at hand, and the read of none
abbrev left : ProgramState → List ℕ → ℕ
left r tape = 2 * length tape + (length r.kept + bit (not r.ended))

module _ (s : Study) (log kept rest : List ℕ) where
  -- after what is done with these bytes
  abbrev Fewer : List ℕ → Bool → ℕ → Type 0
  Fewer bytes ended n = ((played s log bytes ended).next.study.over ≡ true) ⊎ (left (played s log bytes ended).next rest < n)

  -- where no more input is wanted
  fewer_unasked : (ended : Bool) → false ≡ is_read_wanted ended (length kept) → Fewer kept ended (2 * length rest + (length kept + bit (not ended)))
  fewer_unasked ended w =
      ⊎_elim
      (λ o. inl o)
      (λ l. inr (omega (arith, l)))
      (unasked (study_state s log kept) refl ended (sym w))

  -- a byte at least is read, or it is the input's end
  fewer_read : (bytes : List ℕ) → Fewer (kept ++ bytes) (eqb (length bytes) 0) (2 * length (bytes ++ rest) + (length kept + 1))
  fewer_read [] = inr (omega (arith, advanced_few true (study_state s log (kept ++ [])), length-append kept []))
  fewer_read (x ∷ bytes) =
      let ended = eqb (length (x ∷ bytes)) 0 in
      inr (omega (arith, advanced_few ended (study_state s log (kept ++ (x ∷ bytes))), bit_small (not ended), length-append kept (x ∷ bytes), length-append (x ∷ bytes) rest))

fewer : (r : ProgramState) (g : Reading) (rest : List ℕ) → is_read g ≡ is_read_wanted r.ended (length r.kept)
    → ((stepped r g).next.study.over ≡ true) ⊎ (left (stepped r g).next rest < left r (bytes_of g ++ rest))
unfolding stepped
fewer r (GotBytes bytes) rest w = rw (not-true r.ended (and_left (not r.ended) _ (sym w))) (fewer_read r.study r.log r.kept rest bytes)
fewer r Unasked rest w = fewer_unasked r.study r.log r.kept rest r.ended w
fewer r Failed rest w = inl refl

ends_from : (r : ProgramState) (gs : List Reading) (more : List ℕ) → AsWanted r gs → left r (tape_of gs more) < length gs → (after_rounds r gs).study.over ≡ true
unfolding AsWanted after_rounds tape_of
ends_from r [] more w h = absurd (omega arith)
ends_from r (g ∷ gs) more w h =
    ⊎_elim
    (λ o. over_stays (stepped r g).next gs o)
    (λ l. ends_from (stepped r g).next gs more w.1 (omega (arith, l, h)))
    (fewer r g (tape_of gs more) w.0)

ends : RunEnds
unfolding RunEnds
ends gs more w h = ends_from running_at_start gs more w (omega (arith, h))

pub in_pieces : InPieces
in_pieces = record { beginning = beginning; over = all_over; ends = ends }
