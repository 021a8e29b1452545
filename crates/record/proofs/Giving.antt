-- What a call gives, case by case. Assumes nothing.
use Rattle.std.proofs.Common.{◌≡◌, ℕ, ◌≤◌, Bool, true, false, cond, List, [], ◌∷◌, length, refl, ap, ◌∙◌, arith, ltb-false}
use lib.Ieee.{Float}
use Rattle.world_sound.specs.Sound.{is_broken}
use Rattle.world.specs.Refusal.{Check, unless}
use Rattle.world.proofs.Checks.{unless_passed}
use Rattle.world.specs.declared.World.{World}
use Rattle.world.specs.declared.refusal.Refusal.{Refusal}
use Rattle.world.specs.declared.refusal.Refusal.TheVariants.{BrokenWorld}
use Rattle.tape.specs.Tape.{decoded}
use Rattle.tape_records.specs.declared.Read.{Read}
use Rattle.tape_records.specs.declared.Found.{Found}
use Rattle.tape_records.specs.declared.Found.TheVariants.{Tick}
use Rattle.std.specs.Prelude.{Result, Ok, Err}
use Rattle.record_kinds.specs.Parts.{tick_taken}
use Rattle.log_writes.specs.Log.{Wrote}
use Rattle.tick.specs.Tick.{tick_world, tick_words}
use Rattle.tick.specs.Room.{room_of, WordsFit}
use Rattle.tick.proofs.Proved.{words_fit}
use Rattle.record.specs.declared.Recorded.{Recorded}
use Rattle.record.specs.Record.{Outcome, Gives, answer_numbers, refused, tick_checks, tick_accepted, tick_outcome, outcome_by, read_by, record_of}

-- a refusal: the answer, and the world as it was
abbrev pub Says : Recorded → World → Refusal → Type 0
Says r w f = (r.answer ≡ Err f) × (r.world ≡ w)

-- a promise from its three parts: the same answer says the same numbers
gives : {r : Recorded} {left : List ℕ} {o : Outcome} → r.answer ≡ o.answer → r.world ≡ o.world → left ≡ o.log → Gives r left o
gives a w l = record { answer = a; numbers = ap answer_numbers a; world = w; log = l }

refusal_gives : {r : Recorded} {w : World} {log : List ℕ} {f : Refusal} → Says r w f → Gives r log (refused w log f)
refusal_gives h = gives h.0 h.1 refl

-- what is refused is not taken
not_both : (r : Refusal) → ◌≡◌ {A = Result (Unit {0}) Refusal} (Err r) (Ok tt) → ⊥
not_both r q = let z : ◌≡◌ {A = ℕ} 0 1 = cc in omega arith

module _ (w : World) (log : List ℕ) where
  -- ---- what the state says of a tick

  abbrev pub tick_says : Result (Unit {0}) Refusal
  tick_says = tick_taken w.started w.ticks w.cars.count w.stops.count (length log)

  abbrev said_of : Outcome → Result (Unit {0}) Refusal → Outcome
  said_of o (Ok t) = o
  said_of o (Err f) = refused w log f

  said : (o : Outcome) (cs : List Check) (t : Result (Unit {0}) Refusal) → unless cs Err (Ok tt) ≡ t → unless cs (refused w log) o ≡ said_of o t
  said o [] t e = rw (← e)
  said o (c ∷ cs) t e = by c.holds (λ h. said o cs t h) e
    where
      by : (b : Bool) → (unless cs Err (Ok tt) ≡ t → unless cs (refused w log) o ≡ said_of o t)
          → cond b (Err c.refusal) (unless cs Err (Ok tt)) ≡ t → cond b (refused w log c.refusal) (unless cs (refused w log) o) ≡ said_of o t
      by true k h = rw (← h)
      by false k h = k h

  tick_said : (used : ℕ) (dt : Float) (t : Result (Unit {0}) Refusal) → tick_says ≡ t → tick_outcome w log used dt ≡ said_of (tick_accepted w log used dt) t
  unfolding tick_outcome tick_taken
  tick_said used dt t e = said (tick_accepted w log used dt) (tick_checks w log) t e

  -- a tick that is taken has room
  has_room_lem : tick_says ≡ Ok tt → room_of w ≤ length log
  unfolding tick_taken room_of
  has_room_lem e = ltb-false (length log) (room_of w) (unless_passed (tick_checks w log) not_both e).0.1.1.0

  -- ---- what was read

  pub is_refused : {r : Recorded} {d : Result Read Refusal} {f : Refusal} → d ≡ Err f → Says r w f
      → Gives r log (read_by w log d)
  is_refused d h = rw d (refusal_gives h)

  pub is_made : {r : Recorded} {left : List ℕ} {d : Result Read Refusal} {read : Read} {found : Found} → d ≡ Ok read
      → read.found ≡ found → Gives r left (outcome_by w log read.used found) → Gives r left (read_by w log d)
  is_made d f h = rw (d, f) h

  pub tick_refused : {r : Recorded} (used : ℕ) (dt : Float) {f : Refusal} → tick_says ≡ Err f → Says r w f
      → Gives r log (outcome_by w log used (Tick dt))
  tick_refused used dt {f = f} t h = rw (tick_said used dt (Err f) t) (refusal_gives h)

  pub tick_taken_lem : {r : Recorded} {left : List ℕ} {at : ℕ} (used : ℕ) (dt : Float) → tick_says ≡ Ok tt
      → r.answer ≡ Ok (record { used = used; written = at }) → r.world ≡ tick_world w dt
      → Wrote log 0 (tick_words w dt) left at → Gives r left (outcome_by w log used (Tick dt))
  unfolding WordsFit
  tick_taken_lem {at = at} used dt t n m h =
      let fits : length (tick_words w dt) ≤ room_of w = words_fit w dt in
      let all : at ≡ length (tick_words w dt) = omega (arith, h.next, fits, has_room_lem t) in
      rw (tick_said used dt (Ok tt) t) (gives (n ∙ ap (λ (x : ℕ). Ok (record { used = used; written = x })) all) m h.list)

  -- ---- the record call

  pub gives_broken : {r : Recorded} (words : List ℕ) → is_broken w ≡ true → Says r w BrokenWorld
      → Gives r log (record_of w words log)
  unfolding record_of
  gives_broken words e h = rw e (refusal_gives h)

  pub is_whole : {r : Recorded} {left : List ℕ} (words : List ℕ) {d : Result Read Refusal} → is_broken w ≡ false
      → d ≡ decoded words → Gives r left (read_by w log d)
      → Gives r left (record_of w words log)
  unfolding record_of
  is_whole words e d h = rw e (rw d at h)
