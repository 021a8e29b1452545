-- What holds with Manual mode: each call keeps it, by induction. The third condition is that of a list without; the
-- joined log's length is by its ticks, its kinds by car 16, which is never Manual. Assumes nothing.
use mathlib.Core.Path.{◌≡◌, refl, ◌∙◌}
use mathlib.Core.Logic.{◌⊎◌, inl, inr}
use mathlib.Core.Bool.{Bool, true, false, ◌&&◌, ◌||◌, and-false}
use mathlib.Core.List.{List, [], ◌∷◌, ◌++◌, append-nil, append_assoc}
use Prim.Native.Nat.{ℕ, ◌+◌}
use native.Mathlib.Omega.{arith}
use lib.Dec.{eqb}
use borrow.Author.Tests.{eqb-true, eq-eqb, ne_eqb}
use Rattle.world.specs.declared.World.{World}
use Rattle.log_read_back.specs.ReadBack.{is_kind, car_of}
use Rattle.layout.specs.Layout.{kind_of, n_of}
use Rattle.tick.specs.Counters.{is_move, moves_in, sum_to}
use Rattle.record.specs.Calls.{Empty, RecordCall, next_world, head_word, world_after}
use Rattle.laws.specs.Numbers.{bit}
use Rattle.laws.specs.Counting.{how_many}
use Rattle.report.specs.Report.{has_unknown}
use Rattle.claim_certificate.specs.Certificate.{is_manual_record, NoManual, DoorsHold, words_written, joined, IsWordOf, MoveWhileOpen, LogHolds, ThirdCondition}
use Rattle.claim_certificate.specs.Manual.{NeverManual, CarDoorHolds, CarHolds, AnyHolds, WithManual}
use Rattle.claim_certificate.specs.Joined.{JoinedLog}
use Rattle.claim_certificate.proofs.Watch.{open_after, Calm, is, is_move_of, calm_between}
use Rattle.claim_certificate.proofs.Records.{Sums, Holds, Kept, call_kept}

-- ---- a list of calls: the totals, and what is held of each car that none of them puts into Manual mode

record After (w : World) (calls : List RecordCall) (j : List ℕ) : Type 0 where
  sums : Sums (world_after w calls) (j ++ joined w calls)
  cars : (n : ℕ) → Holds n w j → NeverManual w calls n → Holds n (world_after w calls) (j ++ joined w calls) × CarDoorHolds w calls n

calls_kept : (calls : List RecordCall) (w : World) (j : List ℕ) → Sums w j → After w calls j
unfolding joined world_after CarDoorHolds NeverManual
calls_kept [] w j h = record { sums = rw (append-nil j) h; cars = λ n k q. (rw (append-nil j) k, tt) }
calls_kept (c ∷ cs) w j h =
    let k : Kept w c j = call_kept w c j h in
    let a : After (next_world w c) cs (j ++ words_written w c) = calls_kept cs (next_world w c) (j ++ words_written w c) k.keeps.0 in
    record {
      sums = rw (← append_assoc j (words_written w c) (joined (next_world w c) cs)) a.sums;
      cars = λ n held q.
          let rest = a.cars n (k.keeps.1 n held q.0) q.1 in
          (rw (← append_assoc j (words_written w c) (joined (next_world w c) cs)) rest.0, (λ t l. k.stands t n held, rest.1));
    }

module _ (w : World) (e : Empty w) where
  empty_sums : Sums w []
  unfolding how_many sum_to
  empty_sums = record { full = e.places; cars = e.moves ∙ rw e.cars; words = e.moves; time = omega (arith, e.ticks); room = omega arith }

  empty_holds : (n : ℕ) → Holds n w []
  unfolding open_after Calm has_unknown
  empty_holds n = record { fit = λ l. absurd (omega (arith, e.cars, l)); fresh = λ l. refl; calm = tt; known = refl }

-- ---- the paper's words

is_of : (k n w : ℕ) → IsWordOf k n w → is k n w ≡ true
is_of k n w h = rw (eq-eqb (kind_of w) k h.0, eq-eqb (car_of w) n h.1)

move_step_lem : (n m : ℕ) → IsWordOf 1 n m ⊎ (IsWordOf 2 n m ⊎ IsWordOf 3 n m) → is_move_of n m ≡ true
move_step_lem n m (inl h) = rw (h.0, eq-eqb (car_of m) n h.1)
move_step_lem n m (inr (inl h)) = rw (h.0, eq-eqb (car_of m) n h.1)
move_step_lem n m (inr (inr h)) = rw (h.0, eq-eqb (car_of m) n h.1)

never : (k n x : ℕ) → (IsWordOf k n x → ⊥) → is k n x ≡ false
never k n x h = go (eqb (kind_of x) k) (eqb (car_of x) n) refl refl
  where
    go : (a b : Bool) → eqb (kind_of x) k ≡ a → eqb (car_of x) n ≡ b → is k n x ≡ false
    go true true p q = absurd (h (eqb-true (kind_of x) k p, eqb-true (car_of x) n q))
    go true false p q = rw (p, q)
    go false b p q = rw p

log_holds : (log : List ℕ) (n : ℕ) → Calm n false log → MoveWhileOpen n log → ⊥
log_holds log n h x =
    calm_between n x.before x.opened x.middle x.move x.rest (rw x.split at h) (is_of 6 n x.opened x.opens)
    (move_step_lem n x.move x.moves) (λ word d. never 7 n word (x.unclosed word d))

one_kind : (k : ℕ) → bit (is_move k) ≡ bit (eqb k 1) + bit (eqb k 2) + bit (eqb k 3)
one_kind k = go (eqb k 1) (eqb k 2) (eqb k 3) refl refl refl
  where
    go : (a b c : Bool) → eqb k 1 ≡ a → eqb k 2 ≡ b → eqb k 3 ≡ c → bit (a || b || c) ≡ bit a + bit b + bit c
    go false false false p q r = omega arith
    go true false false p q r = omega arith
    go false true false p q r = omega arith
    go false false true p q r = omega arith
    go true true c p q r = absurd (omega (arith, eqb-true k 1 p, eqb-true k 2 q))
    go true false true p q r = absurd (omega (arith, eqb-true k 1 p, eqb-true k 3 r))
    go false true true p q r = absurd (omega (arith, eqb-true k 2 q, eqb-true k 3 r))

counts : (log : List ℕ) → moves_in log ≡ how_many (is_kind 1) log + how_many (is_kind 2) log + how_many (is_kind 3) log
unfolding how_many
counts [] = refl
counts (w ∷ ws) = omega (arith, one_kind (kind_of w), counts ws)

pub holds_with_manual : WithManual
unfolding WithManual
holds_with_manual w e calls =
    let a : After w calls [] = calls_kept calls w [] (empty_sums w e) in
    record {
      totals = record { cars = a.sums.cars; words = a.sums.words ∙ counts (joined w calls) };
      cars = λ n q.
          let car = a.cars n (empty_holds w e n) q in
          record { door = car.1; log = log_holds (joined w calls) n car.0.calm };
    }

-- ---- the third condition follows

never_manual : (calls : List RecordCall) (w : World) → NoManual w calls → (n : ℕ) → NeverManual w calls n
unfolding NoManual NeverManual
never_manual [] w q n = tt
never_manual (c ∷ cs) w q n = (rw q.0, never_manual cs (next_world w c) q.1 n)

doors_hold : (calls : List RecordCall) (w : World) → ((n : ℕ) → CarDoorHolds w calls n) → DoorsHold w calls
unfolding DoorsHold CarDoorHolds
doors_hold [] w h = tt
doors_hold (c ∷ cs) w h = (λ t n. (h n).0 t, doors_hold cs (next_world w c) (λ n. (h n).1))

third : WithManual → ThirdCondition
unfolding WithManual ThirdCondition LogHolds
third claim w e calls q =
    let a : AnyHolds w calls = claim w e calls in
    let car : (n : ℕ) → CarHolds w calls n = λ n. a.cars n (never_manual calls w q n) in
    record { doors = doors_hold calls w (λ n. (car n).door); log = λ n. (car n).log; totals = a.totals }

pub third_condition : ThirdCondition
third_condition = third holds_with_manual

-- ---- the joined log of any list: no record puts car 16 into Manual mode, since there is none, so what is held of it
-- is held always

no_car_16 : (b : Bool) (h : ℕ) → b && eqb (n_of h) 16 ≡ false
unfolding n_of
no_car_16 b h = rw (ne_eqb (n_of h) 16 (λ e. omega (arith, e))) (and-false b)

none_manual : (calls : List RecordCall) (w : World) → NeverManual w calls 16
unfolding NeverManual
none_manual [] w = tt
none_manual (c ∷ cs) w = (no_car_16 (is_manual_record w c) (head_word c), none_manual cs (next_world w c))

pub joined_log : JoinedLog
unfolding JoinedLog
joined_log w e calls =
    let a : After w calls [] = calls_kept calls w [] (empty_sums w e) in
    record { size = omega (arith, a.sums.room, a.sums.time); known = (a.cars 16 (empty_holds w e 16) (none_manual calls w)).0.known }
