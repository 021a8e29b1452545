-- Each kind's checks are read by the page's places: a check decides its place, and a place that the kind does not ask
-- is silent. Assumes nothing.
use mathlib.Core.Path.{◌≡◌, refl, ap, subst, subst⁻¹, ◌∙◌}
use mathlib.Core.Logic.{◌⊎◌, inl, inr}
use mathlib.Core.Bool.{Bool, true, false, not}
use mathlib.Core.List.{List, [], ◌∷◌, ◌++◌}
use Prim.Native.Nat.{ℕ, zero, suc, ◌+◌, ◌*◌, ◌<◌, ◌≤◌}
use native.Mathlib.Nat.{mod-lt}
use native.Mathlib.Omega.{arith}
use lib.Dec.{leb, ltb, eqb}
use lib.ListN.{length, get_or, set, length-set}
use lib.Seq.{get_or-set_same, get_or-set_other}
use lib.Ieee.{Float, lt, le, of_bits}
use borrow.Author.Tests.{ltb-true, ltb-false, eqb-true, eqb-false, leb-true, le-leb}
use Rattle.laws.proofs.Bools.{no}
use Rattle.laws.proofs.Choices.{both, cases}
use Rattle.float.specs.Float as F64
use Rattle.layout.specs.Layout.{n_of, fields_of}
use Rattle.layout.specs.declared.Fields.{Fields}
use Rattle.tape_fields.specs.Fields.{float_at, is_raw_zero_at, is_outside_size, is_outside_from_zero, is_outside_above_zero}
use Rattle.world_sound_rows.specs.Rows.{is_any_below, is_stop_unloaded, is_car_unloaded, is_rider_phase_unloaded, is_line_broken, is_rider_broken}
use Rattle.world.specs.World.{car_at}
use Rattle.world.specs.Refusal.{Check}
use Rattle.world.specs.declared.World.{World}
use Rattle.world.specs.declared.LineKind.{LineKind}
use Rattle.world.specs.declared.Line.{Line}
use Rattle.world.specs.declared.ElevatorPhase.{ElevatorPhase}
use Rattle.world.specs.declared.ElevatorPhase.TheVariants.{Idle, MovingToStop, Repositioning, DoorOpening, Loading, DoorClosing, Stopped}
use Rattle.world.specs.declared.RiderPhase.{RiderPhase}
use Rattle.std.specs.declared.option.Option.{Option}
use Rattle.tape_records.specs.Answers as Ranges
use Rattle.tape_records.specs.Answers.{CheckedRead}
use Rattle.tape_loads.specs.LoadRecords.{serves_count, has_stop_outside, serves_to, has_line_field_outside, has_line_float_outside, line_kind_of, line_record, stop_record, car_record, rider_record, rider_phase, stop_option, car_option}
use Rattle.tape_loads.proofs.Serves.{count_small}
use Rattle.tape_orders.specs.OrderRecords.{send_record, mode_record, manual_speed_record, door_command_record, hall_call_record, destination_record, enable_record, tick_record, start_record}
use Rattle.tape.specs.Tape.{KindEntry, kinds}
use Rattle.record_start.specs.Changes.{has_no_car}
use Rattle.record_send.specs.Orders.{is_sendable}
use Rattle.tick.specs.Room.{room_for}
use Rattle.record_kinds.specs.PaperRoom.{PaperRoom}
use Rattle.record_kinds.proofs.Proved.{paper_room}
use Rattle.claim_conditions.specs.Refusals.{kind, n, s, v, served, RawZero, phase_of, phase_car_of, aboard_of, top_of, million, thousand, ten, one, NotInSize, size_not_finite, size_above, NotFromZero, from_not_finite, from_below, from_above, NotAboveZero, above_not_finite, above_below, above_above, Broken, destinations_above, commands_above, NoKind, kind_0, kind_above, stop_number, line_number, rider_number, route_number, NotNow, load_after, order_before, second_start, CountOutside, CutShort, FieldOutside, FloatOutside, NotNext, NotLoaded, CannotGo, QueueFull, LastTick, LogShort, cause, Cause, Verdict}
use Rattle.claim_conditions.proofs.Answering.{behind, checks_in}
use Rattle.claim_conditions.proofs.Deciding.{Decides, less, most, same, flag, clear, fails, through, never, non, ◌and◌, ◌or◌, past, choice, AnyBelow, any}
use Rattle.claim_conditions.proofs.Reading.{Read, done, silent, asked, unmet, sure}
use Rattle.claim_conditions.proofs.BrokenWorld.{InLine, line_decided, broken_decided}
use Rattle.claim_conditions.proofs.Asking as Ask

-- ---- numbers

-- two numbers that are not the same
other : (a b : ℕ) → Decides ((b < a) ⊎ (a < b)) (not (eqb a b))
other a b = through to back (non (same a b))
  where
    to : (a ≡ b → ⊥) → (b < a) ⊎ (a < b)
    to h = go (ltb b a) refl
      where
        go : (t : Bool) → ltb b a ≡ t → (b < a) ⊎ (a < b)
        go true e = inl (ltb-true b a e)
        go false e = inr (omega (arith, ltb-false b a e, h))

    back : (b < a) ⊎ (a < b) → a ≡ b → ⊥
    back (inl h) e = omega arith
    back (inr h) e = omega arith

-- a queue that holds no more than 8
full : (x : ℕ) → x ≤ 8 → Decides (x ≡ 8) (leb 8 x)
full x h = record { so = λ e. omega (arith, leb-true 8 x e); back = λ e. le-leb 8 x (omega arith) }

-- n has four bits
n_small : (words : List ℕ) → n words < 16
unfolding n_of
n_small words = mod-lt _ (omega arith)

-- ---- floats

million_is : Ranges.million ≡ million
unfolding of_bits
million_is = refl

thousand_is : Ranges.thousand ≡ thousand
unfolding of_bits
thousand_is = refl

ten_is : Ranges.ten ≡ ten
unfolding of_bits
ten_is = refl

one_is : F64.one ≡ one
unfolding of_bits
one_is = refl

module _ (y x : Float) where
  size : (z : Float) → z ≡ y → Decides (NotInSize y x) (is_outside_size x z)
  size z e = subst⁻¹ (λ (u : Float). Decides (NotInSize y x) (is_outside_size x u)) e (through to back (clear (F64.is_finite x) or flag (lt y (F64.abs x))))
    where
      to : (F64.is_finite x ≡ false) ⊎ (lt y (F64.abs x) ≡ true) → NotInSize y x
      to (inl h) = size_not_finite h
      to (inr h) = size_above h

      back : NotInSize y x → (F64.is_finite x ≡ false) ⊎ (lt y (F64.abs x) ≡ true)
      back (size_not_finite h) = inl h
      back (size_above h) = inr h

  from_zero : (z : Float) → z ≡ y → Decides (NotFromZero y x) (is_outside_from_zero x z)
  from_zero z e =
      subst⁻¹ (λ (u : Float). Decides (NotFromZero y x) (is_outside_from_zero x u)) e (through to back (clear (F64.is_finite x) or flag (lt x F64.zero) or flag (lt y x)))
    where
      to : ((F64.is_finite x ≡ false) ⊎ (lt x F64.zero ≡ true)) ⊎ (lt y x ≡ true) → NotFromZero y x
      to (inl (inl h)) = from_not_finite h
      to (inl (inr h)) = from_below h
      to (inr h) = from_above h

      back : NotFromZero y x → ((F64.is_finite x ≡ false) ⊎ (lt x F64.zero ≡ true)) ⊎ (lt y x ≡ true)
      back (from_not_finite h) = inl (inl h)
      back (from_below h) = inl (inr h)
      back (from_above h) = inr h

  above_zero : (z : Float) → z ≡ y → Decides (NotAboveZero y x) (is_outside_above_zero x z)
  above_zero z e =
      subst⁻¹ (λ (u : Float). Decides (NotAboveZero y x) (is_outside_above_zero x u)) e (through to back (clear (F64.is_finite x) or flag (le x F64.zero) or flag (lt y x)))
    where
      to : ((F64.is_finite x ≡ false) ⊎ (le x F64.zero ≡ true)) ⊎ (lt y x ≡ true) → NotAboveZero y x
      to (inl (inl h)) = above_not_finite h
      to (inl (inr h)) = above_below h
      to (inr h) = above_above h

      back : NotAboveZero y x → ((F64.is_finite x ≡ false) ⊎ (le x F64.zero ≡ true)) ⊎ (lt y x ≡ true)
      back (above_not_finite h) = inl (inl h)
      back (above_below h) = inl (inr h)
      back (above_above h) = inr h

-- ---- a line's words

raw : (words : List ℕ) (i : ℕ) → Decides (RawZero words i) (is_raw_zero_at words i)
unfolding is_raw_zero_at
raw words i = same (get_or words i 0) 0 and same (get_or words (i + 1) 0) 0

serves_any : (words : List ℕ) (count : ℕ) → has_stop_outside words count ≡ is_any_below (λ i. ltb 63 (get_or words (5 + i) 0)) count
unfolding has_stop_outside is_any_below
serves_any words zero = refl
serves_any words (suc i) = rw (serves_any words i)

serves_decided : (words : List ℕ) (count : ℕ) → Decides (AnyBelow count (λ i. 63 < get_or words (5 + i) 0)) (has_stop_outside words count)
serves_decided words count =
    subst⁻¹ (λ (b : Bool). Decides (AnyBelow count (λ i. 63 < get_or words (5 + i) 0)) b) (serves_any words count) (any (λ i. less 63 (get_or words (5 + i) 0)) count)

serves_length : (words : List ℕ) (count : ℕ) → length (serves_to words count) ≡ 64
unfolding serves_to
serves_length words zero = refl
serves_length words (suc i) = length-set (serves_to words i) i (get_or words (5 + i) 0) ∙ serves_length words i

serves_at : (words : List ℕ) (count i : ℕ) → count ≤ 64 → i < count → get_or (serves_to words count) i 0 ≡ get_or words (5 + i) 0
unfolding serves_to
serves_at words zero i f h = absurd (omega arith)
serves_at words (suc k) i f h = go (eqb i k) refl (serves_at words k i (omega arith))
  where
    go : (b : Bool) → eqb i k ≡ b → (i < k → get_or (serves_to words k) i 0 ≡ get_or words (5 + i) 0)
        → get_or (set (serves_to words k) k (get_or words (5 + k) 0)) i 0 ≡ get_or words (5 + i) 0
    go true e below =
        subst⁻¹ (λ (j : ℕ). get_or (set (serves_to words k) k (get_or words (5 + k) 0)) j 0 ≡ get_or words (5 + j) 0) (eqb-true i k e)
        (get_or-set_same (serves_to words k) k (get_or words (5 + k) 0) 0 (omega (arith, serves_length words k)))
    go false e below =
        let q : (i ≡ k → ⊥) = eqb-false i k e in
        get_or-set_other (serves_to words k) k i (get_or words (5 + k) 0) 0 q ∙ below (omega (arith, q))

few : (words : List ℕ) → ((64 < v words) × (v words ≡ 65535 → ⊥) → ⊥) → served words ≤ 64
unfolding serves_count
few words h = count_small (v words) (fails (less 64 (v words) and non (same (v words) 65535)) h)

abbrev list_row : LineKind → Bool → List ℕ → ℕ → Line
list_row k b words count = record { kind = k; serves = record { listed = b; stops = record { items = serves_to words count; count = count } } }

list_decided : (stops : ℕ) (words : List ℕ) (count : ℕ) (k : LineKind) (b : Bool) → count ≤ 64
    → Decides (AnyBelow count (λ i. stops ≤ get_or words (5 + i) 0)) (is_line_broken stops (list_row k b words count))
list_decided stops words count k b f = through to back (line_decided stops (list_row k b words count))
  where
    to : InLine stops (list_row k b words count) → AnyBelow count (λ i. stops ≤ get_or words (5 + i) 0)
    to (inl h) = absurd (omega arith)
    to (inr x) = (x.0, x.1, subst (λ (y : ℕ). stops ≤ y) (serves_at words count x.0 f x.1) x.2)

    back : AnyBelow count (λ i. stops ≤ get_or words (5 + i) 0) → InLine stops (list_row k b words count)
    back x = inr (x.0, x.1, subst⁻¹ (λ (y : ℕ). stops ≤ y) (serves_at words count x.0 f x.1) x.2)

-- ---- a rider's record

stop_option_lem : (stops stop : ℕ) → ((63 < stop) × (stop ≡ 65535 → ⊥) → ⊥) → Decides ((stop ≡ 65535 → ⊥) × (stops ≤ stop)) (is_stop_unloaded stops (stop_option stop))
stop_option_lem stops stop fit =
    cases (λ (o : Option ℕ). Decides ((stop ≡ 65535 → ⊥) × (stops ≤ stop)) (is_stop_unloaded stops o)) (ltb stop 64)
    (λ e. through (λ h. ((λ q. omega (arith, ltb-true stop 64 e, q)), h)) (λ p. p.1) (most stops stop))
    (λ e. never (λ p. fit (omega (arith, ltb-false stop 64 e), p.0)))

car_option_lem : (cars car : ℕ) → Decides ((car ≡ 255 → ⊥) × (cars ≤ car)) (is_car_unloaded cars (car_option car))
car_option_lem cars car =
    cases (λ (o : Option ℕ). Decides ((car ≡ 255 → ⊥) × (cars ≤ car)) (is_car_unloaded cars o)) (eqb car 255)
    (λ e. never (λ p. p.0 (eqb-true car 255 e)))
    (λ e. through (λ h. (eqb-false car 255 e, h)) (λ p. p.1) (most cars car))

module _ (cars phase car : ℕ) where
  abbrev Carried : Type 0
  Carried = (1 ≤ phase) × (phase ≤ 3) × (cars ≤ car)

  abbrev Found : RiderPhase → Type 0
  Found p = Decides Carried (is_rider_phase_unloaded cars p)

  carried : (1 ≤ phase) → (phase ≤ 3) → Decides Carried (leb cars car)
  carried g h = through (λ x. (g, h, x)) (λ x. x.2) (most cars car)

  phase_option : Found (rider_phase phase car)
  phase_option =
      cases Found (eqb phase 0) (λ e. never (λ x. omega (arith, eqb-true phase 0 e, x.0))) λ n0.
      cases Found (eqb phase 1) (λ e. carried (omega (arith, eqb-true phase 1 e)) (omega (arith, eqb-true phase 1 e))) λ n1.
      cases Found (eqb phase 2) (λ e. carried (omega (arith, eqb-true phase 2 e)) (omega (arith, eqb-true phase 2 e))) λ n2.
      cases Found (eqb phase 3) (λ e. carried (omega (arith, eqb-true phase 3 e)) (omega (arith, eqb-true phase 3 e))) λ n3.
      let out : Decides Carried false =
      never (λ x. omega (arith, eqb-false phase 1 n1, eqb-false phase 2 n2, eqb-false phase 3 n3, x.0, x.1)) in
      both Found (eqb phase 4) out (both Found (eqb phase 5) out (both Found (eqb phase 6) out out))

-- ---- whether a car can be sent

busy : (p : ElevatorPhase) → Decides ((p ≡ Idle → ⊥) × (p ≡ Stopped → ⊥)) (not (is_sendable p))
busy Idle = never (λ h. h.0 refl)
busy (MovingToStop stop) = record { so = λ e. ((λ q. no (ap is_sendable q)), (λ q. no (ap is_sendable q))); back = λ h. refl }
busy (Repositioning stop) = record { so = λ e. ((λ q. no (ap is_sendable q)), (λ q. no (ap is_sendable q))); back = λ h. refl }
busy DoorOpening = record { so = λ e. ((λ q. no (ap is_sendable q)), (λ q. no (ap is_sendable q))); back = λ h. refl }
busy Loading = record { so = λ e. ((λ q. no (ap is_sendable q)), (λ q. no (ap is_sendable q))); back = λ h. refl }
busy DoorClosing = record { so = λ e. ((λ q. no (ap is_sendable q)), (λ q. no (ap is_sendable q))); back = λ h. refl }
busy Stopped = never (λ h. h.1 refl)

-- ---- the kinds

module _ (x : Verdict) (w : World) (words log : List ℕ) where
  -- the places from that of the kind on: `in_order` of Given.antt holds them to the page's
  abbrev from9 : List Cause
  from9 =
      cause 9 (CannotGo w words)
      ∷ cause 10 (QueueFull w words)
      ∷ cause 11 (LastTick w words)
      ∷ cause 12 (LogShort w words log)
      ∷ []

  abbrev behind_kind : List Cause
  behind_kind =
      cause 3 (CountOutside words)
      ∷ cause 1 (CutShort words)
      ∷ cause 3 (FieldOutside words)
      ∷ cause 4 (FloatOutside words)
      ∷ cause 6 (NotNow w words)
      ∷ cause 7 (NotNext w words)
      ∷ cause 8 (NotLoaded w words)
      ∷ from9

  abbrev pub from_kind : List Cause
  from_kind = cause 2 (NoKind words) ∷ behind_kind

  -- a kind's checks
  abbrev read_in : CheckedRead → List Check
  read_in d = d.checks ++ behind w log d.done.found

  abbrev head : Fields
  head = fields_of (get_or words 0 0)

  abbrev sound : Type 0
  sound = Broken w → ⊥

  -- what several kinds ask

  no_car_lem : Decides (w.cars.count ≤ n words) (has_no_car w (n words))
  no_car_lem = past 16 (n words) (n_small words) (most w.cars.count (n words))

  unstarted : {k : ℕ} → 5 ≤ k → k ≤ 12 → kind words ≡ k → (NotNow w words → w.started ≡ false) → Decides (NotNow w words) (not w.started)
  unstarted g h K f = through (λ e. order_before (omega arith) (omega arith) e) f (clear w.started)

  not_most : (a b : ℕ) → (a < b → ⊥) → b < suc a
  not_most a b h = omega (arith, h)

  -- 9 to 12, of a kind that they do not ask
  quiet : {k : ℕ} → kind words ≡ k → (Ask.GoAsks w words k → ⊥) → (Ask.QueueAsks w words k → ⊥) → (Ask.LastAsks w words k → ⊥) → (Ask.LogAsks w words log k → ⊥)
      → Read x [] from9
  quiet K a b c d =
      silent x (λ h. a (Ask.go_asks w words K h)) λ n9.
      silent x (λ h. b (Ask.queue_asks w words K h)) λ n10.
      silent x (λ h. c (Ask.last_asks w words K h)) λ n11.
      silent x (λ h. d (Ask.log_asks w words log K h)) λ n12.
      done x

  -- ---- a kind: its checks in the definition's order, at their places; a place that it does not ask is silent

  line_read : kind words ≡ 1 → Read x (read_in (line_record head words)) behind_kind
  unfolding line_record has_line_field_outside has_line_float_outside serves_count
  line_read K =
      asked x refl (through (Ask.count_of_line words K) (Ask.count_asks words K) (less 64 (v words) and non (same (v words) 65535))) λ n3.
      asked x refl (through (Ask.cut_of_line words K) (Ask.cut_asks words K) (less (length words) (5 + served words))) λ n1.
      asked x refl
      (through (Ask.field_of_line words K) (Ask.field_asks words K)
      (less 7 (n words) or less 1 (s words) or (same (s words) 0 and non (raw words 1 and raw words 3)) or serves_decided words (served words))) λ n3'.
      asked x refl
      (through (Ask.float_of_line words K) (Ask.float_asks words K)
      (same (s words) 1 and (above_zero million (float_at words 1) Ranges.million million_is or from_zero million (float_at words 3) Ranges.million million_is))) λ n4.
      let few_listed : served words ≤ 64 = few words (λ h. n3 (Ask.count_of_line words K h)) in
      unmet x (fails (less 64 (served words)) (λ h. omega (arith, few_listed))) λ n64.
      asked x refl (through (load_after (inl K)) (Ask.now_asks w words K) (flag w.started)) λ n6.
      asked x refl
      (through (Ask.next_of_line w words K) (Ask.next_asks w words K)
      (past 8 (n words) (not_most 7 (n words) (λ h. n3' (line_number K h))) (other (n words) w.lines.count))) λ n7.
      asked x refl
      (through (Ask.loaded_of_line w words K) (Ask.loaded_asks w words K) (list_decided w.stops.count words (served words) (line_kind_of head words) (not (eqb (v words) 65535)) few_listed)) λ n8.
      quiet K (λ e. e) (λ e. e) (λ e. e) (λ e. e)

  stop_read : kind words ≡ 2 → Read x (read_in (stop_record head words)) behind_kind
  stop_read K =
      silent x (Ask.count_asks words K) λ n3.
      asked x refl (through (Ask.cut_of_stop words K) (Ask.cut_asks words K) (less (length words) 3)) λ n1.
      asked x refl
      (through (Ask.field_of_stop words K) (Ask.field_asks words K) (non (same (n words) 0) or less 63 (s words) or non (same (v words) 0))) λ n3'.
      asked x refl (through (Ask.float_of_stop words K) (Ask.float_asks words K) (size million (float_at words 1) Ranges.million million_is)) λ n4.
      asked x refl (through (load_after (inr (inl K))) (Ask.now_asks w words K) (flag w.started)) λ n6.
      asked x refl
      (through (Ask.next_of_stop w words K) (Ask.next_asks w words K)
      (past 64 (s words) (not_most 63 (s words) (λ h. n3' (stop_number (inl K) h))) (other (s words) w.stops.count))) λ n7.
      silent x (Ask.loaded_asks w words K) λ n8.
      quiet K (λ e. e) (λ e. e) (λ e. e) (λ e. e)

  car_read : kind words ≡ 3 → Read x (read_in (car_record head words)) behind_kind
  car_read K =
      silent x (Ask.count_asks words K) λ n3.
      asked x refl (through (Ask.cut_of_car words K) (Ask.cut_asks words K) (less (length words) 15)) λ n1.
      asked x refl (through (Ask.field_of_car words K) (Ask.field_asks words K) (less 7 (s words) or non (same (v words) 0))) λ n3'.
      asked x refl
      (through (Ask.float_of_car words K) (Ask.float_asks words K)
      (size million (float_at words 1) Ranges.million million_is or size thousand (float_at words 3) Ranges.thousand thousand_is
      or from_zero thousand (float_at words 5) Ranges.thousand thousand_is
      or from_zero thousand (float_at words 7) Ranges.thousand thousand_is
      or from_zero thousand (float_at words 9) Ranges.thousand thousand_is
      or from_zero ten (float_at words 11) Ranges.ten ten_is)) λ n4.
      asked x refl (through (load_after (inr (inr (inl K)))) (Ask.now_asks w words K) (flag w.started)) λ n6.
      asked x refl
      (through (Ask.next_of_car w words K) (Ask.next_asks w words K) (past 16 (n words) (n_small words) (other (n words) w.cars.count))) λ n7.
      asked x refl (through (Ask.loaded_of_car w words K) (Ask.loaded_asks w words K) (most w.lines.count (s words))) λ n8.
      quiet K (λ e. e) (λ e. e) (λ e. e) (λ e. e)

  rider_read : kind words ≡ 4 → Read x (read_in (rider_record head words)) behind_kind
  unfolding is_rider_broken
  rider_read K =
      silent x (Ask.count_asks words K) λ n3.
      asked x refl (through (Ask.cut_of_rider words K) (Ask.cut_asks words K) (less (length words) 2)) λ n1.
      asked x refl
      (through (Ask.field_of_rider words K) (Ask.field_asks words K)
      (non (same (n words) 0) or less 127 (s words) or (less 63 (v words) and non (same (v words) 65535))
      or (less 7 (phase_of words)
      or choice (less 0 (phase_of words) and less (phase_of words) 4) (less 15 (phase_car_of words)) (non (same (phase_car_of words) 255))
      or (less 15 (aboard_of words) and non (same (aboard_of words) 255))
      or non (same (top_of words) 0)))) λ n3'.
      silent x (Ask.float_asks words K) λ n4.
      silent x (Ask.now_asks w words K) λ n6.
      asked x refl
      (through (Ask.next_of_rider w words K) (Ask.next_asks w words K)
      (past 128 (s words) (not_most 127 (s words) (λ h. n3' (rider_number K h))) (less w.riders.count (s words)))) λ n7.
      asked x refl
      (through (Ask.loaded_of_rider w words K) (Ask.loaded_asks w words K)
      (stop_option_lem w.stops.count (v words) (λ h. n3' (route_number K h.0 h.1))
      or phase_option w.cars.count (phase_of words) (phase_car_of words)
      or car_option_lem w.cars.count (aboard_of words))) λ n8.
      quiet K (λ e. e) (λ e. e) (λ e. e) (λ e. e)

  send_read : kind words ≡ 5 → Read x (read_in (send_record head)) behind_kind
  send_read K =
      silent x (Ask.count_asks words K) λ n3.
      silent x (Ask.cut_asks words K) λ n1.
      asked x refl (through (Ask.field_of_send words K) (Ask.field_asks words K) (less 63 (s words) or less 1 (v words))) λ n3'.
      silent x (Ask.float_asks words K) λ n4.
      asked x refl (unstarted (omega arith) (omega arith) K (Ask.now_asks w words K)) λ n6.
      silent x (Ask.next_asks w words K) λ n7.
      asked x refl (through (Ask.loaded_of_send w words K) (Ask.loaded_asks w words K) (no_car_lem or most w.stops.count (s words))) λ n8.
      asked x refl
      (through (Ask.go_of_send w words K) (Ask.go_asks w words K)
      (clear (car_at w.cars.items (n words)).enabled or busy (car_at w.cars.items (n words)).phase)) λ n9.
      silent x (Ask.queue_asks w words K) λ n10.
      silent x (Ask.last_asks w words K) λ n11.
      silent x (Ask.log_asks w words log K) λ n12.
      done x

  mode_read : kind words ≡ 6 → Read x (read_in (mode_record head)) behind_kind
  mode_read K =
      silent x (Ask.count_asks words K) λ n3.
      silent x (Ask.cut_asks words K) λ n1.
      asked x refl (through (Ask.field_of_mode words K) (Ask.field_asks words K) (non (same (s words) 0) or less 4 (v words))) λ n3'.
      silent x (Ask.float_asks words K) λ n4.
      asked x refl (unstarted (omega arith) (omega arith) K (Ask.now_asks w words K)) λ n6.
      silent x (Ask.next_asks w words K) λ n7.
      asked x refl (through (Ask.loaded_of_mode w words K) (Ask.loaded_asks w words K) no_car_lem) λ n8.
      quiet K (λ e. e) (λ e. e) (λ e. e) (λ e. e)

  speed_read : kind words ≡ 7 → Read x (read_in (manual_speed_record head words)) behind_kind
  speed_read K =
      silent x (Ask.count_asks words K) λ n3.
      asked x refl (through (Ask.cut_of_speed words K) (Ask.cut_asks words K) (less (length words) 3)) λ n1.
      asked x refl
      (through (Ask.field_of_speed words K) (Ask.field_asks words K)
      (non (same (s words) 0) or less 1 (v words) or (same (v words) 0 and non (raw words 1)))) λ n3'.
      asked x refl
      (through (Ask.float_of_speed words K) (Ask.float_asks words K) (same (v words) 1 and size thousand (float_at words 1) Ranges.thousand thousand_is)) λ n4.
      asked x refl (unstarted (omega arith) (omega arith) K (Ask.now_asks w words K)) λ n6.
      silent x (Ask.next_asks w words K) λ n7.
      asked x refl (through (Ask.loaded_of_speed w words K) (Ask.loaded_asks w words K) no_car_lem) λ n8.
      quiet K (λ e. e) (λ e. e) (λ e. e) (λ e. e)

  command_read : sound → kind words ≡ 8 → Read x (read_in (door_command_record head)) behind_kind
  command_read n0 K =
      silent x (Ask.count_asks words K) λ n3.
      silent x (Ask.cut_asks words K) λ n1.
      asked x refl
      (through (Ask.field_of_command words K) (Ask.field_asks words K) (less 3 (s words) or (non (same (s words) 2) and non (same (v words) 0)))) λ n3'.
      silent x (Ask.float_asks words K) λ n4.
      asked x refl (unstarted (omega arith) (omega arith) K (Ask.now_asks w words K)) λ n6.
      silent x (Ask.next_asks w words K) λ n7.
      asked x refl (through (Ask.loaded_of_command w words K) (Ask.loaded_asks w words K) no_car_lem) λ n8.
      silent x (Ask.go_asks w words K) λ n9.
      let out : (w.cars.count ≤ n words → ⊥) = λ h. n8 (Ask.loaded_of_command w words K h) in
      let over : (8 < (car_at w.cars.items (n words)).door_command_queue.count → ⊥) = λ h. n0 (commands_above (n words) (omega (arith, out)) h) in
      asked x refl
      (through (Ask.queue_of_command w words K) (Ask.queue_asks w words K) (full (car_at w.cars.items (n words)).door_command_queue.count (omega (arith, over)))) λ n10.
      silent x (Ask.last_asks w words K) λ n11.
      silent x (Ask.log_asks w words log K) λ n12.
      done x

  call_read : kind words ≡ 9 → Read x (read_in (hall_call_record head)) behind_kind
  call_read K =
      silent x (Ask.count_asks words K) λ n3.
      silent x (Ask.cut_asks words K) λ n1.
      asked x refl
      (through (Ask.field_of_call words K) (Ask.field_asks words K) (non (same (n words) 0) or less 63 (s words) or less 1 (v words))) λ n3'.
      silent x (Ask.float_asks words K) λ n4.
      asked x refl (unstarted (omega arith) (omega arith) K (Ask.now_asks w words K)) λ n6.
      silent x (Ask.next_asks w words K) λ n7.
      asked x refl (through (Ask.loaded_of_call w words K) (Ask.loaded_asks w words K) (most w.stops.count (s words))) λ n8.
      quiet K (λ e. e) (λ e. e) (λ e. e) (λ e. e)

  destination_read : sound → kind words ≡ 10 → Read x (read_in (destination_record head)) behind_kind
  destination_read n0 K =
      silent x (Ask.count_asks words K) λ n3.
      silent x (Ask.cut_asks words K) λ n1.
      asked x refl (through (Ask.field_of_destination words K) (Ask.field_asks words K) (less 63 (s words) or non (same (v words) 0))) λ n3'.
      silent x (Ask.float_asks words K) λ n4.
      asked x refl (unstarted (omega arith) (omega arith) K (Ask.now_asks w words K)) λ n6.
      silent x (Ask.next_asks w words K) λ n7.
      asked x refl (through (Ask.loaded_of_destination w words K) (Ask.loaded_asks w words K) (no_car_lem or most w.stops.count (s words))) λ n8.
      silent x (Ask.go_asks w words K) λ n9.
      let out : (w.cars.count ≤ n words → ⊥) = λ h. n8 (Ask.loaded_of_destination w words K (inl h)) in
      let over : (8 < (car_at w.cars.items (n words)).destination_queue.count → ⊥) = λ h. n0 (destinations_above (n words) (omega (arith, out)) h) in
      asked x refl
      (through (Ask.queue_of_destination w words K) (Ask.queue_asks w words K) (full (car_at w.cars.items (n words)).destination_queue.count (omega (arith, over)))) λ n10.
      silent x (Ask.last_asks w words K) λ n11.
      silent x (Ask.log_asks w words log K) λ n12.
      done x

  enable_read : kind words ≡ 11 → Read x (read_in (enable_record head)) behind_kind
  enable_read K =
      silent x (Ask.count_asks words K) λ n3.
      silent x (Ask.cut_asks words K) λ n1.
      asked x refl (through (Ask.field_of_enable words K) (Ask.field_asks words K) (non (same (s words) 0) or less 1 (v words))) λ n3'.
      silent x (Ask.float_asks words K) λ n4.
      asked x refl (unstarted (omega arith) (omega arith) K (Ask.now_asks w words K)) λ n6.
      silent x (Ask.next_asks w words K) λ n7.
      asked x refl (through (Ask.loaded_of_enable w words K) (Ask.loaded_asks w words K) no_car_lem) λ n8.
      quiet K (λ e. e) (λ e. e) (λ e. e) (λ e. e)

  -- the room is the paper's where the world is not broken
  short : sound → Decides (length log < w.cars.count * (w.stops.count + 14) + 1) (ltb (length log) (room_for w.cars.count w.stops.count))
  unfolding PaperRoom
  short n0 =
      let room = w.cars.count * (w.stops.count + 14) + 1 in
      subst⁻¹ (λ (y : ℕ). Decides (length log < room) (ltb (length log) y)) (paper_room w (fails (broken_decided w) n0)) (less (length log) room)

  tick_read : sound → kind words ≡ 12 → Read x (read_in (tick_record head words)) behind_kind
  tick_read n0 K =
      silent x (Ask.count_asks words K) λ n3.
      asked x refl (through (Ask.cut_of_tick words K) (Ask.cut_asks words K) (less (length words) 3)) λ n1.
      asked x refl
      (through (Ask.field_of_tick words K) (Ask.field_asks words K) (non (same (n words) 0) or non (same (s words) 0) or non (same (v words) 0))) λ n3'.
      asked x refl (through (Ask.float_of_tick words K) (Ask.float_asks words K) (above_zero one (float_at words 1) F64.one one_is)) λ n4.
      asked x refl (unstarted (omega arith) (omega arith) K (Ask.now_asks w words K)) λ n6.
      silent x (Ask.next_asks w words K) λ n7.
      silent x (Ask.loaded_asks w words K) λ n8.
      silent x (Ask.go_asks w words K) λ n9.
      silent x (Ask.queue_asks w words K) λ n10.
      asked x refl (through (Ask.last_of_tick w words K) (Ask.last_asks w words K) (less 268435455 w.ticks)) λ n11.
      asked x refl (through (Ask.log_of_tick w words log K) (Ask.log_asks w words log K) (short n0)) λ n12.
      done x

  start_read : kind words ≡ 13 → Read x (read_in (start_record head)) behind_kind
  start_read K =
      silent x (Ask.count_asks words K) λ n3.
      silent x (Ask.cut_asks words K) λ n1.
      asked x refl
      (through (Ask.field_of_start words K) (Ask.field_asks words K) (non (same (n words) 0) or non (same (s words) 0) or non (same (v words) 0))) λ n3'.
      silent x (Ask.float_asks words K) λ n4.
      asked x refl (through (second_start K) (Ask.now_asks w words K) (flag w.started)) λ n6.
      silent x (Ask.next_asks w words K) λ n7.
      silent x (Ask.loaded_asks w words K) λ n8.
      quiet K (λ e. e) (λ e. e) (λ e. e) (λ e. e)

  -- ---- the kind, or none

  no_kind : {k : ℕ} → kind words ≡ k → 1 ≤ k → k ≤ 13 → NoKind words → ⊥
  no_kind K g h (kind_0 e) = omega arith
  no_kind K g h (kind_above e) = omega arith

  -- a kind of the table, whose place of the kind is silent
  abbrev ReadKind : KindEntry → Type 0
  ReadKind t = (1 ≤ t.number) × (t.number ≤ 13) × (kind words ≡ t.number → Read x (read_in t.deed) behind_kind)

  abbrev ReadKinds : List KindEntry → Type 0
  ReadKinds [] = Unit {0}
  ReadKinds (t ∷ ts) = ReadKind t × ReadKinds ts

  abbrev Not : List KindEntry → Type 0
  Not [] = Unit {0}
  Not (t ∷ ts) = (eqb (kind words) t.number ≡ false) × Not ts

  by_kinds : (ts : List KindEntry) → ReadKinds ts → (Not ts → NoKind words) → Read x (checks_in w log (kind words) ts) from_kind
  by_kinds [] r f = sure x refl refl (f tt)
  by_kinds (t ∷ ts) r f =
      cases (λ (cs : List Check). Read x cs from_kind) (eqb (kind words) t.number)
      (λ e. let K : kind words ≡ t.number = eqb-true (kind words) t.number e in silent x (no_kind K r.0.0 r.0.1) λ n2. r.0.2 K)
      (λ e. by_kinds ts r.1 (λ q. f (e, q)))

  next : (m : ℕ) → m ≤ kind words → eqb (kind words) m ≡ false → suc m ≤ kind words
  next m h e = omega (arith, h, eqb-false (kind words) m e)

  unknown : Not (kinds head words) → NoKind words
  unknown q = go (eqb (kind words) 0) refl
    where
      go : (b : Bool) → eqb (kind words) 0 ≡ b → NoKind words
      go true e = kind_0 (eqb-true (kind words) 0 e)
      go false e =
          kind_above (next 13 (next 12 (next 11 (next 10 (next 9 (next 8 (next 7 (next 6 (next 5 (next 4 (next 3 (next 2 (next 1 (next 0 (omega arith) e) q.0) q.1.0) q.1.1.0) q.1.1.1.0) q.1.1.1.1.0) q.1.1.1.1.1.0) q.1.1.1.1.1.1.0) q.1.1.1.1.1.1.1.0) q.1.1.1.1.1.1.1.1.0) q.1.1.1.1.1.1.1.1.1.0) q.1.1.1.1.1.1.1.1.1.1.0) q.1.1.1.1.1.1.1.1.1.1.1.0) q.1.1.1.1.1.1.1.1.1.1.1.1.0)

  pub kinds_read : sound → Read x (checks_in w log (kind words) (kinds head words)) from_kind
  kinds_read n0 =
      by_kinds (kinds head words) (
        (omega arith, omega arith, line_read),
        (
          (omega arith, omega arith, stop_read),
          (
            (omega arith, omega arith, car_read),
            (
              (omega arith, omega arith, rider_read),
              (
                (omega arith, omega arith, send_read),
                (
                  (omega arith, omega arith, mode_read),
                  (
                    (omega arith, omega arith, speed_read),
                    (
                      (omega arith, omega arith, command_read n0),
                      (
                        (omega arith, omega arith, call_read),
                        (
                          (omega arith, omega arith, destination_read n0),
                          (
                            (omega arith, omega arith, enable_read),
                            (
                              (omega arith, omega arith, tick_read n0),
                              ((omega arith, omega arith, start_read), tt),
                            ),
                          ),
                        ),
                      ),
                    ),
                  ),
                ),
              ),
            ),
          ),
        ),
      )
      unknown
