-- What a record is read as depends on its own words alone: kind by kind, none reads past the words that it asks for,
-- and 69 are enough for all. Assumes nothing.
use mathlib.Core.Path.{◌≡◌, refl}
use mathlib.Core.Bool.{Bool, true, false, not, ◌&&◌, cond}
use mathlib.Core.List.{List, [], ◌∷◌, ◌++◌}
use Prim.Native.Nat.{ℕ, zero, suc, ◌+◌, ◌<◌, ◌≤◌}
use native.Mathlib.Omega.{arith}
use lib.Dec.{ltb, eqb}
use lib.ListN.{length, get_or, length-append, get_or-append}
use borrow.Author.Tests.{le-ltb, ne_eqb, ltb-false, eqb-false}
use Rattle.world.specs.declared.refusal.Refusal.{Refusal}
use Rattle.world.specs.declared.refusal.Refusal.TheVariants.{CutShort}
use Rattle.layout.specs.declared.Fields.{Fields}
use Rattle.tape_records.specs.declared.Read.{Read}
use Rattle.std.specs.Prelude.{Result, Err}
use Rattle.tape_records.specs.Answers.{read_checked}
use Rattle.tape.specs.Tape.{KindEntry, kind_in, kinds, decoded_by, decoded}
use Rattle.tape_loads.specs.LoadRecords.{serves_count, has_stop_outside, serves_to, has_line_field_outside, has_line_float_outside, line_kind_of, line_record, stop_record, car_record, rider_record}
use Rattle.tape_orders.specs.OrderRecords.{manual_speed_record, tick_record}
use Rattle.layout.specs.Layout.{fields_of}
use Rattle.tape_fields.specs.Fields.{float_at, is_raw_zero_at}
use Rattle.tape_loads.proofs.Serves.{count_small}
use Rattle.study_whole.specs.WholeTape.{Ignored, Longest}

-- two tables that answer alike, where the second one's answer is one of which `g` holds
module _ (g : Result Read Refusal → Type 0) where
  infixr 5 ◌and◌
  data Alike : List KindEntry → List KindEntry → Type 0 where
    end : Alike [] []
    ◌and◌ : {t u : KindEntry} {ts us : List KindEntry} → (t.number ≡ u.number) × (g (read_checked u.deed) → read_checked t.deed ≡ read_checked u.deed) → Alike ts us → Alike (t ∷ ts) (u ∷ us)

  alike_in : (k : ℕ) (ts us : List KindEntry) → Alike ts us → g (kind_in k us) → kind_in k ts ≡ kind_in k us
  alike_in k [] [] end h = refl
  alike_in k [] (u ∷ us) x h = elim x [ ]
  alike_in k (t ∷ ts) [] x h = elim x [ ]
  alike_in k (t ∷ ts) (u ∷ us) (p and q) h = rw p.0 (go (eqb k u.number) h (λ i. alike_in k ts us q i))
    where
      go : (b : Bool) → g (cond b (read_checked u.deed) (kind_in k us)) → (g (kind_in k us) → kind_in k ts ≡ kind_in k us) → cond b (read_checked t.deed) (kind_in k ts) ≡ cond b (read_checked u.deed) (kind_in k us)
      go true h i = p.1 h
      go false h i = i h

-- the first `need` words are there
module _ (ws vs : List ℕ) (need : ℕ) (long : need ≤ length ws) where
  word_same : (i : ℕ) → i < need → get_or (ws ++ vs) i 0 ≡ get_or ws i 0
  word_same i h = get_or-append ws vs 0 i (omega arith)

  none_short : (k : ℕ) → k ≤ need → ltb (length (ws ++ vs)) k ≡ false
  none_short k h = rw length-append (le-ltb (length ws + length vs) k (omega arith))

  enough : (k : ℕ) → k ≤ need → ltb (length ws) k ≡ false
  enough k h = le-ltb (length ws) k (omega arith)

  float_same : (k : ℕ) → k + 1 < need → float_at (ws ++ vs) k ≡ float_at ws k
  unfolding float_at
  float_same k h = rw (word_same k (omega arith), word_same (k + 1) h)

  zero_same : (k : ℕ) → k + 1 < need → is_raw_zero_at (ws ++ vs) k ≡ is_raw_zero_at ws k
  unfolding is_raw_zero_at
  zero_same k h = rw (word_same k (omega arith), word_same (k + 1) h)

  outside_same : (n : ℕ) → 5 + n ≤ need → has_stop_outside (ws ++ vs) n ≡ has_stop_outside ws n
  unfolding has_stop_outside
  outside_same zero h = refl
  outside_same (suc n) h = rw (outside_same n (omega arith), word_same (5 + n) (omega arith))

  serves_same : (n : ℕ) → 5 + n ≤ need → serves_to (ws ++ vs) n ≡ serves_to ws n
  unfolding serves_to
  serves_same zero h = refl
  serves_same (suc n) h = rw (serves_same n (omega arith), word_same (5 + n) (omega arith))

  fields_same : (h : Fields) → 5 ≤ need → has_line_field_outside h (ws ++ vs) ≡ has_line_field_outside h ws
  unfolding has_line_field_outside
  fields_same h l = rw (zero_same 1 (omega arith), zero_same 3 (omega arith))

  floats_same : (h : Fields) → 5 ≤ need → has_line_float_outside h (ws ++ vs) ≡ has_line_float_outside h ws
  unfolding has_line_float_outside
  floats_same h l = rw (float_same 1 (omega arith), float_same 3 (omega arith))

  kind_same : (h : Fields) → 5 ≤ need → line_kind_of h (ws ++ vs) ≡ line_kind_of h ws
  unfolding line_kind_of
  kind_same h l = rw (float_same 1 (omega arith), float_same 3 (omega arith))

  line_same : (h : Fields) → 5 + serves_count h.v ≤ need → read_checked (line_record h (ws ++ vs)) ≡ read_checked (line_record h ws)
  unfolding line_record
  line_same h l =
      rw (
        none_short (5 + serves_count h.v) l,
        enough (5 + serves_count h.v) l,
        fields_same h (omega arith),
        outside_same (serves_count h.v) l,
        floats_same h (omega arith),
        kind_same h (omega arith),
        serves_same (serves_count h.v) l,
      )

  stop_same : (h : Fields) → 3 ≤ need → read_checked (stop_record h (ws ++ vs)) ≡ read_checked (stop_record h ws)
  stop_same h l = rw (none_short 3 l, enough 3 l, float_same 1 (omega arith))

  car_same : (h : Fields) → 15 ≤ need → read_checked (car_record h (ws ++ vs)) ≡ read_checked (car_record h ws)
  car_same h l =
      rw (
        none_short 15 l,
        enough 15 l,
        float_same 1 (omega arith),
        float_same 3 (omega arith),
        float_same 5 (omega arith),
        float_same 7 (omega arith),
        float_same 9 (omega arith),
        float_same 11 (omega arith),
        word_same 13 (omega arith),
        word_same 14 (omega arith),
      )

  rider_same : (h : Fields) → 2 ≤ need → read_checked (rider_record h (ws ++ vs)) ≡ read_checked (rider_record h ws)
  rider_same h l = rw (none_short 2 l, enough 2 l, word_same 1 (omega arith))

  speed_same : (h : Fields) → 3 ≤ need → read_checked (manual_speed_record h (ws ++ vs)) ≡ read_checked (manual_speed_record h ws)
  speed_same h l = rw (none_short 3 l, enough 3 l, zero_same 1 (omega arith), float_same 1 (omega arith))

  tick_same : (h : Fields) → 3 ≤ need → read_checked (tick_record h (ws ++ vs)) ≡ read_checked (tick_record h ws)
  tick_same h l = rw (none_short 3 l, enough 3 l, float_same 1 (omega arith))

module _ (ws vs : List ℕ) where
  -- a line whose count is outside its codes is refused before its body is looked at
  line_by : (h : Fields) → (serves_count h.v ≤ 64 → read_checked (line_record h (ws ++ vs)) ≡ read_checked (line_record h ws)) → read_checked (line_record h (ws ++ vs)) ≡ read_checked (line_record h ws)
  unfolding line_record
  line_by h same = go (ltb 64 h.v && not (eqb h.v 65535)) refl
    where
      go : (b : Bool) → (ltb 64 h.v && not (eqb h.v 65535)) ≡ b → read_checked (line_record h (ws ++ vs)) ≡ read_checked (line_record h ws)
      go true e = rw e
      go false e = same (count_small h.v e)

  -- not cut short
  abbrev Uncut : Result Read Refusal → Type 0
  Uncut d = d ≡ Err CutShort → ⊥

  -- a record that is cut short where it has fewer than so many words
  by_length : (k : ℕ) (a b : Result Read Refusal) → (ltb (length ws) k ≡ true → b ≡ Err CutShort) → (k ≤ length ws → a ≡ b) → Uncut b → a ≡ b
  by_length k a b cut same u = go (ltb (length ws) k) refl
    where
      go : (t : Bool) → ltb (length ws) k ≡ t → a ≡ b
      go true e = absurd (u (cut e))
      go false e = same (ltb-false (length ws) k e)

  line_uncut : (h : Fields) → Uncut (read_checked (line_record h ws)) → read_checked (line_record h (ws ++ vs)) ≡ read_checked (line_record h ws)
  unfolding line_record
  line_uncut h u = go (ltb 64 h.v && not (eqb h.v 65535)) refl
    where
      go : (b : Bool) → (ltb 64 h.v && not (eqb h.v 65535)) ≡ b → read_checked (line_record h (ws ++ vs)) ≡ read_checked (line_record h ws)
      go true e = rw e
      go false e =
          let n = 5 + serves_count h.v in
          by_length n (read_checked (line_record h (ws ++ vs))) (read_checked (line_record h ws)) (λ t. rw (e, t)) (λ l. line_same ws vs n l h (omega arith)) u

  record_uncut : (h : Fields) → Uncut (decoded_by h ws) → decoded_by h (ws ++ vs) ≡ decoded_by h ws
  unfolding decoded_by
  record_uncut h u =
      alike_in Uncut h.kind (kinds h (ws ++ vs)) (kinds h ws)
      ((refl, line_uncut h)
      and (refl, by_length 3 (read_checked (stop_record h (ws ++ vs))) (read_checked (stop_record h ws)) (λ t. rw t) (λ l. stop_same ws vs 3 l h (omega arith)))
      and (refl, by_length 15 (read_checked (car_record h (ws ++ vs))) (read_checked (car_record h ws)) (λ t. rw t) (λ l. car_same ws vs 15 l h (omega arith)))
      and (refl, by_length 2 (read_checked (rider_record h (ws ++ vs))) (read_checked (rider_record h ws)) (λ t. rw t) (λ l. rider_same ws vs 2 l h (omega arith)))
      and (refl, λ _. refl)
      and (refl, λ _. refl)
      and (refl, by_length 3 (read_checked (manual_speed_record h (ws ++ vs))) (read_checked (manual_speed_record h ws)) (λ t. rw t) (λ l. speed_same ws vs 3 l h (omega arith)))
      and (refl, λ _. refl)
      and (refl, λ _. refl)
      and (refl, λ _. refl)
      and (refl, λ _. refl)
      and (refl, by_length 3 (read_checked (tick_record h (ws ++ vs))) (read_checked (tick_record h ws)) (λ t. rw t) (λ l. tick_same ws vs 3 l h (omega arith)))
      and (refl, λ _. refl)
      and end)
      u

  -- 69 words are enough for all
  record_long : 69 ≤ length ws → (h : Fields) → decoded_by h (ws ++ vs) ≡ decoded_by h ws
  unfolding decoded_by
  record_long long h =
      alike_in (λ _. Unit {0}) h.kind (kinds h (ws ++ vs)) (kinds h ws)
      ((refl, λ _. line_by h (λ few. line_same ws vs 69 long h (omega arith)))
      and (refl, λ _. stop_same ws vs 69 long h (omega arith))
      and (refl, λ _. car_same ws vs 69 long h (omega arith))
      and (refl, λ _. rider_same ws vs 69 long h (omega arith))
      and (refl, λ _. refl)
      and (refl, λ _. refl)
      and (refl, λ _. speed_same ws vs 69 long h (omega arith))
      and (refl, λ _. refl)
      and (refl, λ _. refl)
      and (refl, λ _. refl)
      and (refl, λ _. refl)
      and (refl, λ _. tick_same ws vs 69 long h (omega arith))
      and (refl, λ _. refl)
      and end)
      tt

  -- with a word at least, the head is the same
  decoded_alike : 0 < length ws → decoded_by (fields_of (get_or ws 0 0)) (ws ++ vs) ≡ decoded_by (fields_of (get_or ws 0 0)) ws → decoded (ws ++ vs) ≡ decoded ws
  unfolding decoded
  decoded_alike h e = rw (none, some, word_same ws vs 1 (omega arith) 0 (omega arith)) e
    where
      none : eqb (length (ws ++ vs)) 0 ≡ false
      none = rw length-append (ne_eqb (length ws + length vs) 0 (λ z. omega arith))

      some : eqb (length ws) 0 ≡ false
      some = ne_eqb (length ws) 0 (λ z. omega arith)

pub longest : Longest
unfolding Longest
longest ws vs long = decoded_alike ws vs (omega arith) (record_long ws vs long (fields_of (get_or ws 0 0)))

pub ignored : Ignored
unfolding Ignored decoded
ignored ws vs u = go (eqb (length ws) 0) refl
  where
    go : (b : Bool) → eqb (length ws) 0 ≡ b → decoded (ws ++ vs) ≡ decoded ws
    go true e = absurd (u (rw e))
    go false e =
        let n : (length ws ≡ 0) → ⊥ = eqb-false (length ws) 0 e in
        decoded_alike ws vs (omega arith) (record_uncut ws vs (fields_of (get_or ws 0 0)) (rw e at u))
