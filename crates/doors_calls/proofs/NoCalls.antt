-- Where no call stands, none is cleared and no word is written: 0 has no bit set. Assumes nothing.
use mathlib.Core.Path.{◌≡◌, refl}
use mathlib.Core.Bool.{Bool, true, false}
use mathlib.Core.List.{List, []}
use Prim.Native.Nat.{ℕ, zero, suc, ◌<◌, ◌^◌}
use lib.Pow.{pow_pos}
use native.Mathlib.Omega.{arith}
use Rattle.world_call_sets.specs.Calls.{is_called}
use Rattle.std.specs.declared.option.Option.{Option}
use Rattle.std.specs.declared.option.Option.TheVariants.{None, Some}
use Rattle.world_call_sets.proofs.Bits.{bit_held}
use Rattle.log_writes.specs.Parts.{Log}
use Rattle.log_writes.proofs.Written.{written_none}
use Rattle.turn.specs.declared.JustOpened.{JustOpened}
use Rattle.world.specs.declared.HallCalls.{HallCalls}
use Rattle.doors_calls.specs.Clearing.{clear_one, clear_word, clear_matching, clear_matching_words, opened_of, clear_to, clear_words_to}
use Rattle.doors_calls.specs.Parts.{Clears}

none_called : (s : ℕ) → is_called 0 s ≡ false
none_called s = by (is_called 0 s) refl
  where
    by : (b : Bool) → is_called 0 s ≡ b → is_called 0 s ≡ false
    by true e = let h = bit_held 0 s e in let p : 0 < 2 ^ s = pow_pos s in absurd (omega (arith, h, p))
    by false e = e

none_one : (s : ℕ) (lit : Bool) → clear_one 0 s lit ≡ 0
unfolding clear_one
none_one s true = rw (none_called s)
none_one s false = refl

no_word : (i s : ℕ) (lit down : Bool) → clear_word 0 i s lit down ≡ []
unfolding clear_word
no_word i s true down = rw (none_called s)
no_word i s false down = refl

abbrev pub none : HallCalls
none = record { up = 0; down = 0 }

none_matching : (o : Option JustOpened) → clear_matching o none ≡ none
none_matching None = refl
none_matching (Some o) = rw (none_one o.stop o.lamps.going_up, none_one o.stop o.lamps.going_down)

no_words : (o : Option JustOpened) (i : ℕ) → clear_matching_words o i none ≡ []
no_words None i = refl
no_words (Some o) i = rw (no_word i o.stop o.lamps.going_up false, no_word i o.stop o.lamps.going_down true)

none_cleared : (opened : List (Option JustOpened)) (n : ℕ) → clear_to opened none n ≡ none
unfolding clear_to
none_cleared opened zero = refl
none_cleared opened (suc n) = rw (none_cleared opened n) (none_matching (opened_of opened none n))

none_told : (opened : List (Option JustOpened)) (n : ℕ) → clear_words_to opened none n ≡ []
unfolding clear_words_to
none_told opened zero = refl
none_told opened (suc n) = rw (none_told opened n, none_cleared opened n) (no_words (opened_of opened none n) n)

pub no_calls : (opened : List (Option JustOpened)) (n : ℕ) (h : HallCalls) {l : Log} → h ≡ none
    → Clears (clear_to opened h n) (clear_words_to opened h n) l l h
no_calls opened n h e =
    rw (e, none_cleared opened n, none_told opened n) (record { calls = refl; written = written_none })
