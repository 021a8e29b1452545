-- The hall calls that clear: systems/doors.rs, clear_matching_hall_calls. "Hall calls clear after all cars"
use Rattle.std.specs.Prelude.{Bool, true, false, ◌&&◌, cond, List, [], ◌∷◌, ◌++◌, ℕ, zero, suc, get_or}
use Rattle.world_call_sets.specs.Calls.{is_called, cleared}
use Rattle.std.specs.declared.option.Option.{Option}
use Rattle.std.specs.declared.option.Option.TheVariants.{None, Some}
use Rattle.log_words.specs.Words.{word_of}
use Rattle.log_words.specs.declared.Event.TheVariants.{HallCallCleared}
use Rattle.turn.specs.Steps.{not_opened}
use Rattle.turn.specs.declared.JustOpened.{JustOpened}
use Rattle.world.specs.declared.HallCalls.{HallCalls}

-- clear_matching_hall_calls, in one direction: whether the call at stop s is one that clears
abbrev pub is_matching : ℕ → ℕ → Bool → Bool
is_matching calls s lit = lit && is_called calls s

-- the calls then, and the word
unfoldable pub clear_one : ℕ → ℕ → Bool → ℕ
clear_one calls s lit = cond (is_matching calls s lit) (cleared calls s) calls

unfoldable pub clear_word : ℕ → ℕ → ℕ → Bool → Bool → List ℕ
clear_word calls i s lit down = cond (is_matching calls s lit) (word_of (HallCallCleared i s down) ∷ []) []

-- clear_matching_hall_calls, for what car i opened: up before down
abbrev pub clear_matching : Option JustOpened → HallCalls → HallCalls
clear_matching None h = h
clear_matching (Some o) h =
    record { up = clear_one h.up o.stop o.lamps.going_up; down = clear_one h.down o.stop o.lamps.going_down }

abbrev pub clear_matching_words : Option JustOpened → ℕ → HallCalls → List ℕ
clear_matching_words None i h = []
clear_matching_words (Some o) i h =
    clear_word h.up i o.stop o.lamps.going_up false ++ clear_word h.down i o.stop o.lamps.going_down true

module _ (opened : List (Option JustOpened)) (h : HallCalls) where
  abbrev pub opened_of : ℕ → Option JustOpened
  opened_of n = get_or opened n not_opened

  -- after the first n cars of just_opened
  unfoldable pub clear_to : ℕ → HallCalls
  clear_to zero = h
  clear_to (suc n) = clear_matching (opened_of n) (clear_to n)

  unfoldable pub clear_words_to : ℕ → List ℕ
  clear_words_to zero = []
  clear_words_to (suc n) = clear_words_to n ++ clear_matching_words (opened_of n) n (clear_to n)
