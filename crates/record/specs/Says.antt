-- What answers say, by computing: of a broken world, of no word, of a start. The function `answers_say` carries it.
use Rattle.std.specs.Prelude.{◌≡◌, true, false, List, [], ◌∷◌, ℕ}
use Rattle.std.specs.declared.option.Option.TheVariants.{None, Some}
use Rattle.world_sound.specs.Sound.{is_broken}
use Rattle.world.specs.declared.World.{World}
use Rattle.record.specs.Record.{answer_numbers, record_of}

pub record AnswersSay : Type 0 where
  -- 0 of a broken world, whatever the words are
  pub refused_0 :
      (w : World) (words log : List ℕ) → is_broken w ≡ true
      → answer_numbers (record_of w words log).answer ≡ record { refusal = Some 0; used = 0; written = 0 }
  -- "1: no word"
  pub refused_1 :
      (w : World) (log : List ℕ) → is_broken w ≡ false
      → answer_numbers (record_of w [] log).answer ≡ record { refusal = Some 1; used = 0; written = 0 }
  -- "D start", a word; then "a second start"
  pub start :
      (w : World) (log : List ℕ) → is_broken w ≡ false → w.started ≡ false
      → answer_numbers (record_of w (0xd000_0000 ∷ []) log).answer ≡ record { refusal = None; used = 1; written = 0 }
  pub refused_6 :
      (w : World) (log : List ℕ) → is_broken w ≡ false → w.started ≡ true
      → answer_numbers (record_of w (0xd000_0000 ∷ []) log).answer ≡ record { refusal = Some 6; used = 0; written = 0 }
