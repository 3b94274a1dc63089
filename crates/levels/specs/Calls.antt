-- What describing and decoding a level promise. Assumes nothing: these are definitions.
use Rattle.std.specs.Prelude.{◌≡◌, false, cond, List, ℕ, eqb, length, Result, Ok, Err}
use Rattle.facts.specs.Checks.{number_said}
use Rattle.paint.specs.Sheet.{on_sheet}
use Rattle.pixel.specs.declared.ChannelOrder.{ChannelOrder}
use Rattle.pvrtc.specs.Picture.{in_order, sheet_of, picture_texel}
use Rattle.levels.specs.declared.Level.{Level}
use Rattle.levels.specs.declared.Refusal.{Refusal}
use Rattle.levels.specs.Levels.{level_of, picture_of, level_data}
use Rattle.levels.specs.Refusals.{level_refusal, decode_refusal, number_of, decoded_number}

-- No level: all of it 0.
abbrev pub no_level : Level
no_level = record { width = 0; height = 0; is2bpp = false; start = 0; need = 0 }

-- The number that a description says: 0 for none.
abbrev pub described_number : Result Level Refusal → ℕ
described_number = number_said number_of

-- The level that it gives: none where it refuses.
abbrev pub described_level : Result Level Refusal → Level
described_level (Ok level) = level
described_level (Err f) = no_level

-- A description with the number n: that number, and where it is 0 the level.
pub record Answered (n : ℕ) (level : Level) (r : Result Level Refusal) : Type 0 where
  pub number : described_number r ≡ n
  pub given : described_level r ≡ cond (eqb n 0) level no_level

-- Describing level k of a file.
abbrev pub LevelRead : List ℕ → ℕ → Result Level Refusal → Type 0
LevelRead file k r = Answered (level_refusal file k) (level_of file k) r

-- Decoding it in an order of channels: its number, and the lent words afterwards. Where the number is 0, texel (x, y) of the level stands at
-- word y × width + x and later words are as they were; else all are.
pub record LevelDecoded (order : ChannelOrder) (file : List ℕ) (k : ℕ) (old new : List ℕ) (r : Result (Unit {0}) Refusal) : Type 0 where
  pub number : decoded_number r ≡ decode_refusal file k (length old)
  pub words : new
      ≡ cond (eqb (decode_refusal file k (length old)) 0)
      (on_sheet (sheet_of (picture_of file k)) (picture_texel (in_order order (picture_of file k)) (level_data file k)) old) old
