-- What C is told of a level of a file. Assumes nothing: these are definitions.
use Rattle.std.specs.Prelude.{List, ℕ, length}
use Rattle.files.specs.Fields.{bits_of}
use Rattle.levels.specs.Levels.{level_of, picture_of, level_data}
use Rattle.levels.specs.Refusals.{level_refusal, decode_refusal}
use Rattle.levels.specs.declared.Level.{Level}
use Rattle.paint.specs.Sheet.{on_sheet}
use Rattle.pixel.specs.declared.ChannelOrder.{ChannelOrder}
use Rattle.pvrtc.specs.Picture.{in_order, sheet_of, picture_texel}
use Rattle.capi.specs.Plate.{Wrote, sized_field, field_of}

-- A field of a described level: 1 width, 2 height, 3 bits a texel, 4 where its bytes start, 5 how many it needs; any other is 0.
abbrev pub described_field : Level → ℕ → ℕ
described_field level field = sized_field level.width level.height (bits_of level.is2bpp) level.start level.need field

-- A field of level k of a file. The refusals go as far as the size word, since no image is lent.
abbrev pub level_field : List ℕ → ℕ → ℕ → ℕ
level_field file k field = field_of (level_refusal file k) (described_field (level_of file k) field) field

-- Its picture in an order of channels: texel (x, y) at word y × width + x.
abbrev pub WroteLevel : ChannelOrder → List ℕ → ℕ → (old new : List ℕ) → ℕ → Type 0
WroteLevel order file k old new r =
    Wrote (decode_refusal file k (length old))
    (on_sheet (sheet_of (picture_of file k)) (picture_texel (in_order order (picture_of file k)) (level_data file k)) old) old new r
