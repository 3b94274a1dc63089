-- What C is told of a KTX file. Assumes nothing: these are definitions.
use Rattle.std.specs.Prelude.{List, ℕ, length}
use Rattle.files.specs.Fields.{bits_of}
use Rattle.ktx.specs.Header.{header_refusal, width_field, height_field, is_two, payload_offset, size_word_of}
use Rattle.ktx.specs.Picture.{plate_of, level_data, picture_refusal}
use Rattle.paint.specs.Sheet.{on_sheet}
use Rattle.pixel.specs.declared.ChannelOrder.{ChannelOrder}
use Rattle.pvrtc.specs.Picture.{in_order, sheet_of, picture_texel}
use Rattle.capi.specs.Plate.{Wrote, sized_field, field_of}

-- A field of its header: the size is the size word.
abbrev pub ktx_field : List ℕ → ℕ → ℕ
ktx_field file field =
    field_of (header_refusal file)
    (sized_field (width_field file) (height_field file) (bits_of (is_two file)) (payload_offset file) (size_word_of file) field) field

-- Its picture in an order of channels: texel (x, y) at word y × width + x.
abbrev pub WroteKtx : ChannelOrder → (file old new : List ℕ) → ℕ → Type 0
WroteKtx order file old new r =
    Wrote (picture_refusal file (length old))
    (on_sheet (sheet_of (plate_of file)) (picture_texel (in_order order (plate_of file)) (level_data file)) old) old new r
