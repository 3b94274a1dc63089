-- What C is told: answers as numbers. Assumes nothing: these are definitions.
use Rattle.std.specs.Prelude.{◌≡◌, cond, not, List, ℕ, ◌+◌, ◌*◌, eqb, length}
use Rattle.paint.specs.Paint.{painted}
use Rattle.paint.specs.Sheet.{on_sheet}
use Rattle.files.specs.Fields.{bits_of, unless_refused}
use Rattle.pvr.specs.Header.{header_refusal, width_field, height_field, is_two, payload_offset}
use Rattle.pixel.specs.declared.ChannelOrder.{ChannelOrder}
use Rattle.pixel.specs.declared.ChannelOrder.TheVariants.{BlueFirst, RedFirst}
use Rattle.pvrtc.specs.Calls.{refusal}
use Rattle.pvrtc.specs.Picture.{picture, sheet_of, picture_texel}
use Rattle.pvrtc.specs.declared.Call.TheVariants as call
use Rattle.pvrtc.specs.declared.GridMode.{GridMode}
use Rattle.pvrtc.specs.declared.GridMode.TheVariants.{Rust, Stored}
use Rattle.pvrtc.specs.declared.Picture.{Picture}

-- Mode 0 is the Rust's, any other number the stored one.
abbrev pub mode_of : ℕ → GridMode
mode_of mode = cond (eqb mode 0) Rust Stored

-- Order 0 is blue first, any other number red first.
abbrev pub order_of : ℕ → ChannelOrder
order_of order = cond (eqb order 0) BlueFirst RedFirst

-- Depth 0 is 4bpp, any other number 2bpp.
abbrev pub plate : (width height depth mode order : ℕ) → Picture
plate width height depth mode order = picture width height (not (eqb depth 0)) (mode_of mode) (order_of order)

-- The texel in the low 32 bits, the refusal's number above, and the texel 0 when refused.
abbrev pub texel_answer : Picture → List ℕ → ℕ → ℕ → ℕ
texel_answer p d x y =
    let n = refusal p (call.Texel x y) d in
    cond (eqb n 0) (picture_texel p d x y) 0 + 4294967296 * n

-- A call that writes into lent words: the refusal's number, and the words afterwards.
pub record Wrote (n : ℕ) (done old new : List ℕ) (r : ℕ) : Type 0 where
  pub number : r ≡ n
  pub words : new ≡ cond (eqb n 0) done old

-- A row: texel (x, y) at word x.
abbrev pub WroteRow : Picture → List ℕ → ℕ → (old new : List ℕ) → ℕ → Type 0
WroteRow p d y old new r =
    Wrote (refusal p (call.Row y (length old)) d) (painted 0 p.width p.width 1 (λ x _. picture_texel p d x y) old) old new r

-- A picture: texel (x, y) at word y × width + x.
abbrev pub WrotePicture : Picture → List ℕ → (old new : List ℕ) → ℕ → Type 0
WrotePicture p d old new r =
    Wrote (refusal p (call.Block (length old)) d) (on_sheet (sheet_of p) (picture_texel p d) old) old new r

-- A field of an accepted header: 1 width, 2 height, 3 bits a texel, 4 the payload offset; any other is 0.
abbrev pub plate_field : (width height bits payload : ℕ) → ℕ → ℕ
plate_field width height bits payload field =
    cond (eqb field 1) width (cond (eqb field 2) height (cond (eqb field 3) bits (cond (eqb field 4) payload 0)))

-- The same where a size is said: field 5.
abbrev pub sized_field : (width height bits payload size : ℕ) → ℕ → ℕ
sized_field width height bits payload size field = cond (eqb field 5) size (plate_field width height bits payload field)

-- A field of a header, refused or not: 0 is the refusal's number; of a refused header every other field is 0.
abbrev pub field_of : (refusal value field : ℕ) → ℕ
field_of refusal value field = cond (eqb field 0) refusal (unless_refused refusal value)

-- A field of a PVR file's header.
abbrev pub header_field : List ℕ → ℕ → ℕ
header_field file field =
    field_of (header_refusal file) (plate_field (width_field file) (height_field file) (bits_of (is_two file)) (payload_offset file) field) field
