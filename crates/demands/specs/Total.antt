-- Demand 1, over the calls, what C calls and files: every call ends with its answer or a numbered refusal.
-- Assumes nothing: these are definitions.
use Rattle.std.specs.Prelude.{◌≡◌, List, ◌++◌, ◌↔◌, ℕ, ◌+◌, ◌*◌, ◌/◌, ◌%◌, ◌≤◌, ◌<◌, length, drop, Result}
use Rattle.facts.specs.Checks.{Check, Given}
use Rattle.facts.specs.Tab.{tab}
use Rattle.pixel.specs.declared.ChannelOrder.{ChannelOrder}
use Rattle.pvrtc.specs.Calls.{TexelRead, RowDecoded, BlockDecoded}
use Rattle.pvrtc.specs.Picture.{in_order, picture_texel}
use Rattle.pvrtc.specs.Refusals.{need, checks, decoded_number, texel_number, texel_value}
use Rattle.pvrtc.specs.declared.Call.TheVariants as call
use Rattle.pvrtc.specs.declared.Picture.{Picture}
use Rattle.pvr.specs.Header as pvr
use Rattle.pvr.specs.Header.{HeaderRead as PvrHeaderRead}
use Rattle.ktx.specs.Header as ktx
use Rattle.ktx.specs.Header.{HeaderRead as KtxHeaderRead}
use Rattle.ktx.specs.Picture.{plate_of as ktx_plate_of, level_data as ktx_data, picture_checks, decoded_number as ktx_number, KtxDecoded}
use Rattle.levels.specs.Calls.{described_number, LevelRead, LevelDecoded}
use Rattle.levels.specs.Levels.{picture_of, level_data as data_of_level}
use Rattle.levels.specs.Refusals.{level_checks, decode_checks, decoded_number as level_number}
use Rattle.capi.specs.Ktx.{ktx_field, WroteKtx}
use Rattle.capi.specs.Level.{level_field, WroteLevel}
use Rattle.capi.specs.Plate.{texel_answer, WroteRow, WrotePicture, header_field}
use Rattle.convert.specs.Output.{plate_of, level_data, program_checks, program_refusal, refused_line, tga, output}
use Rattle.ktx.specs.declared.HeaderRefusal.{HeaderRefusal as KtxHeaderRefusal}
use Rattle.ktx.specs.declared.Plate.{Plate as KtxPlate}
use Rattle.ktx.specs.declared.Refusal.{Refusal as KtxRefusal}
use Rattle.levels.specs.declared.Level.{Level}
use Rattle.levels.specs.declared.Refusal.{Refusal as LevelRefusal}
use Rattle.pvr.specs.declared.HeaderRefusal.{HeaderRefusal as PvrRefusal}
use Rattle.pvr.specs.declared.Plate.{Plate as PvrPlate}
use Rattle.pvrtc.specs.declared.Refusal.{Refusal}

-- No two outcomes of a call meet its promise: of the three calls on data, of both header readers, of the call on a KTX file, and of both on a level.
pub record OneOutcome : Type 0 where
  pub texel : (p : Picture) (d : List ℕ) (x y : ℕ) (r s : Result ℕ Refusal) → TexelRead p d x y r → TexelRead p d x y s → r ≡ s
  pub row : (p : Picture) (d : List ℕ) (y : ℕ) (old new new' : List ℕ) (r s : Result (Unit {0}) Refusal)
      → RowDecoded p d y old new r → RowDecoded p d y old new' s → (r ≡ s) × (new ≡ new')
  pub block : (p : Picture) (d old new new' : List ℕ) (r s : Result (Unit {0}) Refusal)
      → BlockDecoded p d old new r → BlockDecoded p d old new' s → (r ≡ s) × (new ≡ new')
  pub pvr-header : (file : List ℕ) (r s : Result PvrPlate PvrRefusal) → PvrHeaderRead file r → PvrHeaderRead file s → r ≡ s
  pub ktx-header : (file : List ℕ) (r s : Result KtxPlate KtxHeaderRefusal) → KtxHeaderRead file r → KtxHeaderRead file s → r ≡ s
  pub ktx-picture : (order : ChannelOrder) (file old new new' : List ℕ) (r s : Result (Unit {0}) KtxRefusal)
      → KtxDecoded order file old new r → KtxDecoded order file old new' s → (r ≡ s) × (new ≡ new')
  pub level : (file : List ℕ) (k : ℕ) (r s : Result Level LevelRefusal) → LevelRead file k r → LevelRead file k s → r ≡ s
  pub level-picture : (order : ChannelOrder) (file : List ℕ) (k : ℕ) (old new new' : List ℕ) (r s : Result (Unit {0}) LevelRefusal)
      → LevelDecoded order file k old new r → LevelDecoded order file k old new' s → (r ≡ s) × (new ≡ new')

-- What a texel call with these checks says by its number n and its word v.
pub record TexelOutcome (l : List Check) (texel n v : ℕ) : Type 0 where
  -- A number is given exactly when its condition holds and no earlier one of the call does.
  pub given : (m : ℕ) → 0 < m → (n ≡ m) ↔ Given l m
  -- A refusal returns its number and no word.
  pub refused : 0 < n → v ≡ 0
  -- Success answers the texel.
  pub done : n ≡ 0 → v ≡ texel

-- What a call with these checks says by its number n, and does to lent words.
pub record WordsOutcome (l : List Check) (texels old new : List ℕ) (n : ℕ) : Type 0 where
  -- A number is given exactly when its condition holds and no earlier one of the call does.
  pub given : (m : ℕ) → 0 < m → (n ≡ m) ↔ Given l m
  -- A refusal changes no lent word.
  pub refused : 0 < n → new ≡ old
  -- Success writes the texels in front; later words stay.
  pub done : n ≡ 0 → new ≡ texels ++ drop (length texels) old

-- The texels of a row, and of a picture: (x, y) at place y × width + x.
abbrev pub row_texels : Picture → List ℕ → ℕ → List ℕ
row_texels p d y = tab (λ x. picture_texel p d x y) p.width

abbrev pub picture_texels : Picture → List ℕ → List ℕ
picture_texels p d = tab (λ k. picture_texel p d (k % p.width) (k / p.width)) (p.width * p.height)

-- The texel call, the row call and the block call on data d, and the same three in C.
pub record Total (p : Picture) (d : List ℕ) : Type 0 where
  pub texel : (x y : ℕ) (r : Result ℕ Refusal) → TexelRead p d x y r
      → TexelOutcome (checks p (call.Texel x y) (length d)) (picture_texel p d x y) (texel_number r) (texel_value r)
  pub row : (y : ℕ) (old new : List ℕ) (r : Result (Unit {0}) Refusal) → RowDecoded p d y old new r
      → WordsOutcome (checks p (call.Row y (length old)) (length d)) (row_texels p d y) old new (decoded_number r)
  pub block : (old new : List ℕ) (r : Result (Unit {0}) Refusal) → BlockDecoded p d old new r
      → WordsOutcome (checks p (call.Block (length old)) (length d)) (picture_texels p d) old new (decoded_number r)
  pub c-texel : (x y r : ℕ) → r ≡ texel_answer p d x y
      → TexelOutcome (checks p (call.Texel x y) (length d)) (picture_texel p d x y) (r / 4294967296) (r % 4294967296)
  pub c-row : (y : ℕ) (old new : List ℕ) (n : ℕ) → WroteRow p d y old new n
      → WordsOutcome (checks p (call.Row y (length old)) (length d)) (row_texels p d y) old new n
  pub c-picture : (old new : List ℕ) (n : ℕ) → WrotePicture p d old new n
      → WordsOutcome (checks p (call.Block (length old)) (length d)) (picture_texels p d) old new n

-- A file: its header read as PVR's, the header's number in C, and what the program writes for it, whichever it is.
pub record TotalFile (file : List ℕ) : Type 0 where
  -- A number is given exactly when its condition holds and no earlier one does.
  pub header : (r : Result PvrPlate PvrRefusal) → PvrHeaderRead file r → (n : ℕ) → 0 < n → (pvr.header_number r ≡ n) ↔ Given (pvr.header_checks file) n
  pub c-header : (n : ℕ) → 0 < n → (header_field file 0 ≡ n) ↔ Given (pvr.header_checks file) n
  pub program : (n : ℕ) → 0 < n → (program_refusal file ≡ n) ↔ Given (program_checks file) n
  -- The program writes the line of a refusal alone, or the picture.
  pub refused : 0 < program_refusal file → output file ≡ refused_line (program_refusal file)
  pub done : program_refusal file ≡ 0 → output file ≡ tga (plate_of file) (level_data file)

-- A file read as KTX's: its header and its picture in either order, and both in C.
pub record TotalKtx (file : List ℕ) : Type 0 where
  -- A number is given exactly when its condition holds and no earlier one does.
  pub header : (r : Result KtxPlate KtxHeaderRefusal) → KtxHeaderRead file r → (n : ℕ) → 0 < n → (ktx.header_number r ≡ n) ↔ Given (ktx.header_checks file) n
  pub c-header : (n : ℕ) → 0 < n → (ktx_field file 0 ≡ n) ↔ Given (ktx.header_checks file) n
  -- A refusal changes no lent word, and success writes the texels in front.
  pub picture : (order : ChannelOrder) (old new : List ℕ) (r : Result (Unit {0}) KtxRefusal) → KtxDecoded order file old new r
      → WordsOutcome (picture_checks file (length old)) (picture_texels (in_order order (ktx_plate_of file)) (ktx_data file)) old new (ktx_number r)
  pub c-picture : (order : ChannelOrder) (old new : List ℕ) (n : ℕ) → WroteKtx order file old new n
      → WordsOutcome (picture_checks file (length old)) (picture_texels (in_order order (ktx_plate_of file)) (ktx_data file)) old new n

-- Level k of a file: its description and its picture in either order, and both in C.
pub record TotalLevel (file : List ℕ) (k : ℕ) : Type 0 where
  -- A number is given exactly when its condition holds and no earlier one does.
  pub description : (r : Result Level LevelRefusal) → LevelRead file k r → (n : ℕ) → 0 < n → (described_number r ≡ n) ↔ Given (level_checks file k) n
  pub c-description : (n : ℕ) → 0 < n → (level_field file k 0 ≡ n) ↔ Given (level_checks file k) n
  -- A refusal changes no lent word, and success writes the texels in front.
  pub picture : (order : ChannelOrder) (old new : List ℕ) (r : Result (Unit {0}) LevelRefusal) → LevelDecoded order file k old new r
      → WordsOutcome (decode_checks file k (length old)) (picture_texels (in_order order (picture_of file k)) (data_of_level file k)) old new (level_number r)
  pub c-picture : (order : ChannelOrder) (old new : List ℕ) (n : ℕ) → WroteLevel order file k old new n
      → WordsOutcome (decode_checks file k (length old)) (picture_texels (in_order order (picture_of file k)) (data_of_level file k)) old new n

-- Data past 8n bytes has no effect: an outcome is right for d exactly when it is for d followed by anything.
pub record PastUnread (p : Picture) (d more : List ℕ) : Type 0 where
  pub texel : (x y : ℕ) (r : Result ℕ Refusal) → TexelRead p d x y r ↔ TexelRead p (d ++ more) x y r
  pub row : (y : ℕ) (old new : List ℕ) (r : Result (Unit {0}) Refusal) → RowDecoded p d y old new r ↔ RowDecoded p (d ++ more) y old new r
  pub block : (old new : List ℕ) (r : Result (Unit {0}) Refusal) → BlockDecoded p d old new r ↔ BlockDecoded p (d ++ more) old new r

-- So it is for every picture and all data that has the need.
abbrev pub NothingPast : Type 0
NothingPast = (p : Picture) (d more : List ℕ) → need p ≤ length d → PastUnread p d more

-- What C calls answers what the calls answer, as numbers: so whatever is proved of the calls holds of it.
pub record SameInC (p : Picture) (d : List ℕ) : Type 0 where
  pub texel : (x y : ℕ) (r : Result ℕ Refusal) → TexelRead p d x y r → texel_answer p d x y ≡ texel_value r + 4294967296 * texel_number r
  pub row : (y : ℕ) (old new : List ℕ) (r : Result (Unit {0}) Refusal) → RowDecoded p d y old new r ↔ WroteRow p d y old new (decoded_number r)
  pub picture : (old new : List ℕ) (r : Result (Unit {0}) Refusal) → BlockDecoded p d old new r ↔ WrotePicture p d old new (decoded_number r)
