-- What of a file has no effect, over everything that reads one. Assumes nothing: these are definitions.
use Rattle.std.specs.Prelude.{◌≡◌, true, false, List, ◌++◌, ◌↔◌, ℕ, ◌+◌, ◌≤◌, length, get_or, Result}
use Rattle.pvr.specs.Header.{unknown_flags, HeaderRead as PvrHeaderRead}
use Rattle.pvr.specs.NoEffect.{may_differ}
use Rattle.ktx.specs.Header.{is_ktx, payload_offset, HeaderRead as KtxHeaderRead}
use Rattle.ktx.specs.NoEffect.{SameButIgnored}
use Rattle.ktx.specs.Picture as ktx
use Rattle.ktx.specs.Picture.{KtxDecoded}
use Rattle.pixel.specs.declared.ChannelOrder.{ChannelOrder}
use Rattle.pvrtc.specs.Refusals.{need}
use Rattle.capi.specs.Ktx.{ktx_field, WroteKtx}
use Rattle.capi.specs.Plate.{header_field}
use Rattle.convert.specs.Output.{stored_in, plate_of, output, Converted, ConvertedInRoom}
use Rattle.ktx.specs.declared.HeaderRefusal.{HeaderRefusal as KtxHeaderRefusal}
use Rattle.ktx.specs.declared.Plate.{Plate as KtxPlate}
use Rattle.ktx.specs.declared.Refusal.{Refusal as KtxRefusal}
use Rattle.pvr.specs.declared.HeaderRefusal.{HeaderRefusal as PvrRefusal}
use Rattle.pvr.specs.declared.Plate.{Plate as PvrPlate}

-- Two files that differ in PVR's colour space, channel type and flags alone. Both have flags 0 or 2, or neither has.
pub record SameButFlags (f g : List ℕ) : Type 0 where
  pub size : length f ≡ length g
  pub flags : unknown_flags f ≡ unknown_flags g
  pub bytes : (i : ℕ) → may_differ i ≡ false → get_or f i 0 ≡ get_or g i 0

-- The program makes the same of two files: its output, and what `convert` lays.
pub record SameProgram (f g : List ℕ) : Type 0 where
  pub written : output f ≡ output g
  pub laid : (image image' out out' : List ℕ) (r : ℕ) → Converted f image image' out out' r ↔ Converted g image image' out out' r
  pub laid-in-room : (image image' out out' : List ℕ) (r : ℕ) → ConvertedInRoom f image image' out out' r ↔ ConvertedInRoom g image image' out out' r

-- The difference has no effect: on the header's answer, on a field that C asks for, and on the program where it takes the file as PVR.
pub record NoEffect (f g : List ℕ) : Type 0 where
  pub header : (r : Result PvrPlate PvrRefusal) → PvrHeaderRead f r ↔ PvrHeaderRead g r
  pub field : (k : ℕ) → header_field f k ≡ header_field g k
  pub program : is_ktx f ≡ false → SameProgram f g

-- Nor have KTX's type size, base format, levels and the key/value bytes themselves, on what its readers answer, in C too, and on the program where
-- it takes the file as KTX.
pub record NoEffectKtx (f g : List ℕ) : Type 0 where
  pub header : (r : Result KtxPlate KtxHeaderRefusal) → KtxHeaderRead f r ↔ KtxHeaderRead g r
  pub field : (k : ℕ) → ktx_field f k ≡ ktx_field g k
  pub picture : (order : ChannelOrder) (old new : List ℕ) (r : Result (Unit {0}) KtxRefusal) → KtxDecoded order f old new r ↔ KtxDecoded order g old new r
  pub c-picture : (order : ChannelOrder) (old new : List ℕ) (n : ℕ) → WroteKtx order f old new n ↔ WroteKtx order g old new n
  pub program : is_ktx f ≡ true → SameProgram f g

-- So it is for every two such files.
pub record NothingElse : Type 0 where
  pub pvr : (f g : List ℕ) → SameButFlags f g → NoEffect f g
  pub ktx : (f g : List ℕ) → SameButIgnored f g → NoEffectKtx f g

-- Level 0 has 8n bytes; later bytes are unread. A file that has these bytes has its output whatever follows, and, read as KTX, its header's answer and
-- its picture, in C too.
pub record LaterUnread : Type 0 where
  pub program : (file more : List ℕ) → (stored_in file).payload + need (plate_of file) ≤ length file → output (file ++ more) ≡ output file
  pub ktx-header : (file more : List ℕ) → payload_offset file ≤ length file
      → (r : Result KtxPlate KtxHeaderRefusal) → KtxHeaderRead file r ↔ KtxHeaderRead (file ++ more) r
  pub ktx-picture : (file more : List ℕ) → payload_offset file + need (ktx.plate_of file) ≤ length file
      → (order : ChannelOrder) (old new : List ℕ) (r : Result (Unit {0}) KtxRefusal) → KtxDecoded order file old new r
      ↔ KtxDecoded order (file ++ more) old new r
  pub c-picture : (file more : List ℕ) → payload_offset file + need (ktx.plate_of file) ≤ length file
      → (order : ChannelOrder) (old new : List ℕ) (n : ℕ) → WroteKtx order file old new n ↔ WroteKtx order (file ++ more) old new n
