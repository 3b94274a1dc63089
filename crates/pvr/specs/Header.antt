-- The PVR version 3 header, as document 01 says it ("The program and its two published layouts"), with the numbers that document 02 gives to the
-- fields (W4) and with its refusal of flags (W7). Assumes nothing: these are definitions.
-- `file` is the list of the file's bytes; a byte past its end counts as 0.
use Rattle.std.specs.Prelude.{◌≡◌, Bool, not, ◌||◌, List, [], ◌∷◌, ℕ, ◌+◌, eqb, ltb, length, Result, Ok, Err}
use Rattle.facts.specs.Checks.{Check, check, first_of, number_said}
use Rattle.files.specs.Fields.{u32_at, u64_at, starts_with, bits_of, unless_refused}
use Rattle.pvr.specs.declared.HeaderRefusal.{HeaderRefusal}
use Rattle.pvr.specs.declared.HeaderRefusal.TheVariants.{ShortHeader, NotPvr, UnknownFlags, UnknownFormat}
use Rattle.pvr.specs.declared.HeaderRefusal.TheVariants.{DepthNotOne, SurfacesNotOne, FacesNotOne, NoLevel}
use Rattle.pvr.specs.declared.Plate.{Plate}

-- The header: 52 bytes.
abbrev pub header_size : ℕ
header_size = 52

-- The bytes 50 56 52 03.
abbrev pub version : List ℕ
version = 0x50 ∷ 0x56 ∷ 0x52 ∷ 0x03 ∷ []

-- The flags, all four bytes of them.
abbrev pub flags_field : List ℕ → ℕ
flags_field file = u32_at file 4

-- The pixel format, all eight bytes of it. The colour space and the channel type follow, at 16 and 20.
abbrev pub pixel_format : List ℕ → ℕ
pixel_format file = u64_at file 8

-- The height.
abbrev pub height_field : List ℕ → ℕ
height_field file = u32_at file 24

-- The width.
abbrev pub width_field : List ℕ → ℕ
width_field file = u32_at file 28

-- The depth.
abbrev pub depth_field : List ℕ → ℕ
depth_field file = u32_at file 32

-- The surfaces.
abbrev pub surfaces_field : List ℕ → ℕ
surfaces_field file = u32_at file 36

-- The faces.
abbrev pub faces_field : List ℕ → ℕ
faces_field file = u32_at file 40

-- The levels.
abbrev pub levels_field : List ℕ → ℕ
levels_field file = u32_at file 44

-- The metadata size.
abbrev pub metadata_size : List ℕ → ℕ
metadata_size file = u32_at file 48

-- Flags 0, and 2 for premultiplied: neither alters a texel.
abbrev pub known_flags : ℕ → Bool
known_flags flags = eqb flags 0 || eqb flags 2

-- Formats 0 and 1 are 2bpp; 2 and 3 are 4bpp.
abbrev pub is_two : List ℕ → Bool
is_two file = ltb (pixel_format file) 2

-- Level 0 follows the metadata, which follows the header.
abbrev pub payload_offset : List ℕ → ℕ
payload_offset file = header_size + metadata_size file

-- Fewer than 52 bytes.
abbrev pub short_header : List ℕ → Bool
short_header file = ltb (length file) header_size

-- The first four bytes differ.
abbrev pub not_pvr : List ℕ → Bool
not_pvr file = not (starts_with file version)

-- The flags are others than these.
abbrev pub unknown_flags : List ℕ → Bool
unknown_flags file = not (known_flags (flags_field file))

-- The format is not 0 to 3.
abbrev pub unknown_format : List ℕ → Bool
unknown_format file = ltb 3 (pixel_format file)

-- The depth is not 1.
abbrev pub depth_not_one : List ℕ → Bool
depth_not_one file = not (eqb (depth_field file) 1)

-- The surfaces are not 1.
abbrev pub surfaces_not_one : List ℕ → Bool
surfaces_not_one file = not (eqb (surfaces_field file) 1)

-- The faces are not 1.
abbrev pub faces_not_one : List ℕ → Bool
faces_not_one file = not (eqb (faces_field file) 1)

-- The levels are 0.
abbrev pub no_level : List ℕ → Bool
no_level file = eqb (levels_field file) 0

-- The refusals of the four fields that count what a file holds, in their order (document 02, W4).
abbrev pub count_checks : List ℕ → List Check
count_checks file =
    check (depth_not_one file) 14
    ∷ check (surfaces_not_one file) 15
    ∷ check (faces_not_one file) 16
    ∷ check (no_level file) 17
    ∷ []

-- The refusals of the header, in their order.
abbrev pub header_checks : List ℕ → List Check
header_checks file =
    check (short_header file) 11
    ∷ check (not_pvr file) 12
    ∷ check (unknown_flags file) 18
    ∷ check (unknown_format file) 13
    ∷ count_checks file

-- The number that reading a header says.
abbrev pub header_refusal : List ℕ → ℕ
header_refusal file = first_of (header_checks file)

-- The documents' number of a refusal.
abbrev pub number_of : HeaderRefusal → ℕ
number_of ShortHeader = 11
number_of NotPvr = 12
number_of UnknownFlags = 18
number_of UnknownFormat = 13
number_of DepthNotOne = 14
number_of SurfacesNotOne = 15
number_of FacesNotOne = 16
number_of NoLevel = 17

-- The number that an answer says: 0 for none.
abbrev pub header_number : Result Plate HeaderRefusal → ℕ
header_number r = number_said number_of r

-- The width that an answer gives: 0 where it refuses.
abbrev pub header_width : Result Plate HeaderRefusal → ℕ
header_width (Ok p) = p.width
header_width (Err f) = 0

-- The height that an answer gives: 0 where it refuses.
abbrev pub header_height : Result Plate HeaderRefusal → ℕ
header_height (Ok p) = p.height
header_height (Err f) = 0

-- The bits a texel that an answer gives: 0 where it refuses.
abbrev pub header_bits : Result Plate HeaderRefusal → ℕ
header_bits (Ok p) = bits_of p.is2bpp
header_bits (Err f) = 0

-- The payload offset that an answer gives: 0 where it refuses.
abbrev pub header_payload : Result Plate HeaderRefusal → ℕ
header_payload (Ok p) = p.payload
header_payload (Err f) = 0

-- What is answered of a header with the number n: that number, and where it is 0 the sizes, the bits a texel and the payload offset.
pub record HeaderAnswered (n : ℕ) (file : List ℕ) (r : Result Plate HeaderRefusal) : Type 0 where
  pub number : header_number r ≡ n
  pub width : header_width r ≡ unless_refused n (width_field file)
  pub height : header_height r ≡ unless_refused n (height_field file)
  pub bits : header_bits r ≡ unless_refused n (bits_of (is_two file))
  pub payload : header_payload r ≡ unless_refused n (payload_offset file)

-- Reading a header: the number is that of its first refusal.
abbrev pub HeaderRead : List ℕ → Result Plate HeaderRefusal → Type 0
HeaderRead file r = HeaderAnswered (header_refusal file) file r
