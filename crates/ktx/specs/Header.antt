-- The KTX version 1 header, as document 02 says it (W1). Assumes nothing: these are definitions.
-- `file` is the list of the file's bytes; a byte past its end counts as 0.
use Rattle.std.specs.Prelude.{◌≡◌, Bool, cond, not, ◌||◌, List, [], ◌∷◌, ◌++◌, ℕ, ◌+◌, eqb, ltb, length, Result, Ok, Err}
use Rattle.facts.specs.Checks.{Check, check, first_of, number_said}
use Rattle.files.specs.Fields.{u32_at, starts_with, bits_of, unless_refused}
use Rattle.ktx.specs.declared.HeaderRefusal.{HeaderRefusal}
use Rattle.ktx.specs.declared.HeaderRefusal.TheVariants.{ShortHeader, NotKtx, OtherByteOrder, UnknownFormat, NotOnePlate, CutShort}
use Rattle.ktx.specs.declared.Plate.{Plate}

-- The identifier and thirteen fields: 64 bytes.
abbrev pub header_size : ℕ
header_size = 64

-- The identifier: twelve bytes.
abbrev pub identifier : List ℕ
identifier = 0xAB ∷ 0x4B ∷ 0x54 ∷ 0x58 ∷ 0x20 ∷ 0x31 ∷ 0x31 ∷ 0xBB ∷ 0x0D ∷ 0x0A ∷ 0x1A ∷ 0x0A ∷ []

-- The first bytes of a file that is taken as KTX: AB 4B 54 58.
abbrev pub ktx_bytes : List ℕ
ktx_bytes = 0xAB ∷ 0x4B ∷ 0x54 ∷ 0x58 ∷ []

-- Whether a file is taken as KTX. All else is taken as PVR.
abbrev pub is_ktx : List ℕ → Bool
is_ktx file = starts_with file ktx_bytes

-- The byte order.
abbrev pub byte_order : List ℕ → ℕ
byte_order file = u32_at file 12

-- The bytes 01 02 03 04, of which the first is the lowest.
abbrev pub little_endian : ℕ
little_endian = 0x04030201

-- The type. The type size follows, at place 20.
abbrev pub type_field : List ℕ → ℕ
type_field file = u32_at file 16

-- The format.
abbrev pub format_field : List ℕ → ℕ
format_field file = u32_at file 24

-- The internal format. The base format follows, at place 32.
abbrev pub internal_format : List ℕ → ℕ
internal_format file = u32_at file 28

-- The width.
abbrev pub width_field : List ℕ → ℕ
width_field file = u32_at file 36

-- The height.
abbrev pub height_field : List ℕ → ℕ
height_field file = u32_at file 40

-- The depth.
abbrev pub depth_field : List ℕ → ℕ
depth_field file = u32_at file 44

-- The array elements.
abbrev pub elements_field : List ℕ → ℕ
elements_field file = u32_at file 48

-- The faces.
abbrev pub faces_field : List ℕ → ℕ
faces_field file = u32_at file 52

-- The levels.
abbrev pub levels_field : List ℕ → ℕ
levels_field file = u32_at file 56

-- How many levels the file holds: zero means one.
abbrev pub level_count : List ℕ → ℕ
level_count file = cond (eqb (levels_field file) 0) 1 (levels_field file)

-- How many key/value bytes there are.
abbrev pub key_value_bytes : List ℕ → ℕ
key_value_bytes file = u32_at file 60

-- They follow the header, and the size word follows them.
abbrev pub size_place : List ℕ → ℕ
size_place file = header_size + key_value_bytes file

-- The size word: how many bytes level 0 is said to have.
abbrev pub size_word_of : List ℕ → ℕ
size_word_of file = u32_at file (size_place file)

-- Level 0 follows the size word.
abbrev pub payload_offset : List ℕ → ℕ
payload_offset file = size_place file + 4

-- Internal formats 8C00 and 8C02 are 4bpp.
abbrev pub has_four_bits : ℕ → Bool
has_four_bits format = eqb format 0x8C00 || eqb format 0x8C02

-- Internal formats 8C01 and 8C03 are 2bpp.
abbrev pub has_two_bits : ℕ → Bool
has_two_bits format = eqb format 0x8C01 || eqb format 0x8C03

-- No other internal format is read.
abbrev pub is_pvrtc : ℕ → Bool
is_pvrtc format = has_four_bits format || has_two_bits format

-- Whether a file's plate is 2bpp.
abbrev pub is_two : List ℕ → Bool
is_two file = has_two_bits (internal_format file)

-- Under 64 bytes.
abbrev pub short_header : List ℕ → Bool
short_header file = ltb (length file) header_size

-- The first twelve bytes are not the identifier.
abbrev pub not_ktx : List ℕ → Bool
not_ktx file = not (starts_with file identifier)

-- The file is not little-endian.
abbrev pub other_byte_order : List ℕ → Bool
other_byte_order file = not (eqb (byte_order file) little_endian)

-- Type or format is not 0, or it is another internal format.
unfoldable pub unknown_format : List ℕ → Bool
unknown_format file =
    not (eqb (type_field file) 0) || not (eqb (format_field file) 0) || not (is_pvrtc (internal_format file))

-- Depth or array elements is not 0, or faces is not 1.
unfoldable pub not_one_plate : List ℕ → Bool
not_one_plate file = not (eqb (depth_field file) 0) || not (eqb (elements_field file) 0) || not (eqb (faces_field file) 1)

-- The key/value bytes reach past the end.
abbrev pub key_values_cut : List ℕ → Bool
key_values_cut file = ltb (length file) (size_place file)

-- The key/value bytes or the size word reach past the end.
abbrev pub cut_short : List ℕ → Bool
cut_short file = ltb (length file) (payload_offset file)

-- The refusals of the fields, in their order.
abbrev pub field_checks : List ℕ → List Check
field_checks file =
    check (short_header file) 31
    ∷ check (not_ktx file) 32
    ∷ check (other_byte_order file) 33
    ∷ check (unknown_format file) 34
    ∷ check (not_one_plate file) 35
    ∷ []

-- The refusals of the header: those of the fields, and then that it is cut short.
abbrev pub header_checks : List ℕ → List Check
header_checks file = field_checks file ++ (check (cut_short file) 37 ∷ [])

-- The number that reading a header says.
abbrev pub header_refusal : List ℕ → ℕ
header_refusal file = first_of (header_checks file)

-- Document 02's number of a refusal.
abbrev pub number_of : HeaderRefusal → ℕ
number_of ShortHeader = 31
number_of NotKtx = 32
number_of OtherByteOrder = 33
number_of UnknownFormat = 34
number_of NotOnePlate = 35
number_of CutShort = 37

-- The number that an answer says: 0 for none.
abbrev pub header_number : Result Plate HeaderRefusal → ℕ
header_number r = number_said number_of r

-- The width that an answer gives: 0 where it refuses.
abbrev pub header_width : Result Plate HeaderRefusal → ℕ
header_width (Ok p) = p.width
header_width (Err f) = 0

-- The height that an answer gives: 0 where it refuses.
abbrev pub header_height : Result Plate HeaderRefusal → ℕ
header_height (Ok p) = p.height
header_height (Err f) = 0

-- The bits a texel that an answer gives: 0 where it refuses.
abbrev pub header_bits : Result Plate HeaderRefusal → ℕ
header_bits (Ok p) = bits_of p.is2bpp
header_bits (Err f) = 0

-- The payload offset that an answer gives: 0 where it refuses.
abbrev pub header_payload : Result Plate HeaderRefusal → ℕ
header_payload (Ok p) = p.payload
header_payload (Err f) = 0

-- The size word that an answer gives: 0 where it refuses.
abbrev pub header_size_word : Result Plate HeaderRefusal → ℕ
header_size_word (Ok p) = p.size
header_size_word (Err f) = 0

-- Reading a header: its number, and where that is 0 the sizes, the bits a texel, the payload offset and the size word.
pub record HeaderRead (file : List ℕ) (r : Result Plate HeaderRefusal) : Type 0 where
  pub number : header_number r ≡ header_refusal file
  pub width : header_width r ≡ unless_refused (header_refusal file) (width_field file)
  pub height : header_height r ≡ unless_refused (header_refusal file) (height_field file)
  pub bits : header_bits r ≡ unless_refused (header_refusal file) (bits_of (is_two file))
  pub payload : header_payload r ≡ unless_refused (header_refusal file) (payload_offset file)
  pub size : header_size_word r ≡ unless_refused (header_refusal file) (size_word_of file)
