-- What `plate` writes for a file, as document 01 says it ("The program and its two published layouts") and document 02 (W1).
-- Assumes nothing: these are definitions.
-- `file` is the list of the file's bytes.
use Rattle.std.specs.Prelude.{◌≡◌, Bool, true, false, cond, not, ◌&&◌, ◌||◌, List, [], ◌∷◌, ◌++◌, ℕ, ◌+◌, ◌*◌, ◌/◌, ◌%◌, ◌≤◌, max, eqb, ltb, length, take, drop}
use Rattle.facts.specs.Checks.{Check, check, first_of}
use Rattle.facts.specs.Tab.{tab}
use Rattle.paint.specs.Sheet.{on_sheet}
use Rattle.files.specs.Fields.{byte_of}
use Rattle.files.specs.Reading.{Says, fits_size}
use Rattle.files.specs.declared.Stored.{Stored}
use Rattle.pvr.specs.Header as pvr
use Rattle.pvr.specs.Reading.{pvr_says}
use Rattle.ktx.specs.Header as ktx
use Rattle.ktx.specs.Header.{is_ktx}
use Rattle.ktx.specs.Reading.{ktx_says}
use Rattle.pixel.specs.declared.ChannelOrder.TheVariants.{BlueFirst}
use Rattle.pvrtc.specs.Picture.{picture, sheet_of, picture_texel}
use Rattle.pvrtc.specs.Refusals.{need, zero_side, data_checks, grid_checks}
use Rattle.pvrtc.specs.declared.GridMode.TheVariants as mode
use Rattle.pvrtc.specs.declared.Picture.{Picture}

-- What a file says, read as what it is taken for.
unfoldable pub says_of : List ℕ → Says
says_of file = cond (is_ktx file) (ktx_says file) (pvr_says file)

-- The number of its header's refusal: 0 for none.
abbrev pub header_refusal : List ℕ → ℕ
header_refusal file = first_of (says_of file).refusals

-- The plate that it stores.
abbrev pub stored_in : List ℕ → Stored
stored_in file = (says_of file).plate

-- A stored plate's picture, with the stored grid and blue first, as a TGA has it; and that of a file.
abbrev pub picture_of : Stored → Picture
picture_of s = picture s.width s.height s.is2bpp mode.Stored BlueFirst

abbrev pub plate_of : List ℕ → Picture
plate_of file = picture_of (stored_in file)

-- The data of level 0. What is cut short before it leaves no data.
abbrev pub level_data : List ℕ → List ℕ
level_data file = drop (stored_in file).payload file

-- The most metadata or key/value bytes that the program takes: 4,096.
abbrev pub skipped_limit : ℕ
skipped_limit = 4096

-- The largest need that it takes: 32,768 bytes.
abbrev pub need_limit : ℕ
need_limit = 32768

-- The bytes of a PVR file that can matter: the header, the most metadata and the largest need.
abbrev pub pvr_limit : ℕ
pvr_limit = pvr.header_size + skipped_limit + need_limit

-- The bytes of a KTX file that can matter: the header, the most key/value bytes, the size word and the largest need.
abbrev pub ktx_limit : ℕ
ktx_limit = ktx.header_size + skipped_limit + 4 + need_limit

-- So many bytes of a file are read, and no more: the larger of the two.
abbrev pub read_limit : ℕ
read_limit = max pvr_limit ktx_limit

-- More is skipped than 4,096 bytes.
abbrev pub long_skipped : Stored → Bool
long_skipped s = ltb skipped_limit s.skipped

-- A side is above 1,024.
abbrev pub long_side : Picture → Bool
long_side p = ltb 1024 p.width || ltb 1024 p.height

-- The need is above 32,768 bytes.
abbrev pub large_need : Picture → Bool
large_need p = ltb need_limit (need p)

-- The file says another size than the need.
abbrev pub other_size : Stored → Bool
other_size s = not (fits_size s.size (need (picture_of s)))

-- What is asked of a stored plate before its data: the program's own limits, and between them what KTX asks. A PVR file is never cut there,
-- and says no size.
abbrev pub limit_checks : Stored → List Check
limit_checks s =
    let p = picture_of s in
    check (long_skipped s) 21
    ∷ check s.cut 37 ∷ check (zero_side p) 1 ∷ check (long_side p) 22 ∷ check (large_need p) 23 ∷ check (other_size s) 36 ∷ []

-- What the block call can still refuse past them: the data, and then the grid.
abbrev pub payload_checks : Picture → (len : ℕ) → List Check
payload_checks p len = data_checks p len ++ grid_checks p

-- The refusals of a stored plate with `len` bytes of data, in their order.
abbrev pub own_checks : Stored → (len : ℕ) → List Check
own_checks s len = limit_checks s ++ payload_checks (picture_of s) len

-- The refusals of the program, in their order: the header's, then its own.
abbrev pub program_checks : List ℕ → List Check
program_checks file = (says_of file).refusals ++ own_checks (stored_in file) (length (level_data file))

-- The number that the program says of a file: 0 for none.
abbrev pub program_refusal : List ℕ → ℕ
program_refusal file = first_of (program_checks file)

-- The digits of a number below 100, as text.
abbrev pub digits : ℕ → List ℕ
digits n = cond (ltb n 10) ((48 + n) ∷ []) ((48 + n / 10) ∷ (48 + n % 10) ∷ [])

-- The text `refused ` with the space after it.
abbrev pub refused_text : List ℕ
refused_text = 0x72 ∷ 0x65 ∷ 0x66 ∷ 0x75 ∷ 0x73 ∷ 0x65 ∷ 0x64 ∷ 0x20 ∷ []

-- The line `refused N`, with its line feed.
unfoldable pub refused_line : ℕ → List ℕ
refused_line n = refused_text ++ (digits n ++ (0x0A ∷ []))

-- The 18 bytes of a TGA's header: uncompressed, 32 bits a texel, the first row on top.
unfoldable pub tga_header : (w h : ℕ) → List ℕ
tga_header w h =
    0x00 ∷ 0x00 ∷ 0x02
    ∷ 0x00 ∷ 0x00 ∷ 0x00 ∷ 0x00 ∷ 0x00 ∷ 0x00 ∷ 0x00 ∷ 0x00 ∷ 0x00
    ∷ byte_of w 0 ∷ byte_of w 1
    ∷ byte_of h 0 ∷ byte_of h 1
    ∷ 0x20 ∷ 0x28
    ∷ []

-- A TGA of w by h words: its header, then each word's four bytes, little-endian.
abbrev pub tga_of : (w h : ℕ) → (word : ℕ → ℕ) → List ℕ
tga_of w h word = tga_header w h ++ tab (λ i. byte_of (word (i / 4)) (i % 4)) (4 * (w * h))

-- The TGA of a picture whose data is d. Words follow one another in row order: word k is texel (k % width, k / width).
abbrev pub tga : Picture → List ℕ → List ℕ
tga p d = tga_of p.width p.height (λ k. picture_texel p d (k % p.width) (k / p.width))

-- What is written for a picture of which the number n is said: the line of a refusal, or the TGA where n is 0.
unfoldable pub written : ℕ → Picture → List ℕ → List ℕ
written n p d = cond (eqb n 0) (tga p d) (refused_line n)

-- What the program writes for a file.
abbrev pub output : List ℕ → List ℕ
output file = written (program_refusal file) (plate_of file) (level_data file)

-- So many bytes are enough: no later byte of a file has an effect.
abbrev pub EnoughRead : Type 0
EnoughRead = (file : List ℕ) → output (take read_limit file) ≡ output file

-- Lent bytes with these in front: these, followed by the rest as it was.
abbrev pub laid : List ℕ → List ℕ → List ℕ
laid bytes old = bytes ++ drop (length bytes) old

-- How many bytes of `out` are to be written, and the lent bytes and words afterwards: what is written stands in front, and the words are
-- the picture's where n is 0, else as they were.
pub record Answered (n : ℕ) (p : Picture) (d : List ℕ) (image image' out out' : List ℕ) (r : ℕ) : Type 0 where
  pub size : r ≡ length (written n p d)
  pub bytes : out' ≡ laid (written n p d) out
  pub words : image' ≡ cond (eqb n 0) (on_sheet (sheet_of p) (picture_texel p d) image) image

-- What `convert` asks: the lent words and bytes are enough for the largest picture that the limits let through.
pub record Room (image out : ℕ) : Type 0 where
  pub words : 131072 ≤ image
  pub bytes : 524306 ≤ out

-- The promise of `convert`: the output stands in front of the lent bytes, and r is its length.
abbrev pub Converted : (file image image' out out' : List ℕ) → ℕ → Type 0
Converted file image image' out out' r = Answered (program_refusal file) (plate_of file) (level_data file) image image' out out' r

-- Lent room for every file.
abbrev pub roomy : (image out : List ℕ) → Bool
roomy image out = not (ltb (length image) 131072) && not (ltb (length out) 524306)

-- The promise of `plate_convert`: the same where there is room; else it answers 0, and every lent word and byte stays.
pub record ConvertedInRoom (file image image' out out' : List ℕ) (r : ℕ) : Type 0 where
  pub done : roomy image out ≡ true → Converted file image image' out out' r
  pub too-little : roomy image out ≡ false → (r ≡ 0) × (image' ≡ image) × (out' ≡ out)
