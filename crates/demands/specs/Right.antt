-- Demand 2, over every call and the program: each texel is the one that Khronos describes, in either order of channels. Assumes nothing: these are definitions.
use Rattle.std.specs.Prelude.{◌≡◌, List, ℕ, ◌+◌, ◌*◌, ◌<◌, get_or, Ok}
use Rattle.khronos.specs.Agrees.{Bytes, word32}
use Rattle.khronos.specs.Khronos.{half_block}
use Rattle.khronos.specs.Storage.{blocks_along, stored_along, khronos_picture}
use Rattle.files.specs.Fields.{u32_at}
use Rattle.ktx.specs.Picture as ktx
use Rattle.ktx.specs.Picture.{KtxDecoded}
use Rattle.pvrtc.specs.Calls.{TexelRead, RowDecoded, BlockDecoded}
use Rattle.pvrtc.specs.Picture.{in_order}
use Rattle.pvrtc.specs.declared.GridMode.{GridMode}
use Rattle.pvrtc.specs.declared.GridMode.TheVariants.{Rust, Stored}
use Rattle.pvrtc.specs.declared.Picture.{Picture}
use Rattle.levels.specs.Calls.{LevelDecoded}
use Rattle.levels.specs.Levels as level
use Rattle.capi.specs.Ktx.{WroteKtx}
use Rattle.capi.specs.Level.{WroteLevel}
use Rattle.capi.specs.Plate.{texel_answer, WroteRow, WrotePicture}
use Rattle.convert.specs.Output.{plate_of, level_data, program_refusal, output}

-- The place of texel (x, y) among a picture's words.
abbrev pub place_in : Picture → ℕ → ℕ → ℕ
place_in p x y = y * p.width + x

-- The word v is what a call gives for texel (x, y) of the picture p whose data is d.
pub data Gives (p : Picture) (d : List ℕ) (x y v : ℕ) : Type 0 where
  -- The texel call answers it.
  by-texel : TexelRead p d x y (Ok v) → Gives p d x y v
  -- The row call lays it at word x.
  by_row : (old new : List ℕ) → RowDecoded p d y old new (Ok tt) → x < p.width → v ≡ get_or new x 0 → Gives p d x y v
  -- The block call lays it at word y × width + x.
  by-block : (old new : List ℕ) → BlockDecoded p d old new (Ok tt) → x < p.width → y < p.height → v ≡ get_or new (place_in p x y) 0 → Gives p d x y v
  -- C is answered it, with no number above, and finds it among its words.
  by-c-texel : v < 4294967296 → v ≡ texel_answer p d x y → Gives p d x y v
  by-c-row : (old new : List ℕ) → WroteRow p d y old new 0 → x < p.width → v ≡ get_or new x 0 → Gives p d x y v
  by-c-picture : (old new : List ℕ) → WrotePicture p d old new 0 → x < p.width → y < p.height → v ≡ get_or new (place_in p x y) 0 → Gives p d x y v
  -- The call on a KTX file lays it at word y × width + x, and so in C.
  by-ktx : (file old new : List ℕ) → in_order p.order (ktx.plate_of file) ≡ p → ktx.level_data file ≡ d → KtxDecoded p.order file old new (Ok tt)
      → x < p.width → y < p.height → v ≡ get_or new (place_in p x y) 0 → Gives p d x y v
  by-c-ktx : (file old new : List ℕ) → in_order p.order (ktx.plate_of file) ≡ p → ktx.level_data file ≡ d → WroteKtx p.order file old new 0
      → x < p.width → y < p.height → v ≡ get_or new (place_in p x y) 0 → Gives p d x y v
  -- The call on a level of a file of either kind likewise, and so in C.
  by_level : (file : List ℕ) (k : ℕ) (old new : List ℕ) → in_order p.order (level.picture_of file k) ≡ p → level.level_data file k ≡ d
      → LevelDecoded p.order file k old new (Ok tt) → x < p.width → y < p.height → v ≡ get_or new (place_in p x y) 0 → Gives p d x y v
  by-c-level : (file : List ℕ) (k : ℕ) (old new : List ℕ) → in_order p.order (level.picture_of file k) ≡ p → level.level_data file k ≡ d
      → WroteLevel p.order file k old new 0 → x < p.width → y < p.height → v ≡ get_or new (place_in p x y) 0 → Gives p d x y v
  -- The program writes it for a file of either kind, blue first, behind the 18 bytes of the header.
  by-program : (file : List ℕ) → plate_of file ≡ p → level_data file ≡ d → program_refusal file ≡ 0 → x < p.width → y < p.height
      → v ≡ u32_at (output file) (18 + 4 * place_in p x y) → Gives p d x y v

-- The blocks that are stored for a side of so many texels: those that Khronos counts, or as many as the published extension has.
abbrev pub khronos_side : GridMode → (size side : ℕ) → ℕ
khronos_side Rust size side = blocks_along size side
khronos_side Stored size side = stored_along size side

-- The word that Khronos describes at texel (x, y) of a picture, over the grid of its mode and in its order.
abbrev pub khronos_word : Picture → List ℕ → ℕ → ℕ → ℕ
khronos_word p d x y =
    let gx = khronos_side p.mode (2 * half_block p.is2bpp) p.width in
    let gy = khronos_side p.mode 4 p.height in
    word32 p.order (khronos_picture p.is2bpp gx gy d x y)

-- Whatever call gives it, a texel is Khronos's; so all calls agree.
abbrev pub Right : Type 0
Right = (p : Picture) (d : List ℕ) → Bytes d → (x y v : ℕ) → Gives p d x y v → v ≡ khronos_word p d x y
