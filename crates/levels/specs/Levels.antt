-- The levels of a plate and where they stand in a file, as document 02 says it (W5). Assumes nothing: these are definitions.
-- `file` is the list of the file's bytes.
use Rattle.std.specs.Prelude.{Bool, true, false, cond, List, ℕ, zero, suc, ◌+◌, ◌*◌, ◌/◌, max, drop}
use Rattle.pvr.specs.Header as pvr
use Rattle.ktx.specs.Header as ktx
use Rattle.ktx.specs.Header.{is_ktx}
use Rattle.pixel.specs.declared.ChannelOrder.TheVariants.{BlueFirst}
use Rattle.pvrtc.specs.Picture.{picture}
use Rattle.pvrtc.specs.Refusals.{need}
use Rattle.pvrtc.specs.declared.GridMode.TheVariants.{Stored}
use Rattle.pvrtc.specs.declared.Picture.{Picture}
use Rattle.levels.specs.declared.Level.{Level}
use Rattle.levels.specs.declared.Levels.{Levels}

-- What a PVR file says of its levels: they follow the metadata.
abbrev pub pvr_levels : List ℕ → Levels
pvr_levels file =
    record {
      width = pvr.width_field file;
      height = pvr.height_field file;
      is2bpp = pvr.is_two file;
      count = pvr.levels_field file;
      start = pvr.payload_offset file;
      sized = false;
    }

-- What a KTX file says of them: they follow the key/value bytes, and a size word stands before each.
abbrev pub ktx_levels : List ℕ → Levels
ktx_levels file =
    record {
      width = ktx.width_field file;
      height = ktx.height_field file;
      is2bpp = ktx.is_two file;
      count = ktx.level_count file;
      start = ktx.size_place file;
      sized = true;
    }

-- What a file says of them, read as what it is taken for.
unfoldable pub levels_in : List ℕ → Levels
levels_in file = cond (is_ktx file) (ktx_levels file) (pvr_levels file)

-- A side halved: rounded down, and never below 1.
abbrev pub halved_once : ℕ → ℕ
halved_once side = max 1 (side / 2)

-- A side halved k times.
unfoldable pub halved : (k side : ℕ) → ℕ
halved zero side = side
halved (suc k) side = halved_once (halved k side)

-- The plate itself, which is the first level's picture. A file has the stored grid, and says no order: blue first.
abbrev pub plate_in : Levels → Picture
plate_in l = picture l.width l.height l.is2bpp Stored BlueFirst

-- The picture of level k: the first sides halved k times, and the stored grid of its own sides.
abbrev pub picture_at : Levels → ℕ → Picture
picture_at l k = picture (halved k l.width) (halved k l.height) l.is2bpp Stored BlueFirst

-- The bytes that it needs.
abbrev pub need_at : Levels → ℕ → ℕ
need_at l k = need (picture_at l k)

-- A size word has four bytes, where there is one.
abbrev pub size_word_bytes : (sized : Bool) → ℕ
size_word_bytes sized = cond sized 4 0

-- A level takes the bytes that it needs; where there are size words, padded to four.
abbrev pub taken_by : (sized : Bool) (bytes : ℕ) → ℕ
taken_by sized bytes = cond sized ((bytes + 3) / 4 * 4) bytes

-- Where the bytes of level k start: the first level's behind its size word, each later one's behind what the level before it takes, and
-- its own size word.
unfoldable pub start_at : Levels → ℕ → ℕ
start_at l zero = l.start + size_word_bytes l.sized
start_at l (suc k) = start_at l k + taken_by l.sized (need_at l k) + size_word_bytes l.sized

-- The description of level k.
abbrev pub level_at : Levels → ℕ → Level
level_at l k =
    record {
      width = halved k l.width;
      height = halved k l.height;
      is2bpp = l.is2bpp;
      start = start_at l k;
      need = need_at l k;
    }

-- Level k of a file: its description, its picture, and its data.
abbrev pub level_of : List ℕ → ℕ → Level
level_of file k = level_at (levels_in file) k

abbrev pub picture_of : List ℕ → ℕ → Picture
picture_of file k = picture_at (levels_in file) k

abbrev pub level_data : List ℕ → ℕ → List ℕ
level_data file k = drop (start_at (levels_in file) k) file
