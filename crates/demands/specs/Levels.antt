-- The levels of a file beside one another, and level 0 beside the plate. Assumes nothing: these are definitions.
use Rattle.std.specs.Prelude.{◌≡◌, Bool, true, false, cond, List, ◌++◌, ◌↔◌, ℕ, ◌+◌, ◌*◌, ◌≤◌, ◌<◌, ltb, length, get_or, Result, Ok}
use Rattle.facts.specs.Checks.{first_of}
use Rattle.files.specs.Fields.{u32_at}
use Rattle.khronos.specs.Agrees.{Bytes}
use Rattle.pvr.specs.Header as pvr
use Rattle.pvr.specs.NoEffect as pvr-same
use Rattle.ktx.specs.Header as ktx
use Rattle.ktx.specs.Header.{is_ktx}
use Rattle.ktx.specs.NoEffect as ktx-same
use Rattle.ktx.specs.NoEffect.{is_key_value}
use Rattle.ktx.specs.Picture.{KtxDecoded}
use Rattle.levels.specs.Calls.{LevelRead, LevelDecoded}
use Rattle.levels.specs.Levels.{levels_in, plate_in, picture_of, size_word_bytes, start_at, level_data}
use Rattle.levels.specs.Ranges.{end_at, FileRanges, Halving, Allowed, Reckoned}
use Rattle.levels.specs.Refusals.{header_checks, most_levels, level_refusal, decode_refusal}
use Rattle.levels.specs.declared.Levels.{Levels}
use Rattle.pixel.specs.declared.ChannelOrder.{ChannelOrder}
use Rattle.pixel.specs.declared.ChannelOrder.TheVariants.{BlueFirst}
use Rattle.pvrtc.specs.Picture.{in_order}
use Rattle.pvrtc.specs.Refusals.{size_checks}
use Rattle.capi.specs.Level.{level_field, WroteLevel}
use Rattle.convert.specs.Output as program
use Rattle.convert.specs.Output.{program_refusal, output}
use Rattle.demands.specs.LocalCalls.{blocks_of, changed, most_touched}
use Rattle.demands.specs.LocalFiles.{DamagedAt, OnlyNear}
use Rattle.demands.specs.NoEffect.{SameButFlags}
use Rattle.demands.specs.Right.{place_in}
use Rattle.levels.specs.declared.Level.{Level}
use Rattle.levels.specs.declared.Refusal.{Refusal as LevelRefusal}

-- Where levels stand in a file, and how many there may be.
pub record Placing : Type 0 where
  -- The ranges are in order and disjoint, PVR's join without a gap from the payload offset on, and each lies past the header.
  pub ranges : (file : List ℕ) → FileRanges file
  -- Sides are halved k times, rounded down, never below 1.
  pub halving : Halving
  -- Past the header and the sides, 20 is said exactly when there are more levels than halvings down to 1 × 1 allow, counting the first: the last
  -- level that is allowed is 1 × 1, and no earlier one is.
  pub too_many : (file : List ℕ) (k : ℕ) → let l = levels_in file in
      (level_refusal file k ≡ 20) ↔ ((first_of (header_checks file) ≡ 0) × (first_of (size_checks (plate_in l)) ≡ 0) × (most_levels l < l.count))
  pub allowed : (l : Levels) → first_of (size_checks (plate_in l)) ≡ 0 → Allowed l
  -- A level that is described is one of at most seventeen, and ends below 2^40.
  pub reckoned : (file : List ℕ) (k : ℕ) → Bytes file → level_refusal file k ≡ 0 → (k < 17) × Reckoned (levels_in file)

-- How long a file's header is.
abbrev pub header_bytes : List ℕ → ℕ
header_bytes file = cond (is_ktx file) ktx.header_size pvr.header_size

-- Where the headers of two files that are read alike may differ: in KTX's type size and base format; in PVR's colour space, channel type and flags.
abbrev pub may_differ : List ℕ → ℕ → Bool
may_differ file i = cond (is_ktx file) (ktx-same.has_no_effect i) (pvr-same.may_differ i)

-- Two files that are alike in what level k is read from: the header, with known flags in both or in neither, the level's own size word and its own bytes.
-- They end at one place, or both behind the level. Metadata or key/value bytes, every other size word and every other level may differ.
pub record AlikeAt (f g : List ℕ) (k : ℕ) : Type 0 where
  pub ends : (n : ℕ) → n ≤ end_at (levels_in f) k → ltb (length f) n ≡ ltb (length g) n
  pub header : (i : ℕ) → i < header_bytes f → may_differ f i ≡ false → get_or f i 0 ≡ get_or g i 0
  pub flags : is_ktx f ≡ false → pvr.unknown_flags f ≡ pvr.unknown_flags g
  pub own : let l = levels_in f in (i : ℕ) → start_at l k ≤ i + size_word_bytes l.sized → i < end_at l k → get_or f i 0 ≡ get_or g i 0

-- Level k is the same in both: whatever describing or decoding it answers and writes, in either order, and what C is told.
pub record SameLevel (f g : List ℕ) (k : ℕ) : Type 0 where
  pub description : (r : Result Level LevelRefusal) → LevelRead f k r ↔ LevelRead g k r
  pub picture : (order : ChannelOrder) (old new : List ℕ) (r : Result (Unit {0}) LevelRefusal) → LevelDecoded order f k old new r
      ↔ LevelDecoded order g k old new r
  pub c-field : (field : ℕ) → level_field f k field ≡ level_field g k field
  pub c-picture : (order : ChannelOrder) (old new : List ℕ) (n : ℕ) → WroteLevel order f k old new n ↔ WroteLevel order g k old new n

-- Two files that differ in KTX's type size, base format and key/value bytes alone.
pub record SameButKeyValues (f g : List ℕ) : Type 0 where
  pub size : length f ≡ length g
  pub bytes : (i : ℕ) → ktx-same.has_no_effect i ≡ false → is_key_value f i ≡ false → get_or f i 0 ≡ get_or g i 0

-- Each level by itself.
pub record EachByItself : Type 0 where
  -- Nothing else has an effect: no earlier size word either.
  pub alike : (f g : List ℕ) (k : ℕ) → AlikeAt f g k → SameLevel f g k
  -- What follows the level has none.
  pub later : (file more : List ℕ) (k : ℕ) → end_at (levels_in file) k ≤ length file → SameLevel file (file ++ more) k
  -- PVR's colour space and channel type have none, and known flags are read alike.
  pub flags : (f g : List ℕ) → is_ktx f ≡ false → SameButFlags f g → (k : ℕ) → SameLevel f g k
  -- Nor have KTX's type size, base format and the key/value bytes themselves. Its levels, which nothing else reads, are read here.
  pub key-values : (f g : List ℕ) → is_ktx f ≡ true → SameButKeyValues f g → (k : ℕ) → SameLevel f g k
  -- Damage in block z of level j changes nothing of another level.
  pub others : (f g : List ℕ) (j z : ℕ) → DamagedAt (start_at (levels_in f) j) f g z → z < blocks_of (picture_of f j)
      → (k : ℕ) → (k ≡ j → ⊥) → SameLevel f g k
  -- Level j has the same picture and the same refusals, and texels that differ in the block's rectangle alone.
  pub near : (f g : List ℕ) (j z : ℕ) → DamagedAt (start_at (levels_in f) j) f g z
      → (picture_of f j ≡ picture_of g j) × ((room : ℕ) → decode_refusal f j room ≡ decode_refusal g j room)
      × ((order : ChannelOrder) → OnlyNear (in_order order (picture_of f j)) (level_data f j) (level_data g j) z)
  -- At most 49 of its words change at 4bpp, 105 at 2bpp.
  pub few : (f g : List ℕ) (j z : ℕ) → DamagedAt (start_at (levels_in f) j) f g z
      → (order : ChannelOrder) (old new old' new' : List ℕ) → LevelDecoded order f j old new (Ok tt) → LevelDecoded order g j old' new' (Ok tt)
      → changed (picture_of f j) new new' ≤ most_touched (picture_of f j).is2bpp

-- Level 0 is the plate, as the program, which is blue first, and `decode_ktx` have it: where both accept a file, both have the same texels.
pub record FirstLevel (file : List ℕ) : Type 0 where
  pub plate : picture_of file 0 ≡ program.plate_of file
  pub plate-data : level_data file 0 ≡ program.level_data file
  pub by-ktx : (order : ChannelOrder) (old new new' : List ℕ) → LevelDecoded order file 0 old new (Ok tt) → KtxDecoded order file old new' (Ok tt) → new ≡ new'
  pub by-program : (old new : List ℕ) → LevelDecoded BlueFirst file 0 old new (Ok tt) → program_refusal file ≡ 0
      → let p = program.plate_of file in (x y : ℕ) → x < p.width → y < p.height
      → u32_at (output file) (18 + 4 * place_in p x y) ≡ get_or new (place_in p x y) 0
