-- What is refused of a level, as document 02 says it (W5). Assumes nothing: these are definitions.
use Rattle.std.specs.Prelude.{Bool, cond, not, List, [], ◌∷◌, ◌++◌, ℕ, suc, ◌-◌, max, eqb, ltb, leb, length, Result}
use Rattle.facts.specs.Checks.{Check, check, first_of, number_said}
use Rattle.facts.specs.Checks as said
use Rattle.files.specs.Fields.{u32_at}
use Rattle.grid.specs.Grid.{log2}
use Rattle.pvr.specs.Header as pvr
use Rattle.ktx.specs.Header as ktx
use Rattle.ktx.specs.Header.{is_ktx}
use Rattle.pvrtc.specs.Refusals as call
use Rattle.pvrtc.specs.Refusals.{size_checks, data_checks, room_checks, grid_checks}
use Rattle.pvrtc.specs.declared.Call.TheVariants.{Block}
use Rattle.pvrtc.specs.declared.Picture.{Picture}
use Rattle.levels.specs.declared.Level.{Level}
use Rattle.levels.specs.declared.Levels.{Levels}
use Rattle.levels.specs.declared.Refusal.{Refusal}
use Rattle.levels.specs.declared.Refusal.TheVariants.{Pvr, Ktx, Picture as Called, TooManyLevels, NoSuchLevel, OtherSize}
use Rattle.levels.specs.Levels.{levels_in, plate_in, level_at, picture_of, level_data}

-- The refusals of a KTX file's header: those of its fields, and then that the key/value bytes are cut short. Size words come later.
abbrev pub ktx_header_checks : List ℕ → List Check
ktx_header_checks file = ktx.field_checks file ++ (check (ktx.key_values_cut file) 37 ∷ [])

-- The refusals of a file's header, read as what it is taken for.
unfoldable pub header_checks : List ℕ → List Check
header_checks file = cond (is_ktx file) (ktx_header_checks file) (pvr.header_checks file)

-- How many levels the sides allow: the first, and one for each halving of the longer one down to 1.
abbrev pub most_levels : Levels → ℕ
most_levels l = suc (log2 (max l.width l.height))

-- There are more levels than halvings down to 1 × 1 allow, counting the first.
abbrev pub too_many_levels : Levels → Bool
too_many_levels l = ltb (most_levels l) l.count

-- There is no level k.
abbrev pub no_such_level : Levels → ℕ → Bool
no_such_level l k = leb l.count k

-- The refusals of the number of levels.
abbrev pub count_checks : Levels → ℕ → List Check
count_checks l k = check (too_many_levels l) 20 ∷ check (no_such_level l k) 19 ∷ []

-- A level's size word reaches past the end.
abbrev pub word_cut : List ℕ → Level → Bool
word_cut file level = ltb (length file) level.start

-- It is the four bytes before the level, and differs from the need.
abbrev pub other_size : List ℕ → Level → Bool
other_size file level = not (eqb (u32_at file (level.start - 4)) level.need)

-- The refusals of a level's size word.
abbrev pub word_checks : List ℕ → Level → List Check
word_checks file level = check (word_cut file level) 37 ∷ check (other_size file level) 36 ∷ []

-- Those of the asked level's, where there are size words. No earlier one is read.
unfoldable pub size_word_checks : List ℕ → Levels → ℕ → List Check
size_word_checks file l k = cond l.sized (word_checks file (level_at l k)) []

-- The refusals of level k past the header: those of the plate's sides, of the number of levels, of the size word.
abbrev pub own_checks : List ℕ → Levels → ℕ → List Check
own_checks file l k = size_checks (plate_in l) ++ (count_checks l k ++ size_word_checks file l k)

-- The refusals of level k of a file, in their order, as far as its size word.
abbrev pub level_checks : List ℕ → ℕ → List Check
level_checks file k = header_checks file ++ own_checks file (levels_in file) k

-- What the block call can still refuse of a picture whose sides are accepted.
abbrev pub call_checks : Picture → (len room : ℕ) → List Check
call_checks p len room = data_checks p len ++ (room_checks p (Block room) ++ grid_checks p)

-- The refusals of decoding level k of a file into `room` words: these, and then the block call's.
abbrev pub decode_checks : List ℕ → ℕ → (room : ℕ) → List Check
decode_checks file k room = level_checks file k ++ call_checks (picture_of file k) (length (level_data file k)) room

-- The number that describing level k of a file says, and that of decoding it.
abbrev pub level_refusal : List ℕ → ℕ → ℕ
level_refusal file k = first_of (level_checks file k)

abbrev pub decode_refusal : List ℕ → ℕ → (room : ℕ) → ℕ
decode_refusal file k room = first_of (decode_checks file k room)

-- The documents' number of a refusal.
abbrev pub number_of : Refusal → ℕ
number_of (Pvr f) = pvr.number_of f
number_of (Ktx f) = ktx.number_of f
number_of (Called f) = call.number_of f
number_of TooManyLevels = 20
number_of NoSuchLevel = 19
number_of OtherSize = 36

-- The number that an answer says: 0 for none.
abbrev pub decoded_number : Result (Unit {0}) Refusal → ℕ
decoded_number = number_said number_of

-- An answer says what a list of checks says.
abbrev pub Says : Result (Unit {0}) Refusal → List Check → Type 0
Says = said.Says number_of
