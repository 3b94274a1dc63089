-- The orders in which a file is refused, as documents 01 and 02 give them, by their numbers. Assumes nothing: these are definitions.
use Rattle.std.specs.Prelude.{◌≡◌, true, false, List, [], ◌∷◌, ◌++◌, map, ℕ, length}
use Rattle.facts.specs.Checks.{Check, check, first_of}
use Rattle.pvrtc.specs.Refusals.{zero_side}
use Rattle.pvr.specs.Header as pvr
use Rattle.ktx.specs.Header as ktx
use Rattle.ktx.specs.Header.{is_ktx}
use Rattle.ktx.specs.Picture.{picture_checks}
use Rattle.levels.specs.Refusals.{decode_checks}
use Rattle.convert.specs.Output.{stored_in, plate_of, level_data, long_skipped, long_side, large_need, payload_checks, program_checks, program_refusal}

-- The numbers of a list of checks, in its order.
abbrev pub numbers_of : List Check → List ℕ
numbers_of l = map (λ (c : Check). c.number) l

-- What the program refuses of a PVR file: the header's, then its own.
abbrev pub pvr_program_checks : List ℕ → List Check
pvr_program_checks file =
    let p = plate_of file in
    pvr.header_checks file
    ++ (check (long_skipped (stored_in file)) 21
    ∷ check (zero_side p) 1
    ∷ check (long_side p) 22
    ∷ check (large_need p) 23
    ∷ payload_checks p (length (level_data file)))

-- Each reader's order, that of a KTX file's picture, a level's two, and the program's two.
pub record Orders (file : List ℕ) : Type 0 where
  pub pvr-header : numbers_of (pvr.header_checks file) ≡ 11 ∷ 12 ∷ 18 ∷ 13 ∷ 14 ∷ 15 ∷ 16 ∷ 17 ∷ []
  pub ktx-header : numbers_of (ktx.header_checks file) ≡ 31 ∷ 32 ∷ 33 ∷ 34 ∷ 35 ∷ 37 ∷ []
  pub ktx-picture : (room : ℕ) → numbers_of (picture_checks file room) ≡ 31 ∷ 32 ∷ 33 ∷ 34 ∷ 35 ∷ 37 ∷ 1 ∷ 2 ∷ 36 ∷ 3 ∷ 4 ∷ 5 ∷ []
  pub pvr-level : is_ktx file ≡ false → (k room : ℕ)
      → numbers_of (decode_checks file k room) ≡ 11 ∷ 12 ∷ 18 ∷ 13 ∷ 14 ∷ 15 ∷ 16 ∷ 17 ∷ 1 ∷ 2 ∷ 20 ∷ 19 ∷ 3 ∷ 4 ∷ 5 ∷ []
  -- 37 first for the key/value bytes, and again for the size word.
  pub ktx-level : is_ktx file ≡ true → (k room : ℕ)
      → numbers_of (decode_checks file k room) ≡ 31 ∷ 32 ∷ 33 ∷ 34 ∷ 35 ∷ 37 ∷ 1 ∷ 2 ∷ 20 ∷ 19 ∷ 37 ∷ 36 ∷ 3 ∷ 4 ∷ 5 ∷ []
  pub ktx-program : is_ktx file ≡ true
      → numbers_of (program_checks file) ≡ 31 ∷ 32 ∷ 33 ∷ 34 ∷ 35 ∷ 21 ∷ 37 ∷ 1 ∷ 22 ∷ 23 ∷ 36 ∷ 3 ∷ 5 ∷ []
  -- The program's list for both kinds says of a PVR file what its own list says: 37 and 36 are never given.
  pub pvr-program : is_ktx file ≡ false → program_refusal file ≡ first_of (pvr_program_checks file)
  pub pvr-numbers : numbers_of (pvr_program_checks file) ≡ 11 ∷ 12 ∷ 18 ∷ 13 ∷ 14 ∷ 15 ∷ 16 ∷ 17 ∷ 21 ∷ 1 ∷ 22 ∷ 23 ∷ 3 ∷ 5 ∷ []
