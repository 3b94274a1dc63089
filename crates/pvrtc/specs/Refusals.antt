-- What a call refuses, as document 01 says it ("What a call says"). Assumes nothing: these are definitions.
use Rattle.std.specs.Prelude.{Bool, false, not, ◌||◌, List, [], ◌∷◌, ◌++◌, ℕ, ◌*◌, eqb, ltb, leb, Result, Ok, Err}
use Rattle.facts.specs.Checks.{Check, check, number_said}
use Rattle.facts.specs.Checks as said
use Rattle.grid.specs.Grid.{is_power}
use Rattle.grid.specs.Words.{word_bytes}
use Rattle.pvrtc.specs.declared.Call.{Call}
use Rattle.pvrtc.specs.declared.Call.TheVariants as call
use Rattle.pvrtc.specs.declared.Picture.{Picture}
use Rattle.pvrtc.specs.declared.Refusal.{Refusal}
use Rattle.pvrtc.specs.declared.Refusal.TheVariants.{ZeroSide, LargeSide, ShortData, ShortImage, NotPowerOfTwo, Outside}
use Rattle.pvrtc.specs.Picture.{grid_of}

-- The bytes that a picture needs: eight for each block of its grid.
abbrev pub need : Picture → ℕ
need p = word_bytes (grid_of p)

-- A side is 0.
abbrev pub zero_side : Picture → Bool
zero_side p = eqb p.width 0 || eqb p.height 0

-- A side is above 65,536.
abbrev pub large_side : Picture → Bool
large_side p = ltb 65536 p.width || ltb 65536 p.height

-- The data is shorter than the need.
abbrev pub short_data : Picture → ℕ → Bool
short_data p len = ltb len (need p)

-- The image is shorter than width × height words, a row than width. A texel call lends no words.
unfoldable pub short_image : Picture → Call → Bool
short_image p (call.Texel x y) = false
short_image p (call.Row y room) = ltb room p.width
short_image p (call.Block room) = ltb room (p.width * p.height)

-- Blocks across or blocks down is not a power of two.
abbrev pub not_power : Picture → Bool
not_power p = not (is_power (grid_of p).across) || not (is_power (grid_of p).down)

-- x is at or past the width, or y at or past the height. A row call asks for no x, a block call for neither.
unfoldable pub outside : Picture → Call → Bool
outside p (call.Texel x y) = leb p.width x || leb p.height y
outside p (call.Row y room) = leb p.height y
outside p (call.Block room) = false

-- The refusals in groups: the sizes', the data's, the room's, the grid's and the place's.
abbrev pub size_checks : Picture → List Check
size_checks p = check (zero_side p) 1 ∷ check (large_side p) 2 ∷ []

abbrev pub data_checks : Picture → (len : ℕ) → List Check
data_checks p len = check (short_data p len) 3 ∷ []

abbrev pub room_checks : Picture → Call → List Check
room_checks p c = check (short_image p c) 4 ∷ []

abbrev pub grid_checks : Picture → List Check
grid_checks p = check (not_power p) 5 ∷ []

abbrev pub place_checks : Picture → Call → List Check
place_checks p c = check (outside p c) 6 ∷ []

-- The refusals of a call on `len` bytes, in their order.
abbrev pub checks : Picture → Call → (len : ℕ) → List Check
checks p c len = size_checks p ++ (data_checks p len ++ (room_checks p c ++ (grid_checks p ++ place_checks p c)))

-- Document 01's number of a refusal.
abbrev pub number_of : Refusal → ℕ
number_of ZeroSide = 1
number_of LargeSide = 2
number_of ShortData = 3
number_of ShortImage = 4
number_of NotPowerOfTwo = 5
number_of Outside = 6

-- The number that a call's answer says: 0 for none.
abbrev pub decoded_number : Result (Unit {0}) Refusal → ℕ
decoded_number = number_said number_of

-- An answer says what a list of checks says.
abbrev pub Says : Result (Unit {0}) Refusal → List Check → Type 0
Says = said.Says number_of

abbrev pub texel_number : Result ℕ Refusal → ℕ
texel_number = number_said number_of

-- The word that a texel call answers: 0 where it is refused.
abbrev pub texel_value : Result ℕ Refusal → ℕ
texel_value (Ok w) = w
texel_value (Err f) = 0
