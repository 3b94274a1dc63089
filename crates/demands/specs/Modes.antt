-- The two modes of a picture side by side: where both have one grid they agree, call by call; and a plate that tells them apart.
-- Assumes nothing: these are definitions.
use Rattle.std.specs.Prelude.{◌≡◌, false, List, [], ◌∷◌, ◌↔◌, ℕ, ◌*◌, ◌/◌, ◌%◌, ◌≤◌, get_or, take, replicate, Result, Ok}
use Rattle.facts.specs.Tab.{tab}
use Rattle.grid.specs.Grid.{block_width}
use Rattle.ktx.specs.Picture as ktx
use Rattle.ktx.specs.Picture.{KtxDecoded}
use Rattle.pixel.specs.declared.ChannelOrder.{ChannelOrder}
use Rattle.pixel.specs.declared.ChannelOrder.TheVariants.{BlueFirst}
use Rattle.pvrtc.specs.Calls.{TexelRead, RowDecoded, BlockDecoded}
use Rattle.pvrtc.specs.Picture.{picture, in_order, across, down, grid_of}
use Rattle.pvrtc.specs.Refusals.{zero_side, not_power, decoded_number, texel_number}
use Rattle.pvrtc.specs.declared.GridMode.{GridMode}
use Rattle.pvrtc.specs.declared.GridMode.TheVariants.{Rust, Stored}
use Rattle.pvrtc.specs.declared.Picture.{Picture}
use Rattle.capi.specs.Plate.{texel_answer, WroteRow, WrotePicture}
use Rattle.convert.specs.Output.{plate_of, level_data, program_refusal, tga, output}
use Rattle.demands.specs.Right.{Gives}
use Rattle.demands.specs.Samples.{red_corner}
use Rattle.pvrtc.specs.declared.Refusal.{Refusal}

-- A picture in another mode.
abbrev pub in_mode : GridMode → Picture → Picture
in_mode mode p = picture p.width p.height p.is2bpp mode p.order

-- Both modes have one grid.
abbrev pub OneGrid : Picture → Type 0
OneGrid p = grid_of (in_mode Rust p) ≡ grid_of (in_mode Stored p)

-- They have where two blocks or more cover the picture each way, and nowhere else.
abbrev pub WhereEqual : Type 0
WhereEqual = (p : Picture) → OneGrid p ↔ ((2 ≤ across p) × (2 ≤ down p))

-- Which sides get 5 is the same in both modes, where none is 0: where one block covers a side the stored grid has two, and both are powers.
abbrev pub SamePowers : Type 0
SamePowers = (p : Picture) → zero_side p ≡ false → not_power (in_mode Rust p) ≡ not_power (in_mode Stored p)

-- The modes agree on the data d: an outcome is right in the one exactly when it is in the other, its number, its texel and every lent word.
-- The plain form and the Rust's names promise what the block call does.
pub record ModesAgree (p : Picture) (d : List ℕ) : Type 0 where
  pub texel : (x y : ℕ) (r : Result ℕ Refusal) → TexelRead (in_mode Rust p) d x y r ↔ TexelRead (in_mode Stored p) d x y r
  pub row : (y : ℕ) (old new : List ℕ) (r : Result (Unit {0}) Refusal) → RowDecoded (in_mode Rust p) d y old new r ↔ RowDecoded (in_mode Stored p) d y old new r
  pub block : (old new : List ℕ) (r : Result (Unit {0}) Refusal) → BlockDecoded (in_mode Rust p) d old new r ↔ BlockDecoded (in_mode Stored p) d old new r
  pub c-texel : (x y : ℕ) → texel_answer (in_mode Rust p) d x y ≡ texel_answer (in_mode Stored p) d x y
  pub c-row : (y : ℕ) (old new : List ℕ) (n : ℕ) → WroteRow (in_mode Rust p) d y old new n ↔ WroteRow (in_mode Stored p) d y old new n
  pub c-picture : (old new : List ℕ) (n : ℕ) → WrotePicture (in_mode Rust p) d old new n ↔ WrotePicture (in_mode Stored p) d old new n

-- Where both grids are equal the modes agree. A file, which is read in the stored mode, then has the picture of the Rust's.
pub record OneGridOneAnswer : Type 0 where
  pub calls : (p : Picture) (d : List ℕ) → OneGrid p → ModesAgree p d
  pub ktx : (order : ChannelOrder) (file old new : List ℕ) → OneGrid (ktx.plate_of file) → KtxDecoded order file old new (Ok tt)
      → BlockDecoded (in_mode Rust (in_order order (ktx.plate_of file))) (ktx.level_data file) old new (Ok tt)
  pub program : (file : List ℕ) → OneGrid (plate_of file) → program_refusal file ≡ 0 → output file ≡ tga (in_mode Rust (plate_of file)) (level_data file)

-- The picture that a picture's whole grid covers, in the Rust's mode and the same order: it has that grid.
abbrev pub whole_of : Picture → Picture
whole_of p = let g = grid_of p in picture (g.across * block_width p.is2bpp) (g.down * 4) p.is2bpp Rust p.order

-- A picture in either mode is the upper left corner of that one, by whatever calls. So what the Rust decodes tells what a stored plate is.
abbrev pub Corner : Type 0
Corner = (p : Picture) (d : List ℕ) (x y v w : ℕ) → Gives p d x y v → Gives (whole_of p) d x y w → v ≡ w

-- A ruby mark: 4 × 4 texels at 4bpp.
abbrev pub ruby : GridMode → Picture
ruby mode = picture 4 4 false mode BlueFirst

-- Four lent words, and the reds of four words.
abbrev pub four_lent : List ℕ
four_lent = replicate 4 0

abbrev pub reds : List ℕ → List ℕ
reds words = tab (λ x. get_or words x 0 / 65536 % 256) 4

-- The red corner: a ruby mark of four blocks, the first of them red and the others black, tells the modes apart.
pub record RedCorner : Type 0 where
  -- In the Rust's mode the first block is alone, and its own neighbour on each side.
  pub rust : (new : List ℕ) (r : Result (Unit {0}) Refusal) → RowDecoded (ruby Rust) red_corner 0 four_lent new r
      → (decoded_number r ≡ 0) × (reds new ≡ 255 ∷ 255 ∷ 255 ∷ 255 ∷ [])
  -- In the stored mode all four are read.
  pub stored : (new : List ℕ) (r : Result (Unit {0}) Refusal) → RowDecoded (ruby Stored) red_corner 0 four_lent new r
      → (decoded_number r ≡ 0) × (reds new ≡ 63 ∷ 95 ∷ 127 ∷ 95 ∷ [])
  -- The one needs eight bytes, the other all 32.
  pub rust-need : (r : Result ℕ Refusal) → TexelRead (ruby Rust) (take 8 red_corner) 0 0 r → texel_number r ≡ 0
  pub rust-short : (r : Result ℕ Refusal) → TexelRead (ruby Rust) (take 7 red_corner) 0 0 r → texel_number r ≡ 3
  pub stored-need : (r : Result ℕ Refusal) → TexelRead (ruby Stored) red_corner 0 0 r → texel_number r ≡ 0
  pub stored_short : (r : Result ℕ Refusal) → TexelRead (ruby Stored) (take 31 red_corner) 0 0 r → texel_number r ≡ 3
