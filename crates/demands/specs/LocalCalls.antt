-- Demand 3, over every call and the program: a texel depends on its footprint, and damage in a block stays near it.
-- Assumes nothing: these are definitions.
use Rattle.std.specs.Prelude.{◌≡◌, Bool, false, cond, not, ◌↔◌, ℕ, ◌+◌, ◌*◌, ◌/◌, ◌%◌, ◌≤◌, ◌<◌, eqb, length, get_or, Ok}
use mathlib.Core.List.{List, Memᴰ}
use Rattle.facts.specs.Count.{count}
use Rattle.grid.specs.Grid.{block_width, block_address, beside}
use Rattle.khronos.specs.Agrees.{Bytes}
use Rattle.pvrtc.specs.Calls.{refusal, BlockDecoded}
use Rattle.pvrtc.specs.Picture.{grid_of}
use Rattle.pvrtc.specs.Refusals.{need, short_image, outside}
use Rattle.pvrtc.specs.declared.Call.{Call}
use Rattle.pvrtc.specs.declared.Picture.{Picture}
use Rattle.demands.specs.Damage.{Spot, spot, damaged}
use Rattle.demands.specs.Footprint.{footprint, is_in, SameBlock, SameOutside}
use Rattle.demands.specs.Local.{Whole}
use Rattle.demands.specs.Right.{Gives}

-- How many blocks a picture's grid has.
abbrev pub blocks_of : Picture → ℕ
blocks_of p = (grid_of p).across * (grid_of p).down

-- The blocks of a texel of a picture that its colours and its weight come from.
abbrev pub footprint_of : Picture → ℕ → ℕ → List ℕ
footprint_of p x y = footprint p.is2bpp (grid_of p).across (grid_of p).down x y

-- The rectangle of texels that damage in block z can change.
abbrev pub damaged_by : Picture → ℕ → List Spot
damaged_by p z = damaged p.is2bpp (grid_of p).across (grid_of p).down z

-- How many texels of a picture have block z in their footprint.
abbrev pub touched_by : Picture → ℕ → ℕ
touched_by p z = count (λ k. is_in z (footprint_of p (k % p.width) (k / p.width))) (p.width * p.height)

-- How many words of two pictures differ.
abbrev pub changed : Picture → (new new' : List ℕ) → ℕ
changed p new new' = count (λ k. not (eqb (get_or new k 0) (get_or new' k 0))) (p.width * p.height)

-- 49 texels at 4bpp, 105 at 2bpp.
abbrev pub most_touched : Bool → ℕ
most_touched two = cond two 105 49

-- A picture that its grid covers exactly, with two blocks or more each way.
abbrev pub WholePicture : Picture → Type 0
WholePicture p = Whole p.is2bpp (grid_of p).across (grid_of p).down p.width p.height

-- Block z matters: two runs that differ in it alone, and differ at every texel whose footprint has it.
pub record Shown (p : Picture) (z : ℕ) : Type 0 where
  pub one : List ℕ
  pub other : List ℕ
  -- Each is as long as the need, so that they differ nowhere else.
  pub one_size : length one ≡ need p
  pub other-size : length other ≡ need p
  pub one-bytes : Bytes one
  pub other-bytes : Bytes other
  pub alone : SameOutside (blocks_of p) one other z
  -- Every call on them is accepted that has room and asks for a texel of the picture.
  pub accepted : (c : Call) → short_image p c ≡ false → outside p c ≡ false → (refusal p c one ≡ 0) × (refusal p c other ≡ 0)
  pub differ : (x y v w : ℕ) → Memᴰ z (footprint_of p x y) → Gives p one x y v → Gives p other x y w → v ≡ w → ⊥
  -- So every touched word of the picture changes.
  pub changes : (old new old' new' : List ℕ) → BlockDecoded p one old new (Ok tt) → BlockDecoded p other old' new' (Ok tt) → changed p new new' ≡ touched_by p z

-- What demand 3 says of a picture.
pub record LocalCalls (p : Picture) : Type 0 where
  -- A footprint has one to four blocks of the grid.
  pub some : (x y : ℕ) → 1 ≤ length (footprint_of p x y)
  pub few : (x y : ℕ) → length (footprint_of p x y) ≤ 4
  pub within : (x y z : ℕ) → Memᴰ z (footprint_of p x y) → z < blocks_of p
  -- The block of each weight that filling reads is among them: (u, v) is the texel's own place of the three by three blocks
  -- or at most one texel beside it.
  pub fills : (x y u v : ℕ) → let g = grid_of p in let bw = block_width g.is2bpp in
      (x % bw + bw ≤ u + 1) × (u ≤ x % bw + bw + 1) → (y % 4 + 4 ≤ v + 1) × (v ≤ y % 4 + 5)
      → Memᴰ (block_address g.across g.down (beside g.across (x / bw) (u / bw)) (beside g.down (y / 4) (v / 4))) (footprint_of p x y)
  -- Two runs that agree on them give the same word, by whatever calls.
  pub enough : (x y v w : ℕ) (d d' : List ℕ) → ((z : ℕ) → Memᴰ z (footprint_of p x y) → SameBlock d d' z)
      → Gives p d x y v → Gives p d' x y w → v ≡ w
  -- And each of them matters: every block does, wherever it is in a footprint.
  pub needed : (z : ℕ) → z < blocks_of p → Shown p z
  -- So damage in block z touches no texel outside its rectangle, which has 49 places at 4bpp, 105 at 2bpp.
  pub size : (z : ℕ) → length (damaged_by p z) ≡ most_touched p.is2bpp
  pub only : (x y z v w : ℕ) (d d' : List ℕ) → SameOutside (blocks_of p) d d' z → Gives p d x y v → Gives p d' x y w
      → (v ≡ w → ⊥) → Memᴰ (spot x y) (damaged_by p z)
  -- A block that lies past the picture, as a stored grid may have it, still has its rectangle, cut to the picture: of its texels, z is in the
  -- footprint of those of the rectangle and of no other.
  pub cut : (x y z : ℕ) → x < p.width → y < p.height → z < blocks_of p → Memᴰ (spot x y) (damaged_by p z) ↔ Memᴰ z (footprint_of p x y)
  -- It changes no more words of the picture than there are texels with z in their footprint, and these are at most so many.
  pub no_more : (z : ℕ) (d d' old new old' new' : List ℕ) → SameOutside (blocks_of p) d d' z
      → BlockDecoded p d old new (Ok tt) → BlockDecoded p d' old' new' (Ok tt) → changed p new new' ≤ touched_by p z
  pub at_most : (z : ℕ) → touched_by p z ≤ most_touched p.is2bpp
  -- Where the grid has at least two blocks each way and covers the picture exactly, exactly so many.
  pub exactly : WholePicture p → (z : ℕ) → z < blocks_of p → touched_by p z ≡ most_touched p.is2bpp

-- So it is for every picture that some call accepts.
abbrev pub LocalPictures : Type 0
LocalPictures = (p : Picture) (c : Call) (d : List ℕ) → refusal p c d ≡ 0 → LocalCalls p
