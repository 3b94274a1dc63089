-- A KTX plate decodes as the same payload does from PVR. Assumes nothing: these are definitions.
use Rattle.std.specs.Prelude.{◌≡◌, true, false, List, ◌↔◌, ℕ, ◌≤◌, ◌<◌, length, get_or, Result}
use Rattle.pvr.specs.Header as pvr
use Rattle.ktx.specs.Header as ktx
use Rattle.ktx.specs.Header.{is_ktx}
use Rattle.ktx.specs.Inner.{called_as}
use Rattle.ktx.specs.Picture.{KtxDecoded}
use Rattle.pixel.specs.declared.ChannelOrder.{ChannelOrder}
use Rattle.pvrtc.specs.Calls.{BlockDecoded}
use Rattle.pvrtc.specs.Picture.{in_order}
use Rattle.pvrtc.specs.Refusals.{need}
use Rattle.convert.specs.Output.{plate_of, level_data, skipped_limit, output}
use Rattle.pvrtc.specs.declared.Refusal.{Refusal}

-- A PVR file f and a KTX file g, neither refused for its header or for what it skips, that hold the same plate: the same sizes and depth, and
-- the same payload bytes. The KTX file says the size that is needed.
pub record SamePlate (f g : List ℕ) : Type 0 where
  pub is-pvr : is_ktx f ≡ false
  pub is-ktx : is_ktx g ≡ true
  pub pvr-header : pvr.header_refusal f ≡ 0
  pub ktx-header : ktx.header_refusal g ≡ 0
  pub metadata : pvr.metadata_size f ≤ skipped_limit
  pub key-values : ktx.key_value_bytes g ≤ skipped_limit
  pub plate : plate_of f ≡ plate_of g
  pub size_word : ktx.size_word_of g ≡ need (plate_of g)
  pub pvr-data : need (plate_of f) ≤ length (level_data f)
  pub ktx-data : need (plate_of f) ≤ length (level_data g)
  pub payload : (i : ℕ) → i < need (plate_of f) → get_or (level_data f) i 0 ≡ get_or (level_data g) i 0

-- They give the same TGA, or the same refusal; and in either order decoding g answers and writes what the block call does on f's data.
pub record SameAnswers (f g : List ℕ) : Type 0 where
  pub written : output f ≡ output g
  pub picture : (order : ChannelOrder) (old new : List ℕ) (r : Result (Unit {0}) Refusal)
      → BlockDecoded (in_order order (plate_of f)) (level_data f) old new r ↔ KtxDecoded order g old new (called_as r)
