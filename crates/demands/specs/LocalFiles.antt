-- Demand 3 over files: damage in the eight bytes of one block changes no texel outside that block's rectangle.
-- Assumes nothing: these are definitions.
use Rattle.std.specs.Prelude.{◌≡◌, not, ℕ, ◌+◌, ◌*◌, ◌≤◌, ◌<◌, eqb, length, get_or, Ok}
use mathlib.Core.List.{List, Memᴰ}
use Rattle.facts.specs.Count.{count}
use Rattle.files.specs.Fields.{u32_at}
use Rattle.ktx.specs.Header.{payload_offset}
use Rattle.ktx.specs.Picture as ktx
use Rattle.ktx.specs.Picture.{picture_refusal, KtxDecoded}
use Rattle.pixel.specs.declared.ChannelOrder.{ChannelOrder}
use Rattle.pvrtc.specs.Picture.{in_order}
use Rattle.pvrtc.specs.declared.Picture.{Picture}
use Rattle.convert.specs.Output.{stored_in, plate_of, level_data, program_refusal, output}
use Rattle.demands.specs.Damage.{spot}
use Rattle.demands.specs.LocalCalls.{damaged_by, changed, most_touched}
use Rattle.demands.specs.Right.{Gives}

-- Two files of one length that differ in block z alone, where the plate's data begins at `start`.
pub record DamagedAt (start : ℕ) (f g : List ℕ) (z : ℕ) : Type 0 where
  pub size : length f ≡ length g
  pub before : (i : ℕ) → i < start + 8 * z → get_or f i 0 ≡ get_or g i 0
  pub behind : (i : ℕ) → start + 8 * z + 8 ≤ i → get_or f i 0 ≡ get_or g i 0

-- Whatever calls give two texels at one place of the picture p, on the data d and d', they differ only in the rectangle of block z.
abbrev pub OnlyNear : Picture → (d d' : List ℕ) → (z : ℕ) → Type 0
OnlyNear p d d' z = (x y v w : ℕ) → Gives p d x y v → Gives p d' x y w → (v ≡ w → ⊥) → Memᴰ (spot x y) (damaged_by p z)

-- How many words of two TGAs of a picture differ, behind the 18 bytes of the header.
abbrev pub changed_in : Picture → (tga tga' : List ℕ) → ℕ
changed_in p tga tga' = count (λ k. not (eqb (u32_at tga (18 + 4 * k)) (u32_at tga' (18 + 4 * k)))) (p.width * p.height)

-- The damaged file has the same picture and the same refusals, and texels that differ in the rectangle alone.
pub record LocalFiles : Type 0 where
  -- A KTX file, decoded by `decode_ktx` or in C, both times in one order.
  pub ktx-near : (f g : List ℕ) (z : ℕ) → DamagedAt (payload_offset f) f g z
      → (ktx.plate_of f ≡ ktx.plate_of g) × ((room : ℕ) → picture_refusal f room ≡ picture_refusal g room)
      × ((order : ChannelOrder) → OnlyNear (in_order order (ktx.plate_of f)) (ktx.level_data f) (ktx.level_data g) z)
  -- At most 49 of its words change at 4bpp, 105 at 2bpp.
  pub ktx-count : (f g : List ℕ) (z : ℕ) → DamagedAt (payload_offset f) f g z
      → (order : ChannelOrder) (old new old' new' : List ℕ) → KtxDecoded order f old new (Ok tt) → KtxDecoded order g old' new' (Ok tt)
      → changed (ktx.plate_of f) new new' ≤ most_touched (ktx.plate_of f).is2bpp
  -- A file of either kind, as the program writes it.
  pub program-near : (f g : List ℕ) (z : ℕ) → DamagedAt (stored_in f).payload f g z
      → (plate_of f ≡ plate_of g) × (program_refusal f ≡ program_refusal g) × OnlyNear (plate_of f) (level_data f) (level_data g) z
  pub program-count : (f g : List ℕ) (z : ℕ) → DamagedAt (stored_in f).payload f g z → program_refusal f ≡ 0
      → changed_in (plate_of f) (output f) (output g) ≤ most_touched (plate_of f).is2bpp
