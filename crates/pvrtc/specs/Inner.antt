-- What the functions behind the plain form say of one another. Assumes nothing: these are definitions.
use Rattle.std.specs.Prelude.{Bool, List, ◌++◌, ℕ, ◌*◌, ◌/◌, ◌%◌, drop, replicate}
use Rattle.facts.specs.Tab.{tab}
use Rattle.grid.specs.Grid.{half, block_width}
use Rattle.pixel.specs.Pixel.{packed}
use Rattle.pixel.specs.declared.ChannelOrder.{ChannelOrder}
use Rattle.texel.specs.Inner.{nine_of}
use Rattle.texel.specs.Texel.{texel_in}
use Rattle.word.specs.declared.PVRTCTexelInfo.{PVRTCTexelInfo}

-- Word i of the texels of the middle block of nine, in row order.
abbrev pub block_texel : ChannelOrder → Bool → List PVRTCTexelInfo → ℕ → ℕ
block_texel order two nine i = packed order (texel_in (half two) (nine_of nine) (i % block_width two) (i / block_width two))

-- A buffer of 32 words: these texels, and zeros.
unfoldable pub block_words : ChannelOrder → Bool → List PVRTCTexelInfo → List ℕ
block_words order two nine = tab (block_texel order two nine) (4 * block_width two) ++ drop (4 * block_width two) (replicate 32 0)
