-- Four channels as the 16-bit lanes of one number. Assumes nothing: these are definitions.
-- h is half the width of a block, 2 at 4bpp and 4 at 2bpp.
use Rattle.std.specs.Prelude.{◌≡◌, ℕ, ◌+◌, ◌-◌, ◌*◌, ◌/◌, ◌%◌, ◌≤◌}
use Rattle.std.specs.Int.Bits.{bit_and}
use Rattle.pixel.specs.declared.ChannelOrder.{ChannelOrder}
use Rattle.pixel.specs.declared.ChannelOrder.TheVariants.{BlueFirst, RedFirst}
use Rattle.word.specs.declared.PVRTCTexelColor.{PVRTCTexelColor}
use Rattle.texel.specs.Texel.{share}

-- Four numbers as lanes, from the low end: those of a word's first, third, second and fourth byte.
abbrev pub lanes : (first third second fourth : ℕ) → ℕ
lanes first third second fourth = first + 65536 * (third + 65536 * (second + 65536 * fourth))

-- Four channels as lanes, in an order.
abbrev pub channel_lanes : ChannelOrder → (b g r a : ℕ) → ℕ
channel_lanes BlueFirst b g r a = lanes b r g a
channel_lanes RedFirst b g r a = lanes r b g a

-- A colour as lanes, its alpha doubled, so that one rule brings all four to 8 bits.
abbrev pub color_lanes : ChannelOrder → PVRTCTexelColor → ℕ
color_lanes order c = channel_lanes order c.b c.g c.r (2 * c.a)

-- Three fields of four bits, five bits apart, each followed by its top bit.
abbrev pub widened : ℕ → ℕ
widened t = 2 * t + bit_and (t / 8) 0x0421

-- By what fields of blue and red, ten bits apart, are multiplied to stand in their lanes, ten bits too high.
abbrev pub spread_of : ChannelOrder → ℕ
spread_of BlueFirst = 0x00010400
spread_of RedFirst = 0x04000001

-- The low byte of each lane.
abbrev pub bytes : ℕ
bytes = 0x00ff00ff00ff00ff

-- The low byte of each lane but alpha's.
abbrev pub clear : ℕ
clear = 0x000000ff00ff00ff

-- Each lane without its remainder by h.
abbrev pub multiples : ℕ → ℕ
multiples h = lanes (65536 - h) (65536 - h) (65536 - h) (65536 - h)

-- Alpha's lane alone.
abbrev pub top : ℕ
top = 0xffff000000000000

-- A colour's lanes 33 times, and alpha's 34 times.
abbrev pub grown : ℕ → ℕ
grown t = 33 * t + bit_and t top

-- Sums of shares as lanes, brought to 8 bits each.
abbrev pub fitted : ℕ → ℕ → ℕ
fitted h z = bit_and (grown (bit_and z (multiples h)) / (32 * h)) bytes

-- What is added to each lane of a difference, so that it stays above 0. It falls out above the byte.
abbrev pub bias : ℕ
bias = 0x0800080008000800

-- Lanes of 8 bits as a word.
abbrev pub joined : ℕ → ℕ
joined t = t % 4294967296 + t / 16777216

-- The blend of x and y at the weight w, of which `keep` is kept, by one product.
abbrev pub mixed_lanes : ℕ → ℕ → ℕ → ℕ → ℕ
mixed_lanes x y w keep = joined (bit_and (((y + bias - x) * w + 8 * x) / 8) keep)

-- A texel from the two sums of shares at its place.
unfoldable pub texel_lanes : ℕ → ℕ → ℕ → ℕ → ℕ → ℕ
texel_lanes h x y w keep = mixed_lanes (fitted h x) (fitted h y) w keep

-- Three numbers by their shares at place p of 2h: the previous block's, the own, the next one's.
unfoldable pub shared : ℕ → ℕ → ℕ → ℕ → ℕ → ℕ
shared h p l c r = share h p 0 * l + share h p 1 * c + share h p 2 * r

-- What may be kept: low bytes of lanes, those of the first two among them.
pub record Mask (k : ℕ) : Type 0 where
  pub all : k ≤ bytes
  pub low : k % 4294967296 ≡ 0x00ff00ff
