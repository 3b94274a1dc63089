-- The order of channels: each order's word is the other's with two bytes exchanged. Assumes nothing.
use Rattle.std.proofs.Common.{◌≡◌, sym, ◌∙◌, ℕ, ◌+◌, ◌*◌, ◌/◌, ◌%◌, ◌<◌, arith}
use Rattle.pixel.specs.Pixel.{Pixel, word, packed, exchanged, EightBits, Exchanging}
use Rattle.pixel.specs.declared.ChannelOrder.{ChannelOrder}
use Rattle.pixel.specs.declared.ChannelOrder.TheVariants.{BlueFirst, RedFirst}

word_same : {a b c e a' b' c' e' : ℕ} → a ≡ a' → b ≡ b' → c ≡ c' → e ≡ e' → word a b c e ≡ word a' b' c' e'
word_same p q r s = cc

-- the bytes of a word
module _ (a b c e : ℕ) (ha : a < 256) (hb : b < 256) (hc : c < 256) where
  third : word a b c e / 65536 % 256 ≡ c
  third = let k : word a b c e / 65536 ≡ c + 256 * e = omega arith in omega arith

  second : word a b c e / 256 % 256 ≡ b
  second = let k : word a b c e / 256 ≡ b + 256 * (c + 256 * e) = omega arith in omega arith

  -- two of them exchanged
  exchange : exchanged (word a b c e) ≡ word c b a e
  unfolding exchanged
  exchange = word_same third second (omega arith) (omega arith)

-- a word is made of its bytes
bytes : (w : ℕ) → word (w % 256) (w / 256 % 256) (w / 65536 % 256) (w / 16777216) ≡ w
bytes w =
    let b : w / 256 / 256 ≡ w / 65536 = omega arith in
    let c : w / 65536 / 256 ≡ w / 16777216 = omega arith in
    let e : w / 256 ≡ w / 256 % 256 + 256 * (w / 65536) = omega arith in
    let f : w / 65536 ≡ w / 65536 % 256 + 256 * (w / 16777216) = omega arith in
    omega arith

twice : (w : ℕ) → exchanged (exchanged w) ≡ w
unfolding exchanged
twice w = exchange (w / 65536 % 256) (w / 256 % 256) (w % 256) (w / 16777216) (omega arith) (omega arith) (omega arith) ∙ bytes w

red-first : (t : Pixel) → EightBits t → packed RedFirst t ≡ exchanged (packed BlueFirst t)
red-first t h = sym (exchange t.b t.g t.r t.a h.b h.g h.r)

blue-first : (t : Pixel) → EightBits t → packed BlueFirst t ≡ exchanged (packed RedFirst t)
blue-first t h = sym (exchange t.r t.g t.b t.a h.r h.g h.b)

fits : (order : ChannelOrder) (t : Pixel) → EightBits t → packed order t < 4294967296
fits BlueFirst t h = omega (arith, h.r, h.g, h.b, h.a)
fits RedFirst t h = omega (arith, h.r, h.g, h.b, h.a)

pub exchanging : Exchanging
exchanging = record { red-first = red-first; blue-first = blue-first; twice = twice; fits = fits }
