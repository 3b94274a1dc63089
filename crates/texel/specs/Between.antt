-- Where a texel lies, as document 01 says it ("One texel"). Assumes nothing: these are definitions.
use Rattle.std.specs.Prelude.{◌≡◌, Bool, true, false, cond, List, ℕ, ◌*◌, ◌/◌, ◌%◌, ◌≤◌, min, max}
use Rattle.grid.specs.Grid.{half}
use Rattle.pixel.specs.Pixel.{Pixel}
use Rattle.texel.specs.Inner.{side}
use Rattle.texel.specs.Texel.{Words, nine_sum, scaled, punched, about, texel_at, words_of}

-- The texel p unpunched lies between s and t, channel by channel. Punched through, its alpha is 0.
pub record Between (s t p : Pixel) (hole : Bool) : Type 0 where
  pub r : (min s.r t.r ≤ p.r) × (p.r ≤ max s.r t.r)
  pub g : (min s.g t.g ≤ p.g) × (p.g ≤ max s.g t.g)
  pub b : (min s.b t.b ≤ p.b) × (p.b ≤ max s.b t.b)
  pub a : cond hole (p.a ≡ 0) ((min s.a t.a ≤ p.a) × (p.a ≤ max s.a t.a))

-- Colour A at the place (px, py) of the middle block of nine, or B where `second`: summed by shares, of 8 bits a channel.
abbrev pub color_in : ℕ → Words → (second : Bool) → ℕ → ℕ → Pixel
color_in h nine second px py = scaled h (λ c. nine_sum h (λ i j. c (side second (nine i j))) px py)

-- The texel (x, y) of a run of bytes whose grid is gx by gy: unpunched, it lies between A and B.
abbrev pub LiesBetween : Bool → ℕ → ℕ → List ℕ → ℕ → ℕ → Type 0
LiesBetween two gx gy d x y =
    let h = half two in
    let nine = about gx gy (words_of two gx gy d) (x / (2 * h)) (y / 4) in
    let px = x % (2 * h) in
    Between (color_in h nine false px (y % 4)) (color_in h nine true px (y % 4)) (texel_at h gx gy (words_of two gx gy d) x y) (punched h (nine 1 1) px (y % 4))
