-- Colours as lanes, as the code reads them. Assumes nothing.
use Rattle.std.proofs.Common.{◌≡◌, ℕ, ◌+◌, ◌*◌, ◌<◌, ◌≤◌, true, List, [], ◌∷◌, get_or, sym, refl, ap, ◌∙◌, ap₂, arith, get_or-drop}
use Rattle.facts.proofs.Tab.{get_or-tab}
use Rattle.facts.specs.Tab.{tab}
use Rattle.pixel.specs.declared.ChannelOrder.{ChannelOrder}
use Rattle.pixel.specs.declared.ChannelOrder.TheVariants.{BlueFirst, RedFirst}
use Rattle.texel.specs.Texel.{share}
use Rattle.word.proofs.Bounds.{small-a, small_b, color-a, color-b}
use Rattle.word.specs.Word.{modulation, blue_a, blue_b, color_of, Small}
use Rattle.word.specs.declared.PVRTCTexelColor.{PVRTCTexelColor}
use Rattle.lanes.specs.declared.Column.{Column}
use Rattle.lanes.specs.Column.{word_at, lanes_a, lanes_b, column_of, most, SmallColumn}
use Rattle.lanes.specs.Lanes.{color_lanes, shared}
use Rattle.lanes.proofs.Linear.{shared-le}

-- byte k of word z
pub byte-of : (d : List ℕ) (z k : ℕ) → get_or (word_at d z) k 0 ≡ get_or d (8 * z + k) 0
byte-of d z k = get_or-drop (8 * z) d k 0

-- its modulation
pub modulation-read : (d : List ℕ) (z : ℕ)
    → modulation (word_at d z)
    ≡ get_or d (8 * z) 0 + 256 * get_or d (8 * z + 1) 0 + 65536 * get_or d (8 * z + 2) 0 + 16777216 * get_or d (8 * z + 3) 0
modulation-read d z =
    let start : 8 * z + 0 ≡ 8 * z = omega arith in
    rw (byte-of d z 0, byte-of d z 1, byte-of d z 2, byte-of d z 3, start)

-- a lane holds at most 31
abbrev lane_most : ℕ
lane_most = 8725724278030336

-- bytes k and k + 1 of word z, as the code reads a colour of them
color-read : (order : ChannelOrder) (d : List ℕ) (z k : ℕ) (blue : ℕ → ℕ) {c r : ℕ} → c ≡ get_or d (8 * z + k) 0 + 256 * get_or d (8 * z + k + 1) 0
    → r ≡ color_lanes order (color_of c (blue c))
    → let w = get_or (word_at d z) k 0 + 256 * get_or (word_at d z) (k + 1) 0 in r ≡ color_lanes order (color_of w (blue w))
color-read order d z k blue ec er =
    let next : 8 * z + (k + 1) ≡ 8 * z + k + 1 = omega arith in
    let e = ap₂ (λ (m n : ℕ). m + 256 * n) (byte-of d z k) (byte-of d z (k + 1) ∙ ap (λ (n : ℕ). get_or d n 0) next) ∙ sym ec in
    er ∙ ap (λ (n : ℕ). color_lanes order (color_of n (blue n))) (sym e)

-- in either order
color-le : (order : ChannelOrder) (c : PVRTCTexelColor) → Small c → color_lanes order c ≤ lane_most
color-le BlueFirst c s = omega (arith, s.r, s.g, s.b, s.a)
color-le RedFirst c s = omega (arith, s.r, s.g, s.b, s.a)

a-le : (order : ChannelOrder) (d : List ℕ) (z : ℕ) → lanes_a order d z ≤ lane_most
unfolding lanes_a
a-le order d z = color-le order _ (rw (color-a true (word_at d z)) at (small-a true (word_at d z)))

b-le : (order : ChannelOrder) (d : List ℕ) (z : ℕ) → lanes_b order d z ≤ lane_most
unfolding lanes_b
b-le order d z = color-le order _ (rw (color-b true (word_at d z)) at (small_b true (word_at d z)))

module _ (order : ChannelOrder) (d : List ℕ) (z : ℕ) {c r : ℕ} where
  pub a-is : c ≡ get_or d (8 * z + 4) 0 + 256 * get_or d (8 * z + 4 + 1) 0 → r ≡ color_lanes order (color_of c (blue_a c))
      → (r ≡ lanes_a order d z) × (r ≤ lane_most)
  unfolding lanes_a
  a-is ec er = let e : r ≡ lanes_a order d z = color-read order d z 4 blue_a ec er in (e, rw e (a-le order d z))

  pub b-is : c ≡ get_or d (8 * z + 6) 0 + 256 * get_or d (8 * z + 6 + 1) 0 → r ≡ color_lanes order (color_of c (blue_b c))
      → (r ≡ lanes_b order d z) × (r ≤ lane_most)
  unfolding lanes_b
  b-is ec er = let e : r ≡ lanes_b order d z = color-read order d z 6 blue_b ec er in (e, rw e (b-le order d z))

four_same : {a b c d a' b' c' d' : ℕ} → a ≡ a' → b ≡ b' → c ≡ c' → d ≡ d' → a ∷ b ∷ c ∷ d ∷ [] ≡ a' ∷ b' ∷ c' ∷ d' ∷ []
four_same p q r s = cc

-- the four rows of three words, as the code sums them
module _ (u o e : ℕ) where
  pub rows_are : (2 * u + 2 * o) ∷ (u + 3 * o) ∷ (4 * o) ∷ (3 * o + e) ∷ [] ≡ tab (λ y. shared 2 y u o e) 4
  unfolding tab shared share
  rows_are = four_same (omega arith) (omega arith) (omega arith) (omega arith)

  rows-small : u ≤ lane_most → o ≤ lane_most → e ≤ lane_most → (y : ℕ) → y < 4 → get_or (tab (λ y. shared 2 y u o e) 4) y 0 ≤ most
  rows-small hu ho he y h = rw (get_or-tab (λ y. shared 2 y u o e) 4 y 0 h) (omega (arith, shared-le 2 y lane_most u o e (omega arith) hu ho he))

module _ (order : ChannelOrder) (d : List ℕ) (above own below : ℕ) where
  small-column : SmallColumn (column_of order d above own below)
  unfolding column_of
  small-column =
      record {
        a = rows-small _ _ _ (a-le order d above) (a-le order d own) (a-le order d below);
        b = rows-small _ _ _ (b-le order d above) (b-le order d own) (b-le order d below);
      }

  pub summed-is : {x y z u v w : ℕ} {p q : List ℕ} → x ≡ lanes_a order d above → y ≡ lanes_a order d own → z ≡ lanes_a order d below
      → u ≡ lanes_b order d above → v ≡ lanes_b order d own → w ≡ lanes_b order d below
      → p ≡ tab (λ j. shared 2 j x y z) 4 → q ≡ tab (λ j. shared 2 j u v w) 4
      → let k : Column = record { a = p; b = q } in (k ≡ column_of order d above own below) × SmallColumn k
  unfolding column_of
  summed-is ex ey ez eu ev ew ep eq = rw (ep, eq, ex, ey, ez, eu, ev, ew) (refl, small-column)
