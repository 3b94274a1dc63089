-- How a texel is computed: its colours summed down three columns of words and then across, and the weights about it as rows.
-- Assumes nothing: these are definitions.
use Rattle.std.specs.Prelude.{Bool, true, false, List, [], ◌∷◌, ◌++◌, ℕ, ◌+◌, ◌*◌, ◌≤◌, ◌<◌, get_or, drop}
use Rattle.facts.specs.Tab.{tab}
use Rattle.grid.specs.Grid.{half}
use Rattle.pixel.specs.Pixel.{Pixel, packed}
use Rattle.pixel.specs.declared.ChannelOrder.{ChannelOrder}
use Rattle.word.specs.declared.PVRTCTexelColor.{PVRTCTexelColor}
use Rattle.word.specs.declared.PVRTCTexelInfo.{PVRTCTexelInfo}
use Rattle.texel.specs.declared.Columns.{Columns}
use Rattle.texel.specs.declared.PVRTCTexelColorInt.{PVRTCTexelColorInt}
use Rattle.texel.specs.declared.Window.{Window}
use Rattle.texel.specs.Inner.{nine_of, side, to_bytes, pixel, Low}
use Rattle.texel.specs.Texel.{share, Words, blend, filled, rule_at, punched, texel_in}

-- The shares of the previous, the own and the next block at the place p of a block of 2h.
abbrev pub shares : ℕ → ℕ → List ℕ
shares h p = share h p 0 ∷ share h p 1 ∷ share h p 2 ∷ []

-- The table of them, a row for each place.
unfoldable pub share_rows : ℕ → List (List ℕ)
share_rows h = tab (shares h) (2 * h)

-- Three numbers by a row of shares.
abbrev pub three : List ℕ → ℕ → ℕ → ℕ → ℕ
three row p q s = p * get_or row 0 0 + q * get_or row 1 0 + s * get_or row 2 0

-- The channels of three colours by a row of shares.
abbrev pub weighed : List ℕ → (p q s : PVRTCTexelColorInt) → PVRTCTexelColorInt
weighed row p q s =
    record {
      r = three row p.r q.r s.r;
      g = three row p.g q.g s.g;
      b = three row p.b q.b s.b;
      a = three row p.a q.a s.a;
    }

-- A colour's channels, with room for sums.
abbrev pub widened : PVRTCTexelColor → PVRTCTexelColorInt
widened c = record { r = c.r; g = c.g; b = c.b; a = c.a }

-- Colour A, or B, of column i of nine words, by a row of shares.
unfoldable pub column_of : Words → (second : Bool) → ℕ → List ℕ → PVRTCTexelColorInt
column_of nine second i row =
    weighed row (widened (side second (nine i 0))) (widened (side second (nine i 1))) (widened (side second (nine i 2)))

-- The three columns, of colours A and B.
abbrev pub window_of : Words → List ℕ → Window
window_of nine row = record { a = columns false; b = columns true }
  where
    columns : (second : Bool) → Columns
    columns second =
        record { previous = column_of nine second 0 row; own = column_of nine second 1 row; next = column_of nine second 2 row }

-- Three columns by a row of shares.
abbrev pub across_of : Columns → List ℕ → PVRTCTexelColorInt
across_of columns row = weighed row columns.previous columns.own columns.next

-- The texel at the place (px, py) of the middle block of nine, from its window.
unfoldable pub texel_by : ℕ → Words → Window → ℕ → ℕ → Pixel
texel_by h nine window px py =
    blend (pixel (to_bytes h (across_of window.a (shares h px)))) (pixel (to_bytes h (across_of window.b (shares h px))))
    (filled h (rule_at (nine 1 1) px py) nine (px + 2 * h) (py + 4)) (punched h (nine 1 1) px py)

-- Lent words whose first `count` are the texels of the middle block of nine from the place (px, py) on.
unfoldable pub with_texels : ChannelOrder → Bool → List PVRTCTexelInfo → (px py count : ℕ) → List ℕ → List ℕ
with_texels order two nine px py count old = tab (λ i. packed order (texel_in (half two) (nine_of nine) (px + i) py)) count ++ drop count old

-- A row of shares: none is above 8.
pub record FewShares (row : List ℕ) : Type 0 where
  pub few : (k : ℕ) → k < 3 → get_or row k 0 ≤ 8

-- Columns that were summed down: four shares' worth of the largest channel.
pub record LowColumns (columns : Columns) : Type 0 where
  pub previous : Low 4 columns.previous
  pub own : Low 4 columns.own
  pub next : Low 4 columns.next

pub record LowWindow (window : Window) : Type 0 where
  pub a : LowColumns window.a
  pub b : LowColumns window.b
