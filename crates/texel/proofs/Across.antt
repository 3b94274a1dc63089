-- Summed down and then across, the nine words give the texel's sums. Assumes nothing.
use Rattle.std.proofs.Common.{◌≡◌, refl, ap, ◌∙◌, Bool, true, false, List, [], ◌++◌, ℕ, zero, suc, ◌+◌, ◌*◌, ◌/◌, ◌%◌, ◌≤◌, ◌<◌, mul-le-mul, not-suc-le-zero}
use Rattle.std.proofs.Common.{add-zero, arith, get_or, drop}
use Rattle.facts.specs.Sum.{sum}
use Rattle.facts.specs.Tab.{tab}
use Rattle.facts.proofs.Tab.{get_or-tab, tab-front, tab-same}
use Rattle.grid.specs.Grid.{half, block_width}
use Rattle.pixel.specs.Pixel.{packed}
use Rattle.pixel.specs.declared.ChannelOrder.{ChannelOrder}
use Rattle.word.specs.Word.{Small}
use Rattle.word.specs.declared.PVRTCTexelColor.{PVRTCTexelColor}
use Rattle.word.specs.declared.PVRTCTexelInfo.{PVRTCTexelInfo}
use Rattle.texel.specs.declared.Columns.{Columns}
use Rattle.texel.specs.declared.PVRTCTexelColorInt.{PVRTCTexelColorInt}
use Rattle.texel.specs.declared.Window.{Window}
use Rattle.texel.specs.Texel.{share, factor, Words, nine_sum, blend, punched, mixed, texel_in}
use Rattle.texel.specs.Inner.{nine_of, side, sums_to, to_bytes, pixel, SmallColors, Low}
use Rattle.texel.specs.Summed.{shares, share_rows, three, weighed, widened, column_of, window_of, across_of, texel_by}
use Rattle.texel.specs.Summed.{with_texels, FewShares, LowColumns, LowWindow}
use Rattle.texel.specs.declared.summing.TheConstants.{INTERP_WEIGHT_X, INTERP_WEIGHT_Y}
use Rattle.texel.proofs.Shares.{half_high, share-le, share-total}

-- the rows of the tables in the code are the shares, which the checker computes
pub wide-is : INTERP_WEIGHT_X ≡ share_rows 4
unfolding share_rows tab share
wide-is = refl

pub narrow-is : INTERP_WEIGHT_Y ≡ share_rows 2
unfolding share_rows tab share
narrow-is = refl

-- row p of a table
pub row_at : (h p : ℕ) {table : List (List ℕ)} → table ≡ share_rows h → p < 2 * h → get_or table p [] ≡ shares h p
unfolding share_rows
row_at h p e l = ap (λ (t : List (List ℕ)). get_or t p []) e ∙ get_or-tab (shares h) (2 * h) p [] l

-- no share is above 8
pub few-shares : (h p : ℕ) → h ≤ 4 → p < 2 * h → FewShares (shares h p)
few-shares h p lh l = record { few = few }
  where
    few : (k : ℕ) → k < 3 → get_or (shares h p) k 0 ≤ 8
    few zero m = omega (arith, share-le h p 0 l)
    few (suc zero) m = omega (arith, share-le h p 1 l)
    few (suc (suc zero)) m = omega (arith, share-le h p 2 l)
    few (suc (suc (suc k))) m = absurd (not-suc-le-zero {n = k} (omega arith))

-- three numbers of at most m by the shares of a place
three-le : (h p m a b c : ℕ) → p < 2 * h → a ≤ m → b ≤ m → c ≤ m → three (shares h p) a b c ≤ m * (2 * h)
three-le h p m a b c l la lb lc =
    omega (
      arith,
      mul-le-mul la (refl-le (share h p 0)),
      mul-le-mul lb (refl-le (share h p 1)),
      mul-le-mul lc (refl-le (share h p 2)),
      ap (λ (t : ℕ). m * t) (share-total h p l),
    )
  where
    refl-le : (n : ℕ) → n ≤ n
    refl-le n = omega arith

-- so colours whose sums have t blocks' worth have 2h times as much
pub weighed-low : (h p t : ℕ) (x y z : PVRTCTexelColorInt) → p < 2 * h → Low t x → Low t y → Low t z → Low (2 * h * t) (weighed (shares h p) x y z)
weighed-low h p t x y z l lx ly lz =
    record {
      r = omega (arith, three-le h p (31 * t) x.r y.r z.r l lx.r ly.r lz.r);
      g = omega (arith, three-le h p (31 * t) x.g y.g z.g l lx.g ly.g lz.g);
      b = omega (arith, three-le h p (31 * t) x.b y.b z.b l lx.b ly.b lz.b);
      a = omega (arith, three-le h p (15 * t) x.a y.a z.a l lx.a ly.a lz.a);
    }

pub widened-low : (c : PVRTCTexelColor) → Small c → Low 1 (widened c)
widened-low c s = record { r = omega (arith, s.r); g = omega (arith, s.g); b = omega (arith, s.b); a = omega (arith, s.a) }

-- three small colours summed down
pub column-low : (nine : List PVRTCTexelInfo) (second : Bool) (i py : ℕ) → SmallColors nine → i < 3 → py < 4
    → Low 4 (column_of (nine_of nine) second i (shares 2 py))
unfolding column_of
column-low nine second i py small li ly =
    weighed-low 2 py 1 (wide 0) (wide 1) (wide 2) ly (low 0 (omega arith)) (low 1 (omega arith)) (low 2 (omega arith))
  where
    wide : ℕ → PVRTCTexelColorInt
    wide j = widened (side second (nine_of nine i j))

    low : (j : ℕ) → j < 3 → Low 1 (wide j)
    low j l = widened-low (side second (nine_of nine i j)) (small second (3 * j + i) (omega arith))

-- all of them
pub window-low : (nine : List PVRTCTexelInfo) (py : ℕ) → SmallColors nine → py < 4 → LowWindow (window_of (nine_of nine) (shares 2 py))
window-low nine py small l = record { a = columns false; b = columns true }
  where
    columns : (second : Bool)
        → LowColumns (record {
          previous = column_of (nine_of nine) second 0 (shares 2 py);
          own = column_of (nine_of nine) second 1 (shares 2 py);
          next = column_of (nine_of nine) second 2 (shares 2 py);
        })
    columns second =
        record {
          previous = column-low nine second 0 py small (omega arith) l;
          own = column-low nine second 1 py small (omega arith) l;
          next = column-low nine second 2 py small (omega arith) l;
        }

-- down first, and then across
pub down-across : (h px py : ℕ) (w : ℕ → ℕ → ℕ)
    → three (shares h px) (three (shares 2 py) (w 0 0) (w 0 1) (w 0 2)) (three (shares 2 py) (w 1 0) (w 1 1) (w 1 2))
    (three (shares 2 py) (w 2 0) (w 2 1) (w 2 2))
    ≡ sum (λ k. w (k % 3) (k / 3) * factor h px py k) 9
unfolding sum
down-across h px py w =
    let x = column (share h px 0) (share 2 py 0) (share 2 py 1) (share 2 py 2) (w 0 0) (w 0 1) (w 0 2) in
    let y = column (share h px 1) (share 2 py 0) (share 2 py 1) (share 2 py 2) (w 1 0) (w 1 1) (w 1 2) in
    let z = column (share h px 2) (share 2 py 0) (share 2 py 1) (share 2 py 2) (w 2 0) (w 2 1) (w 2 2) in
    rw (x, y, z) (order _ _ _ _ _ _ _ _ _)
  where
    column : (a b₀ b₁ b₂ u v w : ℕ) → (u * b₀ + v * b₁ + w * b₂) * a ≡ u * (a * b₀) + v * (a * b₁) + w * (a * b₂)
    column a b₀ b₁ b₂ u v w = omega arith

    order : (a b c d e f g h i : ℕ) → (a + b + c) + (d + e + f) + (g + h + i) ≡ 0 + a + d + g + b + e + h + c + f + i
    order a b c d e f g h i = omega arith

-- so the columns across are the sums of nine
pub across-is : (h px py : ℕ) (nine : Words) (second : Bool)
    → weighed (shares h px) (column_of nine second 0 (shares 2 py)) (column_of nine second 1 (shares 2 py)) (column_of nine second 2 (shares 2 py))
    ≡ sums_to h nine second px py 9
unfolding column_of sums_to
across-is h px py nine second =
    rw (
      down-across h px py (λ i j. (side second (nine i j)).r),
      down-across h px py (λ i j. (side second (nine i j)).g),
      down-across h px py (λ i j. (side second (nine i j)).b),
      down-across h px py (λ i j. (side second (nine i j)).a),
    )

-- a row of the depth's table, and columns by it
pub few-across : (two : Bool) (px : ℕ) {row : List ℕ} → px < block_width two → row ≡ shares (half two) px → FewShares row
few-across two px l e = rw e (few-shares (half two) px (half_high two) l)

pub low-across : (two : Bool) (px : ℕ) (columns : Columns) {row : List ℕ} {s : PVRTCTexelColorInt} → px < block_width two → LowColumns columns
    → row ≡ shares (half two) px → s ≡ across_of columns row → Low (8 * half two) s
low-across two px columns l low er es =
    rw (es, er)
    (low-more (2 * half two * 4) (8 * half two) _ (omega arith)
    (weighed-low (half two) px 4 columns.previous columns.own columns.next l low.previous low.own low.next))
  where
    low-more : (t u : ℕ) (s : PVRTCTexelColorInt) → t ≤ u → Low t s → Low u s
    low-more t u s h l = record { r = omega (arith, l.r); g = omega (arith, l.g); b = omega (arith, l.b); a = omega (arith, l.a) }

blend-same : (h : ℕ) (hole : Bool) {s s' t t' : PVRTCTexelColorInt} {w w' : ℕ} → s ≡ s' → t ≡ t' → w ≡ w'
    → blend (pixel (to_bytes h s)) (pixel (to_bytes h t)) w hole ≡ blend (pixel (to_bytes h s')) (pixel (to_bytes h t')) w' hole
blend-same h hole es et ew = rw (es, et, ew)

-- the texel from its window is the texel of the nine words
pub by-window : (two : Bool) (nine : Words) (px py : ℕ) → texel_by (half two) nine (window_of nine (shares 2 py)) px py ≡ texel_in (half two) nine px py
unfolding texel_by texel_in mixed sums_to nine_sum
by-window two nine px py =
    blend-same (half two) (punched (half two) (nine 1 1) px py) (across-is (half two) px py nine false) (across-is (half two) px py nine true) refl

-- lent words with the texels of a block's row, from its window
pub with-texels : (order : ChannelOrder) (two : Bool) (nine : List PVRTCTexelInfo) (px py count : ℕ) (old : List ℕ) {row : List ℕ} {window : Window}
    → row ≡ shares 2 py → window ≡ window_of (nine_of nine) row
    → tab (λ i. packed order (texel_by (half two) (nine_of nine) window (px + i) py)) count ++ drop count old ≡ with_texels order two nine px py count old
unfolding with_texels
with-texels order two nine px py count old er ei =
    rw (ei, er)
    (ap (λ (l : List ℕ). l ++ drop count old)
    (tab-same (λ i. packed order (texel_by (half two) (nine_of nine) (window_of (nine_of nine) (shares 2 py)) (px + i) py))
    (λ i. packed order (texel_in (half two) (nine_of nine) (px + i) py)) count
    (λ i l. ap (packed order) (by-window two (nine_of nine) (px + i) py))))

-- the first of them
pub first-texel : (order : ChannelOrder) (two : Bool) (nine : List PVRTCTexelInfo) (px py : ℕ) (old : List ℕ) {new : List ℕ}
    → new ≡ with_texels order two nine px py 1 old
    → get_or new 0 0 ≡ packed order (texel_in (half two) (nine_of nine) px py)
unfolding with_texels
first-texel order two nine px py old e =
    ap (λ (l : List ℕ). get_or l 0 0) e
    ∙ tab-front (λ i. packed order (texel_in (half two) (nine_of nine) (px + i) py)) 1 0 (drop 1 old) 0 (omega arith) ∙ rw (add-zero px)
