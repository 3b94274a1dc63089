-- What the block call's loops need: a block's buffer holds the picture's texels, and an accepted picture is ready. Assumes nothing.
use Rattle.std.proofs.Common.{◌≡◌, ℕ, ◌+◌, ◌-◌, ◌*◌, ◌<◌, ◌≤◌, Bool, List, length, get_or, refl, ap, ◌∙◌, ap₂, mul-le-mul_right, arith}
use Rattle.facts.proofs.Numbers.{split}
use Rattle.facts.proofs.Tab.{tab-front}
use Rattle.grid.specs.declared.Grid.{Grid}
use Rattle.grid.specs.Grid.{half, block_width, blocks}
use Rattle.grid.proofs.Counts.{block_start, blocks-cover}
use Rattle.lanes.specs.BlockRow.{Ready, with_block_row}
use Rattle.paint.specs.declared.Sheet.{Sheet}
use Rattle.paint.specs.Sheet.{on_sheet, rows_from, Fits, largest}
use Rattle.paint.proofs.Painted.{painted_same}
use Rattle.paint.proofs.Sheets.{rows_fit, fits_more, RowsLaid, no_rows, next_row, all-rows}
use Rattle.pixel.specs.Pixel.{packed}
use Rattle.pixel.specs.declared.ChannelOrder.{ChannelOrder}
use Rattle.texel.specs.Inner.{nine_of, nine_about}
use Rattle.texel.specs.Texel.{texel_in, texel_at, grid_texel}
use Rattle.texel.proofs.Nine.{of-nine}
use Rattle.word.specs.declared.PVRTCTexelInfo.{PVRTCTexelInfo}
use Rattle.pvrtc.specs.declared.Call.TheVariants as call
use Rattle.pvrtc.specs.declared.Picture.{Picture}
use Rattle.pvrtc.specs.Calls.{refusal}
use Rattle.pvrtc.specs.Inner.{block_words, block_texel}
use Rattle.pvrtc.specs.Picture.{grid_of, sheet_of, picture_texel}
use Rattle.pvrtc.proofs.Accepted.{Accepted, accepted, stands-as, block-roomy, height-above, covers-across, covers_down}

-- word (x, y) of the buffer is that texel of the middle block
in_buffer : (order : ChannelOrder) (two : Bool) (nine : List PVRTCTexelInfo) (x y : ℕ) → x < block_width two → y < 4
    → get_or (block_words order two nine) (y * block_width two + x) 0 ≡ packed order (texel_in (half two) (nine_of nine) x y)
unfolding block_words
in_buffer order two nine x y hx hy =
    let row : y + 1 ≤ 4 = omega arith in
    let cut = split (block_width two) (y * block_width two + x) y x refl hx in
    tab-front (block_texel order two nine) (4 * block_width two) (y * block_width two + x) _ 0 (omega (arith, mul-le-mul_right (block_width two) row))
    ∙ ap₂ (λ (x y : ℕ). packed order (texel_in (half two) (nine_of nine) x y)) cut.1 cut.0

module _ (order : ChannelOrder) (g : Grid) (d : List ℕ) (bx by : ℕ) where
  abbrev width : ℕ
  width = block_width g.is2bpp

  -- and so a texel of the grid
  of-block : (x y : ℕ) → x < width → y < 4
      → packed order (texel_in (half g.is2bpp) (nine_of (nine_about g d bx by)) x y) ≡ grid_texel order g d (bx * width + x) (by * 4 + y)
  unfolding texel_at
  of-block x y hx hy =
      let u = split width (bx * width + x) bx x refl hx in
      let v = split 4 (by * 4 + y) by y refl hy in
      ap (packed order) (of-nine g d bx by x y hx hy) ∙ rw (u.0, u.1, v.0, v.1)

  -- the buffer laid on a block's part of a sheet is the block laid there
  pub buffer-laid : (part : Sheet) (old : List ℕ) {room bw : ℕ} {nine : List PVRTCTexelInfo} {buffer new : List ℕ}
      → Fits part room → part.width ≤ width → part.height ≤ 4 → bw ≡ width → nine ≡ nine_about g d bx by → buffer ≡ block_words order g.is2bpp nine
      → new ≡ on_sheet part (λ x y. get_or buffer (y * bw + x) 0) old → new ≡ on_sheet part (λ x y. grid_texel order g d (bx * width + x) (by * 4 + y)) old
  buffer-laid part old {bw = bw} {buffer = buffer} fits narrow low ew en eb e =
      e ∙ painted_same part.start part.stride part.width part.height _ _ old fits.apart same
    where
      same : (x y : ℕ) → x < part.width → y < part.height → get_or buffer (y * bw + x) 0 ≡ grid_texel order g d (bx * width + x) (by * 4 + y)
      same x y hx hy =
          rw (eb, en, ew) (in_buffer order g.is2bpp (nine_about g d bx by) x y (omega arith) (omega arith) ∙ of-block x y (omega arith) (omega arith))

-- an accepted picture, with its grid, its sheet and how many rows of blocks cover it
pub record Going (p : Picture) (d old : List ℕ) (g : Grid) (s : Sheet) (n : ℕ) : Type 0 where
  pub told : refusal p (call.Block (length old)) d ≡ 0
  pub grid : g ≡ grid_of p
  pub sheet : s ≡ sheet_of p
  pub rows : n ≡ blocks 4 s.height

module _ {p : Picture} {d old : List ℕ} {g : Grid} {s : Sheet} {n : ℕ} (k : Going p d old g s n) where
  ok : Accepted p (call.Block (length old)) (length d)
  ok = accepted p (call.Block (length old)) (length d) k.told

  -- the sheet fits the lent words
  sheet-fits : Fits s (length old)
  sheet-fits =
      let some : p.height - 1 + 1 ≡ p.height = omega (arith, height-above p ok.sides) in
      let all : (p.height - 1) * p.width + p.width ≡ p.width * p.height = omega (arith, ap (λ (n : ℕ). n * p.width) some) in
      rw k.sheet (record { apart = omega arith; roomy = omega (arith, block-roomy p (length old) ok.roomy) })

  pub none-laid : RowsLaid s 4 (grid_texel p.order g d) old 0 old
  none-laid = no_rows s 4 (grid_texel p.order g d) old sheet-fits.apart

  -- row `by` of those that cover the sheet
  module _ (by : ℕ) (h : by < n) where
    starts : by * 4 < s.height
    starts = block_start 4 s.height (omega arith) by (rw k.rows at h)

    pub row-asked : length old ≤ largest → Fits s largest × (by * 4 < s.height)
    row-asked l = (fits_more sheet-fits l, starts)

    module _ {row : Sheet} (er : row ≡ rows_from s (by * 4) 4) where
      -- is ready to be laid
      pub row-ready : {room : ℕ} → room ≡ length old → Ready g by row (length d) room
      row-ready el =
          record {
            words = stands-as ok k.grid;
            down = rw k.grid (omega (arith, h, k.rows, ap (λ (s : Sheet). blocks 4 s.height) k.sheet, covers_down p));
            cover = rw (er, k.grid, k.sheet) (covers-across p);
            few = rw er (omega arith);
            fits = rw (er, el) (rows_fit sheet-fits (by * 4) 4 starts);
          }

      -- and is then laid
      pub row_laid : {img new : List ℕ} → RowsLaid s 4 (grid_texel p.order g d) old by img → new ≡ with_block_row p.order g by row d img
          → RowsLaid s 4 (grid_texel p.order g d) old (by + 1) new
      row_laid laid q =
          next_row s 4 (grid_texel p.order g d) old sheet-fits by (λ x y. grid_texel p.order g d x (by * 4 + y)) q starts er (λ x y hx hy. refl) laid

  -- all of them are the picture
  pub all_laid : (by : ℕ) {img : List ℕ} → by ≡ n → RowsLaid s 4 (grid_texel p.order g d) old by img
      → img ≡ on_sheet (sheet_of p) (picture_texel p d) old
  all_laid by eb laid =
      all-rows s 4 (grid_texel p.order g d) old by (rw (eb, k.rows) (blocks-cover 4 s.height (omega arith))) laid
      ∙ ap₂ (λ (s : Sheet) (g : Grid). on_sheet s (grid_texel p.order g d) old) k.sheet k.grid
