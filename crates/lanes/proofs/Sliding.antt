-- The window slides along a row of blocks, at either depth, and its texels are the grid's. Assumes nothing.
use Rattle.std.proofs.Common.{◌≡◌, ℕ, ◌+◌, ◌*◌, ◌%◌, ◌<◌, ◌≤◌, Bool, List, length, refl, ap, ◌∙◌, arith}
use Rattle.facts.proofs.Numbers.{split}
use Rattle.grid.specs.declared.Grid.{Grid}
use Rattle.grid.specs.Grid.{half, block_width, log2, address, beside}
use Rattle.paint.proofs.Sheets.{columns-fit, BlocksLaid, next-block}
use Rattle.paint.specs.declared.Sheet.{Sheet}
use Rattle.paint.specs.Sheet.{on_sheet, columns_from, Fits}
use Rattle.pixel.specs.Pixel.{packed}
use Rattle.pixel.specs.declared.ChannelOrder.{ChannelOrder}
use Rattle.texel.proofs.Range.{words}
use Rattle.texel.specs.Texel.{texel_in, texel_at, grid_texel}
use Rattle.lanes.specs.declared.Block.{Block}
use Rattle.lanes.specs.declared.Codes.{Codes}
use Rattle.lanes.specs.declared.Meaning.{Meaning}
use Rattle.lanes.specs.declared.RowAddresses.{RowAddresses}
use Rattle.lanes.specs.declared.Weights.{Weights}
use Rattle.lanes.specs.Block.{Said, Middle, in_block, block_of}
use Rattle.lanes.specs.Block2bpp.{weight_rows, LowRows}
use Rattle.lanes.specs.Block4bpp.{codes_of}
use Rattle.lanes.specs.BlockRow.{column_words, InData, Ready}
use Rattle.lanes.specs.Column.{word_at, SmallColumn}
use Rattle.lanes.proofs.Placing.{place_in, place_at, RowAt, part-seen, in-data, word-above, word-own, word_below, Seen, SeenPart}
use Rattle.lanes.proofs.Window.{column_at, window-texel}

-- v is what is read of column k = 0, 1, 2 beside block bx, round the torus, in row `by`
module _ {M : Type 0} (stored : List ℕ → M) (Good : M → Type 0) (order : ChannelOrder) (g : Grid) (by : ℕ) (d : List ℕ) where
  abbrev block_in : ℕ → Block M
  block_in x = block_of stored order d (record { above = place_in g by x 0; own = place_in g by x 1; below = place_in g by x 2 })

  pub record SeenBlock (bx k : ℕ) (v : Block M) : Type 0 where
    pub is : v ≡ block_in (beside g.across bx k)
    pub there : InData v.at (length d)
    pub small : SmallColumn v.column
    pub good : Good v.said

  -- the window before block bx, as the loop keeps it: the column before the block, and its own
  pub record Window (bx : ℕ) (l o : Block M) : Type 0 where
    pub left : SeenBlock bx 0 l
    pub own : SeenBlock bx 1 o

-- the nine words about block bx
abbrev pub nine_about : Grid → (by : ℕ) → List ℕ → (bx : ℕ) → ℕ → ℕ → List ℕ
nine_about g by d bx i j = word_at d (place_at g by bx i j)

-- the code reads a column by what it adds to an address
pub block-seen : {M : Type 0} (stored : List ℕ → M) (Good : M → Type 0) (order : ChannelOrder) (d : List ℕ) {g : Grid} {by : ℕ} {row : RowAddresses}
    → RowAt g by (length d) row → (bx k : ℕ) {x : ℕ} {v : Block M} → x ≡ beside g.across bx k
    → v ≡ block_of stored order d (column_words row (address (log2 row.smaller) x 0)) → SmallColumn v.column × Good v.said
    → SeenBlock stored Good order g by d bx k v
block-seen stored Good order d r bx k ex e good =
    let p = part-seen r bx k ex refl in
    record {
      is = e ∙ rw ((word-above r p).0, (word-own r p).0, (word_below r p).0);
      there = rw e (in-data r p);
      small = good.0;
      good = good.1;
    }

module _ {M : Type 0} {stored : List ℕ → M} {Good : M → Type 0} {order : ChannelOrder} {g : Grid} {by : ℕ} {d : List ℕ}
    {bx k : ℕ} {v : Block M} (s : SeenBlock stored Good order g by d bx k v) where
  pub said-is : v.said ≡ stored (nine_about g by d bx k 1)
  said-is = ap (λ (b : Block M). b.said) s.is

  pub column-is : v.column ≡ column_at order d (place_at g by bx) k
  column-is = ap (λ (b : Block M). b.column) s.is

-- what is read of column x of row `by`, of its own word alone: its codes, and its weights
module _ (g : Grid) (by : ℕ) (d : List ℕ) where
  abbrev codes_in : ℕ → Codes
  codes_in x = codes_of (word_at d (place_in g by x 1))

  abbrev weights_in : ℕ → Weights
  weights_in x = weight_rows (word_at d (place_in g by x 1))

  abbrev pub SeenCodes : ℕ → ℕ → Codes → Type 0
  SeenCodes = Seen (λ k. Unit {0}) codes_in g.across

  abbrev pub SeenWeights : ℕ → ℕ → Weights → Type 0
  SeenWeights = Seen LowRows weights_in g.across

-- the code reads them by what the column adds to an address
module _ {g : Grid} {by len bx k part : ℕ} {row : RowAddresses} (r : RowAt g by len row) (p : SeenPart g row bx k part) (d : List ℕ) where
  pub codes-seen : {v : Codes} → v ≡ codes_of (word_at d (part + row.own)) → SeenCodes g by d bx k v
  codes-seen e = record { is = e ∙ ap (λ (z : ℕ). codes_of (word_at d z)) (word-own r p).0; good = tt }

  pub weights-seen : {v : Weights} → (v ≡ weight_rows (word_at d (part + row.own))) × LowRows v → SeenWeights g by d bx k v
  weights-seen e = record { is = e.0 ∙ ap (λ (z : ℕ). weight_rows (word_at d z)) (word-own r p).0; good = e.1 }

-- the middle column of the nine words
pub middle : {M : Type 0} {stored : List ℕ → M} {Good : M → Type 0} {order : ChannelOrder} {g : Grid} {by : ℕ} {d : List ℕ} {bx : ℕ} {v : Block M}
    → SeenBlock stored Good order g by d bx 1 v → Middle (nine_about g by d bx) d v.at
middle s = rw s.is (record { above = refl; own = refl; below = refl })

-- a step: the next block has what is seen one column earlier
pub seen-earlier : {A : Type 0} {Good : A → Type 0} {read : ℕ → A} {side bx : ℕ} {v : A} (k : ℕ) → Seen Good read side bx (k + 1) v
    → Seen Good read side (bx + 1) k v
unfolding beside
seen-earlier {read = read} {side = side} k s = record { is = s.is ∙ ap (λ (n : ℕ). read (n % side)) (omega arith); good = s.good }

-- and so a step of the window
module _ {M : Type 0} {stored : List ℕ → M} {Good : M → Type 0} {order : ChannelOrder} {g : Grid} {by : ℕ} {d : List ℕ} {bx : ℕ} where
  earlier : (k : ℕ) {v : Block M} → SeenBlock stored Good order g by d bx (k + 1) v → SeenBlock stored Good order g by d (bx + 1) k v
  unfolding beside
  earlier k s =
      record { is = s.is ∙ ap (λ (n : ℕ). block_in stored Good order g by d (n % g.across)) (omega arith); there = s.there; small = s.small; good = s.good }

  pub slide : {l o r : Block M} → Window stored Good order g by d bx l o → SeenBlock stored Good order g by d bx 2 r
      → Window stored Good order g by d (bx + 1) o r
  slide w next = record { left = earlier 0 w.own; own = earlier 1 next }

-- a texel of a block is a texel of the grid
of-grid : (order : ChannelOrder) (g : Grid) (d : List ℕ) (bx by i j : ℕ) {two : Bool} → g.is2bpp ≡ two → i < block_width two → j < 4
    → packed order (texel_in (half two) (words two (λ p q. word_at d (place_at g by bx p q))) i j)
    ≡ grid_texel order g d (bx * block_width two + i) (by * 4 + j)
unfolding texel_at
of-grid order g d bx by i j {two} e hi hj =
    let x = split (block_width two) (bx * block_width two + i) bx i refl hi in
    let y = split 4 (by * 4 + j) by j refl hj in
    rw (e, x.0, x.1, y.0, y.1)

-- the texels of the block between three columns are the grid's, where its modulation says what the definition says
module _ {M : Type 0} {stored : List ℕ → M} {Good : M → Type 0} {order : ChannelOrder} {g : Grid} {by bx : ℕ} {d : List ℕ} {l o r : Block M}
    (w : Window stored Good order g by d bx l o) (right : SeenBlock stored Good order g by d bx 2 r) where
  pub texels : {h size : ℕ} {two : Bool} {says : ℕ → ℕ → Meaning} → h ≡ half two → size ≡ block_width two → g.is2bpp ≡ two
      → Said two (nine_about g by d bx) says
      → (i j : ℕ) → i < size → j < 4 → in_block h says l.column o.column r.column i j ≡ grid_texel order g d (bx * size + i) (by * 4 + j)
  texels {two = two} eh es e said i j hi hj =
      let wide : i < block_width two = rw es at hi in
      rw (eh, es, column-is w.left, column-is w.own, column-is right)
      (window-texel order two d (place_at g by bx) i j wide hj said ∙ of-grid order g d bx by i j e wide hj)

-- the texels of the row, and that those of its first n blocks are laid on its sheet
abbrev pub row_texel : ChannelOrder → Grid → ℕ → List ℕ → ℕ → ℕ → ℕ
row_texel order g by d x y = grid_texel order g d x (by * 4 + y)

abbrev pub RowSoFar : ChannelOrder → Grid → ℕ → Sheet → (size : ℕ) → (d old : List ℕ) → ℕ → List ℕ → Type 0
RowSoFar order g by row size d old = BlocksLaid row size (row_texel order g by d) old

-- a block that starts in the row, and its part of the sheet
module _ {g : Grid} {by len room : ℕ} {row : Sheet} (r : Ready g by row len room) (size bx : ℕ) {part : Sheet} (h : bx * size < row.width)
    (e : part ≡ columns_from row (bx * size) size) where
  pub part-fits : Fits part room × (part.width ≤ size) × (part.height ≤ 4)
  part-fits = rw e (columns-fit r.fits (bx * size) size h, omega arith, r.few)

  pub block-laid : (order : ChannelOrder) (d old : List ℕ) (f : ℕ → ℕ → ℕ) {img new : List ℕ} → room ≡ length old → new ≡ on_sheet part f img
      → ((x y : ℕ) → x < size → y < 4 → f x y ≡ row_texel order g by d (bx * size + x) y)
      → RowSoFar order g by row size d old bx img → RowSoFar order g by row size d old (bx + 1) new
  block-laid order d old f el en same laid =
      next-block row size (row_texel order g by d) old (rw el at r.fits) bx f en h e (λ x y lx ly. same x y lx (omega (arith, r.few))) laid
