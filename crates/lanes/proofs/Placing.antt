-- Where words stand: bits spread by masks, and an address as the sum of what its column and its row add. Assumes nothing.
use Rattle.std.proofs.Common.{◌≡◌, ℕ, zero, suc, ◌+◌, ◌-◌, ◌*◌, ◌/◌, ◌<◌, ◌≤◌, min, Bool, true, false, eqb, bit_and, bit_or, sym, refl, ap, ◌∙◌, ap₂, arith}
use Rattle.std.proofs.Common.{eqb→eq}
use lib.Bits.{and_zero_l}
use Rattle.facts.proofs.Finite.{below}
use Rattle.grid.proofs.Address.{address-small}
use Rattle.grid.proofs.Spreading.{by-table}
use Rattle.grid.proofs.Torus.{beside-own, last-before}
use Rattle.grid.proofs.Words.{some-across, some-down, beside-in, placed-in, located}
use Rattle.grid.specs.declared.Grid.{Grid}
use Rattle.grid.specs.Grid.{half, block_width, blocks, log2, address, block_address, beside, spread_bits, Placed}
use Rattle.grid.specs.Words.{Stands}
use Rattle.paint.specs.declared.Sheet.{Sheet}
use Rattle.lanes.specs.declared.RowAddresses.{RowAddresses}
use Rattle.lanes.specs.BlockRow.{addresses_of, column_words, InData, Ready}

-- eight bits spread by masks
abbrev pub once : ℕ → ℕ
once b = bit_and (bit_or b (b * 16)) 0x0f0f

abbrev twice : ℕ → ℕ
twice c = bit_and (bit_or c (c * 4)) 0x3333

abbrev thrice : ℕ → ℕ
thrice e = bit_and (bit_or e (e * 2)) 0x5555

pub masks-spread : (b : ℕ) → b < 256 → thrice (twice (once b)) ≡ spread_bits 8 b
unfolding spread_bits
masks-spread b h = eqb→eq _ _ (below (λ b. eqb (thrice (twice (once b))) (spread_bits 8 b)) 256 tt b h)

spread_none : spread_bits 16 0 ≡ 0
unfolding spread_bits
spread_none = refl

-- what a column adds
pub across-is : (m x : ℕ) → Placed m x 0 → (x - bit_and x (m - 1)) * m + spread_bits 16 (bit_and x (m - 1)) * 2 ≡ address (log2 m) x 0
across-is m x p =
    let e = rw (and_zero_l (m - 1), spread_none) at (by-table m x 0 p) in
    omega (arith, e)

pub across-small : (m x : ℕ) → Placed m x 0 → (x - bit_and x (m - 1)) * m + spread_bits 16 (bit_and x (m - 1)) * 2 < 8589934592
across-small m x p = rw (across-is m x p) (address-small m x 0 p)

-- an address is what its column adds and what its row adds
parts : (k x y : ℕ) → address k x 0 + address k 0 y ≡ address k x y
unfolding address
parts zero x y = omega arith
parts (suc k) x y = omega (arith, parts k (x / 2) (y / 2))

-- what the rows of blocks add, as the code makes it
pub addresses-are : (g : Grid) (by : ℕ) → by < g.down → {m u o e p n : ℕ} → m ≡ min g.across g.down → p ≡ beside g.down by 0
    → n ≡ beside g.down by 2 → u ≡ address (log2 m) 0 p → o ≡ address (log2 m) 0 by → e ≡ address (log2 m) 0 n
    → record { smaller = m; above = u; own = o; below = e } ≡ addresses_of g by
unfolding addresses_of
addresses-are g by h em ep en eu eo ee = rw (beside-own g.down by h, ← ep, ← en, ← em, eu, eo, ee)

-- row k = 0, 1, 2 beside row `by` meets what its address asks
pub placed_row : {g : Grid} {len : ℕ} → Stands g len → (by k : ℕ) {m y : ℕ} → m ≡ min g.across g.down → y ≡ beside g.down by k → Placed m 0 y
placed_row s by k em ey = rw ey (placed-in s (record { across = some-across s; down = (beside-in s 0 by 0 k).down }) em)

-- column 0 is block 0's own
pub first-column : {g : Grid} {len : ℕ} → Stands g len → 0 ≡ beside g.across 0 1
first-column {g} s = sym (beside-own g.across 0 (some-across s))

-- and the last column, before the first one
pub last-column : {g : Grid} {len : ℕ} → Stands g len → g.across - 1 ≡ beside g.across 0 0
last-column {g} s = sym (last-before g.across (some-across s))

-- v is what is read of column k = 0, 1, 2 beside block bx, round the torus, and is good
pub record Seen {A : Type 0} (Good : A → Type 0) (read : ℕ → A) (side bx k : ℕ) (v : A) : Type 0 where
  pub is : v ≡ read (beside side bx k)
  pub good : Good v

-- part is what column k = 0, 1, 2 beside block bx, round the torus, adds to an address
pub record SeenPart (g : Grid) (row : RowAddresses) (bx k part : ℕ) : Type 0 where
  pub is : part ≡ address (log2 row.smaller) (beside g.across bx k) 0

-- the address of the word in column x of the row above, own or below (0, 1, 2) row `by`, and in column i beside block bx
abbrev pub place_in : Grid → (by x j : ℕ) → ℕ
place_in g by x j = block_address g.across g.down x (beside g.down by j)

abbrev pub place_at : Grid → (by bx i j : ℕ) → ℕ
place_at g by bx i j = place_in g by (beside g.across bx i) j

-- the addresses of row `by` of a grid whose words stand in `len` bytes
pub record RowAt (g : Grid) (by len : ℕ) (row : RowAddresses) : Type 0 where
  pub words : Stands g len
  pub is : row ≡ addresses_of g by

pub row-at : {g : Grid} {by len room : ℕ} {sheet : Sheet} {row : RowAddresses} → Ready g by sheet len room → row ≡ addresses_of g by → RowAt g by len row
row-at r e = record { words = r.words; is = e }

module _ {g : Grid} {by len : ℕ} {row : RowAddresses} (r : RowAt g by len row) where
  -- a column as the code names it, and what it adds
  module _ (bx k : ℕ) {x : ℕ} (ex : x ≡ beside g.across bx k) where
    pub placed-column : Placed row.smaller x 0
    unfolding addresses_of
    placed-column = rw (r.is, ex) (placed-in r.words (record { across = (beside-in r.words bx by k 0).across; down = some-down r.words }) refl)

    pub part-seen : {part : ℕ} → part ≡ address (log2 row.smaller) x 0 → SeenPart g row bx k part
    part-seen ep = record { is = ep ∙ ap (λ (x : ℕ). address (log2 row.smaller) x 0) ex }

  -- its words
  module _ {bx k part : ℕ} (p : SeenPart g row bx k part) where
    abbrev Word : (j z : ℕ) → Type 0
    Word j z = (z ≡ place_at g by bx k j) × (8 * z + 8 ≤ len)

    word_in : (j v : ℕ) → v ≡ address (log2 (min g.across g.down)) 0 (beside g.down by j) → Word j (part + v)
    unfolding addresses_of
    word_in j v ev =
        let e : part ≡ address (log2 (min g.across g.down)) (beside g.across bx k) 0 = rw r.is at p.is in
        located r.words (beside-in r.words bx by k j) refl (ap₂ (λ (m n : ℕ). m + n) e ev ∙ parts _ _ _)

    pub word-above : Word 0 (part + row.above)
    unfolding addresses_of
    word-above = word_in 0 row.above (ap (λ (a : RowAddresses). a.above) r.is)

    pub word-own : Word 1 (part + row.own)
    unfolding addresses_of
    word-own = word_in 1 row.own (ap (λ (a : RowAddresses). a.own) r.is)

    pub word_below : Word 2 (part + row.below)
    unfolding addresses_of
    word_below = word_in 2 row.below (ap (λ (a : RowAddresses). a.below) r.is)

    pub in-data : InData (column_words row part) len
    in-data = record { above = word-above.1; own = word-own.1; below = word_below.1 }

-- what reading column k beside block bx asks
pub asked : {g : Grid} {by len : ℕ} {row : RowAddresses} → RowAt g by len row → (bx k : ℕ) {x : ℕ} → x ≡ beside g.across bx k
    → Placed row.smaller x 0 × InData (column_words row (address (log2 row.smaller) x 0)) len
asked r bx k ex = (placed-column r bx k ex, in-data r (part-seen r bx k ex refl))

-- a block that covers a row is one of the grid's
pub covers : {g : Grid} {by : ℕ} {row : Sheet} {len room : ℕ} → Ready g by row len room → {n bx : ℕ}
    → n ≡ blocks (block_width g.is2bpp) row.width → bx < n → bx < g.across
covers r en h = omega (arith, r.cover, en, h)

-- a block as wide as that starts in the row
pub starts : (two : Bool) {n bx w size : ℕ} → size ≡ block_width two → n ≡ blocks (block_width two) w → bx < n → bx * size < w
starts true e en h = rw e (omega (arith, en, h))
starts false e en h = rw e (omega (arith, en, h))

pub width_is : {a h : ℕ} {b two : Bool} → a ≡ h → h ≡ half two → b ≡ two → 2 * a ≡ block_width b
width_is ea eh eb = rw (ea, eh, eb)
