-- A window of three columns gives the sums of the nine words, at either depth. Assumes nothing.
use Rattle.std.proofs.Common.{◌≡◌, ℕ, ◌+◌, ◌*◌, ◌<◌, Bool, true, false, List, get_or, sym, ap, ◌∙◌, arith}
use Rattle.facts.proofs.Tab.{get_or-tab}
use Rattle.grid.specs.Grid.{half, block_width}
use Rattle.pixel.specs.Pixel.{packed}
use Rattle.pixel.specs.declared.ChannelOrder.{ChannelOrder}
use Rattle.texel.specs.declared.PVRTCTexelColorInt.{PVRTCTexelColorInt}
use Rattle.texel.specs.Inner.{sums_to, Low}
use Rattle.texel.specs.Texel.{Words, nine_sum, filled, rule_at, punched, mixed, texel_in}
use Rattle.texel.proofs.Nine.{small-side}
use Rattle.texel.proofs.Range.{words, filled-le}
use Rattle.texel.proofs.Sums.{sums-low}
use Rattle.word.proofs.Bounds.{color-a, color-b}
use Rattle.lanes.specs.declared.Column.{Column}
use Rattle.lanes.specs.declared.Meaning.{Meaning}
use Rattle.lanes.specs.declared.Sums.{Sums}
use Rattle.lanes.specs.Block.{Said, in_block}
use Rattle.lanes.specs.Column.{word_at, lanes_a, lanes_b, column_of, sums_at, across}
use Rattle.lanes.specs.Lanes.{color_lanes, shared}
use Rattle.lanes.proofs.Lane.{sum_lanes, texel-lanes}
use Rattle.lanes.proofs.Linear.{word_lanes, sums-are}

-- row y of a column is its three words by their shares there
module _ (order : ChannelOrder) (d : List ℕ) (above own below y : ℕ) (h : y < 4) where
  row-a : get_or (column_of order d above own below).a y 0 ≡ shared 2 y (lanes_a order d above) (lanes_a order d own) (lanes_a order d below)
  unfolding column_of
  row-a = get_or-tab (λ y. shared 2 y (lanes_a order d above) (lanes_a order d own) (lanes_a order d below)) 4 y 0 h

  row-b : get_or (column_of order d above own below).b y 0 ≡ shared 2 y (lanes_b order d above) (lanes_b order d own) (lanes_b order d below)
  unfolding column_of
  row-b = get_or-tab (λ y. shared 2 y (lanes_b order d above) (lanes_b order d own) (lanes_b order d below)) 4 y 0 h

-- the three columns of nine words by their addresses
abbrev pub column_at : ChannelOrder → List ℕ → (ℕ → ℕ → ℕ) → ℕ → Column
column_at order d z i = column_of order d (z i 0) (z i 1) (z i 2)

-- the nine words
module _ (order : ChannelOrder) (two : Bool) (d : List ℕ) (z : ℕ → ℕ → ℕ) where
  abbrev nine_at : Words
  nine_at = words two (λ i j. word_at d (z i j))

  lanes-a : (i j : ℕ) → lanes_a order d (z i j) ≡ word_lanes order nine_at false i j
  unfolding lanes_a
  lanes-a i j = ap (color_lanes order) (sym (color-a two (word_at d (z i j))))

  lanes-b : (i j : ℕ) → lanes_b order d (z i j) ≡ word_lanes order nine_at true i j
  unfolding lanes_b
  lanes-b i j = ap (color_lanes order) (sym (color-b two (word_at d (z i j))))

  module _ (x y : ℕ) (hx : x < block_width two) (hy : y < 4) where
    -- what the nine words' colour A, or B, sums to at the place
    abbrev totals : (second : Bool) → PVRTCTexelColorInt
    totals second = sums_to (half two) nine_at second x y 9

    -- columns k whose row y is the words' by their shares there, for either colour
    summed : (second : Bool) (k : ℕ → List ℕ)
        → ((i : ℕ) → get_or (k i) y 0
        ≡ shared 2 y (word_lanes order nine_at second i 0) (word_lanes order nine_at second i 1) (word_lanes order nine_at second i 2))
        → shared (half two) x (get_or (k 0) y 0) (get_or (k 1) y 0) (get_or (k 2) y 0) ≡ sum_lanes order (totals second)
    summed second k e = rw (e 0, e 1, e 2) (sums-are order (half two) x y nine_at second)

    -- row y of the three columns, in colour A and in colour B
    abbrev sums-a : Sums
    sums-a = sums_at (column_at order d z 0).a (column_at order d z 1).a (column_at order d z 2).a y

    abbrev sums-b : Sums
    sums-b = sums_at (column_at order d z 0).b (column_at order d z 1).b (column_at order d z 2).b y

    sum-a : across (half two) sums-a x ≡ sum_lanes order (totals false)
    sum-a = summed false (λ i. (column_at order d z i).a) (λ i. row-a order d (z i 0) (z i 1) (z i 2) y hy ∙ rw (lanes-a i 0, lanes-a i 1, lanes-a i 2))

    sum-b : across (half two) sums-b x ≡ sum_lanes order (totals true)
    sum-b = summed true (λ i. (column_at order d z i).b) (λ i. row-b order d (z i 0) (z i 1) (z i 2) y hy ∙ rw (lanes-b i 0, lanes-b i 1, lanes-b i 2))

    low : (second : Bool) → Low (8 * half two) (totals second)
    low second = sums-low (half two) nine_at second x y hx hy 9 (omega arith) (λ k l. small-side two second _)

    -- a texel of the window, where what is said of it is the definition's
    pub window-texel : {says : ℕ → ℕ → Meaning} → Said two (λ i j. word_at d (z i j)) says
        → in_block (half two) says (column_at order d z 0) (column_at order d z 1) (column_at order d z 2) x y ≡ packed order (texel_in (half two) nine_at x y)
    unfolding texel_in mixed sums_to nine_sum
    window-texel said =
        let rule = rule_at (nine_at 1 1) x y in
        let k = said x y hx hy in
        rw (sum-a, sum-b, k.0, k.1)
        (texel-lanes order two (totals false) (totals true) (filled (half two) rule nine_at (x + block_width two) (y + 4))
        (punched (half two) (nine_at 1 1) x y)
        (low false) (low true) (filled-le two (λ i j. word_at d (z i j)) rule (x + block_width two) (y + 4)))
