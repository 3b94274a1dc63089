-- How the texels of a row are laid, at either depth: word by word, as far as its sheet has columns. Assumes nothing.
use Rattle.std.proofs.Common.{◌≡◌, ℕ, ◌+◌, ◌*◌, ◌<◌, ◌≤◌, min, Bool, true, false, List, length, set, arith}
use Rattle.grid.specs.Grid.{half}
use Rattle.paint.proofs.Laid.{Row, row-none, row_word}
use Rattle.lanes.specs.declared.Column.{Column}
use Rattle.lanes.specs.declared.Sums.{Sums}
use Rattle.lanes.specs.declared.Meaning.{Meaning}
use Rattle.lanes.specs.Column.{across, SmallSums, SmallColumn, sums_at}
use Rattle.lanes.specs.Lanes.{fitted, mixed_lanes, texel_lanes}
use Rattle.lanes.proofs.Linear.{sums-fit}

-- what the loop over the 2h places of a row keeps: the two sums of place i, and that the words of the places before it are laid
pub record RowLaid (h : ℕ) (a b : Sums) (f : ℕ → ℕ) (old : List ℕ) (at columns i sum-a sum-b : ℕ) (img : List ℕ) : Type 0 where
  pub early : i ≤ 2 * h
  pub is-a : sum-a ≡ across h a i
  pub is-b : sum-b ≡ across h b i
  pub laid : Row (λ x y. f x) old at columns (min i columns) img

-- none of them
pub row-start : {h : ℕ} {a b : Sums} {f : ℕ → ℕ} {old : List ℕ} {at columns sum-a sum-b : ℕ} → sum-a ≡ across h a 0 → sum-b ≡ across h b 0
    → RowLaid h a b f old at columns 0 sum-a sum-b old
row-start {h} {a} {b} {f} {old} {at} {columns} ea eb =
    let e : min 0 columns ≡ 0 = omega arith in
    record { early = omega arith; is-a = ea; is-b = eb; laid = rw e (row-none (λ x y. f x) old at columns) }

-- a sum is small enough to be brought to 8 bits
pub small-enough : {h i sum : ℕ} {s : Sums} → SmallSums s → h ≤ 4 → i ≤ 2 * h → sum ≡ across h s i → sum ≤ 288230376151711744
small-enough {h} {i} {s = s} k l m e = rw e (sums-fit h i s.left s.own s.right l m k.left k.own k.right)

module _ {h : ℕ} {a b : Sums} {f : ℕ → ℕ} {old : List ℕ} {at columns i sum-a sum-b : ℕ} {img : List ℕ}
    (r : RowLaid h a b f old at columns i sum-a sum-b img) where
  -- one place more, where there is a column for it and where there is none
  module _ {next-a next-b : ℕ} (l : i < 2 * h) (ea : next-a ≡ across h a (i + 1)) (eb : next-b ≡ across h b (i + 1)) where
    pub word-laid : {v : ℕ} → v ≡ f i → i < columns → at + columns ≤ length old → RowLaid h a b f old at columns (i + 1) next-a next-b (set img (at + i) v)
    word-laid e c fits =
        let now : min i columns ≡ i = omega arith in
        let next : min (i + 1) columns ≡ i + 1 = omega arith in
        record { early = omega arith; is-a = ea; is-b = eb; laid = rw next (row_word (rw now at r.laid) e c (omega arith)) }

    pub word_cut : columns ≤ i → RowLaid h a b f old at columns (i + 1) next-a next-b img
    word_cut c =
        let same : min i columns ≡ min (i + 1) columns = omega arith in
        record { early = omega arith; is-a = ea; is-b = eb; laid = rw (← same) r.laid }

-- a row of three small columns is small, in either colour
pub row_small : {left own right : Column} {j : ℕ} → SmallColumn left → SmallColumn own → SmallColumn right → j < 4
    → SmallSums (sums_at left.a own.a right.a j) × SmallSums (sums_at left.b own.b right.b j)
row_small p q r l = (record { left = p.a _ l; own = q.a _ l; right = r.a _ l }, record { left = p.b _ l; own = q.b _ l; right = r.b _ l })

-- a texel, as it is made
pub made : (h x y : ℕ) {m n : Meaning} {a b t : ℕ} → a ≡ fitted h x → b ≡ fitted h y → m ≡ n → t ≡ mixed_lanes a b m.weight m.keep
    → t ≡ texel_lanes h x y n.weight n.keep
unfolding texel_lanes
made h x y ea eb em et = rw (ea, eb, em) at et

-- half a block's width is one of two numbers
pub half-small : {a h : ℕ} (two : Bool) → a ≡ h → h ≡ half two → (0 < a) × (a ≤ 4)
half-small true e eh = omega arith
half-small false e eh = omega arith
