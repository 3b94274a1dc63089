-- Laws of the nine words about a block. Assumes nothing.
use Rattle.std.proofs.Common.{◌≡◌, sym, ap, subst, ◌∙◌, Bool, true, false, List, ℕ, ◌+◌, ◌*◌, ◌/◌, ◌%◌, ◌≤◌, ◌<◌, min, arith, get_or, drop}
use Rattle.facts.proofs.Tab.{get_or-tab}
use Rattle.grid.specs.declared.Grid.{Grid}
use Rattle.grid.specs.Grid.{half, block_width, log2, address, beside, Placed}
use Rattle.grid.specs.Words.{Stands}
use Rattle.grid.proofs.Words.{beside-in, placed-in, located}
use Rattle.word.specs.Word.{Small, word_of}
use Rattle.word.proofs.Bounds.{small-a, small_b, weight-le}
use Rattle.word.specs.declared.PVRTCTexelInfo.{PVRTCTexelInfo}
use Rattle.texel.specs.Texel.{texel_in}
use Rattle.texel.specs.Inner.{blank, nine_of, side, words_about, nine_about, Read}
use Rattle.texel.specs.Needed.{address_of, word_about}
use Rattle.texel.proofs.Same.{texel-same}
use Rattle.texel.proofs.Shares.{half-low}

module _ (g : Grid) (d : List ℕ) (bx by : ℕ) where
  -- word k of the nine
  pub the_word : (k : ℕ) → k < 9 → get_or (nine_about g d bx by) k blank ≡ words_about g d bx by (k % 3) (k / 3)
  unfolding nine_about
  the_word k l = get_or-tab (λ k. words_about g d bx by (k % 3) (k / 3)) 9 k blank l

  -- by column and row they are those about the block
  pub by_place : (i j : ℕ) → i < 3 → j < 3 → nine_of (nine_about g d bx by) i j ≡ words_about g d bx by i j
  by_place i j hi hj =
      let across : (3 * j + i) % 3 ≡ i = omega arith in
      let down : (3 * j + i) / 3 ≡ j = omega arith in
      the_word (3 * j + i) (omega arith) ∙ rw (across, down)

pub small-side : (two second : Bool) (d : List ℕ) → Small (side second (word_of two d))
small-side two true d = small_b two d
small-side two false d = small-a two d

pub low-weight : (two : Bool) (d : List ℕ) (i : ℕ) → i < 4 * block_width two → get_or (word_of two d).weight i 0 ≤ 8
low-weight true d i l = weight-le true d i l
low-weight false d i l = weight-le false d i l

-- they were read
pub read : (g : Grid) (d : List ℕ) (bx by : ℕ) → Read g.is2bpp (nine_about g d bx by)
read g d bx by =
    record {
      small = λ second k l. subst (λ (w : PVRTCTexelInfo). Small (side second w)) (sym (the_word g d bx by k l)) (small-side g.is2bpp second _);
      low = λ k i l m. subst (λ (w : PVRTCTexelInfo). get_or w.weight i 0 ≤ 8) (sym (the_word g d bx by k l)) (low-weight g.is2bpp _ i m);
    }

-- word k of the nine about block (bx, by), which lies at (x, y)
module _ {g : Grid} {len : ℕ} (s : Stands g len) (bx by k : ℕ) {x y m : ℕ} (ex : x ≡ beside g.across bx (k % 3)) (ey : y ≡ beside g.down by (k / 3))
    (em : m ≡ min g.across g.down) where
  pub placed-there : Placed m x y
  placed-there = rw (ex, ey) (placed-in s (beside-in s bx by (k % 3) (k / 3)) em)

  module _ {z : ℕ} (ez : z ≡ address (log2 m) x y) where
    pub there : (z ≡ address_of g bx by k) × (8 * z + 8 ≤ len)
    there = located s (beside-in s bx by (k % 3) (k / 3)) em (rw (ex, ey) at ez)

    pub in-data : 8 * z ≤ len
    in-data = omega (arith, there)

    pub word-there : (d : List ℕ) {w : PVRTCTexelInfo} → w ≡ word_of g.is2bpp (drop (8 * z) d) → w ≡ word_about g d bx by k
    word-there d e = e ∙ ap (λ (z : ℕ). word_of g.is2bpp (drop (8 * z) d)) there.0

-- the texel of the nine words about a block, in an array, is the texel of the words about it
pub of-nine : (g : Grid) (d : List ℕ) (bx by px py : ℕ) → px < block_width g.is2bpp → py < 4
    → texel_in (half g.is2bpp) (nine_of (nine_about g d bx by)) px py ≡ texel_in (half g.is2bpp) (words_about g d bx by) px py
of-nine g d bx by px py lx ly =
    texel-same (half g.is2bpp) px py (half-low g.is2bpp) lx ly (nine_of (nine_about g d bx by)) (words_about g d bx by)
    (λ i j a b. by_place g d bx by i j a.0 b.0)
