-- The words that a texel, or a row of texels, needs give the texels of all nine. Assumes nothing.
use Rattle.std.proofs.Common.{◌≡◌, sym, ap, subst, ◌∙◌, Bool, true, false, cond, List, [], ◌∷◌, ℕ, zero, suc, ◌+◌, ◌*◌, ◌/◌, ◌%◌, ◌≤◌, ◌<◌, mod-lt}
use Rattle.std.proofs.Common.{mul-le-mul, one-mul, not-suc-le-zero, arith, eqb, get_or, drop, ne_eqb}
use lib.ListN.{get_or-replicate}
use Rattle.facts.proofs.Tab.{get_or-tab}
use Rattle.facts.specs.Tab.{tab}
use Rattle.grid.specs.declared.Grid.{Grid}
use Rattle.grid.specs.Grid.{half, block_width, beside}
use Rattle.grid.proofs.Torus.{beside-below, beside-own, back-again}
use Rattle.pixel.specs.Pixel.{packed}
use Rattle.pixel.specs.declared.ChannelOrder.{ChannelOrder}
use Rattle.word.specs.Word.{Small, unread, word_of}
use Rattle.word.specs.declared.PVRTCTexelInfo.{PVRTCTexelInfo}
use Rattle.texel.specs.Inner.{blank, nine_of, side, words_about, Place, Read}
use Rattle.texel.specs.Needed.{address_of, word_about, word_if, needed_about, every, row_words, slid}
use Rattle.texel.specs.Summed.{shares}
use Rattle.texel.specs.Texel.{share, texel_in, texel_at, grid_texel}
use Rattle.texel.proofs.Nine.{small-side, low-weight}
use Rattle.texel.proofs.Same.{HasShare, texel-same}
use Rattle.texel.proofs.Shares.{half-low}

-- what was not read is small too
small-if : (two second : Bool) (s : ℕ) (d : List ℕ) → Small (side second (word_if s (word_of two d)))
small-if two second s d = by-test (eqb s 0)
  where
    small-none : (second : Bool) → Small (side second unread)
    small-none true = record { r = omega arith; g = omega arith; b = omega arith; a = omega arith }
    small-none false = record { r = omega arith; g = omega arith; b = omega arith; a = omega arith }

    by-test : (t : Bool) → Small (side second (cond t unread (word_of two d)))
    by-test true = small-none second
    by-test false = small-side two second d

low-if : (two : Bool) (s : ℕ) (d : List ℕ) (i : ℕ) → i < 4 * block_width two → get_or (word_if s (word_of two d)).weight i 0 ≤ 8
low-if two s d i l = by-test (eqb s 0)
  where
    below : (two : Bool) → i < 4 * block_width two → i < 32
    below true h = omega arith
    below false h = omega arith

    by-test : (t : Bool) → get_or (cond t unread (word_of two d)).weight i 0 ≤ 8
    by-test true = omega (arith, get_or-replicate {A = ℕ} 32 i 0 0 (below two l))
    by-test false = low-weight two d i l

module _ (g : Grid) (d : List ℕ) (bx by : ℕ) (across down : List ℕ) where
  -- word k of them
  entry : (k : ℕ) → k < 9
      → get_or (needed_about g d bx by across down) k blank ≡ word_if (get_or across (k % 3) 0 * get_or down (k / 3) 0) (word_about g d bx by k)
  unfolding needed_about
  entry k l = get_or-tab (λ k. word_if (get_or across (k % 3) 0 * get_or down (k / 3) 0) (word_about g d bx by k)) 9 k blank l

  -- they were read, or nothing was
  pub needed-read : Read g.is2bpp (needed_about g d bx by across down)
  needed-read =
      record {
        small = λ second k l. subst (λ (w : PVRTCTexelInfo). Small (side second w)) (sym (entry k l)) (small-if g.is2bpp second (has k) (bytes k));
        low = λ k i l m. subst (λ (w : PVRTCTexelInfo). get_or w.weight i 0 ≤ 8) (sym (entry k l)) (low-if g.is2bpp (has k) (bytes k) i m);
      }
    where
      has : ℕ → ℕ
      has k = get_or across (k % 3) 0 * get_or down (k / 3) 0

      bytes : ℕ → List ℕ
      bytes k = drop (8 * address_of g bx by k) d

  -- where each block that has a share at a place has one by the rows, the texel there is the texel of all nine
  pub needed-texel : (px py : ℕ) → px < block_width g.is2bpp → py < 4 → ((i : ℕ) → HasShare (half g.is2bpp) px i → 0 < get_or across i 0)
      → ((j : ℕ) → HasShare 2 py j → 0 < get_or down j 0)
      → texel_in (half g.is2bpp) (nine_of (needed_about g d bx by across down)) px py ≡ texel_in (half g.is2bpp) (words_about g d bx by) px py
  needed-texel px py lx ly a b =
      texel-same (half g.is2bpp) px py (half-low g.is2bpp) lx ly (nine_of (needed_about g d bx by across down)) (words_about g d bx by) agree
    where
      agree : (i j : ℕ) → HasShare (half g.is2bpp) px i → HasShare 2 py j → nine_of (needed_about g d bx by across down) i j ≡ words_about g d bx by i j
      agree i j hi hj =
          let li : i < 3 = hi.0 in
          let lj : j < 3 = hj.0 in
          let ei : (3 * j + i) % 3 ≡ i = omega arith in
          let ej : (3 * j + i) / 3 ≡ j = omega arith in
          let some : 1 ≤ get_or across i 0 * get_or down j 0 = mul-le-mul (a i hi) (b j hj) in
          entry (3 * j + i) (omega arith) ∙ rw (ei, ej, ne_eqb (get_or across i 0 * get_or down j 0) 0 (λ e. omega arith))

-- the shares of a place, by index
share-at : (h p k : ℕ) → HasShare h p k → 0 < get_or (shares h p) k 0
share-at h p zero s = s.1
share-at h p (suc zero) s = s.1
share-at h p (suc (suc zero)) s = s.1
share-at h p (suc (suc (suc k))) s = absurd (not-suc-le-zero {n = k} (omega (arith, s.0)))

every-at : (h p k : ℕ) → HasShare h p k → 0 < get_or every k 0
every-at h p zero s = omega arith
every-at h p (suc zero) s = omega arith
every-at h p (suc (suc zero)) s = omega arith
every-at h p (suc (suc (suc k))) s = absurd (not-suc-le-zero {n = k} (omega (arith, s.0)))

-- where a texel lies in its block
pub place : (two : Bool) (x y : ℕ) {w : ℕ} → w ≡ block_width two → Place two (x % w) (y % 4)
place two x y e = record { across = rw e (mod-lt x (omega (arith, half-low two))); down = omega arith }

-- a texel from the words that it needs
pub texel-needed : (order : ChannelOrder) (g : Grid) (d : List ℕ) (x y : ℕ) {w r : ℕ} {across down : List ℕ} {nine : List PVRTCTexelInfo}
    → w ≡ block_width g.is2bpp → across ≡ shares (half g.is2bpp) (x % w) → down ≡ shares 2 (y % 4) → nine ≡ needed_about g d (x / w) (y / 4) across down
    → r ≡ packed order (texel_in (half g.is2bpp) (nine_of nine) (x % w) (y % 4)) → r ≡ grid_texel order g d x y
unfolding texel_at
texel-needed order g d x y ew ea ed en er =
    let px : ℕ = x % block_width g.is2bpp in
    let wide : 0 < block_width g.is2bpp = omega (arith, half-low g.is2bpp) in
    er
    ∙ rw (en, ea, ed, ew)
    (ap (packed order)
    (needed-texel g d (x / block_width g.is2bpp) (y / 4) (shares (half g.is2bpp) px) (shares 2 (y % 4)) px (y % 4) (mod-lt x wide) (omega arith)
    (share-at (half g.is2bpp) px) (share-at 2 (y % 4))))

-- and from those that its row needs
pub texel-of-row : (order : ChannelOrder) (g : Grid) (d : List ℕ) (x y : ℕ)
    → packed order (texel_in (half g.is2bpp) (nine_of (row_words g d (x / block_width g.is2bpp) (y / 4) (y % 4))) (x % block_width g.is2bpp) (y % 4))
    ≡ grid_texel order g d x y
unfolding texel_at
texel-of-row order g d x y =
    let px : ℕ = x % block_width g.is2bpp in
    let wide : 0 < block_width g.is2bpp = omega (arith, half-low g.is2bpp) in
    ap (packed order)
    (needed-texel g d (x / block_width g.is2bpp) (y / 4) every (shares 2 (y % 4)) px (y % 4) (mod-lt x wide) (omega arith)
    (every-at (half g.is2bpp) px) (share-at 2 (y % 4)))

-- the words about a block become those about the next one
module _ (g : Grid) (d : List ℕ) (q bx by py : ℕ) (lq : q < g.across) (e : bx ≡ beside g.across q 2) where
  abbrev word : ℕ → ℕ → ℕ → PVRTCTexelInfo
  word b i j = word_if (1 * share 2 py j) (words_about g d b by i j)

  first : (j : ℕ) → word q 1 j ≡ word bx 0 j
  first j = rw (e, beside-own g.across q lq, back-again g.across q lq)

  second : (j : ℕ) → word q 2 j ≡ word bx 1 j
  second j = rw (← e, beside-own g.across bx (rw e (beside-below g.across q 2 (omega arith))))

  pub slid-is : slid g d bx by py (row_words g d q by py) ≡ row_words g d bx by py
  unfolding slid needed_about tab
  slid-is = rw (first 0, first 1, first 2, second 0, second 1, second 2, one-mul (share 2 py 0), one-mul (share 2 py 1), one-mul (share 2 py 2))

-- with what the calls inside give
pub slid-to : (g : Grid) (d : List ℕ) (bx by py : ℕ) (nine : List PVRTCTexelInfo) {row : List ℕ} {u v w : PVRTCTexelInfo} → row ≡ shares 2 py
    → u ≡ word_if (get_or row 0 0) (word_about g d bx by 2) → v ≡ word_if (get_or row 1 0) (word_about g d bx by 5)
    → w ≡ word_if (get_or row 2 0) (word_about g d bx by 8)
    → get_or nine 1 blank ∷ get_or nine 2 blank ∷ u ∷ get_or nine 4 blank ∷ get_or nine 5 blank ∷ v ∷ get_or nine 7 blank ∷ get_or nine 8 blank ∷ w ∷ []
    ≡ slid g d bx by py nine
unfolding slid
slid-to g d bx by py nine er eu ev ew = rw (eu, ev, ew, er)
