-- Where levels stand, and how many there may be. Assumes nothing.
use Rattle.std.proofs.Common.{◌≡◌, ℕ, zero, suc, ◌+◌, ◌-◌, ◌*◌, ◌<◌, ◌≤◌, max, Bool, true, false, List, refl, ap, ◌∙◌, ⊎_elim, mul-le-mul, arith, le-ltb}
use Rattle.facts.proofs.Numbers.{lt-or-le}
use Rattle.grid.specs.Grid.{log2}
use Rattle.ktx.specs.Header.{is_ktx}
use Rattle.pvrtc.specs.Picture.{side_in, grid_of}
use Rattle.pvrtc.specs.Refusals.{need, zero_side, large_side}
use Rattle.pvrtc.specs.declared.Picture.{Picture}
use Rattle.pvrtc.proofs.Accepted.{width_above, height-above, few-across, few-down}
use Rattle.levels.specs.declared.Levels.{Levels}
use Rattle.levels.specs.Inner.{first_level, next_level, Walks, Small}
use Rattle.levels.specs.Levels.{pvr_levels, ktx_levels, levels_in, halved, plate_in, picture_at, need_at, size_word_bytes, taken_by, start_at, level_at}
use Rattle.levels.specs.Ranges.{end_at, Ranges, PvrRanges, KtxRanges, FileRanges, Allowed, Reckoned}
use Rattle.levels.specs.Refusals.{most_levels}
use Rattle.levels.proofs.Halving.{halved-small, log2-small, halved-out, halved-before}

-- a size word has four bytes at most
pub word_bytes : (sized : Bool) → size_word_bytes sized ≤ 4
word_bytes true = omega arith
word_bytes false = omega arith

-- sides up to 65,536 are not large, and then the need fits 36 bits
pub not-large : (p : Picture) → p.width ≤ 65536 → p.height ≤ 65536 → large_side p ≡ false
not-large p w h = rw (le-ltb 65536 p.width w, le-ltb 65536 p.height h) refl

pub need-small : (p : Picture) → large_side p ≡ false → need p ≤ 34359738368
need-small p e = omega (arith, mul-le-mul (few-across p e) (few-down p e))

-- padding adds three bytes at most
pub taken-most : (sized : Bool) (n : ℕ) → taken_by sized n ≤ n + 3
taken-most true n = omega arith
taken-most false n = omega arith

-- a need is a multiple of eight, so that it is not padded
taken_is : (sized : Bool) (n : ℕ) → taken_by sized (8 * n) ≡ 8 * n
taken_is true n = omega arith
taken_is false n = refl

module _ (l : Levels) where
  -- each level stands behind the one before it and its own size word
  pub start-next : (k : ℕ) → start_at l (suc k) ≡ end_at l k + size_word_bytes l.sized
  unfolding start_at
  start-next k =
      let g = grid_of (picture_at l k) in
      ap (λ (n : ℕ). start_at l k + n + size_word_bytes l.sized) (taken_is l.sized (g.across * g.down))

  -- the first level is the plate
  pub picture-first : picture_at l 0 ≡ plate_in l
  unfolding halved
  picture-first = refl

  -- so the walk goes from the first level on, each time to the next
  pub first-is : first_level l ≡ level_at l 0
  unfolding halved start_at
  first-is = refl

  pub next-is : (k : ℕ) → next_level l.sized (level_at l k) ≡ level_at l (k + 1)
  unfolding halved start_at
  next-is k = let more : suc k ≡ k + 1 = omega arith in step ∙ ap (level_at l) more
    where
      step : next_level l.sized (level_at l k) ≡ level_at l (suc k)
      step = refl

  -- a level needs four blocks at least, since its grid is stored
  pub need-above : (k : ℕ) → 0 < need_at l k
  unfolding side_in
  need-above k =
      let across : 2 ≤ (grid_of (picture_at l k)).across = omega arith in
      let down : 2 ≤ (grid_of (picture_at l k)).down = omega arith in
      omega (arith, mul-le-mul across down)

  -- and every later one does
  start-later : (i n : ℕ) → end_at l i + size_word_bytes l.sized ≤ start_at l (suc (i + n))
  start-later i zero = let here : suc (i + 0) ≡ suc i = omega arith in omega (arith, start-next i, ap (start_at l) here)
  start-later i (suc n) =
      let next : suc (i + suc n) ≡ suc (suc (i + n)) = omega arith in
      omega (arith, start-later i n, start-next (suc (i + n)), ap (start_at l) next)

  pub ranges : Ranges l
  ranges =
      record {
        apart = λ i j h.
            let there : suc (i + (j - suc i)) ≡ j = omega arith in
            omega (arith, start-later i (j - suc i), ap (start_at l) there);
        joined = λ e k. omega (arith, start-next k, ap size_word_bytes e);
        spaced = λ e k. omega (arith, start-next k, ap size_word_bytes e);
      }

  -- the first level follows its size word, and no level stands before it
  pub start_first : start_at l 0 ≡ l.start + size_word_bytes l.sized
  unfolding start_at
  start_first = refl

  pub start-past : (k : ℕ) → l.start + size_word_bytes l.sized ≤ start_at l k
  start-past zero = omega (arith, start_first)
  start-past (suc k) = omega (arith, start-past k, start-next k)

  -- how many levels there may be
  pub allowed : zero_side (plate_in l) ≡ false → Allowed l
  allowed sides =
      let some-w : 0 < l.width = width_above (plate_in l) sides in
      let some-h : 0 < l.height = height-above (plate_in l) sides in
      let longer : ℕ = max l.width l.height in
      record {
        last = λ k e. let there : k ≡ log2 longer = omega arith in
            rw there (record { wide = halved-out l.width longer some-w (omega arith); high = halved-out l.height longer some-h (omega arith) });
        none-earlier = λ k h one.
            let not-one : 2 ≤ halved k longer = halved-before k longer (omega arith) (omega arith) in
            ⊎_elim
            (λ less. let e : longer ≡ l.height = omega arith in omega (arith, ap (halved k) e, one.high))
            (λ more. let e : longer ≡ l.width = omega arith in omega (arith, ap (halved k) e, one.wide))
            (lt-or-le l.width l.height);
      }

  -- where both sides are accepted, and the levels start low
  module _ (w : Walks l) where
    pub most-small : most_levels l ≤ 17
    most-small = omega (arith, log2-small (max l.width l.height) (omega (arith, w.wide, w.high)))

    module _ (k : ℕ) where
      pub wide_at : halved k l.width ≤ 65536
      wide_at = halved-small k l.width 65536 (omega arith) w.wide

      pub high-at : halved k l.height ≤ 65536
      high-at = halved-small k l.height 65536 (omega arith) w.high

      pub need-at : need_at l k ≤ 34359738368
      need-at = need-small (picture_at l k) (not-large (picture_at l k) wide_at high-at)

    -- each level is behind the first by no more than those before it can take
    start-low : (k : ℕ) → start_at l k ≤ 4294967364 + k * 34359738372
    start-low zero = omega (arith, start_first, w.low, word_bytes l.sized)
    start-low (suc k) = omega (arith, start-next k, start-low k, need-at k, word_bytes l.sized)

    pub start_small : (k : ℕ) → k < 17 → start_at l k ≤ 584115552316
    start_small k h = omega (arith, start-low k)

    pub reckoned : Reckoned l
    reckoned = record { few = most-small; fits = λ k h. omega (arith, most-small, start_small k (omega (arith, most-small)), need-at k) }

    -- so each step of the way can be reckoned
    pub small_at : (k : ℕ) → k < 17 → Small (level_at l k)
    small_at k h = record { wide = wide_at k; high = high-at k; low = omega (arith, start_small k h); few = need-at k }

-- of a file, read as what it is taken for
module _ (file : List ℕ) where
  pub as-pvr : is_ktx file ≡ false → levels_in file ≡ pvr_levels file
  unfolding levels_in
  as-pvr e = rw e refl

  pub as-ktx : is_ktx file ≡ true → levels_in file ≡ ktx_levels file
  unfolding levels_in
  as-ktx e = rw e refl

  of-pvr : is_ktx file ≡ false → PvrRanges file
  of-pvr e =
      let is = as-pvr e in
      record {
        unsized = ap (λ (l : Levels). l.sized) is;
        first = omega (arith, ap (λ (l : Levels). start_at l 0) is, start_first (pvr_levels file));
        past = λ k. omega (arith, start-past (pvr_levels file) k, ap (λ (l : Levels). start_at l k) is);
      }

  of-ktx : is_ktx file ≡ true → KtxRanges file
  of-ktx e =
      let is = as-ktx e in
      record {
        sized = ap (λ (l : Levels). l.sized) is;
        first = ap (λ (l : Levels). start_at l 0) is ∙ start_first (ktx_levels file);
        past = λ k. omega (arith, start-past (ktx_levels file) k, ap (λ (l : Levels). start_at l k) is);
      }

  pub file-ranges : FileRanges file
  file-ranges = record { ranges = ranges (levels_in file); of-pvr = of-pvr; of-ktx = of-ktx }
