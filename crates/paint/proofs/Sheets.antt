-- Laws of sheets: their parts lie in the lent words, blocks make a row, and rows make the sheet. Assumes nothing.
use Rattle.std.proofs.Common.{◌≡◌, ap, ◌∙◌, List, ℕ, ◌+◌, ◌-◌, ◌*◌, ◌≤◌, ◌<◌, min, mul-le-mul_right, arith, length}
use Rattle.paint.specs.declared.Sheet.{Sheet}
use Rattle.paint.specs.Sheet.{on_sheet, rows_from, columns_from, Fits}
use Rattle.paint.proofs.Laid.{Part, part_none, part-empty, columns-part, rows-part}
use Rattle.paint.proofs.Painted.{painted_same}

module _ {s : Sheet} {room : ℕ} (f : Fits s room) where
  -- a row of the sheet lies in the lent words, and so does each word
  pub row-in-room : (y : ℕ) → y < s.height → s.start + (y * s.stride + s.width) ≤ room
  row-in-room y h =
      let up : y ≤ s.height - 1 = omega arith in
      omega (arith, mul-le-mul_right s.stride up, f.roomy)

  pub in-room : (x y : ℕ) → x < s.width → y < s.height → s.start + (y * s.stride + x) < room
  in-room x y hx hy = omega (arith, row-in-room y hy)

  -- rows and columns of a sheet fit where it does
  pub rows_fit : (y count : ℕ) → y < s.height → Fits (rows_from s y count) room
  rows_fit y count h =
      let last : y + (min count (s.height - y) - 1) ≤ s.height - 1 = omega arith in
      record { apart = f.apart; roomy = omega (arith, mul-le-mul_right s.stride last, f.roomy) }

  pub columns-fit : (x count : ℕ) → x < s.width → Fits (columns_from s x count) room
  columns-fit x count h = record { apart = omega (arith, f.apart); roomy = omega (arith, f.roomy) }

  -- in more room
  pub fits_more : {more : ℕ} → room ≤ more → Fits s more
  fits_more h = record { apart = f.apart; roomy = omega (arith, f.roomy) }

-- a sheet of `old` on which the texels f are laid in blocks of `size`, across or down
module _ (s : Sheet) (size : ℕ) (f : ℕ → ℕ → ℕ) (old : List ℕ) where
  -- the first n blocks across are laid, and img is the list now
  abbrev pub BlocksLaid : ℕ → List ℕ → Type 0
  BlocksLaid n img = Part f old s.start s.stride (min s.width (n * size)) s.height img

  pub no_blocks : BlocksLaid 0 old
  no_blocks =
      let none : min s.width (0 * size) ≡ 0 = omega arith in
      rw none (part-empty f old s.start s.stride s.height)

  -- the first n rows of blocks
  abbrev pub RowsLaid : ℕ → List ℕ → Type 0
  RowsLaid n img = Part f old s.start s.stride s.width (min s.height (n * size)) img

  pub no_rows : s.width ≤ s.stride → RowsLaid 0 old
  no_rows h =
      let none : min s.height (0 * size) ≡ 0 = omega arith in
      rw none (part_none f old s.start s.stride s.width h)

  module _ (fit : Fits s (length old)) (n : ℕ) {img new : List ℕ} {part : Sheet} (g : ℕ → ℕ → ℕ) (e : new ≡ on_sheet part g img) where
    -- one block more
    pub next-block : n * size < s.width → part ≡ columns_from s (n * size) size → ((x y : ℕ) → x < size → y < s.height → g x y ≡ f (n * size + x) y)
        → BlocksLaid n img → BlocksLaid (n + 1) new
    next-block starts ep same laid =
        let m : ℕ = min size (s.width - n * size) in
        let so_far : min s.width (n * size) ≡ n * size = omega arith in
        let then : n * size + m ≡ min s.width ((n + 1) * size) = omega arith in
        let q = e ∙ ap (λ (p : Sheet). on_sheet p g img) ep
        ∙ painted_same (s.start + n * size) s.stride m s.height g (λ x y. f (n * size + x) y) img (omega (arith, fit.apart))
        (λ x y lx ly. same x y (omega arith) ly) in
        rw (← then)
        (columns-part m (rw so_far at laid) (omega (arith, fit.apart)) (λ x y lx ly. in-room fit x y (omega arith) ly) q)

    -- one row of blocks more
    pub next_row : n * size < s.height → part ≡ rows_from s (n * size) size → ((x y : ℕ) → x < s.width → y < size → g x y ≡ f x (n * size + y))
        → RowsLaid n img → RowsLaid (n + 1) new
    next_row starts ep same laid =
        let m : ℕ = min size (s.height - n * size) in
        let so_far : min s.height (n * size) ≡ n * size = omega arith in
        let then : n * size + m ≡ min s.height ((n + 1) * size) = omega arith in
        let q = e ∙ ap (λ (p : Sheet). on_sheet p g img) ep
        ∙ painted_same (s.start + n * size * s.stride) s.stride s.width m g (λ x y. f x (n * size + y)) img fit.apart
        (λ x y lx ly. same x y lx (omega arith)) in
        rw (← then)
        (rows-part m (rw so_far at laid) fit.apart (λ x y lx ly. in-room fit x y lx (omega arith)) q)

  -- where they reach the end of a row, or of the sheet, all of it is laid
  pub all_blocks : (n : ℕ) {img : List ℕ} → s.width ≤ n * size → BlocksLaid n img → img ≡ on_sheet s f old
  all_blocks n cover laid =
      let full : min s.width (n * size) ≡ s.width = omega arith in
      (rw full at laid).is

  pub all-rows : (n : ℕ) {img : List ℕ} → s.height ≤ n * size → RowsLaid n img → img ≡ on_sheet s f old
  all-rows n cover laid =
      let full : min s.height (n * size) ≡ s.height = omega arith in
      (rw full at laid).is
