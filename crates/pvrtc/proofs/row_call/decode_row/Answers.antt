-- `pvrtc::row_call::decode_row` meets its contract. The loop keeps that the first x words are the row's texels, and what `InRow` says is held.
-- Assumes nothing.
use Rattle.std.proofs.Common.{◌≡◌, ℕ, ◌/◌, ◌%◌, ◌<◌, ◌≤◌, length, take, length-take-le, sym, refl, ap, ◌∙◌, ap₂, arith}
use Rattle.facts.proofs.Tab.{filled_none, filled_more, filled-end}
use Rattle.grid.specs.declared.Grid.{Grid}
use Rattle.grid.specs.Grid.{block_width}
use Rattle.grid.specs.Words.{InGrid}
use Rattle.grid.proofs.Words.{some-across}
use Rattle.pvrtc.proofs.Accepted.{Accepted, accepted, stands, stands-as, block_in, block-as, row_inside, row-roomy, width_above}
use Rattle.pvrtc.proofs.InRow.{not-refused, its-word, row-laid, Held, held_none, held_first, held-later, held-picture, held_next}
use Rattle.pvrtc.proofs.InRow.{slides, slides-read}
use Rattle.pvrtc.proofs.Unique.{by-words}
use Rattle.texel.proofs.Shares.{half_high}
use Rattle.texel.specs.Summed.{with_texels}
use Rattle.pvrtc.specs.Picture.{grid_of, picture_texel}
use Rattle.pvrtc.specs.declared.Call.TheVariants as call
use Rattle.pvrtc.proofs.row_call.decode_row.Goals as goal
use Rattle.pvrtc.proofs.row_call.decode_row.Goals.{In_ok-check, Joined-x-width-eq0, then-x-width-eq0, else-x-width-eq0}

-- past the checks the call is accepted
ok_of : (c : In_ok-check) → let a = c.args in
    Accepted a.p (call.Row a.y (length a.row.now)) (length a.«data».now)
ok_of c = let a = c.args in accepted a.p (call.Row a.y (length a.row.now)) (length a.«data».now) (sym c.in_ok-check.ensures)

-- and the lent words hold the row
roomy : (c : In_ok-check) → c.args.p.width ≤ length c.args.row.now
roomy c = row-roomy c.args.p c.args.y (length c.args.row.now) (ok_of c).roomy

whole : (c : In_ok-check) → length (take c.args.p.width c.args.row.now) ≡ c.args.p.width
whole c = length-take-le c.args.p.width c.args.row.now (roomy c)

pub overflow_sub-g : goal.overflow_sub-g
overflow_sub-g c = rw c.grid_of-g.ensures (some-across (stands (ok_of (goal.at.overflow_sub-g c).In_ok-check)))

pub invariant_of-w : goal.invariant_of-w
invariant_of-w c = record { stands = stands-as (ok_of (goal.at.invariant_of-w c).In_ok-check) c.grid_of-g.ensures }

pub first_words-nine-requires : goal.first_words-nine-requires
first_words-nine-requires c =
    let a = c.args in
    let ok = ok_of (goal.at.first_words-nine-requires c).In_ok-check in
    let some = some-across (stands ok) in
    let row = (block_in ok 0 a.y (width_above a.p ok.sides) (row_inside a.p a.y (length a.row.now) ok.inside)).down in
    let grid = c.grid_of-g.ensures in
    (rw grid (record { across = omega arith; down = row }), omega arith)

pub slice_bounds-word-items-end : goal.slice_bounds-word-items-end
slice_bounds-word-items-end c = roomy (goal.at.slice_bounds-word-items-end c).In_ok-check

pub slice_bounds-word-items-end-2 : goal.slice_bounds-word-items-end-2
slice_bounds-word-items-end-2 c = sym (whole (goal.at.slice_bounds-word-items-end-2 c).In_ok-check)

pub loop-x-init : goal.loop-x-init
loop-x-init c =
    let a = c.args in
    (filled_none _ _, held_none a.p.order c.grid_of-g.result a.«data».now a.y 0 c.first_words-nine.ensures refl)

-- a column of the loop is one of the row, and its block one of the grid
column : (k : In_ok-check) {x : ℕ} → x < length (take k.args.p.width k.args.row.now) → x < k.args.p.width
column k h = let n : length (take k.args.p.width k.args.row.now) ≡ k.args.p.width = whole k in omega arith

block : (k : In_ok-check) {g : Grid} {x : ℕ} → g ≡ grid_of k.args.p → x < length (take k.args.p.width k.args.row.now)
    → InGrid g (x / block_width g.is2bpp) (k.args.y / 4)
block k {x = x} e h =
    let a = k.args in
    let ok = ok_of k in
    block-as ok e x a.y (column k h) (row_inside a.p a.y (length a.row.now) ok.inside)

pub next_words-next-requires : goal.next_words-next-requires
next_words-next-requires c =
    let k = (goal.at.next_words-next-requires c).In_ok-check in
    let grid = c.grid_of-g.ensures in
    (rw c.block_width-width.ensures (block k grid c.loop-x-test.true), omega arith)

pub texels_in-requires : goal.texels_in-requires
texels_in-requires c =
    let a = c.args in
    let g = c.grid_of-g.result in
    let d = a.«data».now in
    let inv = c.loop-x.invariant.1 in
    let inside = (block (goal.at.texels_in-requires c).In_ok-check c.grid_of-g.ensures c.loop-x-test.true).across in
    let width = c.block_width-width.ensures in
    let starts = sym (ap (λ (w : ℕ). c.loop-x.x % w) width) ∙ c.if-x-width-eq0.true in
    let words = slides a.p.order g d a.y c.loop-x.x inside starts inv (ap (λ (w : ℕ). c.loop-x.x / w) width) c.next_words-next.ensures in
    (omega arith, omega arith, slides-read a.p.order g d a.y c.loop-x.x words, rw width (omega (arith, inv.long, half_high g.is2bpp)))

-- once the words have slid where a block begins
held : (c : Joined-x-width-eq0) → let a = c.args in let g = c.grid_of-g.result in
    c.loop-x.x / block_width g.is2bpp < g.across → Held a.p.order g a.«data».now a.y c.loop-x.x c.if-x-width-eq0.nine c.if-x-width-eq0.texels
held c inside =
    let a = c.args in
    let l = c.loop-x in
    let g = c.grid_of-g.result in
    let d = a.«data».now in
    let width = c.block_width-width.ensures in
    let place = ap (λ (w : ℕ). l.x % w) width in
    let block = ap (λ (w : ℕ). l.x / w) width in
    elim c.if-x-width-eq0.branch [
      | then-x-width-eq0 t ↦
          let words = t.nine-is ∙ t.next_words-next.ensures in
          let texels =
          t.texels-is ∙ t.texels_in.ensures
          ∙ ap₂ (λ n (w : ℕ). with_texels a.p.order g.is2bpp n 0 (a.y % 4) w l.texels) (sym t.nine-is) width in
          held_first a.p.order g d a.y l.x inside (sym place ∙ t.if-x-width-eq0.true) l.invariant.1 block words texels
      | else-x-width-eq0 e ↦
          rw (e.nine-is, e.texels-is) (held-later a.p.order g d a.y l.x (λ z. e.if-x-width-eq0.false (place ∙ z)) l.invariant.1)
    ]

pub known_texel-requires : goal.known_texel-requires
known_texel-requires c =
    let at = goal.at.known_texel-requires c in
    held-picture c.args.p c.args.«data».now c.args.y c.loop-x.x c.grid_of-g.ensures
    (held at.Joined-x-width-eq0 (block at.In_ok-check c.grid_of-g.ensures c.loop-x-test.true).across)

-- no texel of the row is refused: the branch is not reached
pub returns-in_default : goal.returns-in_default
returns-in_default c =
    let a = c.args in
    let k = (goal.at.returns-in_default c).In_ok-check in
    absurd
    (not-refused a.p a.«data».now c.loop-x.x a.y (length a.row.now) (ok_of k) (column k c.loop-x-test.true)
    c.known_texel.ensures c.in_default.is)

pub loop-x-preserved : goal.loop-x-preserved
loop-x-preserved c =
    let at = goal.at.loop-x-preserved c in
    let k = at.In_ok-check in
    let a = c.args in
    let d = a.«data».now in
    let its = its-word a.p d c.loop-x.x a.y (length a.row.now) (ok_of k) (column k c.loop-x-test.true) c.known_texel.ensures c.in-Ok.is in
    let slid = held at.Joined-x-width-eq0 (block k c.grid_of-g.ensures c.loop-x-test.true).across in
    (filled_more c.loop-x.invariant.0 its c.loop-x-test.true, held_next a.p.order c.grid_of-g.result d a.y c.loop-x.x slid)

pub returns : goal.returns
returns c =
    let a = c.args in
    let l = c.loop-x in
    let k = (goal.at.returns c).In_ok-check in
    let all : length (take a.p.width a.row.now) ≡ a.p.width = whole k in
    by-words (sym c.in_ok-check.ensures)
    (row-laid (λ x _. picture_texel a.p a.«data».now x a.y) a.p.width a.row.now (roomy k) (filled-end a.p.width l.invariant.0 (omega arith) all))
