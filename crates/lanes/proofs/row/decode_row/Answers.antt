-- `lanes::row::decode_row` meets its contract. The loop keeps the window before block bx and the blocks laid so far. Assumes nothing.
use Rattle.std.proofs.Common.{ℕ, refl, arith}
use Rattle.paint.proofs.Sheets.{no_blocks}
use Rattle.lanes.specs.Block.{in_block}
use Rattle.lanes.proofs.Placing.{first-column, last-column, row-at, asked, starts, width_is}
use Rattle.lanes.proofs.Sliding.{slide, block-seen, said-is, nine_about, middle, texels, row_texel, part-fits, block-laid}
use Rattle.lanes.proofs.row.decode_row.Goals as goal

pub block_at-left-requires : goal.block_at-left-requires
block_at-left-requires g c =
    let p = c.requires.0 in
    let asks = asked (row-at p c.row_addresses-addresses.ensures) 0 0 (last-column p.words) in record { placed = asks.0; in_data = asks.1 }

pub block_at-own-requires : goal.block_at-own-requires
block_at-own-requires g c =
    let p = c.requires.0 in
    let asks = asked (row-at p c.row_addresses-addresses.ensures) 0 1 (first-column p.words) in record { placed = asks.0; in_data = asks.1 }

pub loop-bx-init : goal.loop-bx-init
loop-bx-init g c =
    let p = c.requires.0 in
    let a = c.args in
    let d = a.«data».now in
    let depth = g.M.Modulation in
    let r = row-at p c.row_addresses-addresses.ensures in (
      omega arith,
      record {
        left = block-seen depth.stored depth.Good a.order d r 0 0 (last-column p.words) c.block_at-left.ensures.is c.block_at-left.ensures.good;
        own = block-seen depth.stored depth.Good a.order d r 0 1 (first-column p.words) c.block_at-own.ensures.is c.block_at-own.ensures.good;
      },
      no_blocks a.row _ (row_texel a.order a.g a.by d) a.image.now,
    )

pub block_at-right-requires : goal.block_at-right-requires
block_at-right-requires g c =
    let asks = asked (row-at c.requires.0 c.row_addresses-addresses.ensures) c.loop-bx.bx 2 c.next_column-next.ensures in
    record { placed = asks.0; in_data = asks.1 }

pub fill-said-requires : goal.fill-said-requires
fill-said-requires g c =
    let window = c.loop-bx.invariant.1 in (window.left.good, window.own.good, c.block_at-right.ensures.good.1, window.own.there)

pub lay_block-requires-clause-fits : goal.lay_block-requires-clause-fits
lay_block-requires-clause-fits g c =
    let p = c.requires in
    let starts = starts c.args.g.is2bpp (width_is c.HALF-width.ensures g.met.M.Modulation.half_is p.1) c.num_blocks_x-bx-end.ensures c.loop-bx-test.true in
    let part = part-fits p.0 _ c.loop-bx.bx starts c.columns_from-sheet.ensures in
    (rw c.loop-bx.invariant.2.len part.0, rw c.HALF-width.ensures at part.1, part.2)

pub loop-bx-preserved : goal.loop-bx-preserved
loop-bx-preserved g c =
    let p = c.requires in
    let a = c.args in
    let d = a.«data».now in
    let bx = c.loop-bx.bx in
    let depth = g.M.Modulation in
    let half = g.met.M.Modulation.half_is in
    let r = row-at p.0 c.row_addresses-addresses.ensures in
    let window = c.loop-bx.invariant.1 in
    let right = block-seen depth.stored depth.Good a.order d r bx 2 c.next_column-next.ensures c.block_at-right.ensures.is c.block_at-right.ensures.good in
    let said = c.fill-said.ensures (nine_about a.g a.by d bx) (said-is window.left) (said-is window.own) (said-is right) (middle window.own) in
    let starts = starts a.g.is2bpp (width_is c.HALF-width.ensures half p.1) c.num_blocks_x-bx-end.ensures c.loop-bx-test.true in
    let says = λ (y : ℕ). depth.says (depth.row_of c.fill-said.result y) in
    let block = in_block depth.HALF says c.loop-bx.left.column c.loop-bx.own.column c.block_at-right.result.column in
    let same = texels window right half (width_is c.HALF-width.ensures half refl) p.1 said in (
      omega (arith, c.loop-bx-test.true),
      slide window right,
      block-laid p.0 _ bx starts c.columns_from-sheet.ensures a.order d a.image.now block refl c.lay_block.ensures same c.loop-bx.invariant.2,
    )
