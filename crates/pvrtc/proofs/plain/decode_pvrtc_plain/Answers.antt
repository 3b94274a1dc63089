-- `pvrtc::plain::decode_pvrtc_plain` meets its contract. The loop keeps that the first rows of blocks are laid. Assumes nothing.
use Rattle.std.proofs.Common.{sym, arith}
use Rattle.pvrtc.proofs.InPicture.{Going, none-laid, row-asked, row-ready, row_laid}
use Rattle.pvrtc.proofs.plain.decode_pvrtc_plain.Goals as goal
use Rattle.pvrtc.proofs.plain.decode_pvrtc_plain.Goals.{After-num_blocks_y-by-end}

going : (c : After-num_blocks_y-by-end) → let a = c.args in
    Going a.p a.«data».now a.image.now c.grid_of-g.result c.sheet_of-s.result c.num_blocks_y-by-end.result
going c =
    record {
      told = sym c.in_ok-check.ensures;
      grid = c.grid_of-g.ensures;
      sheet = c.sheet_of-s.ensures;
      rows = c.num_blocks_y-by-end.ensures;
    }

pub loop-by-init : goal.loop-by-init
loop-by-init c = (omega arith, none-laid (going (goal.at.loop-by-init c).After-num_blocks_y-by-end))

pub rows_from-requires : goal.rows_from-requires
rows_from-requires c = row-asked (going (goal.at.rows_from-requires c).After-num_blocks_y-by-end) c.loop-by.by c.loop-by-test.true (omega arith)

pub decode_block_row-requires : goal.decode_block_row-requires
decode_block_row-requires c =
    let l = c.loop-by in
    row-ready (going (goal.at.decode_block_row-requires c).After-num_blocks_y-by-end) l.by c.loop-by-test.true c.rows_from.ensures l.invariant.1.len

pub loop-by-preserved : goal.loop-by-preserved
loop-by-preserved c =
    let l = c.loop-by in
    let row = c.rows_from.ensures in (
      omega (arith, c.loop-by-test.true),
      row_laid (going (goal.at.loop-by-preserved c).After-num_blocks_y-by-end) l.by c.loop-by-test.true row l.invariant.1 c.decode_block_row.ensures,
    )
