-- `grid::table::morton_index_by_table` meets its contract: `Spreading` has that this form is the address, which bounds every part.
-- Assumes nothing.
use Rattle.std.proofs.Common.{arith}
use Rattle.grid.proofs.Address.{address-small}
use Rattle.grid.proofs.Spreading.{by-table}
use Rattle.grid.proofs.table.morton_index_by_table.Goals as goal

pub overflow_mul-result-2 : goal.overflow_mul-result-2
overflow_mul-result-2 c =
    let a = c.args in
    let p = c.requires in
    omega (arith, by-table a.min_dim a.x a.y p, address-small a.min_dim a.x a.y p)

pub overflow_add-result-2 : goal.overflow_add-result-2
overflow_add-result-2 c =
    let a = c.args in
    let p = c.requires in
    omega (arith, by-table a.min_dim a.x a.y p, address-small a.min_dim a.x a.y p)

pub overflow_add-result-3 : goal.overflow_add-result-3
overflow_add-result-3 c =
    let a = c.args in
    let p = c.requires in
    omega (arith, by-table a.min_dim a.x a.y p, address-small a.min_dim a.x a.y p)

pub returns : goal.returns
returns c =
    let a = c.args in
    omega (arith, by-table a.min_dim a.x a.y c.requires)
