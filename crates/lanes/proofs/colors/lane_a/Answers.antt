-- `lanes::colors::lane_a` meets its contract, both where the colour is opaque and where it is not. Assumes nothing.
use Rattle.std.proofs.Common.{◌+◌, ◌*◌, ◌/◌, ◌%◌, cond, ◌∙◌, ap₂, arith}
use Rattle.word.specs.Word.{opaque}
use Rattle.lanes.proofs.Fields.{color-lanes, opaque-a, clear-a}
use Rattle.lanes.proofs.colors.lane_a.Goals as goal

pub returns : goal.returns
returns c =
    let a = c.args in
    let k = a.c in
    let x = k / 2 % 16 * 2 + k / 16 % 2 in
    let y = k / 2 % 8 * 4 + k / 4 % 4 in
    let fields = c.pick.ensures ∙ ap₂ (cond (opaque k)) (opaque-a k) (clear-a k y c.widen.ensures.0) in
    color-lanes a.order k x y (omega arith) (omega arith) fields c.pick-2.ensures c.in_lanes.ensures
