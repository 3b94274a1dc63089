-- `lanes::colors::lane_b` meets its contract, both where the colour is opaque and where it is not. Assumes nothing.
use Rattle.std.proofs.Common.{◌≡◌, ℕ, ◌+◌, ◌*◌, ◌/◌, ◌%◌, cond, ap, ◌∙◌, ap₂, arith}
use Rattle.word.specs.Word.{opaque, color_of}
use Rattle.lanes.specs.Lanes.{color_lanes}
use Rattle.lanes.proofs.Fields.{color-lanes, opaque-b, clear-b}
use Rattle.lanes.proofs.colors.lane_b.Goals as goal

pub returns : goal.returns
returns c =
    let a = c.args in
    let k = a.c in
    let fields = c.pick.ensures ∙ ap₂ (cond (opaque k)) (opaque-b k) (clear-b k c.widen-y.ensures.0) in
    let e : k ≡ k / 1 = omega arith in
    color-lanes a.order k (k % 32) (k % 16 * 2 + k / 8 % 2) (omega arith) (omega arith) fields c.pick-2.ensures c.in_lanes.ensures
    ∙ ap (λ (n : ℕ). color_lanes a.order (color_of k (cond (opaque k) (n % 32) (n % 16 * 2 + k / 8 % 2)))) e
