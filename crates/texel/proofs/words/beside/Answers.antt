-- `texel::words::beside` meets its contract, neighbour by neighbour. Assumes nothing.
use Rattle.std.proofs.Common.{◌≡◌, sym, ap, ◌∙◌, arith}
use Rattle.grid.proofs.Powers.{power-above}
use Rattle.grid.proofs.Torus.{beside-below, beside-own}
use Rattle.grid.specs.Grid.{beside}
use Rattle.texel.proofs.words.beside.Goals as goal

pub returns-in-0 : goal.returns-in-0
returns-in-0 c =
    let a = c.args in
    let none : 0 ≡ a.k = omega arith in
    let e = c.previous_block.ensures ∙ ap (beside a.side a.c) none in
    (e, rw e (beside-below a.side a.c a.k (power-above a.side c.requires.0)))

pub returns-in-1 : goal.returns-in-1
returns-in-1 c =
    let a = c.args in
    let one : 1 ≡ a.k = omega arith in
    (sym (beside-own a.side a.c c.requires.1) ∙ ap (beside a.side a.c) one, c.requires.1)

pub returns-in_default : goal.returns-in_default
returns-in_default c =
    let a = c.args in
    let last : 2 ≡ a.k = omega arith in
    let e = c.next_block.ensures ∙ ap (beside a.side a.c) last in
    (e, rw e (beside-below a.side a.c a.k (power-above a.side c.requires.0)))
