-- `levels::reader::describe` meets its contract: the levels, then the size word. Assumes nothing.
use Rattle.std.proofs.Common.{ap, arith}
use Rattle.facts.proofs.Said.{at_exit}
use Rattle.levels.specs.declared.Level.{Level}
use Rattle.levels.proofs.Whole.{word-before, by-levels, walks, few, unsized, by_word, past_word}
use Rattle.levels.proofs.reader.describe.Goals as goal

pub returns-in_err-check_levels : goal.returns-in_err-check_levels
returns-in_err-check_levels c =
    let a = c.args in
    rw (at_exit c.from_residual.ensures) (by-levels a.file.now a.l a.k c.in_err-check_levels.ensures)

pub level_at-level-requires : goal.level_at-level-requires
level_at-level-requires c =
    let a = c.args in
    let says = c.in_ok-check_levels.ensures in
    (walks a.file.now a.l a.k says c.requires, few a.file.now a.l a.k says c.requires)

pub check_size_word-requires : goal.check_size_word-requires
check_size_word-requires c =
    let a = c.args in
    omega (arith, ap (λ (m : Level). m.start) c.level_at-level.ensures, word-before a.file.now a.l a.k c.if-l.true)

pub returns-in_err-check_size_word : goal.returns-in_err-check_size_word
returns-in_err-check_size_word c =
    let a = c.args in
    rw (at_exit c.from_residual-in_err-check_size_word.ensures)
    (by_word a.file.now a.l a.k c.in_ok-check_levels.ensures c.level_at-level.ensures c.if-l.true c.in_err-check_size_word.ensures)

pub returns-in_ok-check_size_word : goal.returns-in_ok-check_size_word
returns-in_ok-check_size_word c =
    let a = c.args in
    past_word a.file.now a.l a.k c.in_ok-check_levels.ensures c.level_at-level.ensures c.if-l.true c.in_ok-check_size_word.ensures

pub returns-else-l : goal.returns-else-l
returns-else-l c =
    let a = c.args in
    unsized a.file.now a.l a.k c.in_ok-check_levels.ensures c.level_at-level.ensures c.if-l.false
