-- A promise that is an equation leaves one outcome. Assumes nothing.
use Rattle.std.proofs.Common.{◌≡◌, sym, ◌∙◌}

-- two answers that both equal one definition are one answer
pub one_answer : {A : Type 0} {r s d : A} → r ≡ d → s ≡ d → r ≡ s
one_answer p q = p ∙ sym q
