-- Laws of drawn bytes and words: a step more, and no two outcomes. Assumes nothing.
use Rattle.std.proofs.Common.{◌≡◌, ℕ, ◌+◌, ◌/◌, ◌%◌, ◌<◌, ◌≤◌, cond, eqb, List, length, sym, refl, ap, ◌∙◌, ⊎_elim, add-one, arith, eq-eqb, ne_eqb}
use Rattle.facts.proofs.Numbers.{lt-or-le}
use Rattle.facts.proofs.Tab.{Filled, filled-end}
use Rattle.samples.specs.Draw.{stepped, state_after, Drawn}

-- the state after one step more
pub step-more : (state n : ℕ) {s : ℕ} → s ≡ state_after state n → stepped s ≡ state_after state (n + 1)
unfolding state_after
step-more state n e = ap stepped e ∙ ap (state_after state) (sym (add-one n))

-- the state that byte i is taken from: for every second byte a step more
pub step-to-byte : (state i : ℕ) {s : ℕ} → s ≡ state_after state ((i + 1) / 2) → cond (eqb (i % 2) 0) (stepped s) s ≡ state_after state (i / 2 + 1)
step-to-byte state i e =
    ⊎_elim
    (λ (even : i % 2 < 1). rw (eq-eqb (i % 2) 0 (omega arith)) (step-more state (i / 2) (e ∙ ap (state_after state) (omega arith))))
    (λ (odd : 1 ≤ i % 2). rw (ne_eqb (i % 2) 0 (λ z. omega arith)) (e ∙ ap (state_after state) (omega arith)))
    (lt-or-le (i % 2) 1)

-- a loop that drew them all
pub drawn-end : {drawn : ℕ → ℕ → ℕ} {state n m steps r : ℕ} {old new : List ℕ} → Filled (drawn state) old n new → n ≡ length old
    → r ≡ state_after state m → m ≡ steps → Drawn drawn state steps old new r
drawn-end {state = state} filled all reached e =
    record { numbers = filled-end _ filled all refl; answer = reached ∙ ap (state_after state) e }

-- no two outcomes: the numbers and the state afterwards are determined
pub one-drawn : {drawn : ℕ → ℕ → ℕ} {state steps : ℕ} {old new new' : List ℕ} {r r' : ℕ} → Drawn drawn state steps old new r
    → Drawn drawn state steps old new' r' → (new ≡ new') × (r ≡ r')
one-drawn p q = (p.numbers ∙ sym q.numbers, p.answer ∙ sym q.answer)
