-- A number is said exactly when its condition holds and no earlier one does. Assumes nothing.
use Rattle.std.proofs.Common.{◌≡◌, refl, sym, ◌∙◌, Bool, true, false, cond, ◌&&◌, List, [], ◌∷◌, ◌++◌, ◌↔◌, ℕ, zero, suc, ◌<◌, le_of_suc-le-suc}
use Rattle.std.proofs.Common.{not-suc-le-zero, arith, T, eqb, ltb, ltb→lt, length, ne_eqb, eqb-true}
use borrow.Author.Tests.{eqb-false}
use Rattle.facts.specs.Checks.{Check, first_of, numbered, condition, at, Given}
use Rattle.facts.proofs.Finite.{and_left, and_right}

-- a check that does not hold stands before the place
later : (c : Check) (l : List Check) (n : ℕ) → c.holds ≡ false → Given l n → Given (c ∷ l) n
later c l n e g =
    record {
      place = suc g.place;
      within = omega (arith, g.within);
      number = g.number;
      holds = g.holds;
      none-earlier = none;
    }
  where
    none : (k : ℕ) → k < suc g.place → (at (c ∷ l) k).holds ≡ false
    none zero h = e
    none (suc k) h = g.none-earlier k (le_of_suc-le-suc h)

only_then : (l : List Check) (n : ℕ) → 0 < n → first_of l ≡ n → Given l n
unfolding first_of
only_then [] n p e = absurd (omega arith)
only_then (c ∷ l) n p e = by c.holds refl e (only_then l n p)
  where
    by : (t : Bool) → c.holds ≡ t → cond t c.number (first_of l) ≡ n → (first_of l ≡ n → Given l n) → Given (c ∷ l) n
    by true h q rest =
        record { place = 0; within = omega arith; number = q; holds = h; none-earlier = λ k m. absurd (not-suc-le-zero m) }
    by false h q rest = later c l n h (rest q)

then_at : (l : List Check) (n k : ℕ) → k < length l → (at l k).number ≡ n → (at l k).holds ≡ true → ((j : ℕ) → j < k → (at l j).holds ≡ false) → first_of l ≡ n
unfolding first_of
then_at [] n k w e h none = absurd (not-suc-le-zero w)
then_at (c ∷ l) n zero w e h none = rw h e
then_at (c ∷ l) n (suc k) w e h none =
    rw (none 0 (omega arith)) (then_at l n k (le_of_suc-le-suc w) e h (λ j m. none (suc j) (omega arith)))

-- for any list of checks, in any order
pub exactly-when : (l : List Check) (n : ℕ) → 0 < n → (first_of l ≡ n) ↔ Given l n
exactly-when l n p = (only_then l n p, λ g. then_at l n g.place g.within g.number g.holds g.none-earlier)

-- the first number of a list, and those after it
number-above : (c : Check) (l : List Check) → T (numbered (c ∷ l)) → 0 < c.number
number-above c l e = ltb→lt 0 c.number (and_left (ltb 0 c.number) (numbered l) e)

later-numbered : (c : Check) (l : List Check) → T (numbered (c ∷ l)) → T (numbered l)
later-numbered c l e = and_right (ltb 0 c.number) (numbered l) e

-- where no number is said, the condition of no number holds
pub none_said : (l : List Check) → T (numbered l) → first_of l ≡ 0 → (n : ℕ) → condition l n ≡ false
unfolding first_of
none_said [] p e n = refl
none_said (c ∷ l) p e n = by c.holds refl e (λ q. none_said l (later-numbered c l p) q n)
  where
    either : (t : Bool) {r : Bool} → r ≡ false → cond t false r ≡ false
    either true e = refl
    either false e = e

    by : (t : Bool) → c.holds ≡ t → cond t c.number (first_of l) ≡ 0 → ((first_of l ≡ 0) → condition l n ≡ false) → condition (c ∷ l) n ≡ false
    by true h q rest = absurd (omega (arith, number-above c l p))
    by false h q rest = rw h (either (eqb c.number n) (rest q))

-- of two lists, one after the other, the second speaks where the first says nothing
pub first-append : (l m : List Check) → T (numbered l) → first_of (l ++ m) ≡ cond (eqb (first_of l) 0) (first_of m) (first_of l)
unfolding first_of
first-append [] m p = refl
first-append (c ∷ l) m p = by c.holds (first-append l m (later-numbered c l p))
  where
    by : (t : Bool) → first_of (l ++ m) ≡ cond (eqb (first_of l) 0) (first_of m) (first_of l)
        → cond t c.number (first_of (l ++ m)) ≡ cond (eqb (cond t c.number (first_of l)) 0) (first_of m) (cond t c.number (first_of l))
    by true e = rw (ne_eqb c.number 0 (omega (arith, number-above c l p)))
    by false e = e

-- so a number that the first says is said, and where it says none, what the second says
pub said-first : (l m : List Check) {n : ℕ} → T (numbered l) → n ≡ first_of l → 0 < n → n ≡ first_of (l ++ m)
said-first l m {n} p e h =
    let other : eqb (first_of l) 0 ≡ false = ne_eqb (first_of l) 0 (λ q. omega arith) in
    e ∙ sym (first-append l m p ∙ rw other)

pub said-later : (l m : List Check) {n : ℕ} → T (numbered l) → 0 ≡ first_of l → n ≡ first_of m → n ≡ first_of (l ++ m)
said-later l m p z e = e ∙ sym (first-append l m p ∙ rw (sym z))

-- of two numbers, the first or else the second, neither is said where the choice is 0
pub both-none : (a b : ℕ) → cond (eqb a 0) b a ≡ 0 → (a ≡ 0) × (b ≡ 0)
both-none a b e = by (eqb a 0) refl e
  where
    by : (t : Bool) → eqb a 0 ≡ t → cond t b a ≡ 0 → (a ≡ 0) × (b ≡ 0)
    by true q z = (eqb-true a 0 q, z)
    by false q z = absurd (eqb-false a 0 q z)

-- and so of two lists: where no number is said, neither says one
pub neither-said : (l m : List Check) → T (numbered l) → first_of (l ++ m) ≡ 0 → (first_of l ≡ 0) × (first_of m ≡ 0)
neither-said l m p e = both-none (first_of l) (first_of m) (sym (first-append l m p) ∙ e)

-- two lists of numbers above 0 make one
pub numbered-append : (l m : List Check) → T (numbered l) → T (numbered m) → T (numbered (l ++ m))
numbered-append [] m p q = q
numbered-append (c ∷ l) m p q =
    both (ltb 0 c.number) (numbered (l ++ m)) (and_left (ltb 0 c.number) (numbered l) p) (numbered-append l m (later-numbered c l p) q)
  where
    both : (a b : Bool) → T a → T b → T (a && b)
    both true b s t = t
    both false b s t = s
