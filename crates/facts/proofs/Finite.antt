-- What a computed test shows: its fact, at each number below a bound and at each entry of a list.
-- Assumes nothing.
use Rattle.std.proofs.Common.{sym, subst, ◌∙◌, Bool, true, false, ◌&&◌, List, [], ◌∷◌, ⊎_elim, ℕ, zero, suc, ◌+◌, ◌<◌, add-zero, zero-add, add-suc, suc-add}
use Rattle.std.proofs.Common.{le_of_suc-le-suc, not-suc-le-zero, eq-or-lt_of_le, T, length, get_or}
use Rattle.facts.specs.Finite.{all_below, every}

pub and_left : (a b : Bool) → T (a && b) → T a
and_left true b t = tt
and_left false b t = t

pub and_right : (a b : Bool) → T (a && b) → T b
and_right true b t = t
and_right false b t = absurd t

-- a test that passes at each number below n passes at k
pub below : (f : ℕ → Bool) (n : ℕ) → T (all_below f n) → (k : ℕ) → k < n → T (f k)
below f zero t k h = absurd (not-suc-le-zero h)
below f (suc n) t k h =
    ⊎_elim
    (λ e. subst (λ (m : ℕ). T (f m)) (sym e) (and_left (f n) (all_below f n) t))
    (λ lt. below f n (and_right (f n) (all_below f n) t) k lt)
    (eq-or-lt_of_le (le_of_suc-le-suc h))

-- the same for two numbers
pub below₂ : (f : ℕ → ℕ → Bool) (m n : ℕ) → T (all_below (λ i. all_below (f i) n) m) → (i j : ℕ) → i < m → j < n → T (f i j)
below₂ f m n t i j hi hj = below (f i) n (below (λ i. all_below (f i) n) m t i hi) j hj

module _ {A : Type 0} where
  from : (f : ℕ → A → Bool) (l : List A) (z : A) (i : ℕ) → T (every f i l) → (k : ℕ) → k < length l → T (f (i + k) (get_or l k z))
  from f [] z i t k h = absurd (not-suc-le-zero h)
  from f (a ∷ l) z i t zero h = subst (λ (m : ℕ). T (f m a)) (sym (add-zero i)) (and_left (f i a) (every f (suc i) l) t)
  from f (a ∷ l) z i t (suc k) h =
      subst (λ (m : ℕ). T (f m (get_or l k z))) (suc-add i k ∙ sym (add-suc i k))
      (from f l z (suc i) (and_right (f i a) (every f (suc i) l) t) k (le_of_suc-le-suc h))

  -- a table's rule: a test that passes at each entry passes at entry k
  pub at : (f : ℕ → A → Bool) (l : List A) (z : A) → T (every f 0 l) → (k : ℕ) → k < length l → T (f k (get_or l k z))
  at f l z t k h = subst (λ (m : ℕ). T (f m (get_or l k z))) (zero-add k) (from f l z 0 t k h)
