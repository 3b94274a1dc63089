-- What is gathered into an ascending list: each of its numbers, once. Assumes nothing.
use Rattle.std.proofs.Common.{◌≡◌, ℕ, zero, suc, ◌+◌, ◌<◌, ◌≤◌, eqb, ltb, ◌⊎◌, List, [], ◌∷◌, length, ap, ◌∙◌, subst, inl, inr, ⊎_elim, le_of_suc-le-suc}
use Rattle.std.proofs.Common.{not-suc-le-zero, eq-or-lt_of_le, arith, ltb-false, ltb-true, lt-ltb, eqb-true}
use mathlib.Core.List.Memᴰ
use mathlib.Core.List.{Memᴰ}
use borrow.Author.Tests.{eqb-false}
use Rattle.facts.specs.Sum.{sum}
use Rattle.facts.proofs.Lists.{choice}
use Rattle.demands.specs.Footprint.{insert, gathered, Rising}

-- a list with a number put in: that number and the others
insert-in : (z a : ℕ) (l : List ℕ) → (z ≡ a) ⊎ Memᴰ z l → Memᴰ z (insert a l)
unfolding insert
insert-in z a [] m = ⊎_elim Memᴰ.head (λ n. absurd (Memᴰ.not-nil n)) m
insert-in z a (b ∷ l) m =
    choice (Memᴰ z) (ltb a b) (λ _. ⊎_elim Memᴰ.head Memᴰ.tail m) (λ _.
    choice (Memᴰ z) (eqb a b) (λ e. ⊎_elim (λ f. Memᴰ.head (f ∙ eqb-true a b e)) (λ n. n) m) (λ _.
    ⊎_elim (λ f. Memᴰ.tail (insert-in z a l (inl f))) (λ n.
    ⊎_elim Memᴰ.head (λ r. Memᴰ.tail (insert-in z a l (inr r))) (Memᴰ.cases_cons n)) m))

insert-out : (z a : ℕ) (l : List ℕ) → Memᴰ z (insert a l) → (z ≡ a) ⊎ Memᴰ z l
unfolding insert
insert-out z a [] = Memᴰ.cases_cons
insert-out z a (b ∷ l) =
    choice (λ k. Memᴰ z k → (z ≡ a) ⊎ Memᴰ z (b ∷ l)) (ltb a b) (λ _. Memᴰ.cases_cons) (λ _.
    choice (λ k. Memᴰ z k → (z ≡ a) ⊎ Memᴰ z (b ∷ l)) (eqb a b) (λ _ m. inr m) (λ _ m.
    ⊎_elim (λ f. inr (Memᴰ.head f)) (λ r.
    ⊎_elim inl (λ n. inr (Memᴰ.tail n)) (insert-out z a l r)) (Memᴰ.cases_cons m)))

insert-rising : (a : ℕ) (l : List ℕ) → Rising l → Rising (insert a l)
unfolding insert
insert-rising a [] r = (λ b m. absurd (Memᴰ.not-nil m), tt)
insert-rising a (b ∷ l) r =
    choice Rising (ltb a b)
    (λ less.
    let lt : a < b = ltb-true a b less in
    (λ c m. ⊎_elim (λ e. omega arith) (λ n. omega (arith, r.0 c n)) (Memᴰ.cases_cons m), r))
    (λ more. choice Rising (eqb a b) (λ _. r) (λ other.
    let le : b ≤ a = ltb-false a b more in
    let ne : a ≡ b → ⊥ = eqb-false a b other in
    (λ c m. ⊎_elim (λ e. omega arith) (r.0 c) (insert-out c a l m), insert-rising a l r.1)))

insert-size : (a : ℕ) (l : List ℕ) → length (insert a l) ≤ suc (length l)
unfolding insert
insert-size a [] = omega arith
insert-size a (b ∷ l) =
    let more = insert-size a l in
    choice (λ k. length k ≤ suc (suc (length l))) (ltb a b) {a = a ∷ b ∷ l} (λ _. omega arith) (λ _.
    choice (λ k. length k ≤ suc (suc (length l))) (eqb a b) {a = b ∷ l} {b = b ∷ insert a l} (λ _. omega arith) (λ _. omega arith))

-- a gathered number
pub record Kept (s f : ℕ → ℕ) (n z : ℕ) : Type 0 where
  pub k : ℕ
  pub below : k < n
  pub above : 0 < s k
  pub is : z ≡ f k

module _ (s f : ℕ → ℕ) where
  pub gathered-in : (n z : ℕ) → Kept s f n z → Memᴰ z (gathered s f n)
  unfolding gathered
  gathered-in zero z k = absurd (not-suc-le-zero k.below)
  gathered-in (suc n) z k =
      ⊎_elim
      (λ e. rw (lt-ltb 0 (s n) (subst (λ (m : ℕ). 0 < s m) e k.above)) (insert-in z (f n) (gathered s f n) (inl (k.is ∙ ap f e))))
      (λ l.
      let m = gathered-in n z (record { k = k.k; below = l; above = k.above; is = k.is }) in
      choice (Memᴰ z) (ltb 0 (s n)) (λ _. insert-in z (f n) (gathered s f n) (inr m)) (λ _. m))
      (eq-or-lt_of_le (le_of_suc-le-suc k.below))

  pub gathered-out : (n z : ℕ) → Memᴰ z (gathered s f n) → Kept s f n z
  unfolding gathered
  gathered-out zero z = λ m. absurd (Memᴰ.not-nil m)
  gathered-out (suc n) z =
      choice (λ l. Memᴰ z l → Kept s f (suc n) z) (ltb 0 (s n))
      (λ e m. ⊎_elim
      (λ i. record { k = n; below = omega arith; above = ltb-true 0 (s n) e; is = i })
      (λ r. more (gathered-out n z r))
      (insert-out z (f n) (gathered s f n) m))
      (λ _ m. more (gathered-out n z m))
    where
      more : Kept s f n z → Kept s f (suc n) z
      more k = record { k = k.k; below = omega arith; above = k.above; is = k.is }

  pub gathered-rising : (n : ℕ) → Rising (gathered s f n)
  unfolding gathered
  gathered-rising zero = tt
  gathered-rising (suc n) =
      let r = gathered-rising n in
      choice Rising (ltb 0 (s n)) (λ _. insert-rising (f n) (gathered s f n) r) (λ _. r)

  -- no more than a count c of the k whose s k is above 0
  pub gathered-size : (c : ℕ → ℕ) → ((k : ℕ) → 0 < s k → 1 ≤ c k) → (n : ℕ) → length (gathered s f n) ≤ sum c n
  unfolding gathered sum
  gathered-size c counts zero = omega arith
  gathered-size c counts (suc n) =
      let r = gathered-size c counts n in
      choice (λ l. length l ≤ sum c n + c n) (ltb 0 (s n)) {a = insert (f n) (gathered s f n)} {b = gathered s f n}
      (λ e. omega (arith, insert-size (f n) (gathered s f n), counts n (ltb-true 0 (s n) e))) (λ _. omega arith)
