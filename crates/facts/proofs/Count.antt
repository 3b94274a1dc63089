-- A count against a list without repetition: at most as many pass as a list has that names all of them, and at least as many as one has
-- that names no other. Assumes nothing.
use Rattle.std.proofs.Common.{◌≡◌, refl, sym, ap, ◌∙◌, Bool, true, false, cond, not, ◌&&◌, ⊎_elim, ℕ, zero, suc, ◌+◌, ◌≤◌, ◌<◌, not-suc-le-zero}
use Rattle.std.proofs.Common.{le_of_suc-le-suc, eq-or-lt_of_le, arith, eqb, eqb-true, eq-eqb, ne_eqb}
use mathlib.Core.Bool.{false≢true}
use borrow.Author.Tests.{eqb-false}
use Rattle.facts.specs.Count.{count}
use Rattle.facts.proofs.Lists.{Value}
use Rattle.facts.proofs.Numbers.{lt-or-le}

-- the test f, which the number a no longer passes
abbrev without : ℕ → (ℕ → Bool) → ℕ → Bool
without a f k = not (eqb k a) && f k

-- tests that agree below n pass as many
pub count_same : (f g : ℕ → Bool) (n : ℕ) → ((k : ℕ) → k < n → f k ≡ g k) → count f n ≡ count g n
unfolding count
count_same f g zero e = refl
count_same f g (suc n) e = rw (count_same f g n (λ k h. e k (omega arith)), e n (omega arith))

-- a test that passes wherever another does passes no fewer
pub count-le : (f g : ℕ → Bool) (n : ℕ) → ((k : ℕ) → k < n → f k ≡ true → g k ≡ true) → count f n ≤ count g n
unfolding count
count-le f g zero e = omega arith
count-le f g (suc n) e = by (f n) refl (count-le f g n (λ k h. e k (omega arith)))
  where
    by : (t : Bool) → f n ≡ t → count f n ≤ count g n → count f n + cond t 1 0 ≤ count g n + cond (g n) 1 0
    by true q l = rw (e n (omega arith) q) (omega arith)
    by false q l = omega arith

-- a number at or past n is none of those below it
without-later : (f : ℕ → Bool) (n a : ℕ) → n ≤ a → count (without a f) n ≡ count f n
without-later f n a h = count_same (without a f) f n (λ k l. rw (ne_eqb k a (λ e. omega arith)) refl)

-- one that passes counts once
without-one : (f : ℕ → Bool) (n a : ℕ) → a < n → f a ≡ true → count f n ≡ suc (count (without a f) n)
unfolding count
without-one f zero a h e = absurd (not-suc-le-zero h)
without-one f (suc n) a h e =
    ⊎_elim
    (λ last.
    let here : f n ≡ true = ap f (sym last) ∙ e in
    let same : count (without a f) n ≡ count f n = without-later f n a (omega arith) in
    rw (here, same, eq-eqb n a (sym last)) (omega arith))
    (λ less. rw (without-one f n a less e, ne_eqb n a (λ q. omega arith)) (omega arith))
    (eq-or-lt_of_le (le_of_suc-le-suc h))

-- so taking one away takes at most one
without-most : (f : ℕ → Bool) (n a : ℕ) → count f n ≤ suc (count (without a f) n)
without-most f n a =
    ⊎_elim
    (λ less. by less (f a) refl)
    (λ later. omega (arith, without-later f n a later))
    (lt-or-le a n)
  where
    same : f a ≡ false → (k : ℕ) → (t : Bool) → eqb k a ≡ t → without a f k ≡ f k
    same none k true e = rw (e, eqb-true k a e) (sym none)
    same none k false e = rw e refl

    by : a < n → (t : Bool) → f a ≡ t → count f n ≤ suc (count (without a f) n)
    by less true e = omega (arith, without-one f n a less e)
    by less false e = omega (arith, count_same (without a f) f n (λ k l. same e k (eqb k a) refl))

count_none : (f : ℕ → Bool) (n : ℕ) → ((k : ℕ) → k < n → f k ≡ false) → count f n ≡ 0
unfolding count
count_none f zero e = refl
count_none f (suc n) e = rw (count_none f n (λ k h. e k (omega arith)), e n (omega arith)) refl

-- what passes once a is taken away is not a, and passed before
passes-without : (a : ℕ) (f : ℕ → Bool) (k : ℕ) → without a f k ≡ true → (k ≡ a → ⊥) × (f k ≡ true)
passes-without a f k e = by (eqb k a) refl (f k) refl e
  where
    by : (s : Bool) → eqb k a ≡ s → (t : Bool) → f k ≡ t → (not s && t) ≡ true → (k ≡ a → ⊥) × (f k ≡ true)
    by true p t q r = absurd (false≢true r)
    by false p true q r = (eqb-false k a p, q)
    by false p false q r = absurd (false≢true r)

-- no more pass than g has first values, where each that passes is one of them
pub count-at-most : (m : ℕ) (g : ℕ → ℕ) (f : ℕ → Bool) (n : ℕ) → ((k : ℕ) → k < n → f k ≡ true → Value g m k) → count f n ≤ m
count-at-most zero g f n named = omega (arith, count_none f n (λ k l. none k l (f k) refl))
  where
    none : (k : ℕ) → k < n → (t : Bool) → f k ≡ t → f k ≡ false
    none k l true e = absurd (not-suc-le-zero (named k l e).below)
    none k l false e = e
count-at-most (suc m) g f n named =
    omega (arith, without-most f n (g m), count-at-most m g (without (g m) f) n earlier)
  where
    earlier : (k : ℕ) → k < n → without (g m) f k ≡ true → Value g m k
    earlier k l e =
        let p = passes-without (g m) f k e in
        let v = named k l p.1 in
        ⊎_elim
        (λ last. absurd (p.0 (v.is ∙ ap g last)))
        (λ less. record { k = v.k; below = less; is = v.is })
        (eq-or-lt_of_le (le_of_suc-le-suc v.below))

-- no fewer, where each of them passes and no two are the same
pub count-at-least : (m : ℕ) (g : ℕ → ℕ) (f : ℕ → Bool) (n : ℕ) → ((i : ℕ) → i < m → (g i < n) × (f (g i) ≡ true))
    → ((i j : ℕ) → i < j → j < m → g i ≡ g j → ⊥) → m ≤ count f n
count-at-least zero g f n passes apart = omega arith
count-at-least (suc m) g f n passes apart =
    omega (
      arith,
      without-one f n (g m) (passes m (omega arith)).0 (passes m (omega arith)).1,
      count-at-least m g (without (g m) f) n earlier (λ i j l h. apart i j l (omega arith)),
    )
  where
    earlier : (i : ℕ) → i < m → (g i < n) × (without (g m) f (g i) ≡ true)
    earlier i l =
        let p = passes i (omega arith) in
        (p.0, rw (ne_eqb (g i) (g m) (apart i m l (omega arith))) p.1)
