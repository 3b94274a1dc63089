-- Laws of choices and of membership in a list. Assumes nothing.
use Rattle.std.proofs.Common.{◌≡◌, refl, ap, ◌∙◌, Bool, true, false, cond, List, [], ◌∷◌, ◌⊎◌, inl, inr, ⊎_elim, ℕ, zero, suc, ◌≤◌, ◌<◌, not-suc-le-zero}
use Rattle.std.proofs.Common.{le_of_suc-le-suc, eq-or-lt_of_le, arith, eqb, length, eqb-true}
use mathlib.Core.List.Memᴰ
use mathlib.Core.List.{Memᴰ}
use borrow.Author.Tests.{eqb-false}
use Rattle.facts.specs.Tab.{tab}

-- what holds of both arms of a choice, each where it is taken, holds of the choice
pub choice : {A : Type 0} (P : A → Type 0) (t : Bool) {a b : A} → (t ≡ true → P a) → (t ≡ false → P b) → P (cond t a b)
choice P true f g = f refl
choice P false f g = g refl

-- a number stands in a list, or it does not
pub in-or-not : (z : ℕ) (l : List ℕ) → Memᴰ z l ⊎ (Memᴰ z l → ⊥)
in-or-not z [] = inr Memᴰ.not-nil
in-or-not z (a ∷ l) = by (eqb z a) refl (in-or-not z l)
  where
    by : (t : Bool) → eqb z a ≡ t → Memᴰ z l ⊎ (Memᴰ z l → ⊥) → Memᴰ z (a ∷ l) ⊎ (Memᴰ z (a ∷ l) → ⊥)
    by true e r = inl (Memᴰ.head (eqb-true z a e))
    by false e (inl m) = inl (Memᴰ.tail m)
    by false e (inr n) = inr (λ m. ⊎_elim (eqb-false z a e) n (Memᴰ.cases_cons m))

module _ {A : Type 0} where
  -- a list in which something stands is not empty
  pub not-empty : {a : A} {l : List A} → Memᴰ a l → 1 ≤ length l
  not-empty {l = []} m = absurd (Memᴰ.not-nil m)
  not-empty {l = b ∷ l} m = omega arith

  -- what stands in the list of a function's first values: one of them
  pub record Value (f : ℕ → A) (n : ℕ) (a : A) : Type 0 where
    pub k : ℕ
    pub below : k < n
    pub is : a ≡ f k

  pub tab-in : (f : ℕ → A) (n k : ℕ) {a : A} → k < n → a ≡ f k → Memᴰ a (tab f n)
  unfolding tab
  tab-in f zero k l e = absurd (not-suc-le-zero l)
  tab-in f (suc n) k l e =
      ⊎_elim
      (λ last. Memᴰ.append_right (tab f n) (Memᴰ.head (e ∙ ap f last)))
      (λ less. Memᴰ.append_left (f n ∷ []) (tab-in f n k less e))
      (eq-or-lt_of_le (le_of_suc-le-suc l))

  pub tab_out : (f : ℕ → A) (n : ℕ) {a : A} → Memᴰ a (tab f n) → Value f n a
  unfolding tab
  tab_out f zero m = absurd (Memᴰ.not-nil m)
  tab_out f (suc n) m =
      ⊎_elim
      (λ r. let v = tab_out f n r in record { k = v.k; below = omega arith; is = v.is })
      (λ r. record { k = n; below = omega arith; is = Memᴰ.eq_of_singleton r })
      (Memᴰ.append_cases (tab f n) m)
