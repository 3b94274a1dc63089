-- Laws of the list of a function's first values, and of a loop that fills a list with them from the front.
-- Assumes nothing.
use Rattle.std.proofs.Common.{◌≡◌, refl, sym, ap, subst, ◌∙◌, List, [], ◌∷◌, ◌++◌, append_assoc, append-nil, ⊎_elim, ℕ, zero, suc, ◌+◌, ◌≤◌, ◌<◌, le_of_eq}
use Rattle.std.proofs.Common.{not-suc-le-zero, le_of_suc-le-suc, eq-or-lt_of_le, add-one, arith, length, get_or, set, drop, length-append, length-drop}
use Rattle.std.proofs.Common.{drop_of_length-le, drop-cons, ext_get_or}
use lib.ListN.{get_or-append}
use lib.Seq.{set_at, get_or-append_seam}
use Rattle.facts.specs.Tab.{tab}

module _ {A : Type 0} where
  pub length-tab : (f : ℕ → A) (n : ℕ) → length (tab f n) ≡ n
  unfolding tab
  length-tab f zero = refl
  length-tab f (suc n) = length-append (tab f n) (f n ∷ []) ∙ (let h = length-tab f n in omega arith)

  pub get_or-tab : (f : ℕ → A) (n i : ℕ) (z : A) → i < n → get_or (tab f n) i z ≡ f i
  unfolding tab
  get_or-tab f zero i z l = absurd (not-suc-le-zero l)
  get_or-tab f (suc n) i z l =
      ⊎_elim
      (λ e. subst (λ (k : ℕ). get_or (tab f n ++ (f n ∷ [])) k z ≡ f k) (length-tab f n ∙ sym e)
      (get_or-append_seam (tab f n) (f n) [] z ∙ ap f (sym (length-tab f n))))
      (λ lt. get_or-append (tab f n) (f n ∷ []) z i (let h = length-tab f n in omega arith) ∙ get_or-tab f n i z lt)
      (eq-or-lt_of_le (le_of_suc-le-suc l))

  -- the same where more of the list follows
  pub tab-front : (f : ℕ → A) (n i : ℕ) (d : List A) (z : A) → i < n → get_or (tab f n ++ d) i z ≡ f i
  tab-front f n i d z l = get_or-append (tab f n) d z i (let h = length-tab f n in omega arith) ∙ get_or-tab f n i z l

  -- the values count, and not how the function is written
  pub tab-same : (f g : ℕ → A) (n : ℕ) → ((k : ℕ) → k < n → f k ≡ g k) → tab f n ≡ tab g n
  unfolding tab
  tab-same f g zero e = refl
  tab-same f g (suc n) e =
      rw (tab-same f g n (λ k h. e k (omega arith)), e n (omega arith))

  tab-suc : (f : ℕ → A) (n : ℕ) (d : List A) (z : A) → n < length d → set (tab f n ++ drop n d) n (f n) ≡ tab f (suc n) ++ drop (suc n) d
  unfolding tab
  tab-suc f n d z l =
      ap (λ (t : List A). set (tab f n ++ t) n (f n)) (drop-cons d n z l)
      ∙ set_at (tab f n) (get_or d n z) (drop (suc n) d) (f n) n (length-tab f n)
      ∙ sym (append_assoc (tab f n) (f n ∷ []) (drop (suc n) d))

  tab-more : (f : ℕ → A) (n : ℕ) (d : List A) (z : A) → n < length d → set (tab f n ++ drop n d) n (f n) ≡ tab f (n + 1) ++ drop (n + 1) d
  tab-more f n d z l = subst (λ (k : ℕ). set (tab f n ++ drop n d) n (f n) ≡ tab f k ++ drop k d) (sym (add-one n)) (tab-suc f n d z l)

  tab-all : (f : ℕ → A) (n : ℕ) (d : List A) → length d ≡ n → tab f n ++ drop n d ≡ tab f n
  tab-all f n d e = ap (λ (t : List A). tab f n ++ t) (drop_of_length-le d (le_of_eq e)) ∙ append-nil (tab f n)

  -- a loop's invariant: the first n elements of the list d are stored, and w is the list now
  pub record Filled (f : ℕ → A) (d : List A) (n : ℕ) (w : List A) : Type 0 where
    pub is : w ≡ tab f n ++ drop n d

  pub filled_none : (f : ℕ → A) (d : List A) → Filled f d 0 d
  unfolding tab
  filled_none f d = record { is = refl }

  pub filled_more : {f : ℕ → A} {d : List A} {n : ℕ} {w : List A} {v : A} → Filled f d n w → v ≡ f n → n < length d → Filled f d (n + 1) (set w n v)
  filled_more {f} {d} {n} h e l = record { is = cc (tab-more f n d (f n) l, h.is) }

  pub filled-end : {f : ℕ → A} {d : List A} {n : ℕ} {w : List A} (m : ℕ) → Filled f d n w → n ≡ m → length d ≡ m → w ≡ tab f m
  filled-end {f} {d} m h e l = cc (tab-all f m d l, h.is)

  -- and the list stays as long as it was
  pub filled-length : {f : ℕ → A} {d : List A} {n : ℕ} {w : List A} → Filled f d n w → n ≤ length d → length w ≡ length d
  filled-length {f} {d} {n} h l =
      ap length h.is ∙ length-append (tab f n) (drop n d) ∙ omega (arith, length-tab f n, length-drop n d)

  -- a list is the list of its own values
  pub tab-of : (l : List A) (z : A) → tab (λ i. get_or l i z) (length l) ≡ l
  tab-of l z =
      ext_get_or z (tab (λ i. get_or l i z) (length l)) l (length-tab _ (length l))
      (λ k m. get_or-tab (λ i. get_or l i z) (length l) k z (rw (length-tab (λ i. get_or l i z) (length l)) at m))
