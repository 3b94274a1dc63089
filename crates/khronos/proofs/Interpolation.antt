-- Bilinear interpolation between the middles of blocks is document 01's sum over nine blocks. Assumes nothing.
use Rattle.std.proofs.Common.{◌≡◌, ℕ, ◌+◌, ◌-◌, ◌*◌, ◌/◌, ◌%◌, ◌<◌, ◌≤◌, ap, ◌∙◌, ⊎_elim, mod-lt, div-add-mod', arith}
use Rattle.facts.specs.Sum.{sum}
use Rattle.facts.proofs.Numbers.{lt-or-le, split}
use Rattle.grid.specs.Grid.{beside}
use Rattle.texel.specs.Texel.{share, nine_sum}
use Rattle.khronos.specs.Khronos.{past, first, second, apart, linear, bilinear}

-- along one side of g blocks
module _ (h g x : ℕ) (lh : 0 < h) (lg : 0 < g) where
  -- the two nearest middles are those of two neighbours of the three
  record Two (k : ℕ) : Type 0 where
    pub is-first : first h g x ≡ beside g (x / (2 * h)) k
    pub is-second : second h g x ≡ beside g (x / (2 * h)) (k + 1)
    pub from_first : 2 * h - apart h g x ≡ share h (x % (2 * h)) k
    pub from_second : apart h g x ≡ share h (x % (2 * h)) (k + 1)

  two : (k : ℕ) → k < 2 → x % (2 * h) + h + 2 * h ≡ 2 * h * (k + 1) + share h (x % (2 * h)) (k + 1) → share h (x % (2 * h)) (k + 1) < 2 * h
      → 2 * h - share h (x % (2 * h)) (k + 1) ≡ share h (x % (2 * h)) k → Two k
  unfolding first second apart beside
  two k l a b c =
      let q : ℕ = x / (2 * h) in
      let u : ℕ = share h (x % (2 * h)) (k + 1) in
      let m : ℕ = g - 1 in
      let e : g ≡ m + 1 = omega arith in
      let at : (past h g x / (2 * h) ≡ q + m + k) × (past h g x % (2 * h) ≡ u) =
      split (2 * h) (past h g x) (q + m + k) u (omega (arith, div-add-mod' x (2 * h), ap (λ (n : ℕ). n * (2 * h)) e)) b in
      record {
        is-first = ap (λ (n : ℕ). n % g) (omega arith);
        is-second = ap (λ (n : ℕ). n % g) (omega arith);
        from_first = omega arith;
        from_second = at.1;
      }

  -- the values of three neighbours by their shares
  abbrev three : (ℕ → ℕ) → ℕ
  three f =
      f (beside g (x / (2 * h)) 0) * share h (x % (2 * h)) 0
      + f (beside g (x / (2 * h)) 1) * share h (x % (2 * h)) 1
      + f (beside g (x / (2 * h)) 2) * share h (x % (2 * h)) 2

  -- are the values between two middles
  along : (f : ℕ → ℕ) → three f ≡ linear (2 * h) (apart h g x) (f (first h g x)) (f (second h g x))
  unfolding share
  along f = ⊎_elim left right (lt-or-le (x % (2 * h)) h)
    where
      left : x % (2 * h) < h → three f ≡ linear (2 * h) (apart h g x) (f (first h g x)) (f (second h g x))
      left l =
          let t : Two 0 = two 0 (omega arith) (omega arith) (omega arith) (omega arith) in
          let none : share h (x % (2 * h)) 2 ≡ 0 = omega arith in
          rw (t.is-first, t.is-second, t.from_first, t.from_second, none) (omega arith)

      right : h ≤ x % (2 * h) → three f ≡ linear (2 * h) (apart h g x) (f (first h g x)) (f (second h g x))
      right l =
          let low : x % (2 * h) < 2 * h = mod-lt x (omega arith) in
          let t : Two 1 = two 1 (omega arith) (omega arith) (omega arith) (omega arith) in
          let none : share h (x % (2 * h)) 0 ≡ 0 = omega arith in
          rw (t.is-first, t.is-second, t.from_first, t.from_second, none) (omega arith)

-- a column's three terms with their common factor
column : (a c₀ c₁ c₂ b₀ b₁ b₂ f : ℕ) → c₀ * b₀ + c₁ * b₁ + c₂ * b₂ ≡ f → f * a ≡ c₀ * (a * b₀) + c₁ * (a * b₁) + c₂ * (a * b₂)
column a c₀ c₁ c₂ b₀ b₁ b₂ f e = rw (← e) (omega arith)

-- the sum over nine, column by column
by-columns : (h px py : ℕ) (c : ℕ → ℕ → ℕ) (f : ℕ → ℕ)
    → ((i : ℕ) → c i 0 * share 2 py 0 + c i 1 * share 2 py 1 + c i 2 * share 2 py 2 ≡ f i)
    → nine_sum h c px py ≡ f 0 * share h px 0 + f 1 * share h px 1 + f 2 * share h px 2
unfolding nine_sum sum
by-columns h px py c f e = omega (arith, at 0, at 1, at 2)
  where
    at : (i : ℕ) → f i * share h px i ≡ c i 0 * (share h px i * share 2 py 0) + c i 1 * (share h px i * share 2 py 1) + c i 2 * (share h px i * share 2 py 2)
    at i = column (share h px i) (c i 0) (c i 1) (c i 2) (share 2 py 0) (share 2 py 1) (share 2 py 2) (f i) (e i)

module _ (h gx gy x y : ℕ) (lh : 0 < h) (lx : 0 < gx) (ly : 0 < gy) where
  pub around : (c : ℕ → ℕ → ℕ) → nine_sum h (λ i j. c (beside gx (x / (2 * h)) i) (beside gy (y / 4) j)) (x % (2 * h)) (y % 4) ≡ bilinear h gx gy c x y
  unfolding bilinear
  around c =
      by-columns h (x % (2 * h)) (y % 4) (λ i j. c (beside gx (x / (2 * h)) i) (beside gy (y / 4) j))
      (λ i. linear 4 (apart 2 gy y) (c (beside gx (x / (2 * h)) i) (first 2 gy y)) (c (beside gx (x / (2 * h)) i) (second 2 gy y)))
      (λ i. along 2 gy y (omega arith) ly (c (beside gx (x / (2 * h)) i)))
      ∙ along h gx x lh lx (λ i. linear 4 (apart 2 gy y) (c i (first 2 gy y)) (c i (second 2 gy y)))
