-- A texel depends on the words that have a share at its place, and on no others. Assumes nothing.
use Rattle.std.proofs.Common.{◌≡◌, ap, ⊎_elim, ℕ, ◌+◌, ◌-◌, ◌*◌, ◌/◌, ◌%◌, ◌≤◌, ◌<◌, eq-zero-or-pos, mod-lt, arith, get_or}
use native.Mathlib.Nat.{div-eq_of_lt-le}
use Rattle.facts.proofs.Numbers.{lt-or-le}
use Rattle.facts.proofs.Sum.{sum_same}
use Rattle.word.specs.declared.Fill.{Fill}
use Rattle.word.specs.declared.Fill.TheVariants.{Nothing, Around, AboveBelow, LeftRight}
use Rattle.word.specs.declared.PVRTCTexelInfo.{PVRTCTexelInfo}
use Rattle.texel.specs.Texel.{share, factor, Words, nine_sum, near, filled, rule_at, mixed, texel_in, about, texel_at}

-- block k of the three has a share at the place p
abbrev pub HasShare : ℕ → ℕ → ℕ → Type 0
HasShare h p k = (k < 3) × (0 < share h p k)

-- the own block always has one
pub own-share : (h p : ℕ) → p < 2 * h → HasShare h p 1
unfolding share
own-share h p l = omega arith

-- the block of the three that holds a place of them
third : (h x k : ℕ) → k * (2 * h) ≤ x → x < (k + 1) * (2 * h) → x / (2 * h) ≡ k
third h x k l u = div-eq_of_lt-le (2 * h) l u

-- the block that holds a place at most one texel away from p has a share at p: so filling reads no block without one
pub held : (h p x : ℕ) → 2 ≤ h → p < 2 * h → p + 2 * h ≤ x + 1 → x ≤ p + 2 * h + 1 → HasShare h p (x / (2 * h))
unfolding share
held h p x two l a b =
    ⊎_elim
    (λ less. rw (third h x 0 (omega arith) (omega arith)) (omega arith))
    (λ more. ⊎_elim
    (λ less. rw (third h x 1 (omega arith) (omega arith)) (omega arith))
    (λ most. rw (third h x 2 (omega arith) (omega arith)) (omega arith))
    (lt-or-le x (4 * h)))
    (lt-or-le x (2 * h))

-- what a texel is made of
pub mixed-same : (h px py : ℕ) {own own' : PVRTCTexelInfo} {total total' : (PVRTCTexelInfo → ℕ) → ℕ} {weigh weigh' : Fill → ℕ}
    → own ≡ own' → ((c : PVRTCTexelInfo → ℕ) → total c ≡ total' c) → ((f : Fill) → weigh f ≡ weigh' f)
    → mixed h own total weigh px py ≡ mixed h own' total' weigh' px py
unfolding mixed
mixed-same h px py {own} o s w =
    rw (
      s (λ t. t.a.r),
      s (λ t. t.a.g),
      s (λ t. t.a.b),
      s (λ t. t.a.a),
      s (λ t. t.b.r),
      s (λ t. t.b.g),
      s (λ t. t.b.b),
      s (λ t. t.b.a),
      w (rule_at own px py),
      o,
    )

-- what two nines agree on: the words that have a share at (px, py)
abbrev pub Agree : ℕ → ℕ → ℕ → Words → Words → Type 0
Agree h px py n n' = (i j : ℕ) → HasShare h px i → HasShare 2 py j → n i j ≡ n' i j

module _ (h px py : ℕ) (lh : 2 ≤ h) (lx : px < 2 * h) (ly : py < 4) (n n' : Words) (agree : Agree h px py n n') where
  term-same : (c : PVRTCTexelInfo → ℕ) (k : ℕ) → k < 9 → c (n (k % 3) (k / 3)) * factor h px py k ≡ c (n' (k % 3) (k / 3)) * factor h px py k
  term-same c k l =
      ⊎_elim
      (λ e. rw e (omega arith))
      (λ a. ⊎_elim
      (λ e. rw e (omega arith))
      (λ b. ap (λ (w : PVRTCTexelInfo). c w * factor h px py k) (agree (k % 3) (k / 3) (omega arith, a) (omega arith, b)))
      (eq-zero-or-pos (share 2 py (k / 3))))
      (eq-zero-or-pos (share h px (k % 3)))

  sums : (c : PVRTCTexelInfo → ℕ) → nine_sum h (λ i j. c (n i j)) px py ≡ nine_sum h (λ i j. c (n' i j)) px py
  unfolding nine_sum
  sums c = sum_same _ _ 9 (term-same c)

  near_same : (x y : ℕ) → px + 2 * h ≤ x + 1 → x ≤ px + 2 * h + 1 → py + 4 ≤ y + 1 → y ≤ py + 5 → near h n x y ≡ near h n' x y
  unfolding near
  near_same x y a b c d =
      ap (λ (w : PVRTCTexelInfo). get_or w.weight (2 * h * (y % 4) + x % (2 * h)) 0)
      (agree (x / (2 * h)) (y / 4) (held h px x lh lx a b) (held 2 py y (omega arith) ly (omega arith) (omega arith)))

  abbrev x : ℕ
  x = px + 2 * h

  abbrev y : ℕ
  y = py + 4

  up : near h n x (y - 1) ≡ near h n' x (y - 1)
  up = near_same x (y - 1) (omega arith) (omega arith) (omega arith) (omega arith)

  down : near h n x (y + 1) ≡ near h n' x (y + 1)
  down = near_same x (y + 1) (omega arith) (omega arith) (omega arith) (omega arith)

  left : near h n (x - 1) y ≡ near h n' (x - 1) y
  left = near_same (x - 1) y (omega arith) (omega arith) (omega arith) (omega arith)

  right : near h n (x + 1) y ≡ near h n' (x + 1) y
  right = near_same (x + 1) y (omega arith) (omega arith) (omega arith) (omega arith)

  weights : (f : Fill) → filled h f n (px + 2 * h) (py + 4) ≡ filled h f n' (px + 2 * h) (py + 4)
  unfolding filled
  weights Nothing = near_same x y (omega arith) (omega arith) (omega arith) (omega arith)
  weights Around = rw (up, down, left, right)
  weights AboveBelow = rw (up, down)
  weights LeftRight = rw (left, right)

  pub texel-same : texel_in h n px py ≡ texel_in h n' px py
  unfolding texel_in
  texel-same = mixed-same h px py (agree 1 1 (own-share h px lx) (own-share 2 py (omega arith))) sums weights

-- a texel of a grid of words: two lookups that agree where it has a share
pub look-same : (h gx gy x y : ℕ) → 2 ≤ h → (look look' : Words)
    → Agree h (x % (2 * h)) (y % 4) (about gx gy look (x / (2 * h)) (y / 4)) (about gx gy look' (x / (2 * h)) (y / 4))
    → texel_at h gx gy look x y ≡ texel_at h gx gy look' x y
unfolding texel_at
look-same h gx gy x y lh look look' agree =
    texel-same h (x % (2 * h)) (y % 4) lh (mod-lt x (omega arith)) (omega arith) (about gx gy look (x / (2 * h)) (y / 4))
    (about gx gy look' (x / (2 * h)) (y / 4)) agree
