-- Sums of shares are linear in the lanes: what the window sums, down and across, is the nine words' sums as lanes. Assumes nothing.
use Rattle.std.proofs.Common.{◌≡◌, ℕ, zero, suc, ◌+◌, ◌-◌, ◌*◌, ◌/◌, ◌%◌, ◌<◌, ◌≤◌, Bool, sym, refl, ap, ◌∙◌, mul-le-mul_left, arith}
use Rattle.facts.specs.Sum.{sum}
use Rattle.pixel.specs.declared.ChannelOrder.{ChannelOrder}
use Rattle.pixel.specs.declared.ChannelOrder.TheVariants.{BlueFirst, RedFirst}
use Rattle.texel.proofs.Across as texel
use Rattle.texel.specs.Inner.{side, sums_to}
use Rattle.texel.specs.Summed.{shares, three}
use Rattle.texel.specs.Texel.{Words, factor, share}
use Rattle.word.specs.declared.PVRTCTexelColor.{PVRTCTexelColor}
use Rattle.lanes.specs.Column.{most, SmallSums}
use Rattle.lanes.specs.Lanes.{lanes, color_lanes, shared}
use Rattle.lanes.proofs.Lane.{sum_lanes}

-- the own block's share, in the left half and in the right half
own-left : (h i : ℕ) → i ≤ h → share h i 1 ≡ h + i
unfolding share
own-left h i k = omega arith

own-right : (h i : ℕ) → h ≤ i → i ≤ 3 * h → share h i 1 ≡ 3 * h - i
unfolding share
own-right h i k m = omega arith

-- the first sum of a row
pub shared-first : (h l c r : ℕ) → h * l + h * c ≡ shared h 0 l c r
unfolding shared share
shared-first h l c r =
    let x : h - 0 ≡ h = omega arith in
    let z : 0 - h ≡ 0 = omega arith in
    omega (arith, ap (λ (n : ℕ). n * l) x, ap (λ (n : ℕ). n * c) (own-left h 0 (omega arith)), ap (λ (n : ℕ). n * r) z)

-- the shares of a place are 2h in all
pub shared-le : (h i n l c r : ℕ) → i ≤ 2 * h → l ≤ n → c ≤ n → r ≤ n → shared h i l c r ≤ 2 * h * n
unfolding shared share
shared-le h i n l c r k hl hc hr =
    let own = 2 * h - (h - i) - (i - h) in
    let all : h - i + own + (i - h) ≡ 2 * h = omega arith in
    omega (arith, ap (λ (m : ℕ). m * n) all, mul-le-mul_left (h - i) hl, mul-le-mul_left own hc, mul-le-mul_left (i - h) hr)

pub sums-fit : (h i l c r : ℕ) → h ≤ 4 → i ≤ 2 * h → l ≤ most → c ≤ most → r ≤ most → shared h i l c r ≤ 288230376151711744
sums-fit h i l c r hh hi hl hc hr = omega (arith, shared-le h i most l c r hi hl hc hr)

-- from the sum x of place i to the next one: in the left half, and in the right half
pub record Step (h i x l c r : ℕ) : Type 0 where
  pub small : x ≤ 288230376151711744
  pub left : i < h → shared h (i + 1) l c r + l ≡ x + c
  pub right : h ≤ i → shared h (i + 1) l c r + c ≡ x + r

module _ (h i l c r : ℕ) where
  step_left : i < h → shared h (i + 1) l c r + l ≡ shared h i l c r + c
  unfolding shared share
  step_left k =
      let x : h - i ≡ h - (i + 1) + 1 = omega arith in
      let z : i + 1 - h ≡ i - h = omega arith in
      moved (h - (i + 1)) (i - h) x (own-left h i (omega arith)) (own-left h (i + 1) (omega arith)) z
    where
      moved : (a e : ℕ) {a' b b' e' : ℕ} → a' ≡ a + 1 → b ≡ h + i → b' ≡ h + (i + 1) → e' ≡ e → a * l + b' * c + e' * r + l ≡ a' * l + b * c + e * r + c
      moved a e x y y' z = rw (x, y, y', z) (omega arith)

  step_right : h ≤ i → i < 2 * h → shared h (i + 1) l c r + c ≡ shared h i l c r + r
  unfolding shared share
  step_right k m =
      let x : h - (i + 1) ≡ h - i = omega arith in
      let y : 3 * h - i ≡ 3 * h - (i + 1) + 1 = omega arith in
      let z : i + 1 - h ≡ i - h + 1 = omega arith in
      moved (h - i) (3 * h - (i + 1)) (i - h) x (own-right h i k (omega arith) ∙ y) (own-right h (i + 1) (omega arith) (omega arith)) z
    where
      moved : (a d e : ℕ) {a' b b' e' : ℕ} → a' ≡ a → b ≡ d + 1 → b' ≡ d → e' ≡ e + 1 → a' * l + b' * c + e' * r + c ≡ a * l + b * c + e * r + r
      moved a d e x y y' z = rw (x, y, y', z) (omega arith)

  pub steps : {x : ℕ} → (h ≤ 4) × (i < 2 * h) × (x ≡ shared h i l c r) → SmallSums (record { left = l; own = c; right = r }) → Step h i x l c r
  steps p q =
      record {
        small = rw p.2 (sums-fit h i l c r p.0 (omega arith) q.left q.own q.right);
        left = λ k. step_left k ∙ ap (λ (n : ℕ). n + c) (sym p.2);
        right = λ k. step_right k p.1 ∙ ap (λ (n : ℕ). n + r) (sym p.2);
      }

-- a sum of lanes, by its lanes
sum-lanes : (b r g a f : ℕ → ℕ) (n : ℕ)
    → sum (λ k. lanes (b k) (r k) (g k) (2 * a k) * f k) n
    ≡ lanes (sum (λ k. b k * f k) n) (sum (λ k. r k * f k) n) (sum (λ k. g k * f k) n) (2 * sum (λ k. a k * f k) n)
unfolding sum
sum-lanes b r g a f zero = refl
sum-lanes b r g a f (suc n) = omega (arith, sum-lanes b r g a f n)

-- three numbers by their shares, as a texel sums them
by_three : (h p l c r : ℕ) → shared h p l c r ≡ three (shares h p) l c r
unfolding shared
by_three h p l c r = omega arith

-- so down first, and then across
down-across : (h px py : ℕ) (w : ℕ → ℕ → ℕ)
    → shared h px (shared 2 py (w 0 0) (w 0 1) (w 0 2)) (shared 2 py (w 1 0) (w 1 1) (w 1 2)) (shared 2 py (w 2 0) (w 2 1) (w 2 2))
    ≡ sum (λ k. w (k % 3) (k / 3) * factor h px py k) 9
down-across h px py w =
    rw (by_three 2 py (w 0 0) (w 0 1) (w 0 2), by_three 2 py (w 1 0) (w 1 1) (w 1 2), by_three 2 py (w 2 0) (w 2 1) (w 2 2))
    (by_three h px _ _ _ ∙ texel.down-across h px py w)

-- the colour of one of nine words as lanes
abbrev pub word_lanes : ChannelOrder → Words → (second : Bool) → ℕ → ℕ → ℕ
word_lanes order nine second i j = color_lanes order (side second (nine i j))

pub sums-are : (order : ChannelOrder) (h px py : ℕ) (nine : Words) (second : Bool) → let w = word_lanes order nine second in
    shared h px (shared 2 py (w 0 0) (w 0 1) (w 0 2)) (shared 2 py (w 1 0) (w 1 1) (w 1 2)) (shared 2 py (w 2 0) (w 2 1) (w 2 2))
    ≡ sum_lanes order (sums_to h nine second px py 9)
unfolding sums_to
sums-are order h px py nine second = down-across h px py (word_lanes order nine second) ∙ by order
  where
    word : ℕ → PVRTCTexelColor
    word k = side second (nine (k % 3) (k / 3))

    by : (order : ChannelOrder) → sum (λ k. color_lanes order (word k) * factor h px py k) 9 ≡ sum_lanes order (sums_to h nine second px py 9)
    by BlueFirst = sum-lanes (λ k. (word k).b) (λ k. (word k).r) (λ k. (word k).g) (λ k. (word k).a) (factor h px py) 9
    by RedFirst = sum-lanes (λ k. (word k).r) (λ k. (word k).b) (λ k. (word k).g) (λ k. (word k).a) (factor h px py) 9
