-- Laws of neighbours on the torus. Assumes nothing.
use Rattle.std.proofs.Common.{◌≡◌, ℕ, ◌+◌, ◌-◌, ◌*◌, ◌/◌, ◌%◌, ◌^◌, ◌<◌, ◌≤◌, sym, ap, ◌∙◌, ⊎_elim, mul-le-mul_right, mod-lt, mod-eq_of_lt}
use Rattle.std.proofs.Common.{eq-or-lt_of_le, div-add-mod', arith, pow_pos}
use native.Mathlib.Nat.{add-mod_right, add-mul-mod_self_right, mod_self}
use Rattle.facts.proofs.Numbers.{split}
use Rattle.facts.proofs.Powers.{pow-split}
use Rattle.grid.specs.Grid.{beside, Toroidal}

-- a neighbour is a block of the side
pub beside-below : (g q k : ℕ) → 0 < g → beside g q k < g
unfolding beside
beside-below g q k h = mod-lt (q + k + g - 1) h

-- a block is its own middle neighbour
pub beside-own : (g q : ℕ) → q < g → beside g q 1 ≡ q
unfolding beside
beside-own g q h = ap (λ (n : ℕ). n % g) (omega arith) ∙ add-mod_right q g ∙ mod-eq_of_lt h

-- the block after a block, inside the side and at its end
pub next-inside : (g q : ℕ) → q + 1 < g → beside g q 2 ≡ q + 1
unfolding beside
next-inside g q h = ap (λ (n : ℕ). n % g) (omega arith) ∙ add-mod_right (q + 1) g ∙ mod-eq_of_lt h

pub next-round : (g q : ℕ) → q + 1 ≡ g → beside g q 2 ≡ 0
unfolding beside
next-round g q e = ap (λ (n : ℕ). n % g) (omega arith) ∙ add-mod_right g g ∙ mod_self g

-- the block before the first one
pub last-before : (g : ℕ) → 0 < g → beside g 0 0 ≡ g - 1
unfolding beside
last-before g h = ap (λ (n : ℕ). n % g) (omega arith) ∙ mod-eq_of_lt (omega arith)

-- the block before a block, inside the side
previous-inside : (g q : ℕ) → q + 1 < g → beside g (q + 1) 0 ≡ q
unfolding beside
previous-inside g q h = ap (λ (n : ℕ). n % g) (omega arith) ∙ add-mod_right q g ∙ mod-eq_of_lt (omega arith)

-- document 01's sentences on neighbours
pub toroidal : (g : ℕ) → 0 < g → Toroidal g
toroidal g pos =
    record {
      before = previous-inside g;
      before-first = last-before g pos;
      own = beside-own g;
      after = next-inside g;
      after_last = next-round g (g - 1) (omega arith);
      alone = λ one q k h. let low = beside-below g q k pos in omega arith;
    }

-- the block before the block after a block
pub back-again : (g q : ℕ) → q < g → beside g (beside g q 2) 0 ≡ q
unfolding beside
back-again g q h =
    ⊎_elim
    (λ e. ap (λ (n : ℕ). (n + 0 + g - 1) % g) (next-round g q (omega (arith, e))) ∙ ap (λ (n : ℕ). n % g) (omega arith) ∙ mod-eq_of_lt h)
    (λ less.
    ap (λ (n : ℕ). (n + 0 + g - 1) % g) (next-inside g q (omega (arith, less))) ∙ ap (λ (n : ℕ). n % g) (omega arith) ∙ add-mod_right q g ∙ mod-eq_of_lt h)
    (eq-or-lt_of_le h)

-- a number round g blocks of b: its block goes round, its place in the block stays
pub round : (b g n : ℕ) → 0 < b → 0 < g → (n % (g * b) / b ≡ n / b % g) × (n % (g * b) % b ≡ n % b)
round b g n lb lg =
    let q : ℕ = n / b in
    let r : ℕ = n % b in
    let c : ℕ = q % g in
    let t : ℕ = q / g in
    let lr : r < b = mod-lt n lb in
    let lc : c < g = mod-lt q lg in
    let whole : q * b + r ≡ n = div-add-mod' n b in
    let block : t * g + c ≡ q = div-add-mod' q g in
    let fits : (c + 1) * b ≤ g * b = mul-le-mul_right b (omega arith) in
    let cut : (n / (g * b) ≡ t) × (n % (g * b) ≡ c * b + r) =
    split (g * b) n t (c * b + r) (omega (arith, ap (λ (m : ℕ). m * b) block)) (omega arith) in
    split b (n % (g * b)) c r cut.1 lr

-- how often a side goes into the machine's numbers
module _ (k side : ℕ) (e : side ≡ 2 ^ k) (h : k ≤ 64) where
  whole : 2 ^ (64 - k) * side ≡ 2 ^ 64
  whole = ap (λ (n : ℕ). 2 ^ (64 - k) * n) e ∙ pow-split 64 k h

  -- one less, round the machine number and then round the side
  pub wraps-back : (c w : ℕ) → (w + 1) % 2 ^ 64 ≡ c → w % side ≡ beside side c 0
  unfolding beside
  wraps-back c w m =
      let t : ℕ = (w + 1) / 2 ^ 64 * 2 ^ (64 - k) in
      let sum : w + side ≡ (c + 0 + side - 1) + t * side = omega (arith, ap (λ (n : ℕ). (w + 1) / 2 ^ 64 * n) whole, pow_pos k) in
      sym (add-mod_right w side) ∙ ap (λ (n : ℕ). n % side) sum ∙ add-mul-mod_self_right (c + 0 + side - 1) t side

  -- one more, likewise
  pub wraps-on : (c w : ℕ) → w ≡ (c + 1) % 2 ^ 64 → w % side ≡ beside side c 2
  unfolding beside
  wraps-on c w m =
      let t : ℕ = (c + 1) / 2 ^ 64 * 2 ^ (64 - k) in
      let sum : w + t * side + side ≡ c + 2 + side - 1 = omega (arith, ap (λ (n : ℕ). (c + 1) / 2 ^ 64 * n) whole, pow_pos k) in
      sym (add-mul-mod_self_right w t side) ∙ sym (add-mod_right (w + t * side) side) ∙ ap (λ (n : ℕ). n % side) sum
