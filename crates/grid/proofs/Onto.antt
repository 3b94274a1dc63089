-- The addresses of a grid's blocks are the numbers below the number of blocks, each once. Assumes nothing.
use Rattle.std.proofs.Common.{◌≡◌, ℕ, zero, suc, ◌+◌, ◌-◌, ◌*◌, ◌/◌, ◌%◌, ◌^◌, ◌<◌, ◌≤◌, min, Bool, true, false, leb, sym, refl, ap, ◌∙◌, ap₂, arith}
use Rattle.std.proofs.Common.{leb-false, leb-true}
use native.Mathlib.Nat.{pow-succ'}
use Rattle.facts.proofs.Powers.{pow-split, pow-le-cancel, square}
use Rattle.grid.specs.Grid.{log2, Power, address, column, row, block_address, block_column, block_row, Bijective}

-- how often the smaller side goes into each side, where it goes d times into the longer one
abbrev across : Bool → ℕ → ℕ
across true d = d
across false d = 1

abbrev down : Bool → ℕ → ℕ
down true d = 1
down false d = d

double : (k n : ℕ) → 2 ^ suc k * n ≡ 2 * (2 ^ k * n)
double k n = rw (pow-succ' 2 k) (omega arith)

fourfold : (k n : ℕ) → 4 ^ suc k * n ≡ 4 * (4 ^ k * n)
fourfold k n = rw (pow-succ' 4 k) (omega arith)

-- half the place lies in the grid of half the sides
module _ (w : Bool) (d k x y : ℕ) (hx : x < 2 ^ suc k * across w d) (hy : y < 2 ^ suc k * down w d) where
  half-x : x / 2 < 2 ^ k * across w d
  half-x = omega (arith, double k (across w d))

  half-y : y / 2 < 2 ^ k * down w d
  half-y = omega (arith, double k (down w d))

within : (w : Bool) (d k x y : ℕ) → x < 2 ^ k * across w d → y < 2 ^ k * down w d → address k x y < 4 ^ k * d
unfolding address
within true d zero x y hx hy = omega arith
within false d zero x y hx hy = omega arith
within w d (suc k) x y hx hy =
    omega (arith, fourfold k d, within w d k (x / 2) (y / 2) (half-x w d k x y hx hy) (half-y w d k x y hx hy))

quarter : (a b c : ℕ) → b < 2 → c < 2 → (4 * a + 2 * b + c) / 4 ≡ a
quarter a b c hb hc = omega arith

same-column : (w : Bool) (d k x y : ℕ) → x < 2 ^ k * across w d → y < 2 ^ k * down w d → column w k (address k x y) ≡ x
unfolding address column
same-column true d zero x y hx hy = omega arith
same-column false d zero x y hx hy = omega arith
same-column w d (suc k) x y hx hy =
    let a = address k (x / 2) (y / 2) in
    omega (
      arith,
      ap (column w k) (quarter a (x % 2) (y % 2) (omega arith) (omega arith)),
      same-column w d k (x / 2) (y / 2) (half-x w d k x y hx hy) (half-y w d k x y hx hy),
    )

same_row : (w : Bool) (d k x y : ℕ) → x < 2 ^ k * across w d → y < 2 ^ k * down w d → row w k (address k x y) ≡ y
unfolding address row
same_row true d zero x y hx hy = omega arith
same_row false d zero x y hx hy = omega arith
same_row w d (suc k) x y hx hy =
    let a = address k (x / 2) (y / 2) in
    omega (
      arith,
      ap (row w k) (quarter a (x % 2) (y % 2) (omega arith) (omega arith)),
      same_row w d k (x / 2) (y / 2) (half-x w d k x y hx hy) (half-y w d k x y hx hy),
    )

column-within : (w : Bool) (d k z : ℕ) → z < 4 ^ k * d → column w k z < 2 ^ k * across w d
unfolding column
column-within true d zero z h = omega arith
column-within false d zero z h = omega arith
column-within w d (suc k) z h = omega (arith, double k (across w d), column-within w d k (z / 4) (omega (arith, fourfold k d)))

row_within : (w : Bool) (d k z : ℕ) → z < 4 ^ k * d → row w k z < 2 ^ k * down w d
unfolding row
row_within true d zero z h = omega arith
row_within false d zero z h = omega arith
row_within w d (suc k) z h = omega (arith, double k (down w d), row_within w d k (z / 4) (omega (arith, fourfold k d)))

same_address : (w : Bool) (k z : ℕ) → address k (column w k z) (row w k z) ≡ z
unfolding address column row
same_address true zero z = omega arith
same_address false zero z = omega arith
same_address w (suc k) z =
    let c = column w k (z / 4) in
    let r = row w k (z / 4) in
    let hc : (2 * c + z / 2 % 2) / 2 ≡ c = omega arith in
    let hr : (2 * r + z % 2) / 2 ≡ r = omega arith in
    rw (hc, hr) (omega (arith, same_address w k (z / 4)))

-- a grid by its smaller side 2 ^ k and how often that goes into the longer one
record Shape (gx gy : ℕ) (w : Bool) (k : ℕ) : Type 0 where
  pub times : ℕ
  pub is_x : gx ≡ 2 ^ k * across w times
  pub is_y : gy ≡ 2 ^ k * down w times
  pub area : gx * gy ≡ 4 ^ k * times

area_of : (k t long short : ℕ) → long ≡ 2 ^ k * t → short ≡ 2 ^ k → long * short ≡ 4 ^ k * t
area_of k t long short e f = ap₂ (λ (m n : ℕ). m * n) e f ∙ omega (arith, ap (λ (n : ℕ). n * t) (square k))

-- the longer side is a multiple of the smaller
times-of : (long short : ℕ) → Power long → Power short → short ≤ long → long ≡ 2 ^ log2 short * 2 ^ (log2 long - log2 short)
times-of long short pl ps h =
    let sub : log2 short ≤ log2 long = pow-le-cancel (omega arith) in
    omega (arith, pow-split (log2 long) (log2 short) sub)

shape : (gx gy : ℕ) → Power gx → Power gy → (w : Bool) → leb gy gx ≡ w → Shape gx gy w (log2 (min gx gy))
shape gx gy px py true e =
    let le : gy ≤ gx = leb-true gy gx e in
    let m : min gx gy ≡ gy = omega arith in
    let x = times-of gx gy px py le in
    rw m (record { times = 2 ^ (log2 gx - log2 gy); is_x = x; is_y = omega arith; area = area_of (log2 gy) (2 ^ (log2 gx - log2 gy)) gx gy x py })
shape gx gy px py false e =
    let lt : gx < gy = leb-false gy gx e in
    let m : min gx gy ≡ gx = omega arith in
    let y = times-of gy gx py px (omega arith) in
    let times : ℕ = 2 ^ (log2 gy - log2 gx) in
    rw m (record { times = times; is_x = omega arith; is_y = y; area = omega (arith, area_of (log2 gx) times gy gx y px) })

pub bijective : (gx gy : ℕ) → Power gx → Power gy → Bijective gx gy
bijective gx gy px py =
    let w : Bool = leb gy gx in
    let k : ℕ = log2 (min gx gy) in
    let s : Shape gx gy w k = shape gx gy px py w refl in
    let d : ℕ = s.times in
    record {
      within = λ x y hx hy. omega (arith, within w d k x y (omega arith) (omega arith));
      same-column = λ x y hx hy. same-column w d k x y (omega arith) (omega arith);
      same_row = λ x y hx hy. same_row w d k x y (omega arith) (omega arith);
      column-within = λ z h. omega (arith, column-within w d k z (omega arith));
      row_within = λ z h. omega (arith, row_within w d k z (omega arith));
      same_address = λ z h. same_address w k z;
    }

-- two blocks at one address are one block
pub injective : (gx gy : ℕ) → Power gx → Power gy → (x y x' y' : ℕ) → x < gx → y < gy → x' < gx → y' < gy
    → block_address gx gy x y ≡ block_address gx gy x' y' → (x ≡ x') × (y ≡ y')
injective gx gy px py x y x' y' hx hy hx' hy' e =
    let b = bijective gx gy px py in (
      sym (b.same-column x y hx hy) ∙ ap (block_column gx gy) e ∙ b.same-column x' y' hx' hy',
      sym (b.same_row x y hx hy) ∙ ap (block_row gx gy) e ∙ b.same_row x' y' hx' hy',
    )
