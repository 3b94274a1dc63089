-- Laws of spread bits, and the address by them. Assumes nothing.
use Rattle.std.proofs.Common.{◌≡◌, ℕ, zero, suc, ◌+◌, ◌-◌, ◌*◌, ◌/◌, ◌%◌, ◌^◌, ◌<◌, ◌≤◌, min, Bool, eqb, List, length, get_or, ext_get_or, eqb→eq, sym, refl}
use Rattle.std.proofs.Common.{ap, ◌∙◌, mod-lt, suc-add}
use Rattle.std.proofs.Common.{div-add-mod', zero-add, div-one, add-one, arith, pow_pos, bit_and}
use native.Mathlib.Nat.{pow-succ', div-eq_of_lt}
use lib.Pow.{field, mod-mod-pow}
use Rattle.facts.proofs.Powers.{pow-le-cancel, shift}
use Rattle.facts.specs.Tab.{tab}
use Rattle.facts.proofs.Finite.{at}
use Rattle.facts.proofs.Tab.{get_or-tab, length-tab}
use Rattle.grid.specs.Grid.{log2, address, block_address, spread_bits, spread_table, spread_by_table, table_address, Placed}
use Rattle.grid.specs.declared.table.TheConstants.{SPREAD}
use Rattle.grid.proofs.Powers.{mask-mod}

pub spread-lt : (k v : ℕ) → spread_bits k v < 4 ^ k
unfolding spread_bits
spread-lt zero v = omega arith
spread-lt (suc k) v = omega (arith, spread-lt k (v / 2))

-- an entry of the table
pub entry : (table : List ℕ) (b : ℕ) → table ≡ spread_table → b < 256 → get_or table b 0 ≡ spread_bits 8 b
unfolding spread_table
entry table b e l = ap (λ (t : List ℕ). get_or t b 0) e ∙ get_or-tab (spread_bits 8) 256 b 0 l

-- entry b of a table is x
right : ℕ → ℕ → Bool
right b x = eqb x (spread_bits 8 b)

-- the table in the code is the table of spread bytes: its rule is one test at each of its entries, which the checker computes
pub table-is : SPREAD ≡ spread_table
unfolding right spread_bits spread_table
table-is =
    let long : length (tab (spread_bits 8) 256) ≡ 256 = length-tab (spread_bits 8) 256 in
    ext_get_or 0 SPREAD (tab (spread_bits 8) 256) (sym long) (λ b l.
    let h : b < 256 = omega arith in
    eqb→eq (get_or SPREAD b 0) (spread_bits 8 b) (at right SPREAD 0 tt b l) ∙ sym (get_or-tab (spread_bits 8) 256 b 0 h))

-- the low bits, and above them the others
pub spread-add : (i j v : ℕ) → spread_bits (i + j) v ≡ spread_bits i v + 4 ^ i * spread_bits j (v / 2 ^ i)
unfolding spread_bits
spread-add zero j v = simp (zero-add, div-one) (omega arith)
spread-add (suc i) j v = rw (suc-add, ← shift 2 v i, pow-succ' 4 i) (omega (arith, spread-add i j (v / 2)))

spread-zero : (k : ℕ) → spread_bits k 0 ≡ 0
unfolding spread_bits
spread-zero zero = refl
spread-zero (suc k) = omega (arith, spread-zero k)

mod-half : (v k : ℕ) → v % 2 ^ suc k / 2 ≡ v / 2 % 2 ^ k
mod-half v k = rw (← add-one k) (field v k 1)

mod-odd : (v k : ℕ) → v % 2 ^ suc k % 2 ≡ v % 2
mod-odd v k = rw (← add-one k) (mod-mod-pow v k 1)

-- only the k low bits count
pub spread-mod : (k v : ℕ) → spread_bits k (v % 2 ^ k) ≡ spread_bits k v
unfolding spread_bits
spread-mod zero v = refl
spread-mod (suc k) v = rw (mod-half v k, mod-odd v k, spread-mod k (v / 2))

-- the k low bits, spread among more that are 0
spread-low : (k d v : ℕ) → spread_bits (k + d) (v % 2 ^ k) ≡ spread_bits k v
spread-low k d v =
    spread-add k d (v % 2 ^ k) ∙ rw (div-eq_of_lt (mod-lt v (pow_pos k)), spread-zero d, spread-mod k v) (omega arith)

-- among sixteen
of-sixteen : (k v : ℕ) → k ≤ 16 → spread_bits 16 (v % 2 ^ k) ≡ spread_bits k v
of-sixteen k v few =
    let all : k + (16 - k) ≡ 16 = omega arith in
    ap (λ (n : ℕ). spread_bits n (v % 2 ^ k)) (sym all) ∙ spread-low k (16 - k) v

-- the address is the low bits of both, spread, and above them what is left
pub address-spread : (k x y : ℕ) → address k x y ≡ (x / 2 ^ k + y / 2 ^ k) * (2 ^ k * 2 ^ k) + (spread_bits k x * 2 + spread_bits k y)
unfolding address spread_bits
address-spread zero x y = simp div-one (omega arith)
address-spread (suc k) x y =
    rw (← shift 2 x k, ← shift 2 y k, pow-succ' 2 k) (omega (arith, address-spread k (x / 2) (y / 2)))

-- what the table's form computes is the address
module _ (m x y : ℕ) (p : Placed m x y) where
  low_bits : (v : ℕ) → spread_bits 16 (bit_and v (m - 1)) ≡ spread_bits (log2 m) v
  low_bits v =
      let k : ℕ = log2 m in
      let few : k ≤ 16 = pow-le-cancel {b = 16} (omega (arith, p.power, p.small)) in
      ap (spread_bits 16) (mask-mod k v m p.power ∙ ap (λ (n : ℕ). v % n) p.power) ∙ of-sixteen k v few

  above : (v : ℕ) → v - bit_and v (m - 1) ≡ v / m * m
  above v = omega (arith, mask-mod (log2 m) v m p.power, div-add-mod' v m)

  pub by-table : ((x - bit_and x (m - 1)) + (y - bit_and y (m - 1))) * m
      + (spread_bits 16 (bit_and x (m - 1)) * 2 + spread_bits 16 (bit_and y (m - 1))) ≡ address (log2 m) x y
  by-table =
      rw (above x, above y, low_bits x, low_bits y, address-spread (log2 m) x y, ← p.power) (omega arith)

-- two bytes by their entries
spread-two-bytes : (v : ℕ) → v < 65536 → spread_by_table v ≡ spread_bits 16 v
spread-two-bytes v h =
    let low : get_or spread_table (v % 256) 0 ≡ spread_bits 8 v = entry spread_table (v % 256) refl (omega arith) ∙ spread-mod 8 v in
    let high : get_or spread_table (v / 256) 0 ≡ spread_bits 8 (v / 256) = entry spread_table (v / 256) refl (omega arith) in
    omega (arith, low, high, spread-add 8 8 v)

-- so the address through the table is the address
pub table-agrees : (gx gy x y : ℕ) → Placed (min gx gy) x y → table_address gx gy x y ≡ block_address gx gy x y
table-agrees gx gy x y p =
    let m : ℕ = min gx gy in
    let k : ℕ = log2 m in
    let few : k ≤ 16 = pow-le-cancel {b = 16} (omega (arith, p.power, p.small)) in
    let pos : 0 < m = omega (arith, p.power, pow_pos k) in
    let spread : (v : ℕ) → spread_by_table (v % m) ≡ spread_bits k v = λ v.
    spread-two-bytes (v % m) (omega (arith, mod-lt v pos, p.small))
    ∙ ap (λ (n : ℕ). spread_bits 16 (v % n)) p.power ∙ of-sixteen k v few in
    omega (arith, spread x, spread y, address-spread k x y, ap (λ (n : ℕ). n * n * (x / n + y / n)) p.power)
