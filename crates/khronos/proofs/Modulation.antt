-- The modulation at a texel, stored or filled, is its weight. Assumes nothing.
use Rattle.std.proofs.Common.{◌≡◌, ℕ, zero, suc, ◌+◌, ◌-◌, ◌*◌, ◌/◌, ◌%◌, ◌<◌, Bool, true, false, cond, not, ◌&&◌, eqb, List, refl, ◌∙◌, mod-lt, arith}
use Rattle.facts.specs.Bits.{is_set}
use Rattle.grid.specs.Grid.{half, beside}
use Rattle.word.specs.Word as word
use Rattle.word.specs.Word.{mode, fill2bpp, word_of}
use Rattle.word.specs.declared.Fill.TheVariants.{Nothing, Around, AboveBelow, LeftRight}
use Rattle.texel.specs.Texel.{Words, near, mean2, mean4, filled, rule_at, about}
use Rattle.khronos.specs.Agrees.{Bytes}
use Rattle.khronos.specs.Khronos.{word64, stored, interpolated, modulation}
use Rattle.khronos.proofs.Fields.{parts, is-mode, bit-0, bit-20}
use Rattle.khronos.proofs.Round.{Round, here, back, on}
use Rattle.khronos.proofs.Weights.{is-stored}

-- a word's fill rule at either depth
is-filled : (two : Bool) (d : List ℕ) → (word_of two d).fill ≡ fill2bpp (two && mode d) (word.modulation d)
unfolding word_of fill2bpp
is-filled true d = refl
is-filled false d = refl

-- a number is odd where it is not even
odd : (n : ℕ) → eqb (n % 2) 1 ≡ not (eqb (n % 2) 0)
odd n = by (n % 2) (omega arith)
  where
    by : (r : ℕ) → r < 2 → eqb r 1 ≡ not (eqb r 0)
    by zero h = refl
    by (suc zero) h = refl
    by (suc (suc r)) h = absurd (omega arith)

-- a block has texels
pub positive : (two : Bool) → 0 < half two
positive true = omega arith
positive false = omega arith

module _ (two : Bool) (gx gy : ℕ) (lx : 0 < gx) (ly : 0 < gy) (bytes : ℕ → ℕ → List ℕ) (l : (i j : ℕ) → Bytes (bytes i j)) (x y : ℕ) where
  -- the nine blocks about the texel, and where it stands in them
  abbrev nine : Words
  nine = about gx gy (λ i j. word_of two (bytes i j)) (x / (2 * half two)) (y / 4)

  abbrev u : ℕ
  u = x % (2 * half two) + 2 * half two

  abbrev v : ℕ
  v = y % 4 + 4

  -- the modulation stored round the picture
  abbrev at : ℕ → ℕ → ℕ
  at = stored two gx gy (λ i j. word64 (bytes i j))

  same-stored : {i j x' y' : ℕ} → Round (half two) gx x i x' → Round 2 gy y j y' → near (half two) nine i j ≡ at x' y'
  unfolding near stored
  same-stored {i} {j} a b =
      let column : ℕ = beside gx (x / (2 * half two)) (i / (2 * half two)) in
      let row : ℕ = beside gy (y / 4) (j / 4) in
      is-stored two (bytes column row) (l column row) (i % (2 * half two)) (j % 4) (mod-lt i (omega (arith, positive two))) (omega arith)
      ∙ rw (a.block, a.place, b.block, b.place)

  across : Round (half two) gx x u x
  across = here (half two) gx x (positive two) lx

  down : Round 2 gy y v y
  down = here 2 gy y (omega arith) ly

  own : near (half two) nine u v ≡ at x y
  own = same-stored across down

  above : near (half two) nine u (v - 1) ≡ at x (y + gy * 4 - 1)
  above = same-stored across (back 2 gy y (omega arith) ly)

  below : near (half two) nine u (v + 1) ≡ at x (y + 1)
  below = same-stored across (on 2 gy y (omega arith) ly)

  left : near (half two) nine (u - 1) v ≡ at (x + gx * (2 * half two) - 1) y
  left = same-stored (back (half two) gx x (positive two) lx) down

  right : near (half two) nine (u + 1) v ≡ at (x + 1) y
  right = same-stored (on (half two) gx x (positive two) lx) down

  -- by the four tests that a filling makes
  by_tests : (even one s t : Bool) → filled (half two) (cond even Nothing (cond one (cond s (cond t AboveBelow LeftRight) Around) Nothing)) nine u v
      ≡ cond (one && not even)
      (cond s
      (cond t (mean2 (at x (y + gy * 4 - 1)) (at x (y + 1))) (mean2 (at (x + gx * (2 * half two) - 1) y) (at (x + 1) y)))
      (mean4 (at x (y + gy * 4 - 1)) (at x (y + 1)) (at (x + gx * (2 * half two) - 1) y) (at (x + 1) y)))
      (at x y)
  unfolding filled
  by_tests true true s t = own
  by_tests true false s t = own
  by_tests false false s t = own
  by_tests false true true true = rw (above, below)
  by_tests false true true false = rw (left, right)
  by_tests false true false t = rw (above, below, left, right)

  pub same-weight : (d : List ℕ) → Bytes d
      → filled (half two) (rule_at (word_of two d) (x % (2 * half two)) (y % 4)) nine u v ≡ modulation two gx gy (λ i j. word64 (bytes i j)) (word64 d) x y
  unfolding modulation interpolated fill2bpp
  same-weight d ld =
      rw (is-filled two d, odd (x % (2 * half two) + y % 4), is-mode (parts d ld), bit-0 (parts d ld), bit-20 (parts d ld))
      (by_tests (eqb ((x % (2 * half two) + y % 4) % 2) 0) (two && mode d) (is_set (word.modulation d) 0) (is_set (word.modulation d) 20))
