-- What a word's codes say at 4bpp is what the definition says. Assumes nothing.
use Rattle.std.proofs.Common.{◌≡◌, ℕ, ◌+◌, ◌*◌, ◌/◌, ◌%◌, ◌^◌, Bool, true, false, cond, ◌&&◌, eqb, List, sym, refl, ap, ◌∙◌, arith, shr-shr, eq-eqb, ne_eqb}
use Rattle.std.proofs.Common.{get_or}
use Rattle.texel.specs.Texel.{Words, near, filled, rule_at, punched}
use Rattle.texel.proofs.Range.{words}
use Rattle.word.proofs.Bounds.{weights-4, punch-bit, never-filled}
use Rattle.word.specs.declared.Fill.{Fill}
use Rattle.word.specs.declared.Fill.TheVariants.{Nothing}
use Rattle.word.specs.Word.{modulation, mode, code, standard_weight, punch_through_weight, weight4bpp, punch4bpp}
use Rattle.lanes.specs.Block.{Said}
use Rattle.lanes.specs.Block4bpp.{codes_of, codes_at, code_meaning}
use Rattle.lanes.specs.Lanes.{bytes, clear}

-- the code of texel (x, y), by its row
code_at : (m x y : ℕ) → code (m / 2 ^ (8 * y)) x ≡ code m (4 * y + x)
code_at m x y =
    let e : 8 * y + 2 * x ≡ 2 * (4 * y + x) = omega arith in
    ap (λ (n : ℕ). n % 4) (shr-shr m (8 * y) (2 * x) ∙ ap (λ (n : ℕ). m / 2 ^ n) e)

-- the mode is the low bit of byte 4
pub mode-is : (w : List ℕ) → mode w ≡ eqb (get_or w 4 0 % 2) 1
mode-is w =
    let e : (get_or w 4 0 + 256 * get_or w 5 0) / 2 ^ 0 % 2 ≡ get_or w 4 0 % 2 = omega arith in
    ap (λ (n : ℕ). eqb n 1) e

-- a bit that is 1 where t holds
bit_is : (t : Bool) (n : ℕ) → n ≡ cond t 1 0 → eqb n 1 ≡ t
bit_is true n e = eq-eqb n 1 e
bit_is false n e = ne_eqb n 1 (omega arith)

-- a 4bpp word fills nothing
no-rule : (even : Bool) (f : Fill) → f ≡ Nothing → cond even Nothing f ≡ Nothing
no-rule true f e = refl
no-rule false f e = e

-- of the middle one of nine words
pub is_said : (of : ℕ → ℕ → List ℕ) → Said false of (λ y. code_meaning (codes_at (codes_of (of 1 1)) y))
unfolding codes_of code_meaning weight4bpp punch4bpp filled near
is_said of x y hx hy = (weight, keep)
  where
    own : List ℕ
    own = of 1 1

    nine : Words
    nine = words false of

    i : ℕ
    i = 4 * y + x

    c : ℕ
    c = code (modulation own) i

    weight : cond (mode own) (punch_through_weight (code (modulation own / 2 ^ (8 * y)) x)) (standard_weight (code (modulation own / 2 ^ (8 * y)) x))
        ≡ filled 2 (rule_at (nine 1 1) x y) nine (x + 4) (y + 4)
    weight =
        let a : (x + 4) / 4 ≡ 1 = omega arith in
        let b : (x + 4) % 4 ≡ x = omega arith in
        let d : (y + 4) / 4 ≡ 1 = omega arith in
        let e : (y + 4) % 4 ≡ y = omega arith in
        ap (λ (c : ℕ). cond (mode own) (punch_through_weight c) (standard_weight c)) (code_at (modulation own) x y)
        ∙ sym (weights-4 own i (omega arith))
        ∙ sym (ap (λ (f : Fill). filled 2 f nine (x + 4) (y + 4)) (no-rule (eqb ((x + y) % 2) 0) (nine 1 1).fill (never-filled own)) ∙ rw (a, b, d, e))

    keep : cond (mode own && eqb (code (modulation own / 2 ^ (8 * y)) x) 2) clear bytes ≡ cond (punched 2 (nine 1 1) x y) clear bytes
    keep =
        ap (λ (c : ℕ). cond (mode own && eqb c 2) clear bytes) (code_at (modulation own) x y)
        ∙ ap (λ (t : Bool). cond t clear bytes) (sym (bit_is (punch4bpp (mode own) (modulation own) i) _ (punch-bit own i (omega arith))))
