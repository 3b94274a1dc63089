-- How large the sums of nine colours are. Assumes nothing.
use Rattle.std.proofs.Common.{◌≡◌, ap, Bool, ℕ, ◌+◌, ◌-◌, ◌*◌, ◌/◌, ◌%◌, ◌≤◌, ◌<◌, arith}
use Rattle.facts.specs.Sum.{sum}
use Rattle.facts.proofs.Sum.{sum-front, products-le}
use Rattle.word.specs.Word.{Small}
use Rattle.word.specs.declared.PVRTCTexelColor.{PVRTCTexelColor}
use Rattle.texel.specs.Texel.{Words, factor}
use Rattle.texel.specs.Inner.{side, sums_to, Low}
use Rattle.texel.proofs.Shares.{factor-total}

-- how large the sums of the first n words are, where the words' colours are small
module _ (h : ℕ) (nine : Words) (second : Bool) (px py : ℕ) (hx : px < 2 * h) (hy : py < 4) where
  pub sums-low : (n : ℕ) → n ≤ 9 → ((k : ℕ) → k < 9 → Small (side second (nine (k % 3) (k / 3)))) → Low (8 * h) (sums_to h nine second px py n)
  unfolding sums_to
  sums-low n l small =
      record {
        r = channel (λ c. c.r) 31 (λ k m. (small k m).r);
        g = channel (λ c. c.g) 31 (λ k m. (small k m).g);
        b = channel (λ c. c.b) 31 (λ k m. (small k m).b);
        a = channel (λ c. c.a) 15 (λ k m. (small k m).a);
      }
    where
      channel : (c : PVRTCTexelColor → ℕ) (m : ℕ) → ((k : ℕ) → k < 9 → c (side second (nine (k % 3) (k / 3))) ≤ m)
          → sum (λ k. c (side second (nine (k % 3) (k / 3))) * factor h px py k) n ≤ m * (8 * h)
      channel c m low =
          let f : ℕ → ℕ = λ k. c (side second (nine (k % 3) (k / 3))) * factor h px py k in
          let all : n + (9 - n) ≡ 9 = omega arith in
          omega (
            arith,
            sum-front f n (9 - n),
            ap (sum f) all,
            products-le (λ k. c (side second (nine (k % 3) (k / 3)))) (factor h px py) m 9 low,
            ap (λ (t : ℕ). m * t) (factor-total h px py hx hy),
          )
