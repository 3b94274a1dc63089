-- What reads take, one after another. Assumes nothing.
use Rattle.std.proofs.Common.{◌≡◌, ◌∙◌, sym, ap, ℕ, List, ◌++◌, ◌+◌, take, drop}
use Rattle.std.specs.Prelude.{Option, None, Some}
use Rattle.std.specs.Io.KnownBytes.{Consumes}
use Rattle.std.proofs.lemmas.List.{append_assoc}
use Rattle.std.proofs.Math.Seq.{take-add}

-- some bytes, and then others
takes_both : (old mid new : Option (List ℕ)) (xs ys : List ℕ) → Consumes old mid xs → Consumes mid new ys → Consumes old new (xs ++ ys)
takes_both None mid new xs ys p q = tt
takes_both (Some a) None new xs ys p q = absurd p
takes_both (Some a) (Some b) None xs ys p q = absurd q
takes_both (Some a) (Some b) (Some c) xs ys p q = p ∙ (ap (λ (z : List ℕ). xs ++ z) q ∙ sym (append_assoc xs ys c))

-- the first `count` bytes of a buffer, and then n behind them, where the first ones stay
pub takes_more : (old mid new : Option (List ℕ)) (bytes bytes' : List ℕ) (count n : ℕ)
    → Consumes old mid (take count bytes)
    → take count bytes' ≡ take count bytes
    → Consumes mid new (take n (drop count bytes'))
    → Consumes old new (take (count + n) bytes')
takes_more old mid new bytes bytes' count n p e q =
    rw (take-add count n bytes', e) (takes_both old mid new (take count bytes) (take n (drop count bytes')) p q)
