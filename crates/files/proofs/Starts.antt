-- Comparing a file's first bytes from the front on. Assumes nothing.
use Rattle.std.proofs.Common.{◌≡◌, ℕ, suc, ◌<◌, ◌≤◌, Bool, true, false, ◌&&◌, eqb, ltb, List, [], ◌∷◌, ◌++◌, length, get_or, take, sym, refl, ap, ◌∙◌, ⊎_elim}
use Rattle.std.proofs.Common.{le_of_suc-le-suc, not-suc-le-zero, arith, length-append, ltb-false, ltb-true, le-ltb, lt-ltb}
use lib.ListN.{get_or-append}
use lib.Pointwise.{pointwise}
use Rattle.std.proofs.lemmas.Cmp.{nat_eq_equiv}
use Rattle.facts.proofs.Numbers.{lt-or-le}
use Rattle.files.specs.Fields.{starts_with}

-- a file that is too short does not start with the bytes
pub too_short : (f p : List ℕ) → length f < length p → false ≡ starts_with f p
unfolding starts_with
too_short f [] h = absurd (not-suc-le-zero h)
too_short [] (b ∷ p) h = refl
too_short (a ∷ f) (b ∷ p) h = rw (← too_short f p (le_of_suc-le-suc h)) (with-false (eqb a b))
  where
    with-false : (t : Bool) → false ≡ (t && false)
    with-false true = refl
    with-false false = refl

-- two files that are long enough and alike there start with the same bytes
pub same_start : (f g p : List ℕ) → length p ≤ length f → length p ≤ length g → ((i : ℕ) → i < length p → get_or f i 0 ≡ get_or g i 0)
    → starts_with f p ≡ starts_with g p
unfolding starts_with
same_start f g [] hf hg e = refl
same_start [] g (b ∷ p) hf hg e = absurd (not-suc-le-zero hf)
same_start (a ∷ f) [] (b ∷ p) hf hg e = absurd (not-suc-le-zero hg)
same_start (a ∷ f) (a' ∷ g) (b ∷ p) hf hg e =
    rw (e 0 (omega arith), same_start f g p (le_of_suc-le-suc hf) (le_of_suc-le-suc hg) (λ i h. e (suc i) (omega arith)))

-- so later bytes do not change what a file starts with
pub start-before : (file more p : List ℕ) → length p ≤ length file → starts_with (file ++ more) p ≡ starts_with file p
start-before file more p h =
    same_start (file ++ more) file p (omega (arith, length-append file more)) h (λ i l. get_or-append file more 0 i (omega arith))

-- two files that are alike there start alike, if both are too short for it or neither is
pub start-alike : (f g p : List ℕ) → ltb (length f) (length p) ≡ ltb (length g) (length p) → ((i : ℕ) → i < length p → get_or f i 0 ≡ get_or g i 0)
    → starts_with f p ≡ starts_with g p
start-alike f g p h e =
    ⊎_elim
    (λ short. sym (too_short f p short) ∙ too_short g p (ltb-true (length g) (length p) (sym h ∙ lt-ltb (length f) (length p) short)))
    (λ long. same_start f g p long (ltb-false (length g) (length p) (sym h ∙ le-ltb (length f) (length p) long)) e)
    (lt-or-le (length f) (length p))

-- and so do two files of one length, however short they are
pub start-even : (f g p : List ℕ) → length f ≡ length g → ((i : ℕ) → i < length p → get_or f i 0 ≡ get_or g i 0)
    → starts_with f p ≡ starts_with g p
start-even f g p h e = start-alike f g p (ap (λ (n : ℕ). ltb n (length p)) h) e

-- the library's comparison, byte by byte of what is compared
pub start-compared : (f p : List ℕ) → pointwise eqb p (take (length p) f) ≡ starts_with f p
unfolding starts_with
start-compared f [] = refl
start-compared [] (b ∷ p) = refl
start-compared (a ∷ f) (b ∷ p) = rw (nat_eq_equiv.symm b a, start-compared f p) refl
