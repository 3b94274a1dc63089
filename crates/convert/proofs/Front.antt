-- Bytes laid in front of lent ones, from the first on. Assumes nothing.
use Rattle.std.proofs.Common.{◌≡◌, ℕ, ◌+◌, ◌-◌, ◌*◌, ◌<◌, ◌≤◌, List, ◌++◌, length, take, drop, get_or, sym, ap, ◌∙◌, ⊎_elim, arith}
use Rattle.std.proofs.Common.{length-append, length-drop, append_assoc, get_or-append-add, get_or-drop}
use lib.ListN.{get_or-append}
use lib.Seq.{take-append_seam}
use Rattle.facts.specs.Tab.{tab}
use Rattle.facts.proofs.Numbers.{lt-or-le}
use Rattle.facts.proofs.Tab.{length-tab, tab-front}
use Rattle.paint.specs.Paint.{painted}
use Rattle.paint.proofs.Painted.{Outside, is-painted}
use Rattle.convert.specs.Output.{laid}

pub length-laid : (l old : List ℕ) → length l ≤ length old → length (laid l old) ≡ length old
length-laid l old fits = length-append l (drop (length l) old) ∙ omega (arith, length-drop (length l) old)

-- what stands in front of the lent bytes is what was laid
pub in-front : (l old : List ℕ) → take (length l) (laid l old) ≡ l
in-front l old = take-append_seam l (drop (length l) old)

-- a function's first values behind what was laid
pub laid_more : (l : List ℕ) (g : ℕ → ℕ) (n : ℕ) (old : List ℕ) → length l + n ≤ length old
    → painted (length l) n n 1 (λ i _. g i) (laid l old) ≡ laid (l ++ tab g n) old
laid_more l g n old room =
    sym (is-painted (length l) n n 1 (omega arith) (λ i _. g i) (laid l old) all same_length (λ x y hx hy m. new x y hx hy) behind)
  where
    size : length (l ++ tab g n) ≡ length l + n
    size = length-append l (tab g n) ∙ ap (λ (k : ℕ). length l + k) (length-tab g n)

    all : List ℕ
    all = laid (l ++ tab g n) old

    rest : List ℕ
    rest = drop (length (l ++ tab g n)) old

    same_length : length all ≡ length (laid l old)
    same_length = length-laid (l ++ tab g n) old (omega (arith, size)) ∙ sym (length-laid l old (omega arith))

    -- byte j past what was laid first
    past : (j : ℕ) → get_or all (length l + j) 0 ≡ get_or (tab g n ++ rest) j 0
    past j = ap (λ (m : List ℕ). get_or m (length l + j) 0) (append_assoc l (tab g n) rest) ∙ get_or-append-add l (tab g n ++ rest) j 0

    new : (x y : ℕ) → x < n → y < 1 → get_or all (length l + (y * n + x)) 0 ≡ g x
    new x y hx hy =
        let first : y ≡ 0 = omega arith in
        let here : length l + (y * n + x) ≡ length l + x = rw first (omega arith) in
        rw here (past x ∙ tab-front g n x rest 0 hx)

    last : (j : ℕ) → n ≤ j → get_or (tab g n ++ rest) j 0 ≡ get_or (drop (length l) old) j 0
    last j h =
        let at : length (tab g n) + (j - n) ≡ j = omega (arith, length-tab g n) in
        let in-old : length (l ++ tab g n) + (j - n) ≡ length l + j = omega (arith, size) in
        ap (λ (k : ℕ). get_or (tab g n ++ rest) k 0) (sym at)
        ∙ get_or-append-add (tab g n) rest (j - n) 0
        ∙ get_or-drop (length (l ++ tab g n)) old (j - n) 0
        ∙ ap (λ (k : ℕ). get_or old k 0) in-old
        ∙ sym (get_or-drop (length l) old j 0)

    behind : (k : ℕ) → Outside (length l) n n 1 k → get_or all k 0 ≡ get_or (laid l old) k 0
    behind k out =
        ⊎_elim
        (λ less. ap (λ (m : List ℕ). get_or m k 0) (append_assoc l (tab g n) rest) ∙ get_or-append l (tab g n ++ rest) 0 k less ∙ sym
        (get_or-append l (drop (length l) old) 0 k less))
        (λ more.
        let at : length l + (k - length l) ≡ k = omega arith in
        ⊎_elim
        (λ inside. absurd (out (k - length l) 0 inside (omega arith) (omega arith)))
        (λ after. ap (λ (i : ℕ). get_or all i 0) (sym at) ∙ past (k - length l) ∙ last (k - length l) after ∙ sym
        (get_or-append-add l (drop (length l) old) (k - length l) 0)
        ∙ ap (λ (i : ℕ). get_or (laid l old) i 0) at)
        (lt-or-le (k - length l) n))
        (lt-or-le k (length l))
