-- How a reader's answer is met, and what it gives. Assumes nothing.
use Rattle.std.proofs.Common.{◌≡◌, ℕ, ◌<◌, Bool, true, false, cond, ◌&&◌, T, List, [], ◌∷◌, Ok, Err, Result, sym, refl, ap, ◌∙◌, arith, ltb, ltb→lt, lt→ltb}
use Rattle.facts.specs.Checks.{Check, check, first_of}
use Rattle.facts.proofs.Finite.{and_left, and_right}
use Rattle.facts.proofs.Said.{same-answer}
use Rattle.files.specs.Reading.{Says, Shown}
use Rattle.files.specs.declared.Stored.{Stored}

-- the plate of an answer, or another one where it is a refusal
abbrev plate_or : {E : Type 0} → Stored → Result Stored E → Stored
plate_or other (Ok p) = p
plate_or other (Err f) = other

module _ {E : Type 0} {number : E → ℕ} {s : Says} where
  -- a reason is said, or none
  pub by_number : {f : E} → number f ≡ first_of s.refusals → Shown number s (Err f)
  by_number e = record { refusal = e; plate = tt }

  pub by-plate : {p : Stored} → 0 ≡ first_of s.refusals → p ≡ s.plate → Shown number s (Ok p)
  by-plate z e = record { refusal = z; plate = e }

  -- an answer that is a reason has the first refusal's number
  pub of_number : {f : E} → Shown number s (Err f) → first_of s.refusals ≡ number f
  of_number a = sym a.refusal

  -- one that is a plate is the file's, and nothing is refused
  pub of-plate : {p : Stored} → Shown number s (Ok p) → (first_of s.refusals ≡ 0) × (p ≡ s.plate)
  of-plate a = (sym a.refusal, a.plate)

  -- and where no two reasons have the same number, one answer says what a file says
  module _ (above : (f : E) → 0 < number f) (one_to_one : (f g : E) → number f ≡ number g → f ≡ g) where
    the-plate : (r : Result Stored E) → Shown number s r → plate_or s.plate r ≡ s.plate
    the-plate (Ok p) a = a.plate
    the-plate (Err f) a = refl

    pub one-shown : (q r : Result Stored E) → Shown number s q → Shown number s r → q ≡ r
    one-shown q r a b =
        same-answer number above one_to_one (plate_or s.plate) (λ p. refl) q r (a.refusal ∙ sym b.refusal) (the-plate q a ∙ sym (the-plate r b))

-- a check made by itself, of a condition that is the list's: past one that refuses nothing what the rest says is said, and of one that refuses its number
module _ {holds b : Bool} {n : ℕ} (k : ℕ) (l : List Check) (e : holds ≡ b) where
  pub past : 0 < k → 0 ≡ first_of (check holds k ∷ []) → n ≡ first_of l → n ≡ first_of (check b k ∷ l)
  unfolding first_of
  past h none q = rw (← e) (by holds none)
    where
      by : (t : Bool) → 0 ≡ cond t k 0 → n ≡ cond t k (first_of l)
      by true z = absurd (omega (arith, z))
      by false z = q

  pub stopped : 0 < n → n ≡ first_of (check holds k ∷ []) → n ≡ first_of (check b k ∷ l)
  unfolding first_of
  stopped h said = rw (← e) (by holds said)
    where
      by : (t : Bool) → n ≡ cond t k 0 → n ≡ cond t k (first_of l)
      by true z = z
      by false z = absurd (omega (arith, z))

-- whether all numbers of a list pass a test
abbrev pub numbers_pass : (test : ℕ → Bool) → List Check → Bool
numbers_pass test [] = true
numbers_pass test (c ∷ l) = test c.number && numbers_pass test l

-- then so does the one that it says, or 0
pub said-passes : (test : ℕ → Bool) (l : List Check) → T (test 0) → T (numbers_pass test l) → T (test (first_of l))
unfolding first_of
said-passes test [] z e = z
said-passes test (c ∷ l) z e = by c.holds (said-passes test l z (and_right (test c.number) (numbers_pass test l) e))
  where
    by : (t : Bool) → T (test (first_of l)) → T (test (cond t c.number (first_of l)))
    by true rest = and_left (test c.number) (numbers_pass test l) e
    by false rest = rest

-- so where all are below m, it is
abbrev pub numbers_below : (m : ℕ) → List Check → Bool
numbers_below m l = numbers_pass (λ n. ltb n m) l

pub said-below : (m : ℕ) (l : List Check) → T (numbers_below m l) → 0 < m → first_of l < m
said-below m l e h = ltb→lt (first_of l) m (said-passes (λ n. ltb n m) l (lt→ltb 0 m h) e)

-- two files that say the same: the same number, and the same plate
pub record SameSays (s t : Says) : Type 0 where
  pub number : first_of s.refusals ≡ first_of t.refusals
  pub plate : s.plate ≡ t.plate

-- two files that say the same of their headers: the same number, and as much to skip
pub record SameHead (s t : Says) : Type 0 where
  pub number : first_of s.refusals ≡ first_of t.refusals
  pub skipped : s.plate.skipped ≡ t.plate.skipped

pub head-same : {s t : Says} → SameSays s t → SameHead s t
head-same a = record { number = a.number; skipped = ap (λ (p : Stored). p.skipped) a.plate }
