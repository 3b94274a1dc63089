-- The header's refusals as they were while flags had no effect (document 01, with the numbers of W4), beside those of today (document 02, W7). Nothing
-- is read by the old list any more. Assumes nothing: these are definitions.
use Rattle.std.specs.Prelude.{◌≡◌, Bool, true, cond, not, ◌&&◌, ◌||◌, List, ◌∷◌, ◌↔◌, ℕ, ◌<◌, eqb}
use Rattle.facts.specs.Checks.{Check, check, first_of}
use Rattle.pvr.specs.Header.{short_header, not_pvr, unknown_format, count_checks}

-- The refusals of the header, in their order.
abbrev pub any_flags_checks : List ℕ → List Check
any_flags_checks file =
    check (short_header file) 11
    ∷ check (not_pvr file) 12
    ∷ check (unknown_format file) 13
    ∷ count_checks file

-- The number that reading a header said.
abbrev pub any_flags_refusal : List ℕ → ℕ
any_flags_refusal file = first_of (any_flags_checks file)

-- A number by which a file passes the checks before the flags: neither 11 nor 12.
abbrev pub passes : ℕ → Bool
passes n = not (eqb n 11 || eqb n 12)

-- The number that is said where `before` was: 18 where the flags are unknown and both 11 and 12 are passed, else the same.
abbrev pub stopped : (unknown : Bool) (before : ℕ) → ℕ
stopped unknown before = cond (unknown && passes before) 18 before

-- The number said today and the one said before: refused today and not before is exactly what has unknown flags and was not refused.
pub record StopsFlags (unknown : Bool) (today before : ℕ) : Type 0 where
  pub number : today ≡ stopped unknown before
  pub newly : ((0 < today) × (before ≡ 0)) ↔ ((unknown ≡ true) × (before ≡ 0))
