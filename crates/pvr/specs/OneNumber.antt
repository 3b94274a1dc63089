-- The header's refusals as they were while one number, 14, spoke for four fields and did not say which (document 01), beside those of today
-- (document 02, W4). Nothing is read by the old list any more. Assumes nothing: these are definitions.
use Rattle.std.specs.Prelude.{◌≡◌, Bool, not, ◌||◌, List, [], ◌∷◌, ◌↔◌, ℕ, ◌≤◌, eqb}
use Rattle.facts.specs.Checks.{Check, check, first_of}
use Rattle.pvr.specs.Header.{depth_field, surfaces_field, faces_field, levels_field, short_header, not_pvr, unknown_format}

-- Depth, surfaces or faces is not 1, or levels is 0.
unfoldable pub not_one_plate : List ℕ → Bool
not_one_plate file =
    not (eqb (depth_field file) 1) || not (eqb (surfaces_field file) 1) || not (eqb (faces_field file) 1) || eqb (levels_field file) 0

-- The refusals of the header, in their order.
abbrev pub one_number_checks : List ℕ → List Check
one_number_checks file =
    check (short_header file) 11
    ∷ check (not_pvr file) 12
    ∷ check (unknown_format file) 13
    ∷ check (not_one_plate file) 14
    ∷ []

-- The number that reading a header said.
abbrev pub one_number_refusal : List ℕ → ℕ
one_number_refusal file = first_of (one_number_checks file)

-- A number of one of the four fields.
abbrev pub OfField : ℕ → Type 0
OfField n = (14 ≤ n) × (n ≤ 17)

-- The number said today and the one said before: one of 14 to 17 exactly where it was 14, and every other number is what it was.
pub record SaysWhich (today before : ℕ) : Type 0 where
  pub field : OfField today ↔ (before ≡ 14)
  pub other : (before ≡ 14 → ⊥) → today ≡ before
