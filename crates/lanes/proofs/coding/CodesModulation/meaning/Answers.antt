-- `meaning` of `lanes::Codes` meets its contract, at each of the eight codes. Assumes nothing.
use Rattle.std.proofs.Common.{◌≡◌, ℕ, zero, suc, ◌*◌, ◌/◌, ◌%◌, ◌^◌, ◌<◌, ◌≤◌, Bool, true, false, cond, ◌&&◌, eqb, List, [], ◌∷◌, slice_index_or, refl, arith}
use mir.Val.{bool_byte}
use Rattle.word.specs.Word.{standard_weight, punch_through_weight}
use Rattle.lanes.specs.declared.Meaning.{Meaning}
use Rattle.lanes.specs.Block4bpp.{code_meaning}
use Rattle.lanes.specs.Lanes.{bytes, clear, Mask}
use Rattle.lanes.proofs.coding.CodesModulation.meaning.Goals as goal

-- a code that is kept whole
abbrev whole : ℕ → Meaning
whole w = record { weight = w; keep = bytes }

-- what mode p's code k is read as
abbrev told : Bool → ℕ → Meaning
told p k =
    slice_index_or (slice_index_or {A = List Meaning} (
    (whole 0 ∷ whole 3 ∷ whole 5 ∷ whole 8 ∷ []) ∷ (whole 0 ∷ whole 4 ∷ record { weight = 4; keep = clear } ∷ whole 8 ∷ []) ∷ []
    ) (bool_byte p) []) k (record { weight = 0; keep = 0 })

abbrev Means : Bool → ℕ → Meaning → Type 0
Means p k m =
    (m ≡ record { weight = cond p (punch_through_weight k) (standard_weight k); keep = cond (p && eqb k 2) clear bytes })
    × (m.weight ≤ 15) × Mask m.keep

means : (p : Bool) (k : ℕ) → k < 4 → Means p k (told p k)
means true zero h = (refl, omega arith, record { all = omega arith; low = refl })
means true (suc zero) h = (refl, omega arith, record { all = omega arith; low = refl })
means true (suc (suc zero)) h = (refl, omega arith, record { all = omega arith; low = refl })
means true (suc (suc (suc zero))) h = (refl, omega arith, record { all = omega arith; low = refl })
means true (suc (suc (suc (suc k)))) h = absurd (omega arith)
means false zero h = (refl, omega arith, record { all = omega arith; low = refl })
means false (suc zero) h = (refl, omega arith, record { all = omega arith; low = refl })
means false (suc (suc zero)) h = (refl, omega arith, record { all = omega arith; low = refl })
means false (suc (suc (suc zero))) h = (refl, omega arith, record { all = omega arith; low = refl })
means false (suc (suc (suc (suc k)))) h = absurd (omega arith)

pub returns : goal.returns
unfolding code_meaning
returns c = let row = c.args.row in means row.punches (row.modulation / 2 ^ (2 * c.args.i) % 4) (omega arith)
