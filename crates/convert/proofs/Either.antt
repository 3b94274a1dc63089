-- What a file says, by the kind that it is taken for. Assumes nothing.
use Rattle.std.proofs.Common.{◌≡◌, ℕ, ◌+◌, ◌≤◌, Bool, true, false, cond, T, List, ◌++◌, length, refl, arith, ◌<◌}
use Rattle.facts.specs.Checks.{numbered}
use Rattle.files.specs.Reading.{Says}
use Rattle.files.proofs.Starts.{start-before}
use Rattle.files.proofs.Answers.{said-below, numbers_below}
use Rattle.pvr.specs.Header as pvr
use Rattle.pvr.specs.Reading.{pvr_says}
use Rattle.ktx.specs.Header as ktx
use Rattle.ktx.specs.Header.{ktx_bytes, is_ktx}
use Rattle.ktx.specs.Reading.{ktx_says}
use Rattle.convert.specs.Output.{says_of, stored_in, header_refusal}

-- it is KTX's reader that speaks, or PVR's
pub as-ktx : (file : List ℕ) → is_ktx file ≡ true → says_of file ≡ ktx_says file
unfolding says_of
as-ktx file e = rw e

pub as-pvr : (file : List ℕ) → is_ktx file ≡ false → says_of file ≡ pvr_says file
unfolding says_of
as-pvr file e = rw e

-- what holds of both readers' answers holds of what is said
pub either : (Q : Says → Type 0) (file : List ℕ) → Q (ktx_says file) → Q (pvr_says file) → Q (says_of file)
unfolding says_of
either Q file k p = by (is_ktx file)
  where
    by : (t : Bool) → Q (cond t (ktx_says file) (pvr_says file))
    by true = k
    by false = p

-- and what holds of what both say before and after more bytes, where the first four tell the kind
pub either-before : (Q : Says → Says → Type 0) (file more : List ℕ) → 4 ≤ length file
    → (is_ktx file ≡ true → Q (ktx_says (file ++ more)) (ktx_says file)) → (is_ktx file ≡ false → Q (pvr_says (file ++ more)) (pvr_says file))
    → Q (says_of (file ++ more)) (says_of file)
unfolding says_of
either-before Q file more h k p = rw (start-before file more ktx_bytes h) (by (is_ktx file) refl)
  where
    by : (t : Bool) → is_ktx file ≡ t → Q (cond t (ktx_says (file ++ more)) (pvr_says (file ++ more))) (cond t (ktx_says file) (pvr_says file))
    by true e = k e
    by false e = p e

-- a plate's data begins no more than 68 bytes behind what is skipped, and no less than 52
pub payload-near : (file : List ℕ) → (stored_in file).payload ≤ ktx.header_size + 4 + (stored_in file).skipped
payload-near file = either (λ s. s.plate.payload ≤ ktx.header_size + 4 + s.plate.skipped) file (omega arith) (omega arith)

pub payload-behind : (file : List ℕ) → pvr.header_size ≤ (stored_in file).payload
payload-behind file = either (λ s. pvr.header_size ≤ s.plate.payload) file (omega arith) (omega arith)

-- every number is above 0, and below 100
pub all-numbered : (file : List ℕ) → T (numbered (says_of file).refusals)
all-numbered file = either (λ s. T (numbered s.refusals)) file tt tt

pub header-small : (file : List ℕ) → header_refusal file < 100
header-small file =
    said-below 100 (says_of file).refusals (either (λ s. T (numbers_below 100 s.refusals)) file tt tt) (omega arith)
