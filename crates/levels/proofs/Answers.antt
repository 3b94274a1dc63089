-- How what a file's header answers of its levels is put together, and what it gives. Assumes nothing.
use Rattle.std.proofs.Common.{◌≡◌, ℕ, ◌<◌, true, false, T, eqb, List, [], ◌∷◌, Ok, Err, Result, sym, refl, ◌∙◌, arith, ne_eqb}
use Rattle.facts.specs.Checks.{Check, check, first_of, numbered}
use Rattle.facts.proofs.Checks.{said-first, said-later}
use Rattle.facts.proofs.Lists.{choice}
use Rattle.files.specs.declared.Stored.{Stored}
use Rattle.pvr.specs.Header as pvr
use Rattle.pvr.specs.declared.HeaderRefusal.{HeaderRefusal as PvrRefusal}
use Rattle.pvr.specs.declared.Plate.{Plate as PvrPlate}
use Rattle.pvr.proofs.Answers as pvr-header
use Rattle.ktx.specs.Header as ktx
use Rattle.ktx.specs.Header.{is_ktx}
use Rattle.ktx.specs.Numbers as ktx-numbers
use Rattle.ktx.specs.Reading.{FieldsRead}
use Rattle.ktx.specs.declared.HeaderRefusal.{HeaderRefusal as KtxRefusal}
use Rattle.ktx.proofs.Answers as ktx-header
use Rattle.levels.specs.declared.Levels.{Levels}
use Rattle.levels.specs.declared.Refusal.{Refusal}
use Rattle.levels.specs.declared.Refusal.TheVariants.{Pvr, Ktx}
use Rattle.levels.specs.Inner.{FoundBehind, PvrFound, KtxFound, LevelsFound}
use Rattle.levels.specs.Numbers.{number-above}
use Rattle.levels.specs.Refusals.{ktx_header_checks, header_checks, number_of}
use Rattle.levels.proofs.Ranges.{as-pvr, as-ktx}

module _ {checks : List Check} {l : Levels} where
  -- a header that refuses, and one that does not
  pub by-refusal : {f : Refusal} → number_of f ≡ first_of checks → FoundBehind checks l (Err f)
  by-refusal {f} e =
      let n : eqb (first_of checks) 0 ≡ false = ne_eqb (first_of checks) 0 (omega (arith, number-above f)) in
      record { number = e; levels = rw n refl; low = omega arith }

  pub by-levels : {m : Levels} → 0 ≡ first_of checks → m ≡ l → m.start < 4294967360 → FoundBehind checks l (Ok m)
  by-levels e q low = record { number = e; levels = rw (← e) q; low = low }

  -- and what one gives that does not
  pub of-levels : {m : Levels} → FoundBehind checks l (Ok m) → (0 ≡ first_of checks) × (m ≡ l) × (m.start < 4294967360)
  of-levels b = (b.number, b.levels ∙ rw (← b.number) refl, b.low)

-- a KTX file
module _ (file : List ℕ) where
  pub ktx-refused : {f : KtxRefusal} → FieldsRead file (Err f) → KtxFound file (Err (Ktx f))
  ktx-refused {f} read = by-refusal (said-first (ktx.field_checks file) _ tt read.number (ktx-numbers.number-above f))

  module _ {s : Stored} (read : FieldsRead file (Ok s)) where
    -- past the fields, whether the key/value bytes are cut is what is said
    pub by-cut : {n : ℕ} → n ≡ first_of (check (ktx.key_values_cut file) 37 ∷ []) → n ≡ first_of (ktx_header_checks file)
    by-cut e = said-later (ktx.field_checks file) _ tt (ktx-header.none file read) e

    pub ktx-found : {count start : ℕ} → 0 ≡ first_of (check (ktx.key_values_cut file) 37 ∷ []) → count ≡ ktx.level_count file
        → (start ≡ ktx.size_place file) × (start < 4294967360)
        → KtxFound file (Ok (record { width = s.width; height = s.height; is2bpp = s.is2bpp; count = count; start = start; sized = true }))
    ktx-found whole many place = by-levels (by-cut whole) (rw (ktx-header.is-plate file read, many, place.0) refl) place.1

-- a file of either kind
module _ (file : List ℕ) where
  pub pvr-checks : is_ktx file ≡ false → header_checks file ≡ pvr.header_checks file
  unfolding header_checks
  pvr-checks e = rw e refl

  pub ktx-checks : is_ktx file ≡ true → header_checks file ≡ ktx_header_checks file
  unfolding header_checks
  ktx-checks e = rw e refl

  pub either-pvr : {r : Result Levels Refusal} → is_ktx file ≡ false → PvrFound file r → LevelsFound file r
  either-pvr e b = rw (pvr-checks e, as-pvr file e) b

  pub either-ktx : {r : Result Levels Refusal} → is_ktx file ≡ true → KtxFound file r → LevelsFound file r
  either-ktx e b = rw (ktx-checks e, as-ktx file e) b

  -- its header's refusals have numbers above 0
  pub numbered-header : T (numbered (header_checks file))
  unfolding header_checks
  numbered-header = choice (λ (l : List Check). T (numbered l)) (is_ktx file) (λ _. tt) (λ _. tt)
