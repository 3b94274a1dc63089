-- A KTX plate decodes as the same payload does from PVR. Assumes nothing.
use Rattle.std.proofs.Common.{◌≡◌, ℕ, ◌*◌, ◌/◌, ◌%◌, ◌≤◌, Bool, true, false, not, eqb, List, [], ◌∷◌, length, drop, Result, sym, refl, ap, ◌∙◌, subst, arith}
use Rattle.std.proofs.Common.{le-ltb, eq-eqb, eqb-true}
use borrow.Author.Tests.{eqb-false}
use Rattle.facts.specs.Checks.{Check, check, first_of}
use Rattle.facts.proofs.Checks.{none_said, neither-said}
use Rattle.files.specs.Reading.{Says}
use Rattle.files.specs.declared.Stored.{Stored}
use Rattle.pvr.specs.Header as pvr
use Rattle.pvr.specs.Reading.{pvr_says}
use Rattle.ktx.specs.Header as ktx
use Rattle.ktx.specs.Reading.{ktx_says}
use Rattle.ktx.specs.Picture as ktx-picture
use Rattle.ktx.proofs.Whole.{as-block, of-block}
use Rattle.pixel.specs.declared.ChannelOrder.{ChannelOrder}
use Rattle.pvrtc.specs.Calls.{BlockDecoded}
use Rattle.pvrtc.specs.Picture.{in_order, picture_texel}
use Rattle.pvrtc.specs.Refusals.{need, zero_side, short_data, grid_checks}
use Rattle.pvrtc.specs.declared.Call.TheVariants.{Block}
use Rattle.pvrtc.specs.declared.Picture.{Picture}
use Rattle.convert.specs.Output.{says_of, header_refusal, stored_in, picture_of, plate_of, level_data, long_skipped, long_side, large_need, other_size}
use Rattle.convert.specs.Output.{skipped_limit, own_checks, program_refusal, refused_line, tga, output}
use Rattle.convert.proofs.Answers.{tga-same, written-line}
use Rattle.convert.proofs.Either.{as-ktx, as-pvr}
use Rattle.convert.proofs.Said.{header-first}
use Rattle.demands.specs.SamePlate.{SamePlate, SameAnswers}
use Rattle.demands.proofs.Needed.{block-there, texel-there}
use Rattle.demands.proofs.Program.{block-accepted, is-tga}
use Rattle.demands.proofs.Seen.{moved-block}
use Rattle.pvrtc.specs.declared.Refusal.{Refusal}

-- what is still asked of a plate that skips little, is not cut, says no other size and has its data
abbrev rest_checks : Picture → List Check
rest_checks p = check (zero_side p) 1 ∷ check (long_side p) 22 ∷ check (large_need p) 23 ∷ grid_checks p

own-rest : (t : Stored) (len : ℕ) → long_skipped t ≡ false → t.cut ≡ false → other_size t ≡ false → short_data (picture_of t) len ≡ false
    → first_of (own_checks t len) ≡ first_of (rest_checks (picture_of t))
unfolding first_of
own-rest t len few whole fits long = simp (few, whole, fits, long)

-- where the header is accepted, that is what the program says
rest-said : (file : List ℕ) → header_refusal file ≡ 0 → long_skipped (stored_in file) ≡ false → (stored_in file).cut ≡ false
    → other_size (stored_in file) ≡ false → need (plate_of file) ≤ length (level_data file) → program_refusal file ≡ first_of (rest_checks (plate_of file))
rest-said file accepted few whole fits has =
    header-first file ∙ rw accepted refl
    ∙ own-rest (stored_in file) (length (level_data file)) few whole fits (le-ltb (length (level_data file)) (need (plate_of file)) has)

module _ {f g : List ℕ} (s : SamePlate f g) where
  f-says : says_of f ≡ pvr_says f
  f-says = as-pvr f s.is-pvr

  g-says : says_of g ≡ ktx_says g
  g-says = as-ktx g s.is-ktx

  f-number : program_refusal f ≡ first_of (rest_checks (plate_of f))
  f-number =
      rest-said f
      (ap (λ (t : Says). first_of t.refusals) f-says ∙ s.pvr-header)
      (ap (λ (t : Says). long_skipped t.plate) f-says ∙ le-ltb skipped_limit (pvr.metadata_size f) s.metadata)
      (ap (λ (t : Says). t.plate.cut) f-says)
      (ap (λ (t : Says). other_size t.plate) f-says)
      s.pvr-data

  -- the plate and the data of g, as the KTX readers have them
  g-plate : plate_of g ≡ ktx-picture.plate_of g
  g-plate = ap (λ (t : Says). picture_of t.plate) g-says

  g-data : level_data g ≡ ktx-picture.level_data g
  g-data = ap (λ (t : Says). drop t.plate.payload g) g-says

  g-size : ktx.size_word_of g ≡ need (ktx-picture.plate_of g)
  g-size = s.size_word ∙ ap need g-plate

  has-g : need (plate_of g) ≤ length (level_data g)
  has-g = subst (λ (p : Picture). need p ≤ length (level_data g)) s.plate s.ktx-data

  g-number : program_refusal g ≡ first_of (rest_checks (plate_of g))
  g-number =
      rest-said g
      (ap (λ (t : Says). first_of t.refusals) g-says
      ∙ (neither-said (ktx.field_checks g) (check (ktx.cut_short g) 37 ∷ []) tt s.ktx-header).0)
      (ap (λ (t : Says). long_skipped t.plate) g-says ∙ le-ltb skipped_limit (ktx.key_value_bytes g) s.key-values)
      (ap (λ (t : Says). t.plate.cut) g-says ∙ none_said (ktx.header_checks g) tt s.ktx-header 37)
      (ap (λ (t : Says). other_size t.plate) g-says ∙ ap not (eq-eqb (ktx.size_word_of g) _ g-size))
      has-g

  same_number : program_refusal f ≡ program_refusal g
  same_number = f-number ∙ ap (λ (p : Picture). first_of (rest_checks p)) s.plate ∙ sym g-number

  there : (order : ChannelOrder) {old new : List ℕ} {r : Result (Unit {0}) Refusal} → BlockDecoded (in_order order (plate_of f)) (level_data f) old new r
      → BlockDecoded (in_order order (plate_of f)) (level_data g) old new r
  there order = block-there (in_order order (plate_of f)) (level_data f) (level_data g) s.pvr-data s.ktx-data s.payload

  back : (order : ChannelOrder) {old new : List ℕ} {r : Result (Unit {0}) Refusal} → BlockDecoded (in_order order (plate_of f)) (level_data g) old new r
      → BlockDecoded (in_order order (plate_of f)) (level_data f) old new r
  back order = block-there (in_order order (plate_of f)) (level_data g) (level_data f) s.ktx-data s.pvr-data (λ i h. sym (s.payload i h))

  -- where f's picture is written, each of its texels is that of g's data
  same-texel : program_refusal f ≡ 0 → (x y : ℕ) → picture_texel (plate_of f) (level_data f) x y ≡ picture_texel (plate_of f) (level_data g) x y
  same-texel none =
      texel-there (plate_of f) (level_data f) (level_data g) s.pvr-data s.ktx-data s.payload (Block ((plate_of f).width * (plate_of f).height))
      (block-accepted f none)

  same-written : (t : Bool) → eqb (program_refusal f) 0 ≡ t → output f ≡ output g
  same-written true e =
      let none : program_refusal f ≡ 0 = eqb-true (program_refusal f) 0 e in
      is-tga f none
      ∙ tga-same (plate_of f).width (plate_of f).height _ _ (λ k l. same-texel none (k % (plate_of f).width) (k / (plate_of f).width))
      ∙ ap (λ (p : Picture). tga p (level_data g)) s.plate
      ∙ sym (is-tga g (sym same_number ∙ none))
  same-written false e =
      let other : program_refusal f ≡ 0 → ⊥ = eqb-false (program_refusal f) 0 e in
      written-line (program_refusal f) (plate_of f) (level_data f) (omega arith)
      ∙ ap refused_line same_number
      ∙ sym (written-line (program_refusal g) (plate_of g) (level_data g) (omega (arith, same_number)))

  pub same-answers : SameAnswers f g
  same-answers =
      let plate : plate_of f ≡ ktx-picture.plate_of g = s.plate ∙ g-plate in
      record {
        written = same-written (eqb (program_refusal f) 0) refl;
        picture = λ order old new r. let both = ap (in_order order) plate in (
          λ b. of-block g s.ktx-header g-size r (moved-block both g-data (there order b)),
          λ a. back order (moved-block (sym both) (sym g-data) (as-block g s.ktx-header g-size r a)),
        );
      }
