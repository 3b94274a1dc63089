-- That a call's answer in C is one, and how a texel's comes back from its number. Assumes nothing.
use Rattle.std.proofs.Common.{◌≡◌, ℕ, ◌*◌, ◌/◌, ◌%◌, ◌<◌, cond, eqb, List, drop, Ok, Err, Result, sym, refl, ◌∙◌, arith, ne_eqb, eqb-true}
use Rattle.facts.proofs.Lists.{choice}
use Rattle.grid.specs.Grid.{block_address}
use Rattle.texel.proofs.Range.{texel-below}
use Rattle.pvr.proofs.Answers.{of-plate}
use Rattle.pvr.specs.Header as header
use Rattle.pvr.specs.Header.{HeaderRead}
use Rattle.pvr.specs.Numbers.{number-above}
use Rattle.pvr.specs.declared.HeaderRefusal.{HeaderRefusal}
use Rattle.pvr.specs.declared.Plate.{Plate}
use Rattle.pvrtc.specs.Calls.{refusal, TexelRead, Written}
use Rattle.pvrtc.specs.Picture.{grid_of, picture_texel}
use Rattle.pvrtc.specs.Refusals.{number_of, decoded_number}
use Rattle.pvrtc.specs.declared.Call.TheVariants as call
use Rattle.pvrtc.specs.declared.Picture.{Picture}
use Rattle.pvrtc.specs.declared.Refusal.{Refusal}
use Rattle.capi.specs.Fields.{of_pvr, value}
use Rattle.capi.specs.Plate.{texel_answer, Wrote, plate_field, sized_field, field_of, header_field}

-- no two outcomes of a call that writes meet its promise
pub one-wrote : {n r s : ℕ} {done old new new' : List ℕ} → Wrote n done old new r → Wrote n done old new' s → (r ≡ s) × (new ≡ new')
one-wrote a b = (a.number ∙ sym b.number, a.words ∙ sym b.words)

-- C takes the texel's answer apart again
module _ (p : Picture) (d : List ℕ) (x y : ℕ) where
  below : picture_texel p d x y < 4294967296
  below = let g = grid_of p in texel-below p.order g.is2bpp g.across g.down (λ i j. drop (8 * block_address g.across g.down i j) d) x y

  low : cond (eqb (refusal p (call.Texel x y) d) 0) (picture_texel p d x y) 0 < 4294967296
  low = choice (λ (v : ℕ). v < 4294967296) (eqb (refusal p (call.Texel x y) d) 0) {a = picture_texel p d x y} {b = 0} (λ _. below) (λ _. omega arith)

  pub number-back : texel_answer p d x y / 4294967296 ≡ refusal p (call.Texel x y) d
  number-back = omega (arith, low)

  pub value-back : texel_answer p d x y % 4294967296 ≡ cond (eqb (refusal p (call.Texel x y) d) 0) (picture_texel p d x y) 0
  value-back = omega (arith, low)

-- how a header's answer becomes a field, whatever kind of file has it
module _ {refusal v : ℕ} (value field : ℕ) where
  pub of-refused : {n : ℕ} → n ≡ refusal → 0 < n → v ≡ cond (eqb field 0) n 0 → v ≡ field_of refusal value field
  of-refused {n} e above q = rw (← e) (rw (ne_eqb n 0 (λ none. omega arith)) q)

  -- none of an accepted header's own fields has number 0
  pub of-accepted : refusal ≡ 0 → (field ≡ 0 → value ≡ 0) → v ≡ value → v ≡ field_of refusal value field
  of-accepted e none-at-0 q = rw e (q ∙ choice (λ (w : ℕ). value ≡ w) (eqb field 0) (λ z. none-at-0 (eqb-true field 0 z)) (λ _. refl))
