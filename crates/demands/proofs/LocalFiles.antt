-- Demand 3 over files: a damaged file has the same header, and data that differs in one block alone. Assumes nothing.
use Rattle.std.proofs.Common.{◌≡◌, ℕ, ◌+◌, ◌*◌, ◌<◌, ◌≤◌, Bool, true, false, not, eqb, List, length, get_or, drop, Ok, sym, refl, ap, ◌∙◌, subst, ap₂, ⊎_elim}
use Rattle.std.proofs.Common.{arith, length-drop, get_or-drop}
use Rattle.facts.specs.Count.{count}
use Rattle.facts.proofs.Count.{count_same}
use Rattle.facts.proofs.Numbers.{lt-or-le}
use Rattle.files.specs.Reading.{Says}
use Rattle.files.specs.declared.Stored.{Stored}
use Rattle.files.proofs.Answers.{SameSays}
use Rattle.files.proofs.Starts.{start-even}
use Rattle.pvr.specs.Header as pvr
use Rattle.pvr.proofs.NoEffect as pvr-same
use Rattle.ktx.specs.Header.{ktx_bytes, is_ktx, size_place, payload_offset}
use Rattle.ktx.specs.NoEffect.{SameHeader}
use Rattle.ktx.specs.Picture as ktx
use Rattle.ktx.specs.Picture.{picture_refusal, KtxDecoded}
use Rattle.ktx.proofs.NoEffect as ktx-same
use Rattle.pixel.specs.declared.ChannelOrder.{ChannelOrder}
use Rattle.pvrtc.specs.Picture.{in_order}
use Rattle.pvrtc.specs.declared.Call.TheVariants.{Block}
use Rattle.pvrtc.specs.declared.Picture.{Picture}
use Rattle.pvrtc.proofs.Accepted.{passed}
use Rattle.convert.specs.Output.{says_of, stored_in, picture_of, plate_of, level_data, program_refusal, tga, output}
use Rattle.convert.proofs.Either.{as-ktx, as-pvr, payload-behind}
use Rattle.demands.specs.Footprint.{SameOutside}
use Rattle.demands.specs.LocalCalls.{blocks_of, changed, most_touched}
use Rattle.demands.specs.LocalFiles.{DamagedAt, OnlyNear, changed_in, LocalFiles}
use Rattle.demands.proofs.LocalCalls.{local-pictures, texels_differ, few-differ}
use Rattle.demands.proofs.NoEffect.{same-refusal}
use Rattle.demands.proofs.Program.{block-accepted, is-tga, tga-word}
use Rattle.demands.proofs.Seen.{seen, moved-block, decoded-block}

-- data that differs in one block alone gives texels that differ in its rectangle alone
pub only-near : (p : Picture) (d d' : List ℕ) (z : ℕ) → SameOutside (blocks_of p) d d' z → OnlyNear p d d' z
only-near p d d' z same x y v w a b differ =
    let s = seen p d x y v a in
    (local-pictures p s.call d (passed p s.call (length d) s.ok)).only x y z v w d d' same a b differ

module _ {start : ℕ} {f g : List ℕ} {z : ℕ} (s : DamagedAt start f g z) where
  -- what stands in front of the data is the same
  pub in-front : (i : ℕ) → i < start → get_or f i 0 ≡ get_or g i 0
  in-front i h = s.before i (omega arith)

  -- and so is every other block of it
  pub other-blocks : (n : ℕ) → SameOutside n (drop start f) (drop start g) z
  other-blocks n b l other k h =
      get_or-drop start f (8 * b + k) 0
      ∙ ⊎_elim
      (λ less. s.before (start + (8 * b + k)) (omega (arith, less)))
      (λ more. s.behind (start + (8 * b + k)) (omega (arith, more, other)))
      (lt-or-le b z)
      ∙ sym (get_or-drop start g (8 * b + k) 0)

  even : length (drop start f) ≡ length (drop start g)
  even = length-drop start f ∙ omega (arith, s.size, length-drop start g)

-- a damaged KTX file
module _ (f g : List ℕ) (z : ℕ) (s : DamagedAt (payload_offset f) f g z) where
  header : SameHeader f g
  header =
      ktx-same.of-one-length f g s.size (λ i h _. in-front s i (omega arith)) (λ k h. in-front s (size_place f + k) (omega arith))

  -- its data begins at the same place
  from-there : drop (payload_offset f) g ≡ ktx.level_data g
  from-there = ap (λ (n : ℕ). drop n g) (ktx-same.same-payload header)

  ktx-others : SameOutside (blocks_of (ktx.plate_of f)) (ktx.level_data f) (ktx.level_data g) z
  ktx-others =
      subst (λ (d : List ℕ). SameOutside (blocks_of (ktx.plate_of f)) (ktx.level_data f) d z) from-there (other-blocks s (blocks_of (ktx.plate_of f)))

  ktx-near : (ktx.plate_of f ≡ ktx.plate_of g) × ((room : ℕ) → picture_refusal f room ≡ picture_refusal g room)
      × ((order : ChannelOrder) → OnlyNear (in_order order (ktx.plate_of f)) (ktx.level_data f) (ktx.level_data g) z)
  ktx-near = (
    ktx-same.same-picture header,
    ktx-same.same-refusal header (even s ∙ ap length from-there),
    λ order. only-near (in_order order (ktx.plate_of f)) (ktx.level_data f) (ktx.level_data g) z ktx-others,
  )

  ktx-few : (order : ChannelOrder) (old new old' new' : List ℕ) → KtxDecoded order f old new (Ok tt) → KtxDecoded order g old' new' (Ok tt)
      → changed (ktx.plate_of f) new new' ≤ most_touched (ktx.plate_of f).is2bpp
  ktx-few order old new old' new' a b =
      let fb = decoded-block f a in
      let gb = moved-block (sym (ap (in_order order) (ktx-same.same-picture header))) refl (decoded-block g b) in
      let near = local-pictures (in_order order (ktx.plate_of f)) (Block (length old)) (ktx.level_data f) (sym fb.number) in
      omega (arith, near.no_more z (ktx.level_data f) (ktx.level_data g) old new old' new' ktx-others fb gb, near.at_most z)

-- a damaged file of either kind
module _ (f g : List ℕ) (z : ℕ) (s : DamagedAt (stored_in f).payload f g z) where
  same_kind : is_ktx f ≡ is_ktx g
  same_kind = start-even f g ktx_bytes s.size (λ i h. in-front s i (omega (arith, payload-behind f)))

  same-says : SameSays (says_of f) (says_of g)
  same-says = by (is_ktx f) refl
    where
      by : (t : Bool) → is_ktx f ≡ t → SameSays (says_of f) (says_of g)
      by true e =
          let here = subst (λ (t : Says). DamagedAt t.plate.payload f g z) (as-ktx f e) s in
          rw (as-ktx f e, as-ktx g (sym same_kind ∙ e)) (ktx-same.same-says (header f g z here))
      by false e =
          let front : (i : ℕ) → i < pvr.header_size → get_or f i 0 ≡ get_or g i 0 = λ i h. in-front s i (omega (arith, payload-behind f)) in
          rw (as-pvr f e, as-pvr g (sym same_kind ∙ e)) (pvr-same.same-says (pvr-same.of-one-length f g front s.size))

  same_rest : drop (stored_in f).payload g ≡ level_data g
  same_rest = ap (λ (t : Stored). drop t.payload g) same-says.plate

  others : SameOutside (blocks_of (plate_of f)) (level_data f) (level_data g) z
  others = subst (λ (d : List ℕ). SameOutside (blocks_of (plate_of f)) (level_data f) d z) same_rest (other-blocks s (blocks_of (plate_of f)))

  same-plate : plate_of f ≡ plate_of g
  same-plate = ap picture_of same-says.plate

  same_number : program_refusal f ≡ program_refusal g
  same_number = same-refusal f g same-says (even s ∙ ap length same_rest)

  program-few : program_refusal f ≡ 0 → changed_in (plate_of f) (output f) (output g) ≤ most_touched (plate_of f).is2bpp
  program-few none =
      let p : Picture = plate_of f in
      let there : output g ≡ tga p (level_data g) = is-tga g (sym same_number ∙ none) ∙ ap (λ (q : Picture). tga q (level_data g)) (sym same-plate) in
      let words : changed_in p (output f) (output g) ≡ count (texels_differ p (level_data f) (level_data g)) (p.width * p.height) =
      ap₂ (changed_in p) (is-tga f none) there
      ∙ count_same _ _ (p.width * p.height) (λ k l. ap₂ (λ (v w : ℕ). not (eqb v w)) (tga-word p (level_data f) k l) (tga-word p (level_data g) k l)) in
      omega (arith, words, few-differ p (Block (p.width * p.height)) (level_data f) (level_data g) z (block-accepted f none) others)

pub local-files : LocalFiles
local-files =
    record {
      ktx-near = ktx-near;
      ktx-count = ktx-few;
      program-near = λ f g z s. (same-plate f g z s, same_number f g z s, only-near (plate_of f) (level_data f) (level_data g) z (others f g z s));
      program-count = program-few;
    }
