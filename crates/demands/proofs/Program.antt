-- The program's picture is the block call's: it is accepted where the program refuses nothing, and its texels stand in the TGA.
-- Assumes nothing.
use Rattle.std.proofs.Common.{◌≡◌, ℕ, ◌+◌, ◌*◌, ◌/◌, ◌%◌, ◌<◌, ◌≤◌, List, length, get_or, drop, refl, ap, ◌∙◌, ap₂, mul-le-mul_right, arith}
use Rattle.std.proofs.Common.{get_or-append-add}
use Rattle.facts.specs.Tab.{tab}
use Rattle.facts.proofs.Numbers.{split}
use Rattle.facts.proofs.Tab.{get_or-tab}
use Rattle.grid.specs.Grid.{block_address}
use Rattle.texel.proofs.Range.{texel-below}
use Rattle.files.specs.Fields.{u32_at, byte_of}
use Rattle.files.proofs.Fields.{bytes_read}
use Rattle.pvrtc.specs.Calls.{refusal}
use Rattle.pvrtc.specs.Picture.{grid_of, picture_texel}
use Rattle.pvrtc.specs.declared.Call.TheVariants as call
use Rattle.pvrtc.specs.declared.Picture.{Picture}
use Rattle.convert.specs.Output.{stored_in, plate_of, level_data, program_refusal, tga_header, tga_of, tga, output}
use Rattle.convert.proofs.Answers.{written-tga}
use Rattle.convert.proofs.Limits.{kept, call-says}
use Rattle.convert.proofs.Said.{none-early, none_said}
use Rattle.demands.specs.Right.{place_in}

module _ (file : List ℕ) (none : program_refusal file ≡ 0) where
  pub block-accepted : refusal (plate_of file) (call.Block ((plate_of file).width * (plate_of file).height)) (level_data file) ≡ 0
  block-accepted =
      let p : Picture = plate_of file in
      let no = none_said file none in
      let k = kept (stored_in file) (none-early file no.0) in
      call-says p (p.width * p.height) (length (level_data file)) k.sides k.small (omega arith) ∙ no.1

  pub is-tga : output file ≡ tga (plate_of file) (level_data file)
  is-tga = written-tga (program_refusal file) (plate_of file) (level_data file) none

-- word k of a TGA
module _ (w h : ℕ) (word : ℕ → ℕ) (k : ℕ) (l : k < w * h) where
  abbrev byte : ℕ → ℕ
  byte i = byte_of (word (i / 4)) (i % 4)

  byte_at : (j : ℕ) → j < 4 → get_or (tga_of w h word) (18 + 4 * k + j) 0 ≡ byte_of (word k) j
  unfolding tga_header
  byte_at j hj =
      let place : 18 + 4 * k + j ≡ length (tga_header w h) + (4 * k + j) = omega arith in
      let number : (4 * k + j) / 4 ≡ k = omega arith in
      let rest : (4 * k + j) % 4 ≡ j = omega arith in
      ap (λ (n : ℕ). get_or (tga_of w h word) n 0) place
      ∙ get_or-append-add (tga_header w h) (tab byte (4 * (w * h))) (4 * k + j) 0
      ∙ get_or-tab byte (4 * (w * h)) (4 * k + j) 0 (omega arith)
      ∙ ap₂ (λ (n i : ℕ). byte_of (word n) i) number rest

  word_at : word k < 4294967296 → u32_at (tga_of w h word) (18 + 4 * k) ≡ word k
  word_at low = bytes_read (tga_of w h word) (18 + 4 * k) (word k) low byte_at

-- so word k of a picture's TGA, and texel (x, y)
pub tga-word : (p : Picture) (d : List ℕ) (k : ℕ) → k < p.width * p.height
    → u32_at (tga p d) (18 + 4 * k) ≡ picture_texel p d (k % p.width) (k / p.width)
tga-word p d k l =
    let w : ℕ = p.width in
    let g = grid_of p in
    let words : ℕ → ℕ → List ℕ = λ i j. drop (8 * block_address g.across g.down i j) d in
    word_at w p.height (λ k. picture_texel p d (k % w) (k / w)) k l (texel-below p.order g.is2bpp g.across g.down words _ _)

pub tga-texel : (p : Picture) (d : List ℕ) (x y : ℕ) → x < p.width → y < p.height → u32_at (tga p d) (18 + 4 * place_in p x y) ≡ picture_texel p d x y
tga-texel p d x y hx hy =
    let w : ℕ = p.width in
    let row : y + 1 ≤ p.height = omega arith in
    let cut = split w (y * w + x) y x refl hx in
    tga-word p d (y * w + x) (omega (arith, mul-le-mul_right w row)) ∙ ap₂ (picture_texel p d) cut.1 cut.0
