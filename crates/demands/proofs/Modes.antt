-- Where both grids are equal the modes agree, call by call; and the red corner tells them apart. Assumes nothing.
use Rattle.std.proofs.Common.{◌≡◌, ℕ, zero, suc, ◌+◌, ◌-◌, ◌*◌, ◌/◌, ◌%◌, ◌<◌, ◌≤◌, max, cond, eqb, ◌↔◌, List, [], ◌∷◌, length, Ok, sym, refl, ap, ◌∙◌, ap₂}
use Rattle.std.proofs.Common.{arith}
use Rattle.facts.specs.Bits.{flags}
use Rattle.facts.specs.Checks.{first_of}
use Rattle.facts.specs.Sum.{sum}
use Rattle.facts.specs.Tab.{tab}
use Rattle.facts.proofs.Numbers.{split}
use Rattle.facts.proofs.Tab.{tab-same}
use Rattle.grid.specs.declared.Grid.{Grid}
use Rattle.grid.specs.Grid.{block_width, blocks, halvings, log2, is_power, address, beside}
use Rattle.grid.proofs.Counts.{wide, block-below}
use Rattle.word.specs.Word.{weight4bpp, punch4bpp, word_of}
use Rattle.texel.specs.Texel.{share, nine_sum, scale_color, scale_alpha, blended, near, filled, mixed, texel_in, texel_at, grid_texel}
use Rattle.paint.specs.Paint.{painted}
use Rattle.pvrtc.specs.Calls.{refusal, RowDecoded}
use Rattle.pvrtc.specs.Picture.{in_order, across, down, side_in, grid_of, picture_texel}
use Rattle.pvrtc.specs.Refusals.{short_image, outside}
use Rattle.pvrtc.specs.declared.Call.{Call}
use Rattle.pvrtc.specs.declared.Call.TheVariants as call
use Rattle.pvrtc.specs.declared.GridMode.{GridMode}
use Rattle.pvrtc.specs.declared.GridMode.TheVariants.{Rust, Stored}
use Rattle.pvrtc.specs.declared.Picture.{Picture}
use Rattle.pvrtc.proofs.Accepted.{width_above, height-above}
use Rattle.pvrtc.proofs.Agree.{row_is}
use Rattle.ktx.specs.Picture as ktx
use Rattle.capi.specs.Plate.{Wrote}
use Rattle.convert.specs.Output.{plate_of, level_data, tga_of}
use Rattle.demands.specs.Modes.{in_mode, OneGrid, WhereEqual, SamePowers, ModesAgree, OneGridOneAnswer, whole_of, Corner, ruby, four_lent, reds, RedCorner}
use Rattle.demands.specs.Samples.{red_corner}
use Rattle.demands.proofs.Past.{texel_of, both_read, both-written}
use Rattle.demands.proofs.Program.{is-tga}
use Rattle.demands.proofs.Seen.{decoded-block, seen}

-- the TGA of a picture whose texels are f's
abbrev tga_by : Picture → (ℕ → ℕ → ℕ) → List ℕ
tga_by p f = tga_of p.width p.height (λ k. f (k % p.width) (k / p.width))

-- two blocks or more are as many in either mode
pub where-equal : WhereEqual
unfolding side_in
where-equal p = (λ e. (two-or-more (ap (λ (g : Grid). g.across) e), two-or-more (ap (λ (g : Grid). g.down) e)), one)
  where
    two-or-more : {n : ℕ} → n ≡ max 2 n → 2 ≤ n
    two-or-more e = omega arith

    as_many : {n : ℕ} → 2 ≤ n → n ≡ max 2 n
    as_many l = omega arith

    grid : ℕ → ℕ → Grid
    grid x y = record { across = x; down = y; is2bpp = p.is2bpp }

    one : (2 ≤ across p) × (2 ≤ down p) → OneGrid p
    one h = ap₂ grid (as_many h.0) (as_many h.1)

-- a side that is not 0 is a power of two in both modes or in neither
pub same-powers : SamePowers
unfolding side_in log2 halvings
same-powers p sides =
    rw (
      alike (across p) (omega (arith, block-below (block_width p.is2bpp) p.width (wide p.is2bpp) 0 (width_above p sides))),
      alike (down p) (omega (arith, block-below 4 p.height (omega arith) 0 (height-above p sides))),
    )
  where
    alike : (n : ℕ) → 0 < n → is_power n ≡ is_power (max 2 n)
    alike zero l = absurd (omega arith)
    alike (suc zero) l = refl
    alike (suc (suc n)) l =
        let two : suc (suc n) ≡ max 2 (suc (suc n)) = omega arith in
        ap is_power two

-- what C is told of a call that writes, where its number and its words are equal
both_told : {n n' : ℕ} {done done' old new : List ℕ} {r : ℕ} → n ≡ n' → cond (eqb n 0) done old ≡ cond (eqb n' 0) done' old
    → Wrote n done old new r ↔ Wrote n' done' old new r
both_told e q =
    (λ w. record { number = w.number ∙ e; words = w.words ∙ q }, λ w. record { number = w.number ∙ sym e; words = w.words ∙ sym q })

module _ (p : Picture) (d : List ℕ) (e : OneGrid p) where
  -- what is asked of the sides, of the room and of the place does not go by the mode
  room : (c : Call) → short_image (in_mode Rust p) c ≡ short_image (in_mode Stored p) c
  unfolding short_image
  room (call.Texel x y) = refl
  room (call.Row y n) = refl
  room (call.Block n) = refl

  place : (c : Call) → outside (in_mode Rust p) c ≡ outside (in_mode Stored p) c
  unfolding outside
  place (call.Texel x y) = refl
  place (call.Row y n) = refl
  place (call.Block n) = refl

  -- so each call says the same number
  number : (c : Call) → refusal (in_mode Rust p) c d ≡ refusal (in_mode Stored p) c d
  number c = rw (ap (λ (g : Grid). g.across) e, ap (λ (g : Grid). g.down) e, room c, place c)

  -- and reads the same texels
  texel : picture_texel (in_mode Rust p) d ≡ picture_texel (in_mode Stored p) d
  texel = ap (λ (g : Grid). grid_texel p.order g d) e

  value : (x y : ℕ) → texel_of (in_mode Rust p) d x y ≡ texel_of (in_mode Stored p) d x y
  value x y = ap₂ (λ (n v : ℕ). cond (eqb n 0) v 0) (number (call.Texel x y)) (ap (λ (f : ℕ → ℕ → ℕ). f x y) texel)

  -- and writes the same words, which are painted by the texels
  words : (c : Call) (old : List ℕ) (done : (ℕ → ℕ → ℕ) → List ℕ)
      → let n = refusal (in_mode Rust p) c d in let n' = refusal (in_mode Stored p) c d in
      cond (eqb n 0) (done (picture_texel (in_mode Rust p) d)) old ≡ cond (eqb n' 0) (done (picture_texel (in_mode Stored p) d)) old
  words c old done = ap₂ (λ (n : ℕ) (f : ℕ → ℕ → ℕ). cond (eqb n 0) (done f) old) (number c) texel

  agree : ModesAgree p d
  agree =
      record {
        texel = λ x y r. both_read (number (call.Texel x y)) (value x y);
        row = λ y old new r.
            let c = call.Row y (length old) in
            both-written (number c) (words c old (λ f. painted 0 p.width p.width 1 (λ x _. f x y) old));
        block = λ old new r.
            let c = call.Block (length old) in
            both-written (number c) (words c old (λ f. painted 0 p.width p.width p.height f old));
        c-texel = λ x y. ap₂ (λ (n v : ℕ). v + 4294967296 * n) (number (call.Texel x y)) (value x y);
        c-row = λ y old new n.
            let c = call.Row y (length old) in
            both_told (number c) (words c old (λ f. painted 0 p.width p.width 1 (λ x _. f x y) old));
        c-picture = λ old new n.
            let c = call.Block (length old) in
            both_told (number c) (words c old (λ f. painted 0 p.width p.width p.height f old));
      }

pub one-grid-one-answer : OneGridOneAnswer
one-grid-one-answer =
    record {
      calls = agree;
      ktx = λ order file old new e a. ((agree (in_order order (ktx.plate_of file)) (ktx.level_data file) e).block old new (Ok tt)).1 (decoded-block file a);
      program = λ file e ok. is-tga file ok ∙ ap (λ (f : ℕ → ℕ → ℕ). tga_by (plate_of file) f) (sym (texel (plate_of file) (level_data file) e));
    }

-- so many whole blocks are counted as so many
pub same-grid : (p : Picture) → grid_of (whole_of p) ≡ grid_of p
unfolding side_in
same-grid p = rw (counted (block_width p.is2bpp) (grid_of p).across (wide p.is2bpp), counted 4 (grid_of p).down (omega arith))
  where
    counted : (size n : ℕ) → 0 < size → blocks size (n * size) ≡ n
    counted size n pos = (split size (n * size + (size - 1)) n (size - 1) refl (omega arith)).0

pub corner : Corner
corner p d x y v w a b =
    (seen p d x y v a).is ∙ ap (λ (g : Grid). grid_texel p.order g d x y) (sym (same-grid p)) ∙ sym (seen (whole_of p) d x y w b).is

-- the reds of a ruby mark's first row
abbrev ruby_reds : GridMode → List ℕ
ruby_reds mode = tab (λ x. picture_texel (ruby mode) red_corner x 0 / 65536 % 256) 4

reds-are : (mode : GridMode) {new : List ℕ} → RowDecoded (ruby mode) red_corner 0 four_lent new (Ok tt) → reds new ≡ ruby_reds mode
reds-are mode w = tab-same _ _ 4 (λ x l. ap (λ (v : ℕ). v / 65536 % 256) (row_is (ruby mode) red_corner x 0 l w))

computed : (ruby_reds Rust ≡ 255 ∷ 255 ∷ 255 ∷ 255 ∷ []) × (ruby_reds Stored ≡ 63 ∷ 95 ∷ 127 ∷ 95 ∷ [])
unfolding tab flags sum halvings log2 address beside weight4bpp punch4bpp word_of share nine_sum scale_color scale_alpha blended near filled mixed texel_in texel_at side_in
computed = (refl, refl)

pub red-corner : RedCorner
unfolding first_of short_image outside halvings log2 side_in
red-corner =
    record {
      rust = λ new r w. (w.number, reds-are Rust (record { number = refl; words = w.words }) ∙ computed.0);
      stored = λ new r w. (w.number, reds-are Stored (record { number = refl; words = w.words }) ∙ computed.1);
      rust-need = λ r t. t.number;
      rust-short = λ r t. t.number;
      stored-need = λ r t. t.number;
      stored_short = λ r t. t.number;
    }
