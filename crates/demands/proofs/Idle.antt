-- Demand 1, against idle versions: the texels that each would get wrong are computed. Assumes nothing.
use Rattle.std.proofs.Common.{◌≡◌, ℕ, ◌+◌, ◌*◌, ◌%◌, ◌<◌, ◌≤◌, Bool, true, false, List, length, get_or, Ok, refl, ap, ◌∙◌, arith}
use lib.ListN.{get_or-replicate}
use Rattle.facts.specs.Bits.{flags}
use Rattle.facts.specs.Checks.{first_of}
use Rattle.facts.specs.Sum.{sum}
use Rattle.facts.specs.Tab.{tab}
use Rattle.facts.proofs.Numbers.{split}
use Rattle.grid.specs.Grid.{half, block_width, halvings, log2, address, beside}
use Rattle.word.specs.Word.{weight4bpp, punch4bpp, stored2bpp, weight2bpp, fill2bpp, word_of}
use Rattle.texel.specs.Texel.{share, nine_sum, scale_color, scale_alpha, blended, near, filled, mixed, texel_in, texel_at}
use Rattle.texel.proofs.Shares.{half-low}
use Rattle.pixel.specs.declared.ChannelOrder.{ChannelOrder}
use Rattle.pixel.specs.declared.ChannelOrder.TheVariants.{BlueFirst, RedFirst}
use Rattle.pvrtc.specs.Calls.{refusal, RowDecoded, BlockDecoded}
use Rattle.pvrtc.specs.Picture.{side_in, picture_texel}
use Rattle.pvrtc.specs.Refusals.{short_image, outside}
use Rattle.pvrtc.specs.declared.Call.TheVariants as call
use Rattle.pvrtc.specs.declared.GridMode.{GridMode}
use Rattle.pvrtc.specs.declared.GridMode.TheVariants.{Rust, Stored}
use Rattle.pvrtc.proofs.Agree.{row_is, block-is}
use Rattle.demands.specs.Idle.{beside2, below2, lent_row, lent_image, FirstBlockAgain, NoIdling}
use Rattle.demands.specs.Samples.{red_corner}
use Rattle.demands.proofs.Seen.{answered}

-- the calls that are made are accepted
record Passes (two : Bool) (mode : GridMode) (order : ChannelOrder) : Type 0 where
  pub texel : refusal (beside2 two mode order) (call.Texel 0 0) red_corner ≡ 0
  pub row : refusal (beside2 two mode order) (call.Row 2 (length (lent_row two))) red_corner ≡ 0
  pub block : refusal (beside2 two mode order) (call.Block (length (lent_image two))) red_corner ≡ 0

passes : (two : Bool) (mode : GridMode) (order : ChannelOrder) → Passes two mode order
unfolding first_of short_image outside halvings log2 side_in
passes true Rust order = record { texel = refl; row = refl; block = refl }
passes false Rust order = record { texel = refl; row = refl; block = refl }
passes true Stored order = record { texel = refl; row = refl; block = refl }
passes false Stored order = record { texel = refl; row = refl; block = refl }

-- opaque red and half red, in an order
abbrev red_word : ChannelOrder → ℕ
red_word BlueFirst = 0xFFFF0000
red_word RedFirst = 0xFF0000FF

abbrev half_red : ChannelOrder → ℕ
half_red BlueFirst = 0xFF7F0000
half_red RedFirst = 0xFF00007F

-- no two of black, half red and red are the same
all-differ : (order : ChannelOrder) → (0xFF000000 < red_word order) × (half_red order < red_word order)
all-differ BlueFirst = (omega arith, omega arith)
all-differ RedFirst = (omega arith, omega arith)

-- the texels that are looked at: red in the middle of the first block, black in the middle of the second, half red between them
record Shades (two : Bool) (mode : GridMode) (order : ChannelOrder) : Type 0 where
  pub red : picture_texel (beside2 two mode order) red_corner (half two) 2 ≡ red_word order
  pub black : picture_texel (beside2 two mode order) red_corner (3 * half two) 2 ≡ 0xFF000000
  pub upper : picture_texel (below2 two mode order) red_corner (half two) 2 ≡ red_word order
  pub lower : picture_texel (below2 two mode order) red_corner (half two) 6 ≡ 0xFF000000
  pub between : picture_texel (below2 two mode order) red_corner (half two) 0 ≡ half_red order

shades : (two : Bool) (mode : GridMode) (order : ChannelOrder) → Shades two mode order
unfolding tab flags sum halvings log2 address beside weight4bpp punch4bpp stored2bpp weight2bpp fill2bpp word_of share nine_sum scale_color scale_alpha blended near filled mixed texel_in texel_at side_in
shades true Rust BlueFirst = record { red = refl; black = refl; upper = refl; lower = refl; between = refl }
shades true Rust RedFirst = record { red = refl; black = refl; upper = refl; lower = refl; between = refl }
shades false Rust BlueFirst = record { red = refl; black = refl; upper = refl; lower = refl; between = refl }
shades false Rust RedFirst = record { red = refl; black = refl; upper = refl; lower = refl; between = refl }
shades true Stored BlueFirst = record { red = refl; black = refl; upper = refl; lower = refl; between = refl }
shades true Stored RedFirst = record { red = refl; black = refl; upper = refl; lower = refl; between = refl }
shades false Stored BlueFirst = record { red = refl; black = refl; upper = refl; lower = refl; between = refl }
shades false Stored RedFirst = record { red = refl; black = refl; upper = refl; lower = refl; between = refl }

-- where they stand in a row and in the two pictures
module _ (two : Bool) (mode : GridMode) (order : ChannelOrder) (s : Shades two mode order) {old new : List ℕ} (low : 2 ≤ half two) where
  row-red : RowDecoded (beside2 two mode order) red_corner 2 old new (Ok tt) → get_or new (half two) 0 ≡ red_word order
  row-red w = row_is (beside2 two mode order) red_corner (half two) 2 (omega arith) w ∙ s.red

  row-black : RowDecoded (beside2 two mode order) red_corner 2 old new (Ok tt) → get_or new (3 * half two) 0 ≡ 0xFF000000
  row-black w = row_is (beside2 two mode order) red_corner (3 * half two) 2 (omega arith) w ∙ s.black

  block-red : BlockDecoded (beside2 two mode order) red_corner old new (Ok tt) → get_or new (2 * (2 * block_width two) + half two) 0 ≡ red_word order
  block-red w = block-is (beside2 two mode order) red_corner (half two) 2 (omega arith) (omega arith) w ∙ s.red

  block-black : BlockDecoded (beside2 two mode order) red_corner old new (Ok tt) → get_or new (2 * (2 * block_width two) + 3 * half two) 0 ≡ 0xFF000000
  block-black w = block-is (beside2 two mode order) red_corner (3 * half two) 2 (omega arith) (omega arith) w ∙ s.black

  upper-red : BlockDecoded (below2 two mode order) red_corner old new (Ok tt) → get_or new (2 * block_width two + half two) 0 ≡ red_word order
  upper-red w = block-is (below2 two mode order) red_corner (half two) 2 (omega arith) (omega arith) w ∙ s.upper

  lower-black : BlockDecoded (below2 two mode order) red_corner old new (Ok tt) → get_or new (6 * block_width two + half two) 0 ≡ 0xFF000000
  lower-black w = block-is (below2 two mode order) red_corner (half two) 6 (omega arith) (omega arith) w ∙ s.lower

  edge-half : BlockDecoded (below2 two mode order) red_corner old new (Ok tt) → get_or new (half two) 0 ≡ half_red order
  edge-half w =
      let front : half two ≡ 0 * block_width two + half two = omega arith in
      ap (λ (k : ℕ). get_or new k 0) front ∙ block-is (below2 two mode order) red_corner (half two) 0 (omega arith) (omega arith) w ∙ s.between

pub no-idling : (two : Bool) (mode : GridMode) (order : ChannelOrder) → NoIdling two mode order
no-idling two mode order =
    let s = shades two mode order in
    let a = passes two mode order in
    let apart = all-differ order in
    let low = half-low two in
    let wide : 3 * half two < 2 * block_width two = omega arith in
    record {
      texel-told = λ r t. t.number ∙ a.texel;
      row_told = λ new r w. w.number ∙ a.row;
      block-told = λ new r w. w.number ∙ a.block;
      texel-varies = λ v t u.
          omega (
            arith,
            answered (beside2 two mode order) red_corner (half two) 2 v t,
            answered (beside2 two mode order) red_corner (3 * half two) 2 v u,
            s.red,
            s.black,
          );
      row-varies = λ v new w one.
          omega (arith, one (half two) (omega arith), one (3 * half two) wide, row-red two mode order s low w, row-black two mode order s low w);
      block-varies = λ v new w one.
          omega (
            arith,
            one (2 * (2 * block_width two) + half two) (omega arith),
            one (2 * (2 * block_width two) + 3 * half two) (omega arith),
            block-red two mode order s low w,
            block-black two mode order s low w,
          );
      row_written = λ w. omega (arith, row-red two mode order s low w, get_or-replicate {A = ℕ} (2 * block_width two) (half two) 0 0 (omega arith));
      block_written = λ w.
          let k : ℕ = 2 * (2 * block_width two) + half two in
          omega (arith, block-red two mode order s low w, get_or-replicate {A = ℕ} (8 * block_width two) k 0 0 (omega arith));
      row-goes-on = λ new w again. omega (arith, row-red two mode order s low w, row-black two mode order s low w, again-row new again);
      block-goes-on = λ new w again.
          omega (
            arith,
            block-red two mode order s low w,
            block-black two mode order s low w,
            again (3 * half two) 2 wide (omega arith),
            ap (λ (k : ℕ). get_or new (2 * (2 * block_width two) + k) 0) middle,
          );
      block-goes-down = λ new w again.
          omega (arith, upper-red two mode order s low w, lower-black two mode order s low w, again (half two) 6 (omega arith) (omega arith));
      rows-differ = λ new w again.
          omega (arith, upper-red two mode order s low w, edge-half two mode order s low w, again (half two) 2 (omega arith) (omega arith));
    }
  where
    -- the middle of the second block is that of the first, a block further
    middle : 3 * half two % block_width two ≡ half two
    middle = (split (block_width two) (3 * half two) 1 (half two) (omega arith) (omega (arith, half-low two))).1

    again-row : (new : List ℕ) → FirstBlockAgain two 1 new → get_or new (3 * half two) 0 ≡ get_or new (half two) 0
    again-row new again =
        let at : 3 * half two ≡ 0 * (2 * block_width two) + 3 * half two = omega arith in
        let first : 0 * (2 * block_width two) + 3 * half two % block_width two ≡ half two = omega (arith, middle) in
        ap (λ (k : ℕ). get_or new k 0) at ∙ again (3 * half two) 0 (omega (arith, half-low two)) (omega arith) ∙ ap (λ (k : ℕ). get_or new k 0) first
