-- The numbers of document 01 ("Numbers on both sides of a line") that are marked P: one table, the computed numbers beside the
-- paper's. Assumes nothing: these are definitions.
use Rattle.std.specs.Prelude.{Bool, true, false, ◌&&◌, List, [], ◌∷◌, ℕ, ◌/◌, ◌%◌, eqb, length}
use Rattle.facts.specs.Tab.{tab}
use Rattle.grid.specs.Grid.{block_width, blocks, block_address}
use Rattle.word.specs.Word.{blue_a, blue_b, weight2bpp}
use Rattle.pixel.specs.declared.ChannelOrder.TheVariants.{BlueFirst}
use Rattle.texel.specs.Texel.{blended, mean2, mean4, texel_word}
use Rattle.demands.specs.Footprint.{footprint}
use Rattle.demands.specs.Samples.{block, red_black}

-- A line of the table.
pub record Line : Type 0 where
  pub made : List ℕ
  pub paper : List ℕ

abbrev line : List ℕ → List ℕ → Line
line m p = record { made = m; paper = p }

abbrev same : List ℕ → List ℕ → Bool
same [] [] = true
same [] (b ∷ l) = false
same (a ∷ k) [] = false
same (a ∷ k) (b ∷ l) = eqb a b && same k l

-- Both sides of a line are the same numbers.
abbrev pub agrees : Line → Bool
agrees l = same l.made l.paper

-- The texel (x, y) of a picture of w by h texels.
abbrev texel : Bool → ℕ → ℕ → List ℕ → ℕ → ℕ → ℕ
texel two w h d x y = texel_word BlueFirst two (blocks (block_width two) w) (blocks 4 h) d x y

-- How many blocks its footprint has.
abbrev blocks_for : Bool → ℕ → ℕ → ℕ → ℕ → ℕ
blocks_for two w h x y = length (footprint two (blocks (block_width two) w) (blocks 4 h) x y)

abbrev red : ℕ → ℕ
red t = t / 65536 % 256

abbrev alpha : ℕ → ℕ
alpha t = t / 16777216

-- Row y of reds: block 0 has red 31, block 1 is black.
abbrev reds : ℕ → List ℕ
reds y = tab (λ x. red (texel false 8 4 red_black x y)) 8

abbrev paper_reds : List ℕ
paper_reds = 127 ∷ 191 ∷ 255 ∷ 191 ∷ 127 ∷ 63 ∷ 0 ∷ 63 ∷ []

-- The table, in the paper's order.
abbrev pub table : List Line
table =
    -- A = 8011 (hex) has blue 17; 800E, 14
    line (blue_a 0x8011 ∷ blue_a 0x800E ∷ []) (17 ∷ 14 ∷ [])
    -- translucent blue from 0008: A 18, B 17
    ∷ line (blue_a 0x0008 ∷ blue_b 0x0008 ∷ []) (18 ∷ 17 ∷ [])
    -- a block alone, at both depths: alpha 14 gives 238, 15 gives 255
    ∷ line (alpha (texel false 4 4 (block 0x7000 []) 0 0) ∷ alpha (texel true 8 4 (block 0x7000 []) 0 0) ∷ []) (238 ∷ 238 ∷ [])
    ∷ line (alpha (texel false 4 4 (block 0x8000 []) 0 0) ∷ alpha (texel true 8 4 (block 0x8000 []) 0 0) ∷ []) (255 ∷ 255 ∷ [])
    -- grid 4 × 4: (1,0) is 2, (0,1) is 1, (3,2) is 14
    ∷ line (block_address 4 4 1 0 ∷ block_address 4 4 0 1 ∷ block_address 4 4 3 2 ∷ []) (2 ∷ 1 ∷ 14 ∷ [])
    -- grid 8 × 2: (5,1) is 11; grid 2 × 8: (1,5) is 11
    ∷ line (block_address 8 2 5 1 ∷ block_address 2 8 1 5 ∷ []) (11 ∷ 11 ∷ [])
    -- blend of 0 and 255: w = 3, 95; 4, 127; 5, 159
    ∷ line (blended 0 255 3 ∷ blended 0 255 4 ∷ blended 0 255 5 ∷ []) (95 ∷ 127 ∷ 159 ∷ [])
    -- 8 × 4 at 4bpp, weights 0, block 0 A red 31, block 1 black: reds in each row
    ∷ line (reds 0) paper_reds
    ∷ line (reds 1) paper_reds
    ∷ line (reds 2) paper_reds
    ∷ line (reds 3) paper_reds
    -- fill of 0 and 3 is 2; of 0, 3, 5, 8 is 4
    ∷ line (mean2 0 3 ∷ mean4 0 3 5 8 ∷ []) (2 ∷ 4 ∷ [])
    -- 2bpp texel 0, code 1 is 0; code 2 is 8
    ∷ line (weight2bpp true 1 0 ∷ weight2bpp true 2 0 ∷ []) (0 ∷ 8 ∷ [])
    -- texel 20, code 1: 0 if bit 0 is set, else 3
    ∷ line (weight2bpp true 0x100001 20 ∷ weight2bpp true 0x100000 20 ∷ []) (0 ∷ 3 ∷ [])
    -- footprint of (2,2) at 4bpp is one block; of (0,0) in an 8 × 8 picture, four
    ∷ line (blocks_for false 8 8 2 2 ∷ blocks_for false 8 8 0 0 ∷ []) (1 ∷ 4 ∷ [])
    ∷ []
