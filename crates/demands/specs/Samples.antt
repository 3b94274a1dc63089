-- Plates that statements are tried on. Assumes nothing: these are definitions.
use Rattle.std.specs.Prelude.{List, [], ◌∷◌, ℕ, ◌/◌, ◌%◌}

-- A block of weights 0, with colour A as given and B opaque black, and the blocks after it.
abbrev pub block : ℕ → List ℕ → List ℕ
block a l = 0 ∷ 0 ∷ 0 ∷ 0 ∷ a % 256 ∷ a / 256 ∷ 0 ∷ 0x80 ∷ l

-- Two blocks, the first red and the second black.
abbrev pub red_black : List ℕ
red_black = block 0xFC00 (block 0x8000 [])

-- Four blocks, the first red and the others black.
abbrev pub red_corner : List ℕ
red_corner = block 0xFC00 (block 0x8000 (block 0x8000 (block 0x8000 [])))
