-- A picture's description, and what it says of words and texels. Assumes nothing: these are definitions.
use Rattle.std.specs.Prelude.{Bool, List, ℕ, max}
use Rattle.grid.specs.declared.Grid.{Grid}
use Rattle.grid.specs.Grid.{block_width, blocks}
use Rattle.paint.specs.declared.Sheet.{Sheet}
use Rattle.pixel.specs.declared.ChannelOrder.{ChannelOrder}
use Rattle.texel.specs.Texel.{grid_texel}
use Rattle.pvrtc.specs.declared.GridMode.{GridMode}
use Rattle.pvrtc.specs.declared.GridMode.TheVariants.{Rust, Stored}
use Rattle.pvrtc.specs.declared.Picture.{Picture}

-- The description of a picture by its sides, its depth, its mode and the order of its channels.
abbrev pub picture : ℕ → ℕ → Bool → GridMode → ChannelOrder → Picture
picture width height two mode order = record { width = width; height = height; is2bpp = two; mode = mode; order = order }

-- A picture in another order.
abbrev pub in_order : ChannelOrder → Picture → Picture
in_order order p = picture p.width p.height p.is2bpp p.mode order

-- The blocks that cover a picture across, and down.
abbrev pub across : Picture → ℕ
across p = blocks (block_width p.is2bpp) p.width

abbrev pub down : Picture → ℕ
down p = blocks 4 p.height

-- The blocks along a side of a grid, where so many cover the picture: in the Rust's mode these, in the stored mode two at least.
unfoldable pub side_in : GridMode → (cover : ℕ) → ℕ
side_in Rust cover = cover
side_in Stored cover = max 2 cover

-- The grid that holds its words.
abbrev pub grid_of : Picture → Grid
grid_of p = record { across = side_in p.mode (across p); down = side_in p.mode (down p); is2bpp = p.is2bpp }

-- The sheet that its texels go to: row after row, from word 0 on.
abbrev pub sheet_of : Picture → Sheet
sheet_of p = record { start = 0; stride = p.width; width = p.width; height = p.height }

-- Texel (x, y) of a picture, as a word in its order.
abbrev pub picture_texel : Picture → List ℕ → ℕ → ℕ → ℕ
picture_texel p d x y = grid_texel p.order (grid_of p) d x y
