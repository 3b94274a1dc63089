-- What stands in a listing for a depth, an order, a mode and a picture, as text. Assumes nothing: these are definitions.
use Rattle.std.specs.Prelude.{Bool, true, false, cond, List, [], ◌++◌, ℕ, ◌&&◌, leb, codes}
use Rattle.std.specs.Fmt.{decimal}
use Rattle.pixel.specs.declared.ChannelOrder.{ChannelOrder}
use Rattle.pixel.specs.declared.ChannelOrder.TheVariants.{BlueFirst, RedFirst}
use Rattle.pvrtc.specs.declared.GridMode.{GridMode}
use Rattle.pvrtc.specs.declared.GridMode.TheVariants as mode
use Rattle.pvrtc.specs.declared.Picture.{Picture}
use Rattle.pvrtc.specs.Picture.{grid_of}
use Rattle.pvrtc.specs.Refusals.{need}

abbrev pub depth_name : (two : Bool) → List ℕ
depth_name false = codes "4bpp"
depth_name true = codes "2bpp"

-- Only red first is said.
abbrev pub order_name : ChannelOrder → List ℕ
order_name BlueFirst = []
order_name RedFirst = codes ", red first"

abbrev pub mode_name : GridMode → List ℕ
mode_name mode.Rust = codes "Rust"
mode_name mode.Stored = codes "stored"

-- A picture's size, depth and order.
abbrev pub shape_text : Picture → List ℕ
shape_text p = decimal p.width ++ (codes " x " ++ (decimal p.height ++ (codes ", " ++ (depth_name p.is2bpp ++ order_name p.order))))

abbrev pub answer_text : (number sum : ℕ) → List ℕ
answer_text number sum = decimal number ++ (codes ", sum " ++ decimal sum)

-- The bytes that a picture needs, or 0 where its grid has more blocks one way than any call takes.
abbrev pub taken_need : Picture → ℕ
taken_need p = cond (leb (grid_of p).across 65536 && leb (grid_of p).down 65536) (need p) 0
