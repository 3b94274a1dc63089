-- The order of channels over every call, as document 02 says it (W6): blue first all answers are what they were, red first each word is the
-- same texel's with two bytes exchanged. Assumes nothing: these are definitions.
use Rattle.std.specs.Prelude.{◌≡◌, cond, List, ◌++◌, ℕ, ◌+◌, ◌*◌, ◌/◌, ◌%◌, ◌<◌, eqb, get_or, drop, Result}
use Rattle.facts.specs.Tab.{tab}
use Rattle.grid.specs.Grid.{half}
use Rattle.pixel.specs.Pixel.{Pixel, exchanged}
use Rattle.pixel.specs.declared.ChannelOrder.{ChannelOrder}
use Rattle.pixel.specs.declared.ChannelOrder.TheVariants.{BlueFirst, RedFirst}
use Rattle.texel.specs.Texel.{texel_at, words_of}
use Rattle.pvrtc.specs.Calls.{refusal, TexelRead, RowDecoded, BlockDecoded}
use Rattle.pvrtc.specs.Picture.{in_order, grid_of}
use Rattle.pvrtc.specs.Refusals.{decoded_number, texel_number, texel_value}
use Rattle.pvrtc.specs.declared.Call.{Call}
use Rattle.pvrtc.specs.declared.Picture.{Picture}
use Rattle.ktx.specs.Picture.{decoded_number as ktx_number, KtxDecoded}
use Rattle.ktx.specs.Picture as ktx
use Rattle.levels.specs.Calls.{LevelDecoded}
use Rattle.levels.specs.Levels as level
use Rattle.levels.specs.Refusals.{decoded_number as level_number}
use Rattle.capi.specs.Ktx.{WroteKtx}
use Rattle.capi.specs.Level.{WroteLevel}
use Rattle.capi.specs.Plate.{order_of, texel_answer, WroteRow, WrotePicture}
use Rattle.demands.specs.Right.{Gives}
use Rattle.ktx.specs.declared.Refusal.{Refusal as KtxRefusal}
use Rattle.levels.specs.declared.Refusal.{Refusal as LevelRefusal}
use Rattle.pvrtc.specs.declared.Refusal.{Refusal}

-- The four channels of texel (x, y) of a picture. The order has no part in them.
abbrev pub channels_of : Picture → List ℕ → ℕ → ℕ → Pixel
channels_of p d x y =
    let g = grid_of p in
    texel_at (half g.is2bpp) g.across g.down (words_of g.is2bpp g.across g.down d) x y

-- Document 01's word of a texel: blue + 256 green + 65,536 red + 16,777,216 alpha.
abbrev pub first_word : Pixel → ℕ
first_word t = t.b + 256 * t.g + 65536 * t.r + 16777216 * t.a

-- Blue first that is the word, whatever call gives it.
abbrev pub AsBefore : Type 0
AsBefore = (p : Picture) (d : List ℕ) (x y v : ℕ) → p.order ≡ BlueFirst → Gives p d x y v → v ≡ first_word (channels_of p d x y)

-- In either order a call refuses the same.
abbrev pub SameRefusals : Type 0
SameRefusals = (order : ChannelOrder) (p : Picture) (c : Call) (d : List ℕ) → refusal (in_order order p) c d ≡ refusal p c d

-- Words of which the first n have their low and third byte exchanged.
abbrev pub exchanged_to : ℕ → List ℕ → List ℕ
exchanged_to n words = tab (λ k. exchanged (get_or words k 0)) n ++ drop n words

-- A call that lays n words, made red first and blue first over the same lent words: both say the same number. Where that is 0 the laid words
-- are exchanged; else, and past these, they are the same.
pub record Exchanges (n red blue : ℕ) (new new' : List ℕ) : Type 0 where
  pub number : red ≡ blue
  pub words : new ≡ cond (eqb blue 0) (exchanged_to n new') new'

-- How many words a picture has.
abbrev pub words_in : Picture → ℕ
words_in p = p.width * p.height

-- The three calls on data d, and the same in C. The plain form and the Rust's names promise what the block call does.
pub record ExchangedCalls (p : Picture) (d : List ℕ) : Type 0 where
  pub texel : (x y : ℕ) (r s : Result ℕ Refusal) → TexelRead (in_order RedFirst p) d x y r → TexelRead (in_order BlueFirst p) d x y s
      → (texel_number r ≡ texel_number s) × (texel_value r ≡ exchanged (texel_value s))
  pub row : (y : ℕ) (old new new' : List ℕ) (r s : Result (Unit {0}) Refusal) → RowDecoded (in_order RedFirst p) d y old new r
      → RowDecoded (in_order BlueFirst p) d y old new' s
      → Exchanges p.width (decoded_number r) (decoded_number s) new new'
  pub block : (old new new' : List ℕ) (r s : Result (Unit {0}) Refusal) → BlockDecoded (in_order RedFirst p) d old new r
      → BlockDecoded (in_order BlueFirst p) d old new' s
      → Exchanges (words_in p) (decoded_number r) (decoded_number s) new new'
  pub c-texel : (x y : ℕ) → let red = texel_answer (in_order RedFirst p) d x y in let blue = texel_answer (in_order BlueFirst p) d x y in
      (red / 4294967296 ≡ blue / 4294967296) × (red % 4294967296 ≡ exchanged (blue % 4294967296))
  pub c-row : (y : ℕ) (old new new' : List ℕ) (n m : ℕ) → WroteRow (in_order RedFirst p) d y old new n → WroteRow (in_order BlueFirst p) d y old new' m
      → Exchanges p.width n m new new'
  pub c-picture : (old new new' : List ℕ) (n m : ℕ) → WrotePicture (in_order RedFirst p) d old new n → WrotePicture (in_order BlueFirst p) d old new' m
      → Exchanges (words_in p) n m new new'

-- The calls on a file and on a level of one, and the same in C.
pub record ExchangedFiles (file : List ℕ) : Type 0 where
  pub ktx-picture : (old new new' : List ℕ) (r s : Result (Unit {0}) KtxRefusal) → KtxDecoded RedFirst file old new r → KtxDecoded BlueFirst file old new' s
      → Exchanges (words_in (ktx.plate_of file)) (ktx_number r) (ktx_number s) new new'
  pub c-ktx-picture : (old new new' : List ℕ) (n m : ℕ) → WroteKtx RedFirst file old new n → WroteKtx BlueFirst file old new' m
      → Exchanges (words_in (ktx.plate_of file)) n m new new'
  pub level-picture : (k : ℕ) (old new new' : List ℕ) (r s : Result (Unit {0}) LevelRefusal) → LevelDecoded RedFirst file k old new r
      → LevelDecoded BlueFirst file k old new' s
      → Exchanges (words_in (level.picture_of file k)) (level_number r) (level_number s) new new'
  pub c-level-picture : (k : ℕ) (old new new' : List ℕ) (n m : ℕ) → WroteLevel RedFirst file k old new n → WroteLevel BlueFirst file k old new' m
      → Exchanges (words_in (level.picture_of file k)) n m new new'

-- What is asked of the order. That exchanging twice is nothing is `Exchanging`'s, and that every texel is Khronos's in either order is `Right`.
pub record EitherOrder : Type 0 where
  pub as_before : AsBefore
  pub refusals : SameRefusals
  pub calls : (p : Picture) (d : List ℕ) → ExchangedCalls p d
  pub files : (file : List ℕ) → ExchangedFiles file
  -- In C 0 is blue first, and any other number red first.
  pub in_c : (order_of 0 ≡ BlueFirst) × ((n : ℕ) → 0 < n → order_of n ≡ RedFirst)
