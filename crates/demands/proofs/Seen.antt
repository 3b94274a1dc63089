-- Whatever call gives a word, it is the picture's texel, of a picture that the call accepted. Assumes nothing.
use Rattle.std.proofs.Common.{◌≡◌, ℕ, ◌+◌, ◌*◌, ◌<◌, cond, eqb, List, length, get_or, Ok, Result, sym, refl, ap, ◌∙◌, arith}
use Rattle.files.specs.Fields.{u32_at}
use Rattle.ktx.specs.Picture as ktx
use Rattle.ktx.specs.Picture.{KtxDecoded}
use Rattle.ktx.proofs.Whole.{header-accepted, size_fits, as-block}
use Rattle.pixel.specs.declared.ChannelOrder.{ChannelOrder}
use Rattle.pvrtc.specs.Calls.{refusal, TexelRead, Written, RowDecoded, BlockDecoded}
use Rattle.pvrtc.specs.Picture.{in_order, picture_texel}
use Rattle.pvrtc.specs.declared.Call.{Call}
use Rattle.pvrtc.specs.declared.Call.TheVariants as call
use Rattle.pvrtc.specs.declared.Picture.{Picture}
use Rattle.pvrtc.proofs.Accepted.{Accepted, accepted, texel-inside, row_inside}
use Rattle.pvrtc.proofs.Agree.{row_is, block-is}
use Rattle.levels.specs.Calls.{LevelDecoded}
use Rattle.levels.specs.Levels as level
use Rattle.levels.proofs.Whole.{as-block as level-block}
use Rattle.capi.specs.Plate.{texel_answer, Wrote}
use Rattle.capi.proofs.Answers.{number-back, value-back}
use Rattle.convert.specs.Output.{plate_of, level_data, program_refusal, output}
use Rattle.demands.specs.Right.{place_in, Gives, by-texel, by_row, by-block, by-c-texel, by-c-row, by-c-picture}
use Rattle.demands.specs.Right.{by-ktx, by-c-ktx, by_level, by-c-level, by-program}
use Rattle.demands.proofs.Program.{block-accepted, is-tga, tga-texel}
use Rattle.pvrtc.specs.declared.Refusal.{Refusal}

-- a texel of an accepted picture, and its word
pub record Seen (p : Picture) (d : List ℕ) (x y v : ℕ) : Type 0 where
  pub call : Call
  pub ok : Accepted p call (length d)
  pub across : x < p.width
  pub down : y < p.height
  pub is : v ≡ picture_texel p d x y

-- what an answered word is
pub answered : (p : Picture) (d : List ℕ) (x y v : ℕ) → TexelRead p d x y (Ok v) → v ≡ picture_texel p d x y
answered p d x y v t = t.value ∙ rw (sym t.number)

-- what C is told where nothing is refused, the call was answered
pub of-wrote : {n : ℕ} {done old new : List ℕ} → Wrote n done old new 0 → Written n done old new (Ok tt)
of-wrote w = record { number = w.number; words = w.words }

-- the picture and the data of a call may be replaced by equal ones
pub moved-block : {p q : Picture} {d e old new : List ℕ} {r : Result (Unit {0}) Refusal} → p ≡ q → d ≡ e → BlockDecoded p d old new r
    → BlockDecoded q e old new r
moved-block ep ed b = rw (← ep, ← ed) b

-- a decoded KTX file is the block call's picture of its data
pub decoded-block : {order : ChannelOrder} (file : List ℕ) {old new : List ℕ} → KtxDecoded order file old new (Ok tt)
    → BlockDecoded (in_order order (ktx.plate_of file)) (ktx.level_data file) old new (Ok tt)
decoded-block file {old} a =
    let none = sym a.number in
    as-block file (header-accepted file (length old) none) (size_fits file (length old) none) (Ok tt) a

module _ (p : Picture) (d : List ℕ) (x y v : ℕ) where
  -- an accepted texel call
  of-texel : refusal p (call.Texel x y) d ≡ 0 → v ≡ picture_texel p d x y → Seen p d x y v
  of-texel e q =
      let ok = accepted p (call.Texel x y) (length d) e in
      let at = texel-inside p x y ok.inside in
      record { call = call.Texel x y; ok = ok; across = at.0; down = at.1; is = q }

  of_row : {old new : List ℕ} → RowDecoded p d y old new (Ok tt) → x < p.width → v ≡ get_or new x 0 → Seen p d x y v
  of_row {old} w hx q =
      let ok = accepted p (call.Row y (length old)) (length d) (sym w.number) in
      record {
        call = call.Row y (length old);
        ok = ok;
        across = hx;
        down = row_inside p y (length old) ok.inside;
        is = q ∙ row_is p d x y hx w;
      }

  of-block : {old new : List ℕ} → BlockDecoded p d old new (Ok tt) → x < p.width → y < p.height → v ≡ get_or new (place_in p x y) 0 → Seen p d x y v
  of-block {old} w hx hy q =
      record {
        call = call.Block (length old);
        ok = accepted p (call.Block (length old)) (length d) (sym w.number);
        across = hx;
        down = hy;
        is = q ∙ block-is p d x y hx hy w;
      }

  -- C's answer below 2 ^ 32 has no number above it
  of-c-texel : v < 4294967296 → v ≡ texel_answer p d x y → Seen p d x y v
  of-c-texel low e =
      let none : refusal p (call.Texel x y) d ≡ 0 = omega (arith, number-back p d x y) in
      let value : v ≡ cond (eqb (refusal p (call.Texel x y) d) 0) (picture_texel p d x y) 0 = omega (arith, value-back p d x y) in
      of-texel none (value ∙ rw none refl)

  of-ktx : (file old : List ℕ) {new : List ℕ} → in_order p.order (ktx.plate_of file) ≡ p → ktx.level_data file ≡ d
      → KtxDecoded p.order file old new (Ok tt)
      → x < p.width → y < p.height → v ≡ get_or new (place_in p x y) 0 → Seen p d x y v
  of-ktx file old ep ed w hx hy q =
      of-block (moved-block ep ed (decoded-block file w)) hx hy q

  of-level : (file : List ℕ) (k : ℕ) (old new : List ℕ) → in_order p.order (level.picture_of file k) ≡ p → level.level_data file k ≡ d
      → LevelDecoded p.order file k old new (Ok tt) → x < p.width → y < p.height → v ≡ get_or new (place_in p x y) 0 → Seen p d x y v
  of-level file k old new ep ed w hx hy q = of-block (moved-block ep ed (level-block file k w)) hx hy q

  of-program : (file : List ℕ) → plate_of file ≡ p → level_data file ≡ d → program_refusal file ≡ 0 → x < p.width → y < p.height
      → v ≡ u32_at (output file) (18 + 4 * place_in p x y) → Seen p d x y v
  of-program file ep ed none hx hy q =
      record {
        call = call.Block (p.width * p.height);
        ok = accepted p (call.Block (p.width * p.height)) (length d) (rw (← ep, ← ed) (block-accepted file none));
        across = hx;
        down = hy;
        is = q ∙ ap (λ (l : List ℕ). u32_at l (18 + 4 * place_in p x y)) (rw (← ep, ← ed) (is-tga file none)) ∙ tga-texel p d x y hx hy;
      }

  -- all of them
  pub seen : Gives p d x y v → Seen p d x y v
  seen (by-texel t) = of-texel (sym t.number) (answered p d x y v t)
  seen (by_row old new w hx q) = of_row w hx q
  seen (by-block old new w hx hy q) = of-block w hx hy q
  seen (by-c-texel low e) = of-c-texel low e
  seen (by-c-row old new w hx q) = of_row (of-wrote w) hx q
  seen (by-c-picture old new w hx hy q) = of-block (of-wrote w) hx hy q
  seen (by-ktx file old new ep ed w hx hy q) = of-ktx file old ep ed w hx hy q
  seen (by-c-ktx file old new ep ed w hx hy q) = of-ktx file old ep ed (record { number = w.number; words = w.words }) hx hy q
  seen (by_level file k old new ep ed w hx hy q) = of-level file k old new ep ed w hx hy q
  seen (by-c-level file k old new ep ed w hx hy q) = of-level file k old new ep ed (record { number = w.number; words = w.words }) hx hy q
  seen (by-program file ep ed none hx hy q) = of-program file ep ed none hx hy q
