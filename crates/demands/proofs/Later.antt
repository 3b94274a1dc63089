-- What follows level 0 of a KTX file has no effect on its picture, nor on what C is told of it. Assumes nothing.
use Rattle.std.proofs.Common.{◌≡◌, ℕ, ◌+◌, ◌≤◌, false, cond, eqb, ◌↔◌, List, ◌++◌, length, drop, Result, sym, refl, ap, ◌∙◌, ap₂, arith, length-append}
use Rattle.std.proofs.Common.{length-drop, le-ltb}
use lib.Seq.{drop-append-le}
use Rattle.facts.specs.Checks.{first_of}
use Rattle.facts.proofs.Checks.{first-append}
use Rattle.paint.specs.Sheet.{on_sheet}
use Rattle.paint.proofs.Painted.{painted_same}
use Rattle.pixel.specs.declared.ChannelOrder.{ChannelOrder}
use Rattle.pvrtc.specs.Calls.{refusal}
use Rattle.pvrtc.specs.Picture.{in_order, sheet_of, picture_texel}
use Rattle.pvrtc.specs.Refusals.{need, short_data}
use Rattle.pvrtc.specs.declared.Call.TheVariants.{Block}
use Rattle.pvrtc.specs.declared.Picture.{Picture}
use Rattle.pvrtc.proofs.Orders.{refusal-in}
use Rattle.pvrtc.proofs.Past.{picture-past}
use Rattle.ktx.specs.Header.{size_word_of, payload_offset, header_checks}
use Rattle.ktx.specs.NoEffect.{SameHeader}
use Rattle.ktx.specs.Picture.{plate_of, level_data, sized_checks, picture_refusal, KtxDecoded}
use Rattle.ktx.proofs.NoEffect.{header-before, same_number, same-picture, same-payload, sized-alike, words-alike}
use Rattle.ktx.proofs.Whole.{call-decides, header-accepted, size_fits}
use Rattle.capi.specs.Ktx.{WroteKtx}
use Rattle.demands.proofs.Past.{chosen}
use Rattle.ktx.specs.declared.Refusal.{Refusal as KtxRefusal}

module _ (file more : List ℕ) (enough : payload_offset file + need (plate_of file) ≤ length file) where
  abbrev p : Picture
  p = plate_of file

  abbrev d : List ℕ
  d = level_data file

  header : SameHeader (file ++ more) file
  header = header-before file more (omega arith)

  has : need p ≤ length d
  has = omega (arith, length-drop (payload_offset file) file)

  data-more : level_data (file ++ more) ≡ d ++ more
  data-more =
      ap (λ (n : ℕ). drop n (file ++ more)) (same-payload header) ∙ drop-append-le (payload_offset file) file more (omega arith)

  -- longer data is not short either
  sized_past : (room : ℕ) → first_of (sized_checks p (size_word_of file) (length (d ++ more)) room)
      ≡ first_of (sized_checks p (size_word_of file) (length d) room)
  sized_past room =
      let longer : need p ≤ length (d ++ more) = omega (arith, length-append d more, has) in
      let long : short_data p (length (d ++ more)) ≡ false = le-ltb (length (d ++ more)) (need p) longer in
      let same : short_data p (length d) ≡ false = le-ltb (length d) (need p) has in
      rw (long, same) refl

  number : (room : ℕ) → picture_refusal (file ++ more) room ≡ picture_refusal file room
  number room =
      first-append (header_checks (file ++ more)) _ tt
      ∙ ap₂ (λ (n m : ℕ). cond (eqb n 0) m n) (same_number header)
      (sized-alike room (same-picture header) header.size (ap length data-more) ∙ sized_past room)
      ∙ sym (first-append (header_checks file) _ tt)

  -- where the file is decoded, each texel is the same
  texel : (order : ChannelOrder) (room : ℕ) → picture_refusal file room ≡ 0
      → (x y : ℕ) → picture_texel (in_order order p) d x y ≡ picture_texel (in_order order p) (d ++ more) x y
  texel order room none x y =
      let ok : refusal p (Block room) d ≡ 0 =
      sym (call-decides file (header-accepted file room none) (size_fits file room none) room) ∙ none in
      sym (picture-past (in_order order p) d more has (Block room) (refusal-in order p (Block room) d ∙ ok) x y)

  words : (order : ChannelOrder) (old : List ℕ)
      → cond (eqb (picture_refusal file (length old)) 0) (on_sheet (sheet_of p) (picture_texel (in_order order p) d) old) old
      ≡ cond (eqb (picture_refusal (file ++ more) (length old)) 0)
      (on_sheet (sheet_of (plate_of (file ++ more))) (picture_texel (in_order order (plate_of (file ++ more))) (level_data (file ++ more))) old) old
  words order old =
      let w : ℕ = p.width in
      chosen (picture_refusal file (length old)) _ (on_sheet (sheet_of p) (picture_texel (in_order order p) (d ++ more)) old) old
      (λ none. painted_same 0 w w p.height _ _ old (omega arith) (λ x y _ _. texel order (length old) none x y))
      ∙ sym (words-alike old (number (length old)) (ap (in_order order) (same-picture header)) data-more)

  pub picture-unread : (order : ChannelOrder) (old new : List ℕ) (r : Result (Unit {0}) KtxRefusal) → KtxDecoded order file old new r
      ↔ KtxDecoded order (file ++ more) old new r
  picture-unread order old new r =
      let n = number (length old) in (
        λ a. record { number = a.number ∙ sym n; words = a.words ∙ words order old },
        λ a. record { number = a.number ∙ n; words = a.words ∙ sym (words order old) },
      )

  pub c-unread : (order : ChannelOrder) (old new : List ℕ) (n : ℕ) → WroteKtx order file old new n ↔ WroteKtx order (file ++ more) old new n
  c-unread order old new n =
      let e = number (length old) in (
        λ a. record { number = a.number ∙ sym e; words = a.words ∙ words order old },
        λ a. record { number = a.number ∙ e; words = a.words ∙ sym (words order old) },
      )
