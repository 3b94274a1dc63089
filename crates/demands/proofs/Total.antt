-- Demand 1 over the calls: one outcome, its number, and every lent word. Assumes nothing.
use Rattle.std.proofs.Common.{◌≡◌, ℕ, ◌*◌, ◌/◌, ◌%◌, cond, eqb, List, ◌++◌, length, drop, sym, refl, ap, ◌∙◌, ap₂, mod-eq_of_lt, arith, ne_eqb}
use Rattle.facts.specs.Checks.{Check, first_of}
use Rattle.facts.specs.Tab.{tab}
use Rattle.facts.proofs.Checks.{exactly-when}
use Rattle.facts.proofs.Tab.{length-tab, tab-same}
use Rattle.paint.specs.Paint.{painted}
use Rattle.paint.proofs.Painted.{whole}
use Rattle.pixel.specs.declared.ChannelOrder.{ChannelOrder}
use Rattle.pvrtc.specs.Calls.{refusal}
use Rattle.pvrtc.specs.Picture.{in_order, picture_texel}
use Rattle.pvrtc.specs.Refusals.{checks}
use Rattle.pvrtc.specs.declared.Call.TheVariants as call
use Rattle.pvrtc.specs.declared.Picture.{Picture}
use Rattle.pvrtc.proofs.Accepted.{accepted, width_above, row-roomy, block-roomy}
use Rattle.pvrtc.proofs.Orders.{refusal-in}
use Rattle.pvrtc.proofs.Unique.{one-texel, one_written}
use Rattle.pvr.specs.Header.{header_checks}
use Rattle.pvr.proofs.Answers as pvr-header
use Rattle.pvr.proofs.Unique as pvr
use Rattle.ktx.specs.Header as ktx-spec
use Rattle.ktx.specs.Picture.{plate_of, level_data, picture_checks, picture_refusal}
use Rattle.ktx.proofs.Answers as ktx-header
use Rattle.ktx.proofs.Unique as ktx
use Rattle.ktx.proofs.Whole.{call-decides, header-accepted, size_fits}
use Rattle.levels.specs.Levels.{picture_of, level_data as data_of_level}
use Rattle.levels.specs.Refusals.{level_checks, decode_checks, decode_refusal}
use Rattle.levels.proofs.Unique as one-level
use Rattle.levels.proofs.Whole as level
use Rattle.capi.proofs.Answers.{number-back, value-back}
use Rattle.convert.specs.Output as output
use Rattle.convert.specs.Output.{program_refusal}
use Rattle.convert.proofs.Answers.{written-line, written-tga}
use Rattle.convert.proofs.Said as program
use Rattle.demands.specs.Total.{OneOutcome, TexelOutcome, WordsOutcome, row_texels, picture_texels, Total, TotalFile, TotalKtx, TotalLevel}

pub one-outcome : OneOutcome
one-outcome =
    record {
      texel = one-texel;
      row = λ p d y old new new' r s. one_written;
      block = λ p d old new new' r s. one_written;
      pvr-header = pvr.one-header;
      ktx-header = ktx.one-header;
      ktx-picture = λ order file old new new' r s. ktx.one-decoded;
      level = one-level.one-described;
      level-picture = λ order file k old new new' r s. one-level.one-decoded;
    }

-- a number and a word that the promise of a texel call determines
texel-outcome : (l : List Check) (texel : ℕ) {n v : ℕ} → n ≡ first_of l → v ≡ cond (eqb (first_of l) 0) texel 0 → TexelOutcome l texel n v
texel-outcome l texel {n} {v} number value =
    record {
      given = λ m h. rw number (exactly-when l m h);
      refused = λ above. value ∙ rw (ne_eqb (first_of l) 0 (λ e. omega arith)) refl;
      done = λ none. value ∙ rw (sym number ∙ none) refl;
    }

-- a number and words that the promise of a writing call determines, where `after` is what it writes
words-outcome : (l : List Check) (texels after : List ℕ) {old new : List ℕ} {n : ℕ}
    → (first_of l ≡ 0 → after ≡ texels ++ drop (length texels) old)
    → n ≡ first_of l → new ≡ cond (eqb (first_of l) 0) after old → WordsOutcome l texels old new n
words-outcome l texels after front number words =
    record {
      given = λ m h. rw number (exactly-when l m h);
      refused = λ above. words ∙ rw (ne_eqb (first_of l) 0 (λ e. omega arith)) refl;
      done = λ none. let e = sym number ∙ none in words ∙ rw e (front e);
    }

module _ (p : Picture) (d : List ℕ) where
  -- what an accepted row call writes: its texels, and the rest as it was
  row-front : (y : ℕ) (old : List ℕ) → refusal p (call.Row y (length old)) d ≡ 0
      → painted 0 p.width p.width 1 (λ x _. picture_texel p d x y) old ≡ row_texels p d y ++ drop (length (row_texels p d y)) old
  row-front y old e =
      let w : ℕ = p.width in
      let ok = accepted p (call.Row y (length old)) (length d) e in
      let f : ℕ → ℕ → ℕ = λ x _. picture_texel p d x y in
      let one : w * 1 ≡ w = omega arith in
      let same : tab (λ k. f (k % w) (k / w)) w ≡ row_texels p d y = tab-same (λ k. f (k % w) (k / w)) (λ x. picture_texel p d x y) w
      (λ k l. ap (λ (x : ℕ). picture_texel p d x y) (mod-eq_of_lt l)) in
      let size : length (row_texels p d y) ≡ w = length-tab (λ x. picture_texel p d x y) w in
      whole w 1 f old (width_above p ok.sides) (omega (arith, row-roomy p y (length old) ok.roomy))
      ∙ ap (λ (n : ℕ). tab (λ k. f (k % w) (k / w)) n ++ drop n old) one
      ∙ ap₂ (λ (l : List ℕ) (n : ℕ). l ++ drop n old) same (sym size)

  -- and an accepted block call
  block-front : (old : List ℕ) → refusal p (call.Block (length old)) d ≡ 0
      → painted 0 p.width p.width p.height (picture_texel p d) old ≡ picture_texels p d ++ drop (length (picture_texels p d)) old
  block-front old e =
      let ok = accepted p (call.Block (length old)) (length d) e in
      let size : length (picture_texels p d) ≡ p.width * p.height = length-tab _ (p.width * p.height) in
      whole p.width p.height (picture_texel p d) old (width_above p ok.sides) (block-roomy p (length old) ok.roomy)
      ∙ ap (λ (n : ℕ). picture_texels p d ++ drop n old) (sym size)

  pub total : Total p d
  total =
      record {
        texel = λ x y r t. texel-outcome (checks p (call.Texel x y) (length d)) (picture_texel p d x y) t.number t.value;
        row = λ y old new r w. words-outcome (checks p (call.Row y (length old)) (length d)) (row_texels p d y) _ (row-front y old) w.number w.words;
        block = λ old new r w. words-outcome (checks p (call.Block (length old)) (length d)) (picture_texels p d) _ (block-front old) w.number w.words;
        c-texel = λ x y r e.
            texel-outcome (checks p (call.Texel x y) (length d)) (picture_texel p d x y)
            (ap (λ (a : ℕ). a / 4294967296) e ∙ number-back p d x y)
            (ap (λ (a : ℕ). a % 4294967296) e ∙ value-back p d x y);
        c-row = λ y old new n w. words-outcome (checks p (call.Row y (length old)) (length d)) (row_texels p d y) _ (row-front y old) w.number w.words;
        c-picture = λ old new n w. words-outcome (checks p (call.Block (length old)) (length d)) (picture_texels p d) _ (block-front old) w.number w.words;
      }

pub total-file : (file : List ℕ) → TotalFile file
total-file file =
    record {
      header = λ r read. pvr-header.refused-when read;
      c-header = exactly-when (header_checks file);
      program = program.refused-when file;
      refused = written-line (program_refusal file) (output.plate_of file) (output.level_data file);
      done = written-tga (program_refusal file) (output.plate_of file) (output.level_data file);
    }

-- a KTX file whose picture is accepted: the block call on its data is
module _ (file : List ℕ) where
  abbrev texels : ChannelOrder → List ℕ
  texels order = picture_texels (in_order order (plate_of file)) (level_data file)

  ktx-front : (order : ChannelOrder) (old : List ℕ) → picture_refusal file (length old) ≡ 0
      → painted 0 (plate_of file).width (plate_of file).width (plate_of file).height (picture_texel (in_order order (plate_of file)) (level_data file)) old
      ≡ texels order ++ drop (length (texels order)) old
  ktx-front order old e =
      let room = length old in
      let ok = sym (call-decides file (header-accepted file room e) (size_fits file room e) room) ∙ e in
      block-front (in_order order (plate_of file)) (level_data file) old (refusal-in order (plate_of file) (call.Block room) (level_data file) ∙ ok)

  pub total-ktx : TotalKtx file
  total-ktx =
      record {
        header = λ r read. ktx-header.refused-when read;
        c-header = exactly-when (ktx-spec.header_checks file);
        picture = λ order old new r w. words-outcome (picture_checks file (length old)) (texels order) _ (ktx-front order old) w.number w.words;
        c-picture = λ order old new n w. words-outcome (picture_checks file (length old)) (texels order) _ (ktx-front order old) w.number w.words;
      }

-- a level that is decoded: the block call on its data is accepted
module _ (file : List ℕ) (k : ℕ) where
  abbrev of_level : ChannelOrder → List ℕ
  of_level order = picture_texels (in_order order (picture_of file k)) (data_of_level file k)

  level-front : (order : ChannelOrder) (old : List ℕ) → decode_refusal file k (length old) ≡ 0
      → let p = picture_of file k in
      painted 0 p.width p.width p.height (picture_texel (in_order order p) (data_of_level file k)) old
      ≡ of_level order ++ drop (length (of_level order)) old
  level-front order old e =
      let room = length old in
      let ok = sym (level.call-decides file k (level.level-accepted file k room e) room) ∙ e in
      block-front (in_order order (picture_of file k)) (data_of_level file k) old
      (refusal-in order (picture_of file k) (call.Block room) (data_of_level file k) ∙ ok)

  pub total-level : TotalLevel file k
  total-level =
      record {
        description = λ r read n h. rw read.number (exactly-when (level_checks file k) n h);
        c-description = exactly-when (level_checks file k);
        picture = λ order old new r w. words-outcome (decode_checks file k (length old)) (of_level order) _ (level-front order old) w.number w.words;
        c-picture = λ order old new n w. words-outcome (decode_checks file k (length old)) (of_level order) _ (level-front order old) w.number w.words;
      }
