-- The order of channels over every call: blue first all answers are what they were, red first each word has two bytes exchanged.
-- Assumes nothing.
use Rattle.std.proofs.Common.{◌≡◌, ℕ, ◌/◌, ◌%◌, ◌<◌, Bool, true, false, cond, eqb, List, ◌++◌, length, get_or, drop, sym, refl, ap, ◌∙◌, ap₂, arith, drop_at}
use Rattle.std.proofs.Common.{ne_eqb, eqb-true}
use borrow.Author.Tests.{eqb-false}
use Rattle.facts.specs.Checks.{Check}
use Rattle.facts.specs.Tab.{tab}
use Rattle.facts.proofs.Tab.{length-tab, tab-front, tab-same}
use Rattle.pixel.specs.Pixel.{packed, exchanged}
use Rattle.pixel.specs.declared.ChannelOrder.{ChannelOrder}
use Rattle.pixel.specs.declared.ChannelOrder.TheVariants.{BlueFirst, RedFirst}
use Rattle.pvrtc.specs.Calls.{refusal}
use Rattle.pvrtc.specs.Picture.{in_order, picture_texel}
use Rattle.pvrtc.specs.declared.Call.{Call}
use Rattle.pvrtc.specs.declared.Call.TheVariants as call
use Rattle.pvrtc.specs.declared.Picture.{Picture}
use Rattle.pvrtc.proofs.Orders.{refusal-in, red-first}
use Rattle.ktx.specs.Picture as ktx
use Rattle.levels.specs.Levels as level
use Rattle.capi.specs.Plate.{order_of}
use Rattle.capi.proofs.Answers.{number-back, value-back}
use Rattle.demands.specs.ChannelOrders.{channels_of, AsBefore, exchanged_to, Exchanges, words_in, ExchangedCalls, ExchangedFiles, EitherOrder}
use Rattle.demands.specs.Total.{WordsOutcome}
use Rattle.demands.proofs.Seen.{seen}
use Rattle.demands.proofs.Total.{total, total-ktx, total-level}

as_before : AsBefore
as_before p d x y v e g = (seen p d x y v g).is ∙ ap (λ (order : ChannelOrder). packed order (channels_of p d x y)) e

-- the texels of one order, laid in front, are the other's exchanged
front-exchanged : (n : ℕ) (red blue : ℕ → ℕ) (old : List ℕ) → ((k : ℕ) → red k ≡ exchanged (blue k))
    → let new = tab blue n ++ drop (length (tab blue n)) old in tab red n ++ drop (length (tab red n)) old ≡ exchanged_to n new
front-exchanged n red blue old e =
    ap₂ ◌++◌
    (tab-same red (λ k. exchanged (get_or (tab blue n ++ drop (length (tab blue n)) old) k 0)) n
    (λ k l. e k ∙ ap exchanged (sym (tab-front blue n k (drop (length (tab blue n)) old) 0 l))))
    (ap (λ (m : ℕ). drop m old) (length-tab red n) ∙ behind)
  where
    behind : drop n old ≡ drop n (tab blue n ++ drop (length (tab blue n)) old)
    behind = ap (λ (m : ℕ). drop m old) (sym (length-tab blue n)) ∙ sym (drop_at (tab blue n) (drop (length (tab blue n)) old) n (length-tab blue n))

-- two outcomes of one call
exchanges : {l l' : List Check} (n : ℕ) (red blue : ℕ → ℕ) {old new new' : List ℕ} {r s : ℕ} → ((k : ℕ) → red k ≡ exchanged (blue k))
    → WordsOutcome l (tab red n) old new r → WordsOutcome l' (tab blue n) old new' s → r ≡ s → Exchanges n r s new new'
exchanges n red blue {old} {new} {new'} {r} {s} e a b same = record { number = same; words = by (eqb s 0) refl }
  where
    by : (t : Bool) → eqb s 0 ≡ t → new ≡ cond t (exchanged_to n new') new'
    by true q =
        let none : s ≡ 0 = eqb-true s 0 q in
        a.done (same ∙ none) ∙ front-exchanged n red blue old e ∙ ap (exchanged_to n) (sym (b.done none))
    by false q =
        let other : s ≡ 0 → ⊥ = eqb-false s 0 q in
        a.refused (omega arith) ∙ sym (b.refused (omega arith))

-- a word that is answered, or none
none-exchanged : exchanged 0 ≡ 0
unfolding exchanged
none-exchanged = refl

answer-exchanged : {n m : ℕ} (red blue : ℕ) → n ≡ m → red ≡ exchanged blue → cond (eqb n 0) red 0 ≡ exchanged (cond (eqb m 0) blue 0)
answer-exchanged {n} {m} red blue e q = ap (λ (k : ℕ). cond (eqb k 0) red 0) e ∙ by (eqb m 0)
  where
    by : (t : Bool) → cond t red 0 ≡ exchanged (cond t blue 0)
    by true = q
    by false = sym none-exchanged

module _ (p : Picture) (d : List ℕ) where
  -- both calls say the same number
  both : (c : Call) → refusal (in_order RedFirst p) c d ≡ refusal (in_order BlueFirst p) c d
  both c = refusal-in RedFirst p c d ∙ sym (refusal-in BlueFirst p c d)

  abbrev row_word_of : ChannelOrder → ℕ → ℕ → ℕ
  row_word_of order y x = picture_texel (in_order order p) d x y

  abbrev word : ChannelOrder → ℕ → ℕ
  word order k = picture_texel (in_order order p) d (k % p.width) (k / p.width)

  row_words : (y k : ℕ) → row_word_of RedFirst y k ≡ exchanged (row_word_of BlueFirst y k)
  row_words y k = red-first p d k y

  words : (k : ℕ) → word RedFirst k ≡ exchanged (word BlueFirst k)
  words k = red-first p d (k % p.width) (k / p.width)

  exchanged-calls : ExchangedCalls p d
  exchanged-calls =
      let red = total (in_order RedFirst p) d in
      let blue = total (in_order BlueFirst p) d in
      record {
        texel = λ x y r s t u. (
          t.number ∙ both (call.Texel x y) ∙ sym u.number,
          t.value ∙ answer-exchanged _ _ (both (call.Texel x y)) (red-first p d x y) ∙ ap exchanged (sym u.value),
        );
        row = λ y old new new' r s a b.
            exchanges p.width (row_word_of RedFirst y) (row_word_of BlueFirst y) (row_words y) (red.row y old new r a) (blue.row y old new' s b)
            (a.number ∙ both (call.Row y (length old)) ∙ sym b.number);
        block = λ old new new' r s a b.
            exchanges (words_in p) (word RedFirst) (word BlueFirst) words (red.block old new r a) (blue.block old new' s b)
            (a.number ∙ both (call.Block (length old)) ∙ sym b.number);
        c-texel = λ x y. (
          number-back (in_order RedFirst p) d x y ∙ both (call.Texel x y) ∙ sym (number-back (in_order BlueFirst p) d x y),
          value-back (in_order RedFirst p) d x y
              ∙ answer-exchanged _ _ (both (call.Texel x y)) (red-first p d x y)
              ∙ ap exchanged (sym (value-back (in_order BlueFirst p) d x y)),
        );
        c-row = λ y old new new' n m a b.
            exchanges p.width (row_word_of RedFirst y) (row_word_of BlueFirst y) (row_words y) (red.c-row y old new n a) (blue.c-row y old new' m b)
            (a.number ∙ both (call.Row y (length old)) ∙ sym b.number);
        c-picture = λ old new new' n m a b.
            exchanges (words_in p) (word RedFirst) (word BlueFirst) words (red.c-picture old new n a) (blue.c-picture old new' m b)
            (a.number ∙ both (call.Block (length old)) ∙ sym b.number);
      }

-- a file's refusals are asked of no order
exchanged-files : (file : List ℕ) → ExchangedFiles file
exchanged-files file =
    let p = ktx.plate_of file in
    let d = ktx.level_data file in
    let t = total-ktx file in
    record {
      ktx-picture = λ old new new' r s a b.
          exchanges (words_in p) (word p d RedFirst) (word p d BlueFirst) (words p d) (t.picture RedFirst old new r a) (t.picture BlueFirst old new' s b)
          (a.number ∙ sym b.number);
      c-ktx-picture = λ old new new' n m a b.
          exchanges (words_in p) (word p d RedFirst) (word p d BlueFirst) (words p d) (t.c-picture RedFirst old new n a)
          (t.c-picture BlueFirst old new' m b) (a.number ∙ sym b.number);
      level-picture = λ k old new new' r s a b.
          let q = level.picture_of file k in
          let e = level.level_data file k in
          exchanges (words_in q) (word q e RedFirst) (word q e BlueFirst) (words q e) ((total-level file k).picture RedFirst old new r a)
          ((total-level file k).picture BlueFirst old new' s b) (a.number ∙ sym b.number);
      c-level-picture = λ k old new new' n m a b.
          let q = level.picture_of file k in
          let e = level.level_data file k in
          exchanges (words_in q) (word q e RedFirst) (word q e BlueFirst) (words q e) ((total-level file k).c-picture RedFirst old new n a)
          ((total-level file k).c-picture BlueFirst old new' m b) (a.number ∙ sym b.number);
    }

-- any other number than 0
other-order : (n : ℕ) → 0 < n → order_of n ≡ RedFirst
other-order n h = rw (ne_eqb n 0 (λ e. omega arith)) refl

pub either_order : EitherOrder
either_order =
    record {
      as_before = as_before;
      refusals = refusal-in;
      calls = exchanged-calls;
      files = exchanged-files;
      in_c = (refl, other-order);
    }
