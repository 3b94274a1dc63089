-- What the loop of the row call keeps and needs. Assumes nothing.
use Rattle.std.proofs.Common.{◌≡◌, ℕ, ◌+◌, ◌-◌, ◌/◌, ◌%◌, ◌<◌, ◌≤◌, Bool, true, false, cond, eqb, List, ◌++◌, length, get_or, drop, Ok, Err, Result, sym, ap}
use Rattle.std.proofs.Common.{◌∙◌, ⊎_elim, mod-lt, mod-eq_of_lt, eq-zero-or-pos, zero-add, arith, eq-eqb, ne_eqb}
use native.Mathlib.Nat.{zero-mod, zero-div, mod_self, add-mod_right}
use Rattle.facts.specs.Tab.{tab}
use Rattle.facts.proofs.Tab.{tab-front, length-tab, get_or-tab, filled-length}
use Rattle.grid.specs.declared.Grid.{Grid}
use Rattle.grid.specs.Grid.{half, block_width, beside}
use Rattle.grid.proofs.Counts.{wide}
use Rattle.paint.proofs.Laid.{put}
use Rattle.paint.specs.Paint.{painted}
use Rattle.pixel.specs.Pixel.{packed}
use Rattle.pixel.specs.declared.ChannelOrder.{ChannelOrder}
use Rattle.texel.proofs.Needed.{needed-read, slid-is, texel-of-row}
use Rattle.texel.proofs.Shares.{half_high}
use Rattle.texel.specs.Inner.{nine_of, Read}
use Rattle.texel.specs.Needed.{every, row_words, slid}
use Rattle.texel.specs.Summed.{shares, with_texels}
use Rattle.texel.specs.Texel.{texel_in, grid_texel}
use Rattle.word.specs.declared.PVRTCTexelInfo.{PVRTCTexelInfo}
use Rattle.pvrtc.specs.declared.Call.TheVariants as call
use Rattle.pvrtc.specs.declared.Picture.{Picture}
use Rattle.pvrtc.specs.declared.Refusal.{Refusal}
use Rattle.pvrtc.specs.Calls.{TexelRead}
use Rattle.pvrtc.specs.Picture.{grid_of, picture_texel}
use Rattle.pvrtc.specs.Refusals.{texel_number, texel_value}
use Rattle.pvrtc.proofs.Accepted.{Accepted}
use Rattle.pvrtc.proofs.Accepted as accepted
use Rattle.pvrtc.specs.Numbers.{number-above}

module _ (p : Picture) (d : List ℕ) (x y room : ℕ) (a : Accepted p (call.Row y room) (length d)) (h : x < p.width) where
  -- a texel of an accepted row is not refused
  pub not-refused : {r : Result ℕ Refusal} {f : Refusal} → TexelRead p d x y r → r ≡ Err f → ⊥
  not-refused {r} {f} t e =
      omega (arith, number-above f, ap texel_number e, t.number, accepted.texel-of-row p x y room (length d) a h)

  -- and is the picture's
  pub its-word : {r : Result ℕ Refusal} {v : ℕ} → TexelRead p d x y r → r ≡ Ok v → v ≡ picture_texel p d x y
  its-word {r} {v} t e =
      sym (ap texel_value e) ∙ t.value ∙ rw (accepted.texel-of-row p x y room (length d) a h)

-- a row's words in the place of the first ones
pub row-laid : (f : ℕ → ℕ → ℕ) (n : ℕ) {words : List ℕ} (old : List ℕ) → n ≤ length old → words ≡ tab (λ x. f x 0) n
    → words ++ drop n old ≡ painted 0 n n 1 f old
row-laid f n {words} old l e =
    put 0 n f words old (omega arith) (ap length e ∙ length-tab (λ x. f x 0) n) (λ x h. ap (λ (l : List ℕ). get_or l x 0) e ∙ get_or-tab (λ x. f x 0) n x 0 h)

-- how a column and the one before it lie in their blocks
module _ (two : Bool) (x : ℕ) where
  block_start : x % block_width two ≡ 0 → 0 < x → x / block_width two ≡ (x - 1) / block_width two + 1
  block_start e l = by two e
    where
      by : (two : Bool) → x % block_width two ≡ 0 → x / block_width two ≡ (x - 1) / block_width two + 1
      by true e = omega arith
      by false e = omega arith

  in_block : (x % block_width two ≡ 0 → ⊥) → (0 < x) × ((x - 1) / block_width two ≡ x / block_width two)
  in_block n = by two n
    where
      by : (two : Bool) → (x % block_width two ≡ 0 → ⊥) → (0 < x) × ((x - 1) / block_width two ≡ x / block_width two)
      by true n = ⊎_elim (λ e. absurd (n e)) (λ l. (omega arith, omega arith)) (eq-zero-or-pos (x % 8))
      by false n = ⊎_elim (λ e. absurd (n e)) (λ l. (omega arith, omega arith)) (eq-zero-or-pos (x % 4))

  no-later : (x - 1) / block_width two ≤ x / block_width two
  no-later = by two
    where
      by : (two : Bool) → (x - 1) / block_width two ≤ x / block_width two
      by true = omega arith
      by false = omega arith

-- the block of the column before x; before the first column it is the last block, round the torus
abbrev pub block_before : Bool → (gx x : ℕ) → ℕ
block_before two gx x = cond (eqb x 0) (gx - 1) ((x - 1) / block_width two)

module _ (two : Bool) (gx x : ℕ) (lb : x / block_width two < gx) where
  before-none : x ≡ 0 → block_before two gx x ≡ gx - 1
  before-none e = rw (eq-eqb x 0 e)

  before-some : 0 < x → block_before two gx x ≡ (x - 1) / block_width two
  before-some l = rw (ne_eqb x 0 (λ e. omega arith))

  before-below : block_before two gx x < gx
  before-below =
      ⊎_elim (λ e. rw (before-none e) (omega arith)) (λ l. rw (before-some l) (omega (arith, no-later two x))) (eq-zero-or-pos x)

  -- a block's first column: the block follows the one before
  before-next : x % block_width two ≡ 0 → x / block_width two ≡ beside gx (block_before two gx x) 2
  unfolding beside
  before-next at =
      ⊎_elim
      (λ e.
      let last : block_before two gx x + 2 + gx - 1 ≡ gx + gx = omega (arith, before-none e) in
      ap (λ (n : ℕ). n / block_width two) e ∙ zero-div (block_width two) ∙ sym (ap (λ (n : ℕ). n % gx) last ∙ add-mod_right gx gx ∙ mod_self gx))
      (λ l.
      let b = block_start two x at l in
      let one : block_before two gx x + 2 + gx - 1 ≡ x / block_width two + gx = omega (arith, before-some l) in
      sym (ap (λ (n : ℕ). n % gx) one ∙ add-mod_right (x / block_width two) gx ∙ mod-eq_of_lt lb))
      (eq-zero-or-pos x)

-- what is held before column x is read: the words about the block before, and that block's texels of the row
pub record Before (order : ChannelOrder) (g : Grid) (d : List ℕ) (y x : ℕ) (nine : List PVRTCTexelInfo) (texels : List ℕ) : Type 0 where
  pub words : nine ≡ row_words g d (block_before g.is2bpp g.across x) (y / 4) (y % 4)
  pub known : (x % block_width g.is2bpp ≡ 0 → ⊥) → (i : ℕ) → i < block_width g.is2bpp
      → get_or texels i 0 ≡ packed order (texel_in (half g.is2bpp) (nine_of nine) i (y % 4))
  pub long : length texels ≡ 8

-- and once it can be read: the words about its own block, and that block's texels
pub record Held (order : ChannelOrder) (g : Grid) (d : List ℕ) (y x : ℕ) (nine : List PVRTCTexelInfo) (texels : List ℕ) : Type 0 where
  pub words : nine ≡ row_words g d (x / block_width g.is2bpp) (y / 4) (y % 4)
  pub known : (i : ℕ) → i < block_width g.is2bpp → get_or texels i 0 ≡ packed order (texel_in (half g.is2bpp) (nine_of nine) i (y % 4))
  pub long : length texels ≡ 8

module _ (order : ChannelOrder) (g : Grid) (d : List ℕ) (y x : ℕ) where
  -- before the first column
  pub held_none : {nine : List PVRTCTexelInfo} {texels : List ℕ} → nine ≡ row_words g d (g.across - 1) (y / 4) (y % 4) → length texels ≡ 8
      → Before order g d y 0 nine texels
  held_none e l = record { words = e; known = λ n. absurd (n (zero-mod (block_width g.is2bpp))); long = l }

  -- a block's first column: the words slide
  pub slides : {bx : ℕ} {nine next : List PVRTCTexelInfo} {texels : List ℕ} → x / block_width g.is2bpp < g.across → x % block_width g.is2bpp ≡ 0
      → Before order g d y x nine texels
      → bx ≡ x / block_width g.is2bpp → next ≡ slid g d bx (y / 4) (y % 4) nine → next ≡ row_words g d (x / block_width g.is2bpp) (y / 4) (y % 4)
  slides lb at b eb en =
      en ∙ rw (b.words, eb) (slid-is g d (block_before g.is2bpp g.across x) (x / block_width g.is2bpp) (y / 4) (y % 4)
      (before-below g.is2bpp g.across x lb) (before-next g.is2bpp g.across x lb at))

  pub slides-read : {next : List PVRTCTexelInfo} → next ≡ row_words g d (x / block_width g.is2bpp) (y / 4) (y % 4) → Read g.is2bpp next
  slides-read e = rw e (needed-read g d (x / block_width g.is2bpp) (y / 4) every (shares 2 (y % 4)))

  -- and so do the texels of its row
  pub held_first : {bx : ℕ} {nine next : List PVRTCTexelInfo} {texels after : List ℕ} → x / block_width g.is2bpp < g.across
      → x % block_width g.is2bpp ≡ 0 → Before order g d y x nine texels
      → bx ≡ x / block_width g.is2bpp → next ≡ slid g d bx (y / 4) (y % 4) nine → after
      ≡ with_texels order g.is2bpp next 0 (y % 4) (block_width g.is2bpp) texels → Held order g d y x next after
  unfolding with_texels
  held_first {next = next} {texels = texels} lb at b eb en et =
      record {
        words = slides lb at b eb en;
        known = λ i l.
            rw et (tab-front (λ i. packed order (texel_in (half g.is2bpp) (nine_of next) (0 + i) (y % 4))) (block_width g.is2bpp) i
            (drop (block_width g.is2bpp) texels) 0 l)
            ∙ ap (λ (n : ℕ). packed order (texel_in (half g.is2bpp) (nine_of next) n (y % 4))) (zero-add i);
        long = filled-length (record { is = et }) (omega (arith, b.long, half_high g.is2bpp)) ∙ b.long;
      }

  -- any other column: they stay
  pub held-later : {nine : List PVRTCTexelInfo} {texels : List ℕ} → (x % block_width g.is2bpp ≡ 0 → ⊥) → Before order g d y x nine texels
      → Held order g d y x nine texels
  held-later n b =
      let i = in_block g.is2bpp x n in
      record { words = b.words ∙ ap (λ (q : ℕ). row_words g d q (y / 4) (y % 4)) (here i.0 ∙ i.1); known = b.known n; long = b.long }
    where
      here : 0 < x → block_before g.is2bpp g.across x ≡ (x - 1) / block_width g.is2bpp
      here l = rw (ne_eqb x 0 (λ e. omega arith))

  -- the texel
  pub held-texel : {nine : List PVRTCTexelInfo} {texels : List ℕ} → Held order g d y x nine texels
      → get_or texels (x % block_width g.is2bpp) 0 ≡ grid_texel order g d x y
  held-texel h =
      h.known (x % block_width g.is2bpp) (mod-lt x (wide g.is2bpp))
      ∙ ap (λ (n : List PVRTCTexelInfo). packed order (texel_in (half g.is2bpp) (nine_of n) (x % block_width g.is2bpp) (y % 4))) h.words
      ∙ texel-of-row order g d x y

  -- and on to the next column
  pub held_next : {nine : List PVRTCTexelInfo} {texels : List ℕ} → Held order g d y x nine texels → Before order g d y (x + 1) nine texels
  held_next h = record { words = h.words ∙ ap (λ (q : ℕ). row_words g d q (y / 4) (y % 4)) on; known = λ _. h.known; long = h.long }
    where
      on : x / block_width g.is2bpp ≡ block_before g.is2bpp g.across (x + 1)
      on = let e : x + 1 - 1 ≡ x = omega arith in sym (rw (ne_eqb (x + 1) 0 (λ e. omega arith)) (ap (λ (n : ℕ). n / block_width g.is2bpp) e))

-- and so the texel of the picture whose grid it is
pub held-picture : (p : Picture) {g : Grid} (d : List ℕ) (y x : ℕ) {nine : List PVRTCTexelInfo} {texels : List ℕ} → g ≡ grid_of p
    → Held p.order g d y x nine texels
    → get_or texels (x % block_width p.is2bpp) 0 ≡ picture_texel p d x y
held-picture p {g} d y x e h = rw e at (held-texel p.order g d y x h)
