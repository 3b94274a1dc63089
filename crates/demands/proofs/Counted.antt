-- How many texels damage in a block touches: those whose footprint has it, which are the rectangle about it. Assumes nothing.
use Rattle.std.proofs.Common.{◌≡◌, ℕ, zero, suc, ◌+◌, ◌*◌, ◌/◌, ◌%◌, ◌<◌, ◌≤◌, Bool, true, false, ◌||◌, eqb, List, [], ◌∷◌, sym, refl, ap, ◌∙◌, ap₂, ⊎_elim}
use Rattle.std.proofs.Common.{mul-le-mul_right, mod-lt, div-lt_iff_lt-mul, div-add-mod', arith, eq-eqb, eqb-true}
use mathlib.Core.Bool.{false≢true}
use mathlib.Core.List.Memᴰ
use mathlib.Core.List.{Memᴰ}
use Rattle.facts.specs.Count.{count}
use Rattle.facts.proofs.Count.{count-at-most, count-at-least}
use Rattle.facts.proofs.Lists.{Value, tab-in, tab_out}
use Rattle.facts.proofs.Numbers.{split}
use Rattle.facts.proofs.Tab.{length-tab, get_or-tab}
use Rattle.grid.specs.Grid.{half}
use Rattle.paint.proofs.Painted.{same_place}
use Rattle.pixel.specs.declared.ChannelOrder.{ChannelOrder}
use Rattle.demands.specs.Damage.{reach, Spot, spot, spot_at, damaged}
use Rattle.demands.specs.Footprint.{footprint, is_in}
use Rattle.demands.specs.Local.{Whole, Local}

-- the test tells what stands in a list
pub is-in : (z : ℕ) (l : List ℕ) → is_in z l ≡ true → Memᴰ z l
unfolding is_in
is-in z [] e = absurd (false≢true e)
is-in z (a ∷ l) e = by (eqb z a) refl e (is-in z l)
  where
    by : (t : Bool) → eqb z a ≡ t → (t || is_in z l) ≡ true → (is_in z l ≡ true → Memᴰ z l) → Memᴰ z (a ∷ l)
    by true q r later = Memᴰ.head (eqb-true z a q)
    by false q r later = Memᴰ.tail (later r)

pub in_is : (z : ℕ) (l : List ℕ) → Memᴰ z l → is_in z l ≡ true
unfolding is_in
in_is z [] m = absurd (Memᴰ.not-nil m)
in_is z (a ∷ l) m = ⊎_elim (λ e. rw (eq-eqb z a e) refl) (λ r. later (eqb z a) (in_is z l r)) (Memᴰ.cases_cons m)
  where
    later : (t : Bool) {b : Bool} → b ≡ true → (t || b) ≡ true
    later true e = refl
    later false e = e

-- a word's place tells its column and its row
module _ (w h k : ℕ) (l : k < w * h) where
  width_above : 0 < w
  width_above = positive w l
    where
      positive : (w : ℕ) → k < w * h → 0 < w
      positive zero l = absurd (omega arith)
      positive (suc w) l = omega arith

  column-in : k % w < w
  column-in = mod-lt k width_above

  row_in : k / w < h
  row_in = (div-lt_iff_lt-mul {k = w} {x = k} {y = h} width_above).1 (omega arith)

module _ {order : ChannelOrder} {two : Bool} {gx gy w h : ℕ} (here : Local order two gx gy w h) (z : ℕ) where
  -- the test that is counted, and the place of the k-th texel of the rectangle
  abbrev has : ℕ → Bool
  has k = is_in z (footprint two gx gy (k % w) (k / w))

  abbrev size : ℕ
  size = reach (half two) * reach 2

  abbrev place_of : ℕ → ℕ
  place_of i = (spot_at two gx gy z i).y * w + (spot_at two gx gy z i).x

  pub touched-at-most : count has (w * h) ≤ size
  unfolding damaged
  touched-at-most = count-at-most size place_of has (w * h) named
    where
      named : (k : ℕ) → k < w * h → has k ≡ true → Value place_of size k
      named k l e =
          let m = here.listed (k % w) (k / w) z (column-in w h k l) (row_in w h k l) (is-in z _ e) in
          let v = tab_out (spot_at two gx gy z) size m in
          record { k = v.k; below = v.below; is = sym (div-add-mod' k w) ∙ ap (λ (s : Spot). s.y * w + s.x) v.is }

  module _ (whole : Whole two gx gy w h) (lz : z < gx * gy) where
    inside : (i : ℕ) → i < size → let s = spot_at two gx gy z i in (s.x < w) × (s.y < h) × Memᴰ z (footprint two gx gy s.x s.y)
    unfolding damaged
    inside i l = here.all whole z lz (spot_at two gx gy z i) (tab-in (spot_at two gx gy z) size i l refl)

    pub touched-at-least : size ≤ count has (w * h)
    unfolding damaged
    touched-at-least = count-at-least size place_of has (w * h) passes apart
      where
        passes : (i : ℕ) → i < size → (place_of i < w * h) × (has (place_of i) ≡ true)
        passes i l =
            let s : Spot = spot_at two gx gy z i in
            let a = inside i l in
            let row : s.y + 1 ≤ h = omega (arith, a.1) in
            let cut = split w (place_of i) s.y s.x refl a.0 in
            (omega (arith, a.0, mul-le-mul_right w row), rw (cut.0, cut.1) (in_is z _ a.2))

        apart : (i j : ℕ) → i < j → j < size → place_of i ≡ place_of j → ⊥
        apart i j less l e =
            let s : Spot = spot_at two gx gy z i in
            let t : Spot = spot_at two gx gy z j in
            let same = same_place w s.x s.y t.x t.y (inside i (omega arith)).0 (inside j l).0 e in
            here.once whole z i j less (omega (arith, length-tab (spot_at two gx gy z) size)) s
            (get_or-tab (spot_at two gx gy z) size i s (omega arith) ∙ ap₂ spot same.0 same.1 ∙ sym (get_or-tab (spot_at two gx gy z) size j s l))
