-- Demand 3 over every call: for each picture whose sizes are accepted. Assumes nothing.
use Rattle.std.proofs.Common.{◌≡◌, ℕ, ◌*◌, ◌/◌, ◌%◌, ◌<◌, ◌≤◌, Bool, true, false, not, eqb, List, length, get_or, Ok, sym, refl, ap, ◌∙◌, ap₂, mod-lt, arith}
use Rattle.std.proofs.Common.{le-ltb, eq-eqb, ne_eqb}
use mathlib.Core.Bool.{false≢true}
use mathlib.Core.List.Memᴰ
use mathlib.Core.List.{Memᴰ}
use Rattle.facts.specs.Count.{count}
use Rattle.facts.proofs.Count.{count_same, count-le}
use Rattle.grid.specs.Grid.{half, block_width}
use Rattle.grid.proofs.Counts.{wide}
use Rattle.texel.proofs.Same.{held}
use Rattle.texel.proofs.Shares.{half-low}
use Rattle.pvrtc.specs.Calls.{refusal, BlockDecoded}
use Rattle.pvrtc.specs.Picture.{grid_of, picture_texel}
use Rattle.pvrtc.specs.Refusals.{need, zero_side, large_side, short_image, not_power, outside}
use Rattle.pvrtc.specs.declared.Call.{Call}
use Rattle.pvrtc.specs.declared.Picture.{Picture}
use Rattle.pvrtc.proofs.Accepted.{accepted, passed, power-across, power-down, covers-across, covers_down}
use Rattle.pvrtc.proofs.Agree.{word-is}
use Rattle.demands.specs.Footprint.{is_in, SameOutside}
use Rattle.demands.specs.Local.{Told, Local}
use Rattle.demands.specs.LocalCalls.{blocks_of, footprint_of, touched_by, changed, most_touched, Shown, LocalCalls, LocalPictures}
use Rattle.demands.proofs.Counted.{is-in, in_is, touched-at-most, touched-at-least}
use Rattle.demands.proofs.Damage.{rectangle-size}
use Rattle.demands.proofs.Local.{covers, local}
use Rattle.demands.proofs.Member.{in-footprint}
use Rattle.demands.proofs.Seen.{seen}

-- whether texel k of a picture, in row order, differs between two runs
abbrev pub texels_differ : Picture → (d d' : List ℕ) → ℕ → Bool
texels_differ p d d' k = let w = p.width in not (eqb (picture_texel p d (k % w) (k / w)) (picture_texel p d' (k % w) (k / w)))

module _ (p : Picture) (sides : zero_side p ≡ false) (small : large_side p ≡ false) (powers : not_power p ≡ false) where
  abbrev two : Bool
  two = p.is2bpp

  here : Local p.order two (grid_of p).across (grid_of p).down p.width p.height
  here =
      let g = grid_of p in
      local p.order two g.across g.down p.width p.height
      (covers two g.across g.down p.width p.height (power-across p powers) (power-down p powers) (covers-across p) (covers_down p))

  -- runs that differ in block z alone have the same texel where z is not in the footprint
  unchanged : (d d' : List ℕ) (z x y : ℕ) → SameOutside (blocks_of p) d d' z → (Memᴰ z (footprint_of p x y) → ⊥)
      → picture_texel p d x y ≡ picture_texel p d' x y
  unchanged d d' z x y same out = here.enough x y d d' (λ b m. same b (here.within x y b m) (λ e. out (Memᴰ.cast (sym e) m)))

  -- whether texel k in row order has z in its footprint
  abbrev drawn : ℕ → ℕ → Bool
  drawn z k = is_in z (footprint_of p (k % p.width) (k / p.width))

  -- so a texel that changes has z in its footprint
  texels-near : (z : ℕ) (d d' : List ℕ) → SameOutside (blocks_of p) d d' z → count (texels_differ p d d') (p.width * p.height) ≤ touched_by p z
  texels-near z d d' same = count-le _ _ (p.width * p.height) has
    where
      has : (k : ℕ) → k < p.width * p.height → texels_differ p d d' k ≡ true → drawn z k ≡ true
      has k l e = by (drawn z k) refl
        where
          by : (t : Bool) → drawn z k ≡ t → drawn z k ≡ true
          by true q = q
          by false q =
              let equal = unchanged d d' z (k % p.width) (k / p.width) same (λ m. false≢true (sym q ∙ in_is z _ m)) in
              absurd (false≢true (sym (ap not (eq-eqb _ _ equal)) ∙ e))

  -- and so has a word that does
  no_more : (z : ℕ) (d d' old new old' new' : List ℕ) → SameOutside (blocks_of p) d d' z
      → BlockDecoded p d old new (Ok tt) → BlockDecoded p d' old' new' (Ok tt) → changed p new new' ≤ touched_by p z
  no_more z d d' old new old' new' same a b =
      let words : changed p new new' ≡ count (texels_differ p d d') (p.width * p.height) =
      count_same _ _ (p.width * p.height) (λ k l. ap₂ (λ (v w : ℕ). not (eqb v w)) (word-is p d a k l) (word-is p d' b k l)) in
      omega (arith, words, texels-near z d d' same)

  at_most : (z : ℕ) → touched_by p z ≤ most_touched two
  at_most z = omega (arith, touched-at-most here z, rectangle-size two)

  shown : (z : ℕ) → z < blocks_of p → Shown p z
  shown z lz =
      record {
        one = t.one;
        other = t.other;
        one_size = t.one_size;
        other-size = t.other-size;
        one-bytes = t.one-bytes;
        other-bytes = t.other-bytes;
        alone = t.alone;
        accepted = λ c roomy inside. (fits t.one c t.one_size roomy inside, fits t.other c t.other-size roomy inside);
        differ = λ x y v w m a b e. t.differ x y m (sym (seen p t.one x y v a).is ∙ e ∙ (seen p t.other x y w b).is);
        changes = λ old new old' new' a b. count_same _ _ (p.width * p.height) (λ k l. tells a b k l (drawn z k) refl);
      }
    where
      t : Told p.order two (grid_of p).across (grid_of p).down z
      t = here.needed z lz

      fits : (d : List ℕ) (c : Call) → length d ≡ 8 * blocks_of p → short_image p c ≡ false → outside p c ≡ false → refusal p c d ≡ 0
      fits d c e roomy inside =
          passed p c (length d)
          (record { sides = sides; small = small; enough = le-ltb (length d) (need p) (omega arith); roomy = roomy; powers = powers; inside = inside })

      -- a word differs exactly where z is in the footprint
      tells : {old new old' new' : List ℕ} → BlockDecoded p t.one old new (Ok tt) → BlockDecoded p t.other old' new' (Ok tt)
          → (k : ℕ) → k < p.width * p.height → (has : Bool) → drawn z k ≡ has → not (eqb (get_or new k 0) (get_or new' k 0)) ≡ drawn z k
      tells a b k l true q =
          ap not (ne_eqb _ _ (λ e. t.differ _ _ (is-in z _ q) (sym (word-is p t.one a k l) ∙ e ∙ word-is p t.other b k l))) ∙ sym q
      tells a b k l false q =
          let texels = unchanged t.one t.other z (k % p.width) (k / p.width) t.alone (λ m. false≢true (sym q ∙ in_is z _ m)) in
          ap not (eq-eqb _ _ (word-is p t.one a k l ∙ texels ∙ sym (word-is p t.other b k l))) ∙ sym q

  local-calls : LocalCalls p
  local-calls =
      record {
        some = here.some;
        few = here.few;
        within = here.within;
        fills = λ x y u v a b.
            in-footprint two (grid_of p).across (grid_of p).down x y _
            (record {
              i = u / block_width two;
              j = v / 4;
              across = held (half two) (x % block_width two) u (half-low two) (mod-lt x (wide two)) a.0 a.1;
              down = held 2 (y % 4) v (omega arith) (omega arith) (omega arith) (omega arith);
              is = refl;
            });
        enough = λ x y v w d d' same a b. (seen p d x y v a).is ∙ here.enough x y d d' same ∙ sym (seen p d' x y w b).is;
        needed = shown;
        size = here.size;
        only = λ x y z v w d d' same a b differ.
            let s = seen p d x y v a in
            here.only z d d' same x y s.across s.down (λ e. differ (s.is ∙ e ∙ sym (seen p d' x y w b).is));
        cut = λ x y z lx ly lz. (here.drawn x y z lz, here.listed x y z lx ly);
        no_more = no_more;
        at_most = at_most;
        exactly = λ whole z lz. omega (arith, touched-at-most here z, touched-at-least here z whole lz, rectangle-size two);
      }

pub local-pictures : LocalPictures
local-pictures p c d e =
    let ok = accepted p c (length d) e in
    local-calls p ok.sides ok.small ok.powers

-- and of two runs that differ in block z alone, no more texels differ than 49 at 4bpp, 105 at 2bpp
pub few-differ : (p : Picture) (c : Call) (d d' : List ℕ) (z : ℕ) → refusal p c d ≡ 0 → SameOutside (blocks_of p) d d' z
    → count (texels_differ p d d') (p.width * p.height) ≤ most_touched p.is2bpp
few-differ p c d d' z e same =
    let ok = accepted p c (length d) e in
    let near = texels-near p ok.sides ok.small ok.powers z d d' same in
    omega (arith, near, at_most p ok.sides ok.small ok.powers z)
