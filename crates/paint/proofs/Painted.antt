-- Laws of a painted rectangle. Assumes nothing.
use Rattle.std.proofs.Common.{◌≡◌, refl, sym, ap, ap₂, ◌∙◌, Bool, true, false, ◌&&◌, List, ◌++◌, ⊎_elim, ℕ, ◌+◌, ◌-◌, ◌*◌, ◌/◌, ◌%◌, ◌<◌, ◌≤◌, div-add-mod'}
use Rattle.std.proofs.Common.{div-lt_iff_lt-mul, mod-lt, mul-le-mul_right, not-suc-le-zero, arith, leb, ltb, length, get_or, drop, length-append}
use Rattle.std.proofs.Common.{length-drop, ext_get_or, get_or-drop, get_or-append-add, leb-true, le-leb, ltb-true, lt-ltb}
use mathlib.Core.Bool.{false≢true}
use lib.ListN.{get_or-eq_default}
use Rattle.facts.specs.Tab.{tab}
use Rattle.facts.proofs.Numbers.{lt-or-le, split}
use Rattle.facts.proofs.Tab.{length-tab, get_or-tab, tab-front}
use Rattle.paint.specs.Paint.{inside, painted}

-- a place of a row of `stride` words tells its row and its column
pub same_place : (stride x y x' y' : ℕ) → x < stride → x' < stride → y * stride + x ≡ y' * stride + x' → (x ≡ x') × (y ≡ y')
same_place stride x y x' y' hx hx' e =
    let a = split stride (y * stride + x) y x refl hx in
    let b = split stride (y * stride + x) y' x' e hx' in
    (sym a.1 ∙ b.1, sym a.0 ∙ b.0)

-- word k is none of the rectangle's
abbrev pub Outside : ℕ → ℕ → ℕ → ℕ → ℕ → Type 0
Outside start stride w h k = (x y : ℕ) → x < w → y < h → k ≡ start + (y * stride + x) → ⊥

module _ (start stride w h : ℕ) (wide : w ≤ stride) where
  is-inside : (x y : ℕ) → x < w → y < h → inside start stride w h (start + (y * stride + x)) ≡ true
  is-inside x y hx hy =
      let back : start + (y * stride + x) - start ≡ y * stride + x = omega arith in
      let cut = split stride (y * stride + x) y x refl (omega arith) in
      rw (back, le-leb start (start + (y * stride + x)) (omega arith), cut.0, cut.1, lt-ltb x w hx, lt-ltb y h hy)

  -- a word of the rectangle has a column and a row
  record At (k : ℕ) : Type 0 where
    pub x : ℕ
    pub y : ℕ
    pub across : x < w
    pub down : y < h
    pub is : start + (y * stride + x) ≡ k

  found : (k : ℕ) → inside start stride w h k ≡ true → At k
  found k e = by (leb start k) refl (ltb ((k - start) % stride) w) refl (ltb ((k - start) / stride) h) refl e
    where
      by : (a : Bool) → leb start k ≡ a → (b : Bool) → ltb ((k - start) % stride) w ≡ b → (c : Bool) → ltb ((k - start) / stride) h ≡ c
          → (a && b && c) ≡ true → At k
      by true ea true eb true ec t =
          record {
            x = (k - start) % stride;
            y = (k - start) / stride;
            across = ltb-true _ _ eb;
            down = ltb-true _ _ ec;
            is = omega (arith, leb-true start k ea, div-add-mod' (k - start) stride);
          }
      by true ea true eb false ec t = absurd (false≢true t)
      by true ea false eb c ec t = absurd (false≢true t)
      by false ea b eb c ec t = absurd (false≢true t)

  outside_of : (k : ℕ) → inside start stride w h k ≡ false → Outside start stride w h k
  outside_of k e x y hx hy q = false≢true (sym e ∙ ap (inside start stride w h) q ∙ is-inside x y hx hy)

  not-inside : (k : ℕ) → Outside start stride w h k → inside start stride w h k ≡ false
  not-inside k out = by (inside start stride w h k) refl
    where
      by : (t : Bool) → inside start stride w h k ≡ t → inside start stride w h k ≡ false
      by true e = let p : At k = found k e in absurd (out p.x p.y p.across p.down (sym p.is))
      by false e = e

  module _ (f : ℕ → ℕ → ℕ) (old : List ℕ) where
    pub length-painted : length (painted start stride w h f old) ≡ length old
    unfolding painted
    length-painted = length-tab _ (length old)

    -- what a word of the rectangle is
    pub painted-in : (x y : ℕ) → x < w → y < h → start + (y * stride + x) < length old
        → get_or (painted start stride w h f old) (start + (y * stride + x)) 0 ≡ f x y
    unfolding painted
    painted-in x y hx hy l =
        let back : start + (y * stride + x) - start ≡ y * stride + x = omega arith in
        let cut = split stride (y * stride + x) y x refl (omega arith) in
        get_or-tab _ (length old) (start + (y * stride + x)) 0 l ∙ rw (is-inside x y hx hy, back, cut.0, cut.1)

    -- and every other
    pub painted-out : (k : ℕ) → Outside start stride w h k → get_or (painted start stride w h f old) k 0 ≡ get_or old k 0
    unfolding painted
    painted-out k out =
        ⊎_elim
        (λ l. get_or-tab _ (length old) k 0 l ∙ rw (not-inside k out))
        (λ g. get_or-eq_default (painted start stride w h f old) 0 (omega (arith, length-painted)) ∙ sym (get_or-eq_default old 0 g))
        (lt-or-le k (length old))

    -- a list is the painted one if its words are
    pub is-painted : (l : List ℕ) → length l ≡ length old
        → ((x y : ℕ) → x < w → y < h → start + (y * stride + x) < length old → get_or l (start + (y * stride + x)) 0 ≡ f x y)
        → ((k : ℕ) → Outside start stride w h k → get_or l k 0 ≡ get_or old k 0)
        → l ≡ painted start stride w h f old
    unfolding painted
    is-painted l e new rest = ext_get_or 0 l (painted start stride w h f old) (e ∙ sym length-painted) (λ k m. same k (rw e at m))
      where
        by : (k : ℕ) → k < length old → (t : Bool) → inside start stride w h k ≡ t → get_or l k 0 ≡ get_or (painted start stride w h f old) k 0
        by k m true q =
            let p : At k = found k q in
            let i : start + (p.y * stride + p.x) < length old = rw p.is m in
            ap (λ (n : ℕ). get_or l n 0) (sym p.is)
            ∙ new p.x p.y p.across p.down i
            ∙ sym (painted-in p.x p.y p.across p.down i)
            ∙ ap (λ (n : ℕ). get_or (painted start stride w h f old) n 0) p.is
        by k m false q = rest k (outside_of k q) ∙ sym (painted-out k (outside_of k q))

        same : (k : ℕ) → k < length old → get_or l k 0 ≡ get_or (painted start stride w h f old) k 0
        same k m = by k m (inside start stride w h k) refl

-- nothing is laid where there are no rows
pub painted-none : (start stride w : ℕ) (f : ℕ → ℕ → ℕ) (old : List ℕ) → w ≤ stride → old ≡ painted start stride w 0 f old
painted-none start stride w f old wide =
    is-painted start stride w 0 wide f old old refl (λ x y hx hy l. absurd (not-suc-le-zero hy)) (λ k out. refl)

-- the rectangle counts, and not how the function is written
pub painted_same : (start stride w h : ℕ) (f g : ℕ → ℕ → ℕ) (old : List ℕ) → w ≤ stride → ((x y : ℕ) → x < w → y < h → f x y ≡ g x y)
    → painted start stride w h f old ≡ painted start stride w h g old
painted_same start stride w h f g old wide e =
    is-painted start stride w h wide g old (painted start stride w h f old) (length-painted start stride w h wide f old)
    (λ x y hx hy l. painted-in start stride w h wide f old x y hx hy l ∙ e x y hx hy)
    (λ k out. painted-out start stride w h wide f old k out)

-- a picture whose rows follow one another from word 0: its words, and the rest as it was
pub whole : (w h : ℕ) (f : ℕ → ℕ → ℕ) (old : List ℕ) → 0 < w → w * h ≤ length old
    → painted 0 w w h f old ≡ tab (λ k. f (k % w) (k / w)) (w * h) ++ drop (w * h) old
whole w h f old pos fits =
    sym (is-painted 0 w w h (omega arith) f old (tab g (w * h) ++ drop (w * h) old) same_length
    (λ x y hx hy l. front x y hx hy)
    (λ k out. behind k out))
  where
    g : ℕ → ℕ
    g k = f (k % w) (k / w)

    same_length : length (tab g (w * h) ++ drop (w * h) old) ≡ length old
    same_length = length-append (tab g (w * h)) (drop (w * h) old) ∙ omega (arith, length-tab g (w * h), length-drop (w * h) old)

    front : (x y : ℕ) → x < w → y < h → get_or (tab g (w * h) ++ drop (w * h) old) (0 + (y * w + x)) 0 ≡ f x y
    front x y hx hy =
        let cut = split w (y * w + x) y x refl hx in
        let row : y + 1 ≤ h = omega arith in
        let zero_more : 0 + (y * w + x) ≡ y * w + x = omega arith in
        rw zero_more (tab-front g (w * h) (y * w + x) (drop (w * h) old) 0 (omega (arith, mul-le-mul_right w row)) ∙ ap₂ f cut.1 cut.0)

    behind : (k : ℕ) → Outside 0 w w h k → get_or (tab g (w * h) ++ drop (w * h) old) k 0 ≡ get_or old k 0
    behind k out =
        ⊎_elim
        (λ l. absurd (out (k % w) (k / w) (mod-lt k pos) ((div-lt_iff_lt-mul {k = w} {x = k} {y = h} pos).1 (omega arith)) (omega (arith, div-add-mod' k w))))
        (λ ge.
        let e : length (tab g (w * h)) + (k - w * h) ≡ k = omega (arith, length-tab g (w * h)) in
        let q : w * h + (k - w * h) ≡ k = omega arith in
        ap (λ (n : ℕ). get_or (tab g (w * h) ++ drop (w * h) old) n 0) (sym e)
        ∙ get_or-append-add (tab g (w * h)) (drop (w * h) old) (k - w * h) 0
        ∙ get_or-drop (w * h) old (k - w * h) 0 ∙ ap (λ (n : ℕ). get_or old n 0) q)
        (lt-or-le k (w * h))
