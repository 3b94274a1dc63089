-- How a rectangle grows: by a word, by columns, by rows. Assumes nothing.
use Rattle.std.proofs.Common.{◌≡◌, refl, sym, ap, ap₂, ◌∙◌, List, ⊎_elim, ℕ, ◌+◌, ◌-◌, ◌*◌, ◌<◌, ◌≤◌, mul-le-mul_right, arith, length, get_or, set, ◌++◌}
use Rattle.std.proofs.Common.{take, drop, length-take}
use Rattle.std.proofs.Common.{length-set, get_or-set_same, get_or-set_other}
use Rattle.std.proofs.lemmas.Grind.{elements}
use Rattle.facts.proofs.Numbers.{lt-or-le}
use Rattle.paint.specs.Paint.{painted}
use Rattle.paint.proofs.Painted.{Outside, same_place, length-painted, painted-in, painted-out, is-painted, painted-none, painted_same}

-- nothing is laid where there are no columns
pub no_words : (start stride h : ℕ) (f : ℕ → ℕ → ℕ) (old : List ℕ) → old ≡ painted start stride 0 h f old
no_words start stride h f old =
    is-painted start stride 0 h (omega arith) f old old refl (λ x y hx hy l. absurd (omega arith)) (λ k out. refl)

-- one word more
pub word_more : (start stride i : ℕ) (f : ℕ → ℕ → ℕ) (old : List ℕ) → i < stride → start + i < length old
    → set (painted start stride i 1 f old) (start + i) (f i 0) ≡ painted start stride (i + 1) 1 f old
word_more start stride i f old l fits =
    is-painted start stride (i + 1) 1 (omega arith) f old (set now (start + i) (f i 0)) (length-set now (start + i) (f i 0) ∙ len) new rest
  where
    wide : i ≤ stride
    wide = omega arith

    now : List ℕ
    now = painted start stride i 1 f old

    len : length now ≡ length old
    len = length-painted start stride i 1 wide f old

    same_row : (x y : ℕ) → y < 1 → start + (y * stride + x) ≡ start + x
    same_row x y h = let e : y ≡ 0 = omega arith in rw e (omega arith)

    new : (x y : ℕ) → x < i + 1 → y < 1 → start + (y * stride + x) < length old → get_or (set now (start + i) (f i 0)) (start + (y * stride + x)) 0 ≡ f x y
    new x y hx hy m =
        let zero : y ≡ 0 = omega arith in
        ⊎_elim
        (λ less.
        get_or-set_other now (start + i) (start + (y * stride + x)) (f i 0) 0 (λ q. absurd (omega (arith, same_row x y hy)))
        ∙ painted-in start stride i 1 wide f old x y less hy m)
        (λ more.
        let last : x ≡ i = omega arith in
        ap (λ (k : ℕ). get_or (set now (start + i) (f i 0)) k 0) (same_row x y hy ∙ ap (λ (n : ℕ). start + n) last)
        ∙ get_or-set_same now (start + i) (f i 0) 0 (omega (arith, len)) ∙ ap₂ f (sym last) (sym zero))
        (lt-or-le x i)

    rest : (k : ℕ) → Outside start stride (i + 1) 1 k → get_or (set now (start + i) (f i 0)) k 0 ≡ get_or old k 0
    rest k out =
        get_or-set_other now (start + i) k (f i 0) 0 (λ q. out i 0 (omega arith) (omega arith) (omega arith))
        ∙ painted-out start stride i 1 wide f old k (λ x y hx hy q. out x y (omega arith) hy q)

-- of one row the stride does not count
pub one-row : (start stride other w : ℕ) (f : ℕ → ℕ → ℕ) (old : List ℕ) → w ≤ stride → w ≤ other
    → painted start stride w 1 f old ≡ painted start other w 1 f old
one-row start stride other w f old wide wide' =
    is-painted start other w 1 wide' f old (painted start stride w 1 f old) (length-painted start stride w 1 wide f old)
    (λ x y hx hy l. ap (λ (k : ℕ). get_or (painted start stride w 1 f old) k 0) (flat x y hy)
    ∙ painted-in start stride w 1 wide f old x y hx hy (rw (← flat x y hy) l))
    (λ k out. painted-out start stride w 1 wide f old k (λ x y hx hy q. out x y hx hy (q ∙ sym (flat x y hy))))
  where
    flat : (x y : ℕ) → y < 1 → start + (y * other + x) ≡ start + (y * stride + x)
    flat x y h = let z : y ≡ 0 = omega arith in rw z (omega arith)

-- more columns: a rectangle beside one of as many rows
pub columns-more : (start stride c m r : ℕ) (f : ℕ → ℕ → ℕ) (old : List ℕ) → c + m ≤ stride
    → ((x y : ℕ) → x < c + m → y < r → start + (y * stride + x) < length old)
    → painted (start + c) stride m r (λ x y. f (c + x) y) (painted start stride c r f old) ≡ painted start stride (c + m) r f old
columns-more start stride c m r f old wide room =
    is-painted start stride (c + m) r wide f old after (length-painted (start + c) stride m r wide-m beside before ∙ len) new rest
  where
    wide-m : m ≤ stride
    wide-m = omega arith

    wide-c : c ≤ stride
    wide-c = omega arith

    beside : ℕ → ℕ → ℕ
    beside x y = f (c + x) y

    before : List ℕ
    before = painted start stride c r f old

    after : List ℕ
    after = painted (start + c) stride m r beside before

    len : length before ≡ length old
    len = length-painted start stride c r wide-c f old

    apart : (x y : ℕ) → x < c → Outside (start + c) stride m r (start + (y * stride + x))
    apart x y hx u v hu hv q =
        let place = same_place stride x y (c + u) v (omega arith) (omega arith) (omega arith) in
        absurd (omega arith)

    new : (x y : ℕ) → x < c + m → y < r → start + (y * stride + x) < length old → get_or after (start + (y * stride + x)) 0 ≡ f x y
    new x y hx hy l =
        ⊎_elim
        (λ less. painted-out (start + c) stride m r wide-m beside before _ (apart x y less) ∙ painted-in start stride c r wide-c f old x y less hy l)
        (λ more.
        let back : c + (x - c) ≡ x = omega arith in
        let e : start + (y * stride + x) ≡ start + c + (y * stride + (x - c)) = omega arith in
        ap (λ (k : ℕ). get_or after k 0) e
        ∙ painted-in (start + c) stride m r wide-m beside before (x - c) y (omega arith) hy (omega (arith, len))
        ∙ ap (λ (k : ℕ). f k y) back)
        (lt-or-le x c)

    rest : (k : ℕ) → Outside start stride (c + m) r k → get_or after k 0 ≡ get_or old k 0
    rest k out =
        painted-out (start + c) stride m r wide-m beside before k (λ x y hx hy q. out (c + x) y (omega arith) hy (q ∙ omega arith))
        ∙ painted-out start stride c r wide-c f old k (λ x y hx hy q. out x y (omega arith) hy q)

-- more rows: a rectangle below one of as many columns
pub rows_more : (start stride w r m : ℕ) (f : ℕ → ℕ → ℕ) (old : List ℕ) → w ≤ stride
    → ((x y : ℕ) → x < w → y < r + m → start + (y * stride + x) < length old)
    → painted (start + r * stride) stride w m (λ x y. f x (r + y)) (painted start stride w r f old) ≡ painted start stride w (r + m) f old
rows_more start stride w r m f old wide room =
    is-painted start stride w (r + m) wide f old after (length-painted (start + r * stride) stride w m wide below before ∙ len) new rest
  where
    below : ℕ → ℕ → ℕ
    below x y = f x (r + y)

    before : List ℕ
    before = painted start stride w r f old

    after : List ℕ
    after = painted (start + r * stride) stride w m below before

    len : length before ≡ length old
    len = length-painted start stride w r wide f old

    apart : (x y : ℕ) → x < w → y < r → Outside (start + r * stride) stride w m (start + (y * stride + x))
    apart x y hx hy u v hu hv q =
        let place = same_place stride x y u (r + v) (omega arith) (omega arith) (omega arith) in
        absurd (omega arith)

    new : (x y : ℕ) → x < w → y < r + m → start + (y * stride + x) < length old → get_or after (start + (y * stride + x)) 0 ≡ f x y
    new x y hx hy l =
        ⊎_elim
        (λ less. painted-out (start + r * stride) stride w m wide below before _ (apart x y hx less) ∙ painted-in start stride w r wide f old x y hx less l)
        (λ more.
        let back : r + (y - r) ≡ y = omega arith in
        let e : start + (y * stride + x) ≡ start + r * stride + ((y - r) * stride + x) = omega (arith, ap (λ (n : ℕ). n * stride) back) in
        ap (λ (k : ℕ). get_or after k 0) e
        ∙ painted-in (start + r * stride) stride w m wide below before x (y - r) hx (omega arith) (omega (arith, len))
        ∙ ap (f x) back)
        (lt-or-le y r)

    rest : (k : ℕ) → Outside start stride w (r + m) k → get_or after k 0 ≡ get_or old k 0
    rest k out =
        painted-out (start + r * stride) stride w m wide below before k (λ x y hx hy q. out x (r + y) hx (omega arith) (q ∙ omega arith))
        ∙ painted-out start stride w r wide f old k (λ x y hx hy q. out x y hx (omega arith) q)

-- one row more, laid by itself
row_more : (start stride n j : ℕ) (f : ℕ → ℕ → ℕ) (old : List ℕ) → n ≤ stride → start + (j * stride + n) ≤ length old
    → painted (start + j * stride) n n 1 (λ x y. f x j) (painted start stride n j f old) ≡ painted start stride n (j + 1) f old
row_more start stride n j f old wide fits =
    one-row (start + j * stride) n stride n (λ x y. f x j) (painted start stride n j f old) (omega arith) wide
    ∙ painted_same (start + j * stride) stride n 1 (λ x y. f x j) (λ x y. f x (j + y)) (painted start stride n j f old) wide
    (λ x y hx hy. ap (f x) (omega arith))
    ∙ rows_more start stride n j 1 f old wide (λ x y hx hy. room x y hx hy)
  where
    room : (x y : ℕ) → x < n → y < j + 1 → start + (y * stride + x) < length old
    room x y hx hy =
        let up : y ≤ j = omega arith in
        omega (arith, mul-le-mul_right stride up)

-- what a loop that lays a row keeps: i words of it are laid, and img is the list now
pub record Row (f : ℕ → ℕ → ℕ) (old : List ℕ) (start stride i : ℕ) (img : List ℕ) : Type 0 where
  pub len : length img ≡ length old
  pub is : img ≡ painted start stride i 1 f old

pub row-none : (f : ℕ → ℕ → ℕ) (old : List ℕ) (start stride : ℕ) → Row f old start stride 0 old
row-none f old start stride = record { len = refl; is = no_words start stride 1 f old }

pub row_word : {f : ℕ → ℕ → ℕ} {old : List ℕ} {start stride i : ℕ} {img : List ℕ} {v : ℕ} → Row f old start stride i img → v ≡ f i 0 → i < stride
    → start + i < length old → Row f old start stride (i + 1) (set img (start + i) v)
row_word {f} {old} {start} {stride} {i} {img} {v} r e l m =
    record { len = length-set img (start + i) v ∙ r.len; is = cc (r.is, word_more start stride i f old l m) }

-- what a loop that lays a rectangle in parts keeps: n columns of j rows are laid
pub record Part (f : ℕ → ℕ → ℕ) (old : List ℕ) (start stride n j : ℕ) (img : List ℕ) : Type 0 where
  pub len : length img ≡ length old
  pub is : img ≡ painted start stride n j f old

pub part_none : (f : ℕ → ℕ → ℕ) (old : List ℕ) (start stride n : ℕ) → n ≤ stride → Part f old start stride n 0 old
part_none f old start stride n l = record { len = refl; is = painted-none start stride n f old l }

pub part-empty : (f : ℕ → ℕ → ℕ) (old : List ℕ) (start stride r : ℕ) → Part f old start stride 0 r old
part-empty f old start stride r = record { len = refl; is = no_words start stride r f old }

part-is : {f : ℕ → ℕ → ℕ} {old : List ℕ} {start stride n j : ℕ} {new : List ℕ} → n ≤ stride → new ≡ painted start stride n j f old
    → Part f old start stride n j new
part-is {f} {old} {start} {stride} {n} {j} l e = record { len = ap length e ∙ length-painted start stride n j l f old; is = e }

pub row-part : {f : ℕ → ℕ → ℕ} {old : List ℕ} {start stride n j : ℕ} {img new : List ℕ} {at : ℕ} → Part f old start stride n j img → n ≤ stride
    → start + (j * stride + n) ≤ length old → at ≡ start + j * stride → new ≡ painted at n n 1 (λ x y. f x j) img → Part f old start stride n (j + 1) new
row-part {f} {old} {start} {stride} {n} {j} {img} {new} {at} r l m ea e =
    part-is l (e ∙ ap₂ (λ (k : ℕ) (i : List ℕ). painted k n n 1 (λ x y. f x j) i) ea r.is ∙ row_more start stride n j f old l m)

-- words put in the place of as many lay one row
pub put : (to n : ℕ) (f : ℕ → ℕ → ℕ) (mid old : List ℕ) → to + n ≤ length old → length mid ≡ n → ((x : ℕ) → x < n → get_or mid x 0 ≡ f x 0)
    → take to old ++ (mid ++ drop n (drop to old)) ≡ painted to n n 1 f old
put to n f mid old fits long same =
    is-painted to n n 1 (omega arith) f old (take to old ++ (mid ++ drop n (drop to old))) (grind (arith, elements)) new rest
  where
    first : length (take to old) ≡ to
    first = omega (arith, length-take to old)

    new : (x y : ℕ) → x < n → y < 1 → to + (y * n + x) < length old → get_or (take to old ++ (mid ++ drop n (drop to old))) (to + (y * n + x)) 0 ≡ f x y
    new x y hx hy l =
        let zero : y ≡ 0 = omega arith in
        rw zero (grind (arith, elements, first, same x hx))

    rest : (k : ℕ) → Outside to n n 1 k → get_or (take to old ++ (mid ++ drop n (drop to old))) k 0 ≡ get_or old k 0
    rest k out =
        ⊎_elim
        (λ before. grind (arith, elements, first))
        (λ after.
        ⊎_elim
        (λ within. absurd (out (k - to) 0 (omega arith) (omega arith) (omega arith)))
        (λ behind. grind (arith, elements, first))
        (lt-or-le k (to + n)))
        (lt-or-le k to)

-- a row copied from a buffer
pub copied-part : {f : ℕ → ℕ → ℕ} {old : List ℕ} {start stride n j : ℕ} {img mid : List ℕ} {m k : ℕ} (buffer : List ℕ) (from : ℕ)
    → Part f old start stride n j img → n ≤ stride → start + (j * stride + n) ≤ length old → from + n ≤ length buffer
    → ((x : ℕ) → x < n → get_or buffer (from + x) 0 ≡ f x j) → mid ≡ take m (drop from buffer) → m ≡ n → k ≡ n
    → Part f old start stride n (j + 1) (take (start + j * stride) img ++ (mid ++ drop k (drop (start + j * stride) img)))
copied-part {f} {old} {start} {stride} {n} {j} {img} {mid} buffer from r l room fits same e em ek =
    let long : length mid ≡ n = ap length e ∙ grind (arith, elements) in
    row-part r l room refl
    (rw ek
    (put (start + j * stride) n (λ x y. f x j) mid img (omega (arith, r.len)) long
    (λ x h. ap (λ (t : List ℕ). get_or t x 0) e ∙ grind (arith, elements, same x h))))

-- more columns, and more rows
pub columns-part : {f : ℕ → ℕ → ℕ} {old : List ℕ} {start stride c r : ℕ} {img new : List ℕ} (m : ℕ) → Part f old start stride c r img → c + m ≤ stride
    → ((x y : ℕ) → x < c + m → y < r → start + (y * stride + x) < length old) → new ≡ painted (start + c) stride m r (λ x y. f (c + x) y) img
    → Part f old start stride (c + m) r new
columns-part {f} {old} {start} {stride} {c} {r} m p l room e =
    part-is l (e ∙ ap (painted (start + c) stride m r (λ x y. f (c + x) y)) p.is ∙ columns-more start stride c m r f old l room)

pub rows-part : {f : ℕ → ℕ → ℕ} {old : List ℕ} {start stride w r : ℕ} {img new : List ℕ} (m : ℕ) → Part f old start stride w r img → w ≤ stride
    → ((x y : ℕ) → x < w → y < r + m → start + (y * stride + x) < length old) → new ≡ painted (start + r * stride) stride w m (λ x y. f x (r + y)) img
    → Part f old start stride w (r + m) new
rows-part {f} {old} {start} {stride} {w} {r} m p l room e =
    part-is l (e ∙ ap (painted (start + r * stride) stride w m (λ x y. f x (r + y))) p.is ∙ rows_more start stride w r m f old l room)
