-- The two layouts, byte by byte, as the code writes them down. Assumes nothing.
use Rattle.std.proofs.Common.{◌≡◌, ℕ, ◌+◌, ◌-◌, ◌*◌, ◌/◌, ◌%◌, ◌<◌, ◌≤◌, List, [], ◌∷◌, ◌++◌, length, get_or, take, drop, sym, ap, ◌∙◌, append_assoc, arith}
use Rattle.std.proofs.Common.{length-append, le-ltb, lt-ltb}
use borrow.Rule.Slice.PartMut.{put_mid}
use Rattle.std.proofs.lemmas.List.{drop-drop, get_or-take, length-take-le}
use Rattle.facts.specs.Tab.{tab}
use Rattle.facts.proofs.Tab.{length-tab, tab-same}
use Rattle.pvrtc.specs.declared.Picture.{Picture}
use Rattle.pvrtc.specs.Picture.{picture_texel}
use Rattle.files.specs.Fields.{byte_of}
use Rattle.convert.specs.Inner.{Laid}
use Rattle.convert.specs.Output.{refused_line, tga_header, tga_of, tga, laid}

-- a refusal's line, with one digit and with two
pub one-digit : (n : ℕ) → n < 10 → 0x72 ∷ 0x65 ∷ 0x66 ∷ 0x75 ∷ 0x73 ∷ 0x65 ∷ 0x64 ∷ 0x20 ∷ (48 + n) ∷ 0x0A ∷ [] ≡ refused_line n
unfolding refused_line
one-digit n h = rw (lt-ltb n 10 h)

pub two_digits : (n : ℕ) → 10 ≤ n → 0x72 ∷ 0x65 ∷ 0x66 ∷ 0x75 ∷ 0x73 ∷ 0x65 ∷ 0x64 ∷ 0x20 ∷ (48 + n / 10) ∷ (48 + n % 10) ∷ 0x0A ∷ [] ≡ refused_line n
unfolding refused_line
two_digits n h = rw (le-ltb n 10 h)

-- the low byte of a number is its remainder
low : (v : ℕ) → v % 256 ≡ byte_of v 0
low v = omega arith

-- a TGA's header, of two sides' bytes
pub header-bytes : (w h : ℕ) {l m : List ℕ} → l ≡ (w % 256) ∷ (w / 256 % 256) ∷ [] → m ≡ (h % 256) ∷ (h / 256 % 256) ∷ []
    → 0 ∷ 0 ∷ 2 ∷ 0 ∷ 0 ∷ 0 ∷ 0 ∷ 0 ∷ 0 ∷ 0 ∷ 0 ∷ 0 ∷ get_or l 0 0 ∷ get_or l 1 0 ∷ get_or m 0 0 ∷ get_or m 1 0 ∷ 0x20 ∷ 0x28 ∷ [] ≡ tga_header w h
unfolding tga_header
header-bytes w h e q = rw (e, q, low w, low h)

-- bytes that were laid are those of a layout
pub is-laid : {bytes l old new : List ℕ} → bytes ≡ l → new ≡ laid bytes old → Laid l old new (length bytes)
is-laid {bytes} {l} {old} {new} e q = record { size = ap length e; is = q ∙ ap (λ (b : List ℕ). laid b old) e }

tga-length : (w h : ℕ) (word : ℕ → ℕ) → length (tga_of w h word) ≡ 18 + 4 * (w * h)
unfolding tga_header
tga-length w h word =
    length-append (tga_header w h) (tab (λ i. byte_of (word (i / 4)) (i % 4)) (4 * (w * h))) ∙ ap (λ (k : ℕ). 18 + k) (length-tab _ (4 * (w * h)))

pub picture-length : (p : Picture) (d : List ℕ) → length (tga p d) ≡ 18 + 4 * (p.width * p.height)
picture-length p d = tga-length p.width p.height (λ k. picture_texel p d (k % p.width) (k / p.width))

-- the first words' bytes behind the header, and behind these what stood there, are the whole TGA
pub tga-laid : (w h : ℕ) (words front : List ℕ) {old mid part : List ℕ} → 18 + 4 * (w * h) ≤ length old → w * h ≤ length words
    → front ≡ take (w * h) words → mid ≡ laid (tga_header w h) old
    → part ≡ tab (λ i. byte_of (get_or front (i / 4) 0) (i % 4)) (4 * length front)
    → Laid (tga_of w h (λ k. get_or words k 0)) old (put_mid 18 (18 + 4 * (w * h) - 18) mid part) (18 + 4 * (w * h))
unfolding tga_header
tga-laid w h words front {old} {mid} {part} fits enough first e q =
    record {
      size = sym (tga-length w h word);
      is =
          rw (e, q ∙ same, less)
          (ap (λ (l : List ℕ). header ++ (bytes ++ l)) (drop-drop n 18 old)
          ∙ sym (append_assoc header bytes (drop (18 + n) old))
          ∙ ap (λ (k : ℕ). (header ++ bytes) ++ drop k old) (sym (tga-length w h word)));
    }
  where
    word : ℕ → ℕ
    word k = get_or words k 0

    header : List ℕ
    header = tga_header w h

    n : ℕ
    n = 4 * (w * h)

    bytes : List ℕ
    bytes = tab (λ i. byte_of (word (i / 4)) (i % 4)) n

    less : 18 + n - 18 ≡ n
    less = omega arith

    many : 4 * length front ≡ n
    many = ap (λ (k : ℕ). 4 * k) (ap length first ∙ length-take-le (w * h) words enough)

    same : tab (λ i. byte_of (get_or front (i / 4) 0) (i % 4)) (4 * length front) ≡ bytes
    same =
        ap (tab (λ i. byte_of (get_or front (i / 4) 0) (i % 4))) many
        ∙ tab-same _ _ n
        (λ i l. ap (λ (v : ℕ). byte_of v (i % 4)) (ap (λ (f : List ℕ). get_or f (i / 4) 0) first ∙ get_or-take (w * h) words (i / 4) 0 (omega arith)))
