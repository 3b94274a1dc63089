-- How the promise of a conversion is met, and that no two outcomes meet it. Assumes nothing.
use Rattle.std.proofs.Common.{◌≡◌, ℕ, ◌*◌, ◌/◌, ◌%◌, ◌<◌, ◌≤◌, false, eqb, List, ◌++◌, length, get_or}
use Rattle.std.proofs.Common.{Ok, Err, Result, sym, ap, ◌∙◌, arith, ne_eqb}
use Rattle.facts.specs.Checks.{first_of}
use Rattle.facts.proofs.Tab.{tab-same}
use Rattle.pvrtc.specs.declared.Call.TheVariants as call
use Rattle.pvrtc.specs.declared.Picture.{Picture}
use Rattle.pvrtc.specs.declared.Refusal.{Refusal}
use Rattle.pvrtc.specs.Calls.{refusal, BlockDecoded}
use Rattle.pvrtc.specs.Numbers.{number-above}
use Rattle.pvrtc.specs.Picture.{picture_texel}
use Rattle.pvrtc.specs.Refusals.{number_of, decoded_number}
use Rattle.pvrtc.proofs.Agree.{word-is}
use Rattle.files.specs.Fields.{byte_of}
use Rattle.files.specs.declared.Stored.{Stored}
use Rattle.convert.specs.Inner.{Laid}
use Rattle.convert.specs.Output.{picture_of, limit_checks, own_checks, refused_line, tga_header, tga_of, tga, written, Answered}
use Rattle.convert.proofs.Limits.{own-number, past-limits}

-- no two outcomes meet the promise
pub one-converted : {n : ℕ} {p : Picture} {d image image₁ image₂ out out₁ out₂ : List ℕ} {r s : ℕ} → Answered n p d image image₁ out out₁ r
    → Answered n p d image image₂ out out₂ s → (r ≡ s) × (out₁ ≡ out₂) × (image₁ ≡ image₂)
one-converted a b = (a.size ∙ sym b.size, a.bytes ∙ sym b.bytes, a.words ∙ sym b.words)

module _ (n : ℕ) (p : Picture) (d : List ℕ) where
  -- what is written where a number is said, and where none is
  pub written-line : 0 < n → written n p d ≡ refused_line n
  unfolding written
  written-line h = rw (ne_eqb n 0 (omega arith))

  pub written-tga : n ≡ 0 → written n p d ≡ tga p d
  unfolding written
  written-tga e = rw e

-- a number is said: its line, and the words as they were
pub by-line : {n : ℕ} {p : Picture} {d image out out' : List ℕ} {r : ℕ} → 0 < n → Laid (refused_line n) out out' r
    → Answered n p d image image out out' r
by-line {n} {p} {d} above l =
    let line : refused_line n ≡ written n p d = sym (written-line n p d above) in
    let other : eqb n 0 ≡ false = ne_eqb n 0 (omega arith) in
    record { size = l.size ∙ ap length line; bytes = rw (← line) l.is; words = rw other }

-- the words count, and not how they are found
pub tga-same : (w h : ℕ) (f g : ℕ → ℕ) → ((k : ℕ) → k < w * h → f k ≡ g k) → tga_of w h f ≡ tga_of w h g
tga-same w h f g e =
    ap (λ (l : List ℕ). tga_header w h ++ l)
    (tab-same (λ i. byte_of (f (i / 4)) (i % 4)) (λ i. byte_of (g (i / 4)) (i % 4)) (4 * (w * h))
    (λ i l. ap (λ (v : ℕ). byte_of v (i % 4)) (e (i / 4) (omega arith))))

-- what is said of a stored plate and of data, whether or not they are a file's
module _ (s : Stored) (d : List ℕ) where
  abbrev p : Picture
  p = picture_of s

  -- a limit is exceeded: its line
  pub by-limit : {image out out' : List ℕ} {n r : ℕ} → n ≡ first_of (limit_checks s) → 0 < n → Laid (refused_line n) out out' r
      → Answered (first_of (own_checks s (length d))) p d image image out out' r
  by-limit {n = n} e above l =
      let other : eqb (first_of (limit_checks s)) 0 ≡ false = ne_eqb (first_of (limit_checks s)) 0 (omega arith) in
      let own : first_of (own_checks s (length d)) ≡ n = own-number s (length d) ∙ rw other (sym e) in
      rw own (by-line above l)

  module _ {image image' : List ℕ} {decoded : Result (Unit {0}) Refusal} (none : first_of (limit_checks s) ≡ 0) (room : 131072 ≤ length image)
      (b : BlockDecoded p d image image' decoded) where
    as_called : first_of (own_checks s (length d)) ≡ refusal p (call.Block (length image)) d
    as_called = past-limits s (length image) (length d) none room

    said : decoded_number decoded ≡ first_of (own_checks s (length d))
    said = b.number ∙ sym as_called

    -- it refuses: its line
    pub by_call : {out out' : List ℕ} {f : Refusal} {n r : ℕ} → decoded ≡ Err f → n ≡ number_of f → Laid (refused_line n) out out' r
        → Answered (first_of (own_checks s (length d))) p d image image' out out' r
    by_call {f = f} {n = n} e q l =
        let own : n ≡ first_of (own_checks s (length d)) = q ∙ sym (ap decoded_number e) ∙ said in
        let above : 0 < first_of (own_checks s (length d)) = omega (arith, number-above f) in
        let line : refused_line n ≡ written (first_of (own_checks s (length d))) p d = ap refused_line own ∙ sym (written-line _ p d above) in
        record { size = l.size ∙ ap length line; bytes = rw (← line) l.is; words = rw as_called b.words }

    -- it decodes: the TGA
    pub by-picture : {out out' : List ℕ} {r : ℕ} → decoded ≡ Ok tt → Laid (tga_of p.width p.height (λ k. get_or image' k 0)) out out' r
        → Answered (first_of (own_checks s (length d))) p d image image' out out' r
    by-picture e l =
        let own : first_of (own_checks s (length d)) ≡ 0 = sym said ∙ ap decoded_number e in
        let all : tga_of p.width p.height (λ k. get_or image' k 0) ≡ written (first_of (own_checks s (length d))) p d =
        tga-same p.width p.height (λ k. get_or image' k 0) (λ k. picture_texel p d (k % p.width) (k / p.width))
        (word-is p d (rw e at b)) ∙ sym (written-tga _ p d own) in
        record { size = l.size ∙ ap length all; bytes = rw (← all) l.is; words = rw as_called b.words }
