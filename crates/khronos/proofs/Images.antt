-- The colours of the small images A and B are the two colours of a word. Assumes nothing.
use Rattle.std.proofs.Common.{◌≡◌, ℕ, ◌/◌, ◌%◌, ◌^◌, Bool, true, false, cond, List, arith}
use Rattle.facts.specs.Bits.{is_set}
use Rattle.word.specs.Word.{blue_a, blue_b, color_of, word_of}
use Rattle.word.specs.declared.PVRTCTexelColor.{PVRTCTexelColor}
use Rattle.word.proofs.Bounds.{color-a, color-b}
use Rattle.khronos.specs.Agrees.{Bytes}
use Rattle.khronos.specs.Khronos.{Color, word64, image_a, image_b, opaque_a, opaque_b}
use Rattle.khronos.proofs.Fields.{Parts, parts, set-alike}

-- a word's colour is an image's
pub record Channels (p : PVRTCTexelColor) (c : Color) : Type 0 where
  pub red : p.r ≡ c.red
  pub green : p.g ≡ c.green
  pub blue : p.b ≡ c.blue
  pub alpha : p.a ≡ c.alpha

-- a channel of one of two colours
channel : (f : Color → ℕ) {s t : Bool} {x y : Color} {u v : ℕ} → s ≡ t → u ≡ f x → v ≡ f y → cond t u v ≡ f (cond s x y)
channel f {t = true} e p q = rw (e, p)
channel f {t = false} e p q = rw (e, q)

module _ {w m a b : ℕ} (p : Parts w m a b) where
  opaque-a : opaque_a w ≡ is_set a 15
  opaque-a = set-alike (w / 2 ^ 47 % 2) (a / 2 ^ 15 % 2) (omega arith)

  opaque-b : opaque_b w ≡ is_set b 15
  opaque-b = set-alike (w / 2 ^ 63 % 2) (b / 2 ^ 15 % 2) (omega arith)

  channels-a : Channels (color_of a (blue_a a)) (image_a w)
  unfolding image_a
  channels-a =
      record {
        red = channel (λ c. c.red) opaque-a (omega arith) (omega arith);
        green = channel (λ c. c.green) opaque-a (omega arith) (omega arith);
        blue = channel (λ c. c.blue) opaque-a (omega arith) (omega arith);
        alpha = channel (λ c. c.alpha) opaque-a (omega arith) (omega arith);
      }

  channels-b : Channels (color_of b (blue_b b)) (image_b w)
  unfolding image_b
  channels-b =
      record {
        red = channel (λ c. c.red) opaque-b (omega arith) (omega arith);
        green = channel (λ c. c.green) opaque-b (omega arith) (omega arith);
        blue = channel (λ c. c.blue) opaque-b (omega arith) (omega arith);
        alpha = channel (λ c. c.alpha) opaque-b (omega arith) (omega arith);
      }

pub image-a : (two : Bool) (d : List ℕ) → Bytes d → Channels (word_of two d).a (image_a (word64 d))
image-a two d l = rw (color-a two d) (channels-a (parts d l))

pub image-b : (two : Bool) (d : List ℕ) → Bytes d → Channels (word_of two d).b (image_b (word64 d))
image-b two d l = rw (color-b two d) (channels-b (parts d l))
