-- Drawn bytes and words. Assumes nothing: these are definitions.
use Rattle.std.specs.Prelude.{cond, List, ◌≡◌, ℕ, zero, suc, ◌+◌, ◌*◌, ◌/◌, ◌%◌, eqb, length}
use Rattle.facts.specs.Tab.{tab}

-- A step of the generator, whose state has 31 bits.
abbrev pub stepped : ℕ → ℕ
stepped state = (state % 2147483648 * 1103515245 + 12345) % 2147483648

-- The state after so many steps.
unfoldable pub state_after : (state steps : ℕ) → ℕ
state_after state zero = state
state_after state (suc n) = stepped (state_after state n)

-- What a state gives byte i: the lower or the upper half of its upper sixteen bits.
abbrev pub byte_of : (state i : ℕ) → ℕ
byte_of state i = cond (eqb (i % 2) 0) (state / 32768 % 256) (state / 8388608 % 256)

-- Byte i of those that are drawn from a state on: two a step.
abbrev pub drawn_byte : (state i : ℕ) → ℕ
drawn_byte state i = byte_of (state_after state (i / 2 + 1)) i

-- What two states give a word: the lower half, and the upper.
abbrev pub word_of : (low high : ℕ) → ℕ
word_of low high = low / 32768 % 65536 + high / 32768 % 65536 * 65536

-- Word i of those that are drawn from a state on: two steps a word.
abbrev pub drawn_word : (state i : ℕ) → ℕ
drawn_word state i = word_of (state_after state (2 * i + 1)) (state_after state (2 * i + 2))

-- Every lent number is drawn from a state on, by the rule `drawn`, and `r` is the state afterwards.
pub record Drawn (drawn : ℕ → ℕ → ℕ) (state steps : ℕ) (old new : List ℕ) (r : ℕ) : Type 0 where
  pub numbers : new ≡ tab (drawn state) (length old)
  pub answer : r ≡ state_after state steps
