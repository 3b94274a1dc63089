-- The words about a block that a texel, or a row of texels, needs. Assumes nothing: these are definitions.
use Rattle.std.specs.Prelude.{cond, List, [], ◌∷◌, ℕ, ◌*◌, ◌/◌, ◌%◌, eqb, get_or}
use Rattle.facts.specs.Tab.{tab}
use Rattle.grid.specs.declared.Grid.{Grid}
use Rattle.grid.specs.Grid.{block_address, beside}
use Rattle.word.specs.Word.{unread}
use Rattle.word.specs.declared.PVRTCTexelInfo.{PVRTCTexelInfo}
use Rattle.texel.specs.Inner.{blank, words_about}
use Rattle.texel.specs.Summed.{shares}
use Rattle.texel.specs.Texel.{share}

-- The address of word k of the nine about block (bx, by).
abbrev pub address_of : Grid → ℕ → ℕ → ℕ → ℕ
address_of g bx by k = block_address g.across g.down (beside g.across bx (k % 3)) (beside g.down by (k / 3))

-- Word k of them.
abbrev pub word_about : Grid → List ℕ → ℕ → ℕ → ℕ → PVRTCTexelInfo
word_about g d bx by k = words_about g d bx by (k % 3) (k / 3)

-- A word that has a share, or else nothing read.
abbrev pub word_if : ℕ → PVRTCTexelInfo → PVRTCTexelInfo
word_if s word = cond (eqb s 0) unread word

-- The nine words about block (bx, by), as far as they have a share by the rows `across` and `down`.
unfoldable pub needed_about : Grid → List ℕ → ℕ → ℕ → (across down : List ℕ) → List PVRTCTexelInfo
needed_about g d bx by across down = tab (λ k. word_if (get_or across (k % 3) 0 * get_or down (k / 3) 0) (word_about g d bx by k)) 9

-- All columns count.
abbrev pub every : List ℕ
every = 1 ∷ 1 ∷ 1 ∷ []

-- The nine words about block (bx, by), as far as row py of its texels needs them.
abbrev pub row_words : Grid → List ℕ → ℕ → ℕ → ℕ → List PVRTCTexelInfo
row_words g d bx by py = needed_about g d bx by every (shares 2 py)

-- Nine words with the first column left out and the last column about block (bx, by) put in.
unfoldable pub slid : Grid → List ℕ → ℕ → ℕ → ℕ → List PVRTCTexelInfo → List PVRTCTexelInfo
slid g d bx by py nine =
    get_or nine 1 blank
    ∷ get_or nine 2 blank
    ∷ word_if (share 2 py 0) (word_about g d bx by 2)
    ∷ get_or nine 4 blank
    ∷ get_or nine 5 blank
    ∷ word_if (share 2 py 1) (word_about g d bx by 5)
    ∷ get_or nine 7 blank
    ∷ get_or nine 8 blank
    ∷ word_if (share 2 py 2) (word_about g d bx by 8)
    ∷ []
