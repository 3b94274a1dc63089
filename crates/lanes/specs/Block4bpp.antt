-- What a word's modulation says at 4bpp. Assumes nothing: these are definitions.
use Rattle.std.specs.Prelude.{cond, ◌&&◌, List, ℕ, ◌*◌, ◌/◌, ◌^◌, eqb}
use Rattle.word.specs.Word.{modulation, mode, code, standard_weight, punch_through_weight}
use Rattle.lanes.specs.declared.Codes.{Codes}
use Rattle.lanes.specs.declared.Meaning.{Meaning}
use Rattle.lanes.specs.Lanes.{bytes, clear}

-- The modulation of a word, and its mode.
unfoldable pub codes_of : List ℕ → Codes
codes_of w = record { modulation = modulation w; punches = mode w }

-- The codes of row y of a block.
abbrev pub codes_at : Codes → ℕ → Codes
codes_at k y = record { modulation = k.modulation / 2 ^ (8 * y); punches = k.punches }

-- Texel x of a row: code 2 of mode 1 is punched through.
unfoldable pub code_meaning : Codes → ℕ → Meaning
code_meaning k x =
    let c = code k.modulation x in
    record {
      weight = cond k.punches (punch_through_weight c) (standard_weight c);
      keep = cond (k.punches && eqb c 2) clear bytes;
    }
