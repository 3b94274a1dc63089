-- What stands in a listing for the program's output, as text. Assumes nothing: these are definitions.
use Rattle.std.specs.Prelude.{List, ◌++◌, ℕ, ◌&&◌, cond, ltb, length, codes}
use Rattle.std.specs.Fmt.{decimal}
use Rattle.std.specs.Str.{is_utf8}
use Rattle.samples.specs.Sums.{checksum}

-- Of what is no line: how many bytes there are, and their checksum.
abbrev pub told_in_short : (bytes : List ℕ) → List ℕ
told_in_short bytes = decimal (length bytes) ++ (codes " bytes, sum " ++ (decimal (checksum 31 2147483647 bytes (length bytes)) ++ codes "\n"))

-- A line, which is text of fewer than 12 bytes as a refusal's is, stands as it is.
abbrev pub output_text : (bytes : List ℕ) → List ℕ
output_text bytes = cond (is_utf8 bytes && ltb (length bytes) 12) bytes (told_in_short bytes)
