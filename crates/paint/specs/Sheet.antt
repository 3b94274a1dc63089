-- Sheets: where texels go among lent words. Assumes nothing: these are definitions.
use Rattle.std.specs.Prelude.{List, ℕ, ◌+◌, ◌-◌, ◌*◌, ◌≤◌, min}
use Rattle.paint.specs.declared.Sheet.{Sheet}
use Rattle.paint.specs.Paint.{painted}

-- The words `old` with f x y laid at the place (x, y) of a sheet; every other word stays.
abbrev pub on_sheet : Sheet → (ℕ → ℕ → ℕ) → List ℕ → List ℕ
on_sheet s f old = painted s.start s.stride s.width s.height f old

-- The rows of a sheet from y on, `count` of them or as many as there are.
abbrev pub rows_from : Sheet → ℕ → ℕ → Sheet
rows_from s y count =
    record { start = s.start + y * s.stride; stride = s.stride; width = s.width; height = min count (s.height - y) }

-- The columns of a sheet from x on, `count` of them or as many as there are.
abbrev pub columns_from : Sheet → ℕ → ℕ → Sheet
columns_from s x count = record { start = s.start + x; stride = s.stride; width = min count (s.width - x); height = s.height }

-- The words of a sheet are `room` lent ones: its rows do not overlap, and the last word is among them.
pub record Fits (s : Sheet) (room : ℕ) : Type 0 where
  pub apart : s.width ≤ s.stride
  pub roomy : s.start + ((s.height - 1) * s.stride + s.width) ≤ room

-- The largest number of the machine.
abbrev pub largest : ℕ
largest = 18446744073709551615
