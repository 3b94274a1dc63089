-- What the functions inside promise one another. Assumes nothing: these are definitions.
use Rattle.std.specs.Prelude.{List, ℕ, Result}
use Rattle.facts.specs.Checks.{Says}
use Rattle.pvr.specs.Header.{count_checks, number_of}
use Rattle.pvr.specs.declared.HeaderRefusal.{HeaderRefusal}

-- The counts say the first of their refusals.
abbrev pub CountsSay : List ℕ → Result (Unit {0}) HeaderRefusal → Type 0
CountsSay file r = Says number_of r (count_checks file)
