-- `convert::put_words` meets its contract. The loop keeps that the first i bytes are written. Assumes nothing.
use Rattle.std.proofs.Common.{◌/◌, ◌%◌, get_or}
use Rattle.facts.proofs.Tab.{Filled}
use Rattle.files.specs.Fields.{byte_of}
use Rattle.convert.proofs.put_words.Given as goal

abbrev pub invariant-loop-i : goal.invariant-loop-i
invariant-loop-i l = Filled (λ x. byte_of (get_or l.words (x / 4) 0) (x % 4)) l.initial.out l.i l.out
