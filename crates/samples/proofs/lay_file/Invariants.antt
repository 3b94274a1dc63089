-- `samples::lay_file` meets its contract. The loop keeps that the first k bytes are laid. Assumes nothing.
use Rattle.facts.proofs.Tab.{Filled}
use Rattle.samples.specs.File.{file_byte}
use Rattle.samples.proofs.lay_file.Given as goal

abbrev pub invariant-loop-k : goal.invariant-loop-k
invariant-loop-k l = Filled (file_byte l.header) l.initial.bytes l.k l.bytes
