-- `plate::answer` meets its contract: what `convert` lays for the bytes that were read is the file's output. Assumes nothing.
use Rattle.std.proofs.Common.{◌∙◌, inl}
use Rattle.convert.proofs.Said.{within-out, is-output}
use Rattle.plate.proofs.Whole.{whole_output}
use Rattle.plate.proofs.answer.Goals as goal

pub returns : goal.returns
returns c = record {
  inside = within-out _ c.convert.ensures c.requires.room.bytes;
  is = λ file came. is-output _ c.convert.ensures c.requires.room.bytes ∙ whole_output _ file (inl came);
}
