-- `files::u64_at` meets its contract: the eight bytes, put together, are the definition's number. Assumes nothing.
use Rattle.std.proofs.Common.{◌∙◌}
use Rattle.files.proofs.Fields.{eight-read}
use Rattle.files.proofs.u64_at.Goals as goal

pub returns : goal.returns
returns c = c.from_le_bytes.ensures ∙ eight-read c.args.file.now c.args.at _ c.bytes_at.ensures
