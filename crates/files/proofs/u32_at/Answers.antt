-- `files::u32_at` meets its contract: the four bytes, put together, are the definition's number. Assumes nothing.
use Rattle.std.proofs.Common.{◌∙◌, arith}
use Rattle.files.proofs.Fields.{four-read}
use Rattle.files.proofs.u32_at.Goals as goal

pub returns : goal.returns
returns c = (c.from_le_bytes.ensures ∙ four-read c.args.file.now c.args.at _ c.bytes_at.ensures, omega arith)
