-- `files::starts_with` meets its contract: the library's comparison is the definition's. Assumes nothing.
use Rattle.std.proofs.Common.{◌∙◌}
use Rattle.files.proofs.Starts.{start-compared}
use Rattle.files.proofs.starts_with.Goals as goal

pub returns : goal.returns
returns c = c.starts_with.ensures.value ∙ start-compared c.args.file.now c.args.bytes.now
