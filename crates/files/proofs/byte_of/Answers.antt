-- `files::byte_of` meets its contract: a number has no more than four bytes. Assumes nothing.
use Rattle.std.proofs.Common.{get_or, ap, ◌∙◌, arith}
use Rattle.std.specs.Option.{unwrap_or}
use Rattle.files.proofs.Fields.{bytes-written}
use Rattle.files.proofs.byte_of.Goals as goal

pub returns : goal.returns
returns c =
    c.unwrap_or.ensures ∙ ap (λ o. unwrap_or o 0) c.copied.ensures ∙ c.get.ensures.lookup.4 (omega arith) 0
    ∙ ap (λ l. get_or l c.args.k 0) c.to_le_bytes.ensures ∙ bytes-written c.args.v c.args.k (omega arith)
