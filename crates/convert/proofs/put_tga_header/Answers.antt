-- `convert::put_tga_header` meets its contract. Assumes nothing.
use Rattle.std.proofs.Common.{ℕ, List, ap, ◌∙◌}
use Rattle.convert.specs.Output.{laid}
use Rattle.convert.proofs.Layouts.{header-bytes}
use Rattle.convert.proofs.put_tga_header.Goals as goal

pub returns : goal.returns
returns c =
    let w = c.to_le_bytes.result in
    let h = c.to_le_bytes-2.result in
    c.put.ensures
    ∙ ap (λ (l : List ℕ). laid l c.args.out.now) (header-bytes c.args.w c.args.h c.to_le_bytes.ensures c.to_le_bytes-2.ensures)
