-- `ktx::reader::read_header` meets its contract. Assumes nothing.
use Rattle.std.proofs.Common.{sym, ap, ◌∙◌, unwrap_or}
use Rattle.facts.proofs.Said.{at_exit}
use Rattle.files.specs.declared.Stored.{Stored}
use Rattle.ktx.proofs.Answers.{by-refusal, by-plate, by-fields, by-cut, is-plate}
use Rattle.ktx.proofs.reader.read_header.Goals as goal

pub returns-in_err-stored : goal.returns-in_err-stored
returns-in_err-stored c =
    rw (at_exit c.from_residual.ensures) (by-fields c.args.file.now c.in_err-stored.ensures)

pub returns-in_err-refuse_if : goal.returns-in_err-refuse_if
returns-in_err-refuse_if c =
    rw (at_exit c.from_residual-in_err-refuse_if.ensures)
    (by-refusal (by-cut c.args.file.now c.in_ok-stored.ensures c.in_err-refuse_if.ensures))

pub returns : goal.returns
returns c =
    let file = c.args.file.now in
    let is = is-plate file c.in_ok-stored.ensures in
    by-plate
    (record {
      accepted = sym (by-cut file c.in_ok-stored.ensures c.in_ok-refuse_if.ensures);
      width = ap (λ (s : Stored). s.width) is;
      height = ap (λ (s : Stored). s.height) is;
      depth = ap (λ (s : Stored). s.is2bpp) is;
      payload = ap (λ (s : Stored). s.payload) is;
      said = c.unwrap_or.ensures ∙ ap (λ (s : Stored). unwrap_or s.size 0) is;
    })
