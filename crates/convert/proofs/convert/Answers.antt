-- `convert::convert` meets its contract: the TGA of a picture that is decoded, or the line of a refusal. Assumes nothing.
use Rattle.convert.proofs.Whole.{picture-fits, by-tga, by-line}
use Rattle.convert.proofs.convert.Goals as goal

pub put_tga-requires : goal.put_tga-requires
put_tga-requires c = picture-fits c.args.file.now c.args.out.now c.in-Ok.ensures c.requires c.decode_file.auto.image

pub returns-in-Ok : goal.returns-in-Ok
returns-in-Ok c = by-tga c.args.file.now c.args.out.now c.in-Ok.ensures c.requires c.put_tga.ensures

pub returns-in-Err : goal.returns-in-Err
returns-in-Err c = by-line c.in-Err.ensures c.number.ensures c.put_refused.ensures
