-- `files::bytes_at` meets its contract: what is read from the rest of the file is read from the file. Assumes nothing.
use Rattle.std.proofs.Common.{◌≡◌, ℕ, List, get_or, drop, refl, ap, ◌∙◌, arith, length-set, get_or-drop}
use Rattle.std.specs.Option.{unwrap_or}
use Rattle.files.proofs.Fields.{rest-is, next-read}
use Rattle.files.proofs.bytes_at.Goals as goal

pub loop-k-preserved : goal.loop-k-preserved
loop-k-preserved g c =
    let l = c.loop-k in
    let read : c.unwrap_or.result ≡ get_or c.unwrap_or-rest.result.now l.k 0 =
    c.unwrap_or.ensures ∙ ap (λ o. unwrap_or o 0) c.copied.ensures ∙ c.get-in-loop-k.ensures.lookup.4 (omega arith) 0 in
    record { long = length-set l.byte-items l.k _ ∙ l.invariant.long; read = next-read _ _ (omega (arith, l.invariant.long)) read l.invariant.read }

pub returns : goal.returns
returns g c =
    let file = c.args.file.now in
    let at = c.args.at in
    let rest : c.unwrap_or-rest.result.now ≡ drop at file = rest-is file at _ _ c.get.ensures.lookup refl c.unwrap_or-rest.ensures in
    λ k h. c.loop-k.invariant.read k (omega arith) ∙ (ap (λ (l : List ℕ). get_or l k 0) rest ∙ get_or-drop at file k 0)
