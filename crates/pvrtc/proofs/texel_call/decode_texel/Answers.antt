-- `pvrtc::texel_call::decode_texel` meets its contract: a picture that passes the checks has the texel, and a refusal is told. Assumes nothing.
use Rattle.std.proofs.Common.{length, sym}
use Rattle.pvrtc.proofs.Accepted.{accepted, stands-as, block-as, texel-inside}
use Rattle.pvrtc.specs.declared.Call.TheVariants as call
use Rattle.pvrtc.proofs.texel_call.decode_texel.Goals as goal

pub invariant_of-w : goal.invariant_of-w
invariant_of-w c =
    let a = c.args in
    record { stands = stands-as (accepted a.p (call.Texel a.x a.y) (length a.«data».now) (sym c.in_ok-check.ensures)) c.grid_of.ensures }

pub texel_at-requires : goal.texel_at-requires
texel_at-requires c =
    let a = c.args in
    let ok = accepted a.p (call.Texel a.x a.y) (length a.«data».now) (sym c.in_ok-check.ensures) in
    let at = texel-inside a.p a.x a.y ok.inside in
    block-as ok c.grid_of.ensures a.x a.y at.0 at.1
