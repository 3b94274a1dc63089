-- `pvrtc::row_call::decode_row` meets its contract. The loop keeps that the first x words are the row's texels, and what `InRow` says is held.
-- Assumes nothing.
use Rattle.facts.proofs.Tab.{Filled}
use Rattle.pvrtc.proofs.InRow.{Before}
use Rattle.pvrtc.specs.Picture.{picture_texel}
use Rattle.pvrtc.proofs.row_call.decode_row.Given as goal

abbrev pub invariant-loop-x : goal.invariant-loop-x
invariant-loop-x l =
    Filled (λ x'. picture_texel l.p l.data x' l.y) l.initial.word-items l.x l.word-items × Before l.p.order l.g l.data l.y l.x l.nine l.texels
