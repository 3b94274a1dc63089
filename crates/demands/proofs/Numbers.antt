-- Every number that document 01 marks P is the computed one. Assumes nothing.
use Rattle.std.proofs.Common.{T}
use Rattle.facts.specs.Finite.{every}
use Rattle.facts.specs.Sum.{sum}
use Rattle.facts.specs.Tab.{tab}
use Rattle.grid.specs.Grid.{halvings, log2, address, beside}
use Rattle.word.specs.Word.{weight4bpp, punch4bpp, stored2bpp, weight2bpp, fill2bpp, word_of}
use Rattle.facts.specs.Bits.{flags}
use Rattle.texel.specs.Texel.{share, nine_sum, scale_color, scale_alpha, blended, near, filled, mixed, texel_in, texel_at}
use Rattle.demands.specs.Footprint.{insert, gathered, footprint}
use Rattle.demands.specs.Numbers.{agrees, table}

pub all-agree : T (every (λ _ l. agrees l) 0 table)
unfolding sum tab halvings log2 address beside weight4bpp punch4bpp stored2bpp weight2bpp fill2bpp word_of flags share nine_sum scale_color scale_alpha blended near filled mixed texel_in texel_at insert gathered footprint
all-agree = tt
