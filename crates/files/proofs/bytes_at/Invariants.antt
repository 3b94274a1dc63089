-- `files::bytes_at` meets its contract. The loop keeps that the first k bytes are read. Assumes nothing.
use Rattle.std.proofs.Common.{◌≡◌, ℕ, ◌<◌, length, get_or}
use Rattle.files.proofs.bytes_at.Given as goal

abbrev pub invariant-loop-k : goal.invariant-loop-k
invariant-loop-k g l =
    record {
      long : length l.byte-items ≡ g.row.N;
      read : (j : ℕ) → j < l.k → get_or l.byte-items j 0 ≡ get_or l.rest j 0;
    }
