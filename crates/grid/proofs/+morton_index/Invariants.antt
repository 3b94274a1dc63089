-- `grid::morton_index` calls itself: the measure is the side, which falls to its half. Assumes nothing.
use Rattle.grid.proofs.+morton_index.Given as goal

abbrev pub decreases-morton_index : goal.decreases-morton_index
decreases-morton_index l = l.min_dim
