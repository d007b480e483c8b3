use Rattle.std.proofs.Common.{length}
use Rattle.vectors.proofs.published.write_words.Given as goal

abbrev pub decreases-loop-rest : goal.decreases-loop-rest
decreases-loop-rest g l = length l.rest
