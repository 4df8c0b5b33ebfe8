-- The loop makes one trial after another. Its invariant: the numbering is the one after k of them, its slots stand there, and the last trials, idle
-- of them, kept nothing.
use Rattle.ordering.proofs.Trials.{Tried}
use Rattle.ordering.proofs.make_trials.Given as goal

abbrev pub invariant-loop-k : goal.invariant-loop-k
invariant-loop-k l = Tried l.n l.plan l.fn.work l.work l.firsts.rows l.firsts.columns l.numbering l.slots l.idle l.k
