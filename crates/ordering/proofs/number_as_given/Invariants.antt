-- The loop writes 1, 2, .. Its invariant: the first k are written.
use Rattle.std.proofs.Common.{◌≡◌, take}
use Rattle.model.specs.Numbering.{given_numbering}
use Rattle.ordering.proofs.number_as_given.Given as goal

abbrev pub invariant-loop-k : goal.invariant-loop-k
invariant-loop-k l = take l.k l.numbering ≡ given_numbering l.k
