-- `sums::carry_on` carries one on through the words from an index on. The invariant: these words, and carry at the index, are the words at entry and the carry then.
use Rattle.std.proofs.Common.{◌≡◌, ◌*◌, ◌^◌, length}
use Rattle.std.specs.Int.{from_bool}
use Rattle.model.specs.Residual.{joined64}
use Rattle.sums.specs.Added.{Carrying}
use Rattle.sums.proofs.carry_on.Given as goal

abbrev pub invariant-loop-word : goal.invariant-loop-word
invariant-loop-word l = record {
  size : length l.word-items ≡ length l.initial.word-items;
  carried : Carrying l.minus (joined64 l.initial.word-items) (from_bool l.fn.carry) (joined64 l.word-items) (from_bool l.carry * 2 ^ (64 * l.word-index));
}
