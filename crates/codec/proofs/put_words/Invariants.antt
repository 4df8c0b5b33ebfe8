-- The bytes of the words passed are written, and nothing else.
use Prim.Native.Nat.{◌*◌}
use mathlib.Core.Path.{◌≡◌}
use Rattle.model.specs.File.{bytes_of}
use Rattle.codec.proofs.Turn.{copied}
use Rattle.codec.proofs.put_words.Given as goal

abbrev pub invariant-loop-k : goal.invariant-loop-k
invariant-loop-k l = l.bytes ≡ copied (bytes_of l.words) l.initial.bytes (4 * l.k)
