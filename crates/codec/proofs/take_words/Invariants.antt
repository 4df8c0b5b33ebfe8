-- The first k words are made, and nothing else is changed.
use mathlib.Core.Path.{◌≡◌}
use Rattle.model.specs.File.{words_of}
use Rattle.codec.proofs.Turn.{copied}
use Rattle.codec.proofs.take_words.Given as goal

abbrev pub invariant-loop-k : goal.invariant-loop-k
invariant-loop-k l = l.words ≡ copied (words_of l.bytes) l.initial.words l.k
