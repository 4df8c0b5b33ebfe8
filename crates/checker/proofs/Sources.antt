-- The words of a file's bytes: how many, and what one is.
use Prim.Native.Nat.{ℕ, ◌+◌, ◌*◌, ◌/◌, ◌<◌}
use mathlib.Core.Path.{◌≡◌, sym}
use mathlib.Core.List.{List}
use lib.ListN.{length, get_or}
use Rattle.model.specs.Check.{word}
use Rattle.model.specs.File.{words_of}
use Rattle.model.proofs.Bytes.{words-length}
use Rattle.model.proofs.Reading.{word_read}

pub words_counted : (bs : List ℕ) → length (words_of bs) ≡ length bs / 4
words_counted = words-length

pub word_of_four : (bs : List ℕ) (i : ℕ) → 4 * i + 3 < length bs
    → get_or bs (4 * i) 0 + 256 * get_or bs (4 * i + 1) 0 + 65536 * get_or bs (4 * i + 2) 0 + 16777216 * get_or bs (4 * i + 3) 0 ≡ word (words_of bs) i
word_of_four bs i h = sym (word_read bs i h)
