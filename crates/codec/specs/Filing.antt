-- The answer of a file call as the model's, and what two calls in a row answer and leave. Definitions only.
use Rattle.std.specs.Prelude.{ℕ, List, ◌++◌, drop, Result, Ok, Err}
use Rattle.model.specs.File.{Filed, filed, refusal, writes, reads}
use Rattle.refusal.specs.declared.Refusal.{Refusal}
use Rattle.refusal.specs.Named.{number_of, detail_of}

abbrev pub filed_of : Result ℕ Refusal → Filed
filed_of (Ok k) = filed k
filed_of (Err r) = refusal (number_of r) (detail_of r)

-- two calls in a row: the second is given the k entries that the first wrote
abbrev pub and_then : Filed → (ℕ → Filed) → Filed
and_then answer next = elim answer [ filed k ↦ next k | refusal r d ↦ refusal r d ]

-- words written and read back, by the lengths of the words, of the lent bytes and of the lent words
unfoldable pub words_again : ℕ → ℕ → ℕ → Filed
words_again words bytes again = and_then (writes words bytes) (λ k. reads k again)

-- bytes read and written back, by the lengths of the bytes, of the lent words and of the lent bytes
unfoldable pub bytes_again : ℕ → ℕ → ℕ → Filed
bytes_again bytes words again = and_then (reads bytes words) (λ k. writes k again)

-- a lent slice after an answer: the content, then what stood past the k entries needed; a refusal changes nothing
abbrev pub lent_after : Filed → List ℕ → List ℕ → List ℕ
lent_after answer content lent = elim answer [ filed k ↦ content ++ drop k lent | refusal r d ↦ lent ]
