-- A part of the work numbers lent and back.
use Prim.Native.Nat.{ℕ, ◌+◌, ◌-◌}
use native.Mathlib.Omega.{arith}
use mathlib.Core.Path.{◌≡◌, ap, ◌∙◌}
use mathlib.Core.List.{List, [], ◌++◌, append-nil}
use lib.ListN.{length, take, drop, replicate, length-drop, drop_of_length-le}
use lib.Seq.{take_all, drop-drop}

abbrev pub part_of : ℕ → ℕ → List ℕ → List ℕ
part_of from to work = take (to - from) (drop from work)

-- the work numbers with the part back
abbrev pub with_part : ℕ → ℕ → List ℕ → List ℕ → List ℕ
with_part from to work part = take from work ++ (part ++ drop (to - from) (drop from work))

module _ (from : ℕ) (work : List ℕ) where
  pub whole_part : part_of from (length work) work ≡ drop from work
  whole_part = take_all (length work - from) (drop from work) (omega (arith, length-drop from work))

  -- the first numbers of all that are past `from` are cleared
  pub cleared-part : (count : ℕ) {part : List ℕ} → part ≡ replicate count 0 ++ drop count (part_of from (length work) work)
      → with_part from (length work) work part ≡ take from work ++ (replicate count 0 ++ drop (from + count) work)
  cleared-part count {part} e =
      let none : drop (length work - from) (drop from work) ≡ [] =
      drop_of_length-le (drop from work) {i = length work - from} (omega (arith, length-drop from work)) in
      let rest : drop count (part_of from (length work) work) ≡ drop (from + count) work = ap (drop count) whole_part ∙ drop-drop count from work in
      ap (λ l. take from work ++ l) (ap (λ l. part ++ l) none ∙ append-nil part ∙ e ∙ ap (λ l. replicate count 0 ++ l) rest)
