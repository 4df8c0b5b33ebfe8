-- Batch m's column from the diagonal down or, across, its row right of the diagonal. Definitions only.
use Rattle.std.specs.Prelude.{ℕ, suc, ◌-◌, Bool, cond, ◌&&◌, List, leb, ltb, eqb, get_or}
use Rattle.model.specs.Label.{label}

-- the row and the column of a line's t-th place, and the first t
abbrev pub row_of : Bool → ℕ → ℕ → ℕ
row_of across m t = cond across m t

abbrev pub column_of : Bool → ℕ → ℕ → ℕ
column_of across m t = cond across t m

abbrev pub first_of : Bool → ℕ → ℕ
first_of across m = cond across (suc m) m

-- what is noted of the t-th place's other line: of its row on a column, of its column on a row
abbrev pub noted_of : Bool → List ℕ → List ℕ → ℕ → ℕ
noted_of across in_rows in_columns t = cond across (get_or in_columns t 0) (get_or in_rows t 0)

-- whether (i, h) and (h, j) have work numbers
abbrev pub pair_at : ℕ → List ℕ → ℕ → ℕ → ℕ → Bool
pair_at n work i j h = ltb 0 (get_or work (label n i h - 1) 0) && ltb 0 (get_or work (label n h j - 1) 0)

-- whether a line has a k-th place, at this index, that is unmarked, and whose other line notes nothing before batch m
abbrev pub empty_at : ℕ → Bool → ℕ → List ℕ → List ℕ → List ℕ → ℕ → ℕ → Bool
empty_at n across m work in_rows in_columns k index = leb k n && (eqb (get_or work index 0) 0 && leb m (noted_of across in_rows in_columns k))
