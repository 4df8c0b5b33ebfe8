-- A refusal's number and its detail: document 01, "Where each refusal is checked", and document 02's requests. Definitions only.
use Rattle.std.specs.Prelude.{ℕ, Result, Ok, Err}
use Rattle.model.specs.Check.{Verdict, fine, refusal}
use Rattle.model.specs.Compile.{Labels, good, bad}
use Rattle.model.specs.Boundary.{refusal_number}
use Rattle.refusal.specs.declared.Refusal.{Refusal}
use Rattle.refusal.specs.declared.Refusal.TheVariants.{Order, WorkShort, LabelRange, LabelTurn, PivotMissing, WordsShort, WordCount, Head, Next, Kind}
use Rattle.refusal.specs.declared.Refusal.TheVariants.{Open, Operand, Unfinished, Lengths, NotFinite, Overflow, ZeroDivisor, FileBytes, OutputShort, ListingText}
use Rattle.refusal.specs.declared.Refusal.TheVariants.{Limit, NotHeld, ListShort, Remainder, Sides, DiagonalMissing, Unsettled, Different, Numbering, NotCounted}

abbrev pub number_of : Refusal → ℕ
number_of Order = 1
number_of (WorkShort wanted) = 2
number_of (LabelRange position) = 3
number_of (LabelTurn position) = 4
number_of (PivotMissing pivot) = 5
number_of (WordsShort records) = 6
number_of WordCount = 7
number_of Head = 8
number_of (Next k) = 9
number_of (Kind k) = 10
number_of (Open k) = 11
number_of (Operand k) = 12
number_of Unfinished = 13
number_of Lengths = 14
number_of (NotFinite position) = 15
number_of (Overflow k) = 16
number_of (ZeroDivisor k) = 17
number_of FileBytes = 18
number_of (OutputShort needed) = 19
number_of (ListingText position) = 20
number_of Limit = 21
number_of NotHeld = 22
number_of ListShort = 23
number_of Remainder = 24
number_of Sides = 25
number_of (DiagonalMissing row) = 26
number_of Unsettled = 27
number_of (Different k) = 28
number_of Numbering = 29
number_of NotCounted = 30

abbrev pub detail_of : Refusal → ℕ
detail_of Order = 0
detail_of (WorkShort wanted) = wanted
detail_of (LabelRange position) = position
detail_of (LabelTurn position) = position
detail_of (PivotMissing pivot) = pivot
detail_of (WordsShort records) = records
detail_of WordCount = 0
detail_of Head = 0
detail_of (Next k) = k
detail_of (Kind k) = k
detail_of (Open k) = k
detail_of (Operand k) = k
detail_of Unfinished = 0
detail_of Lengths = 0
detail_of (NotFinite position) = position
detail_of (Overflow k) = k
detail_of (ZeroDivisor k) = k
detail_of FileBytes = 0
detail_of (OutputShort needed) = needed
detail_of (ListingText position) = position
detail_of Limit = 0
detail_of NotHeld = 0
detail_of ListShort = 0
detail_of Remainder = 0
detail_of Sides = 0
detail_of (DiagonalMissing row) = row
detail_of Unsettled = 0
detail_of (Different k) = k
detail_of Numbering = 0
detail_of NotCounted = 0

-- both as one number
abbrev pub refused_number : Refusal → ℕ
refused_number r = refusal_number (number_of r) (detail_of r)

-- a check's answer as the model's verdict
abbrev pub verdict_of : Result Unit Refusal → Verdict
verdict_of (Ok done) = fine
verdict_of (Err r) = refusal (number_of r) (detail_of r)

-- a plan's checks as the model's answer
abbrev pub labels_of : Result Unit Refusal → Labels
labels_of (Ok done) = good
labels_of (Err r) = bad (number_of r) (detail_of r)
