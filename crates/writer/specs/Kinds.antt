-- The number of a kind of record, which stands in the record: documents 01, "Records", and 02, A.7. Definitions only.
use Rattle.std.specs.Prelude.{ℕ}
use Rattle.writer.specs.declared.Kind.{Kind}
use Rattle.writer.specs.declared.Kind.TheVariants.{OpenC, OpenY, OpenX, LessCC, LessCY, LessCX, DivideByC, Close, ClosePivot, OpenRow, LessAX, DivideByA}

abbrev pub number_of : Kind → ℕ
number_of OpenC = 1
number_of OpenY = 2
number_of OpenX = 3
number_of LessCC = 4
number_of LessCY = 5
number_of LessCX = 6
number_of DivideByC = 7
number_of Close = 8
number_of ClosePivot = 9
number_of OpenRow = 10
number_of LessAX = 11
number_of DivideByA = 12
