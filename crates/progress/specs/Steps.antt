-- The progress of a check as the model's, and one record's judgement, 10 to 12. Definitions only.
use Rattle.std.specs.Prelude.{ℕ, ◌+◌, Bool, true, false, ◌&&◌, eqb, Result, Ok, Err}
use Rattle.model.specs.Formula.{C, Y, X, number_of}
use Rattle.model.specs.Check as Check
use Rattle.model.specs.Check.{idle, busy, kind_of, belongs, formed, in_order, allowed}
use Rattle.progress.specs.declared.Fault.{Fault}
use Rattle.progress.specs.declared.Target.{Target}
use Rattle.progress.specs.declared.Progress.{Progress}
use Rattle.progress.specs.declared.Head.{Head}

-- what is open: entry k of the target
abbrev pub open_of : Target → ℕ → Check.Open
open_of Target.Nothing k = idle
open_of Target.C k = busy C k
open_of Target.Y k = busy Y k
open_of Target.X k = busy X k

-- the number of the open table, 0 if none is open
abbrev pub open_number : Target → ℕ
open_number Target.Nothing = 0
open_number Target.C = number_of C
open_number Target.Y = number_of Y
open_number Target.X = number_of X

abbrev pub progress_of : Progress → Check.Progress
progress_of g = record { target = open_of g.target g.number; c = g.c; y = g.y; x = g.x }

-- what is closed of Y and X; of C the slots bound it
abbrev pub total : Check.Progress → ℕ
total g = g.y + g.x

-- the document's number of what is wrong with a record, and of a judgement: 0 where nothing is
abbrev pub fault_number : Fault → ℕ
fault_number Fault.Kind = 10
fault_number Fault.Open = 11
fault_number Fault.Operand = 12

abbrev pub judged : Result Unit Fault → ℕ
judged (Ok done) = 0
judged (Err fault) = fault_number fault

-- 10, then 11, then 12; 0 if none
unfoldable pub first_of : Bool → Bool → Bool → ℕ
first_of false ordered turned = 10
first_of true false turned = 11
first_of true true false = 12
first_of true true true = 0

-- the number of the refusal of a record of any kind, 0 if none, by record 0's N, n and s
abbrev pub refusal_of : Head → Progress → ℕ → ℕ → ℕ → ℕ
refusal_of h g kind p q =
    first_of (belongs h.slots kind && formed (kind_of kind) p q) (in_order (kind_of kind) (progress_of g).target)
    (allowed h.order h.coefficients h.slots (kind_of kind) p q (progress_of g))

-- none of 10 to 12 refuses the record
abbrev pub right_in : Head → Progress → ℕ → ℕ → ℕ → Bool
right_in h g kind p q = eqb (refusal_of h g kind p q) 0
