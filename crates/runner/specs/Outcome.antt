-- What a run and its checks answer, as the model's reply and verdict: document 01's numbers for each case. Definitions only.
use Rattle.std.specs.Prelude.{ℕ, zero, suc, Result, Ok, Err}
use Rattle.model.specs.Check.{Verdict, fine, refusal}
use Rattle.model.specs.Run.{Reply, solves, stops, refuses}
use Rattle.refusal.specs.Named.{number_of, detail_of}
use Rattle.state.specs.declared.Fault.{Fault}
use Rattle.state.specs.declared.State.{State}
use Rattle.state.specs.States.{number_of_fault}
use Rattle.runner.specs.declared.Solution.{Solution}
use Rattle.runner.specs.declared.Stop.{Stop}
use Rattle.runner.specs.declared.Failure.{Failure}
use Rattle.runner.specs.declared.Failure.TheVariants.{Stopped, Refused}

abbrev pub reply_of : Result Solution Failure → Reply
reply_of (Ok s) = solves s.products s.quotients s.vanished s.sweeps
reply_of (Err (Stopped s)) = stops (number_of_fault s.fault) s.record s.table s.target
reply_of (Err (Refused r)) = refuses (number_of r) (detail_of r)

-- 15, for the position from 1 of the first value that is not finite, or 0 if all are
abbrev pub fifteen : ℕ → Verdict
fifteen zero = fine
fifteen (suc k) = refusal 15 (suc k)

-- a run's solution, of its last state and the sweeps made
abbrev pub solution_of : State → ℕ → Solution
solution_of z k = record { products = z.products; quotients = z.quotients; vanished = z.vanished; sweeps = k }

-- where a run in state z stops
abbrev pub stop_of : Fault → ℕ → State → Stop
stop_of fault k z = record { fault = fault; «record» = k; table = z.table; target = z.target }
