use Rattle.std.proofs.Common.{arith, ◌+◌}
use native.Mathlib.Nat.{mul-le-mul}
use Rattle.labels.specs.Batches.{Reaches}
use Rattle.labels.proofs.Seeking.{next-batch}
use Rattle.labels.proofs.batch_of.Goals as goal
use Rattle.labels.proofs.batch_of.Goals.{In-loop-end}

-- the next batch begins where one ends
next : (c : In-loop-end) → Reaches c.args.n c.args.k (record { number = c.loop-end.batch.number + 1; before = c.loop-end.end })
next c = let i = c.loop-end.invariant in rw i.last (next-batch i.reaches c.requires.0.1 (omega (arith, i.last)))

pub end-end-requires-in-loop-end : goal.end-end-requires-in-loop-end
end-end-requires-in-loop-end c =
    let high = c.requires.0.0 in
    let square = mul-le-mul {n₂ = 600} {m₂ = 600} high high in
    let r = next (goal.at.end-end-requires-in-loop-end c).In-loop-end in
    (r.high, high, omega (arith, r.past, c.requires.0.1, square))

pub loop-end-preserved : goal.loop-end-preserved
loop-end-preserved c = record { reaches = next (goal.at.loop-end-preserved c).In-loop-end; last = c.end-end-in-loop-end.ensures }
