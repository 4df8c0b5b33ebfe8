-- The loop's invariant: the slots before h are free, and across is the label of (m, h).
use Rattle.std.proofs.Common.{max}
use Rattle.reuse.proofs.Freed.{Releasing}
use Rattle.reuse.proofs.release.Given as goal

abbrev pub invariant-loop-h : goal.invariant-loop-h
invariant-loop-h l = Releasing l.n l.m l.t (max 1 l.from) l.last l.fn.given l.fn.top l.given l.top l.h l.across
