-- Where the rooms are not linked both ways the pivot stands alone; else it is asked whether the pivot is older.
use Rattle.std.proofs.Common.{add-one}
use Rattle.exchange.proofs.Lines.{pivot_beyond, pivot-alone}
use Rattle.exchange.proofs.Trial.is_accepted.Goals as goal

pub is_older-requires : goal.is_older-requires
is_older-requires c = let t = c.args.self.now in pivot_beyond t.stood t.neighbours (add-one _)

pub returns-then-not-under-over : goal.returns-then-not-under-over
returns-then-not-under-over c =
    let t = c.args.self.now in
    let none = c.if-not-under-over.true in
    rw none (pivot-alone t.stood t.neighbours c.requires.over_value c.requires.under_value none)
