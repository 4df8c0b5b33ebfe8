-- Where the exchange improves, the exchanged numbering is the one that the trial keeps.
use Rattle.std.proofs.Common.{arith, ◌≡◌, ◌∙◌}
use Rattle.model.specs.Numbering.{tried}
use Rattle.model.proofs.Trials.{Kept, trial_keeps}
use Rattle.ordering.proofs.Trials.{filled-numbered, swapped, kept-exchanged}
use Rattle.ordering.proofs.try_exchange.Goals as goal
use Rattle.ordering.proofs.try_exchange.Goals.{After-swap}

kept : (c : After-swap) → c.swap.new.self ≡ tried c.args.n c.args.plan.now c.args.t c.args.numbering.now
kept c =
    let p = c.requires in
    let swap = rw (c.wide.ensures, c.wide-2.ensures) at c.swap.ensures.after in
    kept-exchanged c.args.n c.args.plan.now c.args.t c.args.numbering.now c.improves.result c.improves.ensures c.if-not-improves.false
    (swap ∙ swapped c.args.numbering.now c.args.t p.neighbours.0 (omega (arith, p.neighbours.1, p.numbered.stood.kept.numbers.size)))

still_kept : (c : After-swap) → Kept c.args.n c.args.plan.now c.swap.new.self
still_kept c = let p = c.requires in rw (kept c) (trial_keeps _ _ _ _ p.neighbours.0 p.neighbours.1 p.numbered.stood.kept)

pub fill_anew-requires-clause-numbering : goal.fill_anew-requires-clause-numbering
fill_anew-requires-clause-numbering c =
    ((still_kept (goal.at.fill_anew-requires-clause-numbering c).After-swap).numbers, c.requires.numbered.stood.stands.room)

pub returns-clause-numbering_after : goal.returns-clause-numbering_after
returns-clause-numbering_after c = kept (goal.at.returns-clause-numbering_after c).After-swap

pub returns-clause-numbered_2 : goal.returns-clause-numbered_2
returns-clause-numbered_2 c =
    let s = c.requires.numbered.stood in
    filled-numbered c.fill_anew.ensures s.order s.labels (still_kept (goal.at.returns-clause-numbered_2 c).After-swap)
