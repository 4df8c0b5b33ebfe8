-- The place has a label, and its work number stands before that index.
use Rattle.std.proofs.Common.{arith, ◌-◌, ap, ◌∙◌, ltb, get_or}
use Rattle.model.proofs.Labels.{label-range}
use Rattle.plans.proofs.Places.{place-label}
use Rattle.exchange.proofs.Trial.is_held.Goals as goal

pub overflow_sub-label : goal.overflow_sub-label
overflow_sub-label c = (place-label _ _ _ c.label.ensures c.args.self.now.stood.stands.high c.requires).1

pub bounds-self-wide : goal.bounds-self-wide
bounds-self-wide c =
    let found = place-label _ _ _ c.label.ensures c.args.self.now.stood.stands.high c.requires in
    omega (arith, found, label-range _ _ _ c.requires, c.args.self.now.stood.stands.room)

pub returns : goal.returns
returns c =
    let found = place-label _ _ _ c.label.ensures c.args.self.now.stood.stands.high c.requires in
    ap (λ k. ltb 0 (get_or c.args.self.now.work.now k 0)) (c.wide.ensures ∙ ap (λ k. k - 1) found.0)
