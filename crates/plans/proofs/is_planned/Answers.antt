-- `plans::is_planned` finds a label by halves, since they rise.
use Rattle.std.proofs.Common.{◌∙◌}
use Rattle.plans.proofs.Places.{searched-planned}
use Rattle.plans.proofs.is_planned.Goals as goal

pub returns : goal.returns
returns c =
    let a = c.args in
    let found = searched-planned a.n a.i a.j c.label.ensures c.requires.n_bound.0 c.requires.inside a.plan.now c.requires.n_bound.1 c.binary_search.result
    c.binary_search.ensures.position
    in
    c.is_ok.ensures.value ∙ found
