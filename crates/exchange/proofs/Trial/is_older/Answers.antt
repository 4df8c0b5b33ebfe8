-- The place is in the plan, or else the smallest h between is asked for.
use Rattle.std.proofs.Common.{◌≡◌, sym, ap, ap₂, ◌∙◌, ltb, get_or}
use Rattle.model.specs.Fill.{in_plan}
use Rattle.model.specs.Numbering.{given_at}
use Rattle.model.proofs.Renumbered.{given_inside}
use Rattle.exchange.proofs.Lines.{older_planned, filled, older_between}
use Rattle.exchange.proofs.Trial.is_older.Goals as goal
use Rattle.exchange.proofs.Trial.is_older.Goals.{After-wide-2, After-is_planned}

-- the rooms are the given ones
room : (c : After-wide-2) → let p = c.args.self.now.numbering.now in
    (get_or p c.wide.result 0 ≡ given_at p c.args.i) × (get_or p c.wide-2.result 0 ≡ given_at p c.args.j)
room c =
    let p = c.args.self.now.numbering.now in
    (ap (λ k. get_or p k 0) c.wide.ensures, ap (λ k. get_or p k 0) c.wide-2.ensures)

asked : (c : After-is_planned) → let a = c.args.self.now in
    c.is_planned.result ≡ in_plan a.n a.plan.now (given_at a.numbering.now c.args.i) (given_at a.numbering.now c.args.j)
asked c = let r = room (goal.at.After-is_planned c).After-wide-2 in c.is_planned.ensures ∙ ap₂ (in_plan _ _) r.0 r.1

pub is_planned-requires-clause-inside : goal.is_planned-requires-clause-inside
is_planned-requires-clause-inside c =
    let r = room (goal.at.is_planned-requires-clause-inside c).After-wide-2 in
    rw (r.0, r.1) (given_inside _ _ c.args.self.now.stood.kept.numbers _ _ c.requires.inside)

pub returns-then-is_planned : goal.returns-then-is_planned
returns-then-is_planned c =
    let p = c.args.self.now in
    let planned = c.if-is_planned.true in
    planned ∙ older_planned p.stood p.neighbours c.requires (sym (asked (goal.at.returns-then-is_planned c).After-is_planned) ∙ planned)

pub between-requires : goal.between-requires
between-requires c =
    let p = c.args.self.now in
    let free = sym (asked (goal.at.between-requires c).After-is_planned) ∙ c.if-is_planned.false in
    record { plan = _; stands = p.stood.stands; filled = filled p.stood p.neighbours c.requires free }

pub returns-else-is_planned : goal.returns-else-is_planned
returns-else-is_planned c =
    let p = c.args.self.now in
    let free = sym (asked (goal.at.returns-else-is_planned c).After-is_planned) ∙ c.if-is_planned.false in
    ap (λ h. ltb h p.t) (c.between.ensures _ p.stood.stands (filled p.stood p.neighbours c.requires free))
    ∙ older_between p.stood p.neighbours c.requires free
