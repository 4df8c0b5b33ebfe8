-- `paths::trace`: each turn is a law of `Trails`.
use Rattle.std.proofs.Common.{ℕ, sym, refl, ◌∙◌, replicate, length-set, arith}
use Rattle.std.proofs.lemmas.List.{length-replicate}
use Rattle.paths.proofs.Trails.{begun, counted, on_trail, turned, whole, shown, leads-here, room, reached, deep_enough, pushed}
use Rattle.paths.proofs.trace.Goals as goal

pub loop-next-init : goal.loop-next-init
loop-next-init c = begun c.requires.leads c.args.list.now (replicate 601 0) c.requires.n_in_bounds (length-replicate {A = ℕ} 601 0)

pub is_planned-requires-clause-inside : goal.is_planned-requires-clause-inside
is_planned-requires-clause-inside c =
    let p = c.requires in
    let l = c.loop-next in
    let on = on_trail p.leads l.invariant p.stands.high (omega (arith, p.n_in_bounds, length-set c.args.list.now 0 c.args.i)) in
    (leads-here on c.loop-next-test.true).inside

pub offset_bounds-list-count : goal.offset_bounds-list-count
offset_bounds-list-count c =
    let p = c.requires in
    let l = c.loop-next in
    omega (arith, counted p.leads l.invariant, p.stands.high)

pub bounds-list-count : goal.bounds-list-count
bounds-list-count c =
    let p = c.requires in
    let l = c.loop-next in
    let on = on_trail p.leads l.invariant p.stands.high (omega (arith, p.n_in_bounds, length-set c.args.list.now 0 c.args.i)) in
    room on c.loop-next-test.true

pub overflow_add-count : goal.overflow_add-count
overflow_add-count c =
    let p = c.requires in
    let l = c.loop-next in
    omega (arith, counted p.leads l.invariant, p.stands.high)

pub loop-next-smaller-then-is_planned : goal.loop-next-smaller-then-is_planned
loop-next-smaller-then-is_planned c =
    let p = c.requires in
    let l = c.loop-next in
    let on = on_trail p.leads l.invariant p.stands.high (omega (arith, p.n_in_bounds, length-set c.args.list.now 0 c.args.i)) in
    (reached on c.loop-next-test.true (sym c.is_planned.ensures ∙ c.if-is_planned.true)).less

pub loop-next-preserved-then-is_planned : goal.loop-next-preserved-then-is_planned
loop-next-preserved-then-is_planned c =
    let p = c.requires in
    let l = c.loop-next in
    let on = on_trail p.leads l.invariant p.stands.high (omega (arith, p.n_in_bounds, length-set c.args.list.now 0 c.args.i)) in
    turned p.leads l.invariant (reached on c.loop-next-test.true (sym c.is_planned.ensures ∙ c.if-is_planned.true))

pub overflow_sub-next : goal.overflow_sub-next
overflow_sub-next c =
    let p = c.requires in
    let l = c.loop-next in
    let on = on_trail p.leads l.invariant p.stands.high (omega (arith, p.n_in_bounds, length-set c.args.list.now 0 c.args.i)) in
    omega (arith, deep_enough on c.loop-next-test.true (sym c.is_planned.ensures ∙ c.if-is_planned.false))

pub between-requires : goal.between-requires
between-requires c =
    let p = c.requires in
    let l = c.loop-next in
    let on = on_trail p.leads l.invariant p.stands.high (omega (arith, p.n_in_bounds, length-set c.args.list.now 0 c.args.i)) in
    record { plan = _; stands = p.stands; filled = record { leads = leads-here on c.loop-next-test.true; free = sym c.is_planned.ensures ∙ c.if-is_planned.false } }

pub loop-next-smaller : goal.loop-next-smaller
loop-next-smaller c =
    let p = c.requires in
    let l = c.loop-next in
    let on = on_trail p.leads l.invariant p.stands.high (omega (arith, p.n_in_bounds, length-set c.args.list.now 0 c.args.i)) in
    let free = sym c.is_planned.ensures ∙ c.if-is_planned.false in
    let next = c.between.ensures _ p.stands (record { leads = leads-here on c.loop-next-test.true; free = free }) in
    (pushed on c.loop-next-test.true free next).less

pub loop-next-preserved : goal.loop-next-preserved
loop-next-preserved c =
    let p = c.requires in
    let l = c.loop-next in
    let on = on_trail p.leads l.invariant p.stands.high (omega (arith, p.n_in_bounds, length-set c.args.list.now 0 c.args.i)) in
    let free = sym c.is_planned.ensures ∙ c.if-is_planned.false in
    let next = c.between.ensures _ p.stands (record { leads = leads-here on c.loop-next-test.true; free = free }) in
    turned p.leads l.invariant (pushed on c.loop-next-test.true free next)

pub overflow_cast-result : goal.overflow_cast-result
overflow_cast-result c = omega (arith, counted c.requires.leads c.loop-next.invariant, c.requires.stands.high)

pub returns : goal.returns
returns c =
    let path = c.loop-next.invariant in
    let ended = c.loop-next-test.false in
    record { shown = shown c.requires.leads path ended _ refl; smallest = whole c.requires.leads path ended }
