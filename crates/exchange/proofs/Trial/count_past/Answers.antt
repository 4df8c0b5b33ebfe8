-- Where both lines begin, what a turn reads, and what it counts: laws of `Counting` and of `Lines`.
use Rattle.std.proofs.Common.{arith, ◌≡◌, cond, suc, ◌+◌, ◌-◌, ◌≤◌, ◌<◌, refl, ap, ◌∙◌, add-one, length, ltb, get_or}
use Rattle.model.specs.Label.{label}
use Rattle.model.specs.Fill.{held}
use Rattle.model.specs.Numbering.{renumbered}
use Rattle.slots.specs.Batch.{row_of, column_of}
use Rattle.exchange.specs.Stood.{first_line, second_line}
use Rattle.exchange.proofs.Counting.{Counting, count-start, count_small, first-index, second_index, first-held, second_held, second_past, count_more, count-all}
use Rattle.exchange.proofs.Lines.{second_alone}
use Rattle.exchange.proofs.Trial.count_past.Goals as goal
use Rattle.exchange.proofs.Trial.count_past.Goals.{After-wide, After-wide-in-loop-k, In-loop-k, Joined-linked-a, After-pair-after, then-linked-a, else-linked-a}

pub loop-k-init : goal.loop-k-init
loop-k-init c =
    let t = c.args.self.now in
    record { counted = count-start t.stood t.neighbours (omega arith); within = omega (arith, t.neighbours) }

-- the k-th places stand at these indices
first_at : (c : After-wide) → let t = c.args.self.now in
    suc (c.line_start-first.result + c.wide.result) ≡ label t.n t.t t.t + cond c.args.across (t.n - t.t) 0 + (c.loop-k.k - t.t)
first_at c = omega (arith, c.line_start-first.ensures, c.wide.ensures)

second_at : (c : After-wide-in-loop-k) → let t = c.args.self.now in suc (c.line_start-second.result + c.wide-in-loop-k.result - 1)
    ≡ label t.n (suc t.t) (suc t.t) + cond c.args.across (t.n - suc t.t) 0 + (c.loop-k.k - suc t.t)
second_at c = let start = rw add-one at c.line_start-second.ensures in omega (arith, start, c.wide-in-loop-k.ensures)

first-there : (c : After-wide) → let index = c.line_start-first.result + c.wide.result in (index < length c.args.self.now.work.now) × (index ≤ 360000)
first-there c =
    let t = c.args.self.now in
    first-index t.stood t.neighbours c.loop-k.invariant.counted (omega arith) c.loop-k-test.true (first_at c)

second_there : (c : After-wide-in-loop-k) → let index = c.line_start-second.result + c.wide-in-loop-k.result - 1 in
    (index < length c.args.self.now.work.now) × (index ≤ 360000)
second_there c =
    let t = c.args.self.now in
    second_index t.stood t.neighbours c.loop-k.invariant.counted (omega arith) c.loop-k-test.true (second_at c)

pub overflow_add-a : goal.overflow_add-a
overflow_add-a c = omega (arith, first-there (goal.at.overflow_add-a c).After-wide)

pub offset_bounds-self-first : goal.offset_bounds-self-first
offset_bounds-self-first c = omega (arith, first-there (goal.at.offset_bounds-self-first c).After-wide)

pub bounds-self-first : goal.bounds-self-first
bounds-self-first c = (first-there (goal.at.bounds-self-first c).After-wide).0

pub overflow_add-b : goal.overflow_add-b
overflow_add-b c = omega (arith, second_there (goal.at.overflow_add-b c).After-wide-in-loop-k)

pub offset_bounds-self-second : goal.offset_bounds-self-second
offset_bounds-self-second c = omega (arith, second_there (goal.at.offset_bounds-self-second c).After-wide-in-loop-k)

pub bounds-self-second : goal.bounds-self-second
bounds-self-second c = (second_there (goal.at.bounds-self-second c).After-wide-in-loop-k).0

-- in a turn: the places of both lines, as they are held
first-here : (c : After-wide) → let t = c.args.self.now in ltb 0 (get_or t.work.now (c.line_start-first.result + c.wide.result) 0)
    ≡ first_line t.n (renumbered t.n t.plan.now t.numbering.now) t.t c.args.across c.loop-k.k
first-here c =
    let t = c.args.self.now in
    first-held t.stood t.neighbours c.loop-k.invariant.counted (omega arith) c.loop-k-test.true (first_at c) refl

second_here : (c : After-wide-in-loop-k) → let t = c.args.self.now in let k = c.loop-k.k in
    ltb 0 (get_or t.work.now (c.line_start-second.result + c.wide-in-loop-k.result - 1) 0)
    ≡ held t.n (renumbered t.n t.plan.now t.numbering.now) (row_of c.args.across (suc t.t) k) (column_of c.args.across (suc t.t) k)
second_here c =
    let t = c.args.self.now in
    second_held t.stood t.neighbours c.loop-k.invariant.counted (omega arith) c.loop-k-test.true (second_at c) refl

pub stays-b-requires : goal.stays-b-requires
stays-b-requires c =
    let t = c.args.self.now in
    let turn = goal.at.stays-b-requires c in
    second_past t.stood t.neighbours c.loop-k.invariant.counted (omega arith) c.loop-k-test.true (first-here turn.After-wide)
    (second_here turn.After-wide-in-loop-k) c.requires.linked_value c.if-linked-a.true

-- how large the sums are
known : (c : In-loop-k) → (c.loop-k.before ≤ 1200) × (c.loop-k.after ≤ 1200)
known c =
    let t = c.args.self.now in
    count_small t.stood t.neighbours c.loop-k.invariant.counted (omega arith) (omega arith)

pub overflow_add-before : goal.overflow_add-before
overflow_add-before c = omega (arith, known (goal.at.overflow_add-before c).In-loop-k)

pub overflow_add-after : goal.overflow_add-after
overflow_add-after c = omega (arith, known (goal.at.overflow_add-after c).In-loop-k)

-- and the second's as it would be
second_stays : (c : Joined-linked-a) → let t = c.args.self.now in
    c.if-linked-a.b ≡ second_line t.n (renumbered t.n t.plan.now t.numbering.now) t.t c.args.across c.loop-k.k
second_stays c =
    let t = c.args.self.now in
    let turn = goal.at.Joined-linked-a c in
    elim c.if-linked-a.branch [
      | then-linked-a w ↦ w.b-is ∙ w.stays-b.ensures
      | else-linked-a w ↦ w.b-is ∙ second_alone t.stood t.neighbours c.args.across c.loop-k.k (omega arith) c.loop-k-test.true
          (first-here turn.After-wide) (second_here turn.After-wide-in-loop-k) c.requires.linked_value w.if-linked-a.false
    ]

-- so one place more is counted
more : (c : After-pair-after) → let t = c.args.self.now in
    Counting t.n (renumbered t.n t.plan.now t.numbering.now) t.t c.args.across (c.loop-k.before + c.pair-before.result)
    (c.loop-k.after + c.pair-after.result) (c.loop-k.k + 1)
more c =
    let t = c.args.self.now in
    let at = goal.at.After-pair-after c in
    count_more t.stood t.neighbours c.loop-k.invariant.counted (omega arith) (add-one _) (first-here at.After-wide)
    (second_stays at.Joined-linked-a) c.requires.linked_value c.requires.back_value (ap (λ n. c.loop-k.before + n) c.pair-before.ensures.0)
    (ap (λ n. c.loop-k.after + n) c.pair-after.ensures.0)

pub loop-k-preserved : goal.loop-k-preserved
loop-k-preserved c = record { counted = more (goal.at.loop-k-preserved c).After-pair-after; within = omega arith }

pub returns : goal.returns
returns c = let t = c.args.self.now in count-all t.neighbours.0 (omega arith) c.loop-k.invariant.counted

pub returns-after-linked-a : goal.returns-after-linked-a
returns-after-linked-a c = let t = c.args.self.now in count-all t.neighbours.0 (omega arith) (more (goal.at.returns-after-linked-a c).After-pair-after)
