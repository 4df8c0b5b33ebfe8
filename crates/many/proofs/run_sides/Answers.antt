-- `many::run_sides`: the pass, then what each side tells, then what is left in Y, X and C.
use Prim.Native.Nat.{◌*◌, ◌≤◌}
use native.Mathlib.Omega.{arith}
use mathlib.Core.Path.{◌≡◌, sym, ap, ◌∙◌}
use lib.ListN.{length}
use Rattle.model.specs.Formula.{Y, X}
use Rattle.model.specs.Check.{word}
use Rattle.model.specs.Many.{sides, replies, leaves_many}
use Rattle.model.specs.Boundary.{many_numbers}
use Rattle.many.specs.Passes.{endings}
use Rattle.many.proofs.Calls.{head-fits}
use Rattle.many.proofs.Passing.{few-sides}
use Rattle.many.proofs.Report.{numbers-told, left-y, left-x, left-c, left-c-none}
use Rattle.many.proofs.run_sides.Goals as goal
use Rattle.many.proofs.run_sides.Goals.{After-tell_each, After-clear_ended-2}

pub bounds-words-0 : goal.bounds-words-0
bounds-words-0 c = omega (arith, head-fits _ c.requires.fit_many.checked)

-- the right sides are few, the order is small, and the numbers out are still 257
few : (c : After-tell_each) → (c.args.count ≤ 64) × ((c.wide-order.result ≤ 600) × (length c.tell_each.new.out ≡ 257))
few c =
    let fits = c.requires.fit_many in (
      (few-sides fits).1,
      (
        omega (arith, c.wide-order.ensures, head-fits c.args.words.now fits.checked),
        c.tell_each.auto.out ∙ c.pass-z.auto.out ∙ ap length c.requires.out_value,
      ),
    )

pub clear_ended-requires-clause-count_bound : goal.clear_ended-requires-clause-count_bound
clear_ended-requires-clause-count_bound c = few (goal.at.clear_ended-requires-clause-count_bound c).After-tell_each

pub clear_ended-requires-2-clause-count_bound : goal.clear_ended-requires-2-clause-count_bound
clear_ended-requires-2-clause-count_bound c = few (goal.at.clear_ended-requires-2-clause-count_bound c).After-tell_each

-- the numbers out are told, and Y and X are what the right sides leave
left : (c : After-clear_ended-2) → let W = c.args.words.now in let ends = endings W c.args.count c.args.a.now c.args.b.now c.args.limit in
    (c.tell_each.new.out ≡ many_numbers (replies W (sides ends)))
    × ((c.clear_ended.new.values ≡ leaves_many (sides ends) (word W 0) Y c.args.y.now)
    × (c.clear_ended-2.new.values ≡ leaves_many (sides ends) (word W 0) X c.args.x.now))
left c =
    let fits = c.requires.fit_many in
    let bound = few (goal.at.After-clear_ended-2 c).After-tell_each in
    let rows = ap (λ n. c.args.count * n) (sym c.wide-order.ensures) in
    let long-y = c.pass-z.auto.y ∙ fits.in_y ∙ rows in
    let long-x = c.pass-z.auto.x ∙ fits.in_x ∙ rows in
    let p = c.pass-z.ensures in
    let t = c.tell_each.ensures in (
      numbers-told p t bound.0 bound.1.1 c.requires.out_value,
      (
        left-y p t c.wide-order.ensures _ _ long-y (c.clear_ended.auto.values ∙ long-y) c.clear_ended.ensures,
        left-x p t c.wide-order.ensures _ _ long-x (c.clear_ended-2.auto.values ∙ long-x) c.clear_ended-2.ensures,
      ),
    )

pub returns-then-not-any_going : goal.returns-then-not-any_going
returns-then-not-any_going c =
    let l = left (goal.at.returns-then-not-any_going c).After-clear_ended-2 in
    let none = sym c.any_going.ensures ∙ c.if-not-any_going.true in
    (l.0, (c.clear.ensures ∙ left-c-none c.pass-z.ensures c.tell_each.ensures _ c.pass-z.auto.c none, l.1))

pub returns-else-not-any_going : goal.returns-else-not-any_going
returns-else-not-any_going c =
    let l = left (goal.at.returns-else-not-any_going c).After-clear_ended-2 in
    let some = sym c.any_going.ensures ∙ c.if-not-any_going.false in
    (l.0, (left-c c.pass-z.ensures c.tell_each.ensures _ some, l.1))
