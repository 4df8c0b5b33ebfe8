-- A turn counts one set more, by its first missing pivot.
use Rattle.std.proofs.Common.{arith, ◌≡◌, ap, ◌∙◌, ◌*◌, ◌^◌, ◌<◌, ◌≤◌, lit<, length}
use Rattle.std.proofs.Math.Nat.{pow-le-pow_right}
use Rattle.model.specs.Fill.{missing}
use Rattle.model.proofs.Lists.{length-rising}
use Rattle.model.proofs.Within.{within-range}
use Rattle.model.proofs.Sets.{marked}
use Rattle.model.proofs.Census.{missing-at_most}
use Rattle.model.proofs.Tallies.{tallies, tallies_none, tallies_few, tallies_more, tallies_all}
use Rattle.census.proofs.Marking.{places-few}
use Rattle.census.proofs.count_sets.Goals as goal
use Rattle.census.proofs.count_sets.Goals.{After-wide-m}

pub pow-set-end-requires : goal.pow-set-end-requires
pow-set-end-requires c =
    let most : 2 ^ (c.args.n * c.args.n) ≤ 2 ^ 16 = pow-le-pow_right (lit< tt) (places-few c.args.n c.requires.0) in
    omega arith

pub loop-set-init : goal.loop-set-init
loop-set-init c = c.requires.1 ∙ tallies_none _

-- the pivot that a turn counts is the set's first missing one
pivot : (c : After-wide-m) → c.wide-m.result ≡ missing c.args.n (marked (c.args.n * c.args.n) c.loop-set.set)
pivot c = c.wide-m.ensures ∙ c.first_missing.ensures

-- it is one of five, and there are five counts
inside : (c : After-wide-m) → (c.wide-m.result < 5) × (length c.loop-set.out ≡ 5)
inside c =
    let n = c.args.n in (
      omega (arith, pivot c, missing-at_most n (marked (n * n) c.loop-set.set), (within-range n 4 c.requires.0).1),
      ap length c.loop-set.invariant ∙ length-rising _ 0 5,
    )

pub bounds-out-m : goal.bounds-out-m
bounds-out-m c = omega (arith, inside (goal.at.bounds-out-m c).After-wide-m)

pub overflow_add-out : goal.overflow_add-out
overflow_add-out c =
    omega (arith, tallies_few c.args.n c.loop-set.set c.loop-set.invariant (inside (goal.at.overflow_add-out c).After-wide-m).0)

pub bounds-out-m-in-loop-set : goal.bounds-out-m-in-loop-set
bounds-out-m-in-loop-set c = omega (arith, inside (goal.at.bounds-out-m-in-loop-set c).After-wide-m)

pub loop-set-preserved : goal.loop-set-preserved
loop-set-preserved c =
    tallies_more c.args.n c.loop-set.set (within-range c.args.n 4 c.requires.0).1 c.loop-set.invariant (pivot (goal.at.loop-set-preserved c).After-wide-m)

pub returns : goal.returns
returns c =
    let n = c.args.n in
    let all : c.loop-set.set ≡ 2 ^ (n * n) = omega arith in
    c.loop-set.invariant ∙ ap (tallies n) all ∙ tallies_all n
