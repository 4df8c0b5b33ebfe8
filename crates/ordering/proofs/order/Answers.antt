-- 1 to 5, 29, and the trials from the given numbering on: laws of `Answers`.
use Rattle.std.proofs.Common.{arith, ◌≡◌, ◌≤◌, refl, sym, ap, ◌∙◌, length}
use Rattle.std.proofs.lemmas.Result.{err_from_is_err_and}
use Rattle.std.proofs.Math.Nat.{mul-le-mul}
use Rattle.model.specs.Numbering.{given_numbering}
use Rattle.model.proofs.Plans.{plan-length}
use Rattle.model.proofs.Renumbered.{slots_enough}
use Rattle.model.proofs.Trials.{made_two}
use Rattle.ordering.proofs.Answers.{refuses, told, length-refused, given-numbered, numbers-kept}
use Rattle.ordering.proofs.order.Goals as goal
use Rattle.ordering.proofs.order.Goals.{Else-numbering-wide, After-number_as_given, After-make_trials-slots}

pub returns-in_err-filled : goal.returns-in_err-filled
returns-in_err-filled c =
    let p = err_from_is_err_and c.from_residual.result c.from_residual.ensures.1 in
    let r = refuses c.args.trials c.args.numbering.now c.in_err-filled.ensures in
    rw (p.1, p.2) (record { answer = r.0; work = r.1.0; numbering = r.1.1 })

pub returns-then-numbering-wide : goal.returns-then-numbering-wide
returns-then-numbering-wide c =
    let other : length c.args.numbering.now ≡ c.args.n → ⊥ = λ same. c.if-numbering-wide.true (same ∙ sym c.wide.ensures) in
    let r = length-refused c.in_ok-filled.ensures c.args.trials c.args.numbering.now other in
    record { answer = r.0; work = r.1.0; numbering = r.1.1 }

-- the lent numbering has n entries
whole : (c : Else-numbering-wide) → length c.args.numbering.now ≡ c.args.n
whole c = c.if-numbering-wide.false ∙ c.wide.ensures

pub number_as_given-requires : goal.number_as_given-requires
number_as_given-requires c = omega (arith, whole (goal.at.number_as_given-requires c).Else-numbering-wide, told c.in_ok-filled.ensures)

-- so it is the given one then
given : (c : After-number_as_given) → c.number_as_given.new.numbering ≡ given_numbering c.args.n
given c = c.number_as_given.ensures ∙ ap given_numbering (whole (goal.at.After-number_as_given c).Else-numbering-wide)

pub make_trials-slots-requires : goal.make_trials-slots-requires
make_trials-slots-requires c =
    let g = given (goal.at.make_trials-slots-requires c).After-number_as_given in
    record {
      numbering_value = (g, rw g (given-numbered c.in_ok-filled.ensures));
      lt_n = λ some. made_two _ _ (told c.in_ok-filled.ensures).0 (rw c.trials_made-made.ensures at some);
    }

-- what the trials leave has as many slots as the plan has labels
enough : (c : After-make_trials-slots) → (length c.args.plan.now ≤ 360000) × (length c.args.plan.now ≤ c.make_trials-slots.result)
enough c =
    let high = (told c.in_ok-filled.ensures).1 in
    let n = c.make_trials-slots.ensures.numbered in (
      omega (arith, plan-length _ _ n.stood.labels, mul-le-mul {n₂ = 600} {m₂ = 600} high high),
      omega (arith, slots_enough _ _ _ n.stood.labels n.stood.kept.numbers, n.slots-are),
    )

pub overflow_cast-result : goal.overflow_cast-result
overflow_cast-result c = omega (arith, enough (goal.at.overflow_cast-result c).After-make_trials-slots)

pub overflow_sub-result : goal.overflow_sub-result
overflow_sub-result c = omega (arith, enough (goal.at.overflow_sub-result c).After-make_trials-slots)

pub returns : goal.returns
returns c =
    let n = whole (goal.at.returns c).Else-numbering-wide in
    let t = c.make_trials-slots.ensures in
    let r = numbers-kept c.in_ok-filled.ensures c.args.trials c.args.numbering.now n c.trials_made-made.ensures t.numbering_after t.numbered t.work_unchanged refl in
    record { answer = r.0; work = r.1.0; numbering = r.1.1 }
