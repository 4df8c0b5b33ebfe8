-- `residual::less_products`: the next label stands in a batch past none before, and its product is taken.
use native.Mathlib.Omega.{arith}
use mathlib.Core.Path.{◌≡◌, ◌∙◌}
use Prim.Native.Nat.{ℕ, suc, ◌<◌}
use borrow.Author.Rules.{rules}
use lib.ListN.{length, length-append, get_or}
use mathlib.Core.List.{[], ◌∷◌, ◌++◌}
use lib.Ieee.{Float, nan}
use Rattle.std.proofs.lemmas.Slice.Zip.{zip_turn, zip_end}
use Rattle.model.proofs.Within.{within-range}
use Rattle.model.proofs.Plans.{label_inside}
use Rattle.labels.proofs.Seeking.{first-batch, reaches-later}
use Rattle.residual.proofs.Labelled.{less-start, less-onward, less-end}
use Rattle.residual.proofs.less_products.Goals as goal
use Rattle.residual.proofs.less_products.Goals.{In-Some, In-None}

pub loop-label-init : goal.loop-label-init
loop-label-init c =
    let a = c.args in
    let n = c.requires.n_value in
    record {
      taken = λ B h. less-start a.plan.now a.a.now B a.x.now h;
      long = c.requires.finite_2.2;
      none_past = λ j low high. first-batch _ _ (within-range _ 600 n.0).0 (label_inside _ _ j n.1 high).0;
    }

-- where a turn's label and coefficient stand
here : (c : In-Some) → let k = length c.loop-label.yielded in let plan = c.args.plan.now in let a = c.args.a.now in (k < length plan) × (k < length a)
    × ((d : ℕ) → c.in-Some.field-0-0.now ≡ get_or plan k d) × ((d : Float) → c.in-Some.field-0-1.now ≡ get_or a k d)
here c =
    zip_turn c.args.plan.now c.args.a.now c.loop-label.yielded c.into_iter-label-iterator.result c.loop-label.label-iterator c.next.new.self c.next.result
    (search rules) (search rules) c.loop-label.yielded_by (c.in-Some.field-0-0, c.in-Some.field-0-1) c.in-Some.is c.next.ensures.steps

-- and how many there were
all : (c : In-None) → length c.loop-label.yielded ≡ length c.args.plan.now
all c =
    let k = zip_end c.args.plan.now c.args.a.now c.loop-label.yielded c.into_iter-label-iterator.result c.loop-label.label-iterator c.next.new.self
    c.next.result (search rules) (search rules) c.loop-label.yielded_by c.in-None.is c.next.ensures.steps in
    omega (arith, k, c.requires.finite.1)

pub batch_of-batch-requires : goal.batch_of-batch-requires
batch_of-batch-requires c =
    let n = c.requires.n_value in
    let h = here (goal.at.batch_of-batch-requires c).In-Some in
    rw (h.2 0) (((within-range _ 600 n.0).1, (label_inside _ _ _ n.1 h.0).1), c.loop-label.invariant.none_past _ (omega arith) h.0)

pub loop-label-preserved : goal.loop-label-preserved
loop-label-preserved c =
    let a = c.args in
    let k = length c.loop-label.yielded in
    let i = c.loop-label.invariant in
    let h = here (goal.at.loop-label-preserved c).In-Some in
    let more : length (c.loop-label.yielded ++ (c.in-Some.field-0-0, c.in-Some.field-0-1) ∷ []) ≡ suc k = simp length-append (omega arith) in
    rw more (record {
      taken = λ B w. less-onward a.plan.now a.a.now B a.x.now k c.requires.finite.1 h.0 (rw (h.2 0, h.3 nan) at (c.less_label.ensures _ (i.taken B w)));
      long = c.less_label.auto.words ∙ i.long;
      none_past = λ j low high. reaches-later _ _ k j c.requires.n_value.1 (omega arith) high (rw (h.2 0) at c.batch_of-batch.ensures);
    })

pub returns : goal.returns
returns c =
    let a = c.args in
    λ B h. less-end a.plan.now a.a.now B a.x.now (length c.loop-label.yielded) c.requires.finite.1 (omega (arith, all c)) (c.loop-label.invariant.taken B h)
