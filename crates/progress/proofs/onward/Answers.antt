-- `progress::onward` is the progress after a record.
use mathlib.Core.Path.{sym, ap, ◌∙◌}
use native.Mathlib.Omega.{arith}
use Rattle.model.specs.Check.{kind_of, onward}
use Rattle.progress.specs.Steps.{progress_of}
use Rattle.progress.proofs.Judging.{opens-x, onward-closes, onward-same}
use Rattle.progress.proofs.onward.Goals as goal

pub returns-in-1 : goal.returns-in-1
unfolding kind_of
returns-in-1 c =
    let a = c.args in
    c.«open».ensures ∙ ap (λ k. onward (kind_of k) a.r.p a.r.q (progress_of a.g.now)) (sym c.in-1.is)

pub returns-in-2 : goal.returns-in-2
unfolding kind_of
returns-in-2 c =
    let a = c.args in
    c.open-in-2.ensures ∙ ap (λ k. onward (kind_of k) a.r.p a.r.q (progress_of a.g.now)) (sym c.in-2.is)

pub returns-in-3 : goal.returns-in-3
returns-in-3 c =
    let a = c.args in
    c.open-in-3.ensures ∙ ap (λ k. onward k a.r.p a.r.q (progress_of a.g.now)) (opens-x a.r.kind c.in-3.is)

pub returns-in-8 : goal.returns-in-8
returns-in-8 c =
    let a = c.args in
    c.close.ensures ∙ onward-closes a.r.kind a.r.p a.r.q (progress_of a.g.now) (omega arith) (omega arith)

pub returns-then-r-lt8 : goal.returns-then-r-lt8
returns-then-r-lt8 c =
    let a = c.args in
    onward-same a.r.kind a.r.p a.r.q (progress_of a.g.now) (λ e. grind arith) (λ e. grind arith) (λ e. grind arith) (λ e. grind arith) (λ e. grind arith) (λ e. grind arith)

pub returns-else-r-lt10 : goal.returns-else-r-lt10
returns-else-r-lt10 c =
    let a = c.args in
    onward-same a.r.kind a.r.p a.r.q (progress_of a.g.now) (λ e. grind arith) (λ e. grind arith) (λ e. grind arith) (λ e. grind arith) (λ e. grind arith) (λ e. grind arith)
