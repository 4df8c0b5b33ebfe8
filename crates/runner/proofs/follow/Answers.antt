-- `runner::follow`: how the run starts, goes on after a step, stops at it, and ends.
use Prim.Native.Nat.{◌+◌}
use native.Mathlib.Omega.{arith}
use mathlib.Core.Path.{sym, subst, ◌∙◌}
use Rattle.model.proofs.Passing.{fine-passed}
use Rattle.runner.proofs.Turns.{NextRuns, starts, ended, fits, ready, turned, stopped-at, gets_on}
use Rattle.runner.proofs.follow.Goals as goal

pub bounds-words-3 : goal.bounds-words-3
bounds-words-3 g c = omega (arith, fine-passed c.args.given.words.now c.requires.fit.checked)

pub loop-next-init : goal.loop-next-init
loop-next-init g c = record {
  last = 0;
  is = sym c.wide-next.ensures;
  ran = starts g.M.Method.sweeps c.requires.fit c.requires.words_value c.requires.begins_with;
}

pub loop-after-init : goal.loop-after-init
loop-after-init g c =
    let runs = c.loop-next.invariant in
    record {
      runs = runs;
      some = c.loop-next-test.true;
      from = omega arith;
      inside = fits runs c.loop-next-test.true;
      few = (fine-passed c.args.given.words.now runs.ran.fit.checked).few;
    }

pub step-requires : goal.step-requires
step-requires g c = ready c.loop-after.invariant.runs c.loop-after.invariant.some

pub returns-in-Err : goal.returns-in-Err
returns-in-Err g c =
    let i = c.loop-after.invariant in
    let e = c.step.ensures in
    let kept = c.step.auto in
    let end = stopped-at i.runs i.some (record { of_c = kept.c; of_y = kept.y; of_x = kept.x }) e.result_after e.sound_step e.moves_by c.in-Err.is in
    rw c.stop_at.ensures (record { result_after = end.0; ends_with = end.1 })

pub loop-next-smaller : goal.loop-next-smaller
loop-next-smaller g c =
    let i = c.loop-after.invariant in
    let e = c.step.ensures in
    let kept = c.step.auto in
    let ran = turned i.runs i.some (record { of_c = kept.c; of_y = kept.y; of_x = kept.x }) e.result_after e.sound_step e.moves_by c.in-Ok.is in
    gets_on c.loop-next-test.true i.from i.inside ran (sym c.wide-next-in-loop-after.ensures)

pub loop-next-preserved : goal.loop-next-preserved
loop-next-preserved g c =
    let i = c.loop-after.invariant in
    let e = c.step.ensures in
    let kept = c.step.auto in
    record {
      last = c.loop-after.k;
      is = sym c.wide-next-in-loop-after.ensures;
      ran = turned i.runs i.some (record { of_c = kept.c; of_y = kept.y; of_x = kept.x }) e.result_after e.sound_step e.moves_by c.in-Ok.is;
    }

pub loop-after-preserved : goal.loop-after-preserved
loop-after-preserved g c =
    let i = c.loop-after.invariant in
    let e = c.step.ensures in
    let kept = c.step.auto in
    let a = c.args in
    let runs : NextRuns a.given.words.now a.given.a.now a.given.b.now a.given.limit g.M.Method.sweeps a.z a.c.now a.y.now a.x.now
    c.step.new.c c.step.new.y c.step.new.x c.in-Ok.after (c.loop-after.k + 1) =
    record {
      last = c.loop-after.k;
      is = sym c.wide-next-in-loop-after.ensures ∙ c.if-next-following.false;
      ran = turned i.runs i.some (record { of_c = kept.c; of_y = kept.y; of_x = kept.x }) e.result_after e.sound_step e.moves_by c.in-Ok.is;
    } in
    record {
      runs = runs;
      some = λ e. omega arith;
      from = omega (arith, i.from);
      inside = fits runs (λ e. omega arith);
      few = i.few;
    }

pub returns : goal.returns
returns g c =
    let a = c.args in
    let l = c.loop-next in
    let end = ended (subst (NextRuns a.given.words.now a.given.a.now a.given.b.now a.given.limit g.M.Method.sweeps a.z a.c.now a.y.now a.x.now l.c l.y l.x l.z)
    c.loop-next-test.false l.invariant) in
    record { result_after = end.0; ends_with = end.1 }
