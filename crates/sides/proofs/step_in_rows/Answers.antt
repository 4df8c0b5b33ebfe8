-- `sides::step_in_rows`: each kind is the step of each right side's own run.
use native.Mathlib.Omega.{arith}
use mathlib.Core.Path.{◌≡◌, ap}
use Rattle.model.specs.Check.{closes, kind_of}
use Rattle.sides.proofs.Rows.{allowed_in_rows, laid_b, laid_y, laid_x, few-gone, closes-left, close_ready}
use Rattle.sides.proofs.Rows.{starts_y, starts_x, subtracts-y, subtracts-x, divides-each, closes-each}
use Rattle.sides.proofs.step_in_rows.Goals as goal

pub overflow_sub-wide : goal.overflow_sub-wide
unfolding kind_of
overflow_sub-wide c =
    let of = allowed_in_rows c.requires (ap kind_of c.in-2.is) in
    omega arith

pub start_each-requires : goal.start_each-requires
unfolding kind_of
start_each-requires c =
    record {
      count_bound = ((c.requires.sides 0).room.few, (c.requires.sides 0).room.in_running);
      laid = laid_b c.requires (ap kind_of c.in-2.is) c.wide.ensures;
    }

pub overflow_sub-wide-in-3 : goal.overflow_sub-wide-in-3
unfolding kind_of
overflow_sub-wide-in-3 c =
    let of = allowed_in_rows c.requires (ap kind_of c.in-3.is) in
    omega arith

pub start_each-requires-in-3 : goal.start_each-requires-in-3
unfolding kind_of
start_each-requires-in-3 c =
    record {
      count_bound = ((c.requires.sides 0).room.few, (c.requires.sides 0).room.in_running);
      laid = laid_y c.requires c.args.p (allowed_in_rows c.requires (ap kind_of c.in-3.is)) c.wide-in-3.ensures;
    }

pub entry-requires : goal.entry-requires
unfolding kind_of
entry-requires c =
    let of = allowed_in_rows c.requires (ap kind_of c.in-5.is) in
    omega (arith, (c.requires.sides 0).ready.sound)

pub overflow_sub-wide-in-5 : goal.overflow_sub-wide-in-5
unfolding kind_of
overflow_sub-wide-in-5 c =
    let of = allowed_in_rows c.requires (ap kind_of c.in-5.is) in
    omega arith

pub subtract_each-requires : goal.subtract_each-requires
unfolding kind_of
subtract_each-requires c =
    record {
      room = (c.requires.sides 0).room;
      laid = laid_y c.requires c.args.q (allowed_in_rows c.requires (ap kind_of c.in-5.is)).1 c.wide-in-5.ensures;
      few_gone = few-gone c.requires;
    }

pub overflow_add-z : goal.overflow_add-z
overflow_add-z c = omega (arith, (c.requires.sides 0).ready.few)

pub entry-requires-in-6 : goal.entry-requires-in-6
unfolding kind_of
entry-requires-in-6 c =
    let of = allowed_in_rows c.requires (ap kind_of c.in-6.is) in
    omega (arith, (c.requires.sides 0).ready.sound)

pub overflow_sub-wide-in-6 : goal.overflow_sub-wide-in-6
unfolding kind_of
overflow_sub-wide-in-6 c =
    let of = allowed_in_rows c.requires (ap kind_of c.in-6.is) in
    omega arith

pub subtract_each-requires-in-6 : goal.subtract_each-requires-in-6
unfolding kind_of
subtract_each-requires-in-6 c =
    record {
      room = (c.requires.sides 0).room;
      laid = laid_x c.requires (ap kind_of c.in-6.is) c.wide-in-6.ensures;
      few_gone = few-gone c.requires;
    }

pub overflow_add-z-in-6 : goal.overflow_add-z-in-6
overflow_add-z-in-6 c = omega (arith, (c.requires.sides 0).ready.few)

pub entry-requires-in-7 : goal.entry-requires-in-7
unfolding kind_of
entry-requires-in-7 c =
    let of = allowed_in_rows c.requires (ap kind_of c.in-7.is) in
    omega (arith, (c.requires.sides 0).ready.sound)

pub divide_each-requires : goal.divide_each-requires
divide_each-requires c = (c.requires.sides 0).room

pub overflow_add-z-in-7 : goal.overflow_add-z-in-7
overflow_add-z-in-7 c = omega (arith, (c.requires.sides 0).ready.few)

pub close_in_rows-z-requires : goal.close_in_rows-z-requires
close_in_rows-z-requires c =
    let e : kind_of c.args.kind ≡ closes =
    closes-left c.requires (λ e. omega arith) (λ e. omega arith) (λ e. omega arith) (λ e. omega arith) (λ e. omega arith) in
    close_ready c.requires e

pub returns-in-2 : goal.returns-in-2
unfolding kind_of
returns-in-2 c =
    let a = c.args in
    let gives = starts_y a.b.now a.c.now a.y.now a.x.now a.running.now a.k c.requires _ c.start_each.new.running (ap kind_of c.in-2.is) c.wide.ensures c.start_each.ensures in
    record { steps_in_rows = gives.0; sound = gives.1 }

pub returns-in-3 : goal.returns-in-3
unfolding kind_of
returns-in-3 c =
    let a = c.args in
    let gives = starts_x a.b.now a.c.now a.y.now a.x.now a.running.now a.k c.requires _ c.start_each-in-3.new.running (ap kind_of c.in-3.is) c.wide-in-3.ensures c.start_each-in-3.ensures in
    record { steps_in_rows = gives.0; sound = gives.1 }

pub returns-in-5 : goal.returns-in-5
unfolding kind_of
returns-in-5 c =
    let a = c.args in
    let gives = subtracts-y a.b.now a.c.now a.y.now a.x.now a.running.now a.k c.requires _ _ (ap kind_of c.in-5.is) c.wide-in-5.ensures c.entry.ensures c.subtract_each.ensures in
    record { steps_in_rows = gives.0; sound = gives.1 }

pub returns-in-6 : goal.returns-in-6
unfolding kind_of
returns-in-6 c =
    let a = c.args in
    let gives = subtracts-x a.b.now a.c.now a.y.now a.x.now a.running.now a.k c.requires _ _ (ap kind_of c.in-6.is) c.wide-in-6.ensures c.entry-in-6.ensures c.subtract_each-in-6.ensures in
    record { steps_in_rows = gives.0; sound = gives.1 }

pub returns-in-7 : goal.returns-in-7
unfolding kind_of
returns-in-7 c =
    let a = c.args in
    let gives = divides-each a.b.now a.c.now a.y.now a.x.now a.running.now a.k c.requires _ (ap kind_of c.in-7.is) c.entry-in-7.ensures c.divide_each.ensures in
    record { steps_in_rows = gives.0; sound = gives.1 }

pub returns-in_default : goal.returns-in_default
returns-in_default c =
    let e : kind_of c.args.kind ≡ closes =
    closes-left c.requires (λ e. omega arith) (λ e. omega arith) (λ e. omega arith) (λ e. omega arith) (λ e. omega arith) in
    let a = c.args in
    let gives = closes-each a.b.now a.c.now a.y.now a.x.now a.running.now a.k c.requires _ _ _ e c.close_in_rows-z.ensures.closes_in_rows c.close_in_rows-z.ensures.sound_after in
    record { steps_in_rows = gives.0; sound = gives.1 }
