-- What the records of a program leave where it is followed once: a solution's tables, or a refusal.
use Prim.Native.Nat.{ℕ, ◌-◌}
use native.Mathlib.Omega.{arith}
use mathlib.Core.Path.{◌≡◌, refl, sym, ap, subst, ◌∙◌}
use mathlib.Core.Bool.{false}
use mathlib.Core.List.{List}
use lib.ListN.{length}
use lib.Seq.{take_all}
use lib.Ieee.{Float}
use Rattle.model.specs.Formula.{number_of}
use Rattle.model.specs.Check.{word, chain, is_sweep}
use Rattle.model.specs.Run as Run
use Rattle.model.specs.Run.{solves, stops, reply}
use Rattle.model.proofs.Runs.{done_by}
use Rattle.std.specs.Prelude.{Result, Ok, Err}
use Rattle.state.specs.declared.State.{State}
use Rattle.state.specs.States.{number_of_fault, table_of, unopened}
use Rattle.runner.specs.declared.Stop.{Stop}
use Rattle.runner.specs.declared.Failure.TheVariants.{Stopped}
use Rattle.runner.specs.Outcome.{reply_of}
use Rattle.runner.specs.Following.{done, stands, Stood, holding, followed_of, EndsWith}
use Rattle.runner.proofs.Turns.{fresh_state}

-- a fault's table is named by its number
pub stopped-stood : (s : Stop) (c y x : List Float) → number_of (table_of s.table) ≡ s.table
    → Stood (Run.stopped (number_of_fault s.fault) s.record (table_of s.table) s.target) (reply_of (Err (Stopped s))) c y x
unfolding reply stands
stopped-stood s c y x named = (ap (λ t. stops (number_of_fault s.fault) s.record t s.target) (sym named), (refl, (refl, refl)))

module _ (W : List ℕ) (A B : List Float) (limit : Float) (c₀ y₀ x₀ c y x : List Float) (method : is_sweep (word W 2) ≡ false) (rows : length x₀ ≡ word W 0)
    (z₀ : State) (fresh : z₀ ≡ unopened) (r : Result State Stop)
    (led : followed_of false A B c y x r ≡ Run.follow A B limit (holding false A B c₀ y₀ x₀ z₀) (chain W).links)
    (end : EndsWith false limit (length A) (length B) x₀ c y x z₀ r) where
  -- a Crout program's run is its records once
  done-once : Run.followed (followed_of false A B c y x r) ≡ done W A B limit
  unfolding done_by
  done-once =
      let first = ap (holding false A B c₀ y₀ x₀) fresh ∙ fresh_state c₀ y₀ x₀ ∙ ap Run.fresh rows in
      ap Run.followed (led ∙ ap (λ z. Run.follow A B limit z (chain W).links) first) ∙ ap (done_by W A B limit) (sym method)

  -- past the last record all entries are closed
  pub once-solved : (z : State) → r ≡ Ok z → Stood (done W A B limit) (solves z.products z.quotients z.vanished 0) c y x
  unfolding reply stands Run.followed
  once-solved z is =
      let closed = subst (EndsWith false limit (length A) (length B) x₀ c y x z₀) is end in
      let none : length x - z.x ≡ 0 = omega (arith, closed.2) in
      subst (λ o. Stood o (solves z.products z.quotients z.vanished 0) c y x)
      (ap (λ r. Run.followed (followed_of false A B c y x r)) (sym is) ∙ done-once)
      (refl, (sym (take_all z.c c (omega (arith, closed.0))), (sym (take_all z.y y (omega (arith, closed.1))), rw none refl)))

  pub once-stopped : (s : Stop) → r ≡ Err s → Stood (done W A B limit) (reply_of (Err (Stopped s))) c y x
  unfolding Run.followed
  once-stopped s is =
      let named = subst (EndsWith false limit (length A) (length B) x₀ c y x z₀) is end in
      subst (λ o. Stood o (reply_of (Err (Stopped s))) c y x) (ap (λ r. Run.followed (followed_of false A B c y x r)) (sym is) ∙ done-once)
      (stopped-stood s c y x named)
