-- What a program of sweeps leaves: sweep by sweep, until no row moves, a refusal, or the last.
use Prim.Native.Nat.{ℕ, suc, ◌-◌, ◌*◌, ◌≤◌, ◌<◌}
use native.Mathlib.Omega.{arith}
use mathlib.Core.Path.{◌≡◌, refl, sym, ap, ap₂, subst, ◌∙◌}
use mathlib.Core.Bool.{Bool, true, false}
use mathlib.Core.List.{List, map}
use lib.ListN.{length, drop, replicate, length-map, length-replicate}
use lib.Seq.{take_all}
use lib.Ieee.{Float}
use borrow.Author.Tests.{eqb-true}
use Rattle.model.specs.Arith.{plus_zero, clean}
use Rattle.model.specs.Sweep.{Once, swept, ends, Sweeps, settled, unsettled, ended, sweeping, moved, loaded}
use Rattle.model.specs.Check.{word, chain, is_sweep}
use Rattle.model.specs.Run as Run
use Rattle.model.specs.Run.{Outcome, solution, unsettled_at, solves, stops, refuses, reply, started_on, once_more, only_x, swept_over}
use Rattle.model.proofs.Runs.{done_by}
use Rattle.std.specs.Prelude.{Result, Ok, Err}
use Rattle.state.specs.declared.State.{State}
use Rattle.state.specs.States.{whole, unmoved}
use Rattle.state.proofs.Tables.{no_entries}
use Rattle.runner.specs.declared.Stop.{Stop}
use Rattle.runner.specs.declared.Failure.TheVariants.{Stopped}
use Rattle.runner.specs.Outcome.{reply_of}
use Rattle.runner.specs.Following.{done, stands, Stood, Fit, holding, followed_of, Whole, BeginsWith, EndsWith}
use Rattle.runner.proofs.Turns.{SameLengths}
use Rattle.runner.proofs.Stood.{stopped-stood}

module _ (W : List ℕ) (A B : List Float) (limit : Float) where
  -- one sweep of the model, its moves, and how the sweeps end
  abbrev once_from : Run.State → Once Run.State Outcome
  once_from z = once_more (Run.follow A B limit z (chain W).links)

  abbrev moves : Run.State → Run.State → Bool
  moves z w = moved limit (word W 0) z.tables.x w.tables.x

  abbrev ending_of : Sweeps Run.State Outcome → Outcome
  ending_of (settled z k) = solution (only_x z.tables) z.products z.quotients z.vanished k
  ending_of (unsettled z) = unsettled_at (only_x z.tables)
  ending_of (ended e) = e

  abbrev sweeps_from : ℕ → ℕ → Run.State → Sweeps Run.State Outcome
  sweeps_from = sweeping once_from moves

  -- k sweeps are made, and led to z and x; those to come decide how the run ends
  pub record Sweeping (c y x : List Float) (z : State) (k : ℕ) : Type 0 where
    pub fit : Fit W (length A) (length B) (length c) (length y) (length x)
    pub method : is_sweep (word W 2) ≡ true
    pub made : Whole (length A) (length B) (length x) (k * 100000000) z
    pub still : z.moved ≡ false
    pub few : k ≤ 300
    pub leads : done W A B limit ≡ ending_of (sweeps_from (300 - k) k (holding true A B c y x z))

-- X is whole
whole-tables : {la lb most : ℕ} (A B c y x : List Float) (z : State) → Whole la lb (length x) most z → (holding true A B c y x z).tables.x ≡ x
whole-tables A B c y x z made =
    let none : length x - z.x ≡ 0 = omega (arith, made.in_x) in
    ap (λ i. drop i x) none

-- C and Y have no entries
no_c : {W : List ℕ} {la lb lc ly lx : ℕ} → Fit W la lb lc ly lx → is_sweep (word W 2) ≡ true → lc ≡ 0
no_c {W} fit method = fit.in_c ∙ eqb-true (word W 2) 0 method

no_y : {W : List ℕ} {la lb lc ly lx : ℕ} → Fit W la lb lc ly lx → is_sweep (word W 2) ≡ true → ly ≡ 0
no_y fit method = rw method at fit.in_y

module _ {W : List ℕ} {A B : List Float} {limit : Float} where
  -- before the first sweep
  pub sweeps_start : (c y x₀ x : List Float) (z : State) → Fit W (length A) (length B) (length c) (length y) (length x₀) → is_sweep (word W 2) ≡ true
      → x ≡ replicate (length x₀) plus_zero → z ≡ whole (length A) (length B) → Sweeping W A B limit c y x z 0
  unfolding done_by swept_over
  sweeps_start c y x₀ x z fit method cleared loads =
      let size : length x ≡ length x₀ = ap length cleared ∙ length-replicate (length x₀) plus_zero in
      let all-c = take_all (length A) (map clean A) (omega (arith, length-map A clean)) in
      let all-y = take_all (length B) (map clean B) (omega (arith, length-map B clean)) in
      let none : length x - length B ≡ 0 = omega (arith, fit.in_b, fit.in_x) in
      let first : holding true A B c y x z ≡ started_on (loaded (word W 0) (map clean A) B) =
      rw (loads, all-c, all-y, none)
      (ap₂ (λ n xs. started_on (record { order = n; c = map clean A; y = map clean B; x = xs }))
      (size ∙ fit.in_x) (cleared ∙ ap (λ n. replicate n plus_zero) fit.in_x)) in
      record {
        fit = record { checked = fit.checked; in_a = fit.in_a; in_b = fit.in_b; in_c = fit.in_c; in_y = fit.in_y; in_x = size ∙ fit.in_x };
        method = method;
        made = subst (Whole (length A) (length B) (length x) (0 * 100000000)) (sym loads)
            (record { named = refl; in_c = refl; in_y = refl; in_x = omega (arith, fit.in_b, fit.in_x); few = omega arith; gone = omega arith });
        still = ap (λ z. z.moved) loads;
        few = omega arith;
        leads = ap (done_by W A B limit) method ∙ ap (λ z. ending_of W A B limit (sweeps_from W A B limit 300 0 z)) (sym first);
      }

  module _ {c y x : List Float} {z : State} {k : ℕ} (s : Sweeping W A B limit c y x z k) where
    -- at the 300th the run ends by 27
    pub sweeps_end : k ≡ 300 → Stood (done W A B limit) (refuses 27 0) c y x
    unfolding sweeping reply stands
    sweeps_end e =
        let last : 300 - k ≡ 0 = omega arith in
        let end = s.leads ∙ ap (λ d. ending_of W A B limit (sweeps_from W A B limit d k (holding true A B c y x z))) last in
        subst (λ o. Stood o (refuses 27 0) c y x) (sym end)
        (refl, (no_entries c (no_c s.fit s.method), (no_entries y (no_y s.fit s.method), sym (whole-tables A B c y x z s.made))))

    -- else there is one more, and its start is what the records ask for
    pub sweep_begins : k < 300 → BeginsWith true (length A) (length B) (length x) z
    sweep_begins less =
        let m = s.made in
        (record { named = m.named; in_c = m.in_c; in_y = m.in_y; in_x = m.in_x; few = omega (arith, m.few); gone = m.gone }, s.still)

    -- where its chain led, with the tables c', y' and x'
    module _ (less : k < 300) {c' y' x' : List Float} (same : SameLengths c y x c' y' x') (r : Result State Stop)
        (led : followed_of true A B c' y' x' r ≡ Run.follow A B limit (holding true A B c y x z) (chain W).links)
        (end : EndsWith true limit (length A) (length B) x c' y' x' z r) where
      fit' : Fit W (length A) (length B) (length c') (length y') (length x')
      fit' = record {
        checked = s.fit.checked;
        in_a = s.fit.in_a;
        in_b = s.fit.in_b;
        in_c = same.of_c ∙ s.fit.in_c;
        in_y = same.of_y ∙ s.fit.in_y;
        in_x = same.of_x ∙ s.fit.in_x;
      }

      -- the end by the next sweep
      next : Run.Followed → Sweeps Run.State Outcome
      next f = elim (once_more f) as (λ o. Sweeps Run.State Outcome) [
        | ends e ↦ ended e
        | swept w ↦ elim (moves W A B limit (holding true A B c y x z) w) as (λ b. Sweeps Run.State Outcome) [
          | true ↦ sweeps_from W A B limit (300 - suc k) (suc k) w
          | false ↦ settled w (suc k)
        ]
      ]

      leads_on : done W A B limit ≡ ending_of W A B limit (next (followed_of true A B c' y' x' r))
      unfolding sweeping next
      leads_on =
          let more : 300 - k ≡ suc (300 - suc k) = omega arith in
          s.leads
          ∙ ap (λ d. ending_of W A B limit (sweeps_from W A B limit d k (holding true A B c y x z))) more
          ∙ ap (λ f. ending_of W A B limit (next f)) (sym led)

      -- by a fault
      pub sweep_stopped : (s : Stop) → r ≡ Err s → Stood (done W A B limit) (reply_of (Err (Stopped s))) c' y' x'
      unfolding next
      sweep_stopped s is =
          let stopped = leads_on ∙ ap (λ r. ending_of W A B limit (next (followed_of true A B c' y' x' r))) is in
          let named = subst (EndsWith true limit (length A) (length B) x c' y' x' z) is end in
          subst (λ o. Stood o (reply_of (Err (Stopped s))) c' y' x') (sym stopped) (stopped-stood s c' y' x' named)

      module _ (w : State) (is : r ≡ Ok w) where
        ends_so : EndsWith true limit (length A) (length B) x c' y' x' z (Ok w)
        ends_so = subst (EndsWith true limit (length A) (length B) x c' y' x' z) is end

        told : w.moved ≡ moves W A B limit (holding true A B c y x z) (holding true A B c' y' x' w)
        told =
            ends_so.1
            ∙ ap (λ n. moved limit n x x') fit'.in_x
            ∙ ap₂ (moved limit (word W 0)) (sym (whole-tables A B c y x z s.made)) (sym (whole-tables A B c' y' x' w ends_so.0))

        leads_by : {b : Bool} → w.moved ≡ b → done W A B limit ≡ ending_of W A B limit (elim b as (λ b. Sweeps Run.State Outcome) [
          | true ↦ sweeps_from W A B limit (300 - suc k) (suc k) (holding true A B c' y' x' w)
          | false ↦ settled (holding true A B c' y' x' w) (suc k)
        ])
        unfolding next
        leads_by e =
            leads_on
            ∙ ap (λ r. ending_of W A B limit (next (followed_of true A B c' y' x' r))) is
            ∙ ap (λ b. ending_of W A B limit (elim b as (λ b. Sweeps Run.State Outcome) [
              | true ↦ sweeps_from W A B limit (300 - suc k) (suc k) (holding true A B c' y' x' w)
              | false ↦ settled (holding true A B c' y' x' w) (suc k)
            ])) (sym told ∙ e)

        -- by a solution, where no row moved
        pub sweep_settles : w.moved ≡ false → Stood (done W A B limit) (solves w.products w.quotients w.vanished (suc k)) c' y' x'
        unfolding reply stands
        sweep_settles e =
            subst (λ o. Stood o (solves w.products w.quotients w.vanished (suc k)) c' y' x') (sym (leads_by e))
            (refl, (no_entries c' (no_c fit' s.method), (no_entries y' (no_y fit' s.method), sym (whole-tables A B c' y' x' w ends_so.0))))

        -- or with the next one
        pub sweep_again : w.moved ≡ true → Sweeping W A B limit c' y' x' (unmoved w) (suc k)
        sweep_again e =
            let m = ends_so.0 in
            record {
              fit = fit';
              method = s.method;
              made = record {
                named = m.named;
                in_c = m.in_c;
                in_y = m.in_y;
                in_x = m.in_x;
                few = omega (arith, m.few, s.made.few);
                gone = m.gone;
              };
              still = refl;
              few = less;
              leads = leads_by e;
            }
