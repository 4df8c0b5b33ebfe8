-- How a run ends: 7 to 15 and 21 before the records, and what the records leave.
use Prim.Native.Nat.{ℕ}
use mathlib.Core.Path.{◌≡◌, refl, sym, ap, ap₂, subst, ◌∙◌}
use mathlib.Core.Bool.{Bool, true, false}
use mathlib.Core.List.{List}
use lib.Dec.{eqb}
use lib.ListN.{length, replicate}
use lib.Ieee.{Float}
use borrow.Author.Tests.{eqb-true}
use Rattle.model.specs.Arith.{plus_zero}
use Rattle.model.specs.Formula.{C, Y, X}
use Rattle.model.specs.Check.{word, length_y, Verdict, fine, refusal, check}
use Rattle.model.specs.Run.{Outcome, solution, stopped, refused_by, unsettled_at, check_values, ran}
use Rattle.model.specs.Run.{Reply, solves, stops, refuses, reply, leaves}
use Rattle.model.proofs.Passing.{both}
use Rattle.model.proofs.Runs.{gated, lengths_right, ran_by, ran_is, ran-fine}
use Rattle.model.proofs.Running.{NotRefused}
use Rattle.runner.specs.Following.{done, stands, Stood, lengths_fit, Fit}

-- what a run that ends by o tells and leaves in tables that held c, y and x
abbrev pub Leaves : Outcome → Reply → List Float → List Float → List Float → List Float → List Float → List Float → Type 0
Leaves o r c y x c' y' x' = (r ≡ reply o) × ((c' ≡ leaves o C c) × ((y' ≡ leaves o Y y) × (x' ≡ leaves o X x)))

leaves-refused : (o : Outcome) (r d : ℕ) (c y x : List Float) → o ≡ refused_by r d → Leaves o (refuses r d) c y x c y x
unfolding reply leaves
leaves-refused o r d c y x e = rw e (refl, (refl, (refl, refl)))

-- the reply to a refusal by 16 or 17
abbrev pub StoppedReply : Reply → Type 0
StoppedReply (solves p q g k) = ⊥
StoppedReply (stops r k t n) = Unit {0}
StoppedReply (refuses r d) = ⊥

-- What the records leave in c₁, y₁ and x₁ is cleared after one, and is final else.
module _ (c y x c₁ y₁ x₁ : List Float) where
  pub leaves_final : (o : Outcome) (r : Reply) → (StoppedReply r → ⊥) → NotRefused o → Stood o r c₁ y₁ x₁ → Leaves o r c y x c₁ y₁ x₁
  unfolding reply leaves stands
  leaves_final (solution t p q g k) r is runs stood = stood
  leaves_final (unsettled_at t) r is runs stood = stood
  leaves_final (stopped n k u m) r is runs stood = absurd (is (subst StoppedReply (sym stood.0) tt))
  leaves_final (refused_by _ _) r is runs stood = elim runs [ ]

  pub leaves-cleared : (o : Outcome) (r : Reply) → StoppedReply r → r ≡ reply o → length c₁ ≡ length c → length y₁ ≡ length y → length x₁ ≡ length x
      → Leaves o r c y x (replicate (length c₁) plus_zero) (replicate (length y₁) plus_zero) (replicate (length x₁) plus_zero)
  unfolding reply leaves
  leaves-cleared (solution t p q g k) r is e lc ly lx = absurd (subst StoppedReply e is)
  leaves-cleared (unsettled_at t) r is e lc ly lx = absurd (subst StoppedReply e is)
  leaves-cleared (refused_by n d) r is e lc ly lx = absurd (subst StoppedReply e is)
  leaves-cleared (stopped n k u m) r is e lc ly lx = rw (lc, ly, lx) (e, (refl, (refl, refl)))

module _ (W : List ℕ) (A B c y x : List Float) where
  abbrev Fits : Bool
  Fits = lengths_fit W (length A) (length B) (length c) (length y) (length x)

  -- where 14 passes, the lengths are those that the records rely on
  pub fit_true : check W ≡ fine → Fits ≡ true → Fit W (length A) (length B) (length c) (length y) (length x)
  unfolding lengths_right
  fit_true e f =
      let a = both (eqb (length A) (word W 1)) _ f in
      let b = both (eqb (length B) (word W 0)) _ a.1 in
      let s = both (eqb (length c) (word W 2)) _ b.1 in
      let n = both (eqb (length y) (length_y (word W 0) (word W 2))) (eqb (length x) (word W 0)) s.1 in
      record {
        checked = e;
        in_a = eqb-true (length A) (word W 1) a.0;
        in_b = eqb-true (length B) (word W 0) b.0;
        in_c = eqb-true (length c) (word W 2) s.0;
        in_y = eqb-true (length y) (length_y (word W 0) (word W 2)) n.0;
        in_x = eqb-true (length x) (word W 0) n.1;
      }

  module _ (limit : Float) where
    abbrev Run : Outcome
    Run = ran W A B limit (length c) (length y) (length x)

    run_gated : {fit : Bool} {v : Verdict} → check W ≡ fine → Fits ≡ fit → check_values A B limit ≡ v
        → Run ≡ gated (refused_by 14 0) refused_by fit v (done W A B limit)
    run_gated e f v =
        ran-fine W A B limit (length c) (length y) (length x) e
        ∙ ap₂ (λ fit v. gated (refused_by 14 0) refused_by fit v (done W A B limit)) f v

    pub leaves-checked : (r d : ℕ) → check W ≡ refusal r d → Leaves Run (refuses r d) c y x c y x
    unfolding ran_by
    leaves-checked r d e =
        leaves-refused Run r d c y x (ran_is W A B limit (length c) (length y) (length x) ∙ ap (ran_by W A B limit (length c) (length y) (length x)) e)

    pub leaves_14 : check W ≡ fine → Fits ≡ false → Leaves Run (refuses 14 0) c y x c y x
    unfolding gated
    leaves_14 e f = leaves-refused Run 14 0 c y x (run_gated e f refl)

    -- 15 and 21
    pub leaves_values : check W ≡ fine → Fits ≡ true → (r d : ℕ) → check_values A B limit ≡ refusal r d → Leaves Run (refuses r d) c y x c y x
    unfolding gated
    leaves_values e f r d v = leaves-refused Run r d c y x (run_gated e f v)

    -- 7 to 15 and 21 passed
    pub leaves-records : check W ≡ fine → Fits ≡ true → check_values A B limit ≡ fine → (r : Reply) (c' y' x' : List Float)
        → Leaves (done W A B limit) r c y x c' y' x' → Leaves Run r c y x c' y' x'
    unfolding gated
    leaves-records e f v r c' y' x' l = subst (λ o. Leaves o r c y x c' y' x') (sym (run_gated e f v)) l
