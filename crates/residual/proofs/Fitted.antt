-- What holds of the slices of a call that nothing refuses.
use Prim.Native.Nat.{ℕ, ◌*◌}
use mathlib.Core.Path.{◌≡◌}
use mathlib.Core.Bool.{true, ◌&&◌, and-eq-true_iff}
use mathlib.Core.List.{List}
use borrow.Author.Tests.{eqb-true}
use lib.Dec.{eqb}
use lib.ListN.{length}
use lib.Ieee.{Float}
use Rattle.model.specs.Label.{is_order}
use Rattle.model.specs.Fill.{Plan}
use Rattle.model.specs.Compile.{judged, good}
use Rattle.model.proofs.Compiles.{orderly-good}
use Rattle.model.proofs.Measuring.{Measurable}
use Rattle.residual.specs.Subtracted.{Finite}
use Rattle.residual.proofs.Labelled.{all_finite}

pub record Fitted (N : ℕ) (L : Plan) (A B X : List Float) (words : ℕ) : Type 0 where
  pub order : is_order N ≡ true
  pub labels : judged N 0 1 L ≡ good
  pub coefficients : length A ≡ length L
  pub rows : length B ≡ N
  pub columns : length X ≡ N
  pub finite-a : Finite A
  pub finite-b : Finite B
  pub finite_x : Finite X
  pub long : words ≡ 66 * N

pub measurable_fitted : {N : ℕ} {L : Plan} {A B X : List Float} {words : ℕ} → Measurable N L A B X words → Fitted N L A B X words
measurable_fitted {N} {L} {A} {B} {X} m =
    let told = orderly-good 0 N L 0 m.orders in
    let both = (and-eq-true_iff (eqb (length A) (length L)) (eqb (length B) N && eqb (length X) N)).0 m.fits in
    let rest = (and-eq-true_iff (eqb (length B) N) (eqb (length X) N)).0 both.1 in
    record {
      order = told.0;
      labels = told.1.0;
      coefficients = eqb-true _ _ both.0;
      rows = eqb-true _ _ rest.0;
      columns = eqb-true _ _ rest.1;
      finite-a = all_finite 0 A m.in_a;
      finite-b = all_finite 0 B m.in_b;
      finite_x = all_finite 0 X m.in_x;
      long = m.long;
    }
