-- Demand 3 on the definitions: the run of the compiled program is dense Crout, seen through the compression.
use Prim.Native.Nat.{ℕ, ◌+◌, ◌≤◌}
use mathlib.Core.Path.{◌≡◌, refl, sym, ap, ◌∙◌}
use mathlib.Core.List.{List}
use native.Mathlib.Omega.{arith}
use lib.ListN.{length}
use lib.Ieee.{Float}
use Rattle.model.specs.Fill.{Plan, slots, product_count, above}
use Rattle.model.specs.Formula.{C, Y, X, Ended, solved, refused}
use Rattle.model.specs.Crout.{reduced_formulas, dense}
use Rattle.model.specs.Program.{compiled, compiled_records}
use Rattle.model.specs.Check.{fine, check, chain, word, is_sweep}
use Rattle.model.specs.Run.{fresh, follow, followed, ran}
use Rattle.model.specs.Agreement.{Accepted, whole, seen, compressed, Agrees}
use Rattle.model.proofs.Within.{within-range}
use Rattle.model.proofs.Runs.{done_by, runs_open, finite_fine, lengths-right}
use Rattle.model.proofs.Tally.{products_of, quotients_of}
use Rattle.model.proofs.Machine.{machine, reduced_started, shown}
use Rattle.model.proofs.Reduction.{squeezed, reduced_is_dense, solved-packed}
use Rattle.model.proofs.Counts.{products-counted, quotients-counted}
use Rattle.model.proofs.Chain.{program-chain}
use Rattle.model.proofs.Checked.{slots-some, program-fine}

module _ {N : ℕ} {L : Plan} {A B : List Float} {limit : Float} (accepted : Accepted N L A B limit) where
  open accepted use {given, pivots}

  -- the checks before the first record let the run of a program that passes, with the plan's N, n and s, through
  pub runs_as : (W : List ℕ) → word W 0 ≡ N → word W 1 ≡ length L → word W 2 ≡ slots N L → check W ≡ fine
      → ran W A B limit (slots N L) N N ≡ followed (follow A B limit (fresh N) (chain W).links)
  unfolding done_by
  runs_as W order labels are passes =
      let crout = ap is_sweep are ∙ slots-some N L given.order pivots in
      runs_open W A B limit (slots N L) N N passes
      (lengths-right _ _ _ _ _ _ _ _ (given.length_a ∙ sym labels) (given.length_b ∙ sym order) (sym are) (rw (crout, order)) (sym order))
      (finite_fine A B limit (record { finite_a = given.finite_a; finite_b = given.finite_b; limited = given.limited }))
      ∙ ap (done_by W A B limit) crout ∙ ap (λ m. followed (follow A B limit (fresh m) (chain W).links)) order

  -- so that of the compiled one
  pub runs : ran (compiled N L) A B limit (slots N L) N N ≡ followed (follow A B limit (fresh N) (chain (compiled N L)).links)
  unfolding compiled
  runs = runs_as (compiled N L) refl refl refl (program-fine N L given.order given.labels pivots)

  -- the run's ending is that of the reduced formulas, with the plan's counts
  follows : seen (ran (compiled N L) A B limit (slots N L) N N) ≡ shown (product_count N L) (N + above N L) (squeezed N L (dense N L A B limit))
  unfolding compiled_records dense
  follows =
      let first : 1 ≤ N = (within-range N 600 given.order).0 in
      let products : 0 + products_of (reduced_formulas N L) ≡ product_count N L = omega (arith, products-counted N L) in
      let quotients : 0 + quotients_of (reduced_formulas N L) ≡ N + above N L = omega (arith, quotients-counted N L pivots) in
      ap seen runs ∙ ap (λ c. seen (followed (follow A B limit (fresh N) c.links))) (program-chain N L first)
      ∙ machine A B limit (reduced_formulas N L) (reduced_started N L) (fresh N) 1 ∙ rw (products, quotients, reduced_is_dense accepted)

  shows : (e : Ended) → dense N L A B limit ≡ e → shown (product_count N L) (N + above N L) (squeezed N L e) ≡ compressed N L e
  unfolding shown squeezed compressed
  shows (solved t g) e = ap (λ u. whole u (product_count N L) (N + above N L) g 0) (solved-packed given t g e)
  shows (refused r C k) e = refl
  shows (refused r Y k) e = refl
  shows (refused r X k) e = refl

-- The headline.
pub agreement : (N : ℕ) (L : Plan) (A B : List Float) (limit : Float) → Agrees N L A B limit
agreement N L A B limit accepted = follows accepted ∙ shows accepted (dense N L A B limit) refl
