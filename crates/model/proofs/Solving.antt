-- Compiling and running is solving: what `solve` does, by dense Crout alone.
use Prim.Native.Nat.{ℕ, ◌*◌, ◌≤◌}
use mathlib.Core.Path.{◌≡◌, refl, sym, ap, ap₂, ◌∙◌}
use mathlib.Core.Bool.{Bool, true, ◌&&◌}
use mathlib.Core.List.{List, ◌++◌}
use native.Mathlib.Omega.{arith}
use lib.Dec.{eqb}
use lib.ListN.{length, take, drop, length-append}
use lib.Seq.{take_at}
use lib.Ieee.{Float}
use Rattle.model.specs.Fill.{Plan, slots}
use Rattle.model.specs.Formula.{Table, C, Y, X}
use Rattle.model.specs.Crout.{dense}
use Rattle.model.specs.Compile.{Compiled, written, refusal, plain, compiles, words_after_by, words_after}
use Rattle.model.specs.Program.{compiled}
use Rattle.model.specs.Check.{fine}
use Rattle.model.specs.Run.{Outcome, solution, stopped, refused_by, unsettled_at, check_values, ran, Reply, refuses, reply, leaves}
use Rattle.model.specs.Agreement.{Values, Accepted, Seen, early, seen, compressed}
use Rattle.model.specs.Solve.{solving, told, tells_of, replied, left_in}
use Rattle.model.proofs.Compiles.{compiles_success}
use Rattle.model.proofs.Runs.{gated, gated_same, gated_map, fine_finite, lengths_right, right_lengths, done_by, ran-fine}
use Rattle.model.proofs.Counts.{words-counted}
use Rattle.model.proofs.Checked.{slots-some, program-fine}
use Rattle.model.proofs.Agreement.{runs, agreement}

-- a run leaves in a lent table what its ending, as it is seen, says
pub leaves-left : (o : Outcome) (t : Table) (vs : List Float) → leaves o t vs ≡ left_in (seen o) t vs
unfolding leaves left_in seen
leaves-left (solution ts p q g s) t vs = refl
leaves-left (stopped r k u n) t vs = refl
leaves-left (refused_by r d) t vs = refl
leaves-left (unsettled_at ts) t vs = refl

-- and tells what that says
tells_told : (o : Outcome) → tells_of (reply o) ≡ told (seen o)
unfolding reply told seen
tells_told (solution ts p q g s) = refl
tells_told (stopped r k u n) = refl
tells_told (refused_by r d) = refl
tells_told (unsettled_at ts) = refl

module _ (N : ℕ) (L : Plan) (A B : List Float) (limit : Float) (work words c y x : ℕ) where
  -- 14's test of a Crout program
  right : Bool
  right = eqb (length A) (length L) && (eqb (length B) N && (eqb c (slots N L) && (eqb y N && eqb x N)))

  -- solving by the compiler's answer, and then by 14, 15 and 21
  solving_by : Compiled → Seen
  solving_by answer = elim answer [
    | refusal r d ↦ early r d
    | written s p r ↦ gated (early 14 0) early right (check_values A B limit) (compressed N L (dense N L A B limit))
  ]

  solving_is : solving N L A B limit work words c y x ≡ solving_by (compiles N L work words)
  unfolding solving solving_by gated right
  solving_is = refl

  -- where the compiler refuses, that is the ending
  pub solving-refused : (r d : ℕ) → compiles N L work words ≡ refusal r d → solving N L A B limit work words c y x ≡ early r d
  unfolding solving_by
  solving-refused r d e = solving_is ∙ ap solving_by e

  -- where it writes the program, the run's ending is
  pub solving_runs : (s p r : ℕ) → compiles N L work words ≡ written s p r → Values A → Values B
      → seen (ran (compiled N L) A B limit c y x) ≡ solving N L A B limit work words c y x
  unfolding compiled seen solving_by right lengths_right done_by
  solving_runs s p r e a b =
      let k = compiles_success plain N L work words s p r e in
      let crout = slots-some N L k.order k.whole in
      let same : lengths_right N (length L) (slots N L) (length A) (length B) c y x ≡ right = rw crout in
      let accepts : right ≡ true → check_values A B limit ≡ fine → Accepted N L A B limit = λ l v.
      let n = right_lengths N (length L) (slots N L) (length A) (length B) c y x (same ∙ l) in
      let f = fine_finite A B limit v in
      record {
        given = record {
          order = k.order;
          labels = k.labels;
          length_a = n.0;
          length_b = n.1;
          values_a = a;
          values_b = b;
          finite_a = f.finite_a;
          finite_b = f.finite_b;
          limited = f.limited;
        };
        pivots = k.whole;
      } in
      ap seen (ran-fine (compiled N L) A B limit c y x (program-fine N L k.order k.labels k.whole))
      ∙ gated_map seen (refused_by 14 0) refused_by _ (check_values A B limit) _
      ∙ ap₂ (λ r m. gated (early 14 0) early r (check_values A B limit) (seen (done_by (compiled N L) A B limit m))) same crout
      ∙ gated_same (early 14 0) early right (check_values A B limit) _ _
      (λ l v. sym (ap seen (runs (accepts l v))) ∙ agreement N L A B limit (accepts l v))
      ∙ sym (solving_is ∙ ap solving_by e)

-- ---- what `solve` answers and leaves

-- the answer with what then stands in the lent tables, which held c, y and x
pub record Solves (N : ℕ) (L : Plan) (A B : List Float) (limit : Float) (work words : ℕ) (c y x : List Float) (answer : Reply) (c' y' x' : List Float)
    : Type 0 where
  pub tells : tells_of answer ≡ told (solving N L A B limit work words (length c) (length y) (length x))
  pub replies : answer ≡ replied N L A B limit work words (length c) (length y) (length x)
  pub c_is : c' ≡ left_in (solving N L A B limit work words (length c) (length y) (length x)) C c
  pub y_is : y' ≡ left_in (solving N L A B limit work words (length c) (length y) (length x)) Y y
  pub x-is : x' ≡ left_in (solving N L A B limit work words (length c) (length y) (length x)) X x

module _ (N : ℕ) (L : Plan) (A B : List Float) (limit : Float) (work words : ℕ) (c y x : List Float) where
  -- after the compiler's refusal
  pub refused-solves : (r d : ℕ) → compiles N L work words ≡ refusal r d → Solves N L A B limit work words c y x (refuses r d) c y x
  unfolding told left_in replied
  refused-solves r d e =
      let ends = solving-refused N L A B limit work words (length c) (length y) (length x) r d e in
      record {
        tells = ap told (sym ends);
        replies = rw (replied, e);
        c_is = ap (λ s. left_in s C c) (sym ends);
        y_is = ap (λ s. left_in s Y y) (sym ends);
        x-is = ap (λ s. left_in s X x) (sym ends);
      }

  -- after the run of the compiled program
  pub ran-solves : (s p r : ℕ) → compiles N L work words ≡ written s p r → Values A → Values B
      → let o = ran (compiled N L) A B limit (length c) (length y) (length x) in
      Solves N L A B limit work words c y x (reply o) (leaves o C c) (leaves o Y y) (leaves o X x)
  unfolding replied
  ran-solves s p r e a b =
      let ends = solving_runs N L A B limit work words (length c) (length y) (length x) s p r e a b in
      let o = ran (compiled N L) A B limit (length c) (length y) (length x) in
      let left : (t : Table) (vs : List Float) → leaves o t vs ≡ left_in (solving N L A B limit work words (length c) (length y) (length x)) t vs =
      λ t vs. leaves-left _ t vs ∙ ap (λ s. left_in s t vs) ends in
      record { tells = tells_told _ ∙ ap told ends; replies = rw (replied, e); c_is = left C c; y_is = left Y y; x-is = left X x }

-- ---- the words that the compiler's success leaves start with the program

module _ (N : ℕ) (L : Plan) (work : ℕ) (words : List ℕ) (s p r : ℕ) (e : compiles N L work (length words) ≡ written s p r) where
  words_left : words_after N L work words ≡ compiled N L ++ drop (4 * r) words
  unfolding words_after_by
  words_left = rw (words_after_by, e)

  program-length : length (compiled N L) ≡ 4 * r
  program-length =
      let k = compiles_success plain N L work (length words) s p r e in
      words-counted N L k.whole ∙ ap (λ n. 4 * n) (sym k.records-are)

  pub program-fits : 4 * r ≤ length (words_after N L work words)
  program-fits = rw (words_left, length-append) (omega (arith, program-length))

  pub program-taken : take (4 * r) (words_after N L work words) ≡ compiled N L
  program-taken = rw words_left (take_at (compiled N L) (drop (4 * r) words) (4 * r) program-length)
