-- `solver::solve` answers and leaves what the model says: the compiler's refusal, or the ending of the compiled program's run, which is dense Crout's.
use Prim.Native.Nat.{ℕ, ◌*◌, ◌≤◌}
use native.Mathlib.Omega.{arith}
use mathlib.Core.Path.{◌≡◌, sym, ap, ap₂, ◌∙◌}
use mathlib.Core.List.{List}
use lib.ListN.{length, take}
use lib.Seq.{length-take-le}
use Rattle.std.proofs.lemmas.Result.{err_from_is_err_and}
use Rattle.model.specs.Program.{compiled}
use Rattle.model.specs.Compile.{compiles, written, words_after}
use Rattle.model.specs.Solve.{tells_of}
use Rattle.model.proofs.Solving.{refused-solves, ran-solves, program-fits, program-taken}
use Rattle.compiler.specs.declared.Written.{Written}
use Rattle.solver.proofs.solve.Goals as goal

-- the compiler wrote the program w, and it stands at the start of the words, up to end
module _ (n : ℕ) (plan : List ℕ) (work : ℕ) (words words' : List ℕ) (w : Written) (end : ℕ)
    (wrote : written w.slots w.products w.records ≡ compiles n plan work (length words)) (is : words' ≡ words_after n plan work words)
    (ends : end ≡ w.records) where
  fits : 4 * end ≤ length words'
  fits = omega (arith, ap length is, program-fits n plan work words _ _ _ (sym wrote))

  taken : take (4 * end) words' ≡ compiled n plan
  taken = ap₂ (λ m ws. take (4 * m) ws) ends is ∙ program-taken _ _ _ _ _ _ _ (sym wrote)

pub returns-in_err-written : goal.returns-in_err-written
returns-in_err-written c =
    let p = err_from_is_err_and c.from_residual.result c.from_residual.ensures.1 in
    let call = c.in_err-written.ensures in
    let e = refused-solves _ _ _ _ _ _ _ _ _ _ _ _ (sym call.answer) in
    rw (p.1, p.2) (record { answer = e.tells; «record» = e.replies; work = call.work; words = call.words; tables = (e.c_is, (e.y_is, e.x-is)) })

pub slice_bounds-run-end : goal.slice_bounds-run-end
slice_bounds-run-end c =
    let call = c.in_ok-written.ensures in
    omega (arith, fits _ _ _ _ _ _ _ call.answer call.words c.wide-end.ensures)

pub slice_bounds-run-end-2 : goal.slice_bounds-run-end-2
slice_bounds-run-end-2 c =
    let call = c.in_ok-written.ensures in
    sym (length-take-le _ _ (omega (arith, fits _ _ _ _ _ _ _ call.answer call.words c.wide-end.ensures)))

pub returns : goal.returns
returns c =
    let a = c.args in
    let call = c.in_ok-written.ensures in
    let run = rw (taken _ _ _ _ _ _ _ call.answer call.words c.wide-end.ensures) at c.run.ensures in
    let e = ran-solves _ _ _ _ _ _ _ a.c.now a.y.now a.x.now _ _ _ (sym call.answer) c.type_inv.a c.type_inv.b in
    record {
      answer = ap tells_of run.0 ∙ e.tells;
      «record» = run.0 ∙ e.replies;
      work = call.work;
      words = call.words;
      tables = (run.1.0 ∙ e.c_is, (run.1.1.0 ∙ e.y_is, run.1.1.1 ∙ e.x-is));
    }
