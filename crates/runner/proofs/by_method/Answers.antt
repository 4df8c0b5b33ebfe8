-- `runner::by_method`: the word that tells the method is there.
use native.Mathlib.Omega.{arith}
use Rattle.model.proofs.Passing.{fine-passed}
use Rattle.runner.proofs.by_method.Goals as goal

pub bounds-given-2 : goal.bounds-given-2
bounds-given-2 c = omega (arith, fine-passed _ c.requires.checked)
