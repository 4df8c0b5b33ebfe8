-- `costs::costs_most` ends with 1 to 5, or with the products beside those of a full table.
use Rattle.std.proofs.lemmas.Result.{err_from_is_err_and}
use Rattle.model.proofs.Compiles.{orderly-good}
use Rattle.model.proofs.Within.{within-range}
use Rattle.costs.proofs.Answers.{refuses, says}
use Rattle.costs.proofs.costs_most.Goals as goal

pub returns-in_err-filled : goal.returns-in_err-filled
returns-in_err-filled c =
    let p = err_from_is_err_and c.from_residual.result c.from_residual.ensures.1 in
    let a = refuses c.in_err-filled.ensures in
    rw (p.1, p.2) (record { answer = a.0; work = a.1 })

pub most_products-requires : goal.most_products-requires
most_products-requires c = within-range _ _ (orderly-good _ _ _ _ c.in_ok-filled.ensures.passed).0

pub returns : goal.returns
returns c = let a = says c.in_ok-filled.ensures c.most_products.ensures in record { answer = a.0; work = a.1 }
