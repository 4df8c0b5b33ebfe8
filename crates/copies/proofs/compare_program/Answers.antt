-- `copies::compare_program` is 7 to 13, then 28 of record 0, then 28 along the chain.
use mathlib.Core.Path.{sym}
use Rattle.std.proofs.lemmas.Result.{err_from_is_err_and}
use Rattle.copies.proofs.Answers.{chain-stands, refused-check, refused-head, compared-chain}
use Rattle.copies.proofs.compare_program.Goals as goal

pub returns-in_err-check : goal.returns-in_err-check
returns-in_err-check c =
    let r = err_from_is_err_and c.from_residual.result c.from_residual.ensures.1 in
    rw (r.1, r.2) (refused-check _ _ _ (sym c.in_err-check.ensures))

pub head_is-requires : goal.head_is-requires
head_is-requires c = (chain-stands _ (sym c.in_ok-check.ensures)).0

pub returns-then-not-head_is : goal.returns-then-not-head_is
returns-then-not-head_is c = refused-head _ _ _ (sym c.in_ok-check.ensures) (rw c.requires.slots-are at (sym c.if-not-head_is.ensures))

pub compare_records-requires : goal.compare_records-requires
compare_records-requires c = record { on_chain = (chain-stands _ (sym c.in_ok-check.ensures)).1 }

pub returns : goal.returns
returns c =
    compared-chain _ _ _ (sym c.in_ok-check.ensures) (rw c.requires.slots-are at (sym c.if-not-head_is.ensures)) c.requires.records c.compare_records.ensures
