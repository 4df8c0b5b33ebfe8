-- What a call for a better numbering answers, and what it leaves in both slices, by the first check that refuses: document 02, A.12.
use Prim.Native.Nat.{ℕ, ◌-◌, ◌*◌}
use mathlib.Core.Path.{◌≡◌}
use mathlib.Core.List.{List, ◌++◌}
use borrow.Author.Tests.{eq-eqb, ne_eqb}
use lib.ListN.{length, drop, replicate}
use Rattle.model.specs.Fill.{Plan, slots, missing}
use Rattle.model.specs.Compile.{good, bad, plain, orderly, slot_numbers, work_left}
use Rattle.model.specs.Numbering.{Numbering, Renumbering, numbered, refused, renumbered, trials_made, kept_numbering}
use Rattle.model.specs.Numbering.{numbering_checks, renumbers, numbering_after, renumbered_work}
use Rattle.model.proofs.Admitted.{Admits, admits-early, admits-gap, admits-good}

module _ (N : ℕ) (L : Plan) (trials : ℕ) (work : List ℕ) (numbering : Numbering) where
  -- an answer, with what then stands in the work slice and in the numbering
  abbrev pub Renumbers : Renumbering → List ℕ → Numbering → Type 0
  Renumbers answer work' numbering' =
      (answer ≡ renumbers N L trials (length work) (length numbering))
      × ((work' ≡ renumbered_work N L trials work (length numbering)) × (numbering' ≡ numbering_after N L trials (length work) numbering))

  refuses : {r d : ℕ} {work' : List ℕ} → Admits plain N L work (bad r d) work' → Renumbers (refused r d) work' numbering
  unfolding renumbers renumbered_work numbering_after numbering_checks work_left
  refuses a = (
    rw (renumbers, numbering_checks, a.answer_is),
    (rw (renumbered_work, a.answer_is, work_left) (rw (a.answer_is, work_left) at a.work_is), rw (numbering_after, numbering_checks, a.answer_is)),
  )

  -- 1 to 4
  pub refused-early : {r d : ℕ} → orderly (N * N) N L (length work) ≡ bad r d → Renumbers (refused r d) work numbering
  refused-early e = refuses (admits-early plain N L work _ _ e)

  module _ (orders : orderly (N * N) N L (length work) ≡ good) where
    -- 5
    pub refused-gap : (missing N L ≡ 0 → ⊥) → Renumbers (refused 5 (missing N L)) (replicate (N * N) 0 ++ drop (N * N) work) numbering
    refused-gap some = refuses (admits-gap plain N L work orders some)

    module _ (none : missing N L ≡ 0) where
      -- 29
      pub refused-length : (length numbering ≡ N → ⊥) → Renumbers (refused 29 0) (slot_numbers N L ++ drop (N * N) work) numbering
      unfolding renumbers renumbered_work numbering_after numbering_checks work_left
      refused-length other =
          let a = admits-good plain N L work orders none in
          let e = ne_eqb (length numbering) N other in (
            rw (renumbers, numbering_checks, a.answer_is, e),
            (rw (renumbered_work, e, a.answer_is, work_left), rw (numbering_after, numbering_checks, a.answer_is, e)),
          )

      pub renumbers-kept : length numbering ≡ N → let P = renumbered N L (kept_numbering N L trials) in
          Renumbers (numbered (slots N P) (trials_made N trials) (slots N P - length L)) (slot_numbers N P ++ drop (N * N) work) (kept_numbering N L trials)
      unfolding renumbers renumbered_work numbering_after numbering_checks work_left
      renumbers-kept same =
          let a = admits-good plain N L work orders none in
          let e = eq-eqb (length numbering) N same in (
            rw (renumbers, numbering_checks, a.answer_is, e),
            (rw (renumbered_work, e, a.answer_is, work_left), rw (numbering_after, numbering_checks, a.answer_is, e)),
          )
