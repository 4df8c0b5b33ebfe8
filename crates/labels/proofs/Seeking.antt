-- The search for a label's batch, column m and row m together, and the place found there.
use Prim.Native.Nat.{ℕ, suc, ◌+◌, ◌-◌, ◌*◌, ◌≤◌, ◌<◌}
use native.Mathlib.Nat.{eq-or-lt_of_le}
use native.Mathlib.Omega.{arith}
use mathlib.Core.Path.{◌≡◌, sym, ◌∙◌}
use mathlib.Core.Logic.{⊎_elim}
use lib.ListN.{length, get_or}
use Rattle.model.specs.Label.{label}
use Rattle.model.proofs.Labels.{Inside, label-first, label-next, label-end, label_in_column, label_in_row}
use Rattle.model.specs.Fill.{Plan}
use Rattle.model.specs.Compile.{judged, good}
use Rattle.model.proofs.Plans.{labels_rise}
use Rattle.labels.specs.Batches.{Reaches, Holds}
use Rattle.labels.specs.declared.Batch.{Batch}

pub first-batch : (N k : ℕ) → 1 ≤ N → 1 ≤ k → Reaches N k (record { number = 1; before = 0 })
first-batch N k order some = record { low = omega arith; high = order; begins = sym (label-first N); past = some }

-- the next batch begins where one ends
ended : (N m : ℕ) → 1 ≤ m → m ≤ N → label N (suc m) (suc m) ≡ label N m m + (2 * (N - m) + 1)
ended N m low high = label-next N m low high ∙ label_in_row N m (suc N) low high (omega arith) ∙ omega arith

module _ {N k : ℕ} {b : Batch} (r : Reaches N k b) (high : k ≤ N * N) (past : b.before + (2 * (N - b.number) + 1) < k) where
  -- past a batch there is another, if the label lies there
  more : b.number < N
  more = ⊎_elim (λ e. absurd (none e)) (λ l. l) (eq-or-lt_of_le r.high)
    where
      none : b.number ≡ N → ⊥
      none e =
          let last = rw e at (ended N b.number r.low r.high) in
          let begins = rw e at r.begins in
          omega (arith, last, begins, label-end N)

  pub next-batch : Reaches N k (record { number = b.number + 1; before = b.before + (2 * (N - b.number) + 1) })
  next-batch =
      let one : b.number + 1 ≡ suc b.number = omega arith in
      rw one (record {
        low = omega arith;
        high = more;
        begins = omega (arith, r.begins, ended N b.number r.low r.high);
        past = past;
      })

-- the place found in column m, and in row m
module _ {N k : ℕ} {b : Batch} (h : Holds N k b) where
  pub in_column : k - b.before ≤ N - b.number + 1 → let i = b.number + (k - b.before) - 1 in Inside N i b.number × (label N i b.number ≡ k)
  in_column here =
      let r = h.reaches in (
        record { row_low = omega (arith, r.low); row-high = omega (arith, r.high); column-low = r.low; column-high = r.high },
        label_in_column N _ b.number (omega (arith, r.past)) ∙ omega (arith, r.begins, r.past),
      )

  pub in_row : N - b.number + 1 < k - b.before → let j = b.number + (k - b.before) - (N - b.number + 1) in Inside N b.number j × (label N b.number j ≡ k)
  in_row past =
      let r = h.reaches in (
        record { row_low = r.low; row-high = r.high; column-low = omega (arith, r.low); column-high = omega (arith, r.high, h.ends) },
        label_in_row N b.number _ r.low r.high (omega (arith, r.past)) ∙ omega (arith, r.begins, r.past, r.high),
      )

-- the batch of a label is none past that of a later one
pub reaches-later : (N : ℕ) (L : Plan) (a b : ℕ) {batch : Batch} → judged N 0 1 L ≡ good → a < b → b < length L → Holds N (get_or L a 0) batch → Reaches N (get_or L b 0) batch
reaches-later N L a b rises h below holds =
    let r = holds.reaches in
    record { low = r.low; high = r.high; begins = r.begins; past = omega (arith, r.past, labels_rise N L a b rises h below) }
