-- What the counts decide: whether a trial keeps the exchange.
use Prim.Native.Nat.{ℕ, suc, ◌+◌, ◌-◌, ◌<◌}
use native.Mathlib.Omega.{arith}
use mathlib.Core.Path.{◌≡◌, sym, ap, ap₂, ◌∙◌}
use mathlib.Core.Bool.{Bool, true, false, cond, not, ◌&&◌}
use mathlib.Core.List.{List}
use lib.Dec.{ltb}
use Rattle.model.specs.Fill.{Plan}
use Rattle.model.specs.Numbering.{Numbering, renumbered, exchanged, tried}
use Rattle.model.proofs.Reach.{reach}
use Rattle.model.proofs.Exchanged.{pairs}
use Rattle.model.proofs.Trials.{tried_by_batches}
use Rattle.slots.specs.Batch.{row_of, column_of}
use Rattle.exchange.specs.Stood.{Stood, Neighbours, Counts, first_line, linked}
use Rattle.exchange.specs.declared.Past.{Past}

-- what is reached in line t + 1 through d rooms
abbrev through : ℕ → Plan → ℕ → ℕ → Bool → ℕ → Bool
through N P d t across k = reach N P d (row_of across (suc t) k) (column_of across (suc t) k)

abbrev now : ℕ → Plan → ℕ → ℕ → Bool → ℕ
now N P d t across = pairs N d (first_line N P t across) (through N P d t across) (linked N P t across)

abbrev then : ℕ → Plan → ℕ → ℕ → Bool → ℕ
then N P d t across = pairs N d (through N P d t across) (first_line N P t across) (linked N P t (not across))

module _ {N : ℕ} {L : Plan} {p : Numbering} {work in_rows in_columns : List ℕ} (s : Stood N L p work in_rows in_columns) {t : ℕ} (near : Neighbours N t) where
  abbrev P : Plan
  P = renumbered N L p

  abbrev fewer : Bool
  fewer = ltb (then N P (t - 1) t false + then N P (t - 1) t true) (now N P (t - 1) t false + now N P (t - 1) t true)

  decided : tried N L t p ≡ cond (reach N P (t - 1) (suc t) (suc t) && fewer) (exchanged p t) p
  decided = step t (t - 1) (omega (arith, near.0)) near.1
    where
      step : (t d : ℕ) → t ≡ suc d → t < N → tried N L t p
          ≡ cond (reach N P d (suc t) (suc t) && ltb (then N P d t false + then N P d t true) (now N P d t false + now N P d t true)) (exchanged p t) p
      step t d e h = rw e (tried_by_batches N L d p (rw e at h) s.kept)

  pub not_accepted : {b : Bool} → b ≡ reach N P (t - 1) (suc t) (suc t) → b ≡ false → tried N L t p ≡ p
  not_accepted e f = decided ∙ ap (λ c. cond (c && fewer) (exchanged p t) p) (sym e ∙ f)

  pub improved : {b : Bool} {down right : Past} → b ≡ reach N P (t - 1) (suc t) (suc t) → b ≡ true → Counts N P t false down → Counts N P t true right
      → tried N L t p ≡ cond (ltb (down.after + right.after) (down.before + right.before)) (exchanged p t) p
  improved e f x y =
      decided ∙ ap (λ c. cond (c && fewer) (exchanged p t) p) (sym e ∙ f)
      ∙ ap (λ c. cond c (exchanged p t) p) (sym (ap₂ ltb (ap₂ ◌+◌ x.after_is y.after_is) (ap₂ ◌+◌ x.before_is y.before_is)))
