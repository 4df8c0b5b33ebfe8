-- The two ways of a record: on C once, or on Y or X for each right side; and what each relies on.
use Prim.Native.Nat.{ℕ, zero, suc, ◌+◌, ◌-◌, ◌≤◌, ◌<◌}
use native.Mathlib.Omega.{arith}
use mathlib.Core.Path.{◌≡◌, refl, subst}
use mathlib.Core.Bool.{true}
use mathlib.Core.List.{List}
use Rattle.model.specs.Label.{within}
use Rattle.model.specs.Formula.{Table, C, Y, X}
use Rattle.model.specs.Check.{Kind, opens, subtracts, divides, closes, closes_pivot, none, kind_of}
use Rattle.model.proofs.Within.{within-range}
use Rattle.state.specs.declared.State.{State}
use Rattle.state.specs.States.{table_of, Allowed, WorksOn, works_in, ReadyInC}
use Rattle.sides.specs.Standing.{alone, SidesReady, ReadyInRows}

-- kind 1 works in C
pub opens-c : (kind : ℕ) (u : Table) → kind ≡ 1 → works_in (kind_of kind) u ≡ C
unfolding kind_of
opens-c kind u e = rw e

-- kinds 2 and 3 do not
pub opens_row : (kind : ℕ) (u : Table) → within kind 9 ≡ true → (kind ≡ 1 → ⊥) → kind ≤ 3 → works_in (kind_of kind) u ≡ C → ⊥
unfolding kind_of
opens_row zero u own other low e = let range = within-range 0 9 own in omega arith
opens_row (suc zero) u own other low e = other refl
opens_row (suc (suc zero)) u own other low e = let z : ◌≡◌ {A = ℕ} 0 1 = cc in omega arith
opens_row (suc (suc (suc zero))) u own other low e = let z : ◌≡◌ {A = ℕ} 0 1 = cc in omega arith
opens_row (suc (suc (suc (suc d)))) u own other low e = omega arith

-- kinds 4 to 9 work in the open target's table
pub past_three : (kind : ℕ) (u : Table) → within kind 9 ≡ true → 3 < kind → works_in (kind_of kind) u ≡ u
unfolding kind_of
past_three kind u own above =
    let range = within-range kind 9 own in
    let from : 4 + (kind - 4) ≡ kind = omega arith in
    subst (λ k. works_in (kind_of k) u ≡ u) from (from_four (kind - 4) (omega arith))
  where
    from_four : (d : ℕ) → d < 6 → works_in (kind_of (4 + d)) u ≡ u
    from_four zero h = refl
    from_four (suc zero) h = refl
    from_four (suc (suc zero)) h = refl
    from_four (suc (suc (suc zero))) h = refl
    from_four (suc (suc (suc (suc zero)))) h = refl
    from_four (suc (suc (suc (suc (suc zero))))) h = refl
    from_four (suc (suc (suc (suc (suc (suc d)))))) h = absurd (omega arith)

-- on C a kind relies on nothing of Y and X
allowed_in_c : (la lc N : ℕ) (z : State) (k : Kind) (p q : ℕ) → works_in k (table_of z.table) ≡ C → WorksOn k (table_of z.table)
    → Allowed la lc N N z k p q → Allowed la lc 0 0 (alone z) k p q
allowed_in_c la lc N z (opens C) p q in_c on allowed = allowed
allowed_in_c la lc N z (opens Y) p q in_c on allowed = let z : ◌≡◌ {A = ℕ} 0 1 = cc in absurd (omega arith)
allowed_in_c la lc N z (opens X) p q in_c on allowed = let z : ◌≡◌ {A = ℕ} 0 1 = cc in absurd (omega arith)
allowed_in_c la lc N z (subtracts C) p q in_c on allowed = allowed
allowed_in_c la lc N z (subtracts Y) p q in_c on allowed = let z : ◌≡◌ {A = ℕ} 0 1 = cc in absurd (omega arith)
allowed_in_c la lc N z (subtracts X) p q in_c on allowed = let z : ◌≡◌ {A = ℕ} 0 1 = cc in absurd (omega arith)
allowed_in_c la lc N z divides p q in_c on allowed = allowed
allowed_in_c la lc N z closes p q in_c on allowed = rw in_c (rw in_c at allowed)
allowed_in_c la lc N z closes_pivot p q in_c on allowed = rw in_c (rw in_c at allowed)
allowed_in_c la lc N z none p q in_c on allowed = tt

-- and on Y and X on nothing of A
allowed_in_rows : (la la' lc N : ℕ) (z : State) (k : Kind) (p q : ℕ) → (works_in k (table_of z.table) ≡ C → ⊥) → Allowed la lc N N z k p q
    → Allowed la' lc N N z k p q
allowed_in_rows la la' lc N z (opens C) p q in_rows allowed = absurd (in_rows refl)
allowed_in_rows la la' lc N z (opens Y) p q in_rows allowed = allowed
allowed_in_rows la la' lc N z (opens X) p q in_rows allowed = allowed
allowed_in_rows la la' lc N z (subtracts C) p q in_rows allowed = allowed
allowed_in_rows la la' lc N z (subtracts Y) p q in_rows allowed = allowed
allowed_in_rows la la' lc N z (subtracts X) p q in_rows allowed = allowed
allowed_in_rows la la' lc N z divides p q in_rows allowed = allowed
allowed_in_rows la la' lc N z closes p q in_rows allowed = allowed
allowed_in_rows la la' lc N z closes_pivot p q in_rows allowed = allowed
allowed_in_rows la la' lc N z none p q in_rows allowed = tt

module _ {count N la lb lc ly lx lr : ℕ} {out : List ℕ} {z : State} {kind p q : ℕ} (sides : SidesReady count N la lb lc ly lx lr out z kind p q) where
  -- what the step on C relies on, and the one on Y or X
  pub ready_in_c : works_in (kind_of kind) (table_of z.table) ≡ C → ReadyInC la lc (alone z) kind p q
  ready_in_c in_c =
      let ready = sides.ready in
      record {
        ready = record {
          own = ready.own;
          sound = record { named = ready.sound.named; in_c = ready.sound.in_c; in_y = omega arith; in_x = omega arith };
          few = ready.few;
          gone = ready.gone;
          rows = refl;
          allowed = allowed_in_c la lc N z (kind_of kind) p q in_c sides.works_on ready.allowed;
        };
        in_c = in_c;
        works_on = sides.works_on;
      }

  pub ready_in_rows : (works_in (kind_of kind) (table_of z.table) ≡ C → ⊥) → ReadyInRows count N lb lc ly lx lr out z kind p q
  ready_in_rows in_rows =
      let ready = sides.ready in
      record {
        sides = λ la'. record {
          ready = record {
            own = ready.own;
            sound = ready.sound;
            few = ready.few;
            gone = ready.gone;
            rows = ready.rows;
            allowed = allowed_in_rows la la' lc N z (kind_of kind) p q in_rows ready.allowed;
          };
          works_on = sides.works_on;
          room = sides.room;
          order = sides.order;
          in_b = sides.in_b;
          in_y = sides.in_y;
          in_x = sides.in_x;
          few-gone = sides.few-gone;
        };
        in_rows = in_rows;
      }
