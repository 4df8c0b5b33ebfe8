-- The count along two lines: where it stands, one place more, and how small both counts are.
use Prim.Native.Nat.{ℕ, suc, ◌+◌, ◌-◌, ◌*◌, ◌≤◌, ◌<◌}
use native.Mathlib.Nat.{mul-le-mul}
use native.Mathlib.Omega.{arith}
use mathlib.Core.Path.{◌≡◌, sym, ap, ◌∙◌}
use mathlib.Core.Bool.{Bool, true, false, cond, not, ◌&&◌, and-eq-true_iff}
use mathlib.Core.List.{List}
use lib.Dec.{ltb}
use lib.ListN.{length, get_or}
use Rattle.model.specs.Lists.{rising, total}
use Rattle.model.specs.Label.{label}
use Rattle.model.specs.Fill.{Plan, held}
use Rattle.model.specs.Numbering.{Numbering, renumbered}
use Rattle.model.proofs.Labels.{Inside, label-range}
use Rattle.model.proofs.Sums.{rising-last, rising-at_most, at_most_one}
use Rattle.model.proofs.Exchanged.{pair, pairs}
use Rattle.slots.specs.Batch.{row_of, column_of}
use Rattle.exchange.specs.Stood.{Stood, Neighbours, Beyond, Counts, first_line, second_line, linked}
use Rattle.exchange.specs.declared.Past.{Past}
use Rattle.exchange.proofs.Lines.{line-label, line-inside, line-held, second_inside, second_beyond}

-- the sum over the lines past t + 1, before the place k
abbrev pub up_to : (ℕ → Bool) → (ℕ → Bool) → Bool → ℕ → ℕ → ℕ
up_to first second link t k = total (rising (λ k. pair (first k) (second k) link) (suc (suc t)) (k - suc (suc t)))

pub record Counting (N : ℕ) (P : Plan) (t : ℕ) (across : Bool) (before after k : ℕ) : Type 0 where
  pub before_is : before ≡ up_to (first_line N P t across) (second_line N P t across) (linked N P t across) t k
  pub after_is : after ≡ up_to (second_line N P t across) (first_line N P t across) (linked N P t (not across)) t k

up_to_start : (first second : ℕ → Bool) (link : Bool) (t : ℕ) → 0 ≡ up_to first second link t (suc (suc t))
unfolding total rising
up_to_start first second link t = let none : suc (suc t) - suc (suc t) ≡ 0 = omega arith in rw none

up_to_more : (first second : ℕ → Bool) (link : Bool) (t k : ℕ) → suc (suc t) ≤ k
    → up_to first second link t k + pair (first k) (second k) link ≡ up_to first second link t (suc k)
up_to_more first second link t k h =
    let size : suc k - suc (suc t) ≡ suc (k - suc (suc t)) = omega arith in
    let last : suc (suc t) + (k - suc (suc t)) ≡ k = omega arith in
    sym (ap (λ n. total (rising (λ k. pair (first k) (second k) link) (suc (suc t)) n)) size
    ∙ rising-last (λ k. pair (first k) (second k) link) (suc (suc t)) (k - suc (suc t))
    ∙ ap (λ n. up_to first second link t k + pair (first n) (second n) link) last)

pub pair_few : (a b c : Bool) → pair a b c ≤ 2
pair_few true true c = omega arith
pair_few true false c = omega (arith, at_most_one c)
pair_few false true c = omega arith
pair_few false false c = omega arith

up_to_few : (first second : ℕ → Bool) (link : Bool) (t k : ℕ) → up_to first second link t k ≤ (k - suc (suc t)) * 2
up_to_few first second link t k =
    rising-at_most (λ k. pair (first k) (second k) link) 2 (suc (suc t)) (k - suc (suc t)) (λ n low high. pair_few (first n) (second n) link)

module _ {N : ℕ} {L : Plan} {p : Numbering} {work in_rows in_columns : List ℕ} (s : Stood N L p work in_rows in_columns) {t : ℕ} (near : Neighbours N t) where
  abbrev P : Plan
  P = renumbered N L p

  -- the pivots' labels are small
  pivots_small : (label N t t ≤ 360000) × (1 ≤ label N t t) × (label N (suc t) (suc t) ≤ 360000) × (1 ≤ label N (suc t) (suc t)) × (N ≤ 600)
  pivots_small =
      let high = s.stands.high in
      let square = mul-le-mul {n₂ = 600} {m₂ = 600} high high in
      let a = label-range N t t (record { row_low = near.0; row-high = omega (arith, near.1); column-low = near.0; column-high = omega (arith, near.1) }) in
      let b = label-range N (suc t) (suc t) (record { row_low = omega arith; row-high = near.1; column-low = omega arith; column-high = near.1 }) in
      (omega (arith, a, square), a.0, omega (arith, b, square), b.0, high)

  pub count-start : {across : Bool} {k : ℕ} → k ≡ suc (suc t) → Counting N P t across 0 0 k
  count-start {across} e = rw e (record {
    before_is = up_to_start (first_line N P t across) (second_line N P t across) (linked N P t across) t;
    after_is = up_to_start (second_line N P t across) (first_line N P t across) (linked N P t (not across)) t;
  })

  module _ {across : Bool} {before after k : ℕ} (c : Counting N P t across before after k) (past : suc t < k) where
    pub count_small : k ≤ suc N → (before ≤ 1200) × (after ≤ 1200)
    count_small high =
        let few = up_to_few (first_line N P t across) (second_line N P t across) (linked N P t across) t k in
        let few-after = up_to_few (second_line N P t across) (first_line N P t across) (linked N P t (not across)) t k in
        (omega (arith, c.before_is, few, s.stands.high), omega (arith, c.after_is, few-after, s.stands.high))

    module _ (high : k ≤ N) where
      -- the next place of either line
      first-inside : Inside N (row_of across t k) (column_of across t k)
      first-inside = line-inside N across t k near.0 (omega (arith, near.1)) (omega arith) high

      second-inside : Inside N (row_of across (suc t) k) (column_of across (suc t) k)
      second-inside = second_inside s near across k past high

      module _ {first : ℕ} (at : suc first ≡ label N t t + cond across (N - t) 0 + (k - t)) where
        first-label : suc first ≡ label N (row_of across t k) (column_of across t k)
        first-label = omega (arith, at, line-label N across t k near.0 (omega (arith, near.1)) (omega arith))

        pub first-index : (first < length work) × (first ≤ 360000)
        first-index =
            let square = mul-le-mul {n₂ = 600} {m₂ = 600} s.stands.high s.stands.high in
            let range = label-range N _ _ first-inside in
            (omega (arith, first-label, range, s.stands.room), omega (arith, first-label, range, square))

        pub first-held : {a : Bool} → a ≡ ltb 0 (get_or work first 0) → a ≡ first_line N P t across k
        first-held f = f ∙ line-held s across t k first-inside first-label

      module _ {second : ℕ} (at : suc second ≡ label N (suc t) (suc t) + cond across (N - suc t) 0 + (k - suc t)) where
        second_label : suc second ≡ label N (row_of across (suc t) k) (column_of across (suc t) k)
        second_label = omega (arith, at, line-label N across (suc t) k (omega arith) near.1 (omega arith))

        pub second_index : (second < length work) × (second ≤ 360000)
        second_index =
            let square = mul-le-mul {n₂ = 600} {m₂ = 600} s.stands.high s.stands.high in
            let range = label-range N _ _ second-inside in
            (omega (arith, second_label, range, s.stands.room), omega (arith, second_label, range, square))

        pub second_held : {b : Bool} → b ≡ ltb 0 (get_or work second 0) → b ≡ held N P (row_of across (suc t) k) (column_of across (suc t) k)
        second_held f = f ∙ line-held s across (suc t) k second-inside second_label

      -- where a way leads to it through the first line
      pub second_past : {a b link : Bool} → a ≡ first_line N P t across k
          → b ≡ held N P (row_of across (suc t) k) (column_of across (suc t) k) → link ≡ linked N P t across → ((link && a) && b) ≡ true
          → Beyond N P t (row_of across (suc t) k) (column_of across (suc t) k)
      second_past {a} {b} {link} x y z all = second_beyond s near across k past high (sym y ∙ ((and-eq-true_iff (link && a) b).0 all).1)

    pub count_more : {a b link back : Bool} {before' after' n : ℕ} → n ≡ suc k
        → a ≡ first_line N P t across k → b ≡ second_line N P t across k
        → link ≡ linked N P t across → back ≡ linked N P t (not across) → before' ≡ before + pair a b link → after' ≡ after + pair b a back
        → Counting N P t across before' after' n
    count_more d a b x y g h =
        rw d
        (record {
          before_is =
              rw (a, b, x) at g ∙ ap (λ n. n + pair (first_line N P t across k) (second_line N P t across k) (linked N P t across)) c.before_is
              ∙ up_to_more (first_line N P t across) (second_line N P t across) (linked N P t across) t k past;
          after_is =
              rw (b, a, y) at h
              ∙ ap (λ n. n + pair (second_line N P t across k) (first_line N P t across k) (linked N P t (not across))) c.after_is
              ∙ up_to_more (second_line N P t across) (first_line N P t across) (linked N P t (not across)) t k past;
        })

-- once the last place is counted
up_to_all : (first second : ℕ → Bool) (link : Bool) (N t : ℕ) → 1 ≤ t → up_to first second link t (suc N) ≡ pairs N (t - 1) first second link
up_to_all first second link N t low =
    let one : suc (t - 1) ≡ t = omega arith in
    let size : suc N - suc (suc t) ≡ N - suc t = omega arith in
    rw (one, size)

pub count-all : {N : ℕ} {P : Plan} {t : ℕ} {across : Bool} {before after k : ℕ} → 1 ≤ t → k ≡ suc N → Counting N P t across before after k
    → Counts N P t across (record { before = before; after = after })
count-all {N} {P} {t} {across} low e c =
    let all : Counting N P t across _ _ (suc N) = rw e at c in
    record {
      before_is = all.before_is ∙ up_to_all (first_line N P t across) (second_line N P t across) (linked N P t across) N t low;
      after_is = all.after_is ∙ up_to_all (second_line N P t across) (first_line N P t across) (linked N P t (not across)) N t low;
    }

-- both counts are small
pub counts_few : {N : ℕ} {P : Plan} {t : ℕ} {across : Bool} {r : Past} → N ≤ 600 → Counts N P t across r → (r.before ≤ 1200) × (r.after ≤ 1200)
counts_few {N} {P} {t} {across} high c = (omega (arith, c.before_is, few (first_line N P t across) (second_line N P t across) (linked N P t across)), omega (arith, c.after_is, few (second_line N P t across) (first_line N P t across) (linked N P t (not across))))
  where
    few : (first second : ℕ → Bool) (link : Bool) → pairs N (t - 1) first second link ≤ 1200
    few first second link =
        omega (arith, rising-at_most (λ k. pair (first k) (second k) link) 2 (suc (suc (suc (t - 1)))) (N - suc (suc (t - 1))) (λ n low above. pair_few (first n) (second n) link))
