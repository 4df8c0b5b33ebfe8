-- A line of places beside the chain: what is known before its t-th place, and where comparing the place leads.
use Prim.Native.Nat.{ℕ, suc, ◌+◌, ◌-◌, ◌≤◌, ◌<◌}
use native.Mathlib.Omega.{arith}
use mathlib.Core.Path.{◌≡◌, refl, ap, ◌∙◌}
use mathlib.Core.Bool.{Bool}
use mathlib.Core.List.{List, ◌++◌}
use lib.ListN.{length, get_or}
use Rattle.model.specs.Lists.{rising, joined}
use Rattle.model.specs.Fill.{Plan}
use Rattle.model.proofs.Labels.{Inside}
use Rattle.model.proofs.Pointer.{passed_by}
use Rattle.slots.specs.Batch.{row_of, column_of, first_of}
use Rattle.writer.specs.Written.{Room, Wrote}
use Rattle.writer.specs.Line.{Ready, Before, divisor_of, place_at, line_at, line_records}
use Rattle.writer.specs.declared.Cursor.{Cursor}
use Rattle.writer.proofs.Written.{wrote_length}
use Rattle.writer.proofs.Products.{rising-joined, rising_none, skipped}
use Rattle.writer.proofs.Line.{OnLine, line-place, place_of_line, line_more, line-skips, line-none}
use Rattle.std.specs.Prelude.{Result, Ok, Err}
use Rattle.refusal.specs.declared.Refusal.{Refusal}
use Rattle.copies.specs.Beside.{OnChain, Leads, cursor_of}
use Rattle.copies.specs.Compared.{first_records}
use Rattle.copies.specs.declared.Compared.{Compared}
use Rattle.copies.proofs.Leading.{leads_like, Comparing, comparing_more, comparing_ends, comparing_over}
use Rattle.copies.proofs.Written.{formula_leads, place-room}

module _ (n : ℕ) (L : Plan) (work : List ℕ) (across : Bool) (m : ℕ) (W : List ℕ) (z₀ : Compared) where
  -- the places before the t-th are compared, from z₀ on; the next formula goes into `formula`
  pub record Led (formula : List ℕ) (z : Compared) (t : ℕ) : Type 0 where
    pub low : first_of across m ≤ t
    pub high : t ≤ suc n
    pub long : length formula ≡ 2412
    pub chain : OnChain W z.last
    pub comparing : Comparing W (line_records n L work across m) z₀ (joined (rising (line_at n L work across m) t (suc n - t))) z
    pub before : Before n L (row_of across m t) (column_of across m t) (cursor_of z)

module _ {n : ℕ} {L : Plan} {work : List ℕ} {across : Bool} {m : ℕ} {W : List ℕ} where
  module _ {z₀ z : Compared} {formula : List ℕ} {t : ℕ} (led : Led n L work across m W z₀ formula z t) where
    -- no place is left: the whole line is compared
    pub led-ends : n < t → Leads W (line_records n L work across m) z₀ (Ok z)
        × Before n L (row_of across m (suc n)) (column_of across m (suc n)) (cursor_of z)
    led-ends past =
        let end : suc n ≡ t = omega (arith, led.high) in
        (comparing_ends led.comparing (rising_none (line_at n L work across m) t (suc n) past), rw end led.before)

    -- the t-th place is (i, j)
    module _ {in_rows in_columns : List ℕ} (ready : Ready n L work in_rows in_columns) (inside : Inside n m m) (below : t ≤ n)
        {i j divisor : ℕ} (row : i ≡ row_of across m t) (column : j ≡ column_of across m t) (e : divisor ≡ divisor_of n work across m) where
      on_line : OnLine n L across m (cursor_of z) t
      on_line = record { low = led.low; before = led.before }

      pub led-place : Inside n i j × (Before n L i j (cursor_of z) × Room 0 0 (place_at n L work divisor i j) formula)
      led-place =
          let place = line-place on_line row column inside below in
          (place.0, (place.1, place-room ready divisor i j place.0 led.long))

      -- its formula is written, and d places after it have no records
      module _ (after : Cursor) {formula' : List ℕ} (wrote : Wrote 0 0 (place_at n L work divisor i j) formula formula' after.next)
          (moved : (after.done ≡ suc z.done) × (after.passed ≡ passed_by L after.done))
          (d : ℕ) (far : t + 1 + d ≤ suc n) (none : (k : ℕ) → k < d → get_or work (after.done + k) 0 ≡ 0) where
        abbrev reached : Compared
        reached = record { done = after.done + d; passed = after.passed; last = z.last }

        next_line : OnLine n L across m after (t + 1)
        next_line = line_more on_line after moved

        -- what its comparing leads to
        here : (then : Result Compared Refusal) → Leads W (first_records formula' after.next) reached then → Leads W (line_at n L work across m t) z then
        here then leads =
            let place = rw (← place_of_line on_line row column work e) at (formula_leads wrote W reached then leads) in
            leads_like W (line_at n L work across m t) reached z then refl place

        left : joined (rising (line_at n L work across m) t (suc n - t))
            ≡ line_at n L work across m t ++ joined (rising (line_at n L work across m) (t + 1 + d) (suc n - (t + 1 + d)))
        left =
            let f = line_at n L work across m in
            let none_after = skipped f (t + 1) d (suc n) (λ k low high below. line-none ready inside next_line d far none k low high) in
            rising-joined f t (suc n) (omega arith) ∙ ap (λ rs. f t ++ rs) none_after

        pub led_over : (r : Refusal) → Leads W (first_records formula' after.next) reached (Err r) → Leads W (line_records n L work across m) z₀ (Err r)
        led_over r leads = comparing_over led.comparing (line_at n L work across m t) _ r left (here (Err r) leads)

        pub led_more : (z' : Compared) → OnChain W z'.last → Leads W (first_records formula' after.next) reached (Ok z')
            → (z'.done ≡ after.done + d) × (z'.passed ≡ after.passed) → Led n L work across m W z₀ formula' z' (t + (d + 1))
        led_more z' chain leads kept =
            let there = (line-skips ready inside next_line d far none).before in
            let on : t + (d + 1) ≡ t + 1 + d = omega arith in
            record {
              low = omega (arith, led.low);
              high = omega arith;
              long = wrote_length led-place.1.1 wrote ∙ led.long;
              chain = chain;
              comparing = rw on (comparing_more led.comparing (line_at n L work across m t) _ left (here (Ok z') leads));
              before = rw on (record { here = rw kept.0 there.here; passed = rw (kept.0, kept.1) there.passed });
            }
