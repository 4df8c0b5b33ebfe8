-- What the call tells and leaves once the pass is through: from where each right side stands.
use Prim.Native.Nat.{ℕ, zero, suc, ◌+◌, ◌-◌, ◌*◌, ◌≤◌, ◌<◌}
use native.Mathlib.Omega.{arith}
use mathlib.Core.Path.{◌≡◌, refl, sym, ap, ap₂, ◌∙◌}
use mathlib.Core.Bool.{true, false, cond}
use mathlib.Core.List.{List, [], ◌∷◌, ◌++◌}
use lib.Dec.{eqb}
use lib.ListN.{length, get_or, take, drop, replicate, length-drop, length-replicate, get_or-replicate, take-append-drop}
use lib.Seq.{ext_get_or, length-take-le, get_or-take, get_or-drop, drop-cons}
use lib.Ieee.{Float}
use Rattle.model.specs.Lists.{rising}
use Rattle.model.specs.Arith.{plus_zero}
use Rattle.model.specs.Formula.{C, Y, X}
use Rattle.model.specs.Check.{word}
use Rattle.model.specs.Run.{Followed, followed, reply, leaves}
use Rattle.model.specs.Many.{part, sides, replies, leaves_many}
use Rattle.model.specs.Boundary.{side_numbers, many_numbers}
use Rattle.model.proofs.Lists.{length-rising, map-rising, rising_member, rising-each}
use Rattle.model.proofs.Parts.{part_length, part-entry, map-parts, joined_is}
use Rattle.model.proofs.Many.{Unsolved, shared_c-none}
use Rattle.model.proofs.Sides.{along_chain}
use Rattle.state.specs.declared.State.{State}
use Rattle.sides.specs.Cells as Cells
use Rattle.sides.specs.Cells.{cell_of, if_going, any_going}
use Rattle.many.specs.Passes.{side_along, endings, Passed, told, ClearedEnded}
use Rattle.sides.proofs.Cells.{any_found}
use Rattle.many.proofs.Going.{some_goes, none_goes}
use Rattle.many.proofs.Side.{numbers_of, HoldsC, told-answer, tells, going-solved, ended_unsolved, holds-c, holds-y, holds-x, shared_c-held}

-- ---- lists of numbers

-- a part of four, by its entries
four : (vs : List ℕ) (count r : ℕ) (f : ℕ → ℕ) → length vs ≡ count * 4 → r < count → ((i : ℕ) → i < 4 → get_or vs (r * 4 + i) 0 ≡ f i)
    → part 4 vs r ≡ f 0 ∷ f 1 ∷ f 2 ∷ f 3 ∷ []
four vs count r f long h same =
    let all = part_length 4 count vs r long h in
    ext_get_or 0 (part 4 vs r) (f 0 ∷ f 1 ∷ f 2 ∷ f 3 ∷ []) all
    (λ i low. part-entry 4 vs r i 0 (omega arith) ∙ same i (omega arith) ∙ entry i (omega arith))
  where
    entry : (i : ℕ) → i < 4 → f i ≡ get_or (f 0 ∷ f 1 ∷ f 2 ∷ f 3 ∷ []) i 0
    entry zero h = refl
    entry (suc zero) h = refl
    entry (suc (suc zero)) h = refl
    entry (suc (suc (suc zero))) h = refl
    entry (suc (suc (suc (suc i)))) h = absurd (omega arith)

-- numbers that are all 0
all_zero : (ns : List ℕ) (n : ℕ) → length ns ≡ n → ((i : ℕ) → i < n → get_or ns i 0 ≡ 0) → ns ≡ replicate n 0
all_zero ns n long zeros =
    ext_get_or 0 ns (replicate n 0) (long ∙ sym (length-replicate n 0)) (λ i h. zeros i (omega arith) ∙ sym (get_or-replicate n i 0 0 (omega arith)))

-- ---- after the pass, and after each side that goes on has told its counts

module _ {W : List ℕ} {count : ℕ} {A B : List Float} {limit : Float} {z : State} {c y x running : List Float} {out₀ out out' : List ℕ}
    (p : Passed W count A B limit z c y x running out₀ out)
    (t : Cells.Each count (λ r. if_going (told z.products z.quotients z.vanished)) [] out [] out') where
  -- the order, and right side r's run and ending
  abbrev N : ℕ
  N = word W 0

  abbrev side_of : ℕ → Followed
  side_of r = side_along W A limit (part N B r)

  ends-are : endings W count A B limit ≡ rising (λ r. followed (side_of r)) 0 count
  ends-are = map-parts N (along_chain W A limit) count B

  -- the answers are those of the pass
  answer-same : (r : ℕ) → r < count → get_or out' (4 * r + 1) 0 ≡ get_or out (4 * r + 1) 0
  answer-same r h = ap (λ cell. cell.answer) (t.changed r h) ∙ told-answer z.products z.quotients z.vanished (cell_of [] out r)

  -- a side that goes on has closed all
  all_closed : (r : ℕ) → r < count → get_or out (4 * r + 1) 0 ≡ 0 → (z.c ≡ length c) × (z.y ≡ N) × (z.x ≡ N)
  all_closed r h goes = p.whole (any_found count r out h goes)

  -- the numbers
  numbers_of_is : (r : ℕ) → r < count → numbers_of (cell_of [] out' r) ≡ side_numbers (reply (followed (side_of r)))
  numbers_of_is r h = ap numbers_of (t.changed r h) ∙ tells z (cell_of running out r) c (part N y r) (part N x r) (get_or [] r plus_zero) (side_of r) (p.stands r h)

  module _ (few : count ≤ 64) (long : length out' ≡ 257) where
    abbrev fours : List ℕ
    fours = take (count * 4) (drop 1 out')

    fours-long : length fours ≡ count * 4
    fours-long = length-take-le (count * 4) (drop 1 out') (omega (arith, length-drop 1 out'))

    fours-at : (r i : ℕ) → r < count → i < 4 → get_or fours (r * 4 + i) 0 ≡ get_or out' (4 * r + (1 + i)) 0
    fours-at r i h low =
        get_or-take (count * 4) (drop 1 out') (r * 4 + i) 0 (omega arith) ∙ get_or-drop 1 out' (r * 4 + i) 0 ∙ ap (λ j. get_or out' j 0) (omega arith)

    four_of : (r : ℕ) → r < count → side_numbers (reply (followed (side_of r))) ≡ part 4 fours r
    four_of r h =
        sym (numbers_of_is r h) ∙ sym (four fours count r (λ i. get_or out' (4 * r + (1 + i)) 0) fours-long h (λ i low. fours-at r i h low))

    none-past : out₀ ≡ replicate 257 0 → drop (count * 4) (drop 1 out') ≡ replicate (4 * (64 - count)) 0
    none-past zeros =
        all_zero (drop (count * 4) (drop 1 out')) (4 * (64 - count)) (omega (arith, length-drop (count * 4) (drop 1 out'), length-drop 1 out'))
        (λ i h.
        get_or-drop (count * 4) (drop 1 out') i 0 ∙ get_or-drop 1 out' (count * 4 + i) 0
        ∙ t.past (1 + (count * 4 + i)) (omega arith) ∙ p.past (1 + (count * 4 + i)) (omega arith)
        ∙ ap (λ ns. get_or ns (1 + (count * 4 + i)) 0) zeros ∙ get_or-replicate 257 (1 + (count * 4 + i)) 0 0 (omega arith))

    pub numbers-told : out₀ ≡ replicate 257 0 → out' ≡ many_numbers (replies W (sides (endings W count A B limit)))
    unfolding many_numbers replies
    numbers-told zeros =
        drop-cons out' 0 0 (omega arith)
        ∙ ap₂ {C = List ℕ} (λ n ns. n ∷ ns) (t.first ∙ p.records)
        (sym (take-append-drop (count * 4) (drop 1 out'))
        ∙ ap₂ ◌++◌ (sym (joined_is 4 (λ r. side_numbers (reply (followed (side_of r)))) count fours fours-long four_of)) (none-past zeros))
        ∙ rw (ends-are, map-rising, map-rising, length-rising)

  -- Y and X, in whose parts of refused sides +0 was put; n is the order as the code has it
  module _ {n : ℕ} (order : n ≡ N) where
    part_left : (values values' : List Float) → ClearedEnded count n out' values values' → (r : ℕ) → r < count
        → part N values' r ≡ cond (eqb (get_or out (4 * r + 1) 0) 0) (part N values r) (replicate N plus_zero)
    part_left values values' cleared r h =
        (rw order at cleared) r h ∙ ap (λ a. cond (eqb a 0) (part N values r) (replicate N plus_zero)) (answer-same r h)

    pub left-y : (y' vs : List Float) → length y ≡ count * n → length y' ≡ count * n → ClearedEnded count n out' y y'
        → y' ≡ leaves_many (sides (endings W count A B limit)) N Y vs
    unfolding leaves_many
    left-y y' vs long long' cleared =
        rw (ends-are, map-rising)
        (sym (joined_is N (λ r. leaves (followed (side_of r)) Y (replicate N plus_zero)) count y' (rw order at long') (λ r h.
        holds-y z (cell_of running out r) c (part N y r) (part N x r) N (side_of r) (p.stands r h) (λ goes. (all_closed r h goes).1)
        (part_length N count y r (rw order at long) h) ∙ sym (part_left y y' cleared r h))))

    pub left-x : (x' vs : List Float) → length x ≡ count * n → length x' ≡ count * n → ClearedEnded count n out' x x'
        → x' ≡ leaves_many (sides (endings W count A B limit)) N X vs
    unfolding leaves_many
    left-x x' vs long long' cleared =
        rw (ends-are, map-rising)
        (sym (joined_is N (λ r. leaves (followed (side_of r)) X (replicate N plus_zero)) count x' (rw order at long') (λ r h.
        holds-x z (cell_of running out r) c (part N y r) (part N x r) N (side_of r) (p.stands r h) (λ goes. (all_closed r h goes).2)
        (part_length N count x r (rw order at long) h) ∙ sym (part_left x x' cleared r h))))

  -- C, where a side is solved and where none is
  pub left-c : (vs : List Float) → any_going count out' ≡ true → c ≡ leaves_many (sides (endings W count A B limit)) N C vs
  unfolding leaves_many
  left-c vs any =
      let (r, h, goes) = some_goes count out' any in
      let solved = going-solved z (cell_of running out r) c (part N y r) (part N x r) (side_of r) (p.stands r h) (sym (answer-same r h) ∙ goes) in
      rw ends-are
      (sym (shared_c-held (rising (λ r. followed (side_of r)) 0 count) c vs (rising_member (λ r. followed (side_of r)) 0 count r (omega arith) (omega arith)) solved
      (rising-each (HoldsC c) (λ r. followed (side_of r)) 0 count (λ r low high.
      holds-c z (cell_of running out r) c (part N y r) (part N x r) (side_of r) (p.stands r (omega arith)) (λ goes. (all_closed r (omega arith) goes).0)))))

  pub left-c-none : (vs : List Float) → length c ≡ length vs → any_going count out' ≡ false
      → replicate (length c) plus_zero ≡ leaves_many (sides (endings W count A B limit)) N C vs
  unfolding leaves_many
  left-c-none vs long none =
      rw (ends-are, long)
      (sym (shared_c-none (rising (λ r. followed (side_of r)) 0 count) vs (rising-each Unsolved (λ r. followed (side_of r)) 0 count (λ r low high.
      ended_unsolved z (cell_of running out r) c (part N y r) (part N x r) (side_of r) (p.stands r (omega arith))
      (λ goes. none_goes count out' none r (omega arith) (answer-same r (omega arith) ∙ goes))))))
