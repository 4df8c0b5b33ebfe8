-- The first q work numbers copied past themselves, and the 3 q past them lent and back.
use Prim.Native.Nat.{ℕ, ◌+◌, ◌-◌, ◌*◌, ◌≤◌, ◌<◌}
use native.Mathlib.Omega.{arith}
use mathlib.Core.Path.{◌≡◌, sym, ap, ◌∙◌}
use mathlib.Core.List.{List, ◌++◌, append_assoc}
use lib.ListN.{length, get_or, take, drop, length-append, length-drop, get_or-append}
use lib.Seq.{paste, length-paste, drop-paste, length-take-le, get_or-take, take_at, drop_at, drop-drop}
use Rattle.compiler.proofs.Parts.{part_of, with_part, whole_part}

module _ (work copied : List ℕ) (q : ℕ) (room : 4 * q ≤ length work) (copied-by : copied ≡ paste work q work q) where
  front : length (take q work) ≡ q
  front = length-take-le q work (omega arith)

  copied_is : copied ≡ take q work ++ (take q work ++ drop (q + q) work)
  copied_is = copied-by ∙ append_assoc (take q work) (take q work) (drop (q + q) work)

  copied_length : length copied ≡ length work
  copied_length = ap length copied-by ∙ length-paste work q work q (omega arith) (omega arith)

  first_stay : take q copied ≡ take q work
  first_stay = ap (take q) copied_is ∙ take_at (take q work) _ q front

  copied_front : length (take q copied) ≡ q
  copied_front = ap length first_stay ∙ front

  -- those past all four parts are as they came
  rest_stay : drop (4 * q - q) (drop q copied) ≡ drop (4 * q) work
  rest_stay =
      let all : q + (4 * q - q) ≡ q + q + 2 * q = omega arith in
      let whole : q + q + 2 * q ≡ 4 * q = omega arith in
      drop-drop (4 * q - q) q copied
      ∙ ap (λ n. drop n copied) all
      ∙ sym (drop-drop (2 * q) (q + q) copied)
      ∙ ap (drop (2 * q)) (ap (drop (q + q)) copied-by ∙ drop-paste work q work q (omega arith) (omega arith))
      ∙ drop-drop (2 * q) (q + q) work
      ∙ ap (λ n. drop n work) whole

  -- the part lent begins with the first q
  pub part-first : (k : ℕ) → k < q → get_or (part_of q (4 * q) copied) k 0 ≡ get_or work k 0
  part-first k below =
      get_or-take (4 * q - q) (drop q copied) k 0 (omega arith)
      ∙ ap (λ l. get_or (drop q l) k 0) copied_is
      ∙ ap (λ l. get_or l k 0) (drop_at (take q work) _ q front)
      ∙ get_or-append (take q work) (drop (q + q) work) 0 k (omega (arith, front))
      ∙ get_or-take q work k 0 below

  pub part_length : length (part_of q (4 * q) copied) ≡ 3 * q
  part_length = omega (arith, length-take-le (4 * q - q) (drop q copied) (omega (arith, length-drop q copied, copied_length)))

  module _ (given : List ℕ) (count : length given ≡ 3 * q) where
    -- it is back
    abbrev after : List ℕ
    after = with_part q (4 * q) copied given

    past : drop q after ≡ given ++ drop (4 * q) work
    past = drop_at (take q copied) _ q copied_front ∙ ap (λ l. given ++ l) rest_stay

    pub past-covers : q ≤ length (part_of q (length after) after)
    past-covers = omega (arith, ap length (whole_part q after ∙ past), length-append given (drop (4 * q) work), count)

    -- it stands past the first q,
    pub given-past : (k : ℕ) → k < q → get_or (part_of q (length after) after) k 0 ≡ get_or given k 0
    given-past k below = ap (λ l. get_or l k 0) (whole_part q after ∙ past) ∙ get_or-append given (drop (4 * q) work) 0 k (omega arith)

    -- the first q and those past all four parts are as they came
    pub first-left : take q after ≡ take q work
    first-left = take_at (take q copied) _ q copied_front ∙ first_stay

    pub rest-left : drop (4 * q) after ≡ drop (4 * q) work
    rest-left =
        let all : q + 3 * q ≡ 4 * q = omega arith in
        ap (λ k. drop k after) (sym all) ∙ sym (drop-drop (3 * q) q after) ∙ ap (drop (3 * q)) past ∙ drop_at given (drop (4 * q) work) (3 * q) count
