-- The state with the lent tables as the model's: entries read, and the open target closed.
use Prim.Native.Nat.{ℕ, ◌+◌, ◌-◌, ◌≤◌, ◌<◌, max}
use native.Mathlib.Numerals.{add-one}
use native.Mathlib.Omega.{arith}
use mathlib.Core.Path.{◌≡◌, refl, sym, ap, subst, ◌∙◌}
use mathlib.Core.Bool.{Bool, false, ◌&&◌}
use mathlib.Core.List.{List}
use lib.Dec.{ltb}
use lib.ListN.{length, take, drop, set, get_or, length-set, length-drop}
use lib.Seq.{length-take-le, get_or-take, take-suc-set}
use lib.Ieee.{Float}
use borrow.Author.Tests.{ne_eqb, le-ltb}
use Rattle.model.specs.Arith.{plus_zero, Answer, number, overflow, zero_divisor, is_finite, vanishes}
use Rattle.model.specs.Formula.{Table, C, Y, X, entry, put_x, closed, less}
use Rattle.model.specs.Run as Run
use Rattle.model.proofs.Arith.{less_finite}
use Rattle.arith.specs.declared.Operation.{Operation}
use Rattle.arith.specs.Answer.{answer_of, has_vanished}
use Rattle.state.specs.declared.State.{State}
use Rattle.std.specs.Prelude.{Ok}
use Rattle.state.specs.States.{table_of, state_of, answered, Sound, FreeIn, Free, Of}
use Rattle.std.proofs.lemmas.List.{drop-set}
use Rattle.state.proofs.Tables.{take-set, get_or_last}

-- the state after a product, which the operation's case counts
pub product_is : (r r' : Operation) (acc a b : Float) (f : Bool → Float → State) → r ≡ r' → answer_of r ≡ less acc a b
    → has_vanished r ≡ (is_finite acc && vanishes a b) → answered (answer_of r') (f (has_vanished r')) ≡ answered (less acc a b) (f (vanishes a b))
product_is r r' acc a b f e is gone = rw (← e, is) (by (less acc a b) refl)
  where
    by : (o : Answer) → less acc a b ≡ o → answered o (f (has_vanished r)) ≡ answered o (f (vanishes a b))
    by (number v) h = ap (λ g. Ok (f g v)) (gone ∙ rw (less_finite acc a b v h))
    by overflow h = refl
    by zero_divisor h = refl

-- as many entries are closed as the state counts
pub record Counts (z : State) (c y x : List Float) : Type 0 where
  pub of_c : length (take z.c c) ≡ z.c
  pub of_y : length (take z.y y) ≡ z.y
  pub of_x : length (drop (length x - z.x) x) ≡ z.x

pub counted : (z : State) (c y x : List Float) → Sound (length c) (length y) (length x) z → Counts z c y x
counted z c y x sound = record {
  of_c = length-take-le z.c c sound.in_c;
  of_y = length-take-le z.y y sound.in_y;
  of_x = omega (arith, length-drop (length x - z.x) x);
}

-- a closed entry stands in its table
module _ (z : State) (c y x : List Float) (k : ℕ) where
  pub entry-c : Of z.c k → get_or c (k - 1) plus_zero ≡ entry (state_of z c y x).tables C k
  unfolding entry
  entry-c h = sym (get_or-take z.c c (k - 1) plus_zero (omega arith))

  pub entry-y : Of z.y k → get_or y (k - 1) plus_zero ≡ entry (state_of z c y x).tables Y k
  unfolding entry
  entry-y h = sym (get_or-take z.y y (k - 1) plus_zero (omega arith))

  pub entry-x : z.x ≤ length x → length x - z.x < k → k ≤ length x → get_or x (k - 1) plus_zero ≡ entry (state_of z c y x).tables X k
  unfolding entry
  entry-x h low high = sym (get_or_last x z.x k plus_zero h low high)

pub is_x : (n : ℕ) → (n ≡ 1 → ⊥) → (n ≡ 2 → ⊥) → table_of n ≡ X
is_x n one two = rw (ne_eqb n 1 one, ne_eqb n 2 two)

-- the open target takes the running number
module _ (z : State) (c y x : List Float) where
  abbrev pub counting : ℕ → ℕ → ℕ → State
  counting i j k = record {
    running = z.running;
    table = z.table;
    target = z.target;
    c = i;
    y = j;
    x = k;
    products = z.products;
    quotients = z.quotients;
    vanished = z.vanished;
    moved = z.moved;
  }

  pub free_in : {t : Table} → table_of z.table ≡ t → Free (length c) (length y) (length x) z → FreeIn (length c) (length y) (length x) z t
  free_in e h = subst (FreeIn (length c) (length y) (length x) z) e h

  -- slot k, after which m are closed
  pub close_c : (k m : ℕ) → table_of z.table ≡ C → FreeIn (length c) (length y) (length x) z C → k ≡ z.target → m ≡ max z.c k
      → state_of (counting m z.y z.x) (set c (k - 1) z.running) y x ≡ Run.closing (state_of z c y x)
  unfolding closed
  close_c k m e h at is = rw (e, closed, ← at, take-set c z.c m (k - 1) z.running (omega arith) (omega arith) (omega arith))

  pub close_y : table_of z.table ≡ Y → z.y < length y
      → state_of (counting z.c (z.y + 1) z.x) c (set y z.y z.running) x ≡ Run.closing (state_of z c y x)
  unfolding closed
  close_y e h = rw (e, closed, add-one, take-suc-set)

  pub close_x : table_of z.table ≡ X → FreeIn (length c) (length y) (length x) z X
      → state_of (counting z.c z.y (z.x + 1)) c y (set x (length x - (z.x + 1)) z.running) ≡ Run.closing (state_of z c y x)
  unfolding closed put_x
  close_x e h =
      let from : length x - (z.x + 1) + 1 ≡ length x - z.x = omega arith in
      let unclosed : ℕ = length x - length (drop (length x - z.x) x) in
      let last : ltb unclosed z.target ≡ false = le-ltb unclosed z.target (omega (arith, length-drop (length x - z.x) x)) in
      rw (e, closed, last, length-set, drop-set x (length x - (z.x + 1)) z.running (omega arith), from)
