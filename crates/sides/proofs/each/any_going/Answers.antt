-- `sides::each::any_going`: the chain looks at the sides from the first one, the definition from the last.
use Rattle.std.proofs.Common.{◌≡◌, ℕ, ◌+◌, ◌*◌, List, Bool, zero, suc, rules, arith, get_or, ◌||◌, refl, sym, ◌∙◌, ap, add-zero}
use lib.Dec.{eqb}
use mathlib.Core.Bool.{or_assoc, or-false}
use Rattle.std.specs.List.{list_any, range_with_len}
use Rattle.std.proofs.lemmas.Iterator.{YieldsList-from_range}
use Rattle.std.proofs.lemmas.Iterator.Search.{any_from_yields_List}
use borrow.Author.Tests.{tests}
use Rattle.sides.specs.Cells.{any_going}
use Rattle.sides.proofs.each.any_going.Goals as goal

abbrev going : List ℕ → ℕ → Bool
going out r = eqb (get_or out (4 * r + 1) 0) 0

-- one more at the end
any_more : (out : List ℕ) (a b n : ℕ) → b ≡ a + n → list_any (going out) (range_with_len a (suc n)) ≡ list_any (going out) (range_with_len a n) || going out b
any_more out a b zero e = rw (e, add-zero, or-false)
any_more out a b (suc n) e = rw (any_more out (a + 1) b n (omega arith)) (sym (or_assoc (going out a) _ _))

any_is : (out : List ℕ) (n : ℕ) → list_any (going out) (range_with_len 0 n) ≡ any_going n out
unfolding any_going
any_is out zero = refl
any_is out (suc n) = any_more out 0 n n (omega arith) ∙ ap (λ b. b || going out n) (any_is out n)

pub returns : goal.returns
returns c =
    any_from_yields_List (going c.args.out.now) _ _ c.any.result c.any.ensures.ran (YieldsList-from_range 0 c.args.count c.args.count refl (omega arith))
    (λ x b q k. search (rules, tests))
    ∙ any_is c.args.out.now c.args.count
