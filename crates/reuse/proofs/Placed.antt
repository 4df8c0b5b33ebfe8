-- What the walk holds after one place: a held place has a number, and then the slot given to it, where its label says.
use Prim.Native.Nat.{ℕ, zero, suc, ◌+◌, ◌-◌, ◌*◌, ◌≤◌, ◌<◌}
use native.Mathlib.Omega.{arith}
use native.Mathlib.Decide.{dec_le}
use native.Mathlib.Nat.{le_refl, mul-le-mul}
use mathlib.Core.Path.{◌≡◌, refl, sym, ap, ◌∙◌}
use mathlib.Core.Bool.{Bool, true, false, cond}
use mathlib.Core.List.{List, [], ◌∷◌}
use lib.Dec.{ltb}
use lib.ListN.{length, get_or, set, take, drop, length-set, length-take}
use lib.Seq.{get_or-set_same, get_or-set_other}
use borrow.Author.Tests.{ltb-false}
use Rattle.model.specs.Label.{label, places}
use Rattle.model.specs.Fill.{Plan, held, slot}
use Rattle.model.proofs.Labels.{Inside, places-length, label-range, label_injective}
use Rattle.model.proofs.Within.{within-range}
use Rattle.model.proofs.Search.{kept-at_most}
use Rattle.model.proofs.Slots.{held_at, closed_slots, slot-closed, slot_new, slot_zero}
use Rattle.model.proofs.Reuse.{taken, others, made_with}
use Rattle.model.proofs.Renaming.{slot_in, slot-before, slot_last}
use Rattle.model.proofs.Assign.{room_in, longer}
use Rattle.reuse.specs.Places.{Gave, Good, Holding, given_at}
use Rattle.reuse.specs.declared.Walk.{Walk}

-- a number set before k is not seen from k on
pub drop-set : (l : List ℕ) (k i a : ℕ) → i < k → drop k (set l i a) ≡ drop k l
drop-set [] k i a h = refl
drop-set (x ∷ xs) (suc k) zero a h = refl
drop-set (x ∷ xs) (suc k) (suc i) a h = drop-set xs k i a (omega arith)
drop-set (x ∷ xs) zero i a h = absurd (omega arith)

-- no slot is given where none is held
room-none : (n : ℕ) (L : Plan) (gs : List ℕ) (i j : ℕ) → held n L i j ≡ false → room_in n L gs i j ≡ 0
room-none n L gs i j none = ap (slot_in gs) (slot_zero n L i j none)

module _ {n : ℕ} {L : Plan} {given gs fs : List ℕ} {walk : Walk} (holds : Holding n L given walk gs fs)
    (i j : ℕ) (inside : Inside n i j) (next : suc walk.done ≡ label n i j) where
  at_label : label n i j - 1 ≡ walk.done
  at_label = omega arith

  -- the number of the next place says whether it is held
  pub place-held : ltb 0 (get_or given walk.done 0) ≡ held n L i j
  place-held = ap (λ k. ltb 0 (get_or given k 0)) (sym at_label) ∙ holds.ahead i j inside (omega arith)

  -- of the places with labels up to this one's, each is an earlier one or this one
  up_to_here : (P : ℕ → ℕ → Type 0) → P i j → ((a b : ℕ) → Inside n a b → label n a b ≤ walk.done → P a b)
      → (a b : ℕ) → Inside n a b → label n a b ≤ suc walk.done → P a b
  up_to_here P this earlier a b there done = elim (dec_le (label n a b) walk.done) [
    | yes old ↦ earlier a b there old
    | no new ↦ let (p, q) = label_injective n i j a b inside there (omega arith) in rw (← p, ← q) this
  ]

  module _ {given' : List ℕ} {after : Walk} (gave : Gave given walk given' after) where
    tested : {A : Type 0} (b : Bool) → held n L i j ≡ b → (x y : A) → cond (ltb 0 (get_or given walk.done 0)) x y ≡ cond b x y
    tested b e x y = ap (λ c. cond c x y) (place-held ∙ e)

    -- the place is not held: nothing is given
    pub gave_passes : held n L i j ≡ false → Holding n L given' after gs fs × (after.made ≡ walk.made)
    gave_passes none = (
      record {
        count = ap length same ∙ holds.count;
        placed = λ a b there done.
            rw same (up_to_here (λ a b. given_at n given a b ≡ room_in n L gs a b) here holds.placed a b there (omega (arith, gave.passed)));
        ahead = λ a b there late. rw same (holds.ahead a b there (omega (arith, gave.passed)));
        apart = omega (arith, holds.apart, gave.near);
        fits = omega (arith, gave.fits, ap length same);
        stacked = ap (drop after.top) same ∙ gave.free-are ∙ tested false none _ _ ∙ holds.stacked;
      },
      gave.made-are ∙ tested false none _ _,
    )
      where
        same : given' ≡ given
        same = gave.slot_is ∙ tested false none _ _

        here : given_at n given i j ≡ room_in n L gs i j
        here =
            let empty = ltb-false 0 (get_or given walk.done 0) (place-held ∙ none) in
            ap (λ k. get_or given k 0) at_label ∙ omega (arith, empty) ∙ sym (room-none n L gs i j none)

    -- it is held: it has the slot that was freed last, or a new one
    pub gave_gives : held n L i j ≡ true → length gs ≡ closed_slots n L walk.done
        → Holding n L given' after (longer gs fs walk.made) (others fs) × (after.made ≡ made_with fs walk.made)
    gave_gives there closed = (
      record {
        count = ap length now ∙ (length-set given walk.done one ∙ holds.count);
        placed = λ a b k done. rw now (up_to_here (λ a b. given_at n (set given walk.done one) a b ≡ room_in n L (longer gs fs walk.made) a b)
            here earlier a b k (omega (arith, gave.passed)));
        ahead = λ a b k late. rw now (ap (ltb 0) (get_or-set_other given walk.done (label n a b - 1) one 0 (λ e. omega (arith, gave.passed)))
            ∙ holds.ahead a b k (omega (arith, gave.passed)));
        apart = omega (arith, holds.apart, gave.near);
        fits = omega (arith, gave.fits, ap length now, length-set given walk.done one);
        stacked = ap (drop after.top) now ∙ drop-set given after.top walk.done one before-free ∙ gave.free-are ∙ tested true there _ _
            ∙ ap others holds.stacked;
      },
      gave.made-are ∙ tested true there _ _ ∙ ap (λ f. made_with f walk.made) holds.stacked,
    )
      where
        one : ℕ
        one = taken fs walk.made

        now : given' ≡ set given walk.done one
        now = gave.slot_is ∙ tested true there _ _ ∙ ap (λ f. set given walk.done (taken f walk.made)) holds.stacked

        before-free : walk.done < after.top
        before-free = omega (arith, holds.apart, gave.near, label-range n i j inside)

        here : given_at n (set given walk.done one) i j ≡ room_in n L (longer gs fs walk.made) i j
        here =
            ap (λ k. get_or (set given walk.done one) k 0) at_label
            ∙ get_or-set_same given walk.done one 0 (omega (arith, before-free, gave.fits))
            ∙ sym (ap (slot_in (longer gs fs walk.made)) (slot_new n L walk.done i j inside next there ∙ ap suc (sym closed)) ∙ slot_last gs one)

        earlier : (a b : ℕ) → Inside n a b → label n a b ≤ walk.done → given_at n (set given walk.done one) a b ≡ room_in n L (longer gs fs walk.made) a b
        earlier a b k done =
            get_or-set_other given walk.done (label n a b - 1) one 0 (λ e. omega (arith, label-range n a b k))
            ∙ holds.placed a b k done ∙ sym (kept (held n L a b) refl)
          where
            kept : (c : Bool) → held n L a b ≡ c → room_in n L (longer gs fs walk.made) a b ≡ room_in n L gs a b
            kept true e = let s = slot-closed n L a b walk.done k e done in slot-before gs one (slot n L a b) s.0 (omega (arith, s.1, closed))
            kept false e = room-none n L (longer gs fs walk.made) a b e ∙ sym (room-none n L gs a b e)

-- the same places done, with other free slots; and so many places further, with nothing given
abbrev pub freeing : Walk → ℕ → Walk
freeing walk top = record { done = walk.done; top = top; made = walk.made }

abbrev pub further : Walk → ℕ → Walk
further walk r = record { done = walk.done + r; top = walk.top; made = walk.made }

-- slots are freed, and those given stay
pub holds-freed : {n : ℕ} {L : Plan} {given given' gs fs fs' : List ℕ} {walk : Walk} {top : ℕ} → Holding n L given walk gs fs
    → length given' ≡ length given → n * n ≤ top → top ≤ length given → ((k : ℕ) → k < n * n → get_or given' k 0 ≡ get_or given k 0) → drop top given' ≡ fs'
    → Holding n L given' (freeing walk top) gs fs'
holds-freed {n} holds same above fits kept stacked = record {
  count = same ∙ holds.count;
  placed = λ i j inside done. kept (label n i j - 1) (omega (arith, label-range n i j inside)) ∙ holds.placed i j inside done;
  ahead = λ i j inside late. ap (ltb 0) (kept (label n i j - 1) (omega (arith, label-range n i j inside))) ∙ holds.ahead i j inside late;
  apart = above;
  fits = omega (arith, same);
  stacked = stacked;
}

-- how large all is
pub sizes : {n : ℕ} {L : Plan} → Good n L → (1 ≤ n) × (n ≤ 600) × (n * n ≤ 360000)
sizes {n} good = let r = within-range n 600 good.order in (r.0, r.1, mul-le-mul {n₂ = 600} {m₂ = 600} r.1 r.1)

pub closed-few : (n : ℕ) (L : Plan) (k : ℕ) → closed_slots n L k ≤ n * n
closed-few n L k = omega (arith, kept-at_most (held_at n L) (take k (places n)), length-take k (places n), places-length n)

pub others_fewer : (free : List ℕ) → length (others free) ≤ length free
others_fewer [] = omega arith
others_fewer (k ∷ ks) = omega arith

-- in row k + 1 at most k (n + 1) are free, and there is room for k + 1 more
pub room_enough : (k n : ℕ) → suc k ≤ n → k * n + k + suc k ≤ 2 * (n * n)
room_enough k n inside = omega (arith, mul-le-mul inside (le_refl n), mul-le-mul {n₁ = 1} {n₂ = n} (omega arith) (le_refl n))
