-- One turn of a path: the nearest entry is reached, or one before it has to be; the path stays the same.
use Prim.Native.Nat.{ℕ, suc, ◌+◌, ◌-◌, ◌≤◌, ◌<◌}
use native.Mathlib.Nat.{add-zero}
use native.Mathlib.Numerals.{add-one}
use native.Mathlib.Omega.{arith}
use mathlib.Core.Path.{◌≡◌, refl, sym, ap, ap₂, ◌∙◌}
use mathlib.Core.Bool.{true, false}
use mathlib.Core.List.{List, [], ◌∷◌, ◌++◌, append_assoc, append-nil}
use lib.ListN.{length, get_or, take, drop, set, length-append, length-set, length-drop, take-append-drop}
use lib.Seq.{drop-cons, drop-length, drop-set-lt, take-suc-set, get_or-set_same}
use Rattle.model.specs.Fill.{Plan, in_plan}
use Rattle.model.specs.Path.{Shown}
use Rattle.model.proofs.Lists.{drop-later}
use Rattle.model.specs.Route.{leg, route, middle}
use Rattle.model.proofs.Route.{between, leg-some, leg-planned, leg-between, held-path, path-fits}
use Rattle.plans.specs.Stands.{Leads}
use Rattle.paths.proofs.Trail.{Trail, Legs, none, next, ahead, left, On, Onward}

module _ (N : ℕ) (L : Plan) where
  -- a place of the plan leads straight to the entry, and any other by way of its middle
  ahead-planned : (a e : ℕ) (es : List ℕ) → in_plan N L a e ≡ true → ahead N L a (e ∷ es) ≡ e ∷ ahead N L e es
  unfolding ahead
  ahead-planned a e es p = ap (λ l. l ++ ahead N L e es) (leg-planned N L a e p)

  ahead-between : (a e : ℕ) (es : List ℕ) → Leads N L a e → in_plan N L a e ≡ false → ahead N L a (middle N L a e ∷ e ∷ es) ≡ ahead N L a (e ∷ es)
  unfolding ahead
  ahead-between a e es l p =
      sym (append_assoc (leg N L a (middle N L a e)) (leg N L (middle N L a e) e) (ahead N L e es))
      ∙ ap (λ k. k ++ ahead N L e es) (sym (leg-between N L a e l.inside p l.holds))

module _ {N : ℕ} {L : Plan} where
  uncons : {a e : ℕ} {es : List ℕ} → Legs N L a (e ∷ es) → Leads N L a e × Legs N L e es
  uncons (next l rest) = (l, rest)

  -- there are at least as many entries ahead as have to be reached
  legs-long : {a : ℕ} {es : List ℕ} → Legs N L a es → length es ≤ length (ahead N L a es)
  unfolding ahead
  legs-long none = omega arith
  legs-long (next {a} {e} {es} l rest) =
      omega (arith, length-append (leg N L a e) (ahead N L e es), leg-some N L a e l.inside l.holds, legs-long rest)

  module _ {list stack : List ℕ} {z : Trail} (on : On N L list stack z) (before : z.next < 601) where
    abbrev to : ℕ
    to = get_or stack z.next 0

    here : drop z.next stack ≡ to ∷ drop (suc z.next) stack
    here = drop-cons stack z.next 0 (omega (arith, on.deep))

    legs-here : Leads N L z.last to × Legs N L to (drop (suc z.next) stack)
    legs-here = uncons (rw here at on.legs)

    pub leads-here : Leads N L z.last to
    leads-here = legs-here.0

    some_left : 1 ≤ length (left N L stack z)
    some_left = omega (arith, legs-long on.legs, ap length here)

    pub room : z.count < length list
    room = omega (arith, some_left, on.fits)

    -- the entry is reached
    module _ (planned : in_plan N L z.last to ≡ true) where
      left_here : left N L stack z ≡ to ∷ ahead N L to (drop (suc z.next) stack)
      left_here = ap (ahead N L z.last) here ∙ ahead-planned N L z.last to _ planned

      pub reached : Onward N L list stack z (set list z.count to) stack (record { last = to; count = z.count + 1; next = z.next + 1 })
      reached =
          let rest = ahead N L to (drop (suc z.next) stack) in
          let counted = ap length left_here in
          rw (add-one z.count, add-one z.next)
          (record {
            same = ap (λ l. l ++ rest) (take-suc-set list z.count to room)
                ∙ append_assoc (take z.count list) (to ∷ []) rest
                ∙ ap (λ l. take z.count list ++ l) (sym left_here);
            total = omega arith;
            legs = legs-here.1;
            later = drop-set-lt (suc z.count) list z.count to (omega arith);
            long = length-set list z.count to;
            deep = on.deep;
            ends = before;
            written = omega arith;
            less = omega arith;
          })

    -- one before it has to be
    module _ (free : in_plan N L z.last to ≡ false) where
      abbrev h : ℕ
      h = middle N L z.last to

      more_legs : Legs N L z.last (h ∷ to ∷ drop (suc z.next) stack)
      more_legs =
          let l = leads-here in
          let i = l.inside in
          let m = between N L z.last to i free l.holds in
          let first : Leads N L z.last h = record { inside = omega arith; holds = m.first } in
          let second : Leads N L h to = record { inside = omega arith; holds = m.second } in
          next first (next second legs-here.1)

      left-same : ahead N L z.last (h ∷ drop z.next stack) ≡ left N L stack z
      left-same = rw here (ahead-between N L z.last to _ leads-here free)

      -- the stack has room for it
      pub deep_enough : 2 ≤ z.next
      deep_enough =
          let same = ap (λ l. length (ahead N L z.last (h ∷ l))) here in
          omega (arith, legs-long more_legs, same, ap length left-same, on.short, length-drop (suc z.next) stack, on.deep)

      pub pushed : {k : ℕ} → k ≡ h → Onward N L list stack z list (set stack (z.next - 1) k) (record { last = z.last; count = z.count; next = z.next - 1 })
      pushed {k} e =
          let low = deep_enough in
          let inside : z.next - 1 < length stack = omega (arith, on.deep) in
          let after : suc (z.next - 1) ≡ z.next = omega arith in
          let top : drop (z.next - 1) (set stack (z.next - 1) h) ≡ h ∷ drop z.next stack =
          drop-cons (set stack (z.next - 1) h) (z.next - 1) 0 (rw length-set inside)
          ∙ ap₂ ◌∷◌ (get_or-set_same stack (z.next - 1) h 0 inside)
          (drop-set-lt (suc (z.next - 1)) stack (z.next - 1) h (omega arith) ∙ ap (λ k. drop k stack) after)
          in
          let same : ahead N L z.last (drop (z.next - 1) (set stack (z.next - 1) h)) ≡ left N L stack z = ap (ahead N L z.last) top ∙ left-same in
          let counted = ap length same in
          rw e
          (record {
            same = ap (λ l. take z.count list ++ l) same;
            total = omega arith;
            legs = rw (top, here) more_legs;
            later = refl;
            long = refl;
            deep = length-set stack (z.next - 1) h ∙ on.deep;
            ends = omega arith;
            written = omega arith;
            less = omega arith;
          })

-- ---- the whole path

-- what is written and what is ahead are the path, and entries past what is written are as they were
pub record Tracing (N : ℕ) (L : Plan) (i j : ℕ) (before list stack : List ℕ) (z : Trail) : Type 0 where
  pub path : take z.count list ++ left N L stack z ≡ route N L i j
  pub total : z.count + length (left N L stack z) ≡ length (route N L i j)
  pub legs : Legs N L z.last (drop z.next stack)
  pub later : drop z.count list ≡ drop z.count before
  pub long : length list ≡ length before
  pub deep : length stack ≡ 601
  pub ends : z.next ≤ 601
  pub some : 1 ≤ z.count

module _ {N : ℕ} {L : Plan} {i j : ℕ} (l : Leads N L i j) where
  -- a path has at most N + 1 entries
  route-short : length (route N L i j) ≤ suc N
  route-short = path-fits N L i j (route N L i j) (held-path N L i j l.inside l.holds)

  -- the first entry is written, and the last is to be reached
  pub begun : (entry stack : List ℕ) → N < length entry → length stack ≡ 601
      → Tracing N L i j (set entry 0 i) (set entry 0 i) (set stack 600 j) (record { last = i; count = 1; next = 600 })
  unfolding ahead
  begun entry stack long deep =
      let top : drop 600 (set stack 600 j) ≡ j ∷ [] =
      drop-cons (set stack 600 j) 600 0 (omega (arith, length-set stack 600 j))
      ∙ ap₂ ◌∷◌ (get_or-set_same stack 600 j 0 (omega arith)) (drop-set-lt 601 stack 600 j (omega arith) ∙ ap (λ k. drop k stack) (sym deep) ∙ drop-length stack)
      in
      let all : left N L (set stack 600 j) (record { last = i; count = 1; next = 600 }) ≡ leg N L i j =
      ap (ahead N L i) top ∙ append-nil (leg N L i j)
      in
      record {
        path = ap₂ ◌++◌ (take-suc-set entry 0 i (omega arith)) all;
        total = omega (arith, ap length all);
        legs = rw top (next l none);
        later = refl;
        long = refl;
        deep = length-set stack 600 j ∙ deep;
        ends = omega arith;
        some = omega arith;
      }

  module _ {before list stack : List ℕ} {z : Trail} (t : Tracing N L i j before list stack z) where
    pub counted : z.count ≤ suc N
    counted = omega (arith, t.total, route-short)

    -- there is room for what is ahead
    pub on_trail : N ≤ 600 → N < length before → On N L list stack z
    on_trail high long = record {
      legs = t.legs;
      fits = omega (arith, t.total, route-short, t.long);
      short = omega (arith, t.total, route-short, t.some);
      deep = t.deep;
    }

    pub turned : {list' stack' : List ℕ} {z' : Trail} → Onward N L list stack z list' stack' z' → Tracing N L i j before list' stack' z'
    turned {list'} {stack'} {z'} o = record {
      path = o.same ∙ t.path;
      total = o.total ∙ t.total;
      legs = o.legs;
      later = o.later ∙ drop-later list before z.count z'.count o.written t.later;
      long = o.long ∙ t.long;
      deep = o.deep;
      ends = o.ends;
      some = omega (arith, o.written, t.some);
    }

    -- at the end all of it is written
    module _ (ended : 601 ≤ z.next) where
      done : drop z.next stack ≡ []
      done = let end : z.next ≡ length stack = omega (arith, t.ends, t.deep) in ap (λ k. drop k stack) end ∙ drop-length stack

      pub whole : take z.count list ≡ route N L i j
      unfolding ahead
      whole = sym (append-nil (take z.count list)) ∙ ap (λ k. take z.count list ++ ahead N L z.last k) (sym done) ∙ t.path

      pub shown : (entry : List ℕ) → before ≡ set entry 0 i → Shown N L i j z.count entry list
      unfolding ahead
      shown entry first = record {
        entries = route N L i j;
        path = held-path N L i j l.inside l.holds;
        count = sym t.total ∙ ap (λ k. z.count + length (ahead N L z.last k)) done ∙ add-zero z.count;
        list = sym (take-append-drop z.count list)
            ∙ ap₂ ◌++◌ whole (t.later ∙ ap (drop z.count) first ∙ drop-set-lt z.count entry 0 i t.some);
      }
