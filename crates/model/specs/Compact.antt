-- The second compiler: the plain program with slots used again. Document 02, A.11. Definitions only.
use Rattle.std.specs.Prelude.{ℕ, suc, ◌-◌, min, max, Bool, false, cond, ◌||◌, List, [], ◌∷◌, ◌++◌, map, eqb, length, get_or, Float}
use Rattle.model.specs.Lists.{kept, count}
use Rattle.model.specs.Fill.{Plan}
use Rattle.model.specs.Formula.{C, Y, X, put}
use Rattle.model.specs.Program.{Record, rec, compiled_records, program}
use Rattle.model.specs.Check.{Kind, opens, subtracts, divides, closes, closes_pivot, none, kind_of}

-- ---- how long a value is needed. Plain records open each slot once, so a plain slot stands for its value. o is the plain slot that is open, 0 if none is.

abbrev pub open_after : ℕ → Kind → ℕ → ℕ
open_after o (opens C) q = q
open_after o (opens Y) q = 0
open_after o (opens X) q = 0
open_after o (subtracts t) q = o
open_after o divides q = o
open_after o closes q = 0
open_after o closes_pivot q = 0
open_after o none q = o

-- the slots of C that a record reads or closes, 0 for none: one by p or as the open target,
abbrev pub touches : ℕ → Kind → ℕ → ℕ
touches o (opens t) p = 0
touches o (subtracts t) p = p
touches o divides p = p
touches o closes p = o
touches o closes_pivot p = o
touches o none p = 0

-- and one more by q
abbrev pub touches_too : Kind → ℕ → ℕ
touches_too (opens t) q = 0
touches_too (subtracts C) q = q
touches_too (subtracts Y) q = 0
touches_too (subtracts X) q = 0
touches_too divides q = 0
touches_too closes q = 0
touches_too closes_pivot q = 0
touches_too none q = 0

-- One of the records left reads slot j or closes it: once opened, "a value is alive from its opening to that record" which reads it last, "or to its closing
-- if nobody reads it".
unfoldable pub needed : ℕ → ℕ → List Record → Bool
needed o j [] = false
needed o j (r ∷ rs) =
    let k = kind_of r.kind in
    eqb j (touches o k r.p) || (eqb j (touches_too k r.q) || needed (open_after o k r.q) j rs)

-- ---- the renaming

-- where it stands: the slot given to each plain slot opened so far, the plain slot that is open, the free slots, the one freed last first, and how many
-- there are of all
pub record Renaming : Type 0 where
  pub given : List ℕ
  pub target : ℕ
  pub free : List ℕ
  pub made : ℕ

-- the slot that plain slot j has now, 0 for none
abbrev pub slot_of : Renaming → ℕ → ℕ
slot_of z j = cond (eqb j 0) 0 (get_or z.given (j - 1) 0)

-- "Among free slots the one freed last is taken …; a new one only when none is free."
abbrev pub giving : List ℕ → Renaming → Renaming
giving [] z = record { given = z.given ++ (suc z.made ∷ []); target = z.target; free = []; made = suc z.made }
giving (k ∷ ks) z = record { given = z.given ++ (k ∷ []); target = z.target; free = ks; made = z.made }

-- a record that opens a plain slot is given one for it
abbrev pub after_opening : Kind → Renaming → Renaming
after_opening (opens C) z = giving z.free z
after_opening (opens Y) z = z
after_opening (opens X) z = z
after_opening (subtracts t) z = z
after_opening divides z = z
after_opening closes z = z
after_opening closes_pivot z = z
after_opening none z = z

-- a record with the slots given for the plain ones
abbrev pub renamed_record : Renaming → Kind → Record → Record
renamed_record z (opens C) r = rec r.kind r.p (slot_of z r.q)
renamed_record z (opens Y) r = r
renamed_record z (opens X) r = r
renamed_record z (subtracts C) r = rec r.kind (slot_of z r.p) (slot_of z r.q)
renamed_record z (subtracts Y) r = rec r.kind (slot_of z r.p) r.q
renamed_record z (subtracts X) r = rec r.kind (slot_of z r.p) r.q
renamed_record z divides r = rec r.kind (slot_of z r.p) r.q
renamed_record z closes r = r
renamed_record z closes_pivot r = r
renamed_record z none r = r

-- the slot of plain slot j if none of the records left needs it any more, else 0
abbrev pub freed : Renaming → ℕ → List Record → ℕ → ℕ
freed z o rs j = cond (needed o j rs) 0 (slot_of z j)

abbrev pub pushed : ℕ → List ℕ → List ℕ
pushed k ks = cond (eqb k 0) ks (k ∷ ks)

-- the slots a and b, 0 for none, are free: "the highest-numbered" of them is taken first
abbrev pub released : ℕ → ℕ → List ℕ → List ℕ
released a b ks = pushed (max a b) (cond (eqb a b) ks (pushed (min a b) ks))

-- after the record, what it needed last is free: a slot is given again "once its last reading record has passed"
unfoldable pub after_record : Renaming → Record → List Record → Renaming
after_record z r rs =
    let k = kind_of r.kind in
    let o = open_after z.target k r.q in
    record {
      given = z.given;
      target = o;
      free = released (freed z o rs (touches z.target k r.p)) (freed z o rs (touches_too k r.q)) z.free;
      made = z.made;
    }

-- the renamed records, and how many slots they have
pub record Renamed : Type 0 where
  pub records : List Record
  pub slots : ℕ

unfoldable pub renamed : Renaming → List Record → Renamed
renamed z [] = record { records = []; slots = z.made }
renamed z (r ∷ rs) =
    let w = after_opening (kind_of r.kind) z in
    let rest = renamed (after_record w r rs) rs in
    record { records = renamed_record w (kind_of r.kind) r ∷ rest.records; slots = rest.slots }

abbrev pub unnamed : Renaming
unnamed = record { given = []; target = 0; free = []; made = 0 }

unfoldable pub compacting : ℕ → Plan → Renamed
compacting N L = renamed unnamed (compiled_records N L)

unfoldable pub compact_slots : ℕ → Plan → ℕ
compact_slots N L = (compacting N L).slots

unfoldable pub compact_records : ℕ → Plan → List Record
compact_records N L = (compacting N L).records

unfoldable pub compacted : ℕ → Plan → List ℕ
compacted N L = program N (length L) (compact_slots N L) (compact_records N L)

-- ---- "C holds what each slot closed last."

-- the slots that the records open, in their order
abbrev pub openings : List Record → List ℕ
openings rs = map (λ r. r.q) (kept (λ r. eqb r.kind 1) rs)

-- the values vs closed in turn, each in the slot opened for it: a slot that is closed again holds the later value
unfoldable pub closed_into : List Float → List ℕ → List Float → List Float
closed_into cs [] vs = cs
closed_into cs (k ∷ ks) [] = cs
closed_into cs (k ∷ ks) (v ∷ vs) = closed_into (put cs (k - 1) v) ks vs

-- ---- "Then s must equal the largest number alive at any record."

-- at each record, with h slots opened before it and o open: how many of those opened, its own among them, it or a later one needs
unfoldable pub most_alive : ℕ → ℕ → List Record → ℕ
most_alive h o [] = 0
most_alive h o (r ∷ rs) =
    let k = kind_of r.kind in
    let h' = max h (open_after 0 k r.q) in
    max (count (λ j. needed o j (r ∷ rs)) h') (most_alive h' (open_after o k r.q) rs)
