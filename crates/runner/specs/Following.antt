-- What the records of a checked program leave, by its method, and the lengths that 14 asks for. Definitions only.
use Rattle.std.specs.Prelude.{ℕ, ◌+◌, ◌≤◌, ◌≡◌, Bool, true, false, List, map, length, Float, Result, Ok, Err}
use Rattle.model.specs.Arith.{clean}
use Rattle.model.specs.Formula.{Table, C, Y, X, number_of}
use Rattle.model.specs.Sweep.{moved}
use Rattle.model.specs.Check.{Kind, word, is_sweep, length_y, check, fine}
use Rattle.model.specs.Run as Run
use Rattle.model.specs.Run.{Outcome, solution, stopped, refused_by, unsettled_at, Reply, reply, entries_of}
use Rattle.model.proofs.Runs.{lengths_right, done_by}
use Rattle.state.specs.declared.State.{State}
use Rattle.state.specs.declared.Fault.{Fault}
use Rattle.state.specs.States.{number_of_fault, table_of, state_of, stepped_of, unopened, Ready, SweepReady, MovesStep}
use Rattle.runner.specs.declared.Stop.{Stop}

-- the run of all records
abbrev pub done : List ℕ → List Float → List Float → Float → Outcome
done W A B limit = done_by W A B limit (is_sweep (word W 2))

-- Where the records leave vs in table u: on a solution, and after 27, vs is the closed table, and after a refusal it is not yet cleared.
unfoldable pub stands : Outcome → Table → List Float → List Float
stands (solution t p q g k) u vs = entries_of t u
stands (unsettled_at t) u vs = entries_of t u
stands (stopped r k t n) u vs = vs
stands (refused_by r d) u vs = vs

-- what a run that ends by o tells, and how it leaves c, y and x before they are cleared
abbrev pub Stood : Outcome → Reply → List Float → List Float → List Float → Type 0
Stood o r c y x = (r ≡ reply o) × ((c ≡ stands o C c) × ((y ≡ stands o Y y) × (x ≡ stands o X x)))

-- 14's test of the lengths of A, B, C, Y and X, by record 0
abbrev pub lengths_fit : List ℕ → ℕ → ℕ → ℕ → ℕ → ℕ → Bool
lengths_fit W = lengths_right (word W 0) (word W 1) (word W 2)

-- 7 to 14 passed: the lengths of A, B, C, Y and X are n, N, s, N or 0, and N
pub record Fit (W : List ℕ) (la lb lc ly lx : ℕ) : Type 0 where
  pub checked : check W ≡ fine
  pub in_a : la ≡ word W 1
  pub in_b : lb ≡ word W 0
  pub in_c : lc ≡ word W 2
  pub in_y : ly ≡ length_y (word W 0) (word W 2)
  pub in_x : lx ≡ word W 0

-- ---- along the chain, by the method

-- what stands in C's or Y's place: in a sweep the values of A or B, as they are read
abbrev pub in_place : Bool → List Float → List Float → List Float
in_place true given lent = map clean given
in_place false given lent = lent

-- the state with what stands in the tables
abbrev pub holding : Bool → List Float → List Float → List Float → List Float → List Float → State → Run.State
holding sweep a b c y x z = state_of z (in_place sweep a c) (in_place sweep b y) x

abbrev pub stepped_by : Bool → List Float → List Float → List Float → List Float → List Float → Result State Fault → Run.Stepped
stepped_by sweep a b c y x r = stepped_of r (in_place sweep a c) (in_place sweep b y) x

abbrev pub followed_of : Bool → List Float → List Float → List Float → List Float → List Float → Result State Stop → Run.Followed
followed_of sweep a b c y x (Ok z) = Run.through (holding sweep a b c y x z)
followed_of sweep a b c y x (Err s) = Run.halted (number_of_fault s.fault) s.record (table_of s.table) s.target

-- what one record relies on, and what it tells of a move
abbrev pub ReadyBy : Bool → ℕ → ℕ → ℕ → ℕ → ℕ → State → ℕ → ℕ → ℕ → Type 0
ReadyBy true la lb lc ly lx z kind p q = SweepReady la lb lx z kind p q
ReadyBy false la lb lc ly lx z kind p q = Ready la lb lc ly lx z kind p q

abbrev pub MovesBy : Bool → Float → State → Kind → List Float → Result State Fault → Type 0
MovesBy true limit z k x r = MovesStep limit z k x r
MovesBy false limit z k x r = Unit {0}

-- A, B and X stand there whole, and no more was made than in so many records
pub record Whole (la lb lx most : ℕ) (z : State) : Type 0 where
  pub named : number_of (table_of z.table) ≡ z.table
  pub in_c : z.c ≡ la
  pub in_y : z.y ≡ lb
  pub in_x : z.x ≡ lx
  pub few : z.products + z.quotients ≤ most
  pub gone : z.vanished ≤ z.products

-- what the records begin with: nothing, or a sweep, of which there are at most 300
abbrev pub BeginsWith : Bool → ℕ → ℕ → ℕ → State → Type 0
BeginsWith true la lb lx z = Whole la lb lx 29900000000 z × (z.moved ≡ false)
BeginsWith false la lb lx z = z ≡ unopened

-- what they end with: all entries closed; or a sweep that tells whether a row moved, x₀ being the X before it
abbrev pub EndsWith : Bool → Float → ℕ → ℕ → List Float → List Float → List Float → List Float → State → Result State Stop → Type 0
EndsWith true limit la lb x₀ c y x z (Ok z') =
    Whole la lb (length x) (z.products + z.quotients + 100000000) z' × (z'.moved ≡ moved limit (length x) x₀ x)
EndsWith false limit la lb x₀ c y x z (Ok z') = (z'.c ≡ length c) × (z'.y ≡ length y) × (z'.x ≡ length x)
EndsWith sweep limit la lb x₀ c y x z (Err s) = number_of (table_of s.table) ≡ s.table
