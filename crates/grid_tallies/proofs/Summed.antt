-- Sums of what is counted.
use Rattle.std.proofs.Common.{◌≡◌, ◌≤◌, ◌<◌, ℕ, zero, suc, ◌+◌, ◌==◌, Bool, true, false, cond, List, [], ◌∷◌, length}
use Rattle.std.proofs.Common.{Option, Some, None, refl, sym, ap, ◌∙◌, true≢false, arith}
use Rattle.std.proofs.lemmas.Bool.{eq-eqb, eqb-true, ne_eqb}
use Rattle.trips_isa.specs.declared.op.Op.{Op}
use Rattle.trips_isa.specs.declared.op.Op.TheVariants as op
use Rattle.grid_events.specs.Notes.{MeshNote, Note, Why}
use Rattle.grid_events.specs.Notes as note
use Rattle.grid_events.specs.Counts.{tally, fired, links, on_mesh, one_if, parcels, waits}
use Rattle.grid_events.specs.Cycles.{told}
use Rattle.grid_tallies.specs.declared.statistic.Statistic.{Statistic}
use Rattle.grid_tallies.specs.declared.statistic.Statistic.TheVariants as statistic
use Rattle.grid_tallies.specs.Flights.{BeganWithFew, begun_below, in_flight}
use Rattle.grid_tallies.specs.Statistics.{cause_of, is_one, kind_of, place, weigh}
use Rattle.grid_tallies.proofs.Weighed.{works_none}

-- frames in flight -------------------------------------------------------------------------------

-- how many of the numbers below n are k
abbrev ones : ℕ → ℕ → ℕ
ones zero k = 0
ones (suc n) k = ones n k + one_if (n == k)

ones_none : (n k : ℕ) → n ≤ k → ones n k ≡ 0
ones_none zero k l = refl
ones_none (suc n) k l =
    let before = ones_none n k (omega (arith, l)) in
    let off : one_if (n == k) ≡ 0 = ap one_if (ne_eqb n k (λ z. omega (arith, l, z))) in
    omega (arith, before, off)

ones_one : (n k : ℕ) → k < n → ones n k ≡ 1
ones_one zero k l = omega (arith, l)
ones_one (suc n) k l = go (n == k) refl (ones_one n k)
  where
    less : (n ≡ k → ⊥) → k < n
    less ne = omega (arith, l, ne)

    go : (c : Bool) → (n == k) ≡ c → (k < n → ones n k ≡ 1) → ones n k + one_if (n == k) ≡ 1
    go true e h =
        let same : n ≡ k = eqb-true n k e in
        let before = ones_none n k (omega (arith, same)) in
        let here : one_if (n == k) ≡ 1 = ap one_if e in
        omega (arith, before, here)
    go false e h =
        let before = h (less (λ z. absurd (true≢false (sym (eq-eqb n k z) ∙ e)))) in
        let here : one_if (n == k) ≡ 0 = ap one_if e in
        omega (arith, before, here)

-- one cycle more counts for the number of its frames
one_below : (n before : ℕ) (es : List Note) (ess : List (List Note))
    → begun_below n before (es ∷ ess) ≡ ones n (in_flight before (told ess)) + begun_below n before ess
one_below zero before es ess = refl
one_below (suc n) before es ess = let e = one_below n before es ess in omega (arith, e)

none_below : (n before : ℕ) → begun_below n before [] ≡ 0
none_below zero before = refl
none_below (suc n) before = let e = none_below n before in omega (arith, e)

-- each cycle begins with a number of frames from 0 to 8
pub flights_sum : (before : ℕ) (ess : List (List Note)) → BeganWithFew before ess
    → begun_below 9 before ess ≡ length ess
flights_sum before [] few = none_below 9 before
flights_sum before (es ∷ ess) few =
    let rest = flights_sum before ess few.1 in
    let one = ones_one 9 (in_flight before (told ess)) few.0 in
    let more = one_below 9 before es ess in
    omega (arith, rest, one, more)

-- operations -------------------------------------------------------------------------------------

kind_sum : (o : Op) → 1 ≡ cond (is_one statistic.Movs (Some (kind_of (Some o)))) 1 0
    + cond (is_one statistic.Nulls (Some (kind_of (Some o)))) 1 0
    + cond (is_one statistic.Useful (Some (kind_of (Some o)))) 1 0
kind_sum op.Mov = refl
kind_sum op.Null = refl
kind_sum _ = refl

fired_one : (o : Option Op) → 1 ≡ cond (is_one statistic.Movs (Some (kind_of o))) 1 0
    + cond (is_one statistic.Nulls (Some (kind_of o))) 1 0 + cond (is_one statistic.Useful (Some (kind_of o))) 1 0
fired_one None = refl
fired_one (Some o) = kind_sum o

cause_none : (why : Why) → 0 ≡ weigh statistic.Movs (note.Flushes 0 why) + weigh statistic.Nulls (note.Flushes 0 why)
    + weigh statistic.Useful (note.Flushes 0 why)
cause_none note.Violation = refl
cause_none note.WrongExit = refl
cause_none note.End = refl

-- nothing is fired by what the mesh does
mesh_none : (m : MeshNote) → 0 ≡ weigh statistic.Movs (note.OnMesh m) + weigh statistic.Nulls (note.OnMesh m)
    + weigh statistic.Useful (note.OnMesh m)
mesh_none (note.Enters n p from to) = refl
mesh_none (note.Passes n p l) = refl
mesh_none (note.Waits n p l) = refl
mesh_none (note.Holds n p) = refl
mesh_none (note.Comes n p) = refl
mesh_none (note.Asks n k) = refl

note_sum : (x : Note) → fired x ≡ weigh statistic.Movs x + weigh statistic.Nulls x + weigh statistic.Useful x
note_sum (note.Begins k c) = refl
note_sum (note.Predicts n k) = refl
note_sum (note.GivesUp k) = refl
note_sum (note.Fetches n k) = refl
note_sum (note.Reads bank n r) = refl
note_sum (note.Works tile) =
    let a = works_none statistic.Movs tile (omega arith) in
    let b = works_none statistic.Nulls tile (omega arith) in
    let c = works_none statistic.Useful tile (omega arith) in
    omega (arith, a, b, c)
note_sum (note.Fires tile n s o) = fired_one o
note_sum (note.Delivers n p) = refl
note_sum (note.Loads tile n m) = refl
note_sum (note.Stores tile n m null) = refl
note_sum (note.Leaves n k) = refl
note_sum (note.Seals n) = refl
note_sum (note.Commits n k) = refl
note_sum (note.Traps n k) = refl
note_sum (note.Flushes n why) = cause_none why
note_sum (note.OnMesh m) = mesh_none m

-- what fires is a mov, a null or something useful
pub fired_sum : (es : List Note) → tally fired es ≡ tally (weigh statistic.Movs) es + tally (weigh statistic.Nulls) es
    + tally (weigh statistic.Useful) es
fired_sum [] = refl
fired_sum (x ∷ es) =
    let h = note_sum x in
    let k = fired_sum es in
    omega (arith, h, k)

-- the mesh ----------------------------------------------------------------------------------------

-- a statistic of the mesh counts what is noted of this, and nothing else
module _ (k : Statistic) (one : MeshNote → ℕ) (low : 9 ≤ place k) (high : place k < 12)
    (same : (m : MeshNote) → weigh k (note.OnMesh m) ≡ one m) where
  off : (n : ℕ) → n < 9 → ◌≡◌ {A = ℕ} (cond (place k == n) 1 0) 0
  off n l = ap (λ c. cond c 1 0) (ne_eqb (place k) n (λ z. omega (arith, l, low, z)))

  off_kind : (o : Option Op) → ◌≡◌ {A = ℕ} (cond (is_one k (Some (kind_of o))) 1 0) 0
  off_kind None = off 2 (omega arith)
  off_kind (Some op.Mov) = off 0 (omega arith)
  off_kind (Some op.Null) = off 1 (omega arith)
  off_kind (Some _) = off 2 (omega arith)

  off_cause : (why : Why) → ◌≡◌ {A = ℕ} (cond (is_one k (Some (cause_of why))) 1 0) 0
  off_cause note.Violation = off 5 (omega arith)
  off_cause note.WrongExit = off 6 (omega arith)
  off_cause note.End = off 7 (omega arith)

  mesh_note : (x : Note) → weigh k x ≡ on_mesh one x
  mesh_note (note.Begins n c) = refl
  mesh_note (note.Predicts n b) = off 8 (omega arith)
  mesh_note (note.GivesUp b) = refl
  mesh_note (note.Fetches n b) = refl
  mesh_note (note.Reads bank n r) = refl
  mesh_note (note.Works tile) = works_none k tile high
  mesh_note (note.Fires tile n s o) = off_kind o
  mesh_note (note.Delivers n p) = refl
  mesh_note (note.Loads tile n m) = off 3 (omega arith)
  mesh_note (note.Stores tile n m null) = off 4 (omega arith)
  mesh_note (note.Leaves n b) = refl
  mesh_note (note.Seals n) = refl
  mesh_note (note.Commits n b) = refl
  mesh_note (note.Traps n b) = refl
  mesh_note (note.Flushes n why) = off_cause why
  mesh_note (note.OnMesh m) = same m

  mesh_notes : (es : List Note) → tally (weigh k) es ≡ tally (on_mesh one) es
  mesh_notes [] = refl
  mesh_notes (x ∷ es) =
      let h = mesh_note x in
      let rest = mesh_notes es in
      omega (arith, h, rest)

parcels_one : (m : MeshNote) → weigh statistic.Parcels (note.OnMesh m) ≡ parcels m
parcels_one (note.Enters n p from to) = refl
parcels_one (note.Passes n p l) = refl
parcels_one (note.Waits n p l) = refl
parcels_one (note.Holds n p) = refl
parcels_one (note.Comes n p) = refl
parcels_one (note.Asks n k) = refl

links_one : (m : MeshNote) → weigh statistic.Links (note.OnMesh m) ≡ links m
links_one (note.Enters n p from to) = refl
links_one (note.Passes n p l) = refl
links_one (note.Waits n p l) = refl
links_one (note.Holds n p) = refl
links_one (note.Comes n p) = refl
links_one (note.Asks n k) = refl

waits_one : (m : MeshNote) → weigh statistic.Waits (note.OnMesh m) ≡ waits m
waits_one (note.Enters n p from to) = refl
waits_one (note.Passes n p l) = refl
waits_one (note.Waits n p l) = refl
waits_one (note.Holds n p) = refl
waits_one (note.Comes n p) = refl
waits_one (note.Asks n k) = refl

pub parcels_are : (es : List Note) → tally (weigh statistic.Parcels) es ≡ tally (on_mesh parcels) es
parcels_are = mesh_notes statistic.Parcels parcels (omega arith) (omega arith) parcels_one

pub links_are : (es : List Note) → tally (weigh statistic.Links) es ≡ tally (on_mesh links) es
links_are = mesh_notes statistic.Links links (omega arith) (omega arith) links_one

pub waits_are : (es : List Note) → tally (weigh statistic.Waits) es ≡ tally (on_mesh waits) es
waits_are = mesh_notes statistic.Waits waits (omega arith) (omega arith) waits_one
