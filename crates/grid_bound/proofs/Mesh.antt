-- One parcel's tick, and what it does to a task.
use Rattle.std.proofs.Common.{◌≡◌, ℕ, zero, suc, ◌+◌, ◌<◌, ◌≤◌, Bool, true, false, cond, ◌==◌}
use Rattle.std.proofs.Common.{◌⊎◌, inl, inr, Option, Some, None, refl, sym, subst, arith}
use Rattle.std.proofs.lemmas.Bool.{cond_both, eqb-false, eq-eqb}
use Rattle.operand_net.specs.declared.parcel.Trip.{Trip}
use Rattle.operand_net.specs.declared.parcel.Stand.{Stand}
use Rattle.operand_net.specs.declared.parcel.Stand.TheVariants.{Nowhere, Away, Held}
use Rattle.operand_net.specs.Tick.{next_of}
use Rattle.grid_cycle_spec.specs.inside.Stations.{far}
use Rattle.grid_cycle_spec.specs.inside.Laws.{IsNearer}
use Rattle.grid_cycle_spec.proofs.Routes.{far_at_most, leads_nearer}
use Rattle.grid_bound.specs.inside.Course.{Target, OnMesh}
use Rattle.grid_bound.specs.inside.Lane.{Phase, Absent, Idle, Working, Asking, Standing, Sent}
use Rattle.grid_bound.specs.inside.Sending.{parcel, launch}
use Rattle.grid_bound.specs.inside.Moving.{taken, goes, asked, moved, is_nowhere, landed}
use Rattle.grid_bound.specs.inside.Left.{parcel_left, task_left}
use Rattle.grid_bound.specs.inside.Laws.{Bounded, Has, Landed, OnItsWay}

held_left : (trip : Trip) (h : ℕ) → h ≤ 3 → parcel_left (taken (Held trip h)) ≤ 3
held_left trip zero l = omega arith
held_left trip (suc h) l = l

held_bounded : (trip : Trip) (h : ℕ) → h ≤ 3 → Bounded (taken (Held trip h))
held_bounded trip zero l = tt
held_bounded trip (suc h) l = (omega arith, l)

-- a link on its way
nearer : (trip : Trip) (a : ℕ) → (a < 25) × (trip.to < 25) → (a == trip.to) ≡ false → IsNearer a trip.to
nearer trip a b e = leads_nearer a trip.to b.0 b.1 (eqb-false _ _ e)

-- where a parcel stands that goes on: at its end, or over its next link
abbrev onward : ℕ → Trip → ℕ → Stand
onward hold trip a = cond (next_of a trip.to == trip.to) (Held trip hold) (Away trip (next_of a trip.to))

onward_left : (h : ℕ) (trip : Trip) (a : ℕ) → h ≤ 3 → (a < 25) × (trip.to < 25) → (a == trip.to) ≡ false
    → parcel_left (taken (onward h trip a)) + 1 ≤ far a trip.to + 4
onward_left h trip a l b e = cond_both (next_of a trip.to == trip.to) (Held trip h) (Away trip (next_of a trip.to))
    (λ s. parcel_left (taken s) + 1 ≤ far a trip.to + 4)
    (λ k. let x : parcel_left (taken (Held trip h)) ≤ 3 = held_left trip h l in omega (arith, x))
    (λ k. let x : far (next_of a trip.to) trip.to + 1 ≡ far a trip.to = (nearer trip a b e).nearer in
    omega (arith, x))

onward_bounded : (h : ℕ) (trip : Trip) (a : ℕ) → h ≤ 3 → (a < 25) × (trip.to < 25) → (a == trip.to) ≡ false
    → Bounded (taken (onward h trip a))
onward_bounded h trip a l b e = cond_both (next_of a trip.to == trip.to) (Held trip h) (Away trip (next_of a trip.to))
    (λ s. Bounded (taken s)) (λ k. held_bounded trip h l) (λ k. ((nearer trip a b e).inside, b.1))

-- what holds of a parcel that goes, in whichever way
away_both : (free : Bool) (h : ℕ) (trip : Trip) (a : ℕ) (P : Stand → Type 0)
    → ((a == trip.to) ≡ true → P (taken (Held trip h)))
    → ((a == trip.to) ≡ false → free ≡ true → P (taken (onward h trip a)))
    → ((a == trip.to) ≡ false → free ≡ false → P (Away trip a)) → P (goes free h (Away trip a))
away_both free h trip a P come on stay = cond_both (a == trip.to) (Held trip h)
    (cond free (onward h trip a) (Away trip a)) (λ s. P (taken s)) come
    (λ e. cond_both free (onward h trip a) (Away trip a) (λ s. P (taken s)) (λ k. on e k) (λ k. stay e k))

-- a tick never adds
pub goes_left : (free : Bool) (h : ℕ) (p : Stand) → h ≤ 3 → Bounded p → parcel_left (goes free h p) ≤ parcel_left p
goes_left free h Nowhere l b = omega arith
goes_left free h (Held trip zero) l b = omega arith
goes_left free h (Held trip (suc zero)) l b = omega arith
goes_left free h (Held trip (suc (suc k))) l b = omega arith
goes_left free h (Away trip a) l b = away_both free h trip a (λ s. parcel_left s ≤ far a trip.to + 4)
    (λ e. let x : parcel_left (taken (Held trip h)) ≤ 3 = held_left trip h l in omega (arith, x))
    (λ e k. let x : parcel_left (taken (onward h trip a)) + 1 ≤ far a trip.to + 4 = onward_left h trip a l b e in
    omega (arith, x))
    (λ e k. omega arith)

-- a parcel that is at its end, and one whose link is free
abbrev pub Leaves : Bool → Stand → Type 0
Leaves free Nowhere = ⊥
Leaves free (Held trip h) = Unit {0}
Leaves free (Away trip a) = (a == trip.to) ≡ false → free ≡ true

pub goes_drop : (free : Bool) (h : ℕ) (p : Stand) → h ≤ 3 → Bounded p → Leaves free p
    → parcel_left (goes free h p) + 1 ≤ parcel_left p
goes_drop free h Nowhere l b g = absurd g
goes_drop free h (Held trip zero) l b g = let i : 1 ≤ 0 = b.0 in absurd (omega (arith, i))
goes_drop free h (Held trip (suc zero)) l b g = omega arith
goes_drop free h (Held trip (suc (suc k))) l b g = omega arith
goes_drop free h (Away trip a) l b g = away_both free h trip a (λ s. parcel_left s + 1 ≤ far a trip.to + 4)
    (λ e. let x : parcel_left (taken (Held trip h)) ≤ 3 = held_left trip h l in omega (arith, x))
    (λ e k. onward_left h trip a l b e)
    (λ e k. absurd (let i : free ≡ true = g e in cc))

-- bounds ----------------------------------------------------------------------------------------

-- a parcel that goes on stays on the mesh, held for 1 to 3 cycles at most
pub goes_bounded : (free : Bool) (h : ℕ) (p : Stand) → h ≤ 3 → Bounded p → Bounded (goes free h p)
goes_bounded free h Nowhere l b = tt
goes_bounded free h (Held trip zero) l b = tt
goes_bounded free h (Held trip (suc zero)) l b = tt
goes_bounded free h (Held trip (suc (suc k))) l b = (omega arith, (let i : suc (suc k) ≤ 3 = b.1 in omega (arith, i)))
goes_bounded free h (Away trip a) l b = away_both free h trip a Bounded
    (λ e. held_bounded trip h l) (λ e k. onward_bounded h trip a l b e) (λ e k. b)

-- a parcel that is where it is to be is on the mesh
pub landed_bounded : (come : ℕ → Bool) (p : Stand) (t : Option Target) → Landed come p t → Bounded p
landed_bounded come Nowhere t h = tt
landed_bounded come (Away trip a) t h = h
landed_bounded come (Held trip k) t h = h

-- a parcel on its way is on the mesh
pub way_bounded : (p : Stand) → OnItsWay p → Bounded p
way_bounded Nowhere h = tt
way_bounded (Away trip a) h = h
way_bounded (Held trip k) h = h

-- a parcel on the mesh has at most 12 cycles left
pub bounded_left : (p : Stand) → Bounded p → parcel_left p ≤ 12
bounded_left Nowhere b = omega arith
bounded_left (Away trip a) b = let i : far a trip.to ≤ 8 = far_at_most a trip.to b.0 b.1 in omega (arith, i)
bounded_left (Held trip k) b = let i : k ≤ 3 = b.1 in omega (arith, i)

-- tokens ----------------------------------------------------------------------------------------

has_more : (come come2 : ℕ → Bool) (t : Option Target) → ((s : ℕ) → come s ≡ true → come2 s ≡ true) → Has come t
    → Has come2 t
has_more come come2 None more h = tt
has_more come come2 (Some t) more h = more t.spot h

-- where more spots have their token, a parcel is still where it is to be
pub landed_more : (come come2 : ℕ → Bool) (p : Stand) (t : Option Target)
    → ((s : ℕ) → come s ≡ true → come2 s ≡ true) → Landed come p t → Landed come2 p t
landed_more come come2 Nowhere t more h = has_more come come2 t more h
landed_more come come2 (Away trip a) t more h = h
landed_more come come2 (Held trip k) t more h = h

landed_from : (come2 : ℕ → Bool) (p q : Stand) (t : Option Target) → is_nowhere p ≡ false → Bounded q
    → ((s : ℕ) → landed p q t s ≡ true → come2 s ≡ true) → Landed come2 q t
landed_from come2 p Nowhere None n b new = tt
landed_from come2 p Nowhere (Some t) n b new = new t.spot (simp n (eq-eqb t.spot t.spot refl))
landed_from come2 p (Away trip a) t n b new = b
landed_from come2 p (Held trip k) t n b new = b

-- a token that is nowhere stays delivered, and one that comes is delivered
pub landed_kept : (m : Bool) (h : ℕ) (come come2 : ℕ → Bool) (p : Stand) (t : Option Target) → h ≤ 3
    → ((s : ℕ) → come s ≡ true → come2 s ≡ true) → ((s : ℕ) → landed p (goes m h p) t s ≡ true → come2 s ≡ true)
    → Landed come p t → Landed come2 (goes m h p) t
landed_kept m h come come2 Nowhere t l more new k = has_more come come2 t more k
landed_kept m h come come2 (Away trip a) t l more new k =
    landed_from come2 (Away trip a) (goes m h (Away trip a)) t refl (goes_bounded m h (Away trip a) l k) new
landed_kept m h come come2 (Held trip c) t l more new k =
    landed_from come2 (Held trip c) (goes m h (Held trip c)) t refl (goes_bounded m h (Held trip c) l k) new

-- launching -------------------------------------------------------------------------------------

-- a parcel that is launched on the mesh is where it is to be
pub launch_landed : (come : ℕ → Bool) (g p : ℕ) (t : Option Target) → p < 25 → OnMesh t → Landed come (launch g p t) t
launch_landed come g p None l n = tt
launch_landed come g p (Some t) l n = (l, n)

-- a parcel that is launched on the mesh has at most 12 cycles left
pub launch_left : (g p : ℕ) (t : Option Target) → p < 25 → OnMesh t → parcel_left (launch g p t) ≤ 12
launch_left g p None l n = omega arith
launch_left g p (Some t) l n = bounded_left (parcel g p t.there) (l, n)

-- a task's tick ---------------------------------------------------------------------------------

asked_left : (c : ℕ) (p : Stand) → task_left c (asked p) ≤ parcel_left p + 25
asked_left c Nowhere = omega arith
asked_left c (Away trip a) = omega arith
asked_left c (Held trip k) = omega arith

-- the bounds of a task's parcels
abbrev pub Both : Phase → Type 0
Both Absent = Unit {0}
Both Idle = Unit {0}
Both Working = Unit {0}
Both (Asking p) = Bounded p
Both Standing = Unit {0}
Both (Sent p q) = Bounded p × Bounded q

-- a tick raises nothing of what a task has left
pub moved_left : (m k : Bool) (h j c : ℕ) (w : Phase) → h ≤ 3 → j ≤ 3 → Both w
    → task_left c (moved m k h j w) ≤ task_left c w
moved_left m k h j c Absent l i b = omega arith
moved_left m k h j c Idle l i b = omega arith
moved_left m k h j c Working l i b = omega arith
moved_left m k h j c (Asking p) l i b =
    let a : task_left c (asked (goes m h p)) ≤ parcel_left (goes m h p) + 25 = asked_left c (goes m h p) in
    let d : parcel_left (goes m h p) ≤ parcel_left p = goes_left m h p l b in
    omega (arith, a, d)
moved_left m k h j c Standing l i b = omega arith
moved_left m k h j c (Sent p q) l i b =
    let a : parcel_left (goes m h p) ≤ parcel_left p = goes_left m h p l b.0 in
    let d : parcel_left (goes k j q) ≤ parcel_left q = goes_left k j q i b.1 in
    omega (arith, a, d)

-- a tick in which the first parcel of a task moves lowers what the task has left
pub moved_drop_first : (m k : Bool) (h j c : ℕ) (w : Phase) (p : Stand) → h ≤ 3 → j ≤ 3 → Both w
    → (w ≡ Asking p) ⊎ ((q : Stand) × (w ≡ Sent p q)) → Leaves m p
    → task_left c (moved m k h j w) + 1 ≤ task_left c w
moved_drop_first m k h j c w p l i b (inl e) g = subst (λ w. task_left c (moved m k h j w) + 1 ≤ task_left c w)
    (sym e)
    (let n : Bounded p = subst Both e b in
    let a : task_left c (asked (goes m h p)) ≤ parcel_left (goes m h p) + 25 = asked_left c (goes m h p) in
    let d : parcel_left (goes m h p) + 1 ≤ parcel_left p = goes_drop m h p l n g in
    omega (arith, a, d))
moved_drop_first m k h j c w p l i b (inr r) g =
    subst (λ w. task_left c (moved m k h j w) + 1 ≤ task_left c w) (sym r.1)
    (let n : Bounded p × Bounded r.0 = subst Both r.1 b in
    let a : parcel_left (goes m h p) + 1 ≤ parcel_left p = goes_drop m h p l n.0 g in
    let d : parcel_left (goes k j r.0) ≤ parcel_left r.0 = goes_left k j r.0 i n.1 in
    omega (arith, a, d))

-- a tick in which the second parcel of a task moves lowers what the task has left
pub moved_drop_second : (m k : Bool) (h j c : ℕ) (p q : Stand) → h ≤ 3 → j ≤ 3 → Bounded p × Bounded q → Leaves k q
    → task_left c (moved m k h j (Sent p q)) + 1 ≤ task_left c (Sent p q)
moved_drop_second m k h j c p q l i b g =
    let a : parcel_left (goes m h p) ≤ parcel_left p = goes_left m h p l b.0 in
    let d : parcel_left (goes k j q) + 1 ≤ parcel_left q = goes_drop k j q i b.1 g in
    omega (arith, a, d)
