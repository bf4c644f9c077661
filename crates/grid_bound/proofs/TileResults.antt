-- Part (5), results, as a whole: what tile k's unit does to the oldest frame before it issues.
use Rattle.std.proofs.Common.{◌≡◌, ◌≢◌, ℕ, zero, suc, ◌*◌, ◌-◌, ◌≤◌, ◌==◌, ◌⊎◌, inl, inr, Bool, true}
use Rattle.std.proofs.Common.{false, cond, List, [], ◌∷◌, Option, Some, None, slice_index, refl, sym, ap, ap₂, ◌∙◌}
use Rattle.std.proofs.Common.{subst, arith}
use Rattle.std.proofs.lemmas.Bool.{cond_both, cond-true, and_from, and_parts, both_ways, cases_eq, eqb-true}
use Rattle.std.proofs.lemmas.Bool.{eq-eqb}
use Rattle.trips_isa.specs.declared.block.Inst.{Inst}
use Rattle.trips_isa.specs.declared.block.Block.{Block}
use Rattle.trips_isa.specs.declared.form.Form.{Form}
use Rattle.trips_isa.specs.declared.form.Form.TheVariants as form
use Rattle.trips_isa.specs.Forms.{form_of}
use Rattle.trips_isa.specs.Rule.{Answer}
use Rattle.trips_isa.specs.Blocks.{at_place}
use Rattle.block_cases.specs.Orders.{slot_of}
use Rattle.commit_flush_spec.specs.Frames.{Frame, at}
use Rattle.commit_flush_spec.specs.inside.Invariant.{AllGood}
use Rattle.commit_flush_spec.specs.inside.Laws.{WindowOk}
use Rattle.grid_cycle_spec.specs.Stations.{tile_node, tile_of}
use Rattle.grid_cycle_spec.specs.Grid.{Grid}
use Rattle.grid_cycle_spec.specs.Choosing.{least, eldest, found_in, slots, with_frame}
use Rattle.grid_cycle_spec.specs.Units.{result_enters, slot_enters, rests, result_chosen, in_unit, unit_on}
use Rattle.grid_bound.specs.inside.Course.{Course, Task}
use Rattle.grid_bound.specs.inside.Lane.{Phase, Working, Front}
use Rattle.grid_bound.specs.inside.Sending.{tile_of as lane_tile}
use Rattle.grid_bound.specs.inside.Turning.{finished}
use Rattle.grid_bound.specs.inside.Blocks.{course_of}
use Rattle.grid_bound.specs.inside.Seen.{phase_of, front_of}
use Rattle.grid_bound.specs.inside.Behind.{Behind}
use Rattle.grid_bound.specs.inside.UnitRule.{UnitRule}
use Rattle.grid_bound.proofs.Ahead.{same_number, younger_apart}
use Rattle.grid_bound.proofs.Others.{behind_at, behind_same, result_other}
use Rattle.grid_bound.proofs.Fronts.{front_behind}
use Rattle.grid_bound.proofs.Choosing.{IsLeast, is_least, none_least, elder_other}
use Rattle.grid_bound.proofs.Entering.{both_only}
use Rattle.grid_bound.proofs.UnitResults.{slots_are, finished_other, finished_busy, working_is}
use Rattle.grid_bound.proofs.UnitResults as finishing

-- units are as they were while results enter ---------------------------------------------------------

module _ {W : Type 0} where
  form_units : (k : Form) (i : Inst) (s : ℕ) (x : Frame) (m : Grid W) → (result_enters k i s x m).units ≡ m.units
  form_units form.Load i s x m = refl
  form_units form.Store i s x m = refl
  form_units form.Branch i s x m = refl
  form_units form.General i s x m = ap (λ (k : Grid W). k.units) (both_only (tile_node (tile_of s)) x m (2 * s))
  form_units form.Immediate i s x m = ap (λ (k : Grid W). k.units) (both_only (tile_node (tile_of s)) x m (2 * s))
  form_units form.Constant i s x m = ap (λ (k : Grid W). k.units) (both_only (tile_node (tile_of s)) x m (2 * s))

  slot_units : (o : Option Inst) (s : ℕ) (x : Frame) (m : Grid W) → (slot_enters o s x m).units ≡ m.units
  slot_units None s x m = refl
  slot_units (Some i) s x m = form_units (form_of i.op) i s x m

  result_units : (o : Option (ℕ × ℕ)) (m : Grid W) → (result_chosen o m).units ≡ m.units
  result_units None m = refl
  result_units (Some q) m = go m.window.frames
    where
      go : (fs : List Frame)
          → (with_frame q.0 (λ x k. slot_enters (slot_of x.code q.1) q.1 x (rests q.0 q.1 k)) fs m).units ≡ m.units
      go [] = refl
      go (x ∷ fs) = cond_both (x.number == q.0) (slot_enters (slot_of x.code q.1) q.1 x (rests q.0 q.1 m))
          (with_frame q.0 (λ x k. slot_enters (slot_of x.code q.1) q.1 x (rests q.0 q.1 k)) fs m)
          (λ k. k.units ≡ m.units) (λ z. slot_units (slot_of x.code q.1) q.1 x (rests q.0 q.1 m)) (λ z. go fs)

-- how busy units are behind a unit's turn
pub units_on : {W : Type 0} (k n : ℕ) (h : Grid W) → h.units k ≡ n
    → (t : ℕ) → (unit_on k n h).units t ≡ cond (t == k) (h.units k - 1) (h.units t)
units_on k zero h e t = go (t == k) refl
  where
    go : (b : Bool) → (t == k) ≡ b → h.units t ≡ cond b (h.units k - 1) (h.units t)
    go true z = let i : t ≡ k = eqb-true t k z in let u : h.units t ≡ h.units k = ap h.units i in omega (arith, e, u)
    go false z = refl
units_on k (suc zero) h e t =
    ap (λ u. u t) (result_units (eldest (in_unit h k) slots h.window.frames)
    (record h { units = λ t. cond (t == k) 0 (h.units t) }))
    ∙ ap (λ n. cond (t == k) n (h.units t)) (let z : 0 ≡ h.units k - 1 = omega (arith, e) in z)
units_on k (suc (suc n)) h e t =
    ap (λ n. cond (t == k) n (h.units t)) (let z : suc n ≡ h.units k - 1 = omega (arith, e) in z)

module _ {W : Type 0} (blocks : List Block) (good : AllGood blocks) (budget : ℕ) (h : Grid W) (e : Frame)
    (younger : List Frame) (i : h.window.frames ≡ e ∷ younger) (ok : WindowOk blocks budget h.window)
    (rule : UnitRule h e) (t : ℕ → Answer)
    (came : (s n : ℕ) → at e.requests n ≡ Some s → at e.spots s ≡ at_place e.code t s) (k : ℕ) where
  abbrev c : Course
  c = course_of e.code t

  abbrev F : Front
  F = front_of c h e

  -- how far a task is once the unit of tile k has given its result
  abbrev pub given : ℕ → Phase
  given x = cond (lane_tile F x == k) (finished F.generation (F.at x) (h.units k - 1) (c.task x)) (F.at x)

  -- the oldest frame behind the unit's result
  pub record AfterUnit (m : Grid W) : Type 0 where
    pub behind : List Frame
    pub frames : m.window.frames ≡ e ∷ behind
    pub state : m.window.state ≡ h.window.state
    pub over : m.window.over ≡ h.window.over
    pub generation : slice_index m.window.generations e.number ≡ slice_index h.window.generations e.number
    pub careful : m.careful e.number ≡ h.careful e.number
    pub phases : (x : ℕ) → phase_of m e x ≡ given x

  -- a slot whose result is in a unit is a task of its tile
  task_tile : (s : ℕ) → h.works e.number s ≡ true → lane_tile F s ≡ tile_of s
  task_tile s w = ap (λ (k : Task). k.tile)
      (finishing.task_s blocks good budget h e younger i ok rule t came h s w refl refl refl refl)

  -- where no result is in the unit of the tile
  none_given : ((s : ℕ) → h.works e.number s ≡ true → tile_of s ≡ k → ⊥) → (x : ℕ) → F.at x ≡ given x
  none_given none x = go (lane_tile F x == k) refl
    where
      go : (b : Bool) → (lane_tile F x == k) ≡ b
          → F.at x ≡ cond b (finished F.generation (F.at x) (h.units k - 1) (c.task x)) (F.at x)
      go false z = refl
      go true z = sym (finished_other F.generation (h.units k - 1) (F.at x) (c.task x) (λ w.
          let l = working_is h e x w in
          none x l.1 (sym (task_tile x l.1) ∙ eqb-true (lane_tile F x) k z)))

  -- nothing changes but units
  unchanged : (m : Grid W) → Behind e h m → ((x : ℕ) → F.at x ≡ given x) → AfterUnit m
  unchanged m b same = record {
    behind = b.younger;
    frames = b.frames;
    state = b.state;
    over = b.over;
    generation = b.generation;
    careful = b.careful;
    phases = λ x. ap (λ (z : Front). z.at x) (front_behind c e h m b) ∙ same x;
  }

  abbrev less : Grid W
  less = record h { units = λ t. cond (t == k) 0 (h.units t) }

  less_behind : Behind e h less
  less_behind = behind_same e h h less refl refl refl refl refl (behind_at e h younger i)

  -- the unit gives the result that it has of the oldest frame
  module _ (one : h.units k ≡ 1) (s : ℕ) (works : h.works e.number s ≡ true) (tile : tile_of s ≡ k) where
    abbrev H : Grid W
    H = slot_enters (slot_of e.code s) s e (rests e.number s less)

    only : H ≡ record (rests e.number s less) { parcels = H.parcels }
    only = finishing.enters_only blocks good budget h e younger i ok rule t came less s works refl refl refl refl

    gives : (x : ℕ) → phase_of H e x ≡ given x
    gives x = by (cases_eq x s)
      where
        now : F.at s ≡ Working → phase_of H e s ≡ given s
        now w = finishing.phase_s blocks good budget h e younger i ok rule t came less s works refl refl refl refl
            ∙ sym (cond-true (lane_tile F s == k) _ _ (eq-eqb (lane_tile F s) k (task_tile s works ∙ tile))
            ∙ ap₂ (λ p n. finished F.generation p n (c.task s)) w
            (let z : h.units k - 1 ≡ 0 = omega (arith, one) in z))

        other : x ≢ s → (b : Bool) → (lane_tile F x == k) ≡ b
            → F.at x ≡ cond b (finished F.generation (F.at x) (h.units k - 1) (c.task x)) (F.at x)
        other n false z = refl
        other n true z = sym (finished_other F.generation (h.units k - 1) (F.at x) (c.task x) (λ w.
            let l = working_is h e x w in
            n (rule.alone x s l.1 works (sym (task_tile x l.1) ∙ eqb-true (lane_tile F x) k z ∙ sym tile))))

        by : (x ≡ s) ⊎ (x ≡ s → ⊥) → phase_of H e x ≡ given x
        by (inl z) = subst (λ x. phase_of H e x ≡ given x) (sym z)
            (now (finishing.works_now blocks good budget h e younger i ok rule t came less s works refl refl refl
            refl))
        by (inr n) = finishing.others_same blocks good budget h e younger i ok rule t came less s works
            refl refl refl refl x n ∙ other n (lane_tile F x == k) refl

    by_own : AfterUnit H
    by_own = record {
      behind = younger;
      frames = ap (λ (m : Grid W). m.window.frames) only ∙ i;
      state = ap (λ (m : Grid W). m.window.state) only;
      over = ap (λ (m : Grid W). m.window.over) only;
      generation = ap (λ (m : Grid W). slice_index m.window.generations e.number) only;
      careful = ap (λ (m : Grid W). m.careful e.number) only;
      phases = gives;
    }

    turn_is : result_chosen (Some (e.number, s)) less ≡ H
    turn_is = ap (λ l. with_frame e.number (λ x m. slot_enters (slot_of x.code s) s x (rests e.number s m)) l less) i
        ∙ cond-true (e.number == e.number) _ _ (same_number e.number)

  -- the unit's time is over
  is_over : h.units k ≡ 1 → AfterUnit (unit_on k 1 h)
  is_over one = subst (λ l. AfterUnit (result_chosen (eldest (in_unit h k) slots l) less)) (sym i)
      (go (least (in_unit h k e) slots 0) refl)
    where
      tail : (q : Option (ℕ × ℕ)) → eldest (in_unit h k) slots younger ≡ q → Behind e h (result_chosen q less)
      tail None z = less_behind
      tail (Some q) z = result_other blocks good budget e h less ok less_behind q
          (elder_other (in_unit h k) slots e.number younger q (younger_apart blocks budget h.window e younger ok i) z)

      go : (o : Option ℕ) → least (in_unit h k e) slots 0 ≡ o
          → AfterUnit (result_chosen (found_in e o (eldest (in_unit h k) slots younger)) less)
      go None z = unchanged _ (tail (eldest (in_unit h k) slots younger) refl) (none_given (λ s w tile.
          both_ways (in_unit h k e s)
          (none_least (in_unit h k e) slots z s (let n = slots_are in
          let l = finishing.small blocks good budget h e younger i ok rule t came h s w refl refl refl refl in
          omega (arith, n, l)))
          (and_from (h.works e.number s) _ w (eq-eqb (tile_of s) k tile))))
      go (Some s) z =
          let l : IsLeast (in_unit h k e) slots s = is_least (in_unit h k e) slots s z in
          let p = and_parts (h.works e.number s) (tile_of s == k) l.passes in
          subst AfterUnit (sym (turn_is one s p.0 (eqb-true (tile_of s) k p.1)))
          (by_own one s p.0 (eqb-true (tile_of s) k p.1))

  -- a unit's result leads the oldest frame to where the lane's does
  pub after_unit : (n : ℕ) → h.units k ≡ n → AfterUnit (unit_on k n h)
  after_unit zero z = unchanged h (behind_at e h younger i) (none_given (λ s w tile.
      let b : 1 ≤ h.units (tile_of s) = (rule.working s w).busy in
      let u : h.units (tile_of s) ≡ h.units k = ap h.units tile in absurd (omega (arith, b, u, z))))
  after_unit (suc zero) z = is_over z
  after_unit (suc (suc n)) z = unchanged (record h { units = λ t. cond (t == k) (suc n) (h.units t) })
      (behind_same e h h (record h { units = λ t. cond (t == k) (suc n) (h.units t) }) refl refl refl refl refl
      (behind_at e h younger i))
      (λ x. sym (cond_both (lane_tile F x == k) (finished F.generation (F.at x) (h.units k - 1) (c.task x)) (F.at x)
      (λ p. p ≡ F.at x)
      (λ b. ap (λ n. finished F.generation (F.at x) n (c.task x))
      (let y : h.units k - 1 ≡ suc n = omega (arith, z) in y) ∙ finished_busy F.generation n (F.at x) (c.task x))
      (λ b. refl)))
