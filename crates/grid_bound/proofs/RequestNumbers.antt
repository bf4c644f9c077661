-- What waits with a number: its form, the requests that stand without it, and the stores that are resolved before it.
use Rattle.std.proofs.Common.{◌≡◌, ◌≢◌, ℕ, ◌==◌, ◌&&◌, not, Bool, true}
use Rattle.std.proofs.Common.{false, cond, ◌⊎◌, inl}
use Rattle.std.proofs.Common.{inr}
use Rattle.std.proofs.Common.{List, [], ◌∷◌, ◌++◌, Some, refl, sym, ap, ap₂, ◌∙◌}
use Rattle.std.proofs.Common.{subst, true≢false}
use Rattle.trips_isa.specs.declared.block.Inst.{Inst}
use Rattle.trips_isa.specs.declared.form.Form.{Form}
use Rattle.trips_isa.specs.declared.form.Form.TheVariants.{General, Immediate, Load, Store, Branch, Constant}
use Rattle.trips_isa.specs.Forms.{form_of, is_load, is_store}
use Rattle.block_cases.specs.Orders.{slot_of}
use Rattle.commit_flush_spec.specs.Frames.{Frame, at, numbers}
use Rattle.commit_flush_spec.specs.Ends.{all_below, store_came}
use Rattle.commit_flush_spec.specs.Window.{Load, Store}
use Rattle.commit_flush_spec.proofs.Committing.{both_true}
use Rattle.commit_flush_spec.specs.inside.Observers.{has_number}
use Rattle.grid_cycle_spec.specs.inside.Arrivals.{is_waiting}
use Rattle.commit_flush_spec.specs.Window.{in_flight}
use Rattle.commit_flush_spec.proofs.Look.{or_false}
use Rattle.grid_cycle_spec.specs.DataTiles.{all_resolved}
use Rattle.grid_bound.specs.inside.UnderWay.{Gives, InUnit, to_come}
use Rattle.grid_bound.proofs.EachFrame.{apart}
use Rattle.grid_bound.proofs.EachFrame.{same}
use Rattle.grid_bound.proofs.Travels.{and_none, result_of}

-- what waits -------------------------------------------------------------------------------------

-- a form with a number is that of a load or of a store
pub number_kind : (t : Form) → has_number t ≡ true → (is_load t ≡ true) ⊎ (is_store t ≡ true)
number_kind General e = absurd (true≢false (sym e))
number_kind Immediate e = absurd (true≢false (sym e))
number_kind Constant e = absurd (true≢false (sym e))
number_kind Branch e = absurd (true≢false (sym e))
number_kind Load e = inl refl
number_kind Store e = inr refl

-- a form that is a load's is that of a load
pub load_form : (t : Form) → is_load t ≡ true → t ≡ Load
load_form General e = absurd (true≢false (sym e))
load_form Immediate e = absurd (true≢false (sym e))
load_form Constant e = absurd (true≢false (sym e))
load_form Load e = refl
load_form Store e = absurd (true≢false (sym e))
load_form Branch e = absurd (true≢false (sym e))

-- what has come to its data tile is to come no more, and is in no unit
module _ (asked : ℕ → Bool) (f : Frame) (s : ℕ) (i : Inst) (had : asked i.number ≡ true) where
  -- a request that has come to its data tile is not still to come
  pub came : (t : Form) → has_number t ≡ true → to_come asked f t i s ≡ false
  came Load e = ap (λ b. is_waiting (at f.requests i.number) s && not b) had ∙ and_none _
  came Store e = ap (λ b. is_waiting (at f.requests i.number) s && not b) had ∙ and_none _
  came General e = refl
  came Immediate e = refl
  came Constant e = refl
  came Branch e = absurd (true≢false (sym e))

  given : (t : Form) → has_number t ≡ true → Gives asked f t i s → to_come asked f t i s ≡ true
  given Load e h = h
  given Store e h = h
  given General e h = absurd (true≢false (sym e))
  given Immediate e h = absurd (true≢false (sym e))
  given Constant e h = absurd (true≢false (sym e))
  given Branch e h = absurd (true≢false (sym e))

  -- the result of a load or a store that has come to its data tile is in no unit
  pub no_result : slot_of f.code s ≡ Some i → has_number (form_of i.op) ≡ true → InUnit asked f s → ⊥
  no_result is kind u =
      let r = result_of asked f s u in
      let it : r.inst ≡ i = (let y : Some r.inst ≡ Some i = sym r.is_inst ∙ is in cc) in
      true≢false (sym (given (form_of i.op) kind (subst (λ (j : Inst). Gives asked f (form_of j.op) j s) it r.gives))
      ∙ came (form_of i.op) kind)

-- requests ---------------------------------------------------------------------------------------

-- the requests after one has been answered
abbrev pub asked_but : (ℕ → ℕ → Bool) → ℕ → ℕ → ℕ → ℕ → Bool
asked_but asked m k x j = cond ((x == m) && (j == k)) false (asked x j)

module _ (asked : ℕ → ℕ → Bool) (m k : ℕ) where
  -- the request that is taken away is not asked any more
  pub but_here : asked_but asked m k m k ≡ false
  but_here = ap₂ (λ x y. cond (x && y) false (asked m k)) (same m) (same k)

  -- a request of another number stays as it was
  pub but_number : (j : ℕ) → j ≢ k → asked_but asked m k m j ≡ asked m j
  but_number j d = ap (λ y. cond ((m == m) && y) false (asked m j)) (apart j k d)
      ∙ ap (λ y. cond y false (asked m j)) (and_none (m == m))

  -- a request of another frame stays as it was
  pub but_frame : (x : ℕ) → x ≢ m → (j : ℕ) → asked_but asked m k x j ≡ asked x j
  but_frame x d j = ap (λ y. cond (y && (j == k)) false (asked x j)) (apart x m d)

-- a careful frame answers a load only behind its own stores
pub resolved_own : (m k : ℕ) (older : List Frame) (f : Frame) (younger : List Frame) → in_flight m older ≡ false
    → f.number ≡ m → all_resolved m k (older ++ f ∷ younger) ≡ true → all_below (store_came f) k ≡ true
resolved_own m k [] f younger e n h =
    sym (ap (λ b. cond b (all_below (store_came f) k) (all_below (store_came f) numbers && all_resolved m k younger))
    (ap (λ x. x == m) n ∙ same m)) ∙ h
resolved_own m k (g ∷ older) f younger e n h =
    let o = or_false (g.number == m) (in_flight m older) e in
    let rest : (all_below (store_came g) numbers && all_resolved m k (older ++ f ∷ younger)) ≡ true =
    sym (ap (λ b. cond b (all_below (store_came g) k)
    (all_below (store_came g) numbers && all_resolved m k (older ++ f ∷ younger))) o.0) ∙ h in
    resolved_own m k older f younger o.1 n (both_true _ _ rest).1
