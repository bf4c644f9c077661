-- Of each task of a running frame: its unit is busy while it works, and no token that it has sent is lost.
use Rattle.std.proofs.Common.{◌≡◌, ◌≢◌, ℕ, suc, ◌+◌, ◌-◌, ◌*◌, ◌%◌, ◌<◌, ◌==◌, ◌&&◌, ◌||◌, not, Bool, true, false}
use Rattle.std.proofs.Common.{cond, nat_lt, inl, inr, List, Option, Some, None, is_some, slice_get}
use Rattle.std.proofs.Common.{get_or, refl, sym, ap, ap₂, ◌∙◌, subst, true≢false, arith}
use Rattle.std.proofs.lemmas.Bool.{lt-ltb, le-ltb}
use Rattle.std.proofs.lemmas.Bool.Decides.{nat_tests}
use Rattle.trips_isa.specs.declared.block.Spot.{Spot}
use Rattle.trips_isa.specs.declared.block.Inst.{Inst}
use Rattle.trips_isa.specs.declared.block.ReadSlot.{ReadSlot}
use Rattle.trips_isa.specs.declared.block.Block.{Block}
use Rattle.trips_isa.specs.declared.form.Form.{Form}
use Rattle.trips_isa.specs.declared.form.Form.TheVariants.{General, Immediate, Load, Store, Branch, Constant}
use Rattle.trips_isa.specs.Forms.{form_of, is_load, is_store}
use Rattle.trips_isa.specs.Fits.{FitsForm}
use Rattle.trips_isa.specs.Places.{place_of, place_at, first_place, inst_node, inst_nodes, nodes_of}
use Rattle.trips_isa.specs.Rule.{Answer}
use Rattle.trips_isa.specs.Blocks.{at_place}
use Rattle.block_cases.specs.Orders.{slot_of}
use Rattle.operand_net.specs.declared.parcel.Stand.{Stand}
use Rattle.operand_net.specs.declared.parcel.Stand.TheVariants.{Nowhere, Away, Held}
use Rattle.operand_net.specs.inside.IsStands.{is_here}
use Rattle.commit_flush_spec.specs.Frames.{Frame, at, target, named_at, is_target}
use Rattle.commit_flush_spec.specs.Older.{Older}
use Rattle.commit_flush_spec.specs.inside.Invariant.{FrameOk, AllGood, has_sent, slot_sent, inst_sent}
use Rattle.commit_flush_spec.specs.inside.Laws.{NoneLost}
use Rattle.commit_flush_spec.proofs.Sends.{read_sends, read_source, slot_sends, slot_source}
use Rattle.commit_flush_spec.proofs.Stored.{inst_fits, number_small}
use Rattle.commit_flush_spec.proofs.Tokens.{inst_in, read_got, slot_got}
use Rattle.grid_cycle_spec.specs.Stations.{data_node, home}
use Rattle.grid_cycle_spec.specs.DataTiles.{tile_by}
use Rattle.grid_cycle_spec.specs.Grid.{Grid}
use Rattle.grid_cycle_spec.specs.inside.Arrivals.{is_waiting}
use Rattle.grid_bound.specs.inside.Course.{Kind, Reading, Plain, Serving, Target}
use Rattle.grid_bound.specs.inside.Lane.{Idle, Working, Asking, Standing, is_there}
use Rattle.grid_bound.specs.inside.Laws.{Bounded, FineAt, Has, Landed, OnItsWay}
use Rattle.grid_bound.specs.inside.Blocks.{first_of, kind_of, read_task, slot_task, slot_tasks, target_at}
use Rattle.grid_bound.specs.inside.Seen.{after_unit, asking, has_come, read_phase, sent_of, slot_phase}
use Rattle.grid_bound.specs.inside.UnderWay.{form_travels, Tied, to_come}
use Rattle.grid_bound.specs.inside.Rule.{HeldFrom, UnitsRule}
use Rattle.grid_bound.proofs.EachFrame.{same}
use Rattle.grid_bound.proofs.Travels.{even_first, first_travels, odd_second, read_travels, second_travels, some_is}
use Rattle.grid_bound.proofs.Sizes.{slot_tasks_is}

-- parcels ----------------------------------------------------------------------------------------

held_bounded : (s : Stand) → HeldFrom 1 s → Bounded s
held_bounded Nowhere h = tt
held_bounded (Away t a) h = h
held_bounded (Held t k) h = h

-- a parcel that is there is on its way
pub on_its_way : (s : Stand) → HeldFrom 1 s → is_here s ≡ true → OnItsWay s
on_its_way Nowhere h e = absurd (true≢false (sym e))
on_its_way (Away t a) h e = h
on_its_way (Held t k) h e = h

-- a token that is nowhere has come
pub landed : (come : ℕ → Bool) (s : Stand) (t : Option Target) → HeldFrom 1 s → (is_here s ≡ false → Has come t)
    → Landed come s t
landed come Nowhere t h k = k refl
landed come (Away x a) t h k = h
landed come (Held x a) t h k = h

-- a spot of the block, if it is one, has its token
has_target : (f : Frame) (q : ℕ) → (is_target q ≡ true → at f.spots q ≢ None) → Has (has_come f) (target_at f.code q)
has_target f q h = go (is_target q) refl
  where
    go : (b : Bool) → is_target q ≡ b
        → Has (has_come f) (cond b (Some (record { spot = q; there = home f.code q })) None)
    go false e = tt
    go true e = ap (λ b. cond b (is_some (at f.spots q)) (cond (nat_lt q 448) (is_some (at f.stores (q - 416)))
        (q == 448 && is_some f.exit))) e ∙ some_is (at f.spots q) (h e)

-- targets ----------------------------------------------------------------------------------------

-- where the tokens of a slot go
first_target : (b : Block) (s : ℕ) (i : Inst) → s < 128 → slot_of b s ≡ Some i
    → target b (2 * s) ≡ first_place (form_of i.op) i.number i.first
first_target b s i l is = ap₂ named_at (ap (slice_get (nodes_of b)) (slot_source b s l).0
    ∙ slot_got b s (inst_in b.insts.items s i is) ∙ ap (λ o. Some (inst_node s o)) is) (even_first s)

second_target : (b : Block) (s : ℕ) (i : Inst) → s < 128 → slot_of b s ≡ Some i
    → target b (suc (2 * s)) ≡ place_at i.second
second_target b s i l is = ap₂ named_at (ap (slice_get (nodes_of b)) (slot_source b s l).1
    ∙ slot_got b s (inst_in b.insts.items s i is) ∙ ap (λ o. Some (inst_node s o)) is) (odd_second s)

even_read : (r : ℕ) → ((256 + 2 * r) % 2 == 0) ≡ true
even_read r = let z : (256 + 2 * r) % 2 ≡ 0 = omega arith in grind (arith, nat_tests)

odd_read : (r : ℕ) → (suc (256 + 2 * r) % 2 == 0) ≡ false
odd_read r = let z : suc (256 + 2 * r) % 2 ≡ 1 = omega arith in grind (arith, nat_tests)

-- and those of a read
first_read : (b : Block) (r : ℕ) (slot : ReadSlot) → slice_get b.reads.items r ≡ Some slot
    → target b (256 + 2 * r) ≡ place_of slot.first
first_read b r slot is = ap₂ named_at (ap (slice_get (nodes_of b)) (read_source b r).0
    ∙ read_got b.reads.items (inst_nodes 0 b.insts.items) r slot is) (even_read r)

second_read : (b : Block) (r : ℕ) (slot : ReadSlot) → slice_get b.reads.items r ≡ Some slot
    → target b (suc (256 + 2 * r)) ≡ place_at slot.second
second_read b r slot is = ap₂ named_at (ap (slice_get (nodes_of b)) (read_source b r).1
    ∙ read_got b.reads.items (inst_nodes 0 b.insts.items) r slot is) (odd_read r)

-- no target at a place that no spot has
no_target : (f : Frame) (t : Option Spot) → t ≡ None → Has (has_come f) (target_at f.code (place_at t))
no_target f t e = subst (λ x. Has (has_come f) (target_at f.code (place_at x))) (sym e) tt

-- a running frame --------------------------------------------------------------------------------

module _ {W : Type 0} (blocks : List Block) (good : AllGood blocks) (o : Older) (g : Grid W) (f : Frame)
    (ok : FrameOk blocks o f) (lost : NoneLost f)
    (tied : Tied (g.parcels f.number) (g.asked f.number) (g.works f.number) f)
    (units : UnitsRule g.units g.works) (held : (p : ℕ) → p < 320 → HeldFrom 1 (g.parcels f.number p)) where
  abbrev n : ℕ
  n = f.number

  -- a token that was sent and is in its place no more has come
  token_has : (p q : ℕ) → target f.code p ≡ q → has_sent f p ≡ true → is_some (at f.places p) ≡ false
      → Has (has_come f) (target_at f.code q)
  token_has p q e sent none = has_target f q (λ t. elim (lost.tokens p sent (ap is_target e ∙ t)) [
    | inl z ↦ absurd (z (none_of (at f.places p) none))
    | inr z ↦ λ w. z (ap (at f.spots) e ∙ w)
  ])
    where
      none_of : (x : Answer) → is_some x ≡ false → x ≡ None
      none_of None h = refl
      none_of (Some v) h = absurd (true≢false h)

  -- slots ------------------------------------------------------------------------------------------

  module _ (s : ℕ) (i : Inst) (small : s < 128) (is : slot_of f.code s ≡ Some i)
      (fired : get_or f.fired s false ≡ true) (rests : g.works n s ≡ false) where
    first_is : is_here (g.parcels n (2 * s)) ≡ form_travels (form_of i.op) true
        (to_come (g.asked n) f (form_of i.op) i s) (is_some (at f.places (2 * s)))
    first_is = tied.travelling (2 * s) (omega (arith, small)) ∙ first_travels (g.asked n) (g.works n) f s i small is
        ∙ ap (λ b. not b && form_travels (form_of i.op) true (to_come (g.asked n) f (form_of i.op) i s)
        (is_some (at f.places (2 * s)))) rests

    second_is : is_here (g.parcels n (suc (2 * s))) ≡ form_travels (form_of i.op) false
        (to_come (g.asked n) f (form_of i.op) i s) (is_some (at f.places (suc (2 * s))))
    second_is = tied.travelling (suc (2 * s)) (omega (arith, small))
        ∙ second_travels (g.asked n) (g.works n) f s i small is
        ∙ ap (λ b. not b && form_travels (form_of i.op) false (to_come (g.asked n) f (form_of i.op) i s)
        (is_some (at f.places (suc (2 * s))))) rests

    first_by : (k : Form) → form_of i.op ≡ k → is_here (g.parcels n (2 * s))
        ≡ form_travels k true (to_come (g.asked n) f k i s) (is_some (at f.places (2 * s)))
    first_by k e = first_is
        ∙ ap (λ x. form_travels x true (to_come (g.asked n) f x i s) (is_some (at f.places (2 * s)))) e

    second_by : (k : Form) → form_of i.op ≡ k → is_here (g.parcels n (suc (2 * s)))
        ≡ form_travels k false (to_come (g.asked n) f k i s) (is_some (at f.places (suc (2 * s))))
    second_by k e = second_is
        ∙ ap (λ x. form_travels x false (to_come (g.asked n) f x i s) (is_some (at f.places (suc (2 * s))))) e

    sent_is : inst_sent f (Some i) ≡ true → slot_sent f s ≡ true
    sent_is h = ap₂ (λ a b. a && b) fired (ap (inst_sent f) is ∙ h)

    fits : FitsForm (form_of i.op) i
    fits = inst_fits f.code (good f.block f.code ok.code).fits s i is

    -- the tokens of an instruction that sends them
    tokens_land : (k : Form) → form_of i.op ≡ k → first_place (form_of i.op) i.number i.first ≡ place_at i.first
        → inst_sent f (Some i) ≡ true
        → (is_here (g.parcels n (2 * s)) ≡ false → is_some (at f.places (2 * s)) ≡ false)
        → (is_here (g.parcels n (suc (2 * s))) ≡ false → is_some (at f.places (suc (2 * s))) ≡ false)
        → Landed (has_come f) (g.parcels n (2 * s)) (target_at f.code (place_at i.first))
        × Landed (has_come f) (g.parcels n (suc (2 * s))) (target_at f.code (place_at i.second))
    tokens_land k e first sent one two = (
      landed (has_come f) (g.parcels n (2 * s)) (target_at f.code (place_at i.first)) (held (2 * s) (omega
          (arith, small)))
          (λ h. token_has (2 * s) (place_at i.first) (first_target f.code s i small is ∙ first)
          ((slot_sends f s small).0 ∙ sent_is sent) (one h)),
      landed (has_come f) (g.parcels n (suc (2 * s))) (target_at f.code (place_at i.second))
          (held (suc (2 * s)) (omega (arith, small)))
          (λ h. token_has (suc (2 * s)) (place_at i.second) (second_target f.code s i small is)
          ((slot_sends f s small).1 ∙ sent_is sent) (two h)),
    )

    -- an output that has come, and no second target
    output_lands : (t : Option Target) → (is_here (g.parcels n (2 * s)) ≡ false → Has (has_come f) t)
        → i.second ≡ None → Landed (has_come f) (g.parcels n (2 * s)) t
        × Landed (has_come f) (g.parcels n (suc (2 * s))) (target_at f.code (place_at i.second))
    output_lands t h e = (
      landed (has_come f) (g.parcels n (2 * s)) t (held (2 * s) (omega (arith, small))) h,
      landed (has_come f) (g.parcels n (suc (2 * s))) (target_at f.code (place_at i.second))
          (held (suc (2 * s)) (omega (arith, small))) (λ z. no_target f i.second e),
    )

    store_come : (m : ℕ) → m < 32 → at f.stores m ≢ None → has_come f (416 + m) ≡ true
    store_come m l h =
        let z : 416 + m - 416 ≡ m = omega arith in
        ap₂ (λ x y. cond x (is_some (at f.spots (416 + m))) (cond y (is_some (at f.stores (416 + m - 416)))
        (416 + m == 448 && is_some f.exit))) (le-ltb (416 + m) 416 (omega arith))
        (lt-ltb (416 + m) 448 (omega (arith, l)))
        ∙ ap (λ k. is_some (at f.stores k)) z ∙ some_is (at f.stores m) h

    or_none : (x y : Bool) → (x || y) ≡ false → y ≡ false
    or_none true y e = absurd (true≢false e)
    or_none false y e = e

    same_request : (is_waiting (at f.requests i.number) s ≡ false) → at f.requests i.number ≡ Some s → ⊥
    same_request w e = true≢false (sym (ap (λ q. is_waiting q s) e ∙ same s) ∙ w)

    module _ (table : ℕ → Answer) where
      abbrev there : ℕ
      there = data_node (tile_by i (at_place f.code table s))

      -- by the form that the instruction has
      first_lands : (k : Form) → form_of i.op ≡ k
          → Landed (has_come f) (g.parcels n (2 * s)) (first_of f.code k i there)
          × Landed (has_come f) (g.parcels n (suc (2 * s))) (target_at f.code (place_at i.second))
          → FineAt g.units (has_come f) (slot_task f.code table s (Some i)) (sent_of g f s)
      first_lands k e l =
          (subst (λ x. Landed (has_come f) (g.parcels n (2 * s)) (first_of f.code x i there)) (sym e) l.0, l.1)

      request_goes : (k : Form) → form_of i.op ≡ k → (c : Bool) → g.asked n i.number ≡ c
          → ((c ≡ false) → is_here (g.parcels n (2 * s)) ≡ true)
          → FineAt g.units (has_come f) (slot_task f.code table s (Some i))
          (cond c Standing (Asking (g.parcels n (2 * s))))
      request_goes k e true c h = tt
      request_goes k e false c h = on_its_way (g.parcels n (2 * s)) (held (2 * s) (omega (arith, small))) (h refl)

      load_fine : form_of i.op ≡ Load → (b : Bool) → is_waiting (at f.requests i.number) s ≡ b
          → FineAt g.units (has_come f) (slot_task f.code table s (Some i)) (cond b (asking g f s i.number)
          (sent_of g f s))
      load_fine e true w = request_goes Load e (g.asked n i.number) refl (λ c. first_by Load e
          ∙ ap₂ (λ x y. (true && (x && not y)) || is_some (at f.places (2 * s))) w c)
      load_fine e false w = first_lands Load e (tokens_land Load e (ap (λ x. first_place x i.number i.first) e)
          (ap (λ x. not (is_load x) || is_some (at f.loads i.number)) e ∙ some_is (at f.loads i.number)
          (elim (lost.loads s i is (ap is_load e) fired) [ inl z ↦ z | inr z ↦ absurd (same_request w z) ]))
          (λ h. or_none _ _ (sym (first_by Load e) ∙ h)) (λ h. sym (second_by Load e) ∙ h))

      store_fine : form_of i.op ≡ Store → (b : Bool) → is_waiting (at f.requests i.number) s ≡ b
          → FineAt g.units (has_come f) (slot_task f.code table s (Some i)) (cond b (asking g f s i.number)
          (sent_of g f s))
      store_fine e true w = request_goes Store e (g.asked n i.number) refl (λ c. first_by Store e
          ∙ ap₂ (λ x y. true && (x && not y)) w c)
      store_fine e false w = first_lands Store e (output_lands (first_of f.code Store i there)
          (λ h. store_come i.number (number_small f.code (good f.block f.code ok.code).fits s i is)
          (elim (lost.stores s i is (ap is_store e) fired) [ inl z ↦ z | inr z ↦ absurd (same_request w z) ]))
          (let x : FitsForm Store i = subst (λ k. FitsForm k i) e fits in (x.0).second))

      branch_fine : form_of i.op ≡ Branch
          → FineAt g.units (has_come f) (slot_task f.code table s (Some i)) (sent_of g f s)
      branch_fine e = first_lands Branch e (output_lands (first_of f.code Branch i there)
          (λ h. some_is f.exit (elim (lost.exits s i is e fired) [
            | inl z ↦ z
            | inr z ↦ absurd (true≢false (sym (ap (λ q. is_waiting q s) z ∙ same s) ∙ sym (first_by Branch e) ∙ h))
          ]))
          (let x : FitsForm Branch i = subst (λ k. FitsForm k i) e fits in (x.0).second))

      plain_fine : (k : Form) → form_of i.op ≡ k → is_load k ≡ false → first_of f.code k i there
          ≡ target_at f.code (place_at i.first) → first_place k i.number i.first ≡ place_at i.first
          → form_travels k true (to_come (g.asked n) f k i s) (is_some (at f.places (2 * s)))
          ≡ is_some (at f.places (2 * s))
          → form_travels k false (to_come (g.asked n) f k i s) (is_some (at f.places (suc (2 * s))))
          ≡ is_some (at f.places (suc (2 * s)))
          → FineAt g.units (has_come f) (slot_task f.code table s (Some i)) (sent_of g f s)
      plain_fine k e load to first one two =
          let l = tokens_land k e (ap (λ x. first_place x i.number i.first) e ∙ first)
          (ap (λ x. not x || is_some (at f.loads i.number)) (ap is_load e ∙ load))
          (λ h. sym (first_by k e ∙ one) ∙ h) (λ h. sym (second_by k e ∙ two) ∙ h) in
          first_lands k e (subst (Landed (has_come f) (g.parcels n (2 * s))) (sym to) l.0, l.1)

      form_fine : (k : Form) → form_of i.op ≡ k
          → FineAt g.units (has_come f) (slot_task f.code table s (Some i)) (after_unit g f s i (kind_of k))
      form_fine General e = plain_fine General e refl refl refl refl refl
      form_fine Immediate e = plain_fine Immediate e refl refl refl refl refl
      form_fine Constant e = plain_fine Constant e refl refl refl refl refl
      form_fine Load e = load_fine e (is_waiting (at f.requests i.number) s) refl
      form_fine Store e = store_fine e (is_waiting (at f.requests i.number) s) refl
      form_fine Branch e = branch_fine e

  -- the task of a slot
  pub slot_fine : (table : ℕ → Answer) (s : ℕ) → s < 128 → (i : Option Inst) → slot_of f.code s ≡ i
      → FineAt g.units (has_come f) (slot_task f.code table s i) (slot_phase g f s i)
  slot_fine table s small None is = tt
  slot_fine table s small (Some i) is = by (get_or f.fired s false) refl (g.works n s) refl
    where
      by : (b : Bool) → get_or f.fired s false ≡ b → (c : Bool) → g.works n s ≡ c
          → FineAt g.units (has_come f) (slot_task f.code table s (Some i))
          (cond b (cond c Working (after_unit g f s i (kind_of (form_of i.op)))) Idle)
      by false e c w = tt
      by true e true w = units.busy n s w
      by true e false w = form_fine s i small is e w table (form_of i.op) refl

  -- the task of a read
  pub read_fine : (r : ℕ) → r < 32 → (q : Option ReadSlot) → slice_get f.code.reads.items r ≡ q
      → FineAt g.units (has_come f) (read_task f.code q) (read_phase g f r q)
  read_fine r small None is = tt
  read_fine r small (Some slot) is = by (get_or f.reads r false) refl
    where
      places : (2 * (slot_tasks + r) ≡ 256 + 2 * r) × (suc (2 * (slot_tasks + r)) ≡ suc (256 + 2 * r))
      places = let z = slot_tasks_is in (omega (arith, z), omega (arith, z))

      lands : (p q : ℕ) → p < 320 → nat_lt p 256 ≡ false → target f.code p ≡ q → has_sent f p ≡ true
          → Landed (has_come f) (g.parcels n p) (target_at f.code q)
      lands p q l high e sent = landed (has_come f) (g.parcels n p) (target_at f.code q) (held p l)
          (λ h. token_has p q e sent
          (sym (tied.travelling p l ∙ read_travels (g.asked n) (g.works n) f p high) ∙ h))

      by : (b : Bool) → get_or f.reads r false ≡ b
          → FineAt g.units (has_come f) (read_task f.code (Some slot)) (cond b (sent_of g f (slot_tasks + r)) Idle)
      by false e = tt
      by true e = (
        subst (λ p. Landed (has_come f) (g.parcels n p) (target_at f.code (place_of slot.first))) (sym (places).0)
            (lands (256 + 2 * r) (place_of slot.first) (omega (arith, small)) (le-ltb (256 + 2 * r) 256 (omega arith))
            (first_read f.code r slot is) ((read_sends f r).0 ∙ e)),
        subst (λ p. Landed (has_come f) (g.parcels n p) (target_at f.code (place_at slot.second))) (sym (places).1)
            (lands (suc (256 + 2 * r)) (place_at slot.second) (omega (arith, small))
            (le-ltb (suc (256 + 2 * r)) 256 (omega arith)) (second_read f.code r slot is) ((read_sends f r).1 ∙ e)),
      )

-- tasks are there --------------------------------------------------------------------------------

module _ {W : Type 0} (g : Grid W) (f : Frame) where
  asking_there : (s m : ℕ) → is_there (asking g f s m) ≡ true
  asking_there s m = go (g.asked f.number m)
    where
      go : (b : Bool) → is_there (cond b Standing (Asking (g.parcels f.number (2 * s)))) ≡ true
      go true = refl
      go false = refl

  after_there : (s : ℕ) (i : Inst) (k : Kind) → is_there (after_unit g f s i k) ≡ true
  after_there s i Reading = refl
  after_there s i Plain = refl
  after_there s i Serving = go (is_waiting (at f.requests i.number) s)
    where
      go : (b : Bool) → is_there (cond b (asking g f s i.number) (sent_of g f s)) ≡ true
      go true = asking_there s i.number
      go false = refl

  -- a slot has a task exactly where the block has an instruction there
  pub slot_placed : (table : ℕ → Answer) (s : ℕ) (i : Option Inst)
      → is_there (slot_phase g f s i) ≡ (slot_task f.code table s i).declared
  slot_placed table s None = refl
  slot_placed table s (Some i) = go (get_or f.fired s false) (g.works f.number s)
    where
      go : (b c : Bool) → is_there (cond b (cond c Working (after_unit g f s i (kind_of (form_of i.op)))) Idle) ≡ true
      go true true = refl
      go true false = after_there s i (kind_of (form_of i.op))
      go false c = refl

  -- a read has a task exactly where the block has it
  pub read_placed : (r : ℕ) (q : Option ReadSlot) → is_there (read_phase g f r q) ≡ (read_task f.code q).declared
  read_placed r None = refl
  read_placed r (Some slot) = go (get_or f.reads r false)
    where
      go : (b : Bool) → is_there (cond b (sent_of g f (slot_tasks + r)) Idle) ≡ true
      go true = refl
      go false = refl
