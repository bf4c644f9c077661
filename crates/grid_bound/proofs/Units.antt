-- What units have, and their results as they leave them.
use Rattle.std.proofs.Common.{◌≡◌, ◌≢◌, ℕ, suc, ◌*◌, ◌<◌, ◌≤◌, ◌==◌, ◌&&◌, ◌||◌, not, Bool, true, false}
use Rattle.std.proofs.Common.{cond, ◌⊎◌, inl, inr, List, Some, None, is_some}
use Rattle.std.proofs.Common.{refl, sym, ap, ap₂, ◌∙◌, subst, true≢false, arith}
use Rattle.trips_isa.specs.declared.block.Inst.{Inst}
use Rattle.trips_isa.specs.declared.block.Block.{Block}
use Rattle.trips_isa.specs.declared.form.Form.{Form}
use Rattle.trips_isa.specs.declared.form.Form.TheVariants.{General, Immediate, Load, Store, Branch, Constant}
use Rattle.trips_isa.specs.Forms.{form_of, is_load}
use Rattle.block_cases.specs.Orders.{slot_of}
use Rattle.operand_net.specs.Places.{Places, put}
use Rattle.operand_net.specs.inside.IsStands.{is_here}
use Rattle.commit_flush_spec.specs.Frames.{Frame, at}
use Rattle.trips_isa.specs.declared.block.Token.TheVariants.{Null, Word}
use Rattle.trips_isa.specs.Rule.{Answer}
use Rattle.trips_isa.specs.Stores.{address_of}
use Rattle.commit_flush_spec.specs.Older.{Older}
use Rattle.commit_flush_spec.specs.inside.Invariant.{AllGood, FrameOk}
use Rattle.commit_flush_spec.proofs.Committing.{both_true}
use Rattle.commit_flush_spec.proofs.Lists.{equal_or}
use Rattle.grid_cycle_spec.specs.Stations.{control, data_node, tile_node, tile_of}
use Rattle.grid_cycle_spec.specs.Grid.{Grid}
use Rattle.grid_cycle_spec.specs.Choosing.{slots}
use Rattle.grid_cycle_spec.specs.Sending.{enters, enter_both}
use Rattle.grid_cycle_spec.specs.DataTiles.{tile_by}
use Rattle.grid_cycle_spec.specs.Units.{result_enters, slot_enters, rests}
use Rattle.grid_cycle_spec.proofs.Routes.{data_inside, tile_inside}
use Rattle.grid_bound.specs.inside.UnderWay.{form_travels, Gives, Tied, to_come, travels}
use Rattle.grid_bound.specs.inside.Rule.{HeldFrom, UnitsRule}
use Rattle.grid_bound.proofs.EachFrame.{FrameAt, apart, equal}
use Rattle.grid_bound.proofs.EachFrame.{own_at, same}
use Rattle.grid_bound.proofs.Travels.{IsPlace, Result, and_none, first_travels, none_is, result_of}
use Rattle.grid_bound.proofs.Travels.{second_travels, waiting_none, waits_for}
use Rattle.grid_bound.proofs.Entered.{away, both_enter, put_each, put_here, put_other}
use Rattle.grid_bound.proofs.TiedFrames.{result_tied}
use Rattle.grid_bound.proofs.GoingGrids.{Going, awake, frame_ok}
use Rattle.grid_bound.proofs.GoingGrids.{frame_tied, sees, stayed}

-- one of a frame's slots -------------------------------------------------------------------------

-- what is in units, but for one result, and with one more
abbrev pub works_but : (ℕ → ℕ → Bool) → ℕ → ℕ → ℕ → ℕ → Bool
works_but works n s m k = cond ((m == n) && (k == s)) false (works m k)

-- the results in units with one more
abbrev pub works_more : (ℕ → ℕ → Bool) → ℕ → ℕ → ℕ → ℕ → Bool
works_more works n s m k = ((m == n) && (k == s)) || works m k

-- the units with one that is busy for some time
abbrev pub units_to : (ℕ → ℕ) → ℕ → ℕ → ℕ → ℕ
units_to units tile time t = cond (t == tile) time (units t)

module _ (works : ℕ → ℕ → Bool) (n s : ℕ) where
  but_here : works_but works n s n s ≡ false
  but_here = ap₂ (λ x y. cond (x && y) false (works n s)) (same n) (same s)

  but_slot : (k : ℕ) → k ≢ s → works_but works n s n k ≡ works n k
  but_slot k d = ap (λ y. cond ((n == n) && y) false (works n k)) (apart k s d)
      ∙ ap (λ y. cond y false (works n k)) (and_none (n == n))

  but_frame : (m : ℕ) → m ≢ n → (k : ℕ) → works_but works n s m k ≡ works m k
  but_frame m d k = ap (λ y. cond (y && (k == s)) false (works m k)) (apart m n d)

  -- the result that joins is in its unit
  pub more_here : works_more works n s n s ≡ true
  more_here = ap₂ (λ x y. (x && y) || works n s) (same n) (same s)

  -- a result of another slot stays as it was
  pub more_slot : (k : ℕ) → k ≢ s → works_more works n s n k ≡ works n k
  more_slot k d = ap (λ y. ((n == n) && y) || works n k) (apart k s d)
      ∙ ap (λ y. y || works n k) (and_none (n == n))

  -- a result of another frame stays as it was
  pub more_frame : (m : ℕ) → m ≢ n → (k : ℕ) → works_more works n s m k ≡ works m k
  more_frame m d k = ap (λ y. (y && (k == s)) || works m k) (apart m n d)

  -- a result that is left is another one
  but_is : (m k : ℕ) → works_but works n s m k ≡ true → (works m k ≡ true) × ((m ≡ n) × (k ≡ s) → ⊥)
  but_is m k e = go ((m == n) && (k == s)) refl e
    where
      go : (b : Bool) → ((m == n) && (k == s)) ≡ b → cond b false (works m k) ≡ true
          → (works m k ≡ true) × ((m ≡ n) × (k ≡ s) → ⊥)
      go true i h = absurd (true≢false (sym h))
      go false i h = (
        h,
        λ z. true≢false (sym (ap₂ (λ x y. x && y) (ap (λ j. j == n) z.0 ∙ same n)
            (ap (λ j. j == s) z.1 ∙ same s)) ∙ i),
      )

  -- a result is the new one or was there
  more_is : (m k : ℕ) → works_more works n s m k ≡ true → ((m ≡ n) × (k ≡ s)) ⊎ (works m k ≡ true)
  more_is m k e = go (m == n) refl (k == s) refl e
    where
      go : (b : Bool) → (m == n) ≡ b → (c : Bool) → (k == s) ≡ c → ((b && c) || works m k) ≡ true
          → ((m ≡ n) × (k ≡ s)) ⊎ (works m k ≡ true)
      go true i true j h = inl (equal m n i, equal k s j)
      go true i false j h = inr h
      go false i c j h = inr h

module _ (units : ℕ → ℕ) (tile time : ℕ) where
  to_here : (t : ℕ) → t ≡ tile → units_to units tile time t ≡ time
  to_here t e = ap (λ b. cond b time (units t)) (ap (λ k. k == tile) e ∙ same tile)

  to_other : (t : ℕ) → t ≢ tile → units_to units tile time t ≡ units t
  to_other t d = ap (λ b. cond b time (units t)) (apart t tile d)

  to_most : (limit : ℕ) → time ≤ limit → ((t : ℕ) → units t ≤ limit) → (t : ℕ) → units_to units tile time t ≤ limit
  to_most limit l h t = go (t == tile)
    where
      go : (b : Bool) → cond b time (units t) ≤ limit
      go true = l
      go false = h t

-- a block has 128 slots
pub slots_are : slots ≡ 128
unfolding slots
slots_are = refl

-- units ------------------------------------------------------------------------------------------

-- a unit whose time goes on
pub goes_on : (units : ℕ → ℕ) (works : ℕ → ℕ → Bool) (tile left : ℕ) → units tile ≡ suc (suc left)
    → UnitsRule units works
    → UnitsRule (units_to units tile (suc left)) works
goes_on units works tile left e u = record {
  most = to_most units tile (suc left) 24 (let m : units tile ≤ 24 = u.most tile in omega (arith, m, e)) u.most;
  busy = λ n s h. elim (equal_or (tile_of s) tile) [
    | inl z ↦ subst (λ k. 1 ≤ k) (sym (to_here units tile (suc left) (tile_of s) z)) (omega arith)
    | inr d ↦ subst (λ k. 1 ≤ k) (sym (to_other units tile (suc left) (tile_of s) d)) (u.busy n s h)
  ];
  alone = u.alone;
}

-- a unit that is free, whose result is out
is_free : (units : ℕ → ℕ) (works : ℕ → ℕ → Bool) (tile n s : ℕ) → works n s ≡ true → tile_of s ≡ tile
    → UnitsRule units works → UnitsRule (units_to units tile 0) (works_but works n s)
is_free units works tile n s w e u = record {
  most = to_most units tile 0 24 (omega arith) u.most;
  busy = λ m k h. let p = but_is works n s m k h in elim (equal_or (tile_of k) tile) [
    | inl z ↦ absurd (p.1 (u.alone m n k s p.0 w (z ∙ sym e)))
    | inr d ↦ subst (λ j. 1 ≤ j) (sym (to_other units tile 0 (tile_of k) d)) (u.busy m k p.0)
  ];
  alone = λ m x r k h j z. u.alone m x r k (but_is works n s m r h).0 (but_is works n s x k j).0 z;
}

-- a unit that is free, and had no result
pub had_none : (units : ℕ → ℕ) (works : ℕ → ℕ → Bool) (tile : ℕ) → ((n s : ℕ) → works n s ≡ true → tile_of s ≢ tile)
    → UnitsRule units works → UnitsRule (units_to units tile 0) works
had_none units works tile none u = record {
  most = to_most units tile 0 24 (omega arith) u.most;
  busy = λ m k h. subst (λ j. 1 ≤ j) (sym (to_other units tile 0 (tile_of k) (none m k h))) (u.busy m k h);
  alone = u.alone;
}

-- a free unit has a new result
pub is_issued : (units : ℕ → ℕ) (works : ℕ → ℕ → Bool) (tile n s time : ℕ) → units tile ≡ 0 → tile_of s ≡ tile
    → 1 ≤ time
    → time ≤ 24 → UnitsRule units works → UnitsRule (units_to units tile time) (works_more works n s)
is_issued units works tile n s time free e some most u = record {
  most = to_most units tile time 24 most u.most;
  busy = λ m k h. elim (equal_or (tile_of k) tile) [
    | inl z ↦ subst (λ j. 1 ≤ j) (sym (to_here units tile time (tile_of k) z)) some
    | inr d ↦ elim (more_is works n s m k h) [
      | inl z ↦ absurd (d (ap tile_of z.1 ∙ e))
      | inr w ↦ subst (λ j. 1 ≤ j) (sym (to_other units tile time (tile_of k) d)) (u.busy m k w)
    ]
  ];
  alone = λ m x r k h j z. elim (more_is works n s m r h) [
    | inl a ↦ elim (more_is works n s x k j) [
      | inl b ↦ (a.0 ∙ sym b.0, a.1 ∙ sym b.1)
      | inr b ↦ absurd (not_busy x k b (sym z ∙ ap tile_of a.1 ∙ e))
    ]
    | inr a ↦ elim (more_is works n s x k j) [
      | inl b ↦ absurd (not_busy m r a (z ∙ ap tile_of b.1 ∙ e))
      | inr b ↦ u.alone m x r k a b z
    ]
  ];
}
  where
    not_busy : (m k : ℕ) → works m k ≡ true → tile_of k ≡ tile → ⊥
    not_busy m k w z = let l : 1 ≤ units (tile_of k) = u.busy m k w in
        let zero' : units (tile_of k) ≡ 0 = ap units z ∙ free in omega (arith, l, zero')

-- results ----------------------------------------------------------------------------------------

data_low : (i : Inst) (x : Answer) → data_node (tile_by i x) < 25
data_low i None = omega arith
data_low i (Some Null) = omega arith
data_low i (Some (Word v)) = data_inside (address_of i v)

module _ {W : Type 0} (blocks : List Block) (good : AllGood blocks) (budget least : ℕ) (g : Grid W)
    (go : Going blocks budget least g) (tile : ℕ) (n s : ℕ) (a0 : FrameAt n g.window.frames)
    (had : g.works a0.frame.number s ≡ true) (on : tile_of s ≡ tile) where
  abbrev a : FrameAt a0.frame.number g.window.frames
  a = own_at n g.window.frames a0

  abbrev m : ℕ
  m = a0.frame.number

  abbrev f : Frame
  f = a0.frame

  abbrev o : Older
  o = sees blocks good budget g a0.frame.number a

  abbrev works' : ℕ → ℕ → Bool
  works' = works_but g.works a0.frame.number s

  -- the unit is free, and the result is out
  abbrev G : Grid W
  G = rests m s (record g { units = units_to g.units tile 0 })

  ok : FrameOk blocks o f
  ok = frame_ok blocks good budget g a0.frame.number a go.ok

  runs : f.sealed ≡ false
  runs = awake blocks good budget g a0.frame.number a least go.ties (λ h. true≢false (sym had ∙ h.none_works s))

  tied : Tied (g.parcels m) (g.asked m) (g.works m) f
  tied = frame_tied blocks good budget g a0.frame.number a least go.ties runs

  module _ (r : Result (g.asked m) f s) (small : s < 128) where
    -- where its parcels go
    was_none : (p : ℕ) → p < 320 → travels (g.asked m) (g.works m) f p ≡ false → is_here (g.parcels m p) ≡ false
    was_none p l e = (tied).travelling p l ∙ e

    first_none : is_here (g.parcels m (2 * s)) ≡ false
    first_none = was_none (2 * s) (omega (arith, small)) (first_travels (g.asked m)
        (g.works m) f s r.inst small r.is_inst
        ∙ ap (λ b. not b && form_travels (form_of r.inst.op) true (to_come (g.asked m) f (form_of r.inst.op) r.inst s)
        (is_some (at f.places (2 * s)))) had)

    second_none : is_here (g.parcels m (suc (2 * s))) ≡ false
    second_none = was_none (suc (2 * s)) (omega (arith, small))
        (second_travels (g.asked m) (g.works m) f s r.inst small r.is_inst
        ∙ ap (λ b. not b && form_travels (form_of r.inst.op) false
        (to_come (g.asked m) f (form_of r.inst.op) r.inst s)
        (is_some (at f.places (suc (2 * s))))) had)

    -- the grid after its parcels have entered
    entered : (after : Places)
        → ((k q : ℕ) → (k ≢ m) ⊎ ((q ≢ 2 * s) × (q ≢ suc (2 * s))) → after k q ≡ g.parcels k q)
        → is_here (after m (2 * s)) ≡ form_travels (form_of r.inst.op) true
        (to_come (g.asked m) f (form_of r.inst.op) r.inst s) (is_some (at f.places (2 * s)))
        → is_here (after m (suc (2 * s))) ≡ form_travels (form_of r.inst.op) false
        (to_come (g.asked m) f (form_of r.inst.op) r.inst s) (is_some (at f.places (suc (2 * s))))
        → ((q : ℕ) → q < 320 → HeldFrom least (after m q)) → Going blocks budget least (record G { parcels = after })
    entered after other first second held =
        stayed blocks good budget g a0.frame.number a least go after g.asked works' (units_to g.units tile 0) runs
        (λ x d. record {
          parcels_are = λ q. other x q (inl d);
          asked_are = λ k. refl;
          works_are = but_frame g.works m s x d;
        })
        (result_tied (g.parcels m) (after m) (g.asked m) (g.works m) (works' m) f s r.inst small r.is_inst
        (but_here g.works m s) (but_slot g.works m s) (λ q d e. other m q (inr (d, e))) first second tied)
        (is_free g.units g.works tile m s had on go.ties.busy) held

    -- one parcel, of what waits
    one_enters : (to : ℕ) → to < 25
        → form_travels (form_of r.inst.op) true (to_come (g.asked m) f (form_of r.inst.op) r.inst s)
        (is_some (at f.places (2 * s))) ≡ true
        → form_travels (form_of r.inst.op) false (to_come (g.asked m) f (form_of r.inst.op) r.inst s)
        (is_some (at f.places (suc (2 * s)))) ≡ false
        → Going blocks budget least (enters m (2 * s) (tile_node (tile_of s)) to G)
    one_enters to low first second =
        entered (put g.parcels m (2 * s) (away G m (tile_node (tile_of s)) to))
        (λ k q d. put_other g.parcels m (2 * s) (away G m (tile_node (tile_of s)) to) k q (elim d [
          | inl z ↦ inl z
          | inr z ↦ inr z.0
        ]))
        (ap is_here (put_here g.parcels m (2 * s) (away G m (tile_node (tile_of s)) to)) ∙ sym first)
        (ap is_here (put_other g.parcels m (2 * s) (away G m (tile_node (tile_of s)) to) m (suc (2 * s))
        (inr (λ z. omega (arith, z)))) ∙ second_none ∙ sym second)
        (λ q l. put_each (HeldFrom least) g.parcels m (2 * s) (away G m (tile_node (tile_of s)) to) m q
        (tile_inside s, low) (go.ties.mesh m q l))

    -- both tokens
    both_go : (form_travels (form_of r.inst.op) true (to_come (g.asked m) f (form_of r.inst.op) r.inst s)
        (is_some (at f.places (2 * s))) ≡ is_some (at f.places (2 * s)))
        → (form_travels (form_of r.inst.op) false (to_come (g.asked m) f (form_of r.inst.op) r.inst s)
        (is_some (at f.places (suc (2 * s)))) ≡ is_some (at f.places (suc (2 * s))))
        → Going blocks budget least (enter_both (tile_node (tile_of s)) f (2 * s) G)
    both_go first second =
        let e = both_enter (tile_node (tile_of s)) (tile_inside s) f (2 * s) G in
        subst (Going blocks budget least) (sym e.1) (entered e.0 e.2.others
        (e.2.first ∙ ap (λ b. is_some (at f.places (2 * s)) || b) first_none ∙ or_none _ ∙ sym first)
        (e.2.second ∙ ap (λ b. is_some (at f.places (suc (2 * s))) || b) second_none ∙ or_none _ ∙ sym second)
        (λ q l. e.2.held least m q (go.ties.mesh m q l)))
      where
        or_none : (x : Bool) → (x || false) ≡ x
        or_none true = refl
        or_none false = refl

    in_first : {t : Form} → form_of r.inst.op ≡ t
        → form_travels (form_of r.inst.op) true (to_come (g.asked m) f (form_of r.inst.op) r.inst s)
        (is_some (at f.places (2 * s)))
        ≡ form_travels t true (to_come (g.asked m) f t r.inst s) (is_some (at f.places (2 * s)))
    in_first e = ap (λ t. form_travels t true (to_come (g.asked m) f t r.inst s) (is_some (at f.places (2 * s)))) e

    in_second : {t : Form} → form_of r.inst.op ≡ t
        → form_travels (form_of r.inst.op) false (to_come (g.asked m) f (form_of r.inst.op) r.inst s)
        (is_some (at f.places (suc (2 * s))))
        ≡ form_travels t false (to_come (g.asked m) f t r.inst s) (is_some (at f.places (suc (2 * s))))
    in_second e =
        ap (λ t. form_travels t false (to_come (g.asked m) f t r.inst s) (is_some (at f.places (suc (2 * s))))) e

    -- the request of a load waits, so that the load has no token
    load_token : (p : ℕ) → IsPlace (2 * s) p → form_of r.inst.op ≡ Load → to_come (g.asked m) f Load r.inst s ≡ true
        → is_some (at f.places p) ≡ false
    load_token p w e c =
        none_is (at f.places p) (waiting_none blocks o f ok s p r.inst.number r.inst small w r.is_inst
        (ap is_load e) (waits_for (at f.requests r.inst.number) s (both_true _ _ c).0))

    result_form : (t : Form) → form_of r.inst.op ≡ t → Gives (g.asked m) f t r.inst s
        → Going blocks budget least (result_enters t r.inst s f G)
    result_form General e h = both_go (in_first e) (in_second e)
    result_form Immediate e h = both_go (in_first e) (in_second e)
    result_form Constant e h = both_go (in_first e) (in_second e)
    result_form Load e h = one_enters (data_node (tile_by r.inst (at f.spots s))) (data_low r.inst (at f.spots s))
        (in_first e ∙ ap (λ c. (true && c) || is_some (at f.places (2 * s))) h)
        (in_second e ∙ load_token (suc (2 * s)) (inr refl) e h)
    result_form Store e h = one_enters (data_node (tile_by r.inst (at f.spots s))) (data_low r.inst (at f.spots s))
        (in_first e ∙ ap (λ c. true && c) h) (in_second e)
    result_form Branch e h = one_enters control (omega arith) (in_first e ∙ ap (λ c. true && c) h) (in_second e)

    slot_going : Going blocks budget least (slot_enters (slot_of f.code s) s f G)
    slot_going = subst (λ x. Going blocks budget least (slot_enters x s f G)) (sym r.is_inst)
        (result_form (form_of r.inst.op) refl r.gives)

  -- a result that leaves its unit keeps the rule
  pub out_going : s < 128 → Going blocks budget least (slot_enters (slot_of f.code s) s f G)
  out_going small = slot_going (result_of (g.asked m) f s ((tied).working s had)) small
