-- Part (6) of a cycle, behind the tick of the mesh: what has come is delivered, and the rule is kept.
use Rattle.std.proofs.Common.{◌≡◌, ◌≢◌, ℕ, ◌+◌, ◌*◌, ◌/◌, ◌%◌, ◌<◌, ◌==◌, ◌&&◌, ◌||◌}
use Rattle.std.proofs.Common.{not, Bool, true, false}
use Rattle.std.proofs.Common.{cond, nat_lt, inl, inr, List, ◌∷◌, ◌++◌, Option, Some, None, is_some, is_none, set}
use Rattle.std.proofs.Common.{get_or, length, refl, sym, ap, ap₂, ◌∙◌, subst, true≢false, arith}
use Rattle.std.proofs.lemmas.Bool.Decides.{nat_tests}
use Rattle.trips_isa.specs.declared.block.Token.{Token}
use Rattle.trips_isa.specs.declared.block.Inst.{Inst}
use Rattle.trips_isa.specs.declared.block.Block.{Block}
use Rattle.trips_isa.specs.declared.form.Form.{Form}
use Rattle.trips_isa.specs.declared.form.Form.TheVariants.{General, Immediate, Load, Store, Branch, Constant}
use Rattle.trips_isa.specs.Forms.{form_of, is_load}
use Rattle.block_cases.specs.Orders.{slot_of}
use Rattle.operand_net.specs.declared.parcel.Stand.TheVariants.{Nowhere}
use Rattle.operand_net.specs.Places.{Places, put}
use Rattle.operand_net.specs.inside.IsStands.{is_here}
use Rattle.commit_flush_spec.specs.Marks.{mark_delivered}
use Rattle.commit_flush_spec.specs.Frames.{Frame, Exit, at, target, is_target, token_places}
use Rattle.commit_flush_spec.specs.Older.{Older, committed, successor_of}
use Rattle.commit_flush_spec.specs.Causes.{NoFrame, NoToken, NoExit, Done, NotNow}
use Rattle.commit_flush_spec.specs.Dataflow.{can_deliver, deliver, delivered}
use Rattle.commit_flush_spec.specs.Ends.{can_exit, exit, exit_by, branch_of, branch_mark, with_exit}
use Rattle.commit_flush_spec.specs.Ends as ends
use Rattle.commit_flush_spec.specs.Window.{Window, Deliver, can, happens}
use Rattle.commit_flush_spec.specs.Window as window
use Rattle.commit_flush_spec.specs.inside.Invariant.{AllGood, FrameOk}
use Rattle.commit_flush_spec.proofs.Committing.{both_true}
use Rattle.commit_flush_spec.proofs.Flow.{some_of}
use Rattle.commit_flush_spec.proofs.Numbers.{nums}
use Rattle.commit_flush_spec.proofs.Search.{clear, not_none}
use Rattle.grid_cycle_spec.specs.Grid.{Grid}
use Rattle.grid_cycle_spec.specs.Acting.{act}
use Rattle.grid_cycle_spec.specs.inside.Arrivals.{asks, delivers, is_waiting, slot_arrives, inst_arrives}
use Rattle.grid_cycle_spec.specs.inside.Arrivals.{place_arrives}
use Rattle.grid_bound.specs.inside.UnderWay.{form_travels, Tied, to_come}
use Rattle.grid_bound.specs.inside.Rule.{EachFrame, FrameRule, HeldFrom}
use Rattle.grid_bound.proofs.EachFrame.{FrameAt, answered_at, apart, changed_at}
use Rattle.grid_bound.proofs.EachFrame.{each_front, each_join, each_rest}
use Rattle.grid_bound.proofs.EachFrame.{own_at, same}
use Rattle.grid_bound.proofs.FrameRules.{exit_rule}
use Rattle.grid_bound.proofs.Travels.{IsPlace, and_none, halves, is_there, none_is, slot_travels, waiting_none}
use Rattle.grid_bound.proofs.Travels.{waits_for}
use Rattle.grid_bound.proofs.Entered.{put_each, put_here, put_other}
use Rattle.grid_bound.proofs.Ties.{Alike, Ties, ties_step}
use Rattle.grid_bound.proofs.TiedFrames.{Comes, asks_other, asks_standing, comes, delivered_tied, exit_other}
use Rattle.grid_bound.proofs.TiedFrames.{served_tied}
use Rattle.grid_bound.proofs.TiedFrames.{token_comes}
use Rattle.grid_bound.proofs.Flushing.{act_going, append_more, kept_rest, nums_step}
use Rattle.grid_bound.proofs.GoingGrids.{Going, Moved, alone_is, awake, can_is}
use Rattle.grid_bound.proofs.GoingGrids.{frame_ok, frame_rule, frame_sure}
use Rattle.grid_bound.proofs.GoingGrids.{frame_tied, happens_is, moved, moved_to, sees, stayed, stepped}
use Rattle.grid_bound.proofs.UnitParts.{flag_below}

-- requests at data tiles, with one more
abbrev pub asked_more : (ℕ → ℕ → Bool) → ℕ → ℕ → ℕ → ℕ → Bool
asked_more asked m n x k = ((x == m) && (k == n)) || asked x k

module _ (asked : ℕ → ℕ → Bool) (m n : ℕ) where
  more_here : asked_more asked m n m n ≡ true
  more_here = ap₂ (λ x y. (x && y) || asked m n) (same m) (same n)

  more_number : (k : ℕ) → k ≢ n → asked_more asked m n m k ≡ asked m k
  more_number k d = ap (λ y. ((m == m) && y) || asked m k) (apart k n d)
      ∙ ap (λ y. y || asked m k) (and_none (m == m))

  more_frame : (x : ℕ) → x ≢ m → (k : ℕ) → asked_more asked m n x k ≡ asked x k
  more_frame x d k = ap (λ y. (y && (k == n)) || asked x k) (apart x m d)

-- a place of a frame by its number
place_of : (m p : ℕ) → p < 320 → ((320 * m + p) / 320 ≡ m) × ((320 * m + p) % 320 ≡ p)
place_of m p l = (omega (arith, l), omega (arith, l))

module _ {W : Type 0} (blocks : List Block) (good : AllGood blocks) (budget : ℕ) (g : Grid W)
    (go : Going blocks budget 0 g) (n p : ℕ) (inside : p < 320) (a0 : FrameAt n g.window.frames)
    (here : is_here (g.parcels a0.frame.number p) ≡ true) where
  abbrev a : FrameAt a0.frame.number g.window.frames
  a = own_at n g.window.frames a0

  abbrev m : ℕ
  m = a0.frame.number

  abbrev f : Frame
  f = a0.frame

  abbrev o : Older
  o = sees blocks good budget g a0.frame.number a

  -- the parcel has been taken
  abbrev left : Places
  left = put g.parcels a0.frame.number p Nowhere

  abbrev G : Grid W
  G = record g { parcels = left }

  ok : FrameOk blocks o f
  ok = frame_ok blocks good budget g a0.frame.number a go.ok

  rule : FrameRule f
  rule = frame_rule blocks good budget g a0.frame.number a go.ties.frames

  runs : f.sealed ≡ false
  runs = awake blocks good budget g a0.frame.number a 0 go.ties
      (λ h. true≢false (sym here ∙ ap is_here (h.none_travels p inside)))

  tied : Tied (g.parcels m) (g.asked m) (g.works m) f
  tied = frame_tied blocks good budget g a0.frame.number a 0 go.ties runs

  gone : is_here (left m p) ≡ false
  gone = ap is_here (put_here g.parcels m p Nowhere)

  others : (q : ℕ) → q ≢ p → left m q ≡ g.parcels m q
  others q d = put_other g.parcels m p Nowhere m q (inr d)

  other_frames : (x : ℕ) → x ≢ m → Alike (g.parcels x) (left x) (g.asked x) (g.asked x) (g.works x) (g.works x)
  other_frames x d = record {
    parcels_are = λ q. put_other g.parcels m p Nowhere x q (inl d);
    asked_are = λ k. refl;
    works_are = λ s. refl;
  }

  held : (q : ℕ) → q < 320 → HeldFrom 0 (left m q)
  held q l = put_each (HeldFrom 0) g.parcels m p Nowhere m q tt (go.ties.mesh m q l)

  small : (s : ℕ) → get_or f.fired s false ≡ true → s < 128
  small s e = let l = flag_below f.fired s e in let k : length f.fired ≡ 128 = ok.sized.fired in omega (arith, l, k)

  -- a token is delivered -------------------------------------------------------------------------

  module _ (t : Token) (token : at f.places p ≡ Some t)
      (only : (i : Inst) → nat_lt p 256 ≡ true → slot_of f.code (p / 2) ≡ Some i
      → form_travels (form_of i.op) (p % 2 == 0) (to_come (g.asked m) f (form_of i.op) i (p / 2)) false ≡ false) where
    abbrev D : Frame
    D = record f {
      places = set f.places p None;
      spots = set f.spots (target f.code p) (Some t);
      marks = mark_delivered p (target f.code p) f.marks;
    }

    goes : is_target (target f.code p) ≡ true
    goes = (rule).targets p (λ z. let bad : Some t ≡ None = sym token ∙ z in cc)

    asks_deliver : can_deliver p o f ≡ Done
    asks_deliver = clear f.sealed NoToken _ runs (clear (is_none (at f.places p)) NoToken _ (ap is_none token)
        (clear (not (is_target (target f.code p))) NoToken Done (ap not goes) refl))

    delivers_done : can blocks budget (Deliver (token_places * m + p)) g.window ≡ Done
    delivers_done = can_is blocks budget (Deliver (token_places * m + p)) g.window go.went
        (ap₂ (λ x y. window.on_frame (NotNow NoToken) (can_deliver y) (committed g.window.state) g.window.frames x)
        (place_of m p inside).0 (place_of m p inside).1
        ∙ answered_at (NotNow NoToken) (can_deliver p) (committed g.window.state) m g.window.frames a ∙ asks_deliver)

    change : Moved blocks good budget g a0.frame.number a (Deliver (token_places * m + p)) D
    change = moved blocks good budget g a0.frame.number a 0 go (Deliver (token_places * m + p)) D delivers_done
        (ap₂ (λ x y. record g.window {
          frames = window.change (window.alone (deliver y)) (committed g.window.state) g.window.frames x;
        }) (place_of m p inside).0 (place_of m p inside).1
        ∙ alone_is blocks good budget g a0.frame.number a (deliver p)
        ∙ ap (λ x. moved_to blocks good budget g a0.frame.number a (delivered p x f)) token)

    delivers_going : Going blocks budget 0 (delivers blocks budget m p G)
    delivers_going = subst (λ (w : Window). Going blocks budget 0 (record g { window = w; parcels = left }))
        (sym change.is)
        (stepped blocks good budget g a0.frame.number a 0 go (Deliver (token_places * m + p)) D change left g.asked
        g.works g.units refl runs refl other_frames
        (delivered_tied (g.parcels m) (left m) (g.asked m)
        (g.works m) f D p tied inside here gone others refl refl refl
        refl refl only small)
        (frame_sure blocks good budget g a0.frame.number a 0 go.ties) go.ties.busy held)

  token_going : at f.places p ≢ None
      → ((i : Inst) → nat_lt p 256 ≡ true → slot_of f.code (p / 2) ≡ Some i
      → form_travels (form_of i.op) (p % 2 == 0) (to_come (g.asked m) f (form_of i.op) i (p / 2)) false ≡ false)
      → Going blocks budget 0 (delivers blocks budget m p G)
  token_going there only =
      let t = some_of (at f.places p) (not_none (at f.places p) there) in
      delivers_going t.0 t.1 only

  -- what travels of a slot -------------------------------------------------------------------------

  module _ (low : nat_lt p 256 ≡ true) (k : Comes (g.asked m) (g.works m) f p) where
    same_inst : (i : Inst) → slot_of f.code (p / 2) ≡ Some i → k.inst ≡ i
    same_inst i e = let y : Some k.inst ≡ Some i = sym k.is_inst ∙ e in cc

    -- a token of a form by which nothing else travels there
    plain_going : (t : Form) → form_of k.inst.op ≡ t
        → ((x y : Bool) → form_travels t (p % 2 == 0) (to_come (g.asked m) f t k.inst (p / 2)) x
        ≡ x) → Going blocks budget 0 (delivers blocks budget m p G)
    plain_going t e plain = token_going
        (is_there (at f.places p) (sym (by (is_some (at f.places p))) ∙ k.travels_so))
        (λ i z w. subst (λ (j : Inst). form_travels (form_of j.op) (p % 2 == 0)
        (to_come (g.asked m) f (form_of j.op) j (p / 2)) false ≡ false) (same_inst i w) (by false))
      where
        by : (x : Bool) → form_travels (form_of k.inst.op) (p % 2 == 0)
            (to_come (g.asked m) f (form_of k.inst.op) k.inst (p / 2)) x ≡ x
        by x = ap (λ z. form_travels z (p % 2 == 0) (to_come (g.asked m) f z k.inst (p / 2)) x) e ∙ plain x x

    -- a request that waits comes to its data tile
    module _ (even : (p % 2 == 0) ≡ true) (waits : at f.requests k.inst.number ≡ Some (p / 2))
        (none : form_travels (form_of k.inst.op) (p % 2 == 0)
        (to_come (asked_more g.asked m k.inst.number m) f (form_of k.inst.op) k.inst (p / 2))
        (is_some (at f.places p)) ≡ false) where
      abbrev asks' : ℕ → ℕ → Bool
      asks' = asked_more g.asked a0.frame.number k.inst.number

      asks_going : Going blocks budget 0 (asks m k.inst.number G)
      asks_going = stayed blocks good budget g a0.frame.number a 0 go left asks' g.works g.units runs
          (λ x d. record {
            parcels_are = λ q. put_other g.parcels m p Nowhere x q (inl d);
            asked_are = more_frame g.asked m k.inst.number x d;
            works_are = λ s. refl;
          })
          (served_tied (g.parcels m) (left m) (g.asked m) (asks' m)
          (g.works m) f f p tied inside here gone others low even
          refl refl refl
          (slot_travels (asks' m) (g.works m) f p k.inst low k.is_inst
          ∙ ap (λ b. not (g.works m (p / 2)) && b) none ∙ and_none (not (g.works m (p / 2))))
          (asks_other (g.asked m) (asks' m) f k.inst.number (p / 2) waits (more_number g.asked m k.inst.number))
          (asks_standing (g.asked m) (asks' m) f k.inst.number (p / 2) waits (more_number g.asked m k.inst.number)
          (tied).standing))
          go.ties.busy held

    -- a branch comes to the control tile
    module _ (even : (p % 2 == 0) ≡ true) (leaves : f.leaving ≡ Some (p / 2)) (branch : form_of k.inst.op
        ≡ Branch) where
      abbrev E : Option Exit
      E = exit_by blocks f.block (branch_of f f.leaving)

      abbrev X : Frame
      X = with_exit E (branch_mark f f.leaving) f

      exit_tied : Tied (left m) (g.asked m) (g.works m) X
      exit_tied = served_tied (g.parcels m) (left m) (g.asked m) (g.asked m) (g.works m) f X p tied inside here gone
          others low even refl refl refl
          (slot_travels (g.asked m) (g.works m) X p k.inst low k.is_inst
          ∙ ap (λ t. not (g.works m (p / 2)) && form_travels t (p % 2 == 0) (to_come (g.asked m) X t k.inst (p / 2))
          (is_some (at f.places p))) branch ∙ ap (λ b. not (g.works m (p / 2)) && b) (and_none (p % 2 == 0))
          ∙ and_none (not (g.works m (p / 2))))
          (exit_other (g.asked m) f X (p / 2) leaves refl refl) (tied).standing

      exit_rules : EachFrame FrameRule (a.older ++ X ∷ a.younger)
      exit_rules =
          let was : EachFrame FrameRule (a.older ++ f ∷ a.younger) = subst
          (EachFrame FrameRule) a.split go.ties.frames in
          each_join FrameRule a.older (X ∷ a.younger) (each_front FrameRule a.older (f ∷ a.younger) was) (
            exit_rule blocks good o f ok rule E (branch_mark f f.leaving),
            (each_rest FrameRule a.older (f ∷ a.younger) was).1,
          )

      exit_ties : Ties 0 (a.older ++ X ∷ a.younger) left g.asked g.works g.careful g.units
      exit_ties = ties_step 0 m g.window.frames a X g.parcels left g.asked g.asked g.works g.works g.careful
          g.units g.units
          refl other_frames go.ties runs exit_rules exit_tied
          (frame_sure blocks good budget g a0.frame.number a 0 go.ties) go.ties.busy held

      exit_done : can blocks budget (window.Exit m) g.window ≡ Done
      exit_done = can_is blocks budget (window.Exit m) g.window go.went
          (answered_at (NotNow NoFrame) can_exit (committed g.window.state) m g.window.frames a
          ∙ clear f.sealed NoFrame _ runs (clear (is_none f.leaving) NoExit Done (ap is_none leaves) refl))

      exit_is : happens blocks budget (window.Exit m) g.window
          ≡ record g.window { frames = a.older ++ X ∷ ends.kept (successor_of E) a.younger }
      exit_is = happens_is blocks budget (window.Exit m) g.window exit_done
          ∙ ap (λ l. record g.window { frames = l })
          (changed_at (exit blocks) (committed g.window.state) m g.window.frames a)

      exit_going : Going blocks budget 0 (act blocks budget (window.Exit m) G)
      exit_going =
          let rest = kept_rest (successor_of E) a.younger in
          act_going blocks good budget 0 G (window.Exit m) (a.older ++ X ∷ a.younger)
          (a.older ++ X ∷ ends.kept (successor_of E) a.younger) rest.0 go.ok go.went go.fetch
          (ap (λ l. a.older ++ X ∷ l) rest.1
          ∙ sym (append_more a.older (X ∷ ends.kept (successor_of E) a.younger) rest.0))
          (nums_step a.older f X a.younger refl ∙ sym (ap nums a.split)) exit_ties exit_is

    -- by its form
    both_first : (x y : Bool) → (x && y) ≡ true → x ≡ true
    both_first x y e = (both_true x y e).0

    place_is : IsPlace (2 * (p / 2)) p
    place_is = halves p

    half_small : p / 2 < 128
    half_small = let l : p < 256 = grind (arith, nat_tests) in omega (arith, l)

    load_token : form_of k.inst.op ≡ Load → at f.requests k.inst.number ≡ Some (p / 2)
        → is_some (at f.places p) ≡ false
    load_token e w = none_is (at f.places p) (waiting_none blocks o f ok
        (p / 2) p k.inst.number k.inst half_small place_is
        k.is_inst (ap is_load e) w)

    so_far : (t : Form) → form_of k.inst.op ≡ t
        → form_travels t (p % 2 == 0) (to_come (g.asked m) f t k.inst (p / 2)) (is_some (at f.places p)) ≡ true
    so_far t e = sym (ap (λ z. form_travels z (p % 2 == 0) (to_come (g.asked m) f z k.inst (p / 2))
        (is_some (at f.places p))) e) ∙ k.travels_so

    -- nothing is to come of what has come
    came_none : (t : Form) → form_of k.inst.op ≡ t
        → to_come (asked_more g.asked m k.inst.number m) f t k.inst (p / 2) ≡ false
        → form_travels t (p % 2 == 0) false (is_some (at f.places p)) ≡ false
        → form_travels (form_of k.inst.op) (p % 2 == 0)
        (to_come (asked_more g.asked m k.inst.number m) f (form_of k.inst.op) k.inst (p / 2))
        (is_some (at f.places p)) ≡ false
    came_none t e c h =
        ap (λ z. form_travels z (p % 2 == 0) (to_come (asked_more g.asked m k.inst.number m) f z k.inst (p / 2))
        (is_some (at f.places p))) e
        ∙ ap (λ z. form_travels t (p % 2 == 0) z (is_some (at f.places p))) c ∙ h

    asked_now : (is_waiting (at f.requests k.inst.number) (p / 2) && not (asked_more
        g.asked m k.inst.number m k.inst.number))
        ≡ false
    asked_now = ap (λ b. is_waiting (at f.requests k.inst.number) (p / 2) && not b)
        (more_here g.asked m k.inst.number)
        ∙ and_none (is_waiting (at f.requests k.inst.number) (p / 2))

    or_false' : (x y : Bool) → y ≡ false → (x || y) ≡ true → x ≡ true
    or_false' true y e h = refl
    or_false' false y e h = absurd (true≢false (sym h ∙ e))

    load_going : form_of k.inst.op ≡ Load → (b : Bool) → is_waiting (at f.requests k.inst.number) (p / 2) ≡ b
        → Going blocks budget 0 (cond b (asks m k.inst.number G) (delivers blocks budget m p G))
    load_going e true w =
        let waits : at f.requests k.inst.number ≡ Some (p / 2) = waits_for (at f.requests k.inst.number) (p / 2) w in
        let token = load_token e waits in
        let both = or_false' _ _ token (so_far Load e) in
        asks_going (both_first _ _ both) waits
        (came_none Load e asked_now (ap (λ x. x || is_some (at f.places p)) (and_none (p % 2 == 0)) ∙ token))
    load_going e false w = plain_going Load e (λ x y.
        ap (λ z. ((p % 2 == 0) && (z && not (g.asked m k.inst.number))) || x) w
        ∙ ap (λ z. z || x) (and_none (p % 2 == 0)))

    form_going : (t : Form) → form_of k.inst.op ≡ t
        → Going blocks budget 0 (slot_arrives blocks budget t k.inst p f G)
    form_going General e = plain_going General e (λ x y. refl)
    form_going Immediate e = plain_going Immediate e (λ x y. refl)
    form_going Constant e = plain_going Constant e (λ x y. refl)
    form_going Load e = load_going e (is_waiting (at f.requests k.inst.number) (p / 2)) refl
    form_going Store e =
        let both = both_true _ _ (so_far Store e) in
        asks_going both.0 (waits_for (at f.requests k.inst.number) (p / 2) (both_true _ _ both.1).0)
        (came_none Store e asked_now (and_none (p % 2 == 0)))
    form_going Branch e =
        let both = both_true _ _ (so_far Branch e) in
        exit_going both.0 (waits_for f.leaving (p / 2) both.1) e

    slot_going : Going blocks budget 0 (inst_arrives blocks budget (slot_of f.code (p / 2)) p f G)
    slot_going = subst (λ q. Going blocks budget 0 (inst_arrives blocks budget q p f G)) (sym k.is_inst)
        (form_going (form_of k.inst.op) refl)

  -- what arrives in a place of a frame keeps the rule
  pub arrives_going : Going blocks budget 0 (place_arrives blocks budget p f G)
  arrives_going = by (nat_lt p 256) refl
    where
      by : (b : Bool) → nat_lt p 256 ≡ b → Going blocks budget 0 (cond b
          (inst_arrives blocks budget (slot_of f.code (p / 2)) p f G) (delivers blocks budget m p G))
      by true e = slot_going e (comes (g.parcels m) (g.asked m) (g.works m) f tied p inside here e)
      by false e = token_going (token_comes (g.parcels m) (g.asked m) (g.works m) f tied p inside here e)
          (λ i z w. absurd (true≢false (sym z ∙ e)))
