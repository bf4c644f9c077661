-- A slot that a unit issues keeps the rule.
use Rattle.std.proofs.Common.{◌≡◌, ◌≢◌, ℕ, suc, ◌*◌, ◌&&◌, not, Bool, true, false}
use Rattle.std.proofs.Common.{inl, inr, List, Some, None, set, get_or, length}
use Rattle.std.proofs.Common.{refl, sym, ap, ap₂, ◌∙◌, subst, arith}
use Rattle.trips_isa.specs.declared.block.Inst.{Inst}
use Rattle.trips_isa.specs.declared.block.Block.{Block}
use Rattle.trips_isa.specs.declared.form.Form.{Form}
use Rattle.trips_isa.specs.declared.form.Form.TheVariants.{General, Immediate, Load, Store, Branch, Constant}
use Rattle.trips_isa.specs.Forms.{form_of}
use Rattle.block_cases.specs.Orders.{slot_of}
use Rattle.operand_net.specs.inside.IsStands.{is_here}
use Rattle.commit_flush_spec.specs.Frames.{Frame, at, slot_node}
use Rattle.commit_flush_spec.specs.Sending.{send, token_with}
use Rattle.commit_flush_spec.specs.Older.{Older, committed}
use Rattle.commit_flush_spec.specs.Causes.{NoFrame, Done, NotNow}
use Rattle.commit_flush_spec.specs.Dataflow.{can_fire, fire, fire_form, fire_inst}
use Rattle.commit_flush_spec.specs.Window.{Window, Fire, can, can_now}
use Rattle.commit_flush_spec.specs.inside.Invariant.{AllGood, FrameOk}
use Rattle.commit_flush_spec.proofs.Lists.{equal_or, flag_here, flag_keeps, other_at, set_here}
use Rattle.commit_flush_spec.proofs.Stored.{number_small}
use Rattle.commit_flush_spec.specs.inside.Observers.{has_number}
use Rattle.commit_flush_spec.specs.inside.Work.{none_guessed}
use Rattle.grid_cycle_spec.specs.Stations.{tile_of}
use Rattle.grid_cycle_spec.specs.Costs.{latency}
use Rattle.grid_cycle_spec.specs.Grid.{Grid}
use Rattle.grid_cycle_spec.specs.inside.Arrivals.{is_waiting}
use Rattle.grid_cycle_spec.specs.Units.{takes}
use Rattle.grid_cycle_spec.specs.Units.{issued}
use Rattle.grid_cycle_spec.proofs.Routes.{takes_time}
use Rattle.grid_bound.specs.inside.UnderWay.{form_travels, Gives, InUnit, IsSent, SlotGives, Tied, to_come}
use Rattle.grid_bound.specs.inside.Rule.{FrameRule}
use Rattle.grid_bound.proofs.EachFrame.{FrameAt, answered_at}
use Rattle.grid_bound.proofs.EachFrame.{own_at, same}
use Rattle.grid_bound.proofs.FrameRules.{Fires, Sent, fire_sends, fires, free_exit, free_number}
use Rattle.grid_bound.proofs.EventRules.{went}
use Rattle.grid_bound.proofs.Travels.{IsPlace, and_none, no_travels, come_by, false_of, first_travels, none_is}
use Rattle.grid_bound.proofs.Travels.{second_travels, unfired_none, waits_none, waits_other}
use Rattle.grid_bound.proofs.TiedFrames.{fired_tied}
use Rattle.grid_bound.proofs.GoingGrids.{Going, Moved, alone_is, frame_ok, frame_rule, frame_sure}
use Rattle.grid_bound.proofs.Units.{is_issued, more_frame, more_here, more_slot, units_to, works_more}
use Rattle.grid_bound.proofs.GoingGrids.{frame_tied, moved, moved_to, sees, stepped}

-- issues -----------------------------------------------------------------------------------------

module _ {W : Type 0} (blocks : List Block) (good : AllGood blocks) (budget least : ℕ) (g : Grid W)
    (go : Going blocks budget least g) (tile : ℕ) (free : g.units tile ≡ 0) (n s : ℕ)
    (a0 : FrameAt n g.window.frames) (on : tile_of s ≡ tile)
    (done : can blocks budget (Fire a0.frame.number s) g.window ≡ Done) where
  abbrev a : FrameAt a0.frame.number g.window.frames
  a = own_at n g.window.frames a0

  abbrev m : ℕ
  m = a0.frame.number

  abbrev f : Frame
  f = a0.frame

  abbrev o : Older
  o = sees blocks good budget g a0.frame.number a

  abbrev works' : ℕ → ℕ → Bool
  works' = works_more g.works a0.frame.number s

  asks : can_fire s o f ≡ Done
  asks = sym (answered_at (NotNow NoFrame) (can_fire s) (committed g.window.state) a0.frame.number g.window.frames a)
      ∙ (went g.window.over (can_now blocks budget (Fire a0.frame.number s) g.window) done).1

  ok : FrameOk blocks o f
  ok = frame_ok blocks good budget g a0.frame.number a go.ok

  rule : FrameRule f
  rule = frame_rule blocks good budget g a0.frame.number a go.ties.frames

  module _ (k : Fires blocks good o f ok s) where
    tied : Tied (g.parcels m) (g.asked m) (g.works m) f
    tied = frame_tied blocks good budget g a0.frame.number a least go.ties k.runs

    abbrev f1 : Frame
    f1 = record f { fired = set f.fired s true }

    sure : g.careful m ≡ true → none_guessed f ≡ true
    sure = frame_sure blocks good budget g a0.frame.number a least go.ties

    fires_now : get_or (set f.fired s true) s false ≡ true
    fires_now = flag_here f.fired s (let l : length f.fired ≡ 128 = ok.sized.fired in let j = k.small in omega
        (arith, l, j))

    nothing_comes : (t : Form) → form_of k.inst.op ≡ t → to_come (g.asked m) f t k.inst s ≡ false
    nothing_comes General e = refl
    nothing_comes Immediate e = refl
    nothing_comes Constant e = refl
    nothing_comes Load e = ap (λ b. b && not (g.asked m k.inst.number)) (waits_none (at f.requests k.inst.number) s
        (free_number blocks good o f ok rule s k (ap has_number e)))
    nothing_comes Store e = ap (λ b. b && not (g.asked m k.inst.number)) (waits_none (at f.requests k.inst.number) s
        (free_number blocks good o f ok rule s k (ap has_number e)))
    nothing_comes Branch e = waits_none f.leaving s (free_exit blocks good o f ok rule s k e)

    no_parcel : (q : ℕ) → IsPlace (2 * s) q → is_here (g.parcels m q) ≡ false
    no_parcel q (inl e) = ap (λ j. is_here (g.parcels m j)) e
        ∙ (tied).travelling (2 * s) (let j = k.small in omega (arith, j))
        ∙ first_travels (g.asked m) (g.works m) f s k.inst k.small k.is_inst
        ∙ ap₂ (λ c t. not (g.works m s) && form_travels (form_of k.inst.op) true c t)
        (nothing_comes (form_of k.inst.op) refl)
        (none_is (at f.places (2 * s)) (unfired_none blocks o f ok s (2 * s) k.small (inl refl) k.unfired))
        ∙ ap (λ b. not (g.works m s) && b) (no_travels (form_of k.inst.op) true) ∙ and_none (not (g.works m s))
    no_parcel q (inr e) = ap (λ j. is_here (g.parcels m j)) e
        ∙ (tied).travelling (suc (2 * s)) (let j = k.small in omega (arith, j))
        ∙ second_travels (g.asked m) (g.works m) f s k.inst k.small k.is_inst
        ∙ ap₂ (λ c t. not (g.works m s) && form_travels (form_of k.inst.op) false c t)
        (nothing_comes (form_of k.inst.op) refl)
        (none_is (at f.places (suc (2 * s)))
        (unfired_none blocks o f ok s (suc (2 * s)) k.small (inr refl) k.unfired))
        ∙ ap (λ b. not (g.works m s) && b) (no_travels (form_of k.inst.op) false) ∙ and_none (not (g.works m s))

    -- the frame after the event, by what it has
    issued_going : (F : Frame) → fire s o f ≡ F → F.code ≡ f.code → F.number ≡ m → F.sealed ≡ false → F.exit ≡ f.exit
        → ((t : ℕ) → get_or f.fired t false ≡ true → get_or F.fired t false ≡ true)
        → ((j : Inst) (t : ℕ) → t ≢ s → slot_of f.code t ≡ Some j
        → to_come (g.asked m) F (form_of j.op) j t ≡ to_come (g.asked m) f (form_of j.op) j t)
        → ((q : ℕ) → at f.places q ≢ None → at F.places q ≢ None)
        → ((q : ℕ) → q ≢ 2 * s → q ≢ suc (2 * s) → at F.places q ≡ at f.places q)
        → InUnit (g.asked m) F s → ((j : ℕ) → g.asked m j ≡ true → at F.requests j ≢ None)
        → (g.careful m ≡ true → none_guessed F ≡ true)
        → Going blocks budget least (issued blocks budget tile m s (latency k.inst.op) g)
    issued_going F is code number runs exit fired come keeps same' result standing sure' =
        let change : Moved blocks good budget g a0.frame.number a (Fire m s) F =
        moved blocks good budget g a0.frame.number a least go (Fire m s) F done
        (alone_is blocks good budget g a0.frame.number a (fire s)
        ∙ ap (moved_to blocks good budget g a0.frame.number a) is) in
        let time = takes_time k.inst.op in
        subst (λ (w : Window). Going blocks budget least (record g {
          window = w;
          units = units_to g.units tile (latency k.inst.op);
          works = works';
        })) (sym change.is)
        (stepped blocks good budget g a0.frame.number a least go (Fire m s) F change g.parcels g.asked works'
        (units_to g.units tile (latency k.inst.op)) number runs exit
        (λ x d. record {
          parcels_are = λ q. refl;
          asked_are = λ j. refl;
          works_are = more_frame g.works m s x d;
        })
        (fired_tied (g.parcels m) (g.asked m) (g.works m)
        (works' m) f F s k.inst k.small k.is_inst code fired come keeps
        same' no_parcel (more_here g.works m s) (more_slot g.works m s) result standing tied)
        sure' (is_issued g.units g.works tile m s (latency k.inst.op) free on time.some time.most go.ties.busy)
        (go.ties.mesh m))

    fire_is : (t : Form) → form_of k.inst.op ≡ t → fire s o f ≡ fire_form t k.inst s f1
    fire_is t e = ap (λ q. fire_inst q s f1) k.is_inst ∙ ap (λ x. fire_form x k.inst s f1) e

    -- the result of the slot
    result_is : (F : Frame) → F.code ≡ f.code → get_or F.fired s false ≡ true → (t : Form) → form_of k.inst.op ≡ t
        → Gives (g.asked m) F t k.inst s → InUnit (g.asked m) F s
    result_is F code fired t e h = record {
      fired = fired;
      gives = subst (λ b. SlotGives (g.asked m) F (slot_of b s) s) (sym code)
          (subst (λ q. SlotGives (g.asked m) F q s) (sym k.is_inst)
          (subst (λ x. Gives (g.asked m) F x k.inst s) (sym e) h));
    }

    sends_going : (t : Form) → form_of k.inst.op ≡ t
        → fire_form t k.inst s f1 ≡ send (slot_node f.code s) (2 * s) (token_with f (slot_node f.code s) 0) f1
        → ((F : Frame) → IsSent F (2 * s) × IsSent F (suc (2 * s)) → Gives (g.asked m) F t k.inst s)
        → Sent f1 (2 * s) (token_with f (slot_node f.code s) 0)
        (send (slot_node f.code s) (2 * s) (token_with f (slot_node f.code s) 0) f1)
        → Going blocks budget least (issued blocks budget tile m s (latency k.inst.op) g)
    sends_going t e same' gives x =
        let F : Frame = record f1 { places = x.places; marks = x.marks } in
        issued_going F (fire_is t e ∙ same' ∙ x.is) refl refl k.runs refl (λ y z. flag_keeps f.fired s y z)
        (λ j y d z. come_by (g.asked m) f F refl refl j y (form_of j.op)) x.keeps x.others
        (result_is F refl fires_now t e (gives F
        ((λ z. x.full k.ready (2 * s) (inl refl) z), (λ z. x.full k.ready (suc (2 * s)) (inr refl) z))))
        (tied).standing sure

    -- what waits with a number
    module _ (kind : has_number (form_of k.inst.op) ≡ true) where
      abbrev Q : Frame
      Q = record f { fired = set f.fired s true; requests = set f.requests k.inst.number (Some s) }

      none_waits : at f.requests k.inst.number ≡ None
      none_waits = free_number blocks good o f ok rule s k kind

      waits_now : at (set f.requests k.inst.number (Some s)) k.inst.number ≡ Some s
      waits_now = set_here f.requests k.inst.number (Some s) (let l : length f.requests ≡ 32 = ok.sized.requests in
          let j = number_small f.code (good f.block f.code ok.code).fits s k.inst k.is_inst in omega (arith, l, j))

      not_asked : g.asked m k.inst.number ≡ false
      not_asked = false_of (g.asked m k.inst.number) (λ h. (tied).standing k.inst.number h none_waits)

      waits_then : (j t : ℕ) → t ≢ s
          → is_waiting (at (set f.requests k.inst.number (Some s)) j) t ≡ is_waiting (at f.requests j) t
      waits_then j t d = elim (equal_or j k.inst.number) [
        | inl z ↦ waits_other (at (set f.requests k.inst.number (Some s)) j) s t
            (ap (at (set f.requests k.inst.number (Some s))) z ∙ waits_now) d
            ∙ sym (waits_none (at f.requests j) t (ap (at f.requests) z ∙ none_waits))
        | inr ne ↦ ap (λ q. is_waiting q t) (other_at f.requests k.inst.number j (Some s) ne)
      ]

      asks_come : (j : Inst) (t : ℕ) → t ≢ s → (x : Form) → to_come (g.asked m) Q x j t ≡ to_come (g.asked m) f x j t
      asks_come j t d General = refl
      asks_come j t d Immediate = refl
      asks_come j t d Constant = refl
      asks_come j t d Branch = refl
      asks_come j t d Load = ap (λ b. b && not (g.asked m j.number)) (waits_then j.number t d)
      asks_come j t d Store = ap (λ b. b && not (g.asked m j.number)) (waits_then j.number t d)

      asks_gives : (is_waiting (at (set f.requests k.inst.number (Some s)) k.inst.number) s
          && not (g.asked m k.inst.number)) ≡ true
      asks_gives = ap₂ (λ q b. is_waiting q s && not b) waits_now not_asked ∙ ap (λ b. b && true) (same s)

      asks_going : fire s o f ≡ Q → InUnit (g.asked m) Q s
          → Going blocks budget least (issued blocks budget tile m s (latency k.inst.op) g)
      asks_going is result = issued_going Q is refl refl k.runs refl (λ y z. flag_keeps f.fired s y z)
          (λ j y d z. asks_come j y d (form_of j.op)) (λ q z. z) (λ q z y. refl) result
          (λ j h. elim (equal_or j k.inst.number) [
            | inl z ↦ λ y. let bad : None ≡ Some s = sym y ∙ ap (at (set f.requests k.inst.number (Some s))) z
                ∙ waits_now in cc
            | inr ne ↦ λ y. (tied).standing j h (sym (other_at f.requests k.inst.number j (Some s) ne) ∙ y)
          ]) sure

    abbrev B : Frame
    B = record f { fired = set f.fired s true; leaving = Some s }

    branch_come : form_of k.inst.op ≡ Branch → (j : Inst) (t : ℕ) → t ≢ s → (x : Form)
        → to_come (g.asked m) B x j t ≡ to_come (g.asked m) f x j t
    branch_come e j t d General = refl
    branch_come e j t d Immediate = refl
    branch_come e j t d Constant = refl
    branch_come e j t d Load = refl
    branch_come e j t d Store = refl
    branch_come e j t d Branch = waits_other (Some s) s t refl d
        ∙ sym (waits_none f.leaving t (free_exit blocks good o f ok rule s k e))

    form_going : (t : Form) → form_of k.inst.op ≡ t
        → Going blocks budget least (issued blocks budget tile m s (latency k.inst.op) g)
    form_going General e = sends_going General e refl (λ F h. h) (fire_sends blocks good o f ok s k.small)
    form_going Immediate e = sends_going Immediate e refl (λ F h. h) (fire_sends blocks good o f ok s k.small)
    form_going Constant e = sends_going Constant e refl (λ F h. h) (fire_sends blocks good o f ok s k.small)
    form_going Load e = asks_going (ap has_number e) (fire_is Load e)
        (result_is (Q (ap has_number e)) refl fires_now Load e (asks_gives (ap has_number e)))
    form_going Store e = asks_going (ap has_number e) (fire_is Store e)
        (result_is (Q (ap has_number e)) refl fires_now Store e (asks_gives (ap has_number e)))
    form_going Branch e = issued_going B (fire_is Branch e) refl refl k.runs refl (λ y z. flag_keeps f.fired s y z)
        (λ j y d z. branch_come e j y d (form_of j.op)) (λ q z. z) (λ q z y. refl)
        (result_is B refl fires_now Branch e (same s)) (tied).standing sure

    issue_going : Going blocks budget least (issued blocks budget tile m s (takes (slot_of f.code s)) g)
    issue_going = subst (λ q. Going blocks budget least (issued blocks budget tile m s (takes q) g)) (sym k.is_inst)
        (form_going (form_of k.inst.op) refl)

  -- a slot that a free unit issues keeps the rule
  pub fire_going : Going blocks budget least (issued blocks budget tile m s (takes (slot_of f.code s)) g)
  fire_going = issue_going (fires blocks good o f ok s asks)
