-- What is due in a place of the oldest frame arrives: a token, a request and a branch.
use Rattle.std.proofs.Common.{◌≡◌, ◌≢◌, ℕ, suc, ◌+◌, ◌*◌, ◌/◌, ◌%◌, ◌<◌, ◌==◌, ◌&&◌, ◌||◌, ◌⊎◌, inl, inr, []}
use Rattle.std.proofs.Common.{Bool, true, false, not, nat_lt, List, ◌∷◌, length, Some, None, is_none}
use Rattle.std.proofs.Common.{slice_index, slice_index_or, refl, sym, ap, ap₂, ◌∙◌, subst, arith}
use Rattle.std.proofs.Common.{true≢false}
use Rattle.std.proofs.lemmas.Bool.{cond-true, and_from, and_right, cases_eq}
use Rattle.std.proofs.lemmas.Bool.{lt-ltb, eq-eqb, ne_eqb}
use Rattle.std.proofs.lemmas.Bool.{or_left, or_right}
use Rattle.trips_isa.specs.declared.block.Token.{Token}
use Rattle.trips_isa.specs.declared.block.Inst.{Inst}
use Rattle.trips_isa.specs.declared.block.Block.{Block}
use Rattle.trips_isa.specs.declared.form.Form.TheVariants as form
use Rattle.trips_isa.specs.declared.run.Stepped.TheVariants as stepped
use Rattle.trips_isa.specs.Forms.{form_of}
use Rattle.trips_isa.specs.Rule.{Answer}
use Rattle.block_cases.specs.Orders.{slot_of}
use Rattle.operand_net.specs.declared.parcel.Stand.{Stand}
use Rattle.operand_net.specs.declared.parcel.Stand.TheVariants.{Nowhere}
use Rattle.commit_flush_spec.specs.Causes.{NoFrame, NoExit, NoToken, Done, NotNow, judged}
use Rattle.commit_flush_spec.specs.Frames.{Frame, at, target, is_target, token_places}
use Rattle.commit_flush_spec.specs.Older.{committed, successor_of}
use Rattle.commit_flush_spec.specs.Dataflow.{can_deliver, deliver, delivered}
use Rattle.commit_flush_spec.specs.Ends.{can_exit, exit, exit_by, branch_of, branch_mark, with_exit, kept}
use Rattle.commit_flush_spec.specs.inside.Invariant.{AllGood, FrameOk}
use Rattle.commit_flush_spec.specs.inside.Laws.{WindowOk, NoneLost, AllKept}
use Rattle.commit_flush_spec.specs.Window.{Window, alone, change, can, can_now, on_frame, unless_over, happens}
use Rattle.commit_flush_spec.specs.Window as window
use Rattle.commit_flush_spec.proofs.Events.{taken}
use Rattle.commit_flush_spec.proofs.Lists.{other_at}
use Rattle.commit_flush_spec.proofs.Tokens.{inst_in}
use Rattle.commit_flush_spec.proofs.Whole.{happens_moves}
use Rattle.commit_flush_spec.proofs.FramesSeen.{change_oldest}
use Rattle.commit_flush_spec.specs.inside.Observers.{has_number}
use Rattle.grid_cycle_spec.specs.Grid.{Grid}
use Rattle.grid_cycle_spec.specs.Acting.{act, flushed, gone}
use Rattle.grid_cycle_spec.specs.inside.Arrivals.{asks, delivers, is_waiting}
use Rattle.grid_bound.specs.inside.Course.{Serving, Course}
use Rattle.grid_bound.specs.inside.Lane.{Front}
use Rattle.grid_bound.specs.inside.Blocks.{slot_tasks, kind_of}
use Rattle.grid_bound.specs.inside.Seen.{slot_phase, has_come}
use Rattle.grid_bound.proofs.Sizes.{slot_tasks_is}
use Rattle.grid_bound.specs.inside.Behind.{Behind}
use Rattle.grid_bound.specs.inside.MoveRule.{IsToken, MoveRule}
use Rattle.grid_bound.proofs.Ahead.{frame_of_place, place_in_frame}
use Rattle.grid_bound.proofs.Others.{behind_at, was_flushed, acted_leaving}
use Rattle.grid_bound.proofs.OldestEnds.{asks_oldest}
use Rattle.grid_bound.proofs.Fronts.{slot_far, slot_phase_is, at_slot}
use Rattle.grid_bound.proofs.StandingRequests.{waiting_is}
use Rattle.grid_bound.proofs.OldestLands.{due, spot_came}
use Rattle.grid_bound.proofs.OldestLands.{exit_came}
use Rattle.grid_bound.proofs.PlaceArrivals.{land_first, no_landing}
use Rattle.grid_bound.proofs.PlaceArrivals

module _ {W : Type 0} (blocks : List Block) (good : AllGood blocks) (budget : ℕ) (t : ℕ → Answer) (f : Frame)
    (m : Grid W) (rule : MoveRule m f) (hold : ℕ → ℕ) where
  abbrev c : Course
  c = PlaceArrivals.c blocks good budget t f m rule hold

  abbrev F : Front
  F = PlaceArrivals.F blocks good budget t f m rule hold

  -- where the parcel of a place stands after the tick
  abbrev T : ℕ → Stand
  T = PlaceArrivals.T blocks good budget t f m rule hold

  -- the token of a place lands at a spot
  abbrev lands : ℕ → ℕ → Bool
  lands = PlaceArrivals.lands blocks good budget t f m rule hold

  -- the oldest frame when its first k places have been looked at
  abbrev AtPlace : (k : ℕ) → (h : Grid W) → Type 0
  AtPlace = PlaceArrivals.AtPlace blocks good budget t f m rule hold

  abbrev later_next : (k x : ℕ) → (2 * x ≡ k → due (T (2 * x)) ≡ false)
      → (nat_lt (2 * x) (suc k) && due (T (2 * x))) ≡ (nat_lt (2 * x) k && due (T (2 * x)))
  later_next = PlaceArrivals.later_next blocks good budget t f m rule hold

  module _ (k : ℕ) (small : k < 320) (h : Grid W) (a : AtPlace k h) (ok : WindowOk blocks budget h.window)
      (went : h.window.over ≡ stepped.Went) (now : due (T k) ≡ true) where
    abbrev e : Frame
    e = a.frame

    -- it was there before
    abbrev there : m.parcels f.number k ≢ Nowhere
    there = PlaceArrivals.there blocks good budget t f m rule hold k small h a ok went now

    abbrev M : Grid W
    M = PlaceArrivals.M blocks good budget t f m rule hold k small h a ok went now

    -- the frame and the grid when it has arrived
    abbrev Arrived : (E : Frame) → (H : Grid W) → Type 0
    Arrived = PlaceArrivals.Arrived blocks good budget t f m rule hold k small h a ok went now

    -- requests that are not this one are as they were
    abbrev asked_same
        : ((x : ℕ) (i : Inst) → slot_of f.code x ≡ Some i → is_waiting (at f.requests i.number) x ≡ true → 2 * x ≡ k
        → ⊥) → (x : ℕ) (i : Inst) → slot_of f.code x ≡ Some i → is_waiting (at f.requests i.number) x ≡ true
        → h.asked f.number i.number ≡ (m.asked f.number i.number || (nat_lt (2 * x) (suc k) && due (T (2 * x))))
    asked_same = PlaceArrivals.asked_same blocks good budget t f m rule hold k small h a ok went now

    abbrev own_ok : FrameOk blocks (committed h.window.state) e
    own_ok = PlaceArrivals.own_ok blocks good budget t f m rule hold k small h a ok went now

    -- a token ----------------------------------------------------------------------------------------

    module _ (token : IsToken f k) where
      abbrev q0 : ℕ
      q0 = target e.code k

      goes : is_target (target e.code k) ≡ true
      goes = ap (λ b. is_target (target b k)) a.code ∙ token.goes

      pub here : (x : Token) × (at e.places k ≡ Some x)
      here = some (at e.places k) (λ z. token.there (sym (a.places k (omega arith)) ∙ z))
        where
          some : (o : Answer) → o ≢ None → (x : Token) × (o ≡ Some x)
          some None n = absurd (n refl)
          some (Some x) n = (x, refl)

      abbrev pub E : Frame
      E = delivered k (Some here.0) e

      abbrev event : window.Event
      event = window.Deliver (token_places * f.number + k)

      it : can blocks budget (window.Deliver (token_places * f.number + k)) h.window ≡ Done
      it = ap (λ o. unless_over o (can_now blocks budget (window.Deliver (token_places * f.number + k)) h.window))
          went
          ∙ ap₂ (λ p n. on_frame (NotNow NoToken) (can_deliver p) (committed h.window.state) h.window.frames n)
          (place_in_frame f.number k small) (frame_of_place f.number k small ∙ sym a.number)
          ∙ asks_oldest blocks budget h.window e a.younger a.frames (NotNow NoToken) (can_deliver k)
          ∙ ap₂ (λ b o. judged ((b, NoToken) ∷ (is_none o, NoToken) ∷ (not (is_target q0), NoToken) ∷ [])) a.runs
          here.1
          ∙ ap (λ b. judged ((not b, NoToken) ∷ [])) goes

      abbrev after : Window
      after = happens blocks budget (window.Deliver (token_places * f.number + k)) h.window

      after_is : after ≡ record h.window { frames = E ∷ a.younger }
      after_is = taken blocks budget (window.Deliver (token_places * f.number + k)) h.window it
          ∙ ap (λ (l : List Frame). record h.window { frames = l })
          (ap₂ (λ p n. change (alone (deliver p)) (committed h.window.state) h.window.frames n)
          (place_in_frame f.number k small) (frame_of_place f.number k small ∙ sym a.number)
          ∙ ap (λ l. change (alone (deliver k)) (committed h.window.state) l e.number) a.frames
          ∙ change_oldest (alone (deliver k)) (committed h.window.state) e a.younger
          ∙ ap (λ o. delivered k o e ∷ a.younger) here.1)

      abbrev pub H : Grid W
      H = delivers blocks budget f.number k M

      -- a token that is due arrives at its spot
      pub token_arrives : ((q : ℕ) → lands k q ≡ (target e.code k == q))
          → ((x : ℕ) (i : Inst) → slot_of f.code x ≡ Some i → is_waiting (at f.requests i.number) x ≡ true
          → 2 * x ≡ k → ⊥) → Arrived E H
      token_arrives lands_at none = record {
        behind = a.younger;
        frames = ap (λ (w : Window). w.frames) after_is;
        number = refl;
        code = refl;
        stores = refl;
        sealed = refl;
        fired = refl;
        reads = refl;
        requests = refl;
        works = refl;
        generation = ap (λ (w : Window). slice_index w.generations f.number) after_is;
        careful = refl;
        parcels = refl;
        asked = asked_same none;
        places = λ p l. other_at e.places k p None (λ z. absurd (omega (arith, l, z)));
        leaving = λ x i s w l n z. z;
        come = λ q. spot_came e (target e.code k) here.0 E.spots goes own_ok.sized.spots refl q
            ∙ ap (λ b. has_come e q || b) (sym (lands_at q));
      }

    -- a request --------------------------------------------------------------------------------------

    module _ (x : ℕ) (is : k ≡ 2 * x) (i : Inst) (s : slot_of f.code x ≡ Some i)
        (w : is_waiting (at f.requests i.number) x ≡ true) (serving : kind_of (form_of i.op) ≡ Serving) where
      abbrev N : Grid W
      N = asks e.number i.number M

      in_slots : x < slot_tasks
      in_slots =
          let l : x < length f.code.insts.items = inst_in f.code.insts.items x i s in
          let z : length e.code.insts.items ≡ 128 = (good e.block e.code own_ok.code).fits.insts in
          let y : length f.code.insts.items ≡ length e.code.insts.items =
          ap (λ b. length b.insts.items) (sym a.code) in
          let u = slot_tasks_is in omega (arith, l, z, y, u)

      no_token : (q : ℕ) → lands k q ≡ false
      no_token q = ap (λ p. lands p q) is
          ∙ cond-true (2 * x % 2 == 0) _ _ (let z : 2 * x % 2 ≡ 0 = omega arith in eq-eqb (2 * x % 2) 0 z)
          ∙ (let z : 2 * x / 2 ≡ x = omega arith in
          ap (λ y. land_first (F.at y) (c.task y) (T (2 * x)) q) z)
          ∙ ap (λ z. land_first z (c.task x) (T (2 * x)) q)
          (at_slot m f x in_slots ∙ ap (slot_phase m f x) s ∙ slot_phase_is m f x i
          ∙ ap₂ (λ k d. slot_far k (slice_index_or f.fired x false) (m.works f.number x) d (m.asked f.number i.number)
          (m.parcels f.number (2 * x)) (m.parcels f.number (suc (2 * x)))) serving w)
          ∙ no_landing (slice_index_or f.fired x false) (m.works f.number x) (m.asked f.number i.number)
          (m.parcels f.number (2 * x)) (m.parcels f.number (suc (2 * x))) (T (2 * x)) (c.task x) q

      -- each request is of one slot
      other_number : (y : ℕ) (j : Inst) → is_waiting (at f.requests j.number) y ≡ true → y ≢ x
          → (j.number == i.number) ≡ false
      other_number y j v n = ne_eqb j.number i.number (λ z.
          let one : Some y ≡ Some x = sym (waiting_is (at f.requests j.number) y v) ∙ ap (at f.requests) z
          ∙ waiting_is (at f.requests i.number) x w in n (let it : y ≡ x = cc in it))

      -- a request that is due arrives at its data tile
      pub request_arrives : Arrived e N
      request_arrives = record {
        behind = a.younger;
        frames = a.frames;
        number = refl;
        code = refl;
        stores = refl;
        sealed = refl;
        fired = refl;
        reads = refl;
        requests = refl;
        works = refl;
        generation = refl;
        careful = refl;
        parcels = refl;
        asked = λ y j z v. by y j z v (cases_eq y x);
        places = λ p l. refl;
        leaving = λ y j z b l n v. v;
        come = λ q. off (has_come e q) ∙ ap (λ b. has_come e q || b) (sym (no_token q));
      }
        where
          off : (b : Bool) → b ≡ (b || false)
          off true = refl
          off false = refl

          by : (y : ℕ) (j : Inst) → slot_of f.code y ≡ Some j → is_waiting (at f.requests j.number) y ≡ true
              → (y ≡ x) ⊎ (y ≡ x → ⊥)
              → N.asked f.number j.number
              ≡ (m.asked f.number j.number || (nat_lt (2 * y) (suc k) && due (T (2 * y))))
          by y j z v (inl u) =
              let same : Some j ≡ Some i = sym z ∙ ap (slot_of f.code) u ∙ s in
              let one : j ≡ i = cc in
              or_left ((f.number == e.number) && (j.number == i.number)) _
              (and_from (f.number == e.number) (j.number == i.number) (eq-eqb f.number e.number (sym a.number))
              (eq-eqb j.number i.number (ap (λ (i : Inst). i.number) one)))
              ∙ sym (or_right (m.asked f.number j.number) _ (and_from (nat_lt (2 * y) (suc k)) (due (T (2 * y)))
              (lt-ltb (2 * y) (suc k) (omega (arith, is, u)))
              (ap (λ p. due (T p)) (let z : 2 * y ≡ k = omega (arith, is, u) in z) ∙ now)))
          by y j z v (inr n) =
              ap (λ b. b || h.asked f.number j.number)
              (and_right (f.number == e.number) (j.number == i.number) (other_number y j v n))
              ∙ a.asked y j z v
              ∙ ap (λ b. m.asked f.number j.number || b)
              (sym (later_next k y (λ u. absurd (n (omega (arith, is, u))))))

    -- a branch ---------------------------------------------------------------------------------------

    module _ (x : ℕ) (is : k ≡ 2 * x) (i : Inst) (s : slot_of f.code x ≡ Some i) (kind : form_of i.op ≡ form.Branch)
        (lands_at : (q : ℕ) → lands k q ≡ (448 == q)) where
      leaves : e.leaving ≡ Some x
      leaves = a.leaving x i s kind (omega (arith, is)) (subst (λ k. m.parcels f.number k ≢ Nowhere) is there)

      abbrev X : Frame
      X = with_exit (exit_by blocks e.block (branch_of e e.leaving)) (branch_mark e e.leaving) e

      abbrev rest : List Frame
      rest = kept (successor_of (exit_by blocks e.block (branch_of e e.leaving))) a.younger

      out : can blocks budget (window.Exit e.number) h.window ≡ Done
      out = ap (λ o. unless_over o (can_now blocks budget (window.Exit e.number) h.window)) went
          ∙ asks_oldest blocks budget h.window e a.younger a.frames (NotNow NoFrame) can_exit
          ∙ ap₂ (λ b o. judged ((b, NoFrame) ∷ (is_none o, NoExit) ∷ [])) a.runs leaves

      abbrev left : Window
      left = happens blocks budget (window.Exit e.number) h.window

      left_is : left ≡ record h.window { frames = X ∷ rest }
      left_is = taken blocks budget (window.Exit e.number) h.window out
          ∙ ap (λ (l : List Frame). record h.window { frames = l })
          (ap (λ l. change (exit blocks) (committed h.window.state) l e.number) a.frames
          ∙ change_oldest (exit blocks) (committed h.window.state) e a.younger)

      in_front : left.frames ≡ X ∷ rest
      in_front = ap (λ (w : Window). w.frames) left_is

      -- the exit has come
      lost : NoneLost X
      lost = (subst AllKept in_front
          (happens_moves blocks good budget (window.Exit e.number) h.window ok).ok.kept).0 a.runs

      fired_x : slice_index_or e.fired x false ≡ true
      fired_x = (own_ok.leaving x leaves).fired

      known : X.exit ≢ None
      known z = go (lost.exits x i (ap (λ b. slot_of b x) a.code ∙ s) kind fired_x)
        where
          go : (X.exit ≢ None) ⊎ (X.leaving ≡ Some x) → ⊥
          go (inl n) = n z
          go (inr w) = let bad : None ≡ Some x = w in cc

      abbrev Base : Grid W
      Base = record M { window = left }

      abbrev G : Grid W
      G = act blocks budget (window.Exit e.number) M

      only_younger : Behind X Base (flushed (gone h.window left) Base)
      only_younger = was_flushed X Base (gone h.window left) Base
          (acted_leaving e M blocks budget M (window.Exit e.number) ok a.younger rest a.frames X refl in_front)
          (behind_at X Base rest in_front)

      pub number : X.number ≡ f.number
      number = a.number

      at_f : {A : Type 0} (p q : ℕ → A) → p X.number ≡ q X.number → p f.number ≡ q f.number
      at_f p q z = subst (λ n. p n ≡ q n) number z

      -- a branch that is due arrives as the frame's exit
      pub branch_arrives : Arrived X G
      branch_arrives = record {
        behind = only_younger.younger;
        frames = only_younger.frames;
        number = refl;
        code = refl;
        stores = refl;
        sealed = refl;
        fired = refl;
        reads = refl;
        requests = refl;
        works = at_f G.works h.works only_younger.works;
        generation = at_f (λ n. slice_index G.window.generations n) (λ n. slice_index h.window.generations n)
            (only_younger.generation ∙ ap (λ (w : Window). slice_index w.generations X.number) left_is);
        careful = at_f G.careful h.careful only_younger.careful;
        parcels = at_f G.parcels M.parcels only_younger.parcels;
        asked = λ y j z v. ap (λ r. r j.number) (at_f G.asked h.asked only_younger.asked)
            ∙ asked_same none y j z v;
        places = λ p l. refl;
        leaving = λ y j z b l n v.
            let one : Some y ≡ Some x = sym v ∙ leaves in
            let same : y ≡ x = cc in absurd (omega (arith, l, is, same));
        come = λ q. exit_came e X.exit known q ∙ ap (λ b. has_come e q || b) (sym (lands_at q));
      }
        where
          none : (y : ℕ) (j : Inst) → slot_of f.code y ≡ Some j → is_waiting (at f.requests j.number) y ≡ true
              → 2 * y ≡ k → ⊥
          none y j z v u =
              let one : y ≡ x = omega (arith, u, is) in
              let same : Some j ≡ Some i = sym z ∙ ap (slot_of f.code) one ∙ s in
              let it : j ≡ i = cc in
              let n : has_number (form_of j.op) ≡ true =
              rule.numbered j.number y (waiting_is (at f.requests j.number) y v) j z in
              let bad : true ≡ false = sym n ∙ ap (λ (i : Inst). has_number (form_of i.op)) it ∙ ap has_number kind in
              true≢false bad
