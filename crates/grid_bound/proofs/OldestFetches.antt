-- Part (2): with a frame in flight the oldest one stays as it is; without one the fetch of the next block goes on.
use Rattle.std.proofs.Common.{◌≡◌, ℕ, zero, suc, ◌+◌, ◌-◌, ◌^◌, ◌<◌, ◌==◌, ◌&&◌, ◌⊎◌, inl, inr}
use Rattle.std.proofs.Common.{Bool, true, false, cond}
use Rattle.std.proofs.Common.{not, nat_lt, length, List, [], ◌∷◌, ◌++◌, Option, Some, None, is_none, is_some, slice_get}
use Rattle.std.proofs.Common.{slice_index, slice_index_or, slice_set, refl, sym, ap, ap₂, ◌∙◌, subst, arith}
use Rattle.std.proofs.Math.Path.{fun_ext}
use Rattle.std.proofs.lemmas.Bool.{cond_both, cond-true, cond-false, or_parts, eqb-false, ne_eqb, eq-eqb, le-ltb}
use Rattle.std.proofs.lemmas.List.{get_or-set_other}
use Rattle.trips_isa.specs.declared.block.Block.{Block}
use Rattle.trips_isa.specs.declared.block.Inst.{Inst}
use Rattle.trips_isa.specs.declared.block.ReadSlot.{ReadSlot}
use Rattle.trips_isa.specs.declared.run.Stepped.{Stepped}
use Rattle.trips_isa.specs.declared.run.Stepped.TheVariants as stepped
use Rattle.trips_isa.specs.Rule.{Answer}
use Rattle.block_cases.specs.Orders.{slot_of}
use Rattle.block_predict.specs.Predicts.{predicted}
use Rattle.commit_flush_spec.specs.Causes.{NoFrame, NoBlock, Worn, Serial, Wrong, Happened, Done, NotNow, judged}
use Rattle.commit_flush_spec.specs.Frames.{Frame, Exit, at, fresh, unset}
use Rattle.commit_flush_spec.specs.Older.{after_all, committed, follows}
use Rattle.commit_flush_spec.specs.Window.{Window, can, can_fetch, can_now, done, happens, unless_over, in_flight}
use Rattle.commit_flush_spec.specs.Window.{lowest_empty, is_worn, fetched}
use Rattle.commit_flush_spec.specs.Window as window
use Rattle.commit_flush_spec.specs.inside.Laws.{WindowOk}
use Rattle.commit_flush_spec.proofs.Events.{taken}
use Rattle.commit_flush_spec.proofs.Flow.{some_of}
use Rattle.commit_flush_spec.proofs.Frames.{not_now}
use Rattle.commit_flush_spec.proofs.Lists.{blank_at, unset_at}
use Rattle.commit_flush_spec.proofs.Numbers.{lowest_is}
use Rattle.grid_cycle_spec.specs.Grid.{Grid, Fetching}
use Rattle.grid_cycle_spec.specs.Acting.{is_done, may}
use Rattle.grid_cycle_spec.specs.Fetches.{filled, fills, fill_where, fetch_on, fetch_ends, begun, stands}
use Rattle.grid_cycle_spec.specs.Fetches.{begun_predicted, begun_guess, begun_behind, begun_after, may_begin}
use Rattle.grid_cycle_spec.specs.Fetches.{fetch_begins, begins, fetches}
use Rattle.grid_bound.specs.inside.Course.{Course}
use Rattle.grid_bound.specs.inside.Lane.{Phase, Absent, Idle, Front, Stage, Running}
use Rattle.grid_bound.specs.inside.Lane as lane
use Rattle.grid_bound.specs.inside.Sending.{fetching}
use Rattle.grid_bound.specs.inside.Sending as sending
use Rattle.grid_bound.specs.inside.Blocks.{slot_tasks, slot_task, read_task, course_of}
use Rattle.grid_bound.specs.inside.Seen.{slot_phase, read_phase, phase_of, has_come, front_of, fetch_of, stage_of}
use Rattle.grid_bound.specs.inside.Behind.{Behind}
use Rattle.grid_bound.specs.inside.Shows.{IsDue}
use Rattle.grid_bound.proofs.Others.{behind_at, behind_same}

-- answers ------------------------------------------------------------------------------------------

-- the test of an answer tells that it is done
pub done_is : (h : Happened) → is_done h ≡ true → h ≡ Done
done_is Done e = refl
done_is (NotNow c) e = absurd (cc)

-- what is done unless the run is over is done
pub going : (o : Stepped) (h : Happened) → unless_over o h ≡ Done → h ≡ Done
going stepped.Went h e = e
going stepped.Ended h e = absurd (cc)
going stepped.StackFull h e = absurd (cc)
going (stepped.Trap c) h e = absurd (cc)

module _ (blocks : List Block) (budget : ℕ) where
  -- a fetch that is done fills an empty frame with a block of the image
  record Filling (w : Window) (k : ℕ) : Type 0 where
    number : ℕ
    is_number : lowest_empty 8 0 w.frames ≡ Some number
    code : Block
    is_code : slice_get blocks k ≡ Some code
    now : happens blocks budget (window.Fetch k) w ≡ record w {
      generations = slice_set w.generations number (slice_index w.generations number + 1);
      frames = w.frames ++ fresh number k code ∷ [];
    }

  filling : (w : Window) (k : ℕ) → can blocks budget (window.Fetch k) w ≡ Done → Filling w k
  filling w k c =
      let d : can_fetch blocks k w ≡ Done = going w.over (can_fetch blocks k w) c in
      let a = not_now (is_none (lowest_empty 8 0 w.frames)) NoFrame _ d in
      let b = not_now (is_none (slice_get blocks k)) NoBlock _ a.1 in
      let n : (m : ℕ) × (lowest_empty 8 0 w.frames ≡ Some m) = some_of (lowest_empty 8 0 w.frames) a.0 in
      let x : (b : Block) × (slice_get blocks k ≡ Some b) = some_of (slice_get blocks k) b.0 in
      record {
        number = n.0;
        is_number = n.1;
        code = x.0;
        is_code = x.1;
        now = taken blocks budget (window.Fetch k) w c ∙ ap₂ (λ o b. fetched k o b w) n.1 x.1;
      }

-- where a fetch begins -----------------------------------------------------------------------------

module _ {W : Type 0} (blocks : List Block) (budget : ℕ) where
  -- only the fetch unit and the predictor change
  abbrev pub Begun : Grid W → Grid W → Type 0
  Begun g h = h ≡ record g { fetching = h.fetching; predictor = h.predictor }

  predicted_begun : (k : ℕ) (o : Option ℕ) (g : Grid W) → Begun g (begun_predicted blocks k o g)
  predicted_begun k None g = refl
  predicted_begun k (Some m) g = refl

  guess_begun : (o : Option ℕ) (f : Frame) (g : Grid W) → Begun g (begun_guess blocks o f g)
  guess_begun (Some k) f g = refl
  guess_begun None f g = predicted_begun f.block (predicted blocks g.predictor f.block) g

  behind_begun : (f : Frame) (e : Option Exit) (g : Grid W) → Begun g (begun_behind blocks f e g)
  behind_begun f (Some e) g = refl
  behind_begun f None g = guess_begun g.standing f g

  after_begun : (fs : List Frame) (g : Grid W) → Begun g (begun_after blocks fs g)
  after_begun [] g = refl
  after_begun (f ∷ []) g = behind_begun f f.exit g
  after_begun (f ∷ (h ∷ fs)) g = after_begun (h ∷ fs) g

  -- where a fetch begins, this changes only the fetch unit and the predictor
  pub begins_begun : (g : Grid W) → Begun g (begins blocks g)
  begins_begun g = go g.fetching
    where
      go : (o : Option Fetching) → Begun g (fetch_begins blocks o g)
      go (Some f) = refl
      go None = cond_both (may_begin g) (begun_after blocks g.window.frames g) g (Begun g)
          (λ e. after_begun g.window.frames g) (λ e. refl)

  -- what is seen of a frame hangs on neither
  begun_same : (g m h : Grid W) (f : Frame) → Begun m h → Behind f g m → Behind f g h
  begun_same g m h f e b = subst (Behind f g) (sym e)
      (behind_same f g m (record m { fetching = h.fetching; predictor = h.predictor }) refl refl refl refl refl b)

  -- with a frame in flight -------------------------------------------------------------------------

  module _ (g : Grid W) (f : Frame) (fs : List Frame) (i : g.window.frames ≡ f ∷ fs) where
    quiet : (x : Option Fetching) → Behind f g (record g { fetching = x })
    quiet x = behind_same f g g (record g { fetching = x }) refl refl refl refl refl (behind_at f g fs i)

    filled_behind : (x : Fetching) → may blocks budget (window.Fetch x.block) g ≡ true
        → Behind f g (fills blocks budget x g)
    filled_behind x e =
        let v : Window = happens blocks budget (window.Fetch x.block) g.window in
        let q : Filling blocks budget g.window x.block =
        filling blocks budget g.window x.block (done_is (can blocks budget (window.Fetch x.block) g.window) e) in
        let free : in_flight q.number (f ∷ fs) ≡ false =
        subst (λ l. in_flight q.number l ≡ false) i (lowest_is 8 0 g.window.frames q.number q.is_number).1 in
        let other : (f.number == q.number) ≡ false =
        (or_parts (f.number == q.number) (in_flight q.number fs) free).0 in
        record {
          younger = fs ++ fresh q.number x.block q.code ∷ [];
          frames = ap (λ (w : Window). w.frames) q.now ∙ ap (λ l. l ++ fresh q.number x.block q.code ∷ []) i;
          state = ap (λ (w : Window). w.state) q.now;
          over = ap (λ (w : Window). w.over) q.now;
          generation = ap (λ (w : Window). slice_index w.generations f.number) q.now
              ∙ get_or-set_other g.window.generations q.number f.number _ 0
              (λ z. eqb-false f.number q.number other z);
          parcels = refl;
          asked = refl;
          works = refl;
          careful = ap (λ o. cond (f.number == filled o) x.careful (g.careful f.number)) q.is_number
              ∙ cond-false (f.number == q.number) _ _ other;
        }

    fill_behind : (x : Fetching) (b : Bool) → may blocks budget (window.Fetch x.block) g ≡ b
        → Behind f g (fill_where b blocks budget x g)
    fill_behind x true e = filled_behind x e
    fill_behind x false e = quiet None

    fetch_behind : (o : Option Fetching) → Behind f g (fetch_ends blocks budget o g)
    fetch_behind None = behind_at f g fs i
    fetch_behind (Some x) = go x.left
      where
        go : (n : ℕ) → Behind f g (fetch_on blocks budget n x g)
        go zero = fill_behind x (may blocks budget (window.Fetch x.block) g) refl
        go (suc n) = quiet (Some (record x { left = n }))

    -- with a frame in flight part (2) leaves the oldest frame as it is
    pub fetches_behind : Behind f g (fetches blocks budget g)
    fetches_behind =
        let m : Grid W = fetch_ends blocks budget g.fetching g in
        begun_same g m (begins blocks m) f (begins_begun m) (fetch_behind g.fetching)

-- a fresh frame ------------------------------------------------------------------------------------

nothing_came : (n k : ℕ) (b : Block) (q : ℕ) → has_come (fresh n k b) q ≡ false
nothing_came n k b q =
    ap₂ (λ (x y : Bool). cond (nat_lt q 416) x (cond (nat_lt q 448) y (q == 448 && false)))
    (ap is_some (blank_at 416 q)) (ap is_some (blank_at 32 (q - 416))) ∙ go (nat_lt q 416) (nat_lt q 448) (q == 448)
  where
    go : (x y z : Bool) → cond x false (cond y false (z && false)) ≡ false
    go true y z = refl
    go false true z = refl
    go false false true = refl
    go false false false = refl

fresh_phase : {W : Type 0} (g : Grid W) (n k : ℕ) (b : Block) (t : ℕ → Answer) (x : ℕ)
    → phase_of g (fresh n k b) x ≡ cond ((course_of b t).task x).declared Idle Absent
fresh_phase g n k b t x = go (nat_lt x slot_tasks)
  where
    slot : (o : Option Inst) → slot_phase g (fresh n k b) x o ≡ cond (slot_task b t x o).declared Idle Absent
    slot None = refl
    slot (Some i) = cond-false (slice_index_or (unset 128) x false) _ _ (unset_at 128 x)

    read : (o : Option ReadSlot) → read_phase g (fresh n k b) (x - slot_tasks) o
        ≡ cond (read_task b o).declared Idle Absent
    read None = refl
    read (Some r) = cond-false (slice_index_or (unset 32) (x - slot_tasks) false) _ _ (unset_at 32 (x - slot_tasks))

    go : (c : Bool) → cond c (slot_phase g (fresh n k b) x (slot_of b x))
        (read_phase g (fresh n k b) (x - slot_tasks) (slice_get b.reads.items (x - slot_tasks)))
        ≡ cond (cond c (slot_task b t x (slot_of b x))
        (read_task b (slice_get b.reads.items (x - slot_tasks)))).declared
        Idle Absent
    go true = slot (slot_of b x)
    go false = read (slice_get b.reads.items (x - slot_tasks))

abbrev made : Course → ℕ → (ℕ → Phase) → (ℕ → Bool) → Bool → Front
made c generation at come careful =
    record { course = c; generation = generation; at = at; come = come; careful = careful }

-- the front of a frame that has just been filled
pub fresh_front : {W : Type 0} (g : Grid W) (n k : ℕ) (b : Block) (t : ℕ → Answer)
    → front_of (course_of b t) g (fresh n k b)
    ≡ sending.fresh (slice_index g.window.generations n) (course_of b t) (g.careful n)
fresh_front g n k b t =
    let c : Course = course_of b t in
    ap₂ (λ (x : ℕ → Phase) y. made c (slice_index g.window.generations n) x y (g.careful n))
    (fun_ext (fresh_phase g n k b t)) (fun_ext (nothing_came n k b))

-- without a frame in flight ------------------------------------------------------------------------

module _ {W : Type 0} (blocks : List Block) (budget : ℕ) (g : Grid W) (i : g.window.frames ≡ [])
    (ok : WindowOk blocks budget g.window) (went : g.window.over ≡ stepped.Went)
    (room : slice_index g.window.generations 0 < 2 ^ 64 - 1) (b : Block)
    (is_code : slice_get blocks g.window.state.next ≡ Some b) (t : ℕ → Answer) where
  abbrev c : Course
  c = course_of b t

  -- what the fetch comes to, which the lane makes of the stage before: no frame is in flight,
  -- or the one that was filled
  pub record Comes (h : Grid W) (s : Stage) : Type 0 where
    pub generation : ℕ
    pub stage : stage_of c h h.window.frames ≡ fetching generation c s
    pub frames : (h.window.frames ≡ []) ⊎ (h.window.frames ≡ fresh 0 g.window.state.next b ∷ [])

  no_frame : may_begin g ≡ true
  no_frame = ap (λ l. (is_some (lowest_empty 8 0 l) && not (after_all l (committed g.window.state)).serial)
      && not (nat_lt g.predictor.ahead (length l))) i ∙ ap not (le-ltb g.predictor.ahead 0 (omega arith))

  -- the next block may be fetched
  next_may : (k : ℕ) → k ≡ g.window.state.next → can blocks budget (window.Fetch k) g.window ≡ Done
  next_may k e =
      ap (λ o. unless_over o (can_fetch blocks k g.window)) went
      ∙ ap (λ l. judged ((is_none (lowest_empty 8 0 l), NoFrame) ∷ (is_none (slice_get blocks k), NoBlock)
      ∷ (is_worn g.window.generations (lowest_empty 8 0 l), Worn)
      ∷ ((after_all l (committed g.window.state)).serial, Serial)
      ∷ (not (follows (after_all l (committed g.window.state)).known k), Wrong) ∷ [])) i
      ∙ ap (λ o. judged ((is_none o, NoBlock) ∷ (slice_index g.window.generations 0 == 2 ^ 64 - 1, Worn)
      ∷ (false, Serial) ∷ (not (g.window.state.next == k), Wrong) ∷ [])) (ap (slice_get blocks) e ∙ is_code)
      ∙ ap₂ (λ w d. judged ((w, Worn) ∷ (false, Serial) ∷ (not d, Wrong) ∷ []))
      (ne_eqb (slice_index g.window.generations 0) (2 ^ 64 - 1) (λ z. absurd (omega (arith, room, z))))
      (eq-eqb g.window.state.next k (sym e))

  -- an idle fetch unit begins to fetch it
  abbrev B : Grid W
  B = begun g.window.state.next (stands g.standing g.window.state.next) g

  idle_begins : g.fetching ≡ None → Comes (begins blocks g) (fetch_of g None)
  idle_begins e = subst (λ h. Comes h (fetch_of g None)) (sym it) (record {
    generation = 0;
    stage = ap (stage_of c B) i;
    frames = inl i;
  })
    where
      it : begins blocks g ≡ B
      it = ap (λ o. fetch_begins blocks o g) e ∙ cond-true (may_begin g) _ _ no_frame
          ∙ ap (λ l. begun_after blocks l g) i

  -- a fetch whose time is over fills a frame
  module _ (x : Fetching) (e : x.block ≡ g.window.state.next) where
    abbrev M : Grid W
    M = fills blocks budget x g

    abbrev H : Grid W
    H = begins blocks M

    now : happens blocks budget (window.Fetch x.block) g.window ≡ fetched x.block (Some 0) (Some b) g.window
    now = taken blocks budget (window.Fetch x.block) g.window (next_may x.block e)
        ∙ ap₂ (λ o b. fetched x.block o b g.window) (ap (lowest_empty 8 0) i) (ap (slice_get blocks) e ∙ is_code)

    one_frame : H.window.frames ≡ fresh 0 x.block b ∷ []
    one_frame = ap (λ (k : Grid W). k.window.frames) (begins_begun blocks budget M)
        ∙ ap (λ (w : Window). w.frames) now ∙ ap (λ l. l ++ fresh 0 x.block b ∷ []) i

    careful_is : H.careful 0 ≡ x.careful
    careful_is = ap (λ (k : Grid W). k.careful 0) (begins_begun blocks budget M)
        ∙ ap (λ l. cond (0 == filled (lowest_empty 8 0 l)) x.careful (g.careful 0)) i

    fetch_fills : Comes (begins blocks (fill_where (may blocks budget (window.Fetch x.block) g) blocks budget x g))
        (lane.Fetching (Some 0) x.careful)
    fetch_fills = subst (λ m. Comes (begins blocks m) (lane.Fetching (Some 0) x.careful))
        (sym (ap (λ b. fill_where b blocks budget x g) (ap is_done (next_may x.block e))))
        (record {
          generation = slice_index H.window.generations 0;
          stage = ap (stage_of c H) one_frame
              ∙ ap Running (fresh_front H 0 x.block b t
              ∙ ap (λ k. sending.fresh (slice_index H.window.generations 0) c k) careful_is);
          frames = inr (one_frame ∙ ap (λ k. fresh 0 k b ∷ []) e);
        })

  -- the lane's fetch goes on as the grid's does
  pub fetches_come : IsDue g g.fetching → Comes (fetches blocks budget g) (fetch_of g g.fetching)
  fetches_come due = go g.fetching refl due
    where
      go : (o : Option Fetching) → g.fetching ≡ o → IsDue g o
          → Comes (begins blocks (fetch_ends blocks budget o g)) (fetch_of g o)
      go None e d = idle_begins e
      go (Some x) e d = left x.left
        where
          left : (n : ℕ) → Comes (begins blocks (fetch_on blocks budget n x g)) (lane.Fetching (Some n) x.careful)
          left zero = fetch_fills x d
          left (suc n) = record {
            generation = 0;
            stage = ap (stage_of c (record g { fetching = Some (record x { left = n }) })) i;
            frames = inl i;
          }
