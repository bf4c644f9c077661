-- Each program keeps to the frames 0 and 1: no fetch begins but below two frames, and only a fetch fills one.
use Rattle.std.proofs.Common.{◌≡◌, ◌≢◌, ℕ, zero, suc, ◌/◌, ◌%◌, ◌<◌, ◌≤◌, ◌⊎◌, inl, inr, ◌==◌, ◌||◌}
use Rattle.std.proofs.Common.{Bool, true, false, cond, nat_lt, List, [], ◌∷◌, ◌++◌, length, Option, Some, None}
use Rattle.std.proofs.Common.{is_some, slice_get, refl, sym, ap, ◌∙◌, subst, arith}
use Rattle.std.proofs.lemmas.Bool.{cond_both, eqb-true, ltb-true, and_parts}
use Rattle.std.proofs.lemmas.List.{length-map}
use Rattle.trips_isa.specs.declared.block.Block.{Block}
use Rattle.trips_isa.specs.Outcomes.{Outcome, Comes, Faults, unless}
use Rattle.commit_flush_spec.specs.Causes.{Happened, Done, NotNow}
use Rattle.commit_flush_spec.specs.Dataflow.{read, fire, deliver}
use Rattle.commit_flush_spec.specs.Memory.{load, store}
use Rattle.commit_flush_spec.specs.Ends.{outputs, cause_held, exit, seal}
use Rattle.commit_flush_spec.specs.Frames.{Frame, fresh}
use Rattle.commit_flush_spec.specs.Older.{committed}
use Rattle.commit_flush_spec.specs.InFlight.{commit_to}
use Rattle.commit_flush_spec.specs.Window.{Window, Event, alone, can, commit, done, fetched, flush, happens, if_done}
use Rattle.commit_flush_spec.specs.Window.{in_flight, lowest_empty}
use Rattle.commit_flush_spec.specs.Window as window
use Rattle.commit_flush_spec.proofs.Numbers.{nums, Begins, change_numbers, alone_numbers, read_number, fire_number}
use Rattle.commit_flush_spec.proofs.Numbers.{deliver_number, load_number, store_numbers, exit_numbers, flush_numbers}
use Rattle.grid_cycle_spec.specs.Grid.{Grid, Fetching, numbers_of}
use Rattle.grid_cycle_spec.specs.Acting.{act, gone, may}
use Rattle.grid_cycle_spec.specs.Ends.{commit_in, ends}
use Rattle.grid_cycle_spec.specs.Fetches.{begins, fetch_ends, fetch_on, fill_where}
use Rattle.grid_cycle_spec.specs.Banks.{bank_turn}
use Rattle.grid_cycle_spec.specs.DataTiles.{data_turn}
use Rattle.grid_cycle_spec.specs.Units.{issues}
use Rattle.grid_cycle_spec.specs.inside.Arrivals.{arrivals}
use Rattle.grid_cycle_spec.specs.Cycles.{closed}
use Rattle.grid_cycle_spec.proofs.Events.{flushed_window, committed_window}
use Rattle.grid_cycle_spec.proofs.KeptChanges.{IsSingle, IsFlushing, Kinds, Keeps, every, by_window}
use Rattle.grid_cycle_spec.proofs.KeptByTurns.{ends_keep}
use Rattle.grid_bound.proofs.OldestFetches.{begins_begun}
use Rattle.smt_spec.specs.Programs as programs
use Rattle.smt_spec.specs.Programs.{Own, Four, own_of, is_idle}
use Rattle.smt_spec.specs.Turns.{first_does, all_four}
use Rattle.smt_spec.specs.inside.Among.{Has}
use Rattle.smt_spec.specs.Parts.{Images, ends_of, fetches_go_on, fetches_of, gives, may_begin}
use Rattle.smt_spec.specs.Cycles.{goes_on, going, acting, acts_of, retires, Eager4}
use Rattle.smt_spec.proofs.FetchDropped.{OwnDrops, own_drops}
use Rattle.smt_spec.proofs.FetchDropped as dropped
use Rattle.smt_spec.proofs.OwnWalks.{KeptByOwn, by_changes, first_goes, all_goes, either_goes, stations_go, moves_go}
use Rattle.smt_spec.proofs.OverStays.{over_stays, retired}
use Rattle.smt_spec.proofs.OwnRuns.{Fetchless}
use Rattle.smt_bound.specs.inside.FourRule.{AllTwo, TwoFrames}

-- fewer numbers -----------------------------------------------------------------------------------

-- no more numbers than before, and none of another kind
abbrev Fewer : List ℕ → List ℕ → Type 0
Fewer ns ms = (length ns ≤ length ms) × (AllTwo ms → AllTwo ns)

same_fewer : (ns : List ℕ) → Fewer ns ns
same_fewer ns = (omega arith, λ t. t)

chain_fewer : (ks ns ms : List ℕ) → Fewer ks ns → Fewer ns ms → Fewer ks ms
chain_fewer ks ns ms a b = (let x = a.0 in let y = b.0 in omega (arith, x, y), λ t. a.1 (b.1 t))

front : (ns rest : List ℕ) → Fewer ns (ns ++ rest)
front [] rest = (omega arith, λ t. tt)
front (n ∷ ns) rest = let f = front ns rest in (let l = f.0 in omega (arith, l), λ t. (t.0, f.1 t.1))

begins_fewer : (ns ms : List ℕ) → Begins ns ms → Fewer ns ms
begins_fewer ns ms b = subst (Fewer ns) (sym b.1) (front ns b.0)

tail_fewer : (n : ℕ) (ns : List ℕ) → Fewer ns (n ∷ ns)
tail_fewer n ns = (omega arith, λ t. t.1)

none_fewer : (ns : List ℕ) → Fewer [] ns
none_fewer ns = (omega arith, λ t. tt)

-- events ------------------------------------------------------------------------------------------

outcome_fewer : (x : Outcome) (f : Frame) (fs : List Frame) (w : Window)
    → Fewer (nums (commit_to x f fs w).frames) (nums (f ∷ fs))
outcome_fewer (Comes o) f fs w = tail_fewer f.number (nums fs)
outcome_fewer (Faults c) f fs w = none_fewer (nums (f ∷ fs))

commit_fewer : (fs : List Frame) (w : Window) → w.frames ≡ fs → Fewer (nums (commit fs w).frames) (nums w.frames)
commit_fewer [] w e = same_fewer (nums w.frames)
commit_fewer (f ∷ fs) w e = subst (λ l. Fewer (nums (commit (f ∷ fs) w).frames) (nums l)) (sym e)
    (outcome_fewer (unless (cause_held f) (outputs f)) f fs w)

-- an event that leaves a beginning of the numbers leaves fewer
so : (blocks : List Block) (e : Event) (w : Window) → Begins (nums (done blocks e w).frames) (nums w.frames)
    → Fewer (nums (done blocks e w).frames) (nums w.frames)
so blocks e w = begins_fewer (nums (done blocks e w).frames) (nums w.frames)

done_fewer : (blocks : List Block) (e : Event) → ((k : ℕ) → e ≡ window.Fetch k → ⊥) → (w : Window)
    → Fewer (nums (done blocks e w).frames) (nums w.frames)
done_fewer blocks (window.Fetch k) n w = absurd (n k refl)
done_fewer blocks (window.Read m r) n w = so blocks (window.Read m r) w
    (change_numbers (alone (read r)) (alone_numbers (read r) (read_number r)) (committed w.state) w.frames m)
done_fewer blocks (window.Fire m s) n w = so blocks (window.Fire m s) w
    (change_numbers (alone (fire s)) (alone_numbers (fire s) (fire_number s)) (committed w.state) w.frames m)
done_fewer blocks (window.Deliver t) n w = so blocks (window.Deliver t) w
    (change_numbers (alone (deliver (t % 320))) (alone_numbers (deliver (t % 320)) (deliver_number (t % 320)))
    (committed w.state) w.frames (t / 320))
done_fewer blocks (window.Load m k) n w = so blocks (window.Load m k) w
    (change_numbers (alone (load k)) (alone_numbers (load k) (load_number k)) (committed w.state) w.frames m)
done_fewer blocks (window.Store m k) n w = so blocks (window.Store m k) w
    (change_numbers (store k) (store_numbers k) (committed w.state) w.frames m)
done_fewer blocks (window.Exit m) n w = so blocks (window.Exit m) w
    (change_numbers (exit blocks) (exit_numbers blocks) (committed w.state) w.frames m)
done_fewer blocks (window.Seal m) n w = so blocks (window.Seal m) w
    (change_numbers (alone seal) (alone_numbers seal (λ o f. refl)) (committed w.state) w.frames m)
done_fewer blocks (window.Flush m) n w = so blocks (window.Flush m) w
    (change_numbers flush flush_numbers (committed w.state) w.frames m)
done_fewer blocks window.Commit n w = commit_fewer w.frames w refl

happens_fewer : (blocks : List Block) (budget : ℕ) (e : Event) → ((k : ℕ) → e ≡ window.Fetch k → ⊥) → (w : Window)
    → Fewer (nums (happens blocks budget e w).frames) (nums w.frames)
happens_fewer blocks budget e n w = go (can blocks budget e w)
  where
    go : (h : Happened) → Fewer (nums (if_done h (done blocks e w) w).frames) (nums w.frames)
    go Done = done_fewer blocks e n w
    go (NotNow c) = same_fewer (nums w.frames)

-- fetches -----------------------------------------------------------------------------------------

-- beside at most one frame the lowest empty one is 0 or 1
lowest_two : (fs : List Frame) (n : ℕ) → length fs < 2 → lowest_empty 8 0 fs ≡ Some n → n < 2
lowest_two [] n l e = let k : ◌≡◌ {A = Option ℕ} (Some 0) (Some n) = e in let z : 0 ≡ n = cc in omega (arith, z)
lowest_two (f ∷ []) n l e = by (in_flight 0 (f ∷ [])) refl e
  where
    one_number : in_flight 0 (f ∷ []) ≡ true → in_flight 1 (f ∷ []) ≡ true → ⊥
    one_number a b = tests (f.number == 0) refl (f.number == 1) refl a b
      where
        tests : (x : Bool) → (f.number == 0) ≡ x → (y : Bool) → (f.number == 1) ≡ y → (x || false) ≡ true
            → (y || false) ≡ true → ⊥
        tests true i true j c d =
            let v : f.number ≡ 0 = eqb-true f.number 0 i in
            let w : f.number ≡ 1 = eqb-true f.number 1 j in absurd (omega (arith, v, w))
        tests true i false j c d = absurd (cc)
        tests false i y j c d = absurd (cc)

    last : (b : Bool) → in_flight 1 (f ∷ []) ≡ b → in_flight 0 (f ∷ []) ≡ true
        → cond b (lowest_empty 6 2 (f ∷ [])) (Some 1) ≡ Some n → n < 2
    last true j i z = absurd (one_number i j)
    last false j i z = let y : ◌≡◌ {A = Option ℕ} (Some 1) (Some n) = z in let k : 1 ≡ n = cc in omega (arith, k)

    by : (b : Bool) → in_flight 0 (f ∷ []) ≡ b → cond b (lowest_empty 7 1 (f ∷ [])) (Some 0) ≡ Some n → n < 2
    by true i z = last (in_flight 1 (f ∷ [])) refl i z
    by false i z = let y : ◌≡◌ {A = Option ℕ} (Some 0) (Some n) = z in let k : 0 ≡ n = cc in omega (arith, k)
lowest_two (f ∷ (g ∷ fs)) n l e = absurd (omega (arith, l))

one_more : (fs : List Frame) (f : Frame) → AllTwo (nums fs) → f.number < 2 → AllTwo (nums (fs ++ f ∷ []))
one_more [] f t l = (l, tt)
one_more (g ∷ fs) f t l = (t.0, one_more fs f t.1 l)

fetched_two : (k : ℕ) (o : Option ℕ) (b : Option Block) (w : Window) → lowest_empty 8 0 w.frames ≡ o
    → length w.frames < 2 → AllTwo (nums w.frames) → AllTwo (nums (fetched k o b w).frames)
fetched_two k None b w e l t = t
fetched_two k (Some n) None w e l t = t
fetched_two k (Some n) (Some b) w e l t = one_more w.frames (fresh n k b) t (lowest_two w.frames n l e)

fill_two : (blocks : List Block) (budget k : ℕ) (w : Window) → length w.frames < 2 → AllTwo (nums w.frames)
    → AllTwo (nums (happens blocks budget (window.Fetch k) w).frames)
fill_two blocks budget k w l t = go (can blocks budget (window.Fetch k) w)
  where
    go : (h : Happened) → AllTwo (nums (if_done h (done blocks (window.Fetch k) w) w).frames)
    go Done = fetched_two k (lowest_empty 8 0 w.frames) (slice_get blocks k) w refl l t
    go (NotNow c) = t

-- grids -------------------------------------------------------------------------------------------

abbrev OwnFewer : Own → Own → Type 0
OwnFewer o n = Fewer (nums n.window.frames) (nums o.window.frames)

-- a program keeps to its frames
abbrev KeepsTwo : Own → Own → Type 0
KeepsTwo o n = TwoFrames o → TwoFrames n

-- fewer frames, and no other fetch
both : (o n : Own) → OwnFewer o n → OwnDrops o n → KeepsTwo o n
both o n f d t = record { numbers = f.1 t.numbers; room = λ z. by d z }
  where
    by : (n.fetching ≡ o.fetching) ⊎ (n.fetching ≡ None) → n.fetching ≢ None → length n.window.frames < 2
    by (inl e) z =
        let a : length o.window.frames < 2 = t.room (λ i. z (e ∙ i)) in
        let b = f.0 in
        let c = length-map o.window.frames (λ (f : Frame). f.number) in
        let d = length-map n.window.frames (λ (f : Frame). f.number) in omega (arith, a, b, c, d)
    by (inr e) z = absurd (z e)

stays : (o : Own) → KeepsTwo o o
stays o t = t

next_two : (o m n : Own) → KeepsTwo o m → KeepsTwo m n → KeepsTwo o n
next_two o m n a b t = b (a t)

-- all changes but that a frame is filled
abbrev unfilled : Kinds
unfilled = record every { filling = ⊥ }

module _ {W : Type 0} (blocks : List Block) (budget : ℕ) where
  abbrev FewerFrames : Grid W → Grid W → Type 0
  FewerFrames g h = Fewer (nums h.window.frames) (nums g.window.frames)

  by_event : (e : Event) → ((k : ℕ) → e ≡ window.Fetch k → ⊥) → (g h : Grid W)
      → h.window ≡ happens blocks budget e g.window → FewerFrames g h
  by_event e n g h i = subst (λ (w : Window). Fewer (nums w.frames) (nums g.window.frames)) (sym i)
      (happens_fewer blocks budget e n g.window)

  commits_fewer : (fs : List Frame) (g : Grid W) → FewerFrames g (commit_in blocks budget fs g)
  commits_fewer [] g = same_fewer (nums g.window.frames)
  commits_fewer (f ∷ fs) g =
      let v : Window = happens blocks budget window.Commit g.window in
      by_event window.Commit (λ k z. cc) g (commit_in blocks budget (f ∷ fs) g)
      (committed_window v.over f fs (record g { window = v }))

  keeps : Keeps unfilled blocks budget FewerFrames
  keeps = by_window unfilled blocks budget FewerFrames (record {
    same = λ g. same_fewer (nums g.window.frames);
    chain = λ g m h a b. chain_fewer (nums h.window.frames) (nums m.window.frames) (nums g.window.frames) b a;
    quiet = λ g h e c. subst (λ (w : Window). Fewer (nums w.frames) (nums g.window.frames)) (sym e)
        (same_fewer (nums g.window.frames));
    single = λ e l g h is c. by_event e (λ k z. subst IsSingle z l) g h is;
    flushing = λ e l g. by_event e (λ k z. subst IsFlushing z l) g (act blocks budget e g)
        (flushed_window (gone g.window (happens blocks budget e g.window))
        (record g { window = happens blocks budget e g.window }));
    filling = λ z f g may. absurd z;
    committing = λ c g may. commits_fewer g.window.frames g;
    counting = λ c g. same_fewer (nums g.window.frames);
  })

  fewer : KeptByOwn W blocks budget OwnFewer
  fewer = by_changes blocks budget FewerFrames keeps (λ n. tt) tt tt tt OwnFewer (λ g h r. r)

  kept : KeptByOwn W blocks budget KeepsTwo
  kept =
      let d : KeptByOwn W blocks budget OwnDrops = own_drops blocks budget in
      record {
        on_banks = λ n h. both (own_of h) (own_of (bank_turn blocks budget n h)) (fewer.on_banks n h) (d.on_banks n
            h);
        on_tiles = λ n h. both (own_of h) (own_of (data_turn blocks budget n h)) (fewer.on_tiles n h) (d.on_tiles n
            h);
        on_results = λ tile p h. both (own_of h) (own_of (gives tile p h)) (fewer.on_results tile p h) (d.on_results
            tile p h);
        on_issues = λ tile h. both (own_of h) (own_of (issues blocks budget tile h)) (fewer.on_issues tile h)
            (d.on_issues tile h);
        on_ticks = λ parcels weather h. both (own_of h) (own_of (record h { parcels = parcels; weather = weather }))
            (fewer.on_ticks parcels weather h) (d.on_ticks parcels weather h);
        on_arrivals = λ h. both (own_of h) (own_of (arrivals blocks budget (numbers_of h.window.frames) h))
            (fewer.on_arrivals h) (d.on_arrivals h);
      }

  ends_two : (h : Grid W) → KeepsTwo (own_of h) (own_of (ends blocks budget h))
  ends_two h = both (own_of h) (own_of (ends blocks budget h)) (ends_keep blocks budget FewerFrames keeps tt tt h)
      (dropped.ends_kept blocks budget h).is

  fetched_two_frames : (o : Option Fetching) (h : Grid W) → h.fetching ≡ o
      → KeepsTwo (own_of h) (own_of (fetch_ends blocks budget o h))
  fetched_two_frames None h e t = t
  fetched_two_frames (Some x) h e t = by x.left
    where
      room : length h.window.frames < 2
      room = t.room (λ z. (let bad : ◌≡◌ {A = Option Fetching} (Some x) None = sym e ∙ z in cc))

      fills : (b : Bool) → TwoFrames (own_of (fill_where b blocks budget x h))
      fills true = record {
        numbers = fill_two blocks budget x.block h.window room t.numbers;
        room = λ z. absurd (z refl);
      }
      fills false = record { numbers = t.numbers; room = λ z. absurd (z refl) }

      by : (n : ℕ) → TwoFrames (own_of (fetch_on blocks budget n x h))
      by zero = fills (may blocks budget (window.Fetch x.block) h)
      by (suc n) = record { numbers = t.numbers; room = λ z. room }

  begins_two : (h : Grid W) → length h.window.frames < 2 → KeepsTwo (own_of h) (own_of (begins blocks h))
  begins_two h l t =
      let e : (begins blocks h).window ≡ h.window = ap (λ (x : Grid W). x.window) (begins_begun blocks budget h) in
      record {
        numbers = subst (λ (w : Window). AllTwo (nums w.frames)) (sym e) t.numbers;
        room = λ z. subst (λ (w : Window). length w.frames < 2) (sym e) l;
      }

-- programs ----------------------------------------------------------------------------------------

module _ {W : Type 0} (images : Images) (budget q : ℕ) where
  module _ (ps : List ℕ) where
    pub ends_of_two : (g : Four W) → KeepsTwo (g.own q) ((ends_of images budget ps g).own q)
    ends_of_two = all_goes q KeepsTwo stays next_two (λ p. ends (images p) budget) (λ h. ends_two (images q) budget
        h) ps

    fetches_two : (g : Four W) → KeepsTwo (g.own q) ((fetches_of images budget ps g).own q)
    fetches_two g =
        let m : Four W = fetches_go_on images budget g in
        next_two (g.own q) (m.own q) ((fetches_of images budget ps g).own q)
        (all_goes q KeepsTwo stays next_two (λ p h. fetch_ends (images p) budget h.fetching h)
        (λ h. fetched_two_frames (images q) budget h.fetching h refl) all_four g)
        (either_goes q KeepsTwo stays next_two (is_idle m) (first_does (may_begin images) (λ p. begins (images p))
        ps m) m m
        (first_goes q KeepsTwo stays next_two (may_begin images) (λ p. begins (images p))
        (λ h e. begins_two (images q) budget h (ltb-true (length h.window.frames) 2
        (and_parts (nat_lt (length h.window.frames) 2) (is_some (begins (images q) h).fetching) e).0)) ps m)
        (stays (m.own q)))

    -- behind part (5)
    pub acts_two : (g : Four W) → KeepsTwo (g.own q) ((acts_of images budget ps g).own q)
    acts_two g =
        let a : Four W = fetches_of images budget ps g in
        next_two (g.own q) (a.own q) ((acts_of images budget ps g).own q) (fetches_two g)
        (stations_go q KeepsTwo stays next_two images budget (kept (images q) budget) ps a)

  module _ (there : Has q all_four) (next : W → ℕ) (follows : W → W → Type 0) (g h : Four W)
      (cycle : Eager4 next follows images budget g h) where
    last_two : KeepsTwo (g.own q) ((cycle.last).own q)
    last_two t =
        let ps : List ℕ = going budget g in
        let m : Four W = ends_of images budget ps g in
        let qs : List ℕ = acting ps m in
        moves_go q KeepsTwo stays next_two images budget (kept (images q) budget) qs next follows
        (acts_of images budget qs m) cycle.last cycle.moves (acts_two qs m (ends_of_two ps g t))

    retires_two : (k : Grid W) → KeepsTwo (own_of k) (own_of (retires budget k))
    retires_two k t = cond_both (goes_on budget k.window) k (record (closed k) { fetching = None })
        (λ (x : Grid W). TwoFrames (own_of x)) (λ e. t) (λ e. record {
          numbers = subst (λ (w : Window). AllTwo (nums w.frames))
              (sym (flushed_window k.window.frames (record k { window = record k.window { frames = [] } }))) tt;
          room = λ z. absurd (z refl);
        })

    -- each program keeps to its frames
    pub cycle_two : Fetchless budget (g.own q) → KeepsTwo (g.own q) (h.own q)
    cycle_two f t = by (goes_on budget (g.own q).window) refl
      where
        by : (b : Bool) → goes_on budget (g.own q).window ≡ b → TwoFrames (h.own q)
        by true i = subst (λ (k : Grid W). TwoFrames (own_of k))
            (sym (retired images budget q there next follows g h cycle i))
            (retires_two (programs.alone q cycle.last) (last_two t))
        by false i =
            let s = over_stays images budget q there next follows g h cycle i (f i) in
            record {
              numbers = subst (λ (w : Window). AllTwo (nums w.frames)) (sym s.0) t.numbers;
              room = λ n. absurd (n (s.1 ∙ f i));
            }
