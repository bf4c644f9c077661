-- No frame of a program is filled more often than cycles are made: only the end of a fetch fills one.
use Rattle.std.proofs.Common.{◌≡◌, ℕ, zero, suc, ◌+◌, ◌≤◌, Bool, true, false, List, [], ◌∷◌, Option, Some}
use Rattle.std.proofs.Common.{None, slice_get, slice_index, set, refl, ap, ◌∙◌, subst, arith}
use Rattle.trips_isa.specs.declared.block.Block.{Block}
use Rattle.trips_isa.specs.Outcomes.{Outcome, Comes, Faults, unless}
use Rattle.commit_flush_spec.specs.Causes.{Happened, Done, NotNow}
use Rattle.commit_flush_spec.specs.Ends.{outputs, cause_held}
use Rattle.commit_flush_spec.specs.Frames.{Frame}
use Rattle.commit_flush_spec.specs.InFlight.{commit_to}
use Rattle.commit_flush_spec.specs.Window.{Window, Event, can, commit, done, fetched, happens, if_done, lowest_empty}
use Rattle.commit_flush_spec.specs.Window as window
use Rattle.grid_cycle_spec.specs.Grid.{Grid, Fetching}
use Rattle.grid_cycle_spec.specs.Acting.{act, gone, may}
use Rattle.grid_cycle_spec.specs.Ends.{commit_in, ends}
use Rattle.grid_cycle_spec.specs.Fetches.{begins, fetch_ends, fetch_on, fill_where}
use Rattle.grid_cycle_spec.proofs.Events.{flushed_window, committed_window}
use Rattle.grid_cycle_spec.proofs.KeptChanges.{IsSingle, IsFlushing, Kinds, Keeps, every, by_window}
use Rattle.grid_cycle_spec.proofs.KeptByTurns.{ends_keep, begins_keeps}
use Rattle.smt_spec.specs.Programs.{Own, Four, own_of, alone, is_idle}
use Rattle.smt_spec.specs.Turns.{first_does}
use Rattle.smt_spec.specs.Parts.{Images, ends_of, fetches_go_on, fetches_of, may_begin}
use Rattle.smt_spec.specs.Cycles.{going, acting, acts_of, Eager4}
use Rattle.smt_spec.proofs.OwnWalks.{KeptByOwn, by_changes, first_goes, all_goes, either_goes, stations_go, moves_go}

-- an event that fills no frame leaves the generations -----------------------------------------------

outcome_generations : (x : Outcome) (f : Frame) (fs : List Frame) (w : Window)
    → (commit_to x f fs w).generations ≡ w.generations
outcome_generations (Comes o) f fs w = refl
outcome_generations (Faults c) f fs w = refl

commit_generations : (fs : List Frame) (w : Window) → (commit fs w).generations ≡ w.generations
commit_generations [] w = refl
commit_generations (f ∷ fs) w = outcome_generations (unless (cause_held f) (outputs f)) f fs w

done_generations : (blocks : List Block) (e : Event) → ((k : ℕ) → e ≡ window.Fetch k → ⊥) → (w : Window)
    → (done blocks e w).generations ≡ w.generations
done_generations blocks (window.Fetch k) n w = absurd (n k refl)
done_generations blocks (window.Read m r) n w = refl
done_generations blocks (window.Fire m s) n w = refl
done_generations blocks (window.Deliver t) n w = refl
done_generations blocks (window.Load m k) n w = refl
done_generations blocks (window.Store m k) n w = refl
done_generations blocks (window.Exit m) n w = refl
done_generations blocks (window.Seal m) n w = refl
done_generations blocks (window.Flush m) n w = refl
done_generations blocks window.Commit n w = commit_generations w.frames w

happens_generations : (blocks : List Block) (budget : ℕ) (e : Event) → ((k : ℕ) → e ≡ window.Fetch k → ⊥)
    → (w : Window) → (happens blocks budget e w).generations ≡ w.generations
happens_generations blocks budget e n w = go (can blocks budget e w)
  where
    go : (h : Happened) → (if_done h (done blocks e w) w).generations ≡ w.generations
    go Done = done_generations blocks e n w
    go (NotNow c) = refl

-- a frame that is filled raises one generation by one ------------------------------------------------

raised : (xs : List ℕ) (n m : ℕ) → slice_index (set xs n (slice_index xs n + 1)) m ≤ slice_index xs m + 1
raised [] n m = omega arith
raised (x ∷ xs) zero zero = omega arith
raised (x ∷ xs) zero (suc m) = omega arith
raised (x ∷ xs) (suc n) zero = omega arith
raised (x ∷ xs) (suc n) (suc m) = raised xs n m

fetched_more : (k : ℕ) (n : Option ℕ) (b : Option Block) (w : Window) (m : ℕ)
    → slice_index (fetched k n b w).generations m ≤ slice_index w.generations m + 1
fetched_more k None b w m = omega arith
fetched_more k (Some n) None w m = omega arith
fetched_more k (Some n) (Some b) w m = raised w.generations n m

fill_more : (blocks : List Block) (budget k m : ℕ) (w : Window)
    → slice_index (happens blocks budget (window.Fetch k) w).generations m ≤ slice_index w.generations m + 1
fill_more blocks budget k m w = go (can blocks budget (window.Fetch k) w)
  where
    go : (h : Happened)
        → slice_index (if_done h (done blocks (window.Fetch k) w) w).generations m ≤ slice_index w.generations m + 1
    go Done = fetched_more k (lowest_empty 8 0 w.frames) (slice_get blocks k) w m
    go (NotNow c) = omega arith

-- grids -------------------------------------------------------------------------------------------

-- all changes but that a frame is filled
abbrev unfilled : Kinds
unfilled = record every { filling = ⊥ }

module _ {W : Type 0} (blocks : List Block) (budget : ℕ) where
  abbrev SameGrid : Grid W → Grid W → Type 0
  SameGrid g h = h.window.generations ≡ g.window.generations

  by_event : (e : Event) → ((k : ℕ) → e ≡ window.Fetch k → ⊥) → (g h : Grid W)
      → h.window ≡ happens blocks budget e g.window → SameGrid g h
  by_event e n g h i = ap (λ (w : Window). w.generations) i ∙ happens_generations blocks budget e n g.window

  commits_same : (fs : List Frame) (g : Grid W) → SameGrid g (commit_in blocks budget fs g)
  commits_same [] g = refl
  commits_same (f ∷ fs) g =
      let v : Window = happens blocks budget window.Commit g.window in
      by_event window.Commit (λ k z. cc) g (commit_in blocks budget (f ∷ fs) g)
      (committed_window v.over f fs (record g { window = v }))

  keeps : Keeps unfilled blocks budget SameGrid
  keeps = by_window unfilled blocks budget SameGrid (record {
    same = λ g. refl;
    chain = λ g m h a b. b ∙ a;
    quiet = λ g h e c. ap (λ (w : Window). w.generations) e;
    single = λ e l g h is c. by_event e (λ k z. subst IsSingle z l) g h is;
    flushing = λ e l g. by_event e (λ k z. subst IsFlushing z l) g (act blocks budget e g)
        (flushed_window (gone g.window (happens blocks budget e g.window))
        (record g { window = happens blocks budget e g.window }));
    filling = λ z f g may. absurd z;
    committing = λ c g may. commits_same g.window.frames g;
    counting = λ c g. refl;
  })

  -- the end of a fetch fills one frame at most
  ended_more : (n : ℕ) (o : Option Fetching) (g : Grid W)
      → slice_index (fetch_ends blocks budget o g).window.generations n ≤ slice_index g.window.generations n + 1
  ended_more n None g = omega arith
  ended_more n (Some x) g = by x.left
    where
      fills : (b : Bool) → slice_index (fill_where b blocks budget x g).window.generations n
          ≤ slice_index g.window.generations n + 1
      fills true = fill_more blocks budget x.block n g.window
      fills false = omega arith

      by : (k : ℕ) → slice_index (fetch_on blocks budget k x g).window.generations n
          ≤ slice_index g.window.generations n + 1
      by zero = fills (may blocks budget (window.Fetch x.block) g)
      by (suc k) = omega arith

-- programs ----------------------------------------------------------------------------------------

-- the generation of frame n
abbrev made : ℕ → Own → ℕ
made n o = slice_index o.window.generations n

-- it is not raised
abbrev AsMany : ℕ → Own → Own → Type 0
AsMany n o m = made n m ≤ made n o

as_many : (n : ℕ) (o : Own) → AsMany n o o
as_many n o = omega arith

next_many : (n : ℕ) (o m k : Own) → AsMany n o m → AsMany n m k → AsMany n o k
next_many n o m k a b = omega (arith, a, b)

module _ {W : Type 0} (images : Images) (budget q n : ℕ) where
  same_many : (g h : Grid W) → SameGrid (images q) budget g h → AsMany n (own_of g) (own_of h)
  same_many g h e = let z = ap (λ l. slice_index l n) e in omega (arith, z)

  kept : KeptByOwn W (images q) budget (AsMany n)
  kept = by_changes (images q) budget (SameGrid (images q) budget) (keeps (images q) budget) (λ n. tt) tt tt tt
      (AsMany n)
      same_many

  module _ (ps : List ℕ) where
    ends_many : (g : Four W) → AsMany n (g.own q) ((ends_of images budget ps g).own q)
    ends_many = all_goes q (AsMany n) (as_many n) (next_many n) (λ p. ends (images p) budget) (λ h. same_many h
        (ends (images q) budget h) (ends_keep (images q) budget (SameGrid (images q) budget) (keeps (images q) budget)
        tt tt h)) ps

  -- the fetches of all go on, that of program q once
  module _ (once : (g : Four W) → alone q (fetches_go_on images budget g)
      ≡ fetch_ends (images q) budget (g.own q).fetching (alone q g)) (ps : List ℕ) where
    fetches_many : (g : Four W) → made n ((fetches_of images budget ps g).own q) ≤ made n (g.own q) + 1
    fetches_many g =
        let m : Four W = fetches_go_on images budget g in
        let a : made n (m.own q) ≡ made n (own_of (fetch_ends (images q) budget (g.own q).fetching (alone q g))) =
        ap (λ (k : Grid W). made n (own_of k)) (once g) in
        let b = ended_more (images q) budget n (g.own q).fetching (alone q g) in
        let c : AsMany n (m.own q) ((fetches_of images budget ps g).own q) =
        either_goes q (AsMany n) (as_many n) (next_many n) (is_idle m)
        (first_does (may_begin images) (λ p. begins (images p)) ps m) m m
        (first_goes q (AsMany n) (as_many n) (next_many n) (may_begin images) (λ p. begins (images p))
        (λ h e. same_many h (begins (images q) h) (begins_keeps (images q) budget (SameGrid (images q) budget)
        (keeps (images q) budget) h.fetching h)) ps m)
        (as_many n (m.own q)) in
        omega (arith, a, b, c)

    acts_many : (g : Four W) → made n ((acts_of images budget ps g).own q) ≤ made n (g.own q) + 1
    acts_many g =
        let a = fetches_many g in
        let b = stations_go q (AsMany n) (as_many n) (next_many n) images budget kept ps (fetches_of images budget
        ps g) in
        omega (arith, a, b)

  -- a cycle raises a generation by one at most
  module _ (once : (g : Four W) → alone q (fetches_go_on images budget g)
      ≡ fetch_ends (images q) budget (g.own q).fetching (alone q g)) (next : W → ℕ) (follows : W → W → Type 0)
      (g h : Four W) (cycle : Eager4 next follows images budget g h) where
    -- a generation is raised by one at most
    pub last_many : slice_index ((cycle.last).own q).window.generations n
        ≤ slice_index (g.own q).window.generations n + 1
    last_many =
        let ps : List ℕ = going budget g in
        let m : Four W = ends_of images budget ps g in
        let qs : List ℕ = acting ps m in
        let a = ends_many ps g in
        let b = acts_many once qs m in
        let c = moves_go q (AsMany n) (as_many n) (next_many n) images budget kept qs next follows (acts_of images
        budget qs m)
        cycle.last cycle.moves in
        omega (arith, a, b, c)
