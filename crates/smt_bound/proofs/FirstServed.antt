-- The prime program comes first at each station: its cycle is one in which one grid of several comes first.
use Rattle.std.proofs.Common.{◌≡◌, ℕ, suc, ◌+◌, ◌*◌, ◌-◌, ◌<◌, ◌≤◌, ◌⊎◌, inl, inr, true, false, List, []}
use Rattle.std.proofs.Common.{◌∷◌, ◌++◌, map, length, Option, Some, None, refl, sym, ap, ◌∙◌, subst, arith}
use Rattle.std.proofs.lemmas.Bool.{cond-true}
use Rattle.trips_isa.specs.declared.run.Stepped.{Stepped}
use Rattle.trips_isa.specs.declared.run.Stepped.TheVariants as stepped
use Rattle.operand_net.specs.Places.{Places}
use Rattle.operand_net.specs.Tick.{Ticked}
use Rattle.commit_flush_spec.specs.Frames.{Frame}
use Rattle.commit_flush_spec.specs.Window.{Window}
use Rattle.grid_cycle_spec.specs.Costs.{fetch_latency}
use Rattle.grid_cycle_spec.specs.Grid.{Grid, Fetching, numbers_of}
use Rattle.grid_cycle_spec.specs.Ends.{ends}
use Rattle.grid_cycle_spec.specs.Fetches.{fetch_ends, fetches}
use Rattle.grid_cycle_spec.specs.Banks.{reads_answered}
use Rattle.grid_cycle_spec.specs.DataTiles.{answers}
use Rattle.grid_cycle_spec.specs.Units.{works_on}
use Rattle.grid_cycle_spec.specs.inside.Arrivals.{arrivals}
use Rattle.grid_cycle_spec.specs.Cycles as cycles
use Rattle.grid_cycle_spec.specs.inside.Laws.{ByEvents}
use Rattle.grid_bound.specs.inside.Parts.{RowMoves}
use Rattle.grid_bound.specs.inside.ServedFirst.{worked, RestFirst, FetchesFirst, ServedFirst}
use Rattle.grid_bound.proofs.Ticks.{oldest_ticks}
use Rattle.smt_spec.specs.Programs.{Four, alone, mesh, order, travelled, is_idle}
use Rattle.smt_spec.specs.Turns.{all_four}
use Rattle.smt_spec.specs.inside.Among.{Apart, Has}
use Rattle.smt_spec.specs.inside.Laws.{Lends}
use Rattle.smt_spec.specs.Parts.{Images, ends_of, fetches_go_on, fetches_of, reads_of, answers_of, works_of}
use Rattle.smt_spec.specs.Cycles.{has_gone, those, going, acting, acts_of, Moves, Eager4}
use Rattle.smt_spec.proofs.FirstParts.{ends_first, going_first, fetches_first, fetch_due_first, reads_first}
use Rattle.smt_spec.proofs.FirstParts.{answers_first, arrivals_first, mesh_is, travelled_is}
use Rattle.smt_spec.proofs.UnitsLent.{works_first}
use Rattle.smt_spec.proofs.OwnEvents.{moved_own}
use Rattle.smt_spec.proofs.OverStays.{those_apart}
use Rattle.smt_bound.proofs.EndedRuns.{all_stuck}

module _ {W : Type 0} (images : Images) (budget p : ℕ) (next : W → ℕ) (follows : W → W → Type 0)
    (bound : (w : W) → next w ≤ 3) where
  -- parts (3) to (6)
  module _ (qs : List ℕ) (apart : Apart p qs) (m h : Four W)
      (moves : Moves next follows images budget (p ∷ qs) (acts_of images budget (p ∷ qs) m) h)
      (two : (f : Frame) (fs : List Frame)
      → ((acts_of images budget (p ∷ qs) m).own p).window.frames ≡ f ∷ fs → f.number < 2)
      (most : (t : ℕ) → (acts_of images budget (p ∷ qs) m).units t ≤ 24) where
    abbrev F : Four W
    F = fetches_of images budget (p ∷ qs) m

    abbrev B : Four W
    B = reads_of images budget (p ∷ qs) F

    abbrev C : Four W
    C = answers_of images budget (p ∷ qs) B

    abbrev D : Four W
    D = works_of images budget (p ∷ qs) C

    abbrev X : Four W
    X = travelled moves.parcels moves.weather D

    abbrev V : Grid W
    V = worked (images p) budget (alone p F)

    answered : alone p C ≡ answers (images p) budget (reads_answered (images p) budget (alone p F))
    answered = answers_first images budget p qs apart B
        ∙ ap (answers (images p) budget) (reads_first images budget p qs apart F)

    lends : Lends 16 V (alone p D)
    lends = subst (λ (k : Grid W). Lends 16 (works_on (images p) budget k) (alone p D)) answered
        (works_first images budget p qs apart C)

    abbrev parcels : Places
    parcels = (X.own p).parcels

    -- the tick of the oldest frame's parcels
    row : (f : Frame) (fs : List Frame) → (D.own p).window.frames ≡ f ∷ fs
        → RowMoves ((D.own p).parcels f.number) (parcels f.number)
    row f fs e =
        let l : f.number < 2 = two f fs e in
        let rest : List ℕ = map (λ n. 2 * p + n) (numbers_of fs) ++ order D qs in
        let is : order D (p ∷ qs) ≡ (2 * p + f.number) ∷ rest =
        ap (λ (w : List Frame). map (λ n. 2 * p + n) (numbers_of w) ++ order D qs) e in
        let t : Ticked next follows ((2 * p + f.number) ∷ rest) (mesh D) moves.parcels D.weather moves.weather
        (suc (length rest)) =
        subst (λ l. Ticked next follows l (mesh D) moves.parcels D.weather moves.weather (length l)) is moves.ticked
        in
        let r : RowMoves (mesh D (2 * p + f.number)) (moves.parcels (2 * p + f.number)) =
        oldest_ticks next follows bound (2 * p + f.number) (length rest) rest (mesh D) moves.parcels D.weather
        moves.weather t in
        subst (λ row. RowMoves ((D.own p).parcels f.number) row)
        (sym (travelled_is moves.parcels moves.weather D p f.number l))
        (subst (λ row. RowMoves row (moves.parcels (2 * p + f.number))) (mesh_is D p f.number l) r)

    seen_d : alone p D ≡ record V { units = D.units }
    seen_d = lends.is

    arrived : alone p h ≡ cycles.counted (arrivals (images p) budget (numbers_of V.window.frames)
        (record V { units = D.units; parcels = parcels; weather = moves.weather }))
    arrived = ap (alone p) moves.arrived
        ∙ ap cycles.counted (arrivals_first images budget p qs apart X)
        ∙ ap (λ (k : Grid W). cycles.counted (arrivals (images p) budget (numbers_of k.window.frames)
        (record k { parcels = parcels; weather = moves.weather }))) seen_d

    pub rest_first : RestFirst (images p) budget (alone p F) (alone p h)
    rest_first = record {
      units = D.units;
      own = lends.busy;
      held = most;
      parcels = parcels;
      weather = moves.weather;
      rows = λ f fs e. subst (λ (k : Grid W). RowMoves (k.parcels f.number) (parcels f.number)) seen_d
          (row f fs (ap (λ (k : Grid W). k.window.frames) seen_d ∙ e));
      arrived = arrived;
    }

  -- a cycle of the prime program
  module _ (ps : List ℕ) (apart : Apart p ps) (there : Has p all_four) (g h : Four W) (first : going budget g ≡ p ∷
      ps)
      (cycle : Eager4 next follows images budget g h) where
    -- the machine behind part (1)
    abbrev pub m : Four W
    m = ends_of images budget (p ∷ ps) g

    -- the other programs whose runs this has not ended
    abbrev pub qs : List ℕ
    qs = those (λ w. has_gone w.over) (ends_of images budget (p ∷ ps) g) ps

    abbrev E : Grid W
    E = ends (images p) budget (alone p g)

    abbrev L : Four W
    L = cycle.last

    -- the first program sees its own part (1)
    pub seen_m : alone p m ≡ E
    seen_m = ends_first images budget p ps apart g

    -- it is none of the others
    pub apart_qs : Apart p qs
    apart_qs = those_apart (λ w. has_gone w.over) m p ps apart

    -- where part (1) has ended its run nothing follows
    pub ended : has_gone E.window.over ≡ false → (alone p L).window ≡ E.window
    ended e =
        let moved : ByEvents (images p) budget (m.own p).window (L.own p).window =
        subst (λ l. ByEvents (images p) budget ((ends_of images budget l g).own p).window (L.own p).window) first
        (moved_own images budget p next follows g h cycle) in
        let i : (m.own p).window ≡ E.window = ap (λ (k : Grid W). k.window) seen_m in
        moved.played ∙ all_stuck (images p) budget moved.events (m.own p).window
        (ap (λ (w : Window). has_gone w.over) i ∙ e) ∙ i

    module _ (went : E.window.over ≡ stepped.Went) where
      acts : acting (p ∷ ps) m ≡ p ∷ qs
      acts = cond-true (has_gone (m.own p).window.over) (p ∷ qs) qs
          (ap (λ (k : Grid W). has_gone k.window.over) seen_m ∙ ap has_gone went)

      -- where its run has not ended it takes part in the rest of the cycle
      pub moves : Moves next follows images budget (p ∷ qs) (acts_of images budget (p ∷ qs) m) L
      moves = subst (λ l. Moves next follows images budget l (acts_of images budget l m) L) acts
          (subst (λ l. Moves next follows images budget (acting l (ends_of images budget l g))
          (acts_of images budget (acting l (ends_of images budget l g)) (ends_of images budget l g)) L) first
          cycle.moves)

    -- part (2)
    abbrev n : Four W
    n = fetches_go_on images budget m

    abbrev F2 : Grid W
    F2 = alone p (fetches_of images budget (p ∷ qs) m)

    -- the fetch unit works for another, and so for a cycle less
    pub fetch_busy : (k : ℕ) → 1 ≤ k → FetchesFirst (images p) budget k (k - 1) E F2
    fetch_busy k l = by (subst (λ (x : Grid W). (F2 ≡ fetches (images p) budget x)
        ⊎ (F2 ≡ fetch_ends (images p) budget x.fetching x)) seen_m
        (fetches_first images budget p qs apart_qs there m))
      where
        by : (F2 ≡ fetches (images p) budget E) ⊎ (F2 ≡ fetch_ends (images p) budget E.fetching E)
            → FetchesFirst (images p) budget k (k - 1) E F2
        by (inl e) = inl e
        by (inr e) = inr (e, λ i j. omega (arith, l))

    -- an idle fetch unit begins the fetch of the prime program, where this has no frame
    pub fetch_idle : is_idle n ≡ true → (k j : ℕ) → FetchesFirst (images p) budget k j E F2
    fetch_idle idle k j = by E.window.frames refl E.fetching refl
        (subst (λ (x : Grid W). (F2 ≡ fetches (images p) budget x) ⊎ (F2 ≡ fetch_ends (images p) budget x.fetching x))
        seen_m (fetches_first images budget p qs apart_qs there m))
      where
        -- without a fetch of its own the program is as before
        seen_n : E.fetching ≡ None → alone p n ≡ E
        seen_n z = going_first images budget p qs apart_qs there m
            ∙ ap (λ (k : Grid W). fetch_ends (images p) budget k.fetching k) seen_m
            ∙ ap (λ o. fetch_ends (images p) budget o E) z

        by : (l : List Frame) → E.window.frames ≡ l → (o : Option Fetching) → E.fetching ≡ o
            → (F2 ≡ fetches (images p) budget E) ⊎ (F2 ≡ fetch_ends (images p) budget E.fetching E)
            → FetchesFirst (images p) budget k j E F2
        by l i o z (inl e) = inl e
        by (f ∷ fs) i o z (inr e) = inr (e, λ a b. absurd (let bad : f ∷ fs ≡ [] = sym i ∙ a in cc))
        by [] i (Some x) z (inr e) = inr (e, λ a b. absurd (let bad : Some x ≡ None = sym z ∙ b in cc))
        by [] i None z (inr e) = inl (fetch_due_first images budget p qs apart_qs there m
            (ap (λ (k : Grid W). k.window.frames) (seen_n z) ∙ i)
            (ap (λ (k : Grid W). k.fetching) (seen_n z) ∙ z) idle
            ∙ ap (fetches (images p) budget) seen_m)

    -- parts (2) to (6), by how part (2) goes
    module _ (k j : ℕ) (few : j < fetch_latency) (how : E.window.over ≡ stepped.Went
        → FetchesFirst (images p) budget k j E F2)
        (two : E.window.over ≡ stepped.Went → (f : Frame) (fs : List Frame)
        → ((acts_of images budget (p ∷ qs) m).own p).window.frames ≡ f ∷ fs → f.number < 2)
        (most : E.window.over ≡ stepped.Went → (t : ℕ) → (acts_of images budget (p ∷ qs) m).units t ≤ 24) where
      -- a run that has not gone on has ended
      pub not_gone : (s : Stepped) → (s ≡ stepped.Went → ⊥) → has_gone s ≡ false
      not_gone stepped.Went n = absurd (n refl)
      not_gone stepped.Ended n = refl
      not_gone stepped.StackFull n = refl
      not_gone (stepped.Trap c) n = refl

      -- the cycle is one in which its grid comes first
      abbrev pub comes_first : ServedFirst (images p) budget k j (alone p g) (alone p L)
      comes_first = record {
        acts = λ e. record {
          fetched = F2;
          is_fetched = how e;
          few = few;
          rest = rest_first qs apart_qs m L (moves e) (two e) (most e);
        };
        rests = λ n. ended (not_gone E.window.over n);
      }
