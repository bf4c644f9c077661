-- Part (6) of a cycle: the mesh ticks, and what has come is delivered, so that nothing has come any more.
use Rattle.std.specs.List.{list_any}
use Rattle.std.proofs.Common.{◌≡◌, ◌≢◌, ℕ, zero, suc, ◌<◌, ◌≤◌, ◌==◌, ◌&&◌, ◌||◌, Bool}
use Rattle.std.proofs.Common.{true, false, cond}
use Rattle.std.proofs.Common.{◌⊎◌}
use Rattle.std.proofs.Common.{inl, inr, List, [], ◌∷◌, length, get_or, refl, sym, ap}
use Rattle.std.proofs.Common.{◌∙◌, subst, true≢false, arith}
use Rattle.trips_isa.specs.declared.block.Block.{Block}
use Rattle.operand_net.specs.declared.parcel.Parcel.{Parcel}
use Rattle.operand_net.specs.declared.parcel.Stand.{Stand}
use Rattle.operand_net.specs.declared.parcel.Stand.TheVariants.{Nowhere, Away, Held}
use Rattle.operand_net.specs.Places.{Places, put}
use Rattle.operand_net.specs.inside.Places.{come}
use Rattle.operand_net.specs.inside.IsStands.{is_here}
use Rattle.operand_net.specs.Tick.{next_of, ticked, Ticked}
use Rattle.commit_flush_spec.specs.Frames.{Frame}
use Rattle.commit_flush_spec.specs.Window.{Window, Event, happens}
use Rattle.commit_flush_spec.specs.Window as window
use Rattle.commit_flush_spec.specs.inside.Invariant.{AllGood}
use Rattle.commit_flush_spec.proofs.Lists.{equal_or}
use Rattle.commit_flush_spec.proofs.Numbers.{nums}
use Rattle.grid_cycle_spec.specs.Grid.{Grid, is_of, numbers_of}
use Rattle.grid_cycle_spec.specs.Acting.{act, flushed, gone}
use Rattle.grid_cycle_spec.specs.Choosing.{each, with_frame}
use Rattle.grid_cycle_spec.specs.inside.Choosing.{places}
use Rattle.grid_cycle_spec.specs.inside.Arrivals.{place_arrives, arrives_if, arrival, arrivals}
use Rattle.grid_cycle_spec.specs.Cycles.{Moves}
use Rattle.grid_cycle_spec.proofs.Routes.{leads_nearer}
use Rattle.grid_cycle_spec.proofs.KeptChanges.{Kinds, every, Keeps, places_are}
use Rattle.grid_cycle_spec.proofs.KeptByArrivals.{there_keeps, arrival_keeps, places_keep}
use Rattle.grid_cycle_spec.proofs.KeptByArrivals.{arrivals_keep}
use Rattle.grid_bound.specs.inside.UnderWay.{Nothing, Tied}
use Rattle.grid_bound.specs.inside.Rule.{HeldFrom, runs_in}
use Rattle.grid_bound.proofs.EachFrame.{any_flight, differ, each_map, equal, runs_flight}
use Rattle.grid_bound.proofs.Entered.{put_here}
use Rattle.grid_bound.proofs.GoingGrids.{Going}
use Rattle.grid_bound.proofs.ArrivalPlaces.{arrivals_going}

-- a tick -----------------------------------------------------------------------------------------

here_ticked : (free : Bool) (h : ℕ) (s : Stand) → is_here (ticked free h s) ≡ is_here s
here_ticked free h Nowhere = refl
here_ticked free h (Held t zero) = refl
here_ticked free h (Held t (suc k)) = refl
here_ticked free h (Away t a) = go (a == t.to) free (next_of a t.to == t.to)
  where
    go : (x y z : Bool) → is_here
        (cond x (Held t h) (cond y (cond z (Held t h) (Away t (next_of a t.to))) (Away t a)))
        ≡ true
    go true y z = refl
    go false true true = refl
    go false true false = refl
    go false false z = refl

-- what is not here is nowhere
pub not_here : (s : Stand) → is_here s ≡ false → s ≡ Nowhere
not_here Nowhere e = refl
not_here (Away t a) e = absurd (true≢false e)
not_here (Held t h) e = absurd (true≢false e)

held_ticked : (free : Bool) (h : ℕ) → h ≤ 3 → (s : Stand) → HeldFrom 1 s → HeldFrom 0 (ticked free h s)
held_ticked free h l Nowhere k = tt
held_ticked free h l (Held t zero) k = (omega arith, omega arith)
held_ticked free h l (Held t (suc j)) k = let u = k.1 in (omega arith, omega (arith, u))
held_ticked free h l (Away t a) k = go (a == t.to) refl free (next_of a t.to == t.to)
  where
    go : (x : Bool) → (a == t.to) ≡ x → (y z : Bool)
        → HeldFrom 0 (cond x (Held t h) (cond y (cond z (Held t h) (Away t (next_of a t.to))) (Away t a)))
    go true e y z = (omega arith, l)
    go false e true true = (omega arith, l)
    go false e true false = ((leads_nearer a t.to k.0 k.1 (differ a t.to e)).inside, k.1)
    go false e false z = k

-- a hold that is at least one is at least zero
pub still_held : (s : Stand) → HeldFrom 1 s → HeldFrom 0 s
still_held Nowhere k = tt
still_held (Away t a) k = k
still_held (Held t h) k = (omega arith, k.1)

-- a frame is one of the first n of an order, or is not
age_or : (n f : ℕ) (order : List ℕ)
    → ((a : ℕ) × (a < n) × (get_or order a 0 ≡ f)) ⊎ ((a : ℕ) → a < n → get_or order a 0 ≡ f → ⊥)
age_or zero f order = inr (λ a l e. absurd (omega (arith, l)))
age_or (suc n) f order = go (equal_or (get_or order n 0) f) (age_or n f order)
  where
    go : (get_or order n 0 ≡ f) ⊎ (get_or order n 0 ≢ f)
        → ((a : ℕ) × (a < n) × (get_or order a 0 ≡ f)) ⊎ ((a : ℕ) → a < n → get_or order a 0 ≡ f → ⊥)
        → ((a : ℕ) × (a < suc n) × (get_or order a 0 ≡ f)) ⊎ ((a : ℕ) → a < suc n → get_or order a 0 ≡ f → ⊥)
    go (inl e) h = inl (n, omega arith, e)
    go (inr d) (inl h) = let l : h.0 < n = h.1 in inl (h.0, omega (arith, l), h.2)
    go (inr d) (inr none) = inr (λ a l e. elim (equal_or a n) [
      | inl z ↦ d (ap (λ k. get_or order k 0) (sym z) ∙ e)
      | inr z ↦ none a (omega (arith, l, z)) e
    ])

-- what stands in a place after a tick
pub record After (before after : Stand) : Type 0 where
  pub here : is_here after ≡ is_here before
  pub held : HeldFrom 1 before → HeldFrom 0 after

module _ {W : Type 0} (next : W → ℕ) (follows : W → W → Type 0) (bound : (w : W) → next w ≤ 3) (order : List ℕ)
    (before after : Places) (v w : W) (n : ℕ) (t : Ticked next follows order before after v w n) where
  pub after_tick : (f p : ℕ) → p < 320 → After (before f p) (after f p)
  after_tick f p l = elim (age_or n f order) [
    | inl h ↦ subst (λ k. After (before k p) (after k p)) h.2 (by h.0 h.1)
    | inr none ↦ record {
      here = ap is_here (t.others f p none);
      held = λ k. subst (HeldFrom 0) (sym (t.others f p none)) (still_held (before f p) k);
    }
  ]
    where
      by : (a : ℕ) → a < n → After (before (get_or order a 0) p) (after (get_or order a 0) p)
      by a m =
          let x = (t.frames a m).turns p l in
          record {
            here = ap is_here x.stands ∙ here_ticked _ _ (before (get_or order a 0) p);
            held = λ k. subst (HeldFrom 0) (sym x.stands) (held_ticked _ _ (bound _) (before (get_or order a 0) p) k);
          }

module _ {W : Type 0} (blocks : List Block) (budget : ℕ) (g : Grid W) (go : Going blocks budget 1 g)
    (parcels : Places)
    (weather : W) (after : (n p : ℕ) → p < 320 → After (g.parcels n p) (parcels n p)) where
  ticked_tied : (f : Frame) → (f.sealed ≡ false → Tied (g.parcels f.number) (g.asked f.number) (g.works f.number) f)
      → f.sealed ≡ false → Tied (parcels f.number) (g.asked f.number) (g.works f.number) f
  ticked_tied f h z = let t = h z in record {
    travelling = λ p l. (after f.number p l).here ∙ t.travelling p l;
    standing = t.standing;
    working = t.working;
  }

  ticked_nothing : (n : ℕ) → Nothing (g.parcels n) (g.asked n) (g.works n)
      → Nothing (parcels n) (g.asked n) (g.works n)
  ticked_nothing n h = record {
    none_travels = λ p l. not_here (parcels n p) ((after n p l).here ∙ ap is_here (h.none_travels p l));
    none_stands = h.none_stands;
    none_works = h.none_works;
  }

  pub ticked_going : Going blocks budget 0 (record g { parcels = parcels; weather = weather })
  ticked_going = record {
    ok = go.ok;
    went = go.went;
    ties = record {
      frames = go.ties.frames;
      tied = each_map
          (λ f. f.sealed ≡ false → Tied (g.parcels f.number) (g.asked f.number) (g.works f.number) f)
          (λ f. f.sealed ≡ false → Tied (parcels f.number) (g.asked f.number) (g.works f.number) f)
          ticked_tied g.window.frames go.ties.tied;
      unguessed = go.ties.unguessed;
      nothing = λ n e. ticked_nothing n (go.ties.nothing n e);
      busy = go.ties.busy;
      mesh = λ n p l. (after n p l).held (go.ties.mesh n p l);
    };
    fetch = go.fetch;
  }

-- arrivals clear the mesh ------------------------------------------------------------------------

-- parcels are where they were, or are gone
abbrev Fewer : {W : Type 0} → Grid W → Grid W → Type 0
Fewer g h = (n p : ℕ) → (h.parcels n p ≡ g.parcels n p) ⊎ (h.parcels n p ≡ Nowhere)

module _ {W : Type 0} where
  same_parcels : (g h : Grid W) → h.parcels ≡ g.parcels → Fewer g h
  same_parcels g h e n p = inl (ap (λ x. x n p) e)

  fewer_chain : (g m h : Grid W) → Fewer g m → Fewer m h → Fewer g h
  fewer_chain g m h a b n p = elim (b n p) [
    | inl e ↦ elim (a n p) [ inl d ↦ inl (e ∙ d) | inr d ↦ inr (e ∙ d) ]
    | inr e ↦ inr e
  ]

  fewer_held : (least : ℕ) (g h : Grid W) (n p : ℕ) → Fewer g h → HeldFrom least (g.parcels n p)
      → HeldFrom least (h.parcels n p)
  fewer_held least g h n p a k = elim (a n p) [
    | inl e ↦ subst (HeldFrom least) (sym e) k
    | inr e ↦ subst (HeldFrom least) (sym e) tt
  ]

  flushed_fewer : (fs : List Frame) (g : Grid W) → Fewer g (flushed fs g)
  flushed_fewer [] g n p = inl refl
  flushed_fewer (f ∷ fs) g n p = go (is_of (f ∷ fs) n)
    where
      go : (b : Bool) → (cond b Nowhere (g.parcels n p) ≡ g.parcels n p) ⊎ (cond b Nowhere (g.parcels n p) ≡ Nowhere)
      go true = inr refl
      go false = inl refl

-- the changes of arrivals
abbrev arriving : Kinds
arriving = record every {
  sealing = ⊥;
  committing = ⊥;
  filling = ⊥;
  sending = ⊥;
  turning = ⊥;
  ticking = ⊥;
}

module _ {W : Type 0} (blocks : List Block) (budget : ℕ) where
  abbrev Less : Grid W → Grid W → Type 0
  Less g h = Fewer g h

  act_fewer : (e : Event) (g : Grid W) → Fewer g (act blocks budget e g)
  act_fewer e g =
      let v : Window = happens blocks budget e g.window in
      flushed_fewer (gone g.window v) (record g { window = v })

  taken_fewer : (c : Parcel) (g : Grid W) → Fewer g (record g { parcels = put g.parcels c.frame c.place Nowhere })
  taken_fewer c g k q = go ((k == c.frame) && (q == c.place))
    where
      go : (b : Bool) → (cond b Nowhere (g.parcels k q) ≡ g.parcels k q) ⊎ (cond b Nowhere (g.parcels k q) ≡ Nowhere)
      go true = inr refl
      go false = inl refl

  -- what arrives takes parcels away, and puts none
  taking : Keeps arriving blocks budget Less
  taking = record {
    same = λ g n p. inl refl;
    chain = fewer_chain;
    sealing = λ e. absurd e;
    committing = λ e. absurd e;
    filling = λ e. absurd e;
    fetching = λ o q g n p. inl refl;
    reading = λ n e r g k p. inl refl;
    entering = λ e. absurd e;
    loading = λ n e j g k p. inl refl;
    unasking = λ n e j g k p. inl refl;
    storing = λ n e j. act_fewer (window.Store n j);
    waiting = λ q g k p. inl refl;
    turning = λ e. absurd e;
    resting = λ n e slot g k p. inl refl;
    issuing = λ e. absurd e;
    ticking = λ e. absurd e;
    taking = λ n e place c g i. taken_fewer c g;
    asking = λ n e j g k p. inl refl;
    delivering = λ n e place l g k p. inl refl;
    exiting = λ n e. act_fewer (window.Exit n);
    counting = λ e g k p. inl refl;
  }

  arrival_fewer : (n p : ℕ) → p < places → (g : Grid W) → Fewer g (arrival blocks budget n p g)
  arrival_fewer n = arrival_keeps blocks budget Less taking n tt

  each_fewer : (n k : ℕ) → k ≤ places → (g : Grid W) → Fewer g (each (arrival blocks budget n) k g)
  each_fewer n = places_keep blocks budget Less taking n tt

  arrivals_fewer : (ns : List ℕ) (g : Grid W) → Fewer g (arrivals blocks budget ns g)
  arrivals_fewer = arrivals_keep blocks budget Less taking (λ n. tt)

  -- after its arrival nothing stands in a place that has come
  clears : (n p : ℕ) → p < places → (g : Grid W) → HeldFrom 0 (g.parcels n p)
      → HeldFrom 1 ((arrival blocks budget n p g).parcels n p)
  clears n p l g k = go (g.parcels n p) refl k
    where
      go : (s : Stand) → g.parcels n p ≡ s → HeldFrom 0 s
          → HeldFrom 1 ((arrives_if blocks budget n p (come n p (g.parcels n p)) g).parcels n p)
      go Nowhere e h = subst (λ x. HeldFrom 1 ((arrives_if blocks budget n p (come n p x) g).parcels n p)) (sym e)
          (subst (HeldFrom 1) (sym e) tt)
      go (Away t a) e h = subst (λ x. HeldFrom 1 ((arrives_if blocks budget n p (come n p x) g).parcels n p)) (sym e)
          (subst (HeldFrom 1) (sym e) h)
      go (Held t (suc j)) e h =
          subst (λ x. HeldFrom 1 ((arrives_if blocks budget n p (come n p x) g).parcels n p)) (sym e)
          (subst (HeldFrom 1) (sym e) (omega arith, h.1))
      go (Held t zero) e h =
          subst (λ x. HeldFrom 1 ((arrives_if blocks budget n p (come n p x) g).parcels n p)) (sym e)
          (let m : Grid W = record g { parcels = put g.parcels n p Nowhere } in
          fewer_held 1 m (with_frame n (place_arrives blocks budget p) g.window.frames m) n p
          (there_keeps blocks budget Less taking n tt p l g.window.frames m)
          (subst (HeldFrom 1) (sym (put_here g.parcels n p Nowhere)) tt))

  each_clears : (n k : ℕ) → k ≤ places → (g : Grid W) → ((q : ℕ) → q < k → HeldFrom 0 (g.parcels n q)) → (p : ℕ)
      → p < k → HeldFrom 1 ((each (arrival blocks budget n) k g).parcels n p)
  each_clears n zero most g h p l = absurd (omega (arith, l))
  each_clears n (suc k) most g h p l =
      let m : Grid W = each (arrival blocks budget n) k g in
      elim (equal_or p k) [
        | inl e ↦ subst (λ j. HeldFrom 1 ((arrival blocks budget n k m).parcels n j)) (sym e)
            (clears n k (omega (arith, most)) m (fewer_held 0 g m n k (each_fewer n k (omega (arith, most)) g)
            (h k (omega arith))))
        | inr d ↦ fewer_held 1 m (arrival blocks budget n k m) n p (arrival_fewer n k (omega (arith, most)) m)
            (each_clears n k (omega (arith, most)) g (λ q j. h q (omega (arith, j))) p (omega (arith, l, d)))
      ]

  arrivals_clear : (ns : List ℕ) (g : Grid W) → ((n q : ℕ) → q < 320 → HeldFrom 0 (g.parcels n q)) → (n p : ℕ)
      → p < 320 → list_any (λ m. m == n) ns ≡ true → HeldFrom 1 ((arrivals blocks budget ns g).parcels n p)
  arrivals_clear [] g h n p l e = absurd (true≢false (sym e))
  arrivals_clear (k ∷ ns) g h n p l e = go (k == n) refl e (λ z. arrivals_clear ns (each
      (arrival blocks budget k) places g)
      (λ j q lq. fewer_held 0 g (each (arrival blocks budget k) places g) j q (each_fewer k places (omega arith) g)
      (h j q lq)) n p l z)
    where
      go : (b : Bool) → (k == n) ≡ b → (b || list_any (λ j. j == n) ns) ≡ true
          → (list_any (λ j. j == n) ns ≡ true
          → HeldFrom 1 ((arrivals blocks budget ns (each (arrival blocks budget k) places g)).parcels n p))
          → HeldFrom 1 ((arrivals blocks budget ns (each (arrival blocks budget k) places g)).parcels n p)
      go true i z rest =
          fewer_held 1 (each (arrival blocks budget k) places g)
          (arrivals blocks budget ns (each (arrival blocks budget k) places g)) n p
          (arrivals_fewer ns (each (arrival blocks budget k) places g))
          (subst (λ j. HeldFrom 1 ((each (arrival blocks budget k) places g).parcels j p)) (equal k n i)
          (each_clears k places (omega arith) g (λ q j. h k q (subst (λ m. q < m) places_are j)) p
          (subst (λ m. p < m) (sym places_are) l)))
      go false i z rest = rest z

-- part (6) keeps the rule ------------------------------------------------------------------------

module _ {W : Type 0} (blocks : List Block) (good : AllGood blocks) (budget : ℕ) where
  cleared : (x : Grid W) → Going blocks budget 0 x → (n p : ℕ) → p < 320 → (b : Bool)
      → list_any (λ m. m == n) (nums x.window.frames) ≡ b
      → HeldFrom 1 ((arrivals blocks budget (numbers_of x.window.frames) x).parcels n p)
  cleared x mid n p l true e = arrivals_clear blocks budget (numbers_of x.window.frames) x mid.ties.mesh n p l e
  cleared x mid n p l false e =
      let free : runs_in n x.window.frames ≡ false =
      runs_flight n x.window.frames (sym (any_flight n x.window.frames) ∙ e) in
      fewer_held 1 x (arrivals blocks budget (numbers_of x.window.frames) x) n p
      (arrivals_fewer blocks budget (numbers_of x.window.frames) x)
      (subst (HeldFrom 1) (sym ((mid.ties.nothing n free).none_travels p l)) tt)

  -- behind a tick, once what has come is delivered nothing has come any more
  pub arrived_going : (x : Grid W) → Going blocks budget 0 x
      → Going blocks budget 1 (arrivals blocks budget (numbers_of x.window.frames) x)
  arrived_going x mid =
      let last : Going blocks budget 0 (arrivals blocks budget (numbers_of x.window.frames) x) =
      arrivals_going blocks good budget (numbers_of x.window.frames) x mid in
      record {
        ok = last.ok;
        went = last.went;
        ties = record {
          frames = last.ties.frames;
          tied = last.ties.tied;
          unguessed = last.ties.unguessed;
          nothing = last.ties.nothing;
          busy = last.ties.busy;
          mesh = λ n p l. cleared x mid n p l (list_any (λ m. m == n) (nums x.window.frames)) refl;
        };
        fetch = last.fetch;
      }

  module _ (next : W → ℕ) (follows : W → W → Type 0) (bound : (w : W) → next w ≤ 3) where
    -- the moves of a cycle leave a grid that goes on going
    pub moves_going : (g h : Grid W) → Going blocks budget 1 g → Moves next follows blocks budget g h
        → Going blocks budget 1 h
    moves_going g h go moves =
        let x : Grid W = record g { parcels = moves.parcels; weather = moves.weather } in
        let mid : Going blocks budget 0 x = ticked_going blocks budget g go moves.parcels moves.weather
        (after_tick next follows bound (numbers_of g.window.frames) g.parcels moves.parcels g.weather moves.weather
        (length g.window.frames) moves.ticked) in
        let last : Going blocks budget 1 (arrivals blocks budget (numbers_of g.window.frames) x) =
        arrived_going x mid in
        subst (Going blocks budget 1) (sym moves.arrived)
        (record { ok = last.ok; went = last.went; ties = last.ties; fetch = last.fetch })
