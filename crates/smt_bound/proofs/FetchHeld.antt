-- While the fetch unit works for another, each cycle brings that fetch on, and begins no other.
use Rattle.std.proofs.Common.{◌≡◌, ℕ, zero, suc, ◌-◌, ◌<◌, ◌≤◌, inl, inr, ◌&&◌, Bool, true, false, List}
use Rattle.std.proofs.Common.{Option, Some, None, is_none, refl, sym, ap, ◌∙◌, arith, true≢false}
use Rattle.std.proofs.lemmas.Bool.{cond_both, cond-false}
use Rattle.trips_isa.specs.declared.block.Block.{Block}
use Rattle.commit_flush_spec.specs.Window.{Fetch}
use Rattle.grid_cycle_spec.specs.Grid.{Grid, Fetching, numbers_of}
use Rattle.grid_cycle_spec.specs.Acting.{may}
use Rattle.grid_cycle_spec.specs.Ends.{ends}
use Rattle.grid_cycle_spec.specs.Fetches.{fetch_on, fetch_ends, fill_where}
use Rattle.grid_cycle_spec.specs.Banks.{bank_turn}
use Rattle.grid_cycle_spec.specs.DataTiles.{data_turn}
use Rattle.grid_cycle_spec.specs.Units.{issues}
use Rattle.grid_cycle_spec.specs.inside.Arrivals.{arrivals}
use Rattle.grid_cycle_spec.specs.Cycles.{closed}
use Rattle.smt_spec.specs.Programs.{Own, Four, own_of, alone, is_idle}
use Rattle.smt_spec.specs.Turns.{all_do, all_four}
use Rattle.smt_spec.specs.Parts.{Images, ends_of, fetches_go_on, fetches_of, gives}
use Rattle.smt_spec.specs.Cycles.{goes_on, acts_of, Moves, retires}
use Rattle.smt_spec.proofs.SeenAlone.{all_at}
use Rattle.smt_spec.proofs.SharedLeft.{fetched_kept}
use Rattle.smt_spec.proofs.FirstParts.{four_once}
use Rattle.smt_spec.proofs.FetchDropped.{OwnDrops, own_drops}
use Rattle.smt_spec.proofs.FetchDropped as dropped
use Rattle.smt_spec.proofs.OwnWalks.{KeptByOwn, all_goes, stations_go, moves_go}
use Rattle.smt_spec.proofs.OwnRuns.{of_four}
use Rattle.smt_bound.specs.inside.Holding.{left_of, HeldFor}

-- a fetch goes on by a cycle, or ends
ended_less : {W : Type 0} (blocks : List Block) (budget : ℕ) (o : Option Fetching) (g : Grid W) → g.fetching ≡ o
    → left_of (fetch_ends blocks budget o g).fetching ≤ left_of o - 1
ended_less blocks budget None g e = let z : left_of g.fetching ≡ 0 = ap left_of e in omega (arith, z)
ended_less blocks budget (Some x) g e = by x.left refl
  where
    fills : (b : Bool) → left_of (fill_where b blocks budget x g).fetching ≤ x.left - 1
    fills true = omega arith
    fills false = omega arith

    by : (n : ℕ) → x.left ≡ n → left_of (fetch_on blocks budget n x g).fetching ≤ x.left - 1
    by zero z = fills (may blocks budget (Fetch x.block) g)
    by (suc n) z = omega (arith, z)

-- what goes on had a cycle left
ended_some : {W : Type 0} (blocks : List Block) (budget : ℕ) (o : Option Fetching) (g : Grid W) → g.fetching ≡ o
    → is_none (fetch_ends blocks budget o g).fetching ≡ false → 1 ≤ left_of o
ended_some blocks budget None g e n = absurd (true≢false (sym (ap is_none e) ∙ n))
ended_some blocks budget (Some x) g e n = by x.left refl n
  where
    fills : (b : Bool) → is_none (fill_where b blocks budget x g).fetching ≡ true
    fills true = refl
    fills false = refl

    by : (j : ℕ) → x.left ≡ j → is_none (fetch_on blocks budget j x g).fetching ≡ false → 1 ≤ x.left
    by zero z h = absurd (true≢false (sym (fills (may blocks budget (Fetch x.block) g)) ∙ h))
    by (suc j) z h = omega (arith, z)

-- of a unit that is not idle some program has a fetch
some_busy : {W : Type 0} (g : Four W) → is_idle g ≡ false → (q : ℕ) × (q < 4) × (is_none (g.own q).fetching ≡ false)
some_busy g e = by (is_none (g.own 0).fetching) refl (is_none (g.own 1).fetching) refl
    (is_none (g.own 2).fetching) refl (is_none (g.own 3).fetching) refl e
  where
    by : (a : Bool) → is_none (g.own 0).fetching ≡ a → (b : Bool) → is_none (g.own 1).fetching ≡ b
        → (c : Bool) → is_none (g.own 2).fetching ≡ c → (d : Bool) → is_none (g.own 3).fetching ≡ d
        → (a && (b && (c && d))) ≡ false → (q : ℕ) × (q < 4) × (is_none (g.own q).fetching ≡ false)
    by false i b j c k d l z = (0, omega arith, i)
    by true i false j c k d l z = (1, omega arith, j)
    by true i true j false k d l z = (2, omega arith, k)
    by true i true j true k false l z = (3, omega arith, l)
    by true i true j true k true l z = absurd (true≢false z)

-- the fetch takes no longer
abbrev Less : Own → Own → Type 0
Less o n = left_of n.fetching ≤ left_of o.fetching

same_less : (o : Own) → Less o o
same_less o = omega arith

next_less : (o m n : Own) → Less o m → Less m n → Less o n
next_less o m n a b = omega (arith, a, b)

drops_less : (o n : Own) → OwnDrops o n → Less o n
drops_less o n (inl e) = let z : left_of n.fetching ≡ left_of o.fetching = ap left_of e in omega (arith, z)
drops_less o n (inr e) = let z : left_of n.fetching ≡ 0 = ap left_of e in omega (arith, z)

module _ {W : Type 0} (images : Images) (budget q : ℕ) where
  kept : KeptByOwn W (images q) budget Less
  kept =
      let d : KeptByOwn W (images q) budget OwnDrops = own_drops (images q) budget in
      record {
        on_banks = λ n h. drops_less (own_of h) (own_of (bank_turn (images q) budget n h)) (d.on_banks n h);
        on_tiles = λ n h. drops_less (own_of h) (own_of (data_turn (images q) budget n h)) (d.on_tiles n h);
        on_results = λ tile p h. drops_less (own_of h) (own_of (gives tile p h)) (d.on_results tile p h);
        on_issues = λ tile h. drops_less (own_of h) (own_of (issues (images q) budget tile h)) (d.on_issues tile h);
        on_ticks = λ parcels weather h. drops_less (own_of h)
            (own_of (record h { parcels = parcels; weather = weather })) (d.on_ticks parcels weather h);
        on_arrivals = λ h. drops_less (own_of h)
            (own_of (arrivals (images q) budget (numbers_of h.window.frames) h)) (d.on_arrivals h);
      }

  -- part (1) brings no fetch back
  pub ends_less : (ps : List ℕ) (g : Four W) → Less (g.own q) ((ends_of images budget ps g).own q)
  ends_less = all_goes q Less same_less next_less (λ p. ends (images p) budget)
      (λ h. drops_less (own_of h) (own_of (ends (images q) budget h)) (dropped.ends_kept (images q) budget h).is)

  -- nor does what becomes over
  pub retires_less : (ps : List ℕ) (g : Four W) → Less (g.own q) ((all_do (λ p. retires budget) ps g).own q)
  retires_less = all_goes q Less same_less next_less (λ p. retires budget) (λ h.
      cond_both (goes_on budget h.window) h (record (closed h) { fetching = None })
      (λ (k : Grid W). left_of k.fetching ≤ left_of h.fetching) (λ e. omega arith) (λ e. omega arith))

-- a cycle behind part (1), in which the unit is not idle when it may begin a fetch
module _ {W : Type 0} (images : Images) (budget : ℕ) (next : W → ℕ) (follows : W → W → Type 0) (ps : List ℕ)
    (m h : Four W) (moves : Moves next follows images budget ps (acts_of images budget ps m) h)
    (busy : is_idle (fetches_go_on images budget m) ≡ false) where
  abbrev n : Four W
  n = fetches_go_on images budget m

  abbrev F : Four W
  F = fetches_of images budget ps m

  same_f : F ≡ n
  same_f = cond-false (is_idle n) _ _ busy

  went_on : (q : ℕ) → q < 4 → alone q n ≡ fetch_ends (images q) budget (m.own q).fetching (alone q m)
  went_on q l = all_at (λ p k. fetch_ends (images p) budget k.fetching k)
      (λ p k. fetched_kept (images p) budget k.fetching k) q all_four m four_once (of_four q l)

  less_one : (q : ℕ) → q < 4 → left_of (n.own q).fetching ≤ left_of (m.own q).fetching - 1
  less_one q l =
      let e : left_of (n.own q).fetching
      ≡ left_of (fetch_ends (images q) budget (m.own q).fetching (alone q m)).fetching =
      ap (λ (x : Grid W). left_of x.fetching) (went_on q l) in
      let a = ended_less (images q) budget (m.own q).fetching (alone q m) refl in omega (arith, e, a)

  -- the unit works for another for a cycle less
  pub waited : (k : ℕ) → HeldFor k m → (1 ≤ k) × HeldFor (k - 1) h
  waited k l = (some (some_busy n busy), λ q low. rest q low)
    where
      some : ((q : ℕ) × (q < 4) × (is_none (n.own q).fetching ≡ false)) → 1 ≤ k
      some z =
          let a : 1 ≤ left_of (m.own z.0).fetching =
          ended_some (images z.0) budget (m.own z.0).fetching (alone z.0 m) refl
          (sym (ap (λ (x : Grid W). is_none x.fetching) (went_on z.0 z.1)) ∙ z.2) in
          let b = l z.0 z.1 in omega (arith, a, b)

      rest : (q : ℕ) → q < 4 → left_of (h.own q).fetching ≤ k - 1
      rest q low =
          let a = less_one q low in
          let b = l q low in
          let c = stations_go q Less same_less next_less images budget (kept images budget q) ps F in
          let d = moves_go q Less same_less next_less images budget (kept images budget q) ps next follows
          (acts_of images budget ps m) h moves in
          let e : left_of (F.own q).fetching ≡ left_of (n.own q).fetching =
          ap (λ (x : Four W). left_of (x.own q).fetching) same_f in
          omega (arith, a, b, c, d, e)
