-- Every program that takes part keeps its rule in each part of a cycle, whichever place it has among them.
use Rattle.std.proofs.Common.{◌≡◌, ℕ, zero, suc, ◌+◌, ◌*◌, ◌<◌, ◌≤◌, ◌⊎◌, inl, inr, ◌==◌, Bool, true, false, cond}
use Rattle.std.proofs.Common.{nat_lt, List, length, refl, sym, ap, subst, arith}
use Rattle.std.proofs.lemmas.Bool.{cond_both, eqb-true, ltb-true}
use Rattle.operand_net.specs.Places.{Places}
use Rattle.operand_net.specs.Tick.{Ticked}
use Rattle.operand_net.specs.declared.parcel.Stand.{Stand}
use Rattle.commit_flush_spec.specs.Frames.{numbers}
use Rattle.commit_flush_spec.specs.inside.Invariant.{AllGood}
use Rattle.grid_cycle_spec.specs.Stations.{tile_of}
use Rattle.grid_cycle_spec.specs.Grid.{Grid, numbers_of}
use Rattle.grid_cycle_spec.specs.Choosing.{each, eldest, reads}
use Rattle.grid_cycle_spec.specs.Ends.{ends}
use Rattle.grid_cycle_spec.specs.Fetches.{fetch_ends, begins}
use Rattle.grid_cycle_spec.specs.Banks.{answers_read, bank_turn}
use Rattle.grid_cycle_spec.specs.DataTiles.{answers_request, data_turn}
use Rattle.grid_cycle_spec.specs.Units.{issues}
use Rattle.grid_cycle_spec.specs.inside.Arrivals.{arrivals}
use Rattle.grid_bound.proofs.EndParts.{Ruled, ends_ruled}
use Rattle.grid_bound.proofs.FetchParts.{ended_going, begins_going}
use Rattle.grid_bound.proofs.UnitParts.{unit_going, issues_going}
use Rattle.grid_bound.proofs.TickParts.{After, after_tick, ticked_going, arrived_going, still_held}
use Rattle.grid_bound.proofs.GoingGrids.{Going}
use Rattle.smt_spec.specs.Programs.{Four, alone, mesh, order, travelled, is_idle}
use Rattle.smt_spec.specs.Turns.{first_does, all_four}
use Rattle.smt_spec.specs.inside.Among.{Distinct, Has}
use Rattle.smt_spec.specs.Parts.{Images, ends_of, fetches_go_on, may_begin, fetches_of, has_read, bank_turn_of}
use Rattle.smt_spec.specs.Parts.{reads_of, has_request, data_turn_of, answers_of, busy_for, gives, unit_on_of}
use Rattle.smt_spec.specs.Parts.{has_ready, issues_of, unit_turn_of, works_of, arrivals_of}
use Rattle.smt_spec.specs.Cycles.{acts_of, Moves}
use Rattle.smt_spec.proofs.SeenAlone.{shared, first_either, all_at}
use Rattle.smt_spec.proofs.SharedLeft.{ends_kept, fetched_kept, begins_kept, bank_kept, tile_kept, gives_kept}
use Rattle.smt_spec.proofs.SharedLeft.{arrivals_kept}
use Rattle.smt_spec.proofs.AnyIssue.{Taken, issue_any}
use Rattle.smt_spec.proofs.FirstParts.{four_once, mesh_is}
use Rattle.grid_bound.proofs.BankParts as bank_parts
use Rattle.grid_bound.proofs.DataParts as data_parts

module _ {W : Type 0} (images : Images) (budget q : ℕ) (good : AllGood (images q)) (ps : List ℕ) (once : Distinct ps)
    (there : Has q ps) (of_four : Has q all_four) where
  abbrev Goes : ℕ → Four W → Type 0
  Goes least g = Going (images q) budget least (alone q g)

  -- a station that serves the first that it can
  first_goes : (least : ℕ) (can : ℕ → Grid W → Bool) (does : ℕ → Grid W → Grid W)
      → ((p : ℕ) (h : Grid W) → shared (does p h) ≡ shared h)
      → ((h : Grid W) → Going (images q) budget least h → Going (images q) budget least (does q h)) → (g : Four W)
      → Goes least g → Goes least (first_does can does ps g)
  first_goes least can does leaves keeps g r = by (first_either can does leaves q ps g once)
    where
      by : (alone q (first_does can does ps g) ≡ alone q g) ⊎ (alone q (first_does can does ps g) ≡ does q (alone q
          g))
          → Goes least (first_does can does ps g)
      by (inl e) = subst (Going (images q) budget least) (sym e) r
      by (inr e) = subst (Going (images q) budget least) (sym e) (keeps (alone q g) r)

  each_goes : (turn : ℕ → Four W → Four W) (m : ℕ) → ((n : ℕ) → n < m → (g : Four W) → Goes 1 g → Goes 1 (turn n g))
      → (k : ℕ) → k ≤ m → (g : Four W) → Goes 1 g → Goes 1 (each turn k g)
  each_goes turn m h zero l g r = r
  each_goes turn m h (suc k) l g r =
      h k (omega (arith, l)) (each turn k g) (each_goes turn m h k (omega (arith, l)) g r)

  either_goes : (b : Bool) (x y : Four W) → Goes 1 x → Goes 1 y → Goes 1 (cond b x y)
  either_goes true x y r s = r
  either_goes false x y r s = s

  -- (1)
  pub ends_keep : (g : Four W) → Ruled (images q) budget 1 (alone q g)
      → Ruled (images q) budget 1 (alone q (ends_of images budget ps g))
  ends_keep g r = subst (Ruled (images q) budget 1)
      (sym (all_at (λ p. ends (images p) budget) (λ p h. ends_kept (images p) budget h) q ps g once there))
      (ends_ruled (images q) good budget 1 (alone q g) r)

  -- (2)
  pub fetches_go : (g : Four W) → Goes 1 g → Goes 1 (fetches_of images budget ps g)
  fetches_go g r =
      let m : Four W = fetches_go_on images budget g in
      let s : Goes 1 m = subst (Going (images q) budget 1)
      (sym (all_at (λ p h. fetch_ends (images p) budget h.fetching h)
      (λ p h. fetched_kept (images p) budget h.fetching h) q all_four g four_once of_four))
      (ended_going (images q) good budget 1 (alone q g).fetching (alone q g) refl r) in
      either_goes (is_idle m) (first_does (may_begin images) (λ p. begins (images p)) ps m) m
      (first_goes 1 (may_begin images) (λ p. begins (images p)) (λ p h. begins_kept (images p) budget h)
      (λ h k. begins_going (images q) good budget 1 h.fetching h k) m s) s

  -- (3)
  reads_go : (g : Four W) → Goes 1 g → Goes 1 (reads_of images budget ps g)
  reads_go = each_goes (bank_turn_of images budget ps) 4
      (λ n low g. first_goes 1 (has_read images budget n) (λ p. bank_turn (images p) budget n)
      (λ p h. bank_kept (images p) budget n h)
      (λ h k. bank_parts.chosen_going (images q) good budget 1 n low
      (eldest (answers_read (images q) budget h n) reads h.window.frames) h k refl) g) 4 (omega arith)

  -- (4)
  answers_go : (g : Four W) → Goes 1 g → Goes 1 (answers_of images budget ps g)
  answers_go = each_goes (data_turn_of images budget ps) 4
      (λ n low g. first_goes 1 (has_request n) (λ p. data_turn (images p) budget n)
      (λ p h. tile_kept (images p) budget n h)
      (λ h k. data_parts.chosen_going (images q) good budget 1 n
      (eldest (answers_request h n) numbers h.window.frames) h k refl) g) 4 (omega arith)

  -- (5)
  unit_goes : (k left : ℕ) (g : Four W) → g.units k ≡ left → Goes 1 g → Goes 1 (unit_on_of ps k left g)
  unit_goes k zero g e r = r
  unit_goes k (suc zero) g e r = subst (Going (images q) budget 1)
      (sym (all_at (gives k) (λ p h. gives_kept (images p) budget k p h) q ps (busy_for k 0 g) once there))
      (unit_going (images q) good budget 1 k 1 (alone q g) e r)
  unit_goes k (suc (suc left)) g e r = unit_going (images q) good budget 1 k (suc (suc left)) (alone q g) e r

  -- another program has taken a free unit
  taken_goes : (k : ℕ) (y z : Grid W) → Going (images q) budget 1 y → y.units k ≡ 0 → Taken images budget k y z
      → Going (images q) budget 1 z
  taken_goes k y z r free t = subst (Going (images q) budget 1) (sym t.is) (record {
    ok = r.ok;
    went = r.went;
    ties = record {
      frames = r.ties.frames;
      tied = r.ties.tied;
      unguessed = r.ties.unguessed;
      nothing = r.ties.nothing;
      busy = record {
        most = λ j. most j (j == k) refl;
        busy = λ n s w. busy n s w (tile_of s == k) refl;
        alone = r.ties.busy.alone;
      };
      mesh = r.ties.mesh;
    };
    fetch = r.fetch;
  })
    where
      most : (j : ℕ) (b : Bool) → (j == k) ≡ b → z.units j ≤ 24
      most j true e = subst (λ i. z.units i ≤ 24) (sym (eqb-true j k e)) (t.most (r.ties.busy.most k))
      most j false e = let a : z.units j ≡ y.units j = t.far j e in
          let b : y.units j ≤ 24 = r.ties.busy.most j in omega (arith, a, b)

      busy : (n s : ℕ) → y.works n s ≡ true → (b : Bool) → (tile_of s == k) ≡ b → 1 ≤ z.units (tile_of s)
      busy n s w true e = absurd (let a : 1 ≤ y.units (tile_of s) = r.ties.busy.busy n s w in
          let b : y.units (tile_of s) ≡ y.units k = ap y.units (eqb-true (tile_of s) k e) in
          omega (arith, a, b, free))
      busy n s w false e = subst (λ i. 1 ≤ i) (sym (t.far (tile_of s) e)) (r.ties.busy.busy n s w)

  issue_goes : (k : ℕ) (g : Four W) → Goes 1 g → Goes 1 (issues_of images budget ps k g)
  issue_goes k g r = cond_both (g.units k == 0)
      (first_does (has_ready images budget k) (λ p. issues (images p) budget k) ps g) g (Goes 1)
      (λ e. by (eqb-true (g.units k) 0 e) (issue_any images budget k q ps g once)) (λ e. r)
    where
      by : g.units k ≡ 0
          → (alone q (first_does (has_ready images budget k) (λ p. issues (images p) budget k) ps g)
          ≡ issues (images q) budget k (alone q g))
          ⊎ Taken images budget k (alone q g)
          (alone q (first_does (has_ready images budget k) (λ p. issues (images p) budget k) ps g))
          → Goes 1 (first_does (has_ready images budget k) (λ p. issues (images p) budget k) ps g)
      by free (inl e) = subst (Going (images q) budget 1) (sym e) (issues_going (images q) good budget 1 k (alone q
          g) r)
      by free (inr t) = taken_goes k (alone q g)
          (alone q (first_does (has_ready images budget k) (λ p. issues (images p) budget k) ps g)) r free t

  works_go : (g : Four W) → Goes 1 g → Goes 1 (works_of images budget ps g)
  works_go = each_goes (unit_turn_of images budget ps) 16
      (λ k low g r. issue_goes k (unit_on_of ps k (g.units k) g) (unit_goes k (g.units k) g refl r)) 16 (omega arith)

  -- (2) to (5)
  pub acts_go : (g : Four W) → Goes 1 g → Goes 1 (acts_of images budget ps g)
  acts_go g r = works_go (answers_of images budget ps (reads_of images budget ps (fetches_of images budget ps g)))
      (answers_go (reads_of images budget ps (fetches_of images budget ps g))
      (reads_go (fetches_of images budget ps g) (fetches_go g r)))

  -- (6)
  module _ (next : W → ℕ) (follows : W → W → Type 0) (bound : (w : W) → next w ≤ 3) where
    ticks_go : (g : Four W) (parcels : Places) (weather : W) (n : ℕ)
        → Ticked next follows (order g ps) (mesh g) parcels g.weather weather n → Goes 1 g
        → Goes 0 (travelled parcels weather g)
    ticks_go g parcels weather n t r = ticked_going (images q) budget (alone q g) r
        ((travelled parcels weather g).own q).parcels weather (λ f p l. by f p l (nat_lt f 2) refl)
      where
        by : (f p : ℕ) → p < 320 → (b : Bool) → nat_lt f 2 ≡ b
            → After ((g.own q).parcels f p) (cond b (parcels (2 * q + f) p) ((g.own q).parcels f p))
        by f p l true e = subst (λ (row : ℕ → Stand). After (row p) (parcels (2 * q + f) p))
            (mesh_is g q f (ltb-true f 2 e))
            (after_tick next follows bound (order g ps) (mesh g) parcels g.weather weather n t (2 * q + f) p l)
        by f p l false e = record { here = refl; held = still_held ((g.own q).parcels f p) }

    pub moves_go : (g h : Four W) → Moves next follows images budget ps g h → Goes 1 g → Goes 1 h
    moves_go g h m r =
        let x : Four W = travelled m.parcels m.weather g in
        let a : Goes 0 x = ticks_go g m.parcels m.weather (length (order g ps)) m.ticked r in
        let b : Goes 1 (arrivals_of images budget ps x) = subst (Going (images q) budget 1)
        (sym (all_at (λ p h. arrivals (images p) budget (numbers_of h.window.frames) h)
        (λ p h. arrivals_kept (images p) budget (numbers_of h.window.frames) h) q ps x once there))
        (arrived_going (images q) good budget (alone q x) a) in
        subst (Goes 1) (sym m.arrived) (record { ok = b.ok; went = b.went; ties = b.ties; fetch = b.fetch })
