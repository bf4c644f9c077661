-- Units beyond the sixteen tiles stay as they are, and a cycle is counted once, at its end.
use Rattle.std.proofs.Common.{◌≡◌, ℕ, zero, suc, ◌+◌, ◌<◌, ◌≤◌, ◌==◌, Bool, false, List, [], ◌∷◌, refl}
use Rattle.std.proofs.Common.{ap, ◌∙◌, arith}
use Rattle.std.proofs.lemmas.Bool.{cond_both, cond-false, ne_eqb}
use Rattle.grid_cycle_spec.specs.Grid.{Grid, numbers_of}
use Rattle.grid_cycle_spec.specs.Choosing.{eldest, each, slots}
use Rattle.grid_cycle_spec.specs.Ends.{ends}
use Rattle.grid_cycle_spec.specs.Fetches.{fetch_ends, begins}
use Rattle.grid_cycle_spec.specs.Banks.{bank_turn}
use Rattle.grid_cycle_spec.specs.DataTiles.{data_turn}
use Rattle.grid_cycle_spec.specs.Units.{ready, issue_chosen, issues}
use Rattle.grid_cycle_spec.specs.inside.Arrivals.{arrivals}
use Rattle.grid_bound.proofs.OldestIssues.{issue_units}
use Rattle.smt_spec.specs.Programs.{Four, alone, put, is_idle, travelled}
use Rattle.smt_spec.specs.Turns.{first_does, all_do, all_four}
use Rattle.smt_spec.specs.Parts.{Images, ends_of, fetches_go_on, fetches_of, may_begin, has_read}
use Rattle.smt_spec.specs.Parts.{bank_turn_of, reads_of, has_request, data_turn_of, answers_of, busy_for, gives}
use Rattle.smt_spec.specs.Parts.{unit_on_of, has_ready, issues_of, unit_turn_of, works_of}
use Rattle.smt_spec.specs.Cycles.{going, acting, acts_of, Moves, retires, Eager4}
use Rattle.smt_spec.proofs.SeenAlone.{shared}
use Rattle.smt_spec.proofs.SharedLeft.{ends_kept, fetched_kept, begins_kept, bank_kept, tile_kept, gives_kept}
use Rattle.smt_spec.proofs.SharedLeft.{arrivals_kept}
use Rattle.smt_spec.proofs.UnitsUnseen.{issues_rest}
use Rattle.smt_spec.proofs.OverStays.{retires_left}

-- a unit beyond is none of the sixteen
other_unit : (t : ℕ) → 16 ≤ t → (k : ℕ) → k < 16 → (t == k) ≡ false
other_unit t far k l = ne_eqb t k (λ z. absurd (omega (arith, far, l, z)))

module _ {W : Type 0} (images : Images) (budget t : ℕ) (far : 16 ≤ t) where
  -- unit t is as busy, and as many cycles are counted
  abbrev Far : Four W → Four W → Type 0
  Far g h = (h.units t ≡ g.units t) × (h.cycles ≡ g.cycles)

  abbrev FarGrid : Grid W → Grid W → Type 0
  FarGrid g h = (h.units t ≡ g.units t) × (h.counts.cycles ≡ g.counts.cycles)

  chain : (g m h : Four W) → Far g m → Far m h → Far g h
  chain g m h a b = (b.0 ∙ a.0, b.1 ∙ a.1)

  -- what leaves all that is shared leaves these
  stays : (g h : Grid W) → shared h ≡ shared g → FarGrid g h
  stays g h e = (ap (λ (s : (ℕ → ℕ) × W × ℕ). s.0 t) e, ap (λ (s : (ℕ → ℕ) × W × ℕ). s.2) e)

  first_far : (can : ℕ → Grid W → Bool) (does : ℕ → Grid W → Grid W) → ((p : ℕ) (h : Grid W) → FarGrid h (does p h))
      → (ps : List ℕ) (g : Four W) → Far g (first_does can does ps g)
  first_far can does d [] g = (refl, refl)
  first_far can does d (p ∷ ps) g = cond_both (can p (alone p g)) (put p (does p (alone p g)) g)
      (first_does can does ps g) (λ (k : Four W). Far g k) (λ e. d p (alone p g)) (λ e. first_far can does d ps g)

  all_far : (does : ℕ → Grid W → Grid W) → ((p : ℕ) (h : Grid W) → FarGrid h (does p h)) → (ps : List ℕ)
      (g : Four W) → Far g (all_do does ps g)
  all_far does d [] g = (refl, refl)
  all_far does d (p ∷ ps) g =
      let m : Four W = put p (does p (alone p g)) g in
      chain g m (all_do does ps m) (d p (alone p g)) (all_far does d ps m)

  each_far : (turn : ℕ → Four W → Four W) (n : ℕ) → ((k : ℕ) → k < n → (g : Four W) → Far g (turn k g)) → (k : ℕ)
      → k ≤ n → (g : Four W) → Far g (each turn k g)
  each_far turn n d zero l g = (refl, refl)
  each_far turn n d (suc k) l g = chain g (each turn k g) (turn k (each turn k g))
      (each_far turn n d k (omega (arith, l)) g) (d k (omega (arith, l)) (each turn k g))

  module _ (ps : List ℕ) where
    ends_far : (g : Four W) → Far g (ends_of images budget ps g)
    ends_far g = all_far (λ p. ends (images p) budget)
        (λ p h. stays h (ends (images p) budget h) (ends_kept (images p) budget h)) ps g

    fetches_far : (g : Four W) → Far g (fetches_of images budget ps g)
    fetches_far g =
        let m : Four W = fetches_go_on images budget g in
        chain g m (fetches_of images budget ps g)
        (all_far (λ p h. fetch_ends (images p) budget h.fetching h)
        (λ p h. stays h (fetch_ends (images p) budget h.fetching h) (fetched_kept (images p) budget h.fetching h))
        all_four g)
        (cond_both (is_idle m) (first_does (may_begin images) (λ p. begins (images p)) ps m) m
        (λ (k : Four W). Far m k)
        (λ e. first_far (may_begin images) (λ p. begins (images p))
        (λ p h. stays h (begins (images p) h) (begins_kept (images p) budget h)) ps m) (λ e. (refl, refl)))

    reads_far : (g : Four W) → Far g (reads_of images budget ps g)
    reads_far = each_far (bank_turn_of images budget ps) 4 (λ n l g. first_far (has_read images budget n)
        (λ p. bank_turn (images p) budget n)
        (λ p h. stays h (bank_turn (images p) budget n h) (bank_kept (images p) budget n h)) ps g) 4 (omega arith)

    answers_far : (g : Four W) → Far g (answers_of images budget ps g)
    answers_far = each_far (data_turn_of images budget ps) 4 (λ n l g. first_far (has_request n)
        (λ p. data_turn (images p) budget n)
        (λ p h. stays h (data_turn (images p) budget n h) (tile_kept (images p) budget n h)) ps g) 4 (omega arith)

    unit_far : (k : ℕ) → k < 16 → (left : ℕ) (g : Four W) → Far g (unit_on_of ps k left g)
    unit_far k l zero g = (refl, refl)
    unit_far k l (suc zero) g = chain g (busy_for k 0 g) (unit_on_of ps k 1 g)
        (cond-false (t == k) 0 (g.units t) (other_unit t far k l), refl)
        (all_far (gives k) (λ p h. stays h (gives k p h) (gives_kept (images p) budget k p h)) ps (busy_for k 0 g))
    unit_far k l (suc (suc n)) g = (cond-false (t == k) (suc n) (g.units t) (other_unit t far k l), refl)

    issued_far : (k : ℕ) → k < 16 → (p : ℕ) (h : Grid W) → FarGrid h (issues (images p) budget k h)
    issued_far k l p h = (
      cond_both (h.units k == 0)
          (issue_chosen (images p) budget k (eldest (ready (images p) budget h k) slots h.window.frames) h) h
          (λ (x : Grid W). x.units t ≡ h.units t)
          (λ e. issue_units (images p) budget k (eldest (ready (images p) budget h k) slots h.window.frames) h t
          (other_unit t far k l)) (λ e. refl),
      ap (λ (r : W × ℕ). r.1) (issues_rest (images p) budget k h),
    )

    issue_far : (k : ℕ) → k < 16 → (g : Four W) → Far g (issues_of images budget ps k g)
    issue_far k l g = cond_both (g.units k == 0)
        (first_does (has_ready images budget k) (λ p. issues (images p) budget k) ps g) g (λ (x : Four W). Far g x)
        (λ e. first_far (has_ready images budget k) (λ p. issues (images p) budget k) (issued_far k l) ps g)
        (λ e. (refl, refl))

    works_far : (g : Four W) → Far g (works_of images budget ps g)
    works_far = each_far (unit_turn_of images budget ps) 16 (λ k l g.
        let m : Four W = unit_on_of ps k (g.units k) g in
        chain g m (issues_of images budget ps k m) (unit_far k l (g.units k) g) (issue_far k l m)) 16 (omega arith)

    acts_far : (g : Four W) → Far g (acts_of images budget ps g)
    acts_far g =
        let a : Four W = fetches_of images budget ps g in
        let b : Four W = reads_of images budget ps a in
        let c : Four W = answers_of images budget ps b in
        let d : Four W = works_of images budget ps c in
        chain g a d (fetches_far g) (chain a b d (reads_far a) (chain b c d (answers_far b) (works_far c)))

    moves_far : (next : W → ℕ) (follows : W → W → Type 0) (g h : Four W) → Moves next follows images budget ps g h
        → (h.units t ≡ g.units t) × (h.cycles ≡ g.cycles + 1)
    moves_far next follows g h m =
        let x : Four W = travelled m.parcels m.weather g in
        let z = all_far (λ p h. arrivals (images p) budget (numbers_of h.window.frames) h)
        (λ p h. stays h (arrivals (images p) budget (numbers_of h.window.frames) h)
        (arrivals_kept (images p) budget (numbers_of h.window.frames) h)) ps x in (
          ap (λ (k : Four W). k.units t) m.arrived ∙ z.0,
          ap (λ (k : Four W). k.cycles) m.arrived ∙ ap (λ n. n + 1) z.1,
        )

  module _ (next : W → ℕ) (follows : W → W → Type 0) (g h : Four W) (cycle : Eager4 next follows images budget g h)
    where
      -- a cycle leaves the units beyond the sixteen tiles, and is counted
      pub cycle_far : (h.units t ≡ g.units t) × (h.cycles ≡ g.cycles + 1)
      cycle_far =
          let ps : List ℕ = going budget g in
          let m : Four W = ends_of images budget ps g in
          let qs : List ℕ = acting ps m in
          let d : Four W = acts_of images budget qs m in
          let a = ends_far ps g in
          let b = acts_far qs m in
          let c = moves_far qs next follows d cycle.last cycle.moves in
          let z = all_far (λ p. retires budget) (λ p k. stays k (retires budget k) (retires_left images budget k)) ps
          cycle.last in (
            ap (λ (k : Four W). k.units t) cycle.ends ∙ z.0 ∙ c.0 ∙ b.0 ∙ a.0,
            ap (λ (k : Four W). k.cycles) cycle.ends ∙ z.1 ∙ c.1 ∙ ap (λ n. n + 1) (b.1 ∙ a.1),
          )
