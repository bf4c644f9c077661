-- A program that is over stays as it is: no station serves it, and it has no fetch.
use Rattle.std.proofs.Common.{◌≡◌, ℕ, zero, suc, ◌<◌, ◌⊎◌, inl, inr, ◌==◌, Bool, true, false, cond, nat_lt, List, []}
use Rattle.std.proofs.Common.{◌∷◌, length, None, refl, sym, ap, ◌∙◌, true≢false}
use Rattle.std.proofs.lemmas.Bool.{cond_both, eqb-true, ltb-true, false_from_ne_true}
use Rattle.trips_isa.specs.declared.run.Stepped.{Stepped}
use Rattle.trips_isa.specs.declared.run.Stepped.TheVariants as stepped
use Rattle.commit_flush_spec.specs.Window.{Window}
use Rattle.grid_cycle_spec.specs.Grid.{Grid, numbers_of}
use Rattle.grid_cycle_spec.specs.Choosing.{each}
use Rattle.grid_cycle_spec.specs.Ends.{ends}
use Rattle.grid_cycle_spec.specs.Fetches.{fetch_ends, begins}
use Rattle.grid_cycle_spec.specs.Banks.{bank_turn}
use Rattle.grid_cycle_spec.specs.DataTiles.{data_turn}
use Rattle.grid_cycle_spec.specs.Units.{issues}
use Rattle.grid_cycle_spec.specs.inside.Arrivals.{arrivals}
use Rattle.grid_cycle_spec.specs.Cycles.{closed}
use Rattle.smt_spec.specs.Programs.{Own, Four, own_of, alone, put, is_idle, travelled}
use Rattle.smt_spec.specs.Turns.{first_does, all_do, all_four}
use Rattle.smt_spec.specs.inside.Among.{Apart, Distinct, Has}
use Rattle.smt_spec.specs.Parts.{Images, ends_of, fetches_go_on, fetches_of, may_begin, has_read}
use Rattle.smt_spec.specs.Parts.{bank_turn_of, reads_of, has_request, data_turn_of, answers_of, busy_for, gives}
use Rattle.smt_spec.specs.Parts.{unit_on_of, has_ready, issues_of, unit_turn_of, works_of, arrivals_of}
use Rattle.smt_spec.specs.Cycles.{has_gone, goes_on, those, going, acting, acts_of, retires, Eager4}
use Rattle.smt_spec.proofs.SeenAlone.{shared, all_at}
use Rattle.smt_spec.proofs.SharedLeft.{fetched_kept, flushed_kept}
use Rattle.smt_spec.proofs.FirstParts.{four_once}

-- which programs go on -----------------------------------------------------------------------------

-- a program that goes on has not ended, and has not spent its budget
pub on_parts : (budget : ℕ) (w : Window) → goes_on budget w ≡ true
    → (w.over ≡ stepped.Went) × (length w.state.trace < budget)
on_parts budget w e = by w.over refl e
  where
    by : (s : Stepped) → w.over ≡ s → cond (has_gone s) (nat_lt (length w.state.trace) budget) false ≡ true
        → (w.over ≡ stepped.Went) × (length w.state.trace < budget)
    by stepped.Went i z = (i, ltb-true (length w.state.trace) budget z)
    by stepped.Ended i z = absurd (true≢false (sym z))
    by stepped.StackFull i z = absurd (true≢false (sym z))
    by (stepped.Trap c) i z = absurd (true≢false (sym z))

module _ {W : Type 0} (passes : Window → Bool) (g : Four W) where
  -- of programs apart from p those that pass are apart from it
  pub those_apart : (p : ℕ) (ps : List ℕ) → Apart p ps → Apart p (those passes g ps)
  those_apart p [] a = tt
  those_apart p (q ∷ qs) a = cond_both (passes (g.own q).window) (q ∷ those passes g qs) (those passes g qs)
      (Apart p) (λ e. (a.0, those_apart p qs a.1)) (λ e. those_apart p qs a.1)

  -- of programs none of which is named twice none of those that pass is
  pub those_once : (ps : List ℕ) → Distinct ps → Distinct (those passes g ps)
  those_once [] d = tt
  those_once (q ∷ qs) d = cond_both (passes (g.own q).window) (q ∷ those passes g qs) (those passes g qs)
      Distinct (λ e. (those_apart q qs d.0, those_once qs d.1)) (λ e. those_once qs d.1)

  -- a program that passes is one of them
  pub those_have : (q : ℕ) (ps : List ℕ) → Has q ps → passes (g.own q).window ≡ true → Has q (those passes g ps)
  those_have q [] h e = absurd h
  those_have q (p ∷ ps) h e = cond_both (passes (g.own p).window) (p ∷ those passes g ps) (those passes g ps) (Has q)
      (λ z. yes h (λ k. those_have q ps k e)) (λ z. no h z (λ k. those_have q ps k e))
    where
      yes : (p ≡ q) ⊎ Has q ps → (Has q ps → Has q (those passes g ps)) → (p ≡ q) ⊎ Has q (those passes g ps)
      yes (inl i) f = inl i
      yes (inr k) f = inr (f k)

      no : (p ≡ q) ⊎ Has q ps → passes (g.own p).window ≡ false → (Has q ps → Has q (those passes g ps))
          → Has q (those passes g ps)
      no (inl i) z f = absurd (true≢false (sym e ∙ sym (ap (λ j. passes (g.own j).window) i) ∙ z))
      no (inr k) z f = f k

  -- a program that does not pass is none of them
  pub those_miss : (q : ℕ) (ps : List ℕ) → passes (g.own q).window ≡ false → Apart q (those passes g ps)
  those_miss q [] e = tt
  those_miss q (p ∷ ps) e = cond_both (passes (g.own p).window) (p ∷ those passes g ps) (those passes g ps) (Apart q)
      (λ z. (
        false_from_ne_true (q == p) (λ i. true≢false (sym z
            ∙ ap (λ j. passes (g.own j).window) (sym (eqb-true q p i)) ∙ e)),
        those_miss q ps e,
      ))
      (λ z. those_miss q ps e)

-- turns of others ----------------------------------------------------------------------------------

module _ {W : Type 0} (q : ℕ) where
  put_apart : (p : ℕ) (h : Grid W) (g : Four W) → (q == p) ≡ false → (put p h g).own q ≡ g.own q
  put_apart p h g e = ap (λ b. cond b (own_of h) (g.own q)) e

  first_apart : (can : ℕ → Grid W → Bool) (does : ℕ → Grid W → Grid W) (ps : List ℕ) (g : Four W) → Apart q ps
      → (first_does can does ps g).own q ≡ g.own q
  first_apart can does [] g a = refl
  first_apart can does (p ∷ ps) g a = cond_both (can p (alone p g)) (put p (does p (alone p g)) g)
      (first_does can does ps g) (λ (k : Four W). k.own q ≡ g.own q)
      (λ e. put_apart p (does p (alone p g)) g a.0) (λ e. first_apart can does ps g a.1)

  all_apart : (does : ℕ → Grid W → Grid W) (ps : List ℕ) (g : Four W) → Apart q ps
      → (all_do does ps g).own q ≡ g.own q
  all_apart does [] g a = refl
  all_apart does (p ∷ ps) g a = all_apart does ps (put p (does p (alone p g)) g) a.1
      ∙ put_apart p (does p (alone p g)) g a.0

  each_apart : (turn : ℕ → Four W → Four W) → ((n : ℕ) (g : Four W) → (turn n g).own q ≡ g.own q) → (k : ℕ)
      (g : Four W) → (each turn k g).own q ≡ g.own q
  each_apart turn s zero g = refl
  each_apart turn s (suc k) g = s k (each turn k g) ∙ each_apart turn s k g

  module _ (images : Images) (budget : ℕ) (ps : List ℕ) (apart : Apart q ps) where
    ends_apart : (g : Four W) → (ends_of images budget ps g).own q ≡ g.own q
    ends_apart g = all_apart (λ p. ends (images p) budget) ps g apart

    reads_apart : (g : Four W) → (reads_of images budget ps g).own q ≡ g.own q
    reads_apart = each_apart (bank_turn_of images budget ps) (λ n g. first_apart (has_read images budget n)
        (λ p. bank_turn (images p) budget n) ps g apart) 4

    answers_apart : (g : Four W) → (answers_of images budget ps g).own q ≡ g.own q
    answers_apart = each_apart (data_turn_of images budget ps) (λ n g. first_apart (has_request n)
        (λ p. data_turn (images p) budget n) ps g apart) 4

    unit_apart : (k left : ℕ) (g : Four W) → (unit_on_of ps k left g).own q ≡ g.own q
    unit_apart k zero g = refl
    unit_apart k (suc zero) g = all_apart (gives k) ps (busy_for k 0 g) apart
    unit_apart k (suc (suc left)) g = refl

    issue_apart : (k : ℕ) (g : Four W) → (issues_of images budget ps k g).own q ≡ g.own q
    issue_apart k g = cond_both (g.units k == 0)
        (first_does (has_ready images budget k) (λ p. issues (images p) budget k) ps g) g
        (λ (h : Four W). h.own q ≡ g.own q)
        (λ e. first_apart (has_ready images budget k) (λ p. issues (images p) budget k) ps g apart) (λ e. refl)

    works_apart : (g : Four W) → (works_of images budget ps g).own q ≡ g.own q
    works_apart = each_apart (unit_turn_of images budget ps) (λ k g.
        issue_apart k (unit_on_of ps k (g.units k) g) ∙ unit_apart k (g.units k) g) 16

    -- a fetch of its own that is not under way does not go on
    fetches_apart : Has q all_four → (g : Four W) → (g.own q).fetching ≡ None
        → (fetches_of images budget ps g).own q ≡ g.own q
    fetches_apart there g none =
        let m : Four W = fetches_go_on images budget g in
        cond_both (is_idle m) (first_does (may_begin images) (λ p. begins (images p)) ps m) m
        (λ (h : Four W). h.own q ≡ m.own q)
        (λ e. first_apart (may_begin images) (λ p. begins (images p)) ps m apart) (λ e. refl)
        ∙ ap own_of (all_at (λ p h. fetch_ends (images p) budget h.fetching h)
        (λ p h. fetched_kept (images p) budget h.fetching h) q all_four g four_once there
        ∙ ap (λ o. fetch_ends (images q) budget o (alone q g)) none)

    acts_apart : Has q all_four → (g : Four W) → (g.own q).fetching ≡ None
        → (acts_of images budget ps g).own q ≡ g.own q
    acts_apart there g none =
        let a : Four W = fetches_of images budget ps g in
        let b : Four W = reads_of images budget ps a in
        let c : Four W = answers_of images budget ps b in
        works_apart c ∙ answers_apart b ∙ reads_apart a ∙ fetches_apart there g none

    arrivals_apart : (g : Four W) → (arrivals_of images budget ps g).own q ≡ g.own q
    arrivals_apart g = all_apart (λ p h. arrivals (images p) budget (numbers_of h.window.frames) h) ps g apart

-- a program that is over has no fetch, and its window stays
module _ {W : Type 0} (images : Images) (budget q : ℕ) (there : Has q all_four) (next : W → ℕ)
    (follows : W → W → Type 0) (g h : Four W) (cycle : Eager4 next follows images budget g h) where
  -- its window and its fetch
  abbrev Stays : Own → Own → Type 0
  Stays o n = (n.window ≡ o.window) × (n.fetching ≡ o.fetching)

  -- a cycle leaves the window and the fetch of a program that is over
  pub over_stays : goes_on budget (g.own q).window ≡ false → (g.own q).fetching ≡ None → Stays (g.own q) (h.own q)
  over_stays e none =
      let ps : List ℕ = going budget g in
      let m : Four W = ends_of images budget ps g in
      let qs : List ℕ = acting ps m in
      let d : Four W = acts_of images budget qs m in
      let x : Four W = travelled (cycle.moves).parcels (cycle.moves).weather d in
      let a : Apart q ps = those_miss (goes_on budget) g q all_four e in
      let b : Apart q qs = those_apart (λ w. has_gone w.over) m q ps a in
      let i : m.own q ≡ g.own q = ends_apart q images budget ps a g in
      let j : d.own q ≡ g.own q = acts_apart q images budget qs b there m
      (ap (λ (o : Own). o.fetching) i ∙ none) ∙ i in
      let k : (cycle.last).own q ≡ x.own q = ap (λ (z : Four W). z.own q) (cycle.moves).arrived
      ∙ arrivals_apart q images budget qs b x in
      let l : h.own q ≡ (cycle.last).own q = ap (λ (z : Four W). z.own q) cycle.ends
      ∙ all_apart q (λ p. retires budget) ps cycle.last a in (
        ap (λ (o : Own). o.window) (l ∙ k) ∙ ap (λ (o : Own). o.window) j,
        ap (λ (o : Own). o.fetching) (l ∙ k) ∙ ap (λ (o : Own). o.fetching) j,
      )

-- the end of a cycle ------------------------------------------------------------------------------

module _ {W : Type 0} (images : Images) (budget : ℕ) where
  closed_left : (h : Grid W) → shared (closed h) ≡ shared h
  closed_left h = flushed_kept (images 0) budget h.window.frames
      (record h { window = record h.window { frames = [] } })

  -- what becomes over leaves what all share
  pub retires_left : (h : Grid W) → shared (retires budget h) ≡ shared h
  retires_left h = cond_both (goes_on budget h.window) h (record (closed h) { fetching = None })
      (λ k. shared k ≡ shared h) (λ e. refl) (λ e. closed_left h)

  -- one that goes on is left as it is, and one that does not has no fetch
  pub retires_on : (h : Grid W) → goes_on budget h.window ≡ true → retires budget h ≡ h
  retires_on h e = ap (λ b. cond b h (record (closed h) { fetching = None })) e

  pub retires_off : (h : Grid W) → goes_on budget h.window ≡ false → (retires budget h).fetching ≡ None
  retires_off h e = ap (λ b. (cond b h (record (closed h) { fetching = None })).fetching) e

  module _ (q : ℕ) (there : Has q all_four) (next : W → ℕ) (follows : W → W → Type 0) (g h : Four W)
      (cycle : Eager4 next follows images budget g h) (before : goes_on budget (g.own q).window ≡ true) where
    -- a program that went on before a cycle retires behind it where it is over
    pub retired : alone q h ≡ retires budget (alone q cycle.last)
    retired = ap (alone q) cycle.ends
        ∙ all_at (λ p. retires budget) (λ p k. retires_left k) q (going budget g) cycle.last
        (those_once (goes_on budget) g all_four four_once)
        (those_have (goes_on budget) g q all_four there before)
