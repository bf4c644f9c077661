-- A relation of what a program has of its own, kept by its turns, is kept by each part of a cycle, whatever place the
-- program has among the others.
use Rattle.std.proofs.Common.{◌≡◌, ℕ, zero, suc, ◌==◌, Bool, true, false, cond, List, [], ◌∷◌, Option, Some, None}
use Rattle.std.proofs.Common.{refl, sym, subst}
use Rattle.std.proofs.lemmas.Bool.{cond_both, eqb-true}
use Rattle.trips_isa.specs.declared.block.Block.{Block}
use Rattle.operand_net.specs.Places.{Places}
use Rattle.grid_cycle_spec.specs.Grid.{Grid, numbers_of}
use Rattle.grid_cycle_spec.specs.Choosing.{each, eldest, slots}
use Rattle.grid_cycle_spec.specs.Banks.{bank_turn}
use Rattle.grid_cycle_spec.specs.DataTiles.{data_turn}
use Rattle.grid_cycle_spec.specs.Units.{in_unit, issues, result_chosen}
use Rattle.grid_cycle_spec.specs.inside.Arrivals.{arrivals}
use Rattle.grid_cycle_spec.proofs.KeptChanges.{Kinds, Keeps}
use Rattle.grid_cycle_spec.proofs.KeptByTurns.{result_kept}
use Rattle.grid_cycle_spec.proofs.KeptByCycles.{bank_keeps, data_keeps, issues_keep}
use Rattle.grid_cycle_spec.proofs.KeptByArrivals.{arrivals_keep}
use Rattle.smt_spec.specs.Programs.{Own, Four, own_of, alone, put, travelled}
use Rattle.smt_spec.specs.Turns.{first_does, all_do}
use Rattle.smt_spec.specs.Parts.{Images, has_read, bank_turn_of, reads_of, has_request, data_turn_of, answers_of}
use Rattle.smt_spec.specs.Parts.{busy_for, gives, unit_on_of, has_ready, issues_of, unit_turn_of, works_of}
use Rattle.smt_spec.specs.Cycles.{Moves}

-- the turns of a program in parts (3) to (6) keep a relation of what it has of its own
pub record KeptByOwn (W : Type 0) (blocks : List Block) (budget : ℕ) (S : Own → Own → Type 0) : Type 0 where
  pub on_banks : (n : ℕ) (h : Grid W) → S (own_of h) (own_of (bank_turn blocks budget n h))
  pub on_tiles : (n : ℕ) (h : Grid W) → S (own_of h) (own_of (data_turn blocks budget n h))
  pub on_results : (tile p : ℕ) (h : Grid W) → S (own_of h) (own_of (gives tile p h))
  pub on_issues : (tile : ℕ) (h : Grid W) → S (own_of h) (own_of (issues blocks budget tile h))
  pub on_ticks : (parcels : Places) (weather : W) (h : Grid W)
      → S (own_of h) (own_of (record h { parcels = parcels; weather = weather }))
  pub on_arrivals : (h : Grid W) → S (own_of h) (own_of (arrivals blocks budget (numbers_of h.window.frames) h))

-- what the primitive changes of a grid keep, the turns of a program keep
module _ {W : Type 0} {s : Kinds} (blocks : List Block) (budget : ℕ) (R : Grid W → Grid W → Type 0)
    (k : Keeps s blocks budget R) (all : (n : ℕ) → s.of n) (sending : s.sending) (turning : s.turning)
    (ticking : s.ticking) (S : Own → Own → Type 0) (own : (g h : Grid W) → R g h → S (own_of g) (own_of h)) where
  given : (o : Option (ℕ × ℕ)) (h : Grid W) → R h (result_chosen o h)
  given None h = k.same h
  given (Some q) h = result_kept blocks budget R k sending q (all q.0) h

  pub by_changes : KeptByOwn W blocks budget S
  by_changes = record {
    on_banks = λ n h. own h _ (bank_keeps blocks budget R k all sending n h);
    on_tiles = λ n h. own h _ (data_keeps blocks budget R k all sending n h);
    on_results = λ tile p h. own h _ (given (eldest (in_unit h tile) slots h.window.frames) h);
    on_issues = λ tile h. own h _ (issues_keep blocks budget R k all sending turning tile h);
    on_ticks = λ parcels weather h. own h _ (k.ticking ticking parcels weather h);
    on_arrivals = λ h. own h _ (arrivals_keep blocks budget R k all (numbers_of h.window.frames) h);
  }

module _ {W : Type 0} (q : ℕ) (S : Own → Own → Type 0) (same : (o : Own) → S o o)
    (chain : (o m n : Own) → S o m → S m n → S o n) where
  -- the relation of what program q has
  abbrev Goes : Four W → Four W → Type 0
  Goes g h = S (g.own q) (h.own q)

  put_goes : (p : ℕ) (h : Grid W) (g : Four W) → (q ≡ p → S (g.own p) (own_of h)) → Goes g (put p h g)
  put_goes p h g s = by (q == p) refl
    where
      by : (b : Bool) → (q == p) ≡ b → S (g.own q) (cond b (own_of h) (g.own q))
      by false e = same (g.own q)
      by true e = subst (λ j. S (g.own j) (own_of h)) (sym (eqb-true q p e)) (s (eqb-true q p e))

  -- a station serves the first program that has something for it
  pub first_goes : (can : ℕ → Grid W → Bool) (does : ℕ → Grid W → Grid W)
      → ((h : Grid W) → can q h ≡ true → S (own_of h) (own_of (does q h))) → (ps : List ℕ) (g : Four W)
      → Goes g (first_does can does ps g)
  first_goes can does s [] g = same (g.own q)
  first_goes can does s (p ∷ ps) g = cond_both (can p (alone p g)) (put p (does p (alone p g)) g)
      (first_does can does ps g) (λ (k : Four W). Goes g k)
      (λ e. put_goes p (does p (alone p g)) g (λ i.
      subst (λ j. (h : Grid W) → can j h ≡ true → S (own_of h) (own_of (does j h))) i s (alone p g) e))
      (λ e. first_goes can does s ps g)

  -- each of some programs does something
  pub all_goes : (does : ℕ → Grid W → Grid W) → ((h : Grid W) → S (own_of h) (own_of (does q h))) → (ps : List ℕ)
      (g : Four W) → Goes g (all_do does ps g)
  all_goes does s [] g = same (g.own q)
  all_goes does s (p ∷ ps) g =
      let m : Four W = put p (does p (alone p g)) g in
      chain (g.own q) (m.own q) ((all_do does ps m).own q)
      (put_goes p (does p (alone p g)) g (λ i.
      subst (λ j. (h : Grid W) → S (own_of h) (own_of (does j h))) i s (alone p g)))
      (all_goes does s ps m)

  each_goes : (turn : ℕ → Four W → Four W) → ((n : ℕ) (g : Four W) → Goes g (turn n g)) → (k : ℕ) (g : Four W)
      → Goes g (each turn k g)
  each_goes turn s zero g = same (g.own q)
  each_goes turn s (suc k) g = chain (g.own q) ((each turn k g).own q) ((turn k (each turn k g)).own q)
      (each_goes turn s k g) (s k (each turn k g))

  -- one of two ways to go on
  pub either_goes : (b : Bool) (x y g : Four W) → Goes g x → Goes g y → Goes g (cond b x y)
  either_goes true x y g a b = a
  either_goes false x y g a b = b

  module _ (images : Images) (budget : ℕ) (kept : KeptByOwn W (images q) budget S) (ps : List ℕ) where
    reads_go : (g : Four W) → Goes g (reads_of images budget ps g)
    reads_go = each_goes (bank_turn_of images budget ps) (λ n g. first_goes (has_read images budget n)
        (λ p. bank_turn (images p) budget n) (λ h e. kept.on_banks n h) ps g) 4

    answers_go : (g : Four W) → Goes g (answers_of images budget ps g)
    answers_go = each_goes (data_turn_of images budget ps) (λ n g. first_goes (has_request n)
        (λ p. data_turn (images p) budget n) (λ h e. kept.on_tiles n h) ps g) 4

    unit_goes : (k left : ℕ) (g : Four W) → Goes g (unit_on_of ps k left g)
    unit_goes k zero g = same (g.own q)
    unit_goes k (suc zero) g = all_goes (gives k) (λ h. kept.on_results k q h) ps (busy_for k 0 g)
    unit_goes k (suc (suc left)) g = same (g.own q)

    issue_goes : (k : ℕ) (g : Four W) → Goes g (issues_of images budget ps k g)
    issue_goes k g = either_goes (g.units k == 0)
        (first_does (has_ready images budget k) (λ p. issues (images p) budget k) ps g) g g
        (first_goes (has_ready images budget k) (λ p. issues (images p) budget k) (λ h e. kept.on_issues k h) ps g)
        (same (g.own q))

    works_go : (g : Four W) → Goes g (works_of images budget ps g)
    works_go = each_goes (unit_turn_of images budget ps) (λ k g.
        let m : Four W = unit_on_of ps k (g.units k) g in
        chain (g.own q) (m.own q) ((issues_of images budget ps k m).own q) (unit_goes k (g.units k) g)
        (issue_goes k m)) 16

    -- parts (3) to (5)
    pub stations_go : (g : Four W)
        → Goes g (works_of images budget ps (answers_of images budget ps (reads_of images budget ps g)))
    stations_go g =
        let b : Four W = reads_of images budget ps g in
        let c : Four W = answers_of images budget ps b in
        let d : Four W = works_of images budget ps c in
        chain (g.own q) (b.own q) (d.own q) (reads_go g)
        (chain (b.own q) (c.own q) (d.own q) (answers_go b) (works_go c))

    -- part (6)
    pub moves_go : (next : W → ℕ) (follows : W → W → Type 0) (g h : Four W)
        → Moves next follows images budget ps g h → Goes g h
    moves_go next follows g h m =
        let x : Four W = travelled m.parcels m.weather g in
        subst (λ (k : Four W). Goes g k) (sym m.arrived)
        (chain (g.own q) (x.own q) _ (kept.on_ticks (x.own q).parcels m.weather (alone q g))
        (all_goes (λ p h. arrivals (images p) budget (numbers_of h.window.frames) h) (λ h. kept.on_arrivals h) ps x))
