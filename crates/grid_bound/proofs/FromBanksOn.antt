-- From part (3) on, where the grid comes first at each station: what is left of a cycle serves the oldest frame, or
-- waits for the fetch of the next block.
use Rattle.std.proofs.Common.{◌≡◌, ℕ, ◌-◌, ◌<◌, ◌≤◌, ◌==◌, ◌&&◌, ◌⊎◌, inl, inr, Bool, true, false}
use Rattle.std.proofs.Common.{cond, nat_lt, List, [], ◌∷◌, Option, Some, None, refl, sym, ap, ap₂, ◌∙◌}
use Rattle.std.proofs.Common.{subst, arith}
use Rattle.std.proofs.lemmas.Bool.{cond-true, cond-false, cases_lt, lt-ltb, le-ltb, eqb-true, and_parts}
use Rattle.trips_isa.specs.declared.block.Block.{Block}
use Rattle.trips_isa.specs.declared.run.Stepped.TheVariants as stepped
use Rattle.trips_isa.specs.Machine.{State}
use Rattle.trips_isa.specs.Rule.{Answer}
use Rattle.commit_flush_spec.specs.Frames.{Frame}
use Rattle.commit_flush_spec.specs.Older.{Older, committed}
use Rattle.commit_flush_spec.specs.inside.Invariant.{AllGood, FrameOk}
use Rattle.commit_flush_spec.specs.inside.Laws.{WindowOk}
use Rattle.commit_flush_spec.proofs.Frames.{seen, seen_agrees}
use Rattle.grid_cycle_spec.specs.Grid.{Grid, Fetching, numbers_of}
use Rattle.grid_cycle_spec.specs.Banks.{reads_answered}
use Rattle.grid_cycle_spec.specs.DataTiles.{answers}
use Rattle.grid_cycle_spec.specs.Units.{works_on}
use Rattle.grid_cycle_spec.specs.inside.Arrivals.{arrivals}
use Rattle.grid_bound.specs.inside.Course.{Course}
use Rattle.grid_bound.specs.inside.Lane.{Front, Stage, Running}
use Rattle.grid_bound.specs.inside.Lane as lane
use Rattle.grid_bound.specs.inside.Sending.{reads_front, reading, tile_of as lane_tile}
use Rattle.grid_bound.specs.inside.Answering.{TilesAnswer}
use Rattle.grid_bound.specs.inside.Turning.{less_one, finish_front, issue_front, busy, issued, units_after, turning}
use Rattle.grid_bound.specs.inside.Turning.{own_units}
use Rattle.grid_bound.specs.inside.Sending.{found}
use Rattle.grid_bound.specs.inside.Moving.{move_front, moving}
use Rattle.grid_bound.specs.inside.Blocks.{course_of}
use Rattle.grid_bound.specs.inside.Seen.{front_of, fetch_of, stage_of}
use Rattle.grid_bound.specs.inside.Shows.{Shows}
use Rattle.grid_bound.specs.inside.Parts.{RowMoves, Working}
use Rattle.grid_bound.specs.inside.CycleRule.{CycleRule}
use Rattle.grid_bound.specs.inside.ServedFirst.{RestFirst}
use Rattle.grid_bound.specs.inside.Lanes.{course_in}
use Rattle.grid_cycle_spec.proofs.KeptByCycles.{banks_keep, answers_keep, works_keep}
use Rattle.grid_cycle_spec.proofs.KeptByArrivals.{arrivals_keep}
use Rattle.grid_bound.proofs.Steady.{Onward, On, steady}
use Rattle.grid_bound.proofs.OldestEnds.{oldest_ok}
use Rattle.grid_bound.specs.inside.MoveRule.{MoveRule}
use Rattle.grid_bound.proofs.FrameTable.{told, told_table, told_same, told_solves, told_good}
use Rattle.grid_bound.proofs.AllBanks as banking
use Rattle.grid_bound.proofs.DataTileAnswers.{StageAt, Held, Emptied}
use Rattle.grid_bound.proofs.AllDataTiles.{idle_tiles, fetch_waits, tiles_serve}
use Rattle.grid_bound.proofs.AllDataTiles as answering
use Rattle.grid_bound.proofs.UnitsByTile.{found_some}
use Rattle.grid_bound.proofs.Turned.{units_work}
use Rattle.grid_bound.proofs.OldestParcels as moved
use Rattle.grid_bound.proofs.UnitsKept.{banks_kept, answers_kept, arrivals_kept}
use Rattle.grid_bound.proofs.Idle.{idle_banks, idle_units}

-- the stage of the block that commits next, by the table of what its frame sees
abbrev pub stage_in : {W : Type 0} → Grid W → Stage
stage_in g = stage_of (course_in (committed g.window.state) g.window.frames) g g.window.frames

-- the stage where f is the oldest frame
pub stage_held : {W : Type 0} (g : Grid W) (f : Frame) (fs : List Frame) → g.window.frames ≡ f ∷ fs
    → stage_in g ≡ Running (front_of (course_of f.code (told (committed g.window.state) f)) g f)
stage_held g f fs i = ap (λ l. stage_of (course_in (committed g.window.state) l) g l) i
    ∙ ap (λ (t : ℕ → Answer). Running (front_of (course_of f.code t) g f))
    (sym (told_table (committed g.window.state) f))

-- and where no frame is in flight
pub stage_empty : {W : Type 0} (g : Grid W) → g.window.frames ≡ [] → stage_in g ≡ fetch_of g g.fetching
stage_empty g i = ap (λ l. stage_of (course_in (committed g.window.state) l) g l) i

module _ {W : Type 0} (blocks : List Block) (good : AllGood blocks) (budget : ℕ) (g h : Grid W)
    (ok : WindowOk blocks budget g.window)
    (went : g.window.over ≡ stepped.Went) (rule : CycleRule blocks budget g)
    (beyond : (t : ℕ) → 16 ≤ t → g.units t ≡ 0)
    (cycle : RestFirst blocks budget g h) where
  abbrev B : Grid W
  B = reads_answered blocks budget g

  abbrev C : Grid W
  C = answers blocks budget B

  abbrev D : Grid W
  D = works_on blocks budget C

  abbrev N : Grid W
  N = record D { units = cycle.units; parcels = cycle.parcels; weather = cycle.weather }

  to_b : Onward blocks budget g.window B.window
  to_b = banks_keep blocks budget (On blocks budget) (steady blocks budget good) (λ n. tt) tt g

  to_c : Onward blocks budget B.window C.window
  to_c = answers_keep blocks budget (On blocks budget) (steady blocks budget good) (λ n. tt) tt B

  to_d : Onward blocks budget C.window D.window
  to_d = works_keep blocks budget (On blocks budget) (steady blocks budget good) (λ n. tt) tt tt C

  to_h : Onward blocks budget D.window (arrivals blocks budget (numbers_of D.window.frames) N).window
  to_h = arrivals_keep blocks budget (On blocks budget) (steady blocks budget good) (λ n. tt)
      (numbers_of D.window.frames) N

  state_b : B.window.state ≡ g.window.state
  state_b = to_b.state

  state_c : C.window.state ≡ g.window.state
  state_c = to_c.state ∙ to_b.state

  state_h : h.window.state ≡ g.window.state
  state_h = ap (λ (k : Grid W). k.window.state) cycle.arrived ∙ to_h.state ∙ to_d.state ∙ state_c

  ok_b : WindowOk blocks budget B.window
  ok_b = to_b.ok ok

  ok_c : WindowOk blocks budget C.window
  ok_c = to_c.ok ok_b

  ok_d : WindowOk blocks budget D.window
  ok_d = to_d.ok ok_c

  went_b : B.window.over ≡ stepped.Went
  went_b = to_b.over ∙ went

  went_c : C.window.over ≡ stepped.Went
  went_c = to_c.over ∙ went_b

  went_d : D.window.over ≡ stepped.Went
  went_d = to_d.over ∙ went_c

  units_c : C.units ≡ g.units
  units_c = answers_kept blocks budget B ∙ banks_kept blocks budget g

  units_h : h.units ≡ cycle.units
  units_h = ap (λ (k : Grid W). k.units) cycle.arrived ∙ arrivals_kept blocks budget (numbers_of D.window.frames) N

  -- no unit is busy for longer than an operation takes
  pub units_few : (t : ℕ) → h.units t ≤ 24
  units_few t =
      let e : h.units t ≡ cycle.units t = ap (λ (u : ℕ → ℕ). u t) units_h in
      let l : cycle.units t ≤ 24 = cycle.held t in omega (arith, e, l)

  -- what the lane makes of a stage from part (3) on
  pub record Rest (s : Stage) : Type 0 where
    pub answered : Stage
    pub answers : TilesAnswer 4 (reading s) answered
    pub hold : ℕ → ℕ
    pub holds : (p : ℕ) → hold p ≤ 3
    pub own : (t : ℕ) → 1 ≤ own_units g.units answered t → h.units t ≡ own_units g.units answered t
    pub stage : stage_in h ≡ moving hold (turning g.units answered)

  -- no frame -------------------------------------------------------------------------------------------

  -- where none is in flight behind part (4)
  empty_rest : (s : Stage) (o : Option ℕ) (b : Bool) → TilesAnswer 4 (reading s) (lane.Fetching o b)
      → C.window.frames ≡ [] → fetch_of C C.fetching ≡ lane.Fetching o b → Rest s
  empty_rest s o b a i f = record {
    answered = lane.Fetching o b;
    answers = a;
    hold = λ p. 0;
    holds = λ p. omega arith;
    own = own;
    stage = stage_empty h none ∙ fetch;
  }
    where
      only : D ≡ record C { units = λ t. cond (nat_lt t 16) (C.units t - 1) (C.units t) }
      only = idle_units blocks budget 16 C i

      empty : D.window.frames ≡ []
      empty = ap (λ (k : Grid W). k.window.frames) only ∙ i

      still : arrivals blocks budget (numbers_of D.window.frames) N ≡ N
      still = ap (λ l. arrivals blocks budget (numbers_of l) N) empty

      none : h.window.frames ≡ []
      none = ap (λ (k : Grid W). k.window.frames) cycle.arrived ∙ ap (λ (k : Grid W). k.window.frames) still ∙ empty

      fetch : fetch_of h h.fetching ≡ lane.Fetching o b
      fetch = ap (λ (k : Grid W). fetch_of k k.fetching) cycle.arrived
          ∙ ap (λ (k : Grid W). fetch_of k k.fetching) still ∙ ap (λ (k : Grid W). fetch_of k k.fetching) only ∙ f

      own : (t : ℕ) → 1 ≤ less_one g.units t → h.units t ≡ less_one g.units t
      own t l = by (cases_lt t 16)
        where
          by : (t < 16) ⊎ (16 ≤ t) → h.units t ≡ less_one g.units t
          by (inr m) = absurd (let z = beyond t m in omega (arith, l, z))
          by (inl m) =
              let e : D.units t ≡ less_one g.units t = ap (λ (k : Grid W). k.units t) only
              ∙ cond-true (nat_lt t 16) _ _ (lt-ltb t 16 m) ∙ ap (λ (u : ℕ → ℕ). u t - 1) units_c in
              ap (λ (u : ℕ → ℕ). u t) units_h ∙ cycle.own t (subst (λ j. 1 ≤ j) (sym e) l) ∙ e

  -- without a frame in flight the lane makes of the fetch what the grid does from part (3) on
  pub waits : g.window.frames ≡ [] → Rest (fetch_of g g.fetching)
  waits i = by g.fetching refl
    where
      same_b : B ≡ g
      same_b = idle_banks blocks budget 4 g i

      same_c : C ≡ g
      same_c = ap (answers blocks budget) same_b ∙ idle_tiles blocks budget 4 g i

      fetch : fetch_of C C.fetching ≡ fetch_of g g.fetching
      fetch = ap (λ (k : Grid W). fetch_of k k.fetching) same_c

      none : C.window.frames ≡ []
      none = ap (λ (k : Grid W). k.window.frames) same_c ∙ i

      by : (x : Option Fetching) → g.fetching ≡ x → Rest (fetch_of g x)
      by None z = empty_rest (fetch_of g None) _ _ (fetch_waits 4 _ _) none (fetch ∙ ap (fetch_of g) z)
      by (Some x) z = empty_rest (fetch_of g (Some x)) _ _ (fetch_waits 4 _ _) none (fetch ∙ ap (fetch_of g) z)

  -- a frame --------------------------------------------------------------------------------------------

  module _ (x : Frame) (l : List Frame) (i : C.window.frames ≡ x ∷ l) (runs : x.sealed ≡ false) where
    abbrev o : Older
    o = committed C.window.state

    abbrev t : ℕ → Answer
    t = told o x

    abbrev c : Course
    c = course_of x.code t

    abbrev F : Front
    F = front_of c C x

    own_ok : FrameOk blocks o x
    own_ok = oldest_ok blocks budget C.window x l ok_c i

    works : Working c x C D
    works = units_work blocks good budget t C x l i ok_c went_c runs
        (record { seen = seen o x; agrees = seen_agrees o x; solves = told_solves blocks good o x own_ok })
        (λ k y m e s. rule.units k y m e s)

    abbrev y : Frame
    y = works.shows.frame

    rows : RowMoves (D.parcels y.number) (cycle.parcels y.number)
    rows = cycle.rows y works.shows.younger works.shows.frames

    -- the grid with the units that others have taken
    abbrev V : Grid W
    V = record D { units = cycle.units }

    move_rule : MoveRule V y
    move_rule =
        let r : MoveRule D y = rule.moves y works.shows.younger works.shows.frames works.shows.runs in
        record { rows = r.rows; slots = r.slots; reads = r.reads; asks = r.asks; numbered = r.numbered }

    lands : Shows c y (arrivals blocks budget (numbers_of D.window.frames) N) (move_front rows.hold (front_of c D y))
    lands = subst (λ (b : Block). Shows (course_of b t) y (arrivals blocks budget (numbers_of D.window.frames) N)
        (move_front rows.hold (front_of (course_of b t) D y))) works.shows.code
        (moved.arrivals_serve blocks good budget t y V move_rule rows.hold works.shows.younger works.shows.frames ok_d
        went_d works.shows.runs cycle.parcels
        cycle.weather rows.moves)

    abbrev z : Frame
    z = lands.frame

    frames_h : h.window.frames ≡ z ∷ lands.younger
    frames_h = ap (λ (k : Grid W). k.window.frames) cycle.arrived ∙ lands.frames

    course_h : course_of z.code (told (committed h.window.state) z) ≡ c
    course_h =
        let code : z.code ≡ x.code = lands.code ∙ works.shows.code in
        let stores : z.stores ≡ x.stores = lands.stores ∙ works.shows.stores in
        let older : committed h.window.state ≡ o = ap committed (state_h ∙ sym state_c) in
        ap₂ (λ (b : Block) (u : ℕ → Answer). course_of b u) code
        (ap (λ (e : Older). told e z) older ∙ told_same o z x code stores)

    front_h : front_of c h z
        ≡ move_front rows.hold (issue_front (less_one g.units) (finish_front (less_one g.units) F))
    front_h = ap (λ (k : Grid W). front_of c k z) cycle.arrived ∙ lands.front
        ∙ ap (move_front rows.hold) works.shows.front
        ∙ ap (λ (u : ℕ → ℕ). move_front rows.hold (issue_front (less_one u) (finish_front (less_one u) F))) units_c

    abbrev E : Front
    E = finish_front (less_one g.units) F

    own_h : (n : ℕ) → 1 ≤ own_units g.units (Running F) n → h.units n ≡ own_units g.units (Running F) n
    own_h n k = by (cases_lt n 16)
      where
        near : n < 16 → h.units n ≡ own_units g.units (Running F) n
        near m =
            let e : D.units n ≡ own_units g.units (Running F) n =
            subst (λ (u : ℕ → ℕ). 1 ≤ units_after (less_one u) (finish_front (less_one u) F) n
            → D.units n ≡ units_after (less_one u) (finish_front (less_one u) F) n) units_c (works.own n m) k in
            ap (λ (u : ℕ → ℕ). u n) units_h ∙ cycle.own n (subst (λ j. 1 ≤ j) (sym e) k) ∙ e

        far : 16 ≤ n → ⊥
        far m =
            let none : g.units n ≡ 0 = beyond n m in
            let free : units_after (less_one g.units) E n
            ≡ found E.course.room (λ v. issued (less_one g.units) E v && lane_tile E v == n)
            (λ v. (E.course.task v).latency) =
            cond-false (busy (less_one g.units) n) _ _ (le-ltb 0 (g.units n - 1) (omega (arith, none))) in
            let some = found_some E.course.room (λ v. issued (less_one g.units) E v && lane_tile E v == n)
            (λ v. (E.course.task v).latency) (subst (λ j. 1 ≤ j) free k) in
            let at : lane_tile E some.0 ≡ n =
            eqb-true (lane_tile E some.0) n (and_parts (issued (less_one g.units) E some.0)
            (lane_tile E some.0 == n) some.1).1 in
            let small : lane_tile E some.0 < 16 = ((told_good blocks good o x own_ok).by.good some.0).tile in
            omega (arith, at, small, m)

        by : (n < 16) ⊎ (16 ≤ n) → h.units n ≡ own_units g.units (Running F) n
        by (inl m) = near m
        by (inr m) = absurd (far m)

    -- where x is the oldest frame behind part (4)
    held_rest : (s : Stage) → TilesAnswer 4 (reading s) (Running F) → Rest s
    held_rest s a = record {
      answered = Running F;
      answers = a;
      hold = rows.hold;
      holds = rows.holds;
      own = own_h;
      stage = stage_held h z lands.younger frames_h
          ∙ ap Running (ap (λ (q : Course). front_of q h z) course_h ∙ front_h);
    }

  module _ (f : Frame) (fs : List Frame) (i : g.window.frames ≡ f ∷ fs) (runs : f.sealed ≡ false) where
    abbrev u : ℕ → Answer
    u = told (committed g.window.state) f

    abbrev filled : Course
    filled = course_of f.code u

    read : Shows filled f B (reads_front (front_of filled g f))
    read = banking.banks_serve blocks good budget u f g fs i ok went runs (rule.reads f fs i runs)

    abbrev e : Frame
    e = read.frame

    course_e : course_of e.code (told (committed B.window.state) e) ≡ filled
    course_e = ap₂ (λ (b : Block) (v : ℕ → Answer). course_of b v) read.code
        (ap (λ (q : State). told (committed q) e) state_b
        ∙ told_same (committed g.window.state) e f read.code read.stores)

    begin : front_of (course_of e.code (told (committed B.window.state) e)) B e ≡ reads_front (front_of filled g f)
    begin = ap (λ (q : Course). front_of q B e) course_e ∙ read.front

    answered : answering.AtTile blocks good budget e B read.younger read.frames ok_b went_b read.runs
        (λ d x l i s. rule.tiles d x l i s) 4
    answered = tiles_serve blocks good budget e B read.younger read.frames ok_b went_b read.runs
        (λ d x l i s. rule.tiles d x l i s) 4

    tiles : TilesAnswer 4 (reading (Running (front_of filled g f))) answered.stage
    tiles = subst (λ (v : Front). TilesAnswer 4 (Running v) answered.stage) begin answered.answered

    behind_tiles : StageAt (committed B.window.state) e C answered.stage → Rest (Running (front_of filled g f))
    behind_tiles (Held x l j n k r z) = held_rest x l j r (Running (front_of filled g f))
        (subst (λ s. TilesAnswer 4 (reading (Running (front_of filled g f))) s)
        (z ∙ ap (λ (q : State). Running (front_of (course_of x.code (told (committed q) x)) C x)) (sym to_c.state))
        tiles)
    behind_tiles (Emptied j z w) = empty_rest (Running (front_of filled g f)) None true
        (subst (λ s. TilesAnswer 4 (reading (Running (front_of filled g f))) s) z tiles) j w

    -- where f is the oldest frame behind part (2)
    pub goes_on : Rest (Running (front_of filled g f))
    goes_on = behind_tiles answered.seen
