-- What is logged of the parts of a cycle makes what is logged of a cycle.
use Rattle.std.proofs.Common.{◌≡◌, ℕ, ◌+◌, List, [], ◌∷◌, ◌++◌, refl, sym, ap, ◌∙◌, subst}
use Rattle.trips_isa.specs.declared.block.Block.{Block}
use Rattle.trips_isa.specs.declared.run.Stepped.{Stepped}
use Rattle.trips_isa.specs.declared.run.Stepped.TheVariants as stepped
use Rattle.grid_cycle_spec.specs.Grid.{Grid}
use Rattle.grid_cycle_spec.specs.Banks.{reads_answered}
use Rattle.grid_cycle_spec.specs.DataTiles.{answers}
use Rattle.grid_cycle_spec.specs.Ends.{ends}
use Rattle.grid_cycle_spec.specs.Fetches.{fetches}
use Rattle.grid_cycle_spec.specs.Cycles.{Eager, acts, counted}
use Rattle.grid_events.specs.Notes.{Note}
use Rattle.grid_events.specs.Parts.{acts_notes, answers_notes, ends_notes, fetches_notes, reads_notes, works_notes}
use Rattle.grid_events.specs.Cycles.{Goes, NotedFollows, moves_notes}
use Rattle.grid_events.proofs.Runs.{is_eager}
use Rattle.grid_log.specs.declared.log.Log.{Log}
use Rattle.grid_log.specs.Logs.{Logged, at_cycle}
use Rattle.grid_log.specs.Cycles.{GoesLogged, IsLogged}
use Rattle.grid_log.specs.inside.Moving.{MovesLogged}
use Rattle.grid_log.proofs.Logging.{logged_both, logged_none}

module _ {W : Type 0} (blocks : List Block) (budget : ℕ) where
  -- parts (2) to (5)
  pub acts_logged : (g x y z : Grid W) (a b c d e : Log) → x ≡ fetches blocks budget g
      → y ≡ reads_answered blocks budget x → z ≡ answers blocks budget y
      → Logged a (fetches_notes blocks budget g) b → Logged b (reads_notes blocks budget x) c
      → Logged c (answers_notes blocks budget y) d → Logged d (works_notes blocks budget z) e
      → Logged a (acts_notes blocks budget g) e
  acts_logged g x y z a b c d e f i j fetch read answer work =
      let g2 : Grid W = fetches blocks budget g in
      let g3 : Grid W = reads_answered blocks budget g2 in
      let g4 : Grid W = answers blocks budget g3 in
      let y3 : y ≡ g3 = i ∙ ap (reads_answered blocks budget) f in
      let z4 : z ≡ g4 = j ∙ ap (answers blocks budget) y3 in
      logged_both a b e (fetches_notes blocks budget g)
      (reads_notes blocks budget g2 ++ (answers_notes blocks budget g3 ++ works_notes blocks budget g4)) fetch
      (logged_both b c e (reads_notes blocks budget g2) (answers_notes blocks budget g3 ++ works_notes blocks budget
      g4)
      (subst (λ (k : Grid W). Logged b (reads_notes blocks budget k) c) f read)
      (logged_both c d e (answers_notes blocks budget g3) (works_notes blocks budget g4)
      (subst (λ (k : Grid W). Logged c (answers_notes blocks budget k) d) y3 answer)
      (subst (λ (k : Grid W). Logged d (works_notes blocks budget k) e) z4 work)))

module _ {W : Type 0} (next : W → ℕ) (follows : W → W → Type 0) (blocks : List Block) (budget : ℕ) where
  -- part (6) of the same grid, image and budget
  pub moves_same : (bs : List Block) (b : ℕ) (m n h : Grid W) (x y : Log) → bs ≡ blocks → b ≡ budget → m ≡ n
      → MovesLogged next follows bs b m h x y → MovesLogged next follows blocks budget n h x y
  moves_same bs b m n h x y e f i moves =
      subst (λ k. MovesLogged next follows blocks budget k h x y) i
      (subst (λ k. MovesLogged next follows blocks k m h x y) f
      (subst (λ k. MovesLogged next follows k b m h x y) e moves))

  -- parts (2) to (6)
  pub logged_goes : (m h : Grid W) (a b c : Log) → Logged a (acts_notes blocks budget m) b
      → MovesLogged next follows blocks budget (acts blocks budget m) h b c
      → GoesLogged next follows blocks budget m h a c
  logged_goes m h a b c acted moved = record {
    notes = acts_notes blocks budget m
        ++ moves_notes blocks budget (acts blocks budget m) moved.moves.parcels moved.moves.weather;
    goes = record { moves = moved.moves; told = refl };
    logged = logged_both a b c (acts_notes blocks budget m)
        (moves_notes blocks budget (acts blocks budget m) moved.moves.parcels moved.moves.weather) acted moved.logged;
  }

  -- the same parts over another image and budget that are these
  pub goes_same : (bs : List Block) (b : ℕ) (m h : Grid W) (x y : Log) → bs ≡ blocks → b ≡ budget
      → GoesLogged next follows bs b m h x y → GoesLogged next follows blocks budget m h x y
  goes_same bs b m h x y e f goes =
      subst (λ k. GoesLogged next follows blocks k m h x y) f
      (subst (λ k. GoesLogged next follows k b m h x y) e goes)

  -- a whole cycle, by what follows part (1)
  logged_by : (o : Stepped) (g h : Grid W) (a b c : Log) (rest : List Note)
      → o ≡ (ends blocks budget g).window.over
      → Logged (at_cycle (g.counts.cycles + 1) a) (ends_notes blocks budget g) b
      → NotedFollows o next follows blocks budget (ends blocks budget g) rest h → Logged b rest c
      → IsLogged next follows blocks budget g h a c
  logged_by o g h a b c rest is ended cycle told = record {
    notes = ends_notes blocks budget g ++ rest;
    noted = record {
      rest = rest;
      told = refl;
      cycle = subst (λ (s : Stepped). NotedFollows s next follows blocks budget (ends blocks budget g) rest h) is
          cycle;
    };
    logged = logged_both (at_cycle (g.counts.cycles + 1) a) b c (ends_notes blocks budget g) rest ended told;
  }

  -- a cycle that goes on
  pub logged_on : (g m h : Grid W) (a b c : Log) → m ≡ ends blocks budget g → stepped.Went ≡ m.window.over
      → Logged (at_cycle (g.counts.cycles + 1) a) (ends_notes blocks budget g) b
      → GoesLogged next follows blocks budget m h b c
      → IsLogged next follows blocks budget g h a c
  logged_on g m h a b c e over ended goes =
      logged_by stepped.Went g h a b c goes.notes (over ∙ ap (λ (x : Grid W). x.window.over) e) ended
      (subst (λ (x : Grid W). Goes next follows blocks budget x goes.notes h) e goes.goes) goes.logged

  -- a cycle in which the run ends
  pub logged_last : (o : Stepped) (g m h : Grid W) (a b : Log) → m ≡ ends blocks budget g → o ≡ m.window.over
      → Logged (at_cycle (g.counts.cycles + 1) a) (ends_notes blocks budget g) b
      → ((x : Grid W) → h ≡ counted x → NotedFollows o next follows blocks budget x [] h) → h ≡ counted m
      → IsLogged next follows blocks budget g h a b
  logged_last o g m h a b e over ended rests is =
      logged_by o g h a b b [] (over ∙ ap (λ (x : Grid W). x.window.over) e) ended
      (rests (ends blocks budget g) (is ∙ ap counted e)) (logged_none b [] (λ s. refl))

  -- a cycle that is logged is eager
  pub logged_eager : (g h : Grid W) (a b : Log) → IsLogged next follows blocks budget g h a b
      → Eager next follows blocks budget g h
  logged_eager g h a b c = is_eager next follows blocks budget g h c.notes c.noted
