-- What is heard of the parts of a cycle makes what is heard of a cycle.
use Rattle.std.proofs.Common.{◌≡◌, ℕ, List, [], ◌++◌, refl, ap, ◌∙◌, subst}
use Rattle.trips_isa.specs.declared.block.Block.{Block}
use Rattle.trips_isa.specs.declared.run.Stepped.{Stepped}
use Rattle.trips_isa.specs.declared.run.Stepped.TheVariants as stepped
use Rattle.grid_cycle_spec.specs.Grid.{Grid}
use Rattle.grid_cycle_spec.specs.Banks.{reads_answered}
use Rattle.grid_cycle_spec.specs.DataTiles.{answers}
use Rattle.grid_cycle_spec.specs.Ends.{ends}
use Rattle.grid_cycle_spec.specs.Fetches.{fetches}
use Rattle.grid_cycle_spec.specs.Cycles.{Eager, acts, counted}
use Rattle.grid_events.specs.Notes.{Note}
use Rattle.grid_events.specs.Parts.{acts_notes, answers_notes, ends_notes, fetches_notes}
use Rattle.grid_events.specs.Parts.{reads_notes, works_notes}
use Rattle.grid_events.specs.Cycles.{Goes, NotedFollows, moves_notes}
use Rattle.grid_events.proofs.Runs.{is_eager}
use Rattle.grid_tallies.specs.declared.counters.Counters.{Counters}
use Rattle.grid_tallies.specs.declared.guess_table.Guesses.{Guesses}
use Rattle.grid_tallies.specs.declared.tallies.Tallies.{Tallies}
use Rattle.grid_tallies.specs.Counters.{Hears}
use Rattle.grid_tallies.specs.Predictions.{Guessed}
use Rattle.grid_tallies.specs.Statistics.{Heard}
use Rattle.grid_tallies.specs.Cycles.{GoesCounted, IsCounted}
use Rattle.grid_tallies.specs.inside.Moving.{MovesCounted}
use Rattle.grid_tallies.proofs.Guessing.{guessed_both, guessed_none}
use Rattle.grid_tallies.proofs.Hearing.{hears_both, hears_none}
use Rattle.grid_tallies.proofs.Quiet.{quiet_answers, quiet_both, quiet_ends, quiet_reads, quiet_works}
use Rattle.grid_tallies.proofs.Tallying.{heard_both}

module _ {W : Type 0} (blocks : List Block) (budget : ℕ) where
  -- parts (2) to (5)
  acts_heard : (g x y z : Grid W) (a b r c d : Tallies) → x ≡ fetches blocks budget g
      → y ≡ reads_answered blocks budget x → z ≡ answers blocks budget y
      → Heard a (fetches_notes blocks budget g) b → Heard b (reads_notes blocks budget x) r
      → Heard r (answers_notes blocks budget y) c → Heard c (works_notes blocks budget z) d
      → Heard a (acts_notes blocks budget g) d
  acts_heard g x y z a b r c d e f i fetch read answer work =
      let g2 : Grid W = fetches blocks budget g in
      let g3 : Grid W = reads_answered blocks budget g2 in
      let g4 : Grid W = answers blocks budget g3 in
      let y3 : y ≡ g3 = f ∙ ap (reads_answered blocks budget) e in
      let z4 : z ≡ g4 = i ∙ ap (answers blocks budget) y3 in
      heard_both a b d (fetches_notes blocks budget g)
      (reads_notes blocks budget g2 ++ (answers_notes blocks budget g3 ++ works_notes blocks budget g4)) fetch
      (heard_both b r d (reads_notes blocks budget g2) (answers_notes blocks budget g3 ++ works_notes blocks budget
      g4)
      (subst (λ (k : Grid W). Heard b (reads_notes blocks budget k) r) e read)
      (heard_both r c d (answers_notes blocks budget g3) (works_notes blocks budget g4)
      (subst (λ (k : Grid W). Heard r (answers_notes blocks budget k) c) y3 answer)
      (subst (λ (k : Grid W). Heard c (works_notes blocks budget k) d) z4 work)))

  -- of guesses part (2) alone tells
  acts_guessed : (g : Grid W) (a b : Guesses) → Guessed a (fetches_notes blocks budget g) b
      → Guessed a (acts_notes blocks budget g) b
  acts_guessed g a b fetch =
      let g2 : Grid W = fetches blocks budget g in
      let g3 : Grid W = reads_answered blocks budget g2 in
      let g4 : Grid W = answers blocks budget g3 in
      let rest : List Note = reads_notes blocks budget g2
      ++ (answers_notes blocks budget g3 ++ works_notes blocks budget g4) in
      guessed_both a b b (fetches_notes blocks budget g) rest fetch (guessed_none b rest
      (quiet_both (reads_notes blocks budget g2) (answers_notes blocks budget g3 ++ works_notes blocks budget g4)
      (quiet_reads blocks budget g2)
      (quiet_both (answers_notes blocks budget g3) (works_notes blocks budget g4) (quiet_answers blocks budget g3)
      (quiet_works blocks budget g4))))

  -- parts (2) to (5), each heard where it is counted
  pub acts_hear : (g x y z : Grid W) (a b : Counters) (r c d : Tallies) → x ≡ fetches blocks budget g
      → y ≡ reads_answered blocks budget x → z ≡ answers blocks budget y
      → Hears a (fetches_notes blocks budget g) b → Heard b.tallies (reads_notes blocks budget x) r
      → Heard r (answers_notes blocks budget y) c → Heard c (works_notes blocks budget z) d
      → Hears a (acts_notes blocks budget g) (record { tallies = d; guesses = b.guesses })
  acts_hear g x y z a b r c d e f i fetch read answer work = record {
    tallies = acts_heard g x y z a.tallies b.tallies r c d e f i fetch.tallies read answer work;
    guesses = acts_guessed g a.guesses b.guesses fetch.guesses;
  }

  -- part (1), heard where it is counted
  pub ends_hear : (g : Grid W) (a : Counters) (b : Tallies) → Heard a.tallies (ends_notes blocks budget g) b
      → Hears a (ends_notes blocks budget g) (record { tallies = b; guesses = a.guesses })
  ends_hear g a b heard = record {
    tallies = heard;
    guesses = guessed_none a.guesses (ends_notes blocks budget g) (quiet_ends blocks budget g);
  }

module _ {W : Type 0} (next : W → ℕ) (follows : W → W → Type 0) (blocks : List Block) (budget : ℕ) where
  -- part (6) of the same grid, image and budget
  pub moves_same : (bs : List Block) (b : ℕ) (m n h : Grid W) (x y : Counters) → bs ≡ blocks → b ≡ budget → m ≡ n
      → MovesCounted next follows bs b m h x y → MovesCounted next follows blocks budget n h x y
  moves_same bs b m n h x y e f i moves =
      subst (λ k. MovesCounted next follows blocks budget k h x y) i
      (subst (λ k. MovesCounted next follows blocks k m h x y) f
      (subst (λ k. MovesCounted next follows k b m h x y) e moves))

  -- parts (2) to (6)
  pub goes_counted : (m h : Grid W) (a b c : Counters) → Hears a (acts_notes blocks budget m) b
      → MovesCounted next follows blocks budget (acts blocks budget m) h b c
      → GoesCounted next follows blocks budget m h a c
  goes_counted m h a b c acted moved = record {
    notes = acts_notes blocks budget m
        ++ moves_notes blocks budget (acts blocks budget m) moved.moves.parcels moved.moves.weather;
    goes = record { moves = moved.moves; told = refl };
    heard = hears_both a b c (acts_notes blocks budget m)
        (moves_notes blocks budget (acts blocks budget m) moved.moves.parcels moved.moves.weather) acted moved.heard;
  }

  -- the same parts over another image and budget that are these
  pub goes_same : (bs : List Block) (b : ℕ) (m h : Grid W) (x y : Counters) → bs ≡ blocks → b ≡ budget
      → GoesCounted next follows bs b m h x y → GoesCounted next follows blocks budget m h x y
  goes_same bs b m h x y e f goes =
      subst (λ k. GoesCounted next follows blocks k m h x y) f
      (subst (λ k. GoesCounted next follows k b m h x y) e goes)

  -- a whole cycle, by what follows part (1)
  counted_by : (o : Stepped) (g h : Grid W) (a b c : Counters) (rest : List Note)
      → o ≡ (ends blocks budget g).window.over → Hears a (ends_notes blocks budget g) b
      → NotedFollows o next follows blocks budget (ends blocks budget g) rest h → Hears b rest c
      → IsCounted next follows blocks budget g h a c
  counted_by o g h a b c rest is ended cycle heard = record {
    notes = ends_notes blocks budget g ++ rest;
    noted = record {
      rest = rest;
      told = refl;
      cycle = subst (λ (s : Stepped). NotedFollows s next follows blocks budget (ends blocks budget g) rest h) is
          cycle;
    };
    heard = hears_both a b c (ends_notes blocks budget g) rest ended heard;
  }

  -- a cycle that goes on
  pub counted_on : (g m h : Grid W) (a b c : Counters) → m ≡ ends blocks budget g → stepped.Went ≡ m.window.over
      → Hears a (ends_notes blocks budget g) b → GoesCounted next follows blocks budget m h b c
      → IsCounted next follows blocks budget g h a c
  counted_on g m h a b c e over ended goes =
      counted_by stepped.Went g h a b c goes.notes (over ∙ ap (λ (x : Grid W). x.window.over) e) ended
      (subst (λ (x : Grid W). Goes next follows blocks budget x goes.notes h) e goes.goes) goes.heard

  -- a cycle in which the run ends
  pub counted_last : (o : Stepped) (g m h : Grid W) (a b : Counters) → m ≡ ends blocks budget g → o ≡ m.window.over
      → Hears a (ends_notes blocks budget g) b
      → ((x : Grid W) → h ≡ counted x → NotedFollows o next follows blocks budget x [] h) → h ≡ counted m
      → IsCounted next follows blocks budget g h a b
  counted_last o g m h a b e over ended rests is =
      counted_by o g h a b b [] (over ∙ ap (λ (x : Grid W). x.window.over) e) ended
      (rests (ends blocks budget g) (is ∙ ap counted e)) (hears_none b [] (λ s. refl) refl)

  -- a cycle that is counted is eager
  pub counted_eager : (g h : Grid W) (a b : Counters) → IsCounted next follows blocks budget g h a b
      → Eager next follows blocks budget g h
  counted_eager g h a b c = is_eager next follows blocks budget g h c.notes c.noted
