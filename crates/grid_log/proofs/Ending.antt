-- What is logged of the ends of frames.
use Rattle.std.proofs.Common.{◌≡◌, ℕ, ◌==◌, Bool, true, false, cond, List, [], ◌∷◌, ◌++◌, length}
use Rattle.std.proofs.Common.{Option, Some, None, refl, sym, ap, ap₂, ◌∙◌, subst}
use Rattle.trips_isa.specs.declared.block.Block.{Block}
use Rattle.trips_isa.specs.declared.run.Stepped.{Stepped}
use Rattle.trips_isa.specs.declared.run.Stepped.TheVariants as stepped
use Rattle.commit_flush_spec.specs.Frames.{Exit, Frame}
use Rattle.commit_flush_spec.specs.Window.{Window, happens}
use Rattle.commit_flush_spec.specs.Window as window
use Rattle.grid_cycle_spec.specs.Grid.{Grid, Fetching, forget, numbers_of}
use Rattle.grid_cycle_spec.specs.Acting.{may}
use Rattle.grid_cycle_spec.specs.Ends.{commit_in, commit_oldest, committed_as, learning, one_committed, seal_each}
use Rattle.grid_cycle_spec.specs.Ends.{seal_one}
use Rattle.grid_events.specs.Notes.{Note, End}
use Rattle.grid_events.specs.Notes as note
use Rattle.grid_events.specs.Plays.{block_of}
use Rattle.grid_events.specs.EndNotes.{commit_in_notes, commit_notes, committed_notes, ended_as, ends_notes, seal_notes}
use Rattle.grid_events.specs.EndNotes.{seals_notes, trap_flushes}
use Rattle.grid_log.specs.declared.log.Log.{Log}
use Rattle.grid_log.specs.Logs.{Logged}
use Rattle.grid_log.specs.inside.Telling.{ended_by, given_up, oldest}
use Rattle.grid_log.proofs.Logging.{logged_both, logged_none}
use Rattle.grid_log.proofs.Flushing.{flushes_by, given_by}

-- how a frame ends is told by its number and its block, and by the numbers of those that a trap flushes
ended_is : (s : Stepped) (f : Frame) (fs : List Frame)
    → ended_as s f ∷ trap_flushes s (f ∷ fs) ≡ ended_by s f.number f.block (numbers_of (f ∷ fs))
ended_is stepped.Went f fs = refl
ended_is stepped.Ended f fs = refl
ended_is stepped.StackFull f fs = refl
ended_is (stepped.Trap c) f fs =
    ap (λ (es : List Note). note.Traps f.number f.block ∷ es) (flushes_by End (f ∷ fs))

learning_window : {W : Type 0} (f : Frame) (o : Option Exit) (g : Grid W) → (learning f o g).window ≡ g.window
learning_window f None g = refl
learning_window f (Some e) g = refl

-- what goes with a frame that commits leaves the window
committed_window : {W : Type 0} (s : Stepped) (f : Frame) (fs : List Frame) (g : Grid W)
    → (committed_as s f fs g).window ≡ g.window
committed_window stepped.Went f fs g =
    learning_window f f.exit (record g { counts = one_committed g.counts })
committed_window stepped.Ended f fs g =
    learning_window f f.exit (record g { counts = one_committed g.counts })
committed_window stepped.StackFull f fs g =
    learning_window f f.exit (record g { counts = one_committed g.counts })
committed_window (stepped.Trap c) f fs g = refl

abbrev pair_or : Option (ℕ × ℕ) → ℕ × ℕ
pair_or None = (0, 0)
pair_or (Some p) = p

module _ {W : Type 0} (blocks : List Block) (budget : ℕ) where
  -- one frame more of some is sealed
  pub one_sealed : (n : ℕ) (ns : List ℕ) (g h : Grid W) (x y z : Log) → h ≡ seal_one blocks budget n g
      → Logged x (seal_notes blocks budget n g) y → Logged y (seals_notes blocks budget ns h) z
      → Logged x (seals_notes blocks budget (n ∷ ns) g) z
  one_sealed n ns g h x y z is one rest =
      logged_both x y z (seal_notes blocks budget n g) (seals_notes blocks budget ns (seal_one blocks budget n g)) one
      (subst (λ (k : Grid W). Logged y (seals_notes blocks budget ns k) z) is rest)

  -- no frame commits
  pub not_committed : (g : Grid W) (a : Log) → may blocks budget window.Commit g ≡ false
      → Logged a (commit_notes blocks budget g) a
  not_committed g a off = subst (λ es. Logged a es a)
      (sym (ap (λ k. cond k (commit_in_notes blocks budget g.window.frames g) []) off)) (logged_none a [] (λ c. refl))

  -- none is in flight
  pub none_committed : (g : Grid W) (a : Log) → may blocks budget window.Commit g ≡ true
      → None ≡ oldest g.window.frames → Logged a (commit_notes blocks budget g) a
  none_committed g a may_so none = go g.window.frames refl none
    where
      go : (fs : List Frame) → g.window.frames ≡ fs → None ≡ oldest fs → Logged a (commit_notes blocks budget g) a
      go (f ∷ fs) e away = absurd (let z = away in cc)
      go [] e away = subst (λ es. Logged a es a)
          (sym (ap (λ k. cond k (commit_in_notes blocks budget g.window.frames g) []) may_so
          ∙ ap (λ xs. commit_in_notes blocks budget xs g) e)) (logged_none a [] (λ c. refl))

  -- the oldest frame commits, or traps
  pub commit_logged : (g h : Grid W) (a b : Log) (p : ℕ × ℕ) (ns : List ℕ) (before : Option (ℕ × Bool))
      → h ≡ commit_oldest blocks budget g → may blocks budget window.Commit g ≡ true
      → Some p ≡ oldest g.window.frames → ns ≡ numbers_of g.window.frames → before ≡ block_of g.fetching
      → Logged a (ended_by h.window.over p.0 p.1 ns ++ given_up before (block_of h.fetching)) b
      → Logged a (commit_notes blocks budget g) b
  commit_logged g h a b p ns before is may_so first named fetch logged = go g.window.frames refl first named
    where
      go : (fs : List Frame) → g.window.frames ≡ fs → Some p ≡ oldest fs → ns ≡ numbers_of fs
          → Logged a (commit_notes blocks budget g) b
      go [] e some numbers = absurd (let z = some in cc)
      go (f ∷ fs) e some numbers =
          let after : Window = happens blocks budget window.Commit g.window in
          let m : Grid W = record g { window = after } in
          let s : Stepped = after.over in
          let last : Option Fetching = (committed_as s f fs m).fetching in
          let here : h ≡ committed_as s f fs m =
          is ∙ ap (λ k. cond k (commit_in blocks budget g.window.frames g) g) may_so
          ∙ ap (λ xs. commit_in blocks budget xs g) e in
          let over : h.window.over ≡ s =
          ap (λ (x : Grid W). x.window.over) here ∙ ap (λ (w : Window). w.over) (committed_window s f fs m) in
          let end : List Note = given_up before (block_of h.fetching) in
          subst (λ es. Logged a es b)
          (ap (λ (t : Stepped). ended_by t p.0 p.1 ns ++ end) over
          ∙ ap (λ (q : ℕ × ℕ). ended_by s q.0 q.1 ns ++ end) (ap pair_or some)
          ∙ ap (λ (ms : List ℕ). ended_by s f.number f.block ms ++ end) numbers
          ∙ ap (λ (es : List Note). es ++ end) (sym (ended_is s f fs))
          ∙ ap (λ (es : List Note). (ended_as s f ∷ trap_flushes s (f ∷ fs)) ++ es)
          (ap₂ given_up fetch (ap (λ (x : Grid W). block_of x.fetching) here) ∙ sym (given_by g.fetching last))
          ∙ sym (ap (λ k. cond k (commit_in_notes blocks budget g.window.frames g) []) may_so
          ∙ ap (λ xs. commit_in_notes blocks budget xs g) e))
          logged

  -- part (1)
  pub ends_logged : (ns : List ℕ) (g m : Grid W) (a x b : Log) → ns ≡ numbers_of g.window.frames
      → m ≡ seal_each blocks budget ns g → Logged a (seals_notes blocks budget ns g) x
      → Logged x (commit_notes blocks budget m) b → Logged a (ends_notes blocks budget g) b
  ends_logged ns g m a x b named is one rest =
      let all : List ℕ = numbers_of g.window.frames in
      logged_both a x b (seals_notes blocks budget all g) (commit_notes blocks budget (seal_each blocks budget all g))
      (subst (λ ms. Logged a (seals_notes blocks budget ms g) x) named one)
      (subst (λ (k : Grid W). Logged x (commit_notes blocks budget k) b)
      (is ∙ ap (λ ms. seal_each blocks budget ms g) named) rest)
