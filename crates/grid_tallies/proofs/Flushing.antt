-- What the notes of the ends of frames and of arrivals count for: their flushes, and nothing else.
use Rattle.std.proofs.Common.{◌≡◌, ℕ, zero, suc, ◌-◌, ◌/◌, ◌==◌, Bool, true, false, cond, nat_lt, List, []}
use Rattle.std.proofs.Common.{◌∷◌, ◌++◌}
use Rattle.std.proofs.Common.{Option, Some, None, refl, sym, ap, subst, arith}
use Rattle.trips_isa.specs.declared.block.Block.{Block}
use Rattle.trips_isa.specs.declared.block.Inst.{Inst}
use Rattle.trips_isa.specs.declared.form.Form.{Form}
use Rattle.trips_isa.specs.declared.form.Form.TheVariants as form
use Rattle.trips_isa.specs.declared.run.Stepped.{Stepped}
use Rattle.trips_isa.specs.declared.run.Stepped.TheVariants as stepped
use Rattle.trips_isa.specs.Forms.{form_of}
use Rattle.block_cases.specs.Orders.{slot_of}
use Rattle.operand_net.specs.inside.Places.{come, without}
use Rattle.operand_net.specs.declared.parcel.Parcel.{Parcel}
use Rattle.commit_flush_spec.specs.Frames.{Frame, at, first_read_place}
use Rattle.commit_flush_spec.specs.Window.{Window, happens}
use Rattle.commit_flush_spec.specs.Window as window
use Rattle.grid_cycle_spec.specs.Grid.{Grid, numbers_of}
use Rattle.grid_cycle_spec.specs.Acting.{act, gone, may}
use Rattle.grid_cycle_spec.specs.Choosing.{each}
use Rattle.grid_cycle_spec.specs.Ends.{committed_as, ends, seal_each, seal_one}
use Rattle.grid_cycle_spec.specs.inside.Choosing.{places}
use Rattle.grid_cycle_spec.specs.inside.Arrivals.{arrival, arrivals, is_waiting}
use Rattle.grid_events.specs.Notes.{Note, WrongExit, End}
use Rattle.grid_events.specs.Notes as note
use Rattle.grid_events.specs.Counts.{tally, flushed}
use Rattle.grid_events.specs.Turns.{of_each, of_frame, flushes, gives_up}
use Rattle.grid_events.specs.Parts as part
use Rattle.grid_events.specs.Laws.{Tells}
use Rattle.grid_events.proofs.Walk.{arrivals_keep, ends_keep}
use Rattle.grid_events.proofs.Telling.{keeps}
use Rattle.grid_tallies.specs.declared.statistic.Statistic.{Statistic}
use Rattle.grid_tallies.specs.declared.statistic.Statistic.TheVariants as statistic
use Rattle.grid_tallies.specs.declared.tallies.Tallies.{Tallies}
use Rattle.grid_tallies.specs.Statistics.{Heard}
use Rattle.grid_tallies.specs.inside.Adding.{Adds, Only, OnlyFlushes}
use Rattle.grid_tallies.proofs.Tallying.{heard_adds}
use Rattle.grid_tallies.proofs.Weighed.{flushes_both, flushes_given, flushes_none, flushes_only}

module _ (k : Statistic) where
  flushes_empty : OnlyFlushes k []
  flushes_empty = flushes_none k [] (λ s. refl) refl

  flushes_either : (b : Bool) (es fs : List Note) → OnlyFlushes k es → OnlyFlushes k fs → OnlyFlushes k (cond b es fs)
  flushes_either true es fs x y = x
  flushes_either false es fs x y = y

  flushes_frame : (n : ℕ) (notes : Frame → List Note) → ((f : Frame) → OnlyFlushes k (notes f)) → (fs : List Frame)
      → OnlyFlushes k (of_frame n notes fs)
  flushes_frame n notes only [] = flushes_empty
  flushes_frame n notes only (f ∷ fs) = flushes_either (f.number == n) (notes f) (of_frame n notes fs) (only f)
      (flushes_frame n notes only fs)

  flushes_each : {A : Type 0} (turn : ℕ → A → A) (notes : ℕ → A → List Note)
      → ((n : ℕ) (g : A) → OnlyFlushes k (notes n g)) → (n : ℕ) (g : A) → OnlyFlushes k (of_each turn notes n g)
  flushes_each turn notes only zero g = flushes_empty
  flushes_each turn notes only (suc n) g = flushes_both k (of_each turn notes n g) (notes n (each turn n g))
      (flushes_each turn notes only n g) (only n (each turn n g))

-- part (1) -----------------------------------------------------------------------------------------

ending : (s : Stepped) (f : Frame) → OnlyFlushes statistic.Ends (part.ended_as s f ∷ [])
ending stepped.Went f = flushes_none statistic.Ends (note.Commits f.number f.block ∷ []) (λ s. refl) refl
ending stepped.Ended f = flushes_none statistic.Ends (note.Commits f.number f.block ∷ []) (λ s. refl) refl
ending stepped.StackFull f = flushes_none statistic.Ends (note.Commits f.number f.block ∷ []) (λ s. refl) refl
ending (stepped.Trap c) f = flushes_none statistic.Ends (note.Traps f.number f.block ∷ []) (λ s. refl) refl

trapping : (s : Stepped) (fs : List Frame) → OnlyFlushes statistic.Ends (part.trap_flushes s fs)
trapping stepped.Went fs = flushes_empty statistic.Ends
trapping stepped.Ended fs = flushes_empty statistic.Ends
trapping stepped.StackFull fs = flushes_empty statistic.Ends
trapping (stepped.Trap c) fs = flushes_only End fs

module _ {W : Type 0} (blocks : List Block) (budget : ℕ) where
  sealing : (n : ℕ) (g : Grid W) → OnlyFlushes statistic.Ends (part.seal_notes blocks budget n g)
  sealing n g = flushes_either statistic.Ends (may blocks budget (window.Seal n) g) (note.Seals n ∷ []) []
      (flushes_none statistic.Ends (note.Seals n ∷ []) (λ s. refl) refl) (flushes_empty statistic.Ends)

  sealings : (ns : List ℕ) (g : Grid W) → OnlyFlushes statistic.Ends (part.seals_notes blocks budget ns g)
  sealings [] g = flushes_empty statistic.Ends
  sealings (n ∷ ns) g = flushes_both statistic.Ends (part.seal_notes blocks budget n g)
      (part.seals_notes blocks budget ns (seal_one blocks budget n g)) (sealing n g)
      (sealings ns (seal_one blocks budget n g))

  committing : (s : Stepped) (f : Frame) (fs : List Frame) (g : Grid W)
      → OnlyFlushes statistic.Ends (part.committed_notes s f fs g)
  committing s f fs g =
      let us : List Note = gives_up g.fetching (committed_as s f fs g).fetching in
      flushes_both statistic.Ends (part.ended_as s f ∷ []) (part.trap_flushes s (f ∷ fs) ++ us) (ending s f)
      (flushes_both statistic.Ends (part.trap_flushes s (f ∷ fs)) us (trapping s (f ∷ fs))
      (flushes_given statistic.Ends g.fetching (committed_as s f fs g).fetching))

  committing_in : (fs : List Frame) (g : Grid W) → OnlyFlushes statistic.Ends
      (part.commit_in_notes blocks budget fs g)
  committing_in [] g = flushes_empty statistic.Ends
  committing_in (f ∷ fs) g =
      let after : Window = happens blocks budget window.Commit g.window in
      committing after.over f fs (record g { window = after })

  ends_only : (g : Grid W) → OnlyFlushes statistic.Ends (part.ends_notes blocks budget g)
  ends_only g =
      let m : Grid W = seal_each blocks budget (numbers_of g.window.frames) g in
      flushes_both statistic.Ends (part.seals_notes blocks budget (numbers_of g.window.frames) g)
      (part.commit_notes blocks budget m) (sealings (numbers_of g.window.frames) g)
      (flushes_either statistic.Ends (may blocks budget window.Commit m)
      (part.commit_in_notes blocks budget m.window.frames m) [] (committing_in m.window.frames m)
      (flushes_empty statistic.Ends))

  -- part (1) is heard where its flushes are counted
  pub ends_heard : (g h : Grid W) (by : ℕ) (a b : Tallies) → h ≡ ends blocks budget g
      → by ≡ h.counts.flushed - g.counts.flushed → Adds statistic.Ends by a b
      → Heard a (part.ends_notes blocks budget g) b
  ends_heard g h by a b is many adds =
      let t : Tells blocks budget g (part.ends_notes blocks budget g) (ends blocks budget g) =
      ends_keep blocks budget (Tells blocks budget) (keeps blocks budget) g in
      let told = t.flushed in
      let same = ap (λ (x : Grid W). x.counts.flushed) is in
      let all : by ≡ tally flushed (part.ends_notes blocks budget g) = omega (arith, told, same, many) in
      heard_adds statistic.Ends by a b (part.ends_notes blocks budget g) adds
      (subst (λ n. Only statistic.Ends n (part.ends_notes blocks budget g)) (sym all) (ends_only g))

-- part (6) -----------------------------------------------------------------------------------------

delivering : (n p : ℕ) → OnlyFlushes statistic.WrongExits (note.Delivers n p ∷ [])
delivering n p = flushes_none statistic.WrongExits (note.Delivers n p ∷ []) (λ s. refl) refl

asking : (m n : ℕ) → OnlyFlushes statistic.WrongExits (part.asks_notes m n)
asking m n = flushes_none statistic.WrongExits (part.asks_notes m n) (λ s. refl) refl

module _ {W : Type 0} (blocks : List Block) (budget : ℕ) where
  leaving : (f : Frame) (g : Grid W)
      → OnlyFlushes statistic.WrongExits (part.acted (note.Leaves f.number (part.names blocks f)) WrongExit blocks
      budget
      (window.Exit f.number) g)
  leaving f g =
      let x : Note = note.Leaves f.number (part.names blocks f) in
      let gs : List Frame = gone g.window (happens blocks budget (window.Exit f.number) g.window) in
      let us : List Note = gives_up g.fetching (act blocks budget (window.Exit f.number) g).fetching in
      flushes_both statistic.WrongExits (x ∷ []) (flushes WrongExit gs ++ us)
      (flushes_none statistic.WrongExits (x ∷ []) (λ s. refl) refl)
      (flushes_both statistic.WrongExits (flushes WrongExit gs) us (flushes_only WrongExit gs)
      (flushes_given statistic.WrongExits g.fetching (act blocks budget (window.Exit f.number) g).fetching))

  slot_only : (kind : Form) (i : Inst) (p : ℕ) (f : Frame) (g : Grid W)
      → OnlyFlushes statistic.WrongExits (part.slot_arrives_notes blocks budget kind i p f g)
  slot_only form.Load i p f g = flushes_either statistic.WrongExits (is_waiting (at f.requests i.number) (p / 2))
      (part.asks_notes f.number i.number) (note.Delivers f.number p ∷ []) (asking f.number i.number)
      (delivering f.number p)
  slot_only form.Store i p f g = asking f.number i.number
  slot_only form.Branch i p f g = leaving f g
  slot_only form.General i p f g = delivering f.number p
  slot_only form.Immediate i p f g = delivering f.number p
  slot_only form.Constant i p f g = delivering f.number p

  inst_only : (o : Option Inst) (p : ℕ) (f : Frame) (g : Grid W)
      → OnlyFlushes statistic.WrongExits (part.inst_arrives_notes blocks budget o p f g)
  inst_only None p f g = flushes_empty statistic.WrongExits
  inst_only (Some i) p f g = slot_only (form_of i.op) i p f g

  place_only : (p : ℕ) (f : Frame) (g : Grid W)
      → OnlyFlushes statistic.WrongExits (part.place_notes blocks budget p f g)
  place_only p f g = flushes_either statistic.WrongExits (nat_lt p first_read_place)
      (part.inst_arrives_notes blocks budget (slot_of f.code (p / 2)) p f g) (note.Delivers f.number p ∷ [])
      (inst_only (slot_of f.code (p / 2)) p f g) (delivering f.number p)

  come_only : (n p : ℕ) (o : Option Parcel) (g : Grid W)
      → OnlyFlushes statistic.WrongExits (part.come_notes blocks budget n p o g)
  come_only n p None g = flushes_empty statistic.WrongExits
  come_only n p (Some c) g =
      let m : Grid W = record g { parcels = without g.parcels (Some c) } in
      let notes : Frame → List Note = λ f. part.place_notes blocks budget p f m in
      flushes_both statistic.WrongExits (note.OnMesh (note.Comes n p) ∷ []) (of_frame n notes g.window.frames)
      (flushes_none statistic.WrongExits (note.OnMesh (note.Comes n p) ∷ []) (λ s. refl) refl)
      (flushes_frame statistic.WrongExits n notes (λ f. place_only p f m) g.window.frames)

  arrivals_only : (ns : List ℕ) (g : Grid W)
      → OnlyFlushes statistic.WrongExits (part.arrivals_notes blocks budget ns g)
  arrivals_only [] g = flushes_empty statistic.WrongExits
  arrivals_only (n ∷ ns) g =
      let m : Grid W = each (arrival blocks budget n) places g in
      flushes_both statistic.WrongExits
      (of_each (arrival blocks budget n) (part.arrival_notes blocks budget n) places g)
      (part.arrivals_notes blocks budget ns m)
      (flushes_each statistic.WrongExits (arrival blocks budget n) (part.arrival_notes blocks budget n)
      (λ p x. come_only n p (come n p (x.parcels n p)) x) places g)
      (arrivals_only ns m)

  -- what arrives is heard where its flushes are counted
  pub arrivals_heard : (ns : List ℕ) (g h : Grid W) (by : ℕ) (a b : Tallies) → h ≡ arrivals blocks budget ns g
      → by ≡ h.counts.flushed - g.counts.flushed → Adds statistic.WrongExits by a b
      → Heard a (part.arrivals_notes blocks budget ns g) b
  arrivals_heard ns g h by a b is many adds =
      let es : List Note = part.arrivals_notes blocks budget ns g in
      let t : Tells blocks budget g es (arrivals blocks budget ns g) =
      arrivals_keep blocks budget (Tells blocks budget) (keeps blocks budget) ns g in
      let told = t.flushed in
      let same = ap (λ (x : Grid W). x.counts.flushed) is in
      let all : by ≡ tally flushed es = omega (arith, told, same, many) in
      heard_adds statistic.WrongExits by a b es adds
      (subst (λ n. Only statistic.WrongExits n es) (sym all) (arrivals_only ns g))
