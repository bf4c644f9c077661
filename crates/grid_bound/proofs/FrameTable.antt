-- The table of what a frame sees: the committed state and the frame's own stores answer its reads and loads. It hangs
-- on the block and the stores alone, and where a store has come the front is retold by the table of what is seen
-- then.
use Rattle.std.proofs.Common.{◌≡◌, ℕ, ◌+◌, ◌-◌, ◌<◌, ◌≤◌, ◌⊎◌, inl, inr, Bool, true, false, cond, not, nat_lt, List}
use Rattle.std.proofs.Common.{Option, Some, None, slice_get, refl, sym, ap, ap₂, ◌∙◌, subst, arith}
use Rattle.std.proofs.Math.Path.{fun_ext}
use Rattle.std.proofs.lemmas.Bool.{cases_lt, and_left, and_right}
use Rattle.trips_isa.specs.declared.block.Inst.{Inst}
use Rattle.trips_isa.specs.declared.block.ReadSlot.{ReadSlot}
use Rattle.trips_isa.specs.declared.block.Stored.{Stored}
use Rattle.trips_isa.specs.declared.block.Block.{Block}
use Rattle.trips_isa.specs.declared.form.Form.{Form}
use Rattle.trips_isa.specs.declared.form.Form.TheVariants as form
use Rattle.trips_isa.specs.Forms.{form_of, size_of}
use Rattle.trips_isa.specs.Places.{nodes_of}
use Rattle.trips_isa.specs.Rule.{Answer}
use Rattle.trips_isa.specs.Stores.{bytes_seen}
use Rattle.trips_isa.specs.Tables.{deepest}
use Rattle.trips_isa.specs.inside.Tables.{pulled}
use Rattle.trips_isa.specs.Blocks.{Responses, at_place, computes, is_read, inst_at}
use Rattle.trips_isa.specs.inside.Blocks.{Solves}
use Rattle.block_cases.specs.Orders.{slot_of}
use Rattle.block_cases.proofs.Unique.{pulled_is_table}
use Rattle.commit_flush_spec.specs.Frames.{Frame, at}
use Rattle.commit_flush_spec.specs.Older.{Older}
use Rattle.commit_flush_spec.specs.inside.Invariant.{AllGood, Below, FrameOk, Holds}
use Rattle.commit_flush_spec.specs.Dataflow.{read_seen}
use Rattle.commit_flush_spec.proofs.Frames.{or_zero, slot_seen, seen_if_read, seen, seen_agrees}
use Rattle.grid_cycle_spec.specs.Grid.{Grid}
use Rattle.grid_bound.specs.inside.Course.{Good, Task, is_reading}
use Rattle.grid_bound.specs.inside.Lane.{is_idle, unissued, ready}
use Rattle.grid_bound.specs.inside.Answering.{spot_of, Retold}
use Rattle.grid_bound.specs.inside.Blocks.{slot_tasks, first_of, slot_task, read_task, task_of, course_of}
use Rattle.grid_bound.specs.inside.Seen.{read_phase, front_of}
use Rattle.grid_bound.proofs.Courses.{course_good}
use Rattle.grid_bound.proofs.Ready.{ready_seen}
use Rattle.grid_bound.proofs.Sizes.{slot_tasks_is, read_is}
use Rattle.grid_bound.specs.inside.Parts.{Tells}
use Rattle.grid_bound.specs.inside.Lanes.{or_none, finds, sees_at, sees, table_in}
use Rattle.grid_bound.proofs.Fronts.{at_read}

-- the table
unfoldable pub told : Older → Frame → ℕ → Answer
told o f = pulled (nodes_of f.code) (computes f.code (seen o f)) deepest

-- the table of what a frame of a good block sees solves the block
pub table_solves : (blocks : List Block) → AllGood blocks → (o : Older) (f : Frame)
    → slice_get blocks f.block ≡ Some f.code → Solves f.code (seen o f) (told o f)
unfolding told
table_solves blocks good o f code =
    pulled_is_table (nodes_of f.code) (good f.block f.code code).good.ranked (computes f.code (seen o f))

-- the course of a good block by the table of what its frame sees is good
pub table_good : (blocks : List Block) → AllGood blocks → (o : Older) (f : Frame)
    → slice_get blocks f.block ≡ Some f.code → Good (course_of f.code (told o f))
table_good blocks good o f code =
    course_good f.code (good f.block f.code code) (seen o f) (told o f) (table_solves blocks good o f code)

module _ (blocks : List Block) (good : AllGood blocks) (o : Older) (f : Frame) (ok : FrameOk blocks o f) where
  -- the table of what this frame sees solves its block
  pub told_solves : Solves f.code (seen o f) (told o f)
  told_solves = table_solves blocks good o f ok.code

  -- the table of what this frame sees holds of it
  pub told_holds : Holds blocks f (told o f)
  told_holds = ok.holds (seen o f) (told o f) told_solves (seen_agrees o f)

  -- the course of this frame's block by its table is good
  pub told_good : Good (course_of f.code (told o f))
  told_good = course_good f.code (good f.block f.code ok.code) (seen o f) (told o f) told_solves

-- the same block and stores are seen the same
seen_same : (o : Older) (e f : Frame) → e.code ≡ f.code → e.stores ≡ f.stores → (x address : ℕ)
    → seen o e x address ≡ seen o f x address
unfolding seen
seen_same o e f c s x address =
    ap (λ (z : Block). seen_if_read (is_read z x) o e x address) c ∙ go (is_read f.code x)
  where
    slot : (i : Option Inst) → slot_seen o e i address ≡ slot_seen o f i address
    slot None = refl
    slot (Some i) = ap (λ (l : List (Option Stored)). bytes_seen (at l) o.memory i.number address (size_of i.op)) s

    go : (b : Bool) → seen_if_read b o e x address ≡ seen_if_read b o f x address
    go true = ap (λ (z : Block). or_zero (read_seen o (slice_get z.reads.items x))) c
    go false = ap (λ (z : Block). slot_seen o e (inst_at z x) address) c ∙ slot (inst_at f.code x)

-- and make the same table
pub told_same : (o : Older) (e f : Frame) → e.code ≡ f.code → e.stores ≡ f.stores → told o e ≡ told o f
unfolding told
told_same o e f c s =
    ap₂ (λ (b : Block) (r : Responses). pulled (nodes_of b) (computes b r) deepest) c
    (fun_ext (λ x. fun_ext (λ y. seen_same o e f c s x y)))

seen_sees : (o : Older) (f : Frame) (x address : ℕ) → seen o f x address ≡ sees o f x address
unfolding seen
seen_sees o f x address = go (is_read f.code x)
  where
    word : (q : Option ℕ) → or_zero q ≡ or_none q
    word None = refl
    word (Some w) = refl

    slot : (i : Option Inst) → slot_seen o f i address ≡ finds o f i address
    slot None = refl
    slot (Some i) = refl

    go : (b : Bool) → seen_if_read b o f x address ≡ sees_at b o f x address
    go true = word (read_seen o (slice_get f.code.reads.items x))
    go false = slot (inst_at f.code x)

-- the lane's table is this one
pub told_table : (o : Older) (f : Frame) → told o f ≡ table_in o f
unfolding told
told_table o f = ap (λ (r : Responses). pulled (nodes_of f.code) (computes f.code r) deepest)
    (fun_ext (λ x. fun_ext (λ a. seen_sees o f x a)))

-- it tells what the frame gives
pub table_tells : (blocks : List Block) → AllGood blocks → (o : Older) (f : Frame)
    → slice_get blocks f.block ≡ Some f.code → Tells o f (table_in o f)
table_tells blocks good o f code = subst (Tells o f) (told_table o f)
    (record { seen = seen o f; agrees = seen_agrees o f; solves = table_solves blocks good o f code })

-- two tables ----------------------------------------------------------------------------------------

module _ (b : Block) (t u : ℕ → Answer) {A : Type 0} (part : Task → A)
    (same : (s : ℕ) (i : Inst) → part (slot_task b u s (Some i)) ≡ part (slot_task b t s (Some i))) where
  -- what a block has of each task hangs on no table
  task_part : (x : ℕ) → part (task_of b u x) ≡ part (task_of b t x)
  task_part x = go (nat_lt x slot_tasks)
    where
      slot : (q : Option Inst) → part (slot_task b u x q) ≡ part (slot_task b t x q)
      slot None = refl
      slot (Some i) = same x i

      go : (c : Bool) → part (cond c (slot_task b u x (slot_of b x))
          (read_task b (slice_get b.reads.items (x - slot_tasks))))
          ≡ part (cond c (slot_task b t x (slot_of b x)) (read_task b (slice_get b.reads.items (x - slot_tasks))))
      go true = slot (slot_of b x)
      go false = refl

first_spot : (b : Block) (k : Form) (i : Inst) (m n : ℕ) → spot_of (first_of b k i m) ≡ spot_of (first_of b k i n)
first_spot b form.Load i m n = refl
first_spot b form.Store i m n = refl
first_spot b form.Branch i m n = refl
first_spot b form.General i m n = refl
first_spot b form.Immediate i m n = refl
first_spot b form.Constant i m n = refl

module _ {W : Type 0} (h : Grid W) (e : Frame) where
  -- a read is never ready
  reads_unready : (t : ℕ → Answer) (x : ℕ) → slot_tasks ≤ x → ready (front_of (course_of e.code t) h e) x ≡ false
  reads_unready t x l = and_left (unissued (front_of (course_of e.code t) h e) x) _
      (go (slice_get e.code.reads.items (x - slot_tasks)) refl)
    where
      is : x ≡ slot_tasks + (x - slot_tasks)
      is = omega (arith, l)

      go : (q : Option ReadSlot) → slice_get e.code.reads.items (x - slot_tasks) ≡ q
          → unissued (front_of (course_of e.code t) h e) x ≡ false
      go None z = and_left (is_idle ((front_of (course_of e.code t) h e).at x)) _
          (ap (λ y. is_idle ((front_of (course_of e.code t) h e).at y)) is
          ∙ ap is_idle (at_read h e (x - slot_tasks) ∙ ap (read_phase h e (x - slot_tasks)) z))
      go (Some s) z = and_right (is_idle ((front_of (course_of e.code t) h e).at x)) _
          (ap (λ y. not (is_reading ((course_of e.code t).task y).kind)) is
          ∙ ap (λ (k : Task). not (is_reading k.kind)) (read_is e.code t (x - slot_tasks) ∙ ap (read_task e.code) z))

  module _ (runs : e.sealed ≡ false) (a b : Responses) (t u : ℕ → Answer) (old : Solves e.code a t)
      (new : Solves e.code b u) (below : (q : ℕ) → Below (at e.spots q) (at_place e.code t q))
      (under : (q : ℕ) → Below (at e.spots q) (at_place e.code u q)) (good : Good (course_of e.code u)) where
    -- a front by another table of what has come
    pub retold : Retold (front_of (course_of e.code t) h e) (front_of (course_of e.code u) h e)
    retold = record {
      room = refl;
      at = λ x. refl;
      come = λ s. refl;
      careful = refl;
      declared = task_part e.code t u (λ k. k.declared) (λ s i. refl);
      kind = task_part e.code t u (λ k. k.kind) (λ s i. refl);
      tile = task_part e.code t u (λ k. k.tile) (λ s i. refl);
      first = task_part e.code t u (λ k. spot_of k.first) (λ s i. first_spot e.code (form_of i.op) i _ _);
      second = task_part e.code t u (λ k. spot_of k.second) (λ s i. refl);
      ready = λ x. by x (cases_lt x slot_tasks);
      good = good;
    }
      where
        by : (x : ℕ) → (x < slot_tasks) ⊎ (slot_tasks ≤ x)
            → ready (front_of (course_of e.code u) h e) x ≡ ready (front_of (course_of e.code t) h e) x
        by x (inl l) =
            let small : x < 128 = (let z = slot_tasks_is in omega (arith, l, z)) in
            ready_seen h e b u new under runs x small ∙ sym (ready_seen h e a t old below runs x small)
        by x (inr l) = reads_unready u x l ∙ sym (reads_unready t x l)
