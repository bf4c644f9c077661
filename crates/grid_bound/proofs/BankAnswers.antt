-- Part (3): each bank answers the lowest read of the oldest frame that it may, and else one of another frame.
use Rattle.std.proofs.Common.{◌≡◌, ◌≢◌, ℕ, suc, ◌+◌, ◌*◌, ◌-◌, ◌<◌, ◌≤◌, ◌==◌, ◌&&◌, ◌⊎◌, inl, inr, Bool, true}
use Rattle.std.proofs.Common.{false, cond, nat_lt, List, ◌∷◌, length, Option, Some, None, slice_get}
use Rattle.std.proofs.Common.{slice_index_or, refl, sym, ap, ap₂, ◌∙◌, subst, arith, true≢false}
use Rattle.std.proofs.Math.Path.{fun_ext}
use Rattle.std.proofs.lemmas.Bool.{cond-false, and_from, and_parts}
use Rattle.std.proofs.lemmas.Bool.{and_left, and_right, both_ways, cases_eq}
use Rattle.std.proofs.lemmas.Bool.{cases_lt, lt-ltb, le-ltb, eqb-true, eq-eqb}
use Rattle.trips_isa.specs.declared.block.Inst.{Inst}
use Rattle.trips_isa.specs.declared.block.ReadSlot.{ReadSlot}
use Rattle.trips_isa.specs.declared.block.Block.{Block}
use Rattle.trips_isa.specs.declared.form.Form.{Form}
use Rattle.trips_isa.specs.declared.form.Form.TheVariants as form
use Rattle.trips_isa.specs.declared.run.Stepped.TheVariants as stepped
use Rattle.trips_isa.specs.Forms.{form_of}
use Rattle.trips_isa.specs.Places.{read_node, inst_nodes}
use Rattle.trips_isa.specs.Tables.{node_gives}
use Rattle.trips_isa.specs.Blocks.{computes}
use Rattle.trips_isa.specs.Rule.{Answer}
use Rattle.block_cases.specs.Orders.{slot_of}
use Rattle.commit_flush_spec.specs.Causes.{NoFrame, Happened, Done, NotNow}
use Rattle.commit_flush_spec.specs.Frames.{Frame, at}
use Rattle.commit_flush_spec.specs.Older.{Older, committed}
use Rattle.commit_flush_spec.specs.Sending.{token_with}
use Rattle.commit_flush_spec.specs.Dataflow.{can_read}
use Rattle.commit_flush_spec.specs.inside.Invariant.{AllGood, FrameOk, has_sent}
use Rattle.commit_flush_spec.specs.inside.Laws.{WindowOk}
use Rattle.commit_flush_spec.specs.Window.{can, can_now, unless_over}
use Rattle.commit_flush_spec.specs.Window as window
use Rattle.commit_flush_spec.proofs.Lists.{none_or}
use Rattle.commit_flush_spec.proofs.Sends.{read_sends}
use Rattle.commit_flush_spec.proofs.Tokens.{read_got}
use Rattle.commit_flush_spec.proofs.Tokens as tokens
use Rattle.commit_flush_spec.specs.inside.NextEvent as next
use Rattle.commit_flush_spec.specs.inside.Observers.{is_unread}
use Rattle.commit_flush_spec.proofs.Bits.{unread_tells}
use Rattle.grid_cycle_spec.specs.Stations.{bank_of}
use Rattle.grid_cycle_spec.specs.Grid.{Grid}
use Rattle.grid_cycle_spec.specs.Acting.{is_done, may}
use Rattle.grid_cycle_spec.specs.Choosing.{reads}
use Rattle.grid_cycle_spec.specs.Banks.{bank_in, is_bank, answers_read}
use Rattle.grid_bound.specs.inside.Course.{Course, Task, is_reading}
use Rattle.grid_bound.specs.inside.Lane.{Front, is_idle, unread}
use Rattle.grid_bound.specs.inside.Sending.{pick, none_busy, station_of, sent_from}
use Rattle.grid_bound.specs.inside.Blocks.{slot_tasks, kind_of, slot_task, read_task, course_of}
use Rattle.grid_bound.specs.inside.Seen.{front_of}
use Rattle.grid_bound.proofs.Seen.{unread_seen}
use Rattle.grid_bound.proofs.Sizes.{slot_is, read_is}
use Rattle.grid_bound.specs.inside.Behind.{Behind}
use Rattle.grid_bound.specs.inside.Shows.{QuietReads}
use Rattle.grid_bound.proofs.OldestEnds.{asks_oldest, oldest_ok}
use Rattle.grid_bound.proofs.Fronts.{front_behind, same_front}

-- a block has 32 reads
pub reads_are : reads ≡ 32
unfolding reads
reads_are = refl

-- a read gives a token, whatever it is answered
pub read_token : (f : Frame) (r w : ℕ) (slot : ReadSlot) → slice_get f.code.reads.items r ≡ Some slot
    → token_with f r w ≢ None
read_token f r w slot e z =
    let bad : node_gives (Some (read_node slot)) (computes f.code (λ y a. w) r) (at f.spots) ≡ None =
    sym (ap (λ q. node_gives q (computes f.code (λ y a. w) r) (at f.spots))
    (read_got f.code.reads.items (inst_nodes 0 f.code.insts.items) r slot e)) ∙ z in cc

-- an event tests as done exactly where the window's definitions have it done
pub same_done : (h : Happened) → is_done h ≡ next.is_done h
same_done Done = refl
same_done (NotNow c) = refl

not_reading : (t : Form) → is_reading (kind_of t) ≡ false
not_reading form.General = refl
not_reading form.Immediate = refl
not_reading form.Load = refl
not_reading form.Store = refl
not_reading form.Branch = refl
not_reading form.Constant = refl

-- one number more below a bound
below_more : (b : Bool) (x k : ℕ) → (b ≡ true → x ≡ k → ⊥) → (b && nat_lt x (suc k)) ≡ (b && nat_lt x k)
below_more false x k h = refl
below_more true x k h = go (cases_lt x k)
  where
    go : (x < k) ⊎ (k ≤ x) → nat_lt x (suc k) ≡ nat_lt x k
    go (inl l) = lt-ltb x (suc k) (omega (arith, l)) ∙ sym (lt-ltb x k l)
    go (inr l) = le-ltb x (suc k) (apart (cases_eq x k)) ∙ sym (le-ltb x k l)
      where
        apart : (x ≡ k) ⊎ (x ≡ k → ⊥) → suc k ≤ x
        apart (inl e) = absurd (h refl e)
        apart (inr n) = omega (arith, l, n)

-- an unread read has no token in its places
pub unsent_places : (blocks : List Block) (s : Older) (f : Frame) (r : ℕ) → FrameOk blocks s f
    → slice_index_or f.reads r false ≡ false
    → (at f.places (256 + 2 * r) ≡ None) × (at f.places (suc (256 + 2 * r)) ≡ None)
unsent_places blocks s f r ok e = (
  empty (256 + 2 * r) ((read_sends f r).0 ∙ e),
  empty (suc (256 + 2 * r)) ((read_sends f r).1 ∙ e),
)
  where
    empty : (p : ℕ) → has_sent f p ≡ false → at f.places p ≡ None
    empty p e = go (none_or (at f.places p))
      where
        go : (at f.places p ≡ None) ⊎ (at f.places p ≢ None) → at f.places p ≡ None
        go (inl z) = z
        go (inr n) = absurd (both_ways (has_sent f p) e (ok.once.places p n))

module _ {W : Type 0} (blocks : List Block) (good : AllGood blocks) (budget : ℕ) (t : ℕ → Answer) (f : Frame)
    (g : Grid W) where
  abbrev c : Course
  c = course_of f.code t

  abbrev F : Front
  F = front_of c g f

  -- the front after the first k banks
  abbrev pub read_front : ℕ → Front
  read_front k = record F {
    at = λ x. cond (pick (unread F) (station_of F) none_busy x && nat_lt (station_of F x) k)
        (sent_from F.generation (c.task x).here (c.task x)) (F.at x);
  }

  kept_at : (k x : ℕ) → nat_lt (station_of F x) k ≡ false → (read_front k).at x ≡ F.at x
  kept_at k x e = cond-false _ _ _ (and_right (pick (unread F) (station_of F) none_busy x) _ e)

  -- a task of a slot is no read that waits
  pub unread_slot : (x : ℕ) → x < slot_tasks → unread F x ≡ false
  unread_slot x l = and_right (is_idle (F.at x)) (is_reading (c.task x).kind)
      (ap (λ k. is_reading k.kind) (slot_is f.code t x l) ∙ go (slot_of f.code x))
    where
      go : (o : Option Inst) → is_reading (slot_task f.code t x o).kind ≡ false
      go None = refl
      go (Some i) = not_reading (form_of i.op)

  -- what is not read is one of the reads
  pub record Unread (x : ℕ) : Type 0 where
    pub number : ℕ
    pub is_number : x ≡ slot_tasks + number
    pub slot : ReadSlot
    pub is_slot : slice_get f.code.reads.items number ≡ Some slot

  -- a task that tests as unread is a read that is not answered
  pub unread_is : (x : ℕ) → unread F x ≡ true → Unread x
  unread_is x u = by (cases_lt x slot_tasks)
    where
      by : (x < slot_tasks) ⊎ (slot_tasks ≤ x) → Unread x
      by (inl l) = absurd (both_ways (unread F x) (unread_slot x l) u)
      by (inr l) = go (slice_get f.code.reads.items (x - slot_tasks)) refl
        where
          is : x ≡ slot_tasks + (x - slot_tasks)
          is = omega (arith, l)

          go : (o : Option ReadSlot) → slice_get f.code.reads.items (x - slot_tasks) ≡ o → Unread x
          go (Some s) e = record { number = x - slot_tasks; is_number = is; slot = s; is_slot = e }
          go None e = absurd (true≢false (sym (and_parts (is_idle (F.at x)) _ u).1
              ∙ ap (λ z. is_reading (c.task z).kind) is
              ∙ ap (λ k. is_reading k.kind) (read_is f.code t (x - slot_tasks) ∙ ap (read_task f.code) e)))

  -- read r is of bank k, and not answered
  abbrev waits_at : ℕ → ℕ → Bool
  waits_at k r = unread F (slot_tasks + r) && station_of F (slot_tasks + r) == k

  -- how the oldest frame stands after the first k banks
  pub record AtBank (k : ℕ) (h : Grid W) : Type 0 where
    pub frame : Frame
    pub younger : List Frame
    pub frames : h.window.frames ≡ frame ∷ younger
    pub number : frame.number ≡ f.number
    pub code : frame.code ≡ f.code
    pub stores : frame.stores ≡ f.stores
    pub runs : frame.sealed ≡ false
    pub front : front_of c h frame ≡ read_front k
    pub quiet : QuietReads h frame

  module _ (k : ℕ) (h : Grid W) (a : AtBank k h) (ok : WindowOk blocks budget h.window)
      (went : h.window.over ≡ stepped.Went) where
    abbrev e : Frame
    e = a.frame

    abbrev test : ℕ → Bool
    test = answers_read blocks budget h k e

    -- what a bank asks of a read is what the oldest frame says of it
    pub asks : (r : ℕ) → can blocks budget (window.Read e.number r) h.window ≡ can_read r (committed h.window.state) e
    asks r = ap (λ o. unless_over o (can_now blocks budget (window.Read e.number r) h.window)) went
        ∙ asks_oldest blocks budget h.window e a.younger a.frames (NotNow NoFrame) (can_read r)

    -- a bank may answer a read exactly where it is not answered
    pub may_is : (r : ℕ) → may blocks budget (window.Read e.number r) h ≡ is_unread e r
    may_is r = ap is_done (asks r) ∙ same_done (can_read r (committed h.window.state) e)
        ∙ sym (unread_tells h.window.state e r)

    unread_now : (r : ℕ) → is_unread e r ≡ unread (read_front k) (slot_tasks + r)
    unread_now r = sym (unread_seen h e t a.runs r)
        ∙ ap (λ x. unread x (slot_tasks + r)) (ap (λ b. front_of (course_of b t) h e) a.code ∙ a.front)

    -- what the bank asks is what the lane asks
    pub test_is : (r : ℕ) → test r ≡ waits_at k r
    test_is r =
        ap₂ (λ b u. is_bank k (bank_in (slice_get b.reads.items r)) && u) a.code (may_is r ∙ unread_now r)
        ∙ go (slice_get f.code.reads.items r) refl
      where
        task_is : (o : Option ReadSlot) → slice_get f.code.reads.items r ≡ o
            → c.task (slot_tasks + r) ≡ read_task f.code o
        task_is o i = read_is f.code t r ∙ ap (read_task f.code) i

        one : (n : ℕ) (b : Bool) → (n == k) ≡ b → station_of F (slot_tasks + r) ≡ n
            → (b && unread (read_front k) (slot_tasks + r)) ≡ (unread F (slot_tasks + r) && b)
        one n false i st = sym (and_right (unread F (slot_tasks + r)) false refl)
        one n true i st =
            let late : nat_lt (station_of F (slot_tasks + r)) k ≡ false =
            le-ltb (station_of F (slot_tasks + r)) k (let z : n ≡ k = eqb-true n k i in omega (arith, z, st)) in
            ap (λ p. is_idle p && is_reading (c.task (slot_tasks + r)).kind) (kept_at k (slot_tasks + r) late)
            ∙ and_on (unread F (slot_tasks + r))
          where
            and_on : (x : Bool) → x ≡ (x && true)
            and_on true = refl
            and_on false = refl

        go : (o : Option ReadSlot) → slice_get f.code.reads.items r ≡ o
            → (is_bank k (bank_in o) && unread (read_front k) (slot_tasks + r)) ≡ waits_at k r
        go None i = sym (and_left (unread F (slot_tasks + r)) _ (and_right (is_idle (F.at (slot_tasks + r)))
            (is_reading (c.task (slot_tasks + r)).kind) (ap (λ k. is_reading k.kind) (task_is None i))))
        go (Some s) i =
            let st : station_of F (slot_tasks + r) ≡ bank_of s.register =
            ap (λ (k : Task). k.station) (task_is (Some s) i)
            in one (bank_of s.register) (bank_of s.register == k) refl st
            ∙ ap (λ n. unread F (slot_tasks + r) && n == k) (sym st)

    -- the next front is the same at each task that the bank does not answer
    pub same_next : (x : ℕ) → (pick (unread F) (station_of F) none_busy x ≡ true → station_of F x ≡ k → ⊥)
        → (read_front (suc k)).at x ≡ (read_front k).at x
    same_next x n = ap (λ b. cond b (sent_from F.generation (c.task x).here (c.task x)) (F.at x))
        (below_more (pick (unread F) (station_of F) none_busy x) (station_of F x) k n)

    -- another frame, or none -----------------------------------------------------------------------

    module _ (none : (r : ℕ) → r < 32 → test r ≡ false) where
      none_picked : (x : ℕ) → pick (unread F) (station_of F) none_busy x ≡ true → station_of F x ≡ k → ⊥
      none_picked x p st =
          let u : unread F x ≡ true = (and_parts (unread F x) _ p).0 in
          let q : Unread x = unread_is x u in
          let few : length f.code.reads.items ≤ 32 = subst (λ b. length b.reads.items ≤ 32) a.code
          (good e.block e.code (oldest_ok blocks budget h.window e a.younger ok a.frames).code).fits.reads in
          let lt : q.number < length f.code.reads.items =
          tokens.read_is f.code.reads.items q.number q.slot q.is_slot in
          both_ways (waits_at k q.number)
          (sym (test_is q.number) ∙ none q.number (omega (arith, few, lt)))
          (and_from (unread F (slot_tasks + q.number)) _ (ap (unread F) (sym q.is_number) ∙ u)
          (eq-eqb (station_of F (slot_tasks + q.number)) k (ap (station_of F) (sym q.is_number) ∙ st)))

      -- where the oldest frame has no read at this bank, it stands as before
      pub by_others : (m : Grid W) → Behind e h m → AtBank (suc k) m
      by_others m b = record {
        frame = e;
        younger = b.younger;
        frames = b.frames;
        number = a.number;
        code = a.code;
        stores = a.stores;
        runs = a.runs;
        front = front_behind c e h m b ∙ a.front
            ∙ sym (same_front (read_front (suc k)) (read_front k) refl refl
            (fun_ext (λ x. same_next x (none_picked x))) refl refl);
        quiet = λ r l z. (
          ap (λ p. p (256 + 2 * r)) b.parcels ∙ (a.quiet r l z).0,
          ap (λ p. p (suc (256 + 2 * r))) b.parcels ∙ (a.quiet r l z).1,
        );
      }
