-- A sealed oldest frame has the effects of the machine's step, and the younger frames go on from it.
use Rattle.std.proofs.Common.{cond, nat_lt, ◌≡◌, ◌≢◌, ℕ, zero, suc, ◌+◌, ◌-◌, ◌*◌, ◌<◌, ◌≤◌, Bool, true}
use Rattle.std.proofs.Common.{false, not, ◌&&◌, ◌||◌}
use Rattle.std.proofs.Common.{◌==◌, List, [], ◌∷◌, ◌++◌, Option, Some, None, slice_get, slice_index, get_or}
use Rattle.std.proofs.Common.{length, refl, sym, ap, ap₂, ◌∙◌, subst, arith}
use Rattle.std.specs.Prelude.{is_some}
use Rattle.std.proofs.Math.Path.{fun_ext}
use Rattle.std.proofs.lemmas.Bool.Decides.{nat_tests}
use Rattle.trips_isa.specs.declared.block.Inst.{Inst}
use Rattle.trips_isa.specs.declared.block.ReadSlot.{ReadSlot}
use Rattle.trips_isa.specs.declared.block.Stored.{Stored}
use Rattle.trips_isa.specs.declared.block.Block.{Block}
use Rattle.trips_isa.specs.declared.run.Stepped.{Stepped}
use Rattle.trips_isa.specs.declared.run.Stepped.TheVariants.{Went}
use Rattle.trips_isa.specs.Forms.{size_of}
use Rattle.trips_isa.specs.Rule.{Answer}
use Rattle.trips_isa.specs.Places.{nodes_of}
use Rattle.trips_isa.specs.Tables.{deepest}
use Rattle.trips_isa.specs.Stores.{byte_seen, bytes_seen, listed, listed_below, store_all, or_byte, byte_of}
use Rattle.trips_isa.specs.Blocks.{at_place, is_read, inst_at, slot_at, read_word, slot_answered}
use Rattle.trips_isa.specs.inside.Blocks.{Solves}
use Rattle.trips_isa.specs.Blocks.{answered_if_read, responses_in, token_of, store_of, Leaving, leaves_with}
use Rattle.trips_isa.specs.Blocks.{leaves_if_read, leaving_of}
use Rattle.trips_isa.specs.Outcomes.{Effects, or_null, writes_from, all_stores, plain, plain_by, next_of}
use Rattle.trips_isa.specs.Outcomes.{is_system, is_scall, exit_of}
use Rattle.trips_isa.specs.Machine.{State, write_all, changed, apply, then_system}
use Rattle.trips_isa.specs.Places.{in_mask}
use Rattle.block_cases.proofs.Settled.{only_solution}
use Rattle.commit_flush_spec.specs.Frames.{Frame, Exit, at, numbers}
use Rattle.commit_flush_spec.specs.Older.{through, after, committed, follows, successor_of, makes_call}
use Rattle.commit_flush_spec.specs.Older.{any_call, is_serial}
use Rattle.commit_flush_spec.specs.Dataflow.{read_seen}
use Rattle.trips_isa.specs.Outcomes.{unless}
use Rattle.trips_isa.specs.Machine.{come_to, step_in, step_of}
use Rattle.trips_isa.specs.Marks.{mark_at, mark_of, owed, cause}
use Rattle.trips_isa.specs.Places.{nodes_of}
use Rattle.block_cases.proofs.MarkLemmas.{pulled_is_marking}
use Rattle.commit_flush_spec.specs.Marks.{mark_on, mark_held}
use Rattle.commit_flush_spec.specs.Ends.{cause_held}
use Rattle.commit_flush_spec.specs.inside.Invariant.{MarksAgree}
use Rattle.commit_flush_spec.proofs.Owed.{least_same, owed_each}
use Rattle.commit_flush_spec.specs.Ends.{exit_by, all_below, write_came, store_came, effects_with, outputs}
use Rattle.commit_flush_spec.specs.inside.Invariant.{Below, Holds, FrameOk, FramesOk, IsRunnable, AllGood}
use Rattle.commit_flush_spec.specs.inside.Laws.{IsWhole}
use Rattle.commit_flush_spec.proofs.Lists.{below_is}
use Rattle.commit_flush_spec.proofs.Look.{or_false, LookLe, OlderLe, words, through_changed}
use Rattle.commit_flush_spec.proofs.Frames.{seen_agrees, or_zero, seen, seen_if_read, slot_seen, own, own_solves}
use Rattle.commit_flush_spec.proofs.Frames.{own_holds, frames_more}
use Rattle.commit_flush_spec.proofs.Bytes.{FitsStored, stores_leave}
use Rattle.commit_flush_spec.proofs.Stored.{number_small, unmasked, store_fits, first_holds}

numbers_are : numbers ≡ 32
unfolding numbers
numbers_are = refl

-- both parts of a conjunction that is true are true
pub both_true : (b c : Bool) → (b && c) ≡ true → (b ≡ true) × (c ≡ true)
both_true true c e = (refl, e)
both_true false c e = absurd (cc)

all_at : (p : ℕ → Bool) (n k : ℕ) → all_below p n ≡ true → k < n → p k ≡ true
all_at p zero k e l = absurd (omega arith)
all_at p (suc n) k e l = go (k == n) refl (λ lt. all_at p n k (both_true _ _ e).1 lt)
  where
    go : (b : Bool) → (k == n) ≡ b → (k < n → p k ≡ true) → p k ≡ true
    go true i rest = let same : k ≡ n = grind arith in ap p same ∙ (both_true _ _ e).0
    go false i rest = let other : k ≢ n = λ z. let bad : (k == n) ≡ true = grind (arith, z) in absurd (cc) in
        rest (omega arith)

some_there : {A : Type 0} (t : Option A) → is_some t ≡ true → t ≢ None
some_there None e = absurd (cc)
some_there (Some v) e = λ z. cc

same_writes : (rs : List ℕ) (w : ℕ) (p q : ℕ → Answer) → ((k : ℕ) → Below (p k) (q k))
    → ((k : ℕ) → w ≤ k → k < w + length rs → p (384 + k) ≢ None) → writes_from p w rs ≡ writes_from q w rs
same_writes [] w p q h n = refl
same_writes (r ∷ rs) w p q h n =
    ap₂ (λ t ts. or_null t ∷ ts) (below_is _ _ (h (384 + w)) (n w (omega arith) (omega arith)))
    (same_writes rs (suc w) p q h (λ k l m. n k (omega arith) (omega arith)))

same_listed : (p q : ℕ → Option Stored) (n : ℕ) → ((k : ℕ) → k < n → p k ≡ q k) → listed_below p n ≡ listed_below q n
same_listed p q zero h = refl
same_listed p q (suc n) h =
    ap₂ (λ a b. a ++ listed b) (same_listed p q n (λ k l. h k (omega arith))) (h n (omega arith))

byte_same : (p q : ℕ → Option Stored) (mem : ℕ → ℕ) (n a : ℕ) → ((k : ℕ) → k < n → p k ≡ q k)
    → byte_seen p mem n a ≡ byte_seen q mem n a
byte_same p q mem zero a h = refl
byte_same p q mem (suc n) a h =
    ap₂ (λ s b. or_byte (byte_of s a) b) (h n (omega arith)) (byte_same p q mem n a (λ k l. h k (omega arith)))

bytes_same : (p q : ℕ → Option Stored) (mem : ℕ → ℕ) (n a z : ℕ) → ((k : ℕ) → k < n → p k ≡ q k)
    → bytes_seen p mem n a z ≡ bytes_seen q mem n a z
bytes_same p q mem n a zero h = refl
bytes_same p q mem n a (suc z) h = ap₂ (λ x y. x * 256 + y) (bytes_same p q mem n a z h)
    (byte_same p q mem n (a + z) h)

module _ (blocks : List Block) (good : AllGood blocks) (s : State) (f : Frame) (ok : FrameOk blocks (committed s) f)
    (sealed : f.sealed ≡ true) where
  abbrev b : Block
  b = f.code

  runnable : IsRunnable b
  runnable = good f.block b ok.code

  g : ℕ → Answer
  g = own (committed s) f

  solves : Solves b (seen (committed s) f) g
  unfolding g
  solves = own_solves blocks good (committed s) f ok

  holds : Holds blocks f g
  unfolding g
  holds = own_holds blocks good (committed s) f ok

  came : (all_below (write_came f) (length b.writes.items) ≡ true)
      × ((all_below (store_came f) numbers && is_some f.exit) ≡ true)
  came = both_true _ _ (ok.whole sealed)

  came_rest : (all_below (store_came f) numbers ≡ true) × (is_some f.exit ≡ true)
  came_rest = both_true _ _ (came).1

  -- each number has the table's store
  same_store : (n : ℕ) → n < 32 → at f.stores n ≡ store_of b g n
  same_store n l = go (in_mask b.mask n) refl (all_at (store_came f) numbers n (came_rest).0 (let e = numbers_are in
      omega (arith, e, l)))
    where
      none_below : (t : Option Stored) → Below t None → t ≡ None
      none_below None h = refl
      none_below (Some v) h = absurd (let bad : Some v ≡ None = h in cc)

      go : (m : Bool) → in_mask b.mask n ≡ m → (not m || is_some (at f.stores n)) ≡ true
          → at f.stores n ≡ store_of b g n
      go true i e = below_is _ _ ((holds).stores n) (some_there _ e)
      go false i e =
          let off : store_of b g n ≡ None = unmasked b runnable g n l i in
          none_below (at f.stores n) (subst (Below (at f.stores n)) off ((holds).stores n)) ∙ sym off

  same_stores : all_stores (at f.stores) ≡ all_stores (store_of b g)
  unfolding all_stores
  same_stores = same_listed (at f.stores) (store_of b g) 32 same_store

  -- what the frame saw is what the state answers
  same_answers : (x a : ℕ) → seen (committed s) f x a ≡ responses_in b s.registers s.memory g x a
  unfolding seen
  same_answers x a = go (is_read b x)
    where
      reads : (r : Option ReadSlot) → or_zero (read_seen (committed s) r) ≡ read_word s.registers r
      reads None = refl
      reads (Some r) = refl

      slots : (i : Option Inst) → inst_at b x ≡ i → slot_seen (committed s) f i a
          ≡ slot_answered (store_of b g) s.memory i a
      slots None e = refl
      slots (Some i) e =
          let small : i.number < 32 = number_small b (runnable).fits (slot_at b x) i e in
          bytes_same (at f.stores) (store_of b g) (slice_index s.memory) i.number a (size_of i.op)
          (λ k l. same_store k (omega arith))

      go : (v : Bool) → seen_if_read v (committed s) f x a ≡ answered_if_read v b s.registers s.memory g x a
      go true = reads (slice_get b.reads.items x)
      go false = slots (inst_at b x) refl

  itself : Solves b (responses_in b s.registers s.memory g) g
  itself = subst (λ a. Solves b a g) (fun_ext (λ x. fun_ext (λ a. same_answers x a))) solves

  atomic : g ≡ token_of b s.registers s.memory deepest
  atomic = fun_ext (only_solution b s.registers s.memory (runnable).good.ranked g itself)

  exit_is : f.exit ≡ exit_by blocks f.block (leaving_of b g)
  exit_is = below_is _ _ (holds).exit (some_there _ (came_rest).1)

  same_exit : (e : Leaving) → exit_by blocks f.block e ≢ None → effects_with f (exit_by blocks f.block e) ≡ (record {
    writes = writes_from (at f.spots) 0 b.writes.items;
    stores = all_stores (at f.stores);
    exit = exit_of e;
    system = is_system e;
    successor = next_of blocks f.block e;
  })
  same_exit None n = absurd (n refl)
  same_exit (Some p) n = refl

  -- the outputs of the frame are the effects of its block by the committed state
  pub same_effects : outputs f ≡ plain blocks f.block b s.registers s.memory
  same_effects =
      ap (effects_with f) exit_is
      ∙ same_exit (leaving_of b g) (λ z. some_there f.exit (came_rest).1 (exit_is ∙ z))
      ∙ ap₂ (λ t u. let o : Effects = record {
        writes = t;
        stores = u;
        exit = exit_of (leaving_of b g);
        system =
            is_system (leaving_of b g);
        successor = next_of blocks f.block (leaving_of b g);
      } in o)
      (same_writes b.writes.items 0 (at f.spots) (at_place b g) (holds).spots
      (λ k l m. some_there _ (all_at (write_came f) (length b.writes.items) k (came).0 (omega arith))))
      same_stores
      ∙ ap (plain_by blocks f.block b) atomic

  -- its marks are those of the machine
  m : ℕ → ℕ
  m = mark_of b g deepest

  agree : MarksAgree f g m
  unfolding g m
  agree = ok.marks (seen (committed s) f) (own (committed s) f) (own_solves blocks good (committed s) f ok)
      (seen_agrees (committed s) f) (mark_of b (own (committed s) f) deepest)
      (pulled_is_marking b (runnable).good.ranked (own (committed s) f))

  write_held : (w : ℕ) → w < length b.writes.items → mark_held f.marks (384 + w) ≡ mark_at (nodes_of b) g m (384 + w)
  write_held w l =
      let few : length b.writes.items ≤ 32 = (runnable).fits.writes in
      let low : nat_lt (384 + w) 416 ≡ true = grind (arith, nat_tests, l) in
      ap (λ c. cond c (mark_on f.marks.spots (384 + w))
      (cond (nat_lt (384 + w) 448) (mark_on f.marks.stores (384 + w - 416)) f.marks.exit)) low
      ∙ (agree).spots (384 + w) (some_there _ (all_at (write_came f) (length b.writes.items) w (came).0 l))

  store_held : (n : ℕ) → n < 32 → in_mask b.mask n ≡ true
      → mark_held f.marks (416 + n) ≡ mark_at (nodes_of b) g m (416 + n)
  store_held n l e =
      let high : nat_lt (416 + n) 416 ≡ false = grind (arith, nat_tests) in
      let low : nat_lt (416 + n) 448 ≡ true = grind (arith, nat_tests, l) in
      let back : 416 + n - 416 ≡ n = omega arith in
      let here : is_some (at f.stores n) ≡ true = sym (ap (λ c. not c || is_some (at f.stores n)) e)
      ∙ all_at (store_came f) numbers n (came_rest).0 (let z = numbers_are in omega (arith, z, l)) in
      ap (λ c. cond c (mark_on f.marks.spots (416 + n))
      (cond (nat_lt (416 + n) 448) (mark_on f.marks.stores (416 + n - 416)) f.marks.exit)) high
      ∙ ap (λ c. cond c (mark_on f.marks.stores (416 + n - 416)) f.marks.exit) low
      ∙ ap (mark_on f.marks.stores) back ∙ (agree).stores n (some_there _ here)

  exit_held : mark_held f.marks 448 ≡ mark_at (nodes_of b) g m 448
  exit_held = (agree).exit (some_there _ (came_rest).1)

  pub same_cause : cause_held f ≡ cause b (token_of b s.registers s.memory deepest)
  unfolding m
  same_cause = least_same (mark_held f.marks) (mark_at (nodes_of b) g m) (owed b)
      (owed_each (λ q. mark_held f.marks q ≡ mark_at (nodes_of b) g m q) b write_held store_held exit_held)
      ∙ ap (cause b) atomic

  -- what Commit makes of the state, by the oldest frame's outputs or its fault, is the machine's step of its
  -- block
  pub commits : s.next ≡ f.block → come_to b.writes.items (unless (cause_held f) (outputs f)) s ≡ step_of blocks s
  commits e =
      ap₂ (λ c o. come_to b.writes.items (unless c o) s) same_cause
      (same_effects ∙ ap (λ k. plain blocks k b s.registers s.memory) (sym e))
      ∙ ap (λ c. step_in blocks c s) (sym (ap (slice_get blocks) e ∙ ok.code))

  -- without a system call in the block none follows
  any_at : (is : List (Option Inst)) (k : ℕ) (i : Inst) → get_or is k None ≡ Some i → any_call is ≡ false
      → is_scall i.op ≡ false
  any_at [] k i e h = absurd (cc)
  any_at (x ∷ is) zero i e h = sym (ap makes_call e) ∙ (or_false _ _ h).0
  any_at (x ∷ is) (suc k) i e h = any_at is k i e (or_false _ _ h).1

  no_system : is_serial b ≡ false → is_system (leaving_of b g) ≡ false
  no_system h = first_holds (λ o. is_system o ≡ false) refl (nodes_of b) 448
      (λ x. leaves_if_read (is_read b x) b g x) each
    where
      each : (x : ℕ) → is_system (leaves_if_read (is_read b x) b g x) ≡ false
      each x = go (is_read b x)
        where
          inner : (i : Option Inst) → inst_at b x ≡ i → (t : Answer) → is_system (leaves_with i t) ≡ false
          inner None e t = refl
          inner (Some i) e None = refl
          inner (Some i) e (Some t) = any_at b.insts.items (slot_at b x) i e h

          go : (v : Bool) → is_system (leaves_if_read v b g x) ≡ false
          go true = refl
          go false = inner (inst_at b x) refl (g x)

  quiet : is_serial b ≡ false → (outputs f).system ≡ false
  quiet h = ap (λ (o : Effects). o.system) (ap (effects_with f) exit_is
      ∙ same_exit (leaving_of b g) (λ z. some_there f.exit (came_rest).1 (exit_is ∙ z))) ∙ no_system h

  known_next : successor_of f.exit ≡ Some (outputs f).successor
  known_next = go f.exit (came_rest).1
    where
      go : (e : Option Exit) → is_some e ≡ true → successor_of e ≡ Some (effects_with f e).successor
      go None h = absurd (cc)
      go (Some e) h = refl

  stores_are : (outputs f).stores ≡ listed_below (at f.stores) 32
  unfolding all_stores
  stores_are = go f.exit
    where
      go : (e : Option Exit) → (effects_with f e).stores ≡ listed_below (at f.stores) 32
      go None = refl
      go (Some e) = refl

  writes_are : (outputs f).writes ≡ writes_from (at f.spots) 0 b.writes.items
  writes_are = go f.exit
    where
      go : (e : Option Exit) → (effects_with f e).writes ≡ writes_from (at f.spots) 0 b.writes.items
      go None = refl
      go (Some e) = refl

  -- what the next frame saw behind this one is what the new state shows
  module _ (whole : IsWhole s) where
    abbrev new : State
    new = changed b.writes.items (outputs f) s

    more : OlderLe (after f (committed s)) (committed new)
    more = record {
      look = subst (λ ts. LookLe (through b.writes.items 0 (at f.spots) (words s.registers))
          (words (write_all s.registers b.writes.items ts))) (sym writes_are)
          (through_changed b.writes.items 0 (at f.spots) (words s.registers) s.registers whole.registers
          (runnable).fits.each_write (λ q v e. e));
      memory = λ x. sym (ap (λ xs. get_or (store_all s.memory xs) x 0) stores_are
          ∙ stores_leave s.memory (at f.stores) 32
          (λ k l. subst (λ o. FitsStored (length s.memory) o) (sym (same_store k l))
          (subst (λ n. FitsStored n (store_of b g k)) (sym whole.memory) (store_fits b g k))) x
          ∙ ap (λ n. byte_seen (at f.stores) (λ a. get_or s.memory a 0) n x) (sym numbers_are));
      known = λ k e. subst (λ o. follows o k ≡ true) known_next e;
      serial = λ e. refl;
    }

    -- the frames behind a frame that commits are right behind the state that it leaves
    pub go_on : (fs : List Frame) → FramesOk blocks (after f (committed s)) fs
        → FramesOk blocks (committed (apply b.writes.items (outputs f) s).0) fs
    go_on [] all = tt
    go_on (h ∷ hs) all =
        let still : apply b.writes.items (outputs f) s ≡ (new, Went) = ap (λ c. then_system c new) (quiet all.0) in
        subst (λ (p : State × Stepped). FramesOk blocks (committed p.0) (h ∷ hs)) (sym still)
        (frames_more blocks (h ∷ hs) (after f (committed s)) (committed new) more all)
