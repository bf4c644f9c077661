-- What Commit makes of a window in code: the effects of the oldest frame are applied, or the run has ended.
use Rattle.std.proofs.Common.{◌≡◌, ℕ, zero, suc, ◌<◌, Bool, true, false, not, nat_le, List, []}
use Rattle.std.proofs.Common.{◌∷◌, Option, Some, None, length, map, set, take, drop, slice_get, refl, sym, ap, ap₂}
use Rattle.std.proofs.Common.{◌∙◌, cond, subst, arith, true≢false}
use Rattle.std.specs.Prelude.{All}
use Rattle.std.proofs.lemmas.Bool.Decides.{nat_tests}
use Rattle.std.proofs.Common.{get_or}
use Rattle.std.specs.Prelude.{remove}
use Rattle.std.proofs.lemmas.Option.{same_Some, none-some}
use Rattle.trips_isa.specs.declared.block.Token.{Token}
use Rattle.std.proofs.lemmas.List.{map-set}
use Rattle.std.proofs.lemmas.List.Elements.{All-nil, All-cons, All-append, All-set}
use Rattle.trips_isa.specs.declared.block.Stored.{Stored}
use Rattle.trips_isa.specs.declared.block.Block.{Block}
use Rattle.trips_isa.specs.declared.block.Image.{Image}
use Rattle.trips_isa.specs.declared.causes.TrapCause.{TrapCause}
use Rattle.trips_isa.specs.declared.run.Stepped.{Stepped}
use Rattle.trips_isa.specs.declared.run.Stepped.TheVariants.{Trap}
use Rattle.trips_isa.specs.TrapCauses.{cause_of}
use Rattle.trips_isa.specs.Rule.{Answer}
use Rattle.trips_isa.specs.Blocks.{store_of, leaving_of, token_of}
use Rattle.trips_isa.specs.Tables.{deepest}
use Rattle.trips_isa.specs.Stores.{data_size, listed, listed_below}
use Rattle.trips_isa.specs.Outcomes.{Effects, all_stores, plain, writes_from, unless}
use Rattle.trips_isa.specs.Machine.{State, Machine, apply}
use Rattle.block_atomic.specs.inside.Bounds.{StoreFits}
use Rattle.block_atomic.specs.inside.Applied.{HasTokens, IsApplied, count_in, applied_in}
use Rattle.commit_flush_spec.specs.Causes.{Unsealed, Spent, Done}
use Rattle.commit_flush_spec.specs.Frames.{Frame, Exit, at}
use Rattle.commit_flush_spec.specs.Older.{committed, follows}
use Rattle.commit_flush_spec.specs.Ends.{outputs, effects_with, cause_held}
use Rattle.commit_flush_spec.specs.InFlight.{Window, is_sealed, can_commit, commit, commit_to}
use Rattle.commit_flush_spec.specs.inside.Numbered.{before, by_age}
use Rattle.commit_flush_spec.specs.inside.Invariant.{FramesOk}
use Rattle.commit_flush_spec.specs.Window.{Commit, can}
use Rattle.commit_flush_spec.proofs.Frames.{not_now}
use Rattle.commit_flush_spec.proofs.Bytes.{FitsStored, FitsValue}
use Rattle.commit_flush_spec.proofs.Stored.{store_fits}
use Rattle.commit_flush_spec.proofs.Applying.{next_in}
use Rattle.commit_flush_spec.proofs.Committing.{same_effects}
use Rattle.reg_bank.specs.inside.Ages.{Ages, drop_from, retire}
use Rattle.commit_flush.specs.Places.{numbers_of}
use Rattle.commit_flush.specs.inside.Places.{frame_of}
use Rattle.commit_flush.specs.inside.Kept.{AreKept}
use Rattle.frame_state.specs.inside.Told.{cause_in, outputs_in}
use Rattle.commit_flush.proofs.OrderFacts.{number_below}
use Rattle.commit_flush.proofs.FrameFacts.{oldest, none_oldest}
use Rattle.commit_flush.proofs.KeptFacts.{drop_kept, retire_kept, oldest_left}
use Rattle.frame_state.specs.declared.phase.Phase.{Phase}
use Rattle.frame_state.specs.inside.Phases.{HasBlock, Keeps, frame_in, generation_of, slots_of}
use Rattle.commit_flush.specs.Seen.{Seen}
use Rattle.commit_flush.specs.inside.Seen.{IsSound, window_of}
use Rattle.commit_flush.specs.inside.Emptied.{IsEmptied}
use Rattle.commit_flush.proofs.SeenFacts.{good, found, numbers_seen}
use Rattle.commit_flush.proofs.PhaseFacts.{seen, read_phase}
use Rattle.commit_flush.proofs.MoveFacts.{inside}
use Rattle.commit_flush.proofs.AskFacts.{goes_on}
use Rattle.commit_flush.proofs.EventFacts.{Becomes, becomes, made, same_generations, same_numbers}

-- what a frame hands on ----------------------------------------------------------------------------

value_fits : (s : Stored) (v : Option ℕ) → FitsValue data_size s v → StoreFits (Some (record s { value = v }))
value_fits s None h = tt
value_fits s (Some v) h = h

fits_of : (o : Option Stored) → FitsStored data_size o → StoreFits o
fits_of None h = tt
fits_of (Some s) h = value_fits s s.value h

listed_fits : (stores : ℕ → Option Stored) → ((n : ℕ) → StoreFits (stores n)) → (n : ℕ)
    → All (λ s. StoreFits (Some s)) (listed_below stores n)
listed_fits stores h zero = All-nil (λ s. StoreFits (Some s))
listed_fits stores h (suc n) =
    All-append (λ s. StoreFits (Some s)) (listed_below stores n) (listed (stores n)) (listed_fits stores h n)
    (one (stores n) (h n))
  where
    one : (o : Option Stored) → StoreFits o → All (λ s. StoreFits (Some s)) (listed o)
    one None f = All-nil (λ s. StoreFits (Some s))
    one (Some s) f = All-cons (λ s. StoreFits (Some s)) s [] f (All-nil (λ s. StoreFits (Some s)))

all_fit : (stores : ℕ → Option Stored) → ((n : ℕ) → StoreFits (stores n))
    → All (λ s. StoreFits (Some s)) (all_stores stores)
unfolding all_stores
all_fit stores h = listed_fits stores h 32

as_many : (spots : ℕ → Answer) (w : ℕ) (rs : List ℕ) → length (writes_from spots w rs) ≡ length rs
as_many spots w [] = refl
as_many spots w (r ∷ rs) = ap suc (as_many spots (suc w) rs)

follows_is : (n k : ℕ) → follows (Some n) k ≡ true → n ≡ k
follows_is n k e = grind (arith, nat_tests)

not_false : (b : Bool) → not b ≡ false → b ≡ true
not_false true e = refl
not_false false e = absurd (cc)

-- the effects of a sealed frame, the oldest one, may be applied
pub record MayApply (blocks : List Block) (s : State) (o : Effects) : Type 0 where
  pub writes : HasTokens blocks s.next o.writes
  pub stores : All (λ s. StoreFits (Some s)) o.stores
  pub successor : o.successor < length blocks

-- a sealed frame is the oldest
pub record IsOldest (blocks : List Block) (budget : ℕ) (w : Window) (f : Frame) (fs : List Frame) : Type 0 where
  pub frames : w.frames ≡ f ∷ fs
  pub sealed : f.sealed ≡ true
  pub room : length w.state.trace < budget
  pub block : w.state.next ≡ f.block
  pub code : slice_get blocks f.block ≡ Some f.code

module _ {image : Image} {budget : ℕ} {machine : Machine} {over : Stepped} {phases : List Phase} {order : List ℕ}
    {registers : Ages} (s : IsSound image budget machine over phases order registers) where
  abbrev old : Window
  old = window_of image.blocks machine.state over phases order

  -- a commit that is done has an oldest frame
  pub has_oldest : can image.blocks budget Commit old ≡ Done
      → (f : Frame) × (fs : List Frame) × IsOldest image.blocks budget old f fs
  has_oldest d = go old.frames refl
    where
      facts : (is_sealed old.frames ≡ true) × (nat_le budget (length machine.state.trace) ≡ false)
      facts =
          let a = not_now (not (is_sealed old.frames)) Unsealed _ (goes_on over (can_commit budget old) d) in
          let b = not_now (nat_le budget (length machine.state.trace)) Spent _ a.1 in
          (not_false _ a.0, b.0)

      go : (xs : List Frame) → old.frames ≡ xs
          → (f : Frame) × (fs : List Frame) × IsOldest image.blocks budget old f fs
      go [] e = absurd (let bad : false ≡ true = sym (ap is_sealed e) ∙ facts.0 in cc)
      go (f ∷ fs) e =
          let ok : FramesOk image.blocks (committed machine.state) (f ∷ fs) =
          subst (FramesOk image.blocks (committed machine.state)) e s.window.frames in (
            f,
            fs,
            record {
              frames = e;
              sealed = sym (ap is_sealed e) ∙ facts.0;
              room = (let x = facts.1 in grind (arith, nat_tests));
              block = follows_is _ _ ok.1;
              code = ok.2.code;
            },
          )

  -- the order begins with its number
  pub order_is : (f : Frame) (fs : List Frame) → IsOldest image.blocks budget old f fs
      → order ≡ f.number ∷ numbers_of fs
  order_is f fs h = sym (numbers_seen s) ∙ ap numbers_of h.frames

  pub frame_is : (f : Frame) (fs : List Frame) → IsOldest image.blocks budget old f fs → (n : ℕ)
      → slice_get (numbers_of old.frames) 0 ≡ Some n → frame_of n old.frames ≡ Some f
  frame_is f fs h n e = oldest old.frames n e ∙ ap (λ xs. slice_get xs 0) h.frames

  -- its effects may be applied
  pub may_apply : (f : Frame) (fs : List Frame) → IsOldest image.blocks budget old f fs
      → MayApply image.blocks machine.state (outputs f)
  may_apply f fs h =
      let ok : FramesOk image.blocks (committed machine.state) (f ∷ fs) =
      subst (FramesOk image.blocks (committed machine.state)) h.frames s.window.frames in
      let same : outputs f ≡ plain image.blocks f.block f.code machine.state.registers machine.state.memory =
      same_effects image.blocks (good s) machine.state f ok.2 h.sealed in
      record {
        writes = subst (λ o. count_in o (outputs f).writes)
            (sym (ap (slice_get image.blocks) h.block ∙ h.code)) (counts f (outputs f) refl);
        stores = subst (λ (o : Effects). All (λ s. StoreFits (Some s)) o.stores) (sym same)
            (all_fit (store_of f.code (token_of f.code machine.state.registers machine.state.memory deepest))
            (λ n. fits_of _ (store_fits f.code
            (token_of f.code machine.state.registers machine.state.memory deepest) n)));
        successor = subst (λ (o : Effects). o.successor < length image.blocks) (sym same)
            (next_in image.blocks (let l : machine.state.next < length image.blocks = s.window.next in
            omega arith) f.block (leaving_of f.code
            (token_of f.code machine.state.registers machine.state.memory deepest)));
      }
    where
      counts : (f : Frame) (o : Effects) → o ≡ outputs f → length o.writes ≡ length f.code.writes.items
      counts f o e = ap (λ (x : Effects). length x.writes) e ∙ by f.exit
        where
          by : (x : Option Exit)
              → length (effects_with f x).writes ≡ length f.code.writes.items
          by None = as_many (at f.spots) 0 f.code.writes.items
          by (Some x) = as_many (at f.spots) 0 f.code.writes.items

  -- with a marked output the run has ended, and no frame is left
  pub traps : (f : Frame) (fs : List Frame) → IsOldest image.blocks budget old f fs
      → can image.blocks budget Commit old ≡ Done → (c : ℕ) → 0 < c → c ≡ cause_held f
      → (phases2 : List Phase) → IsEmptied (drop 0 order) phases phases2
      → (registers2 : Ages) → registers2 ≡ drop_from registers 0
      → Becomes image budget old Commit machine (Trap (cause_of c)) phases2 (take 0 order) registers2
  traps f fs h d zero l e phases2 emptied registers2 drops = absurd (omega arith)
  traps f fs h d (suc c) l e phases2 emptied registers2 drops =
      becomes s Commit d machine (Trap (cause_of (suc c))) phases2 (take 0 order) registers2
      (ap (λ g. made machine.state (Trap (cause_of (suc c))) g []) emptied.generations
      ∙ sym (ap (λ xs. commit xs old) h.frames ∙ ap (λ k. commit_to (unless k (outputs f)) f fs old) (sym e)))
      (emptied.numbers ∙ s.numbers) (emptied.blocks image.blocks s.blocks)
      (subst (λ z. AreKept z (take 0 order) registers2) (sym (emptied.slots image.blocks))
      (drop_kept (slots_of image.blocks phases) order registers registers2 s.kept 0 (λ a r. ap (λ b. b a r) drops)))
      s.room

  -- else its effects are applied, and it is in flight no more
  pub applies : (f : Frame) (fs : List Frame) → IsOldest image.blocks budget old f fs
      → can image.blocks budget Commit old ≡ Done → cause_held f ≡ 0 → (n : ℕ) (ns : List ℕ) → order ≡ n ∷ ns
      → (p q : Phase) → slice_get phases n ≡ Some p → frame_in image.blocks q ≡ None → HasBlock image.blocks q
      → Keeps p q → (machine2 : Machine) (over2 : Stepped)
      → IsApplied image.blocks (outputs f) machine.state (machine2.state, over2) → machine2.budget ≡ machine.budget
      → (registers2 : Ages) → registers2 ≡ retire registers
      → Becomes image budget old Commit machine2 over2 (set phases n q) ns registers2
  applies f fs h d none n ns o_is p q is gone has keeps machine2 over2 applied budget_is registers2 retires =
      let kept : AreKept (slots_of image.blocks phases) (n ∷ ns) registers =
      subst (λ z. AreKept (slots_of image.blocks phases) z registers) o_is s.kept in
      let slots : slots_of image.blocks (set phases n q) ≡ set (slots_of image.blocks phases) n None =
      map-set (frame_in image.blocks) phases n q ∙ ap (set (slots_of image.blocks phases) n) gone in
      let step : (machine2.state, over2) ≡ apply f.code.writes.items (outputs f) machine.state =
      subst (λ z. applied_in z (outputs f) machine.state (machine2.state, over2))
      (ap (slice_get image.blocks) h.block ∙ h.code) applied in
      let tail : fs ≡ by_age (slots_of image.blocks phases) ns =
      younger f fs (slots_of image.blocks phases) n ns kept
      (sym h.frames ∙ ap (by_age (slots_of image.blocks phases)) o_is) in
      becomes s Commit d machine2 over2 (set phases n q) ns registers2
      (ap₂ (λ g xs. made machine2.state over2 g xs) (same_generations s n p q is keeps)
      (ap (λ z. by_age z ns) slots ∙ oldest_left (slots_of image.blocks phases) n ns registers kept ∙ sym tail)
      ∙ ap (λ (z : State × Stepped). made z.0 z.1 (map generation_of phases) fs) step
      ∙ sym (ap (λ xs. commit xs old) h.frames ∙ ap (λ k. commit_to (unless k (outputs f)) f fs old) none))
      (same_numbers s n p q is keeps) (All-set (HasBlock image.blocks) phases n q has s.blocks)
      (subst (λ z. AreKept z ns registers2) (sym slots)
      (retire_kept (slots_of image.blocks phases) n ns registers registers2 kept (λ a r. ap (λ b. b a r) retires)))
      (budget_is ∙ s.room)
    where
      younger : (f : Frame) (fs : List Frame) (slots : List (Option Frame)) (n : ℕ) (ns : List ℕ)
          → AreKept slots (n ∷ ns) registers → f ∷ fs ≡ by_age slots (n ∷ ns) → fs ≡ by_age slots ns
      younger f fs slots n ns k e =
          let w : f ∷ fs ≡ k.there.0.0 ∷ by_age slots ns =
          e ∙ ap (λ h. before h (by_age slots ns)) k.there.0.1 in
          (cc)

-- a commit that is done has a frame in flight
pub never_empty : (blocks : List Block) (budget : ℕ) (w : Window) → can blocks budget Commit w ≡ Done
    → slice_get (numbers_of w.frames) 0 ≡ None → ⊥
never_empty blocks budget w d e =
    let a = not_now (not (is_sealed w.frames)) Unsealed _ (goes_on w.over (can_commit budget w) d) in
    let none : w.frames ≡ [] = none_oldest w.frames e in
    let bad : true ≡ false = sym (ap (λ xs. not (is_sealed xs)) none) ∙ a.0 in
    true≢false bad

-- what was told of the oldest frame ------------------------------------------------------------------

effects_same : (o : Effects) (ws : List Token) (ss : List Stored) (x : ℕ) (y : Bool) (z : ℕ) → ws ≡ o.writes
    → ss ≡ o.stores → x ≡ o.exit → y ≡ o.system → z ≡ o.successor
    → (let e : Effects = record { writes = ws; stores = ss; exit = x; system = y; successor = z } in e) ≡ o
effects_same o ws ss x y z a b c d e =
    ap (λ (us : List Token). let r : Effects =
    record { writes = us; stores = ss; exit = x; system = y; successor = z } in r) a
    ∙ ap (λ (us : List Stored). let r : Effects =
    record { writes = o.writes; stores = us; exit = x; system = y; successor = z } in r) b
    ∙ ap (λ (u : ℕ). let r : Effects =
    record { writes = o.writes; stores = o.stores; exit = u; system = y; successor = z } in r) c
    ∙ ap (λ (u : Bool). let r : Effects =
    record { writes = o.writes; stores = o.stores; exit = o.exit; system = u; successor = z } in r) d
    ∙ ap (λ (u : ℕ). let r : Effects =
    record { writes = o.writes; stores = o.stores; exit = o.exit; system = o.system; successor = u } in r) e

module _ {image : Image} {budget : ℕ} {machine : Machine} {over : Stepped} {phases : List Phase} {order : List ℕ}
    {registers : Ages} (s : IsSound image budget machine over phases order registers) where
  abbrev was : Window
  was = window_of image.blocks machine.state over phases order

  -- it is one of the eight
  pub oldest_below : (v : Seen) → seen s ≡ v → (n : ℕ) → slice_get (numbers_of v.window.frames) 0 ≡ Some n → n < 8
  oldest_below v w n e = number_below order s.kept.once 0 n
      (ap (λ xs. slice_get xs 0) (sym (numbers_seen s))
      ∙ ap (λ (z : Seen). slice_get (numbers_of z.window.frames) 0) w ∙ e)

  first_number : (v : Seen) → seen s ≡ v → (n : ℕ) → slice_get (numbers_of v.window.frames) 0 ≡ Some n
      → slice_get (numbers_of was.frames) 0 ≡ Some n
  first_number v w n e = ap (λ (z : Seen). slice_get (numbers_of z.window.frames) 0) w ∙ e

  -- where the oldest frame has a fault, Commit ends the run by its cause and empties all frames
  pub traps_told : (n c : ℕ) (k : TrapCause) → k ≡ cause_of c → (v : Seen) → seen s ≡ v
      → can v.image.blocks v.budget Commit v.window ≡ Done
      → slice_get (numbers_of v.window.frames) 0 ≡ Some n → c ≡ cause_in (frame_of n v.window.frames) → 0 < c
      → (phases2 : List Phase) → IsEmptied (drop 0 order) phases phases2 → (order2 : List ℕ) → order2 ≡ take 0 order
      → (registers2 : Ages) → (0 < 8 → registers2 ≡ drop_from registers 0)
      → Becomes image budget was Commit machine (Trap k) phases2 order2 registers2
  traps_told n c k k_is v w d e cause_is l phases2 emptied order2 cut registers2 dropped =
      let d2 = inside s Commit v w d in
      let t = has_oldest s d2 in
      let f : Frame = t.0 in
      let is : frame_of n was.frames ≡ Some f = frame_is s f t.1 t.2 n (first_number v w n e) in
      let held : c ≡ cause_held f = cause_is
      ∙ ap (λ (z : Seen). cause_in (frame_of n z.window.frames)) (sym w) ∙ ap cause_in is
      ∙ ap (λ b. cond b (cause_held f) 0) t.2.sealed in
      subst (λ x. Becomes image budget was Commit machine (Trap k) phases2 x registers2) (sym cut)
      (subst (λ (j : TrapCause). Becomes image budget was Commit machine (Trap j) phases2 (take 0 order) registers2)
      (sym k_is) (traps s f t.1 t.2 d2 c l held phases2 emptied registers2 (dropped (omega arith))))

  -- what it hands on is what its frame holds
  handed : (v : Seen) → seen s ≡ v → can v.image.blocks v.budget Commit v.window ≡ Done → (n : ℕ)
      → slice_get (numbers_of v.window.frames) 0 ≡ Some n → (p : Phase) → p ≡ get_or phases n p → (o : Effects)
      → Some o ≡ outputs_in (frame_in image.blocks p) → (f : Frame) (fs : List Frame)
      → IsOldest image.blocks budget was f fs → o ≡ outputs f
  handed v w d n e p r o told f fs h =
      let l = oldest_below v w n e in
      let is : frame_in image.blocks p ≡ Some f = found s n p (read_phase s n p l r)
      ∙ frame_is s f fs h n (first_number v w n e) in
      let both : Some o ≡ Some (outputs f) = told ∙ ap outputs_in is
      ∙ ap (λ b. cond b (Some (outputs f)) None) h.sealed in
      same_Some o (outputs f) both

  -- the outputs of a frame that may commit may be applied to the machine's state
  pub may_told : (v : Seen) → seen s ≡ v → can v.image.blocks v.budget Commit v.window ≡ Done → (n : ℕ)
      → slice_get (numbers_of v.window.frames) 0 ≡ Some n → (p : Phase) → p ≡ get_or phases n p → (o : Effects)
      → Some o ≡ outputs_in (frame_in image.blocks p) → MayApply image.blocks machine.state o
  may_told v w d n e p r o told =
      let t = has_oldest s (inside s Commit v w d) in
      subst (MayApply image.blocks machine.state) (sym (handed v w d n e p r o told t.0 t.1 t.2))
      (may_apply s t.0 t.1 t.2)

  pub room_told : (v : Seen) → seen s ≡ v → can v.image.blocks v.budget Commit v.window ≡ Done
      → length machine.state.trace < machine.budget
  room_told v w d =
      let t = has_oldest s (inside s Commit v w d) in
      subst (λ b. length machine.state.trace < b) (sym s.room) t.2.room

  -- a sealed frame is there
  pub hands_on : (v : Seen) → seen s ≡ v → can v.image.blocks v.budget Commit v.window ≡ Done → (n : ℕ)
      → slice_get (numbers_of v.window.frames) 0 ≡ Some n → (p : Phase) → p ≡ get_or phases n p
      → None ≡ outputs_in (frame_in image.blocks p) → ⊥
  hands_on v w d n e p r told =
      let t = has_oldest s (inside s Commit v w d) in
      let l = oldest_below v w n e in
      let is : frame_in image.blocks p ≡ Some t.0 = found s n p (read_phase s n p l r)
      ∙ frame_is s t.0 t.1 t.2 n (first_number v w n e) in
      none-some (outputs t.0) (told ∙ ap outputs_in is ∙ ap (λ b. cond b (Some (outputs t.0)) None) t.2.sealed)

  -- where the oldest frame has no fault, Commit applies its outputs to the state and takes it out of the order
  pub applies_told : (v : Seen) → seen s ≡ v → can v.image.blocks v.budget Commit v.window ≡ Done → (n : ℕ)
      → slice_get (numbers_of v.window.frames) 0 ≡ Some n → cause_in (frame_of n v.window.frames) ≡ 0
      → (p q : Phase) → p ≡ get_or phases n p → (o : Effects) → Some o ≡ outputs_in (frame_in image.blocks p)
      → frame_in image.blocks q ≡ None → HasBlock image.blocks q → Keeps p q
      → (ws : List Token) (ss : List Stored) (x : ℕ) (y : Bool) (z : ℕ) → ws ≡ o.writes → ss ≡ o.stores → x ≡ o.exit
      → y ≡ o.system → z ≡ o.successor → (machine2 : Machine) (over2 : Stepped)
      → IsApplied image.blocks (record { writes = ws; stores = ss; exit = x; system = y; successor = z })
      machine.state
      (machine2.state, over2) → machine2.budget ≡ machine.budget
      → (order2 : List ℕ) → order2 ≡ remove order 0 → (registers2 : Ages) → registers2 ≡ retire registers
      → Becomes image budget was Commit machine2 over2 (set phases n q) order2 registers2
  applies_told v w d n e none p q r o told gone has keeps ws ss x y z ws_is ss_is x_is y_is z_is machine2 over2
      applied
      budget_is order2 cut registers2 retires =
      let d2 = inside s Commit v w d in
      let t = has_oldest s d2 in
      let f : Frame = t.0 in
      let h = t.2 in
      let l = oldest_below v w n e in
      let first : frame_of n was.frames ≡ Some f = frame_is s f t.1 h n (first_number v w n e) in
      let unmarked : cause_held f ≡ 0 = sym (ap (λ (u : Seen). cause_in (frame_of n u.window.frames)) (sym w)
      ∙ ap cause_in first ∙ ap (λ b. cond b (cause_held f) 0) h.sealed) ∙ none in
      let begins : order ≡ f.number ∷ numbers_of t.1 = order_is s f t.1 h in
      let numbered : f.number ≡ n = same_Some f.number n
      (ap (λ xs. slice_get xs 0) (sym begins ∙ sym (numbers_seen s)) ∙ first_number v w n e) in
      let order_n : order ≡ n ∷ numbers_of t.1 = begins ∙ ap (λ k. k ∷ numbers_of t.1) numbered in
      let whole : o ≡ outputs f = handed v w d n e p r o told f t.1 h in
      subst (λ k. Becomes image budget was Commit machine2 over2 (set phases n q) k registers2)
      (sym (cut ∙ ap (λ xs. remove xs 0) order_n))
      (applies s f t.1 h d2 unmarked n (numbers_of t.1) order_n p q
      (read_phase s n p l r) gone has keeps machine2 over2
      (subst (λ k. IsApplied image.blocks k machine.state (machine2.state, over2))
      (effects_same o ws ss x y z ws_is ss_is x_is y_is z_is ∙ whole) applied) budget_is registers2 retires)

-- the frame that is read and the one that is changed are the same
pub keeps_read : (p q r : Phase) (phases : List Phase) (n : ℕ) → p ≡ get_or phases n p → q ≡ get_or phases n q
    → n < length phases → Keeps q r → Keeps p r
keeps_read p q r phases n a b l k =
    let same : q ≡ p = b ∙ same_default phases n q p l ∙ sym a in subst (λ x. Keeps x r) same k
  where
    same_default : (xs : List Phase) (j : ℕ) (d e : Phase) → j < length xs → get_or xs j d ≡ get_or xs j e
    same_default [] j d e h = absurd (omega arith)
    same_default (x ∷ xs) zero d e h = refl
    same_default (x ∷ xs) (suc j) d e h = same_default xs j d e (omega arith)
