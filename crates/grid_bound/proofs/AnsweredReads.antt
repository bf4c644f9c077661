-- A bank answers its lowest read of the oldest frame, and the lane goes on as it is served.
use Rattle.std.proofs.Common.{◌≡◌, ◌≢◌, ℕ, suc, ◌+◌, ◌*◌, ◌-◌, ◌<◌, ◌≤◌, ◌==◌, ◌&&◌, ◌⊎◌, inl, inr, Bool, true}
use Rattle.std.proofs.Common.{false, not, List, ◌∷◌, length, Option, Some, None, is_some, slice_get}
use Rattle.std.proofs.Common.{slice_index, slice_index_or, set, refl, sym, ap, ap₂, ◌∙◌, subst, arith}
use Rattle.std.proofs.Math.Path.{fun_ext}
use Rattle.std.proofs.lemmas.Bool.{cond-true, and_from, and_parts}
use Rattle.std.proofs.lemmas.Bool.{and_left, both_ways, cases_eq}
use Rattle.std.proofs.lemmas.Bool.{cases_lt, lt-ltb, eqb-true, eq-eqb, not_from_false, not-true}
use Rattle.std.proofs.lemmas.List.{get_or-set_other}
use Rattle.trips_isa.specs.declared.block.Token.{Token}
use Rattle.trips_isa.specs.declared.block.ReadSlot.{ReadSlot}
use Rattle.trips_isa.specs.declared.block.Block.{Block}
use Rattle.trips_isa.specs.declared.run.Stepped.TheVariants as stepped
use Rattle.trips_isa.specs.Places.{place_of, place_at}
use Rattle.trips_isa.specs.Rule.{Answer}
use Rattle.operand_net.specs.declared.parcel.Stand.TheVariants.{Nowhere}
use Rattle.commit_flush_spec.specs.Causes.{Done}
use Rattle.commit_flush_spec.specs.Frames.{Frame, at, target, is_target}
use Rattle.commit_flush_spec.specs.Older.{committed}
use Rattle.commit_flush_spec.specs.Sending.{send, token_with}
use Rattle.commit_flush_spec.specs.Dataflow.{can_read, read, read_seen, read_answered}
use Rattle.commit_flush_spec.specs.inside.Invariant.{AllGood, FrameOk}
use Rattle.commit_flush_spec.specs.inside.Laws.{WindowOk}
use Rattle.commit_flush_spec.specs.Window.{Window, alone, change, can, happens}
use Rattle.commit_flush_spec.specs.Window as window
use Rattle.commit_flush_spec.proofs.Events.{taken}
use Rattle.commit_flush_spec.proofs.Lists.{flag_here}
use Rattle.commit_flush_spec.specs.inside.Observers.{is_unread}
use Rattle.commit_flush_spec.proofs.Bits.{unread_tells}
use Rattle.commit_flush_spec.proofs.Search.{done_is}
use Rattle.commit_flush_spec.proofs.FramesSeen.{change_oldest}
use Rattle.commit_flush_spec.proofs.Fills.{read_fills}
use Rattle.grid_cycle_spec.specs.Stations.{bank_node, bank_of}
use Rattle.grid_cycle_spec.specs.Grid.{Grid}
use Rattle.grid_cycle_spec.specs.Acting.{may}
use Rattle.grid_cycle_spec.specs.Choosing.{least, eldest, found_in, reads, with_frame}
use Rattle.grid_cycle_spec.specs.Sending.{enter_both}
use Rattle.grid_cycle_spec.specs.Banks.{bank_in, is_bank, answers_read, read_chosen, bank_turn}
use Rattle.grid_bound.specs.inside.Course.{Course, Task}
use Rattle.grid_bound.specs.inside.Lane.{any, Sent, Front, unread}
use Rattle.grid_bound.specs.inside.Sending.{pick, none_busy, station_of, launch, sent_from}
use Rattle.grid_bound.specs.inside.Blocks.{slot_tasks, read_task, target_at, course_of}
use Rattle.grid_bound.specs.inside.Seen.{read_phase, phase_of, front_of}
use Rattle.grid_bound.proofs.Counting.{any_from}
use Rattle.grid_bound.proofs.Sizes.{slot_tasks_is, read_is}
use Rattle.grid_bound.specs.inside.Behind.{Behind}
use Rattle.grid_bound.proofs.Ahead.{same_number, younger_apart}
use Rattle.grid_bound.proofs.Others.{behind_at, read_other}
use Rattle.grid_bound.proofs.OldestEnds.{oldest_ok}
use Rattle.grid_bound.proofs.Fronts.{task_same, same_front, at_read}
use Rattle.grid_bound.proofs.Choosing.{IsLeast, is_least, none_least, elder_other, none_any}
use Rattle.grid_bound.proofs.Entering.{both_only, both_other, first_enters, second_enters, filled_is, read_targets}
use Rattle.grid_bound.proofs.BankAnswers.{reads_are, read_token, unsent_places}
use Rattle.grid_bound.proofs.BankAnswers

module _ {W : Type 0} (blocks : List Block) (good : AllGood blocks) (budget : ℕ) (t : ℕ → Answer) (f : Frame)
    (g : Grid W) where
  abbrev c : Course
  c = course_of f.code t

  abbrev F : Front
  F = front_of c g f

  -- the front after the first k banks
  abbrev read_front : ℕ → Front
  read_front = BankAnswers.read_front blocks good budget t f g

  abbrev unread_slot : (x : ℕ) → x < slot_tasks → unread F x ≡ false
  unread_slot = BankAnswers.unread_slot blocks good budget t f g

  -- what is not read is one of the reads
  abbrev Unread : (x : ℕ) → Type 0
  Unread = BankAnswers.Unread blocks good budget t f g

  -- a task that tests as unread is a read that is not answered
  abbrev unread_is : (x : ℕ) → unread F x ≡ true → Unread x
  unread_is = BankAnswers.unread_is blocks good budget t f g

  -- read r is of bank k, and not answered
  abbrev waits_at : ℕ → ℕ → Bool
  waits_at k r = unread F (slot_tasks + r) && station_of F (slot_tasks + r) == k

  -- how the oldest frame stands after the first k banks
  abbrev AtBank : (k : ℕ) → (h : Grid W) → Type 0
  AtBank = BankAnswers.AtBank blocks good budget t f g

  module _ (k : ℕ) (h : Grid W) (a : AtBank k h) (ok : WindowOk blocks budget h.window)
      (went : h.window.over ≡ stepped.Went) where
    abbrev e : Frame
    e = a.frame

    abbrev test : ℕ → Bool
    test = answers_read blocks budget h k e

    abbrev asks : (r : ℕ)
        → can blocks budget (window.Read e.number r) h.window ≡ can_read r (committed h.window.state) e
    asks = BankAnswers.asks blocks good budget t f g k h a ok went

    abbrev may_is : (r : ℕ) → may blocks budget (window.Read e.number r) h ≡ is_unread e r
    may_is = BankAnswers.may_is blocks good budget t f g k h a ok went

    -- what the bank asks is what the lane asks
    abbrev test_is : (r : ℕ) → test r ≡ waits_at k r
    test_is = BankAnswers.test_is blocks good budget t f g k h a ok went

    -- the next front is the same at each task that the bank does not answer
    abbrev same_next : (x : ℕ) → (pick (unread F) (station_of F) none_busy x ≡ true → station_of F x ≡ k → ⊥)
        → (read_front (suc k)).at x ≡ (read_front k).at x
    same_next = BankAnswers.same_next blocks good budget t f g k h a ok went

    abbrev by_others : (none : (r : ℕ) → r < 32 → test r ≡ false) → (m : Grid W) → Behind e h m → AtBank (suc k) m
    by_others = BankAnswers.by_others blocks good budget t f g k h a ok went

    -- a read of the oldest frame -------------------------------------------------------------------

    module _ (r : ℕ) (first : IsLeast test 32 r) where
      abbrev X : ℕ
      X = slot_tasks + r

      waits : waits_at k r ≡ true
      waits = sym (test_is r) ∙ first.passes

      unread_X : unread F X ≡ true
      unread_X = (and_parts (unread F X) _ waits).0

      station_X : station_of F X ≡ k
      station_X = eqb-true (station_of F X) k (and_parts (unread F X) _ waits).1

      -- it is the lowest of its bank
      none_lower : (y : ℕ) → y < X → (unread F y && station_of F y == station_of F X) ≡ false
      none_lower y l = by (cases_lt y slot_tasks)
        where
          by : (y < slot_tasks) ⊎ (slot_tasks ≤ y) → (unread F y && station_of F y == station_of F X) ≡ false
          by (inl m) = and_left (unread F y) _ (unread_slot y m)
          by (inr m) =
              let i : y ≡ slot_tasks + (y - slot_tasks) = omega (arith, m) in
              ap (λ n. unread F y && station_of F y == n) station_X
              ∙ ap (λ z. unread F z && station_of F z == k) i
              ∙ sym (test_is (y - slot_tasks)) ∙ first.none (y - slot_tasks) (omega (arith, l, m))

      picked : pick (unread F) (station_of F) none_busy X ≡ true
      picked = and_from (unread F X) _ unread_X
          (not_from_false _ (none_any (λ y. unread F y && station_of F y == station_of F X) X none_lower))

      -- and no other of its bank is chosen
      only : (x : ℕ) → x ≢ X → pick (unread F) (station_of F) none_busy x ≡ true → station_of F x ≡ k → ⊥
      only x n p st = by (cases_lt x X)
        where
          u : unread F x ≡ true
          u = (and_parts (unread F x) _ p).0

          by : (x < X) ⊎ (X ≤ x) → ⊥
          by (inl l) = both_ways (unread F x && station_of F x == station_of F X) (none_lower x l)
              (and_from (unread F x) _ u (eq-eqb (station_of F x) (station_of F X) (st ∙ sym station_X)))
          by (inr l) = both_ways (any x (λ y. unread F y && station_of F y == station_of F x))
              (not-true _ (and_parts (unread F x) _ p).1)
              (any_from x (λ y. unread F y && station_of F y == station_of F x) X (omega (arith, l, n))
              (and_from (unread F X) _ unread_X (eq-eqb (station_of F X) (station_of F x) (station_X ∙ sym st))))

      pub q : Unread X
      q = unread_is X unread_X

      abbrev slot : ReadSlot
      slot = q.slot

      pub is_slot : slice_get f.code.reads.items r ≡ Some slot
      is_slot =
          let i : slot_tasks + r ≡ slot_tasks + q.number = q.is_number in
          let z : r ≡ q.number = omega (arith, i) in ap (slice_get f.code.reads.items) z ∙ q.is_slot

      own_slot : slice_get e.code.reads.items r ≡ Some slot
      own_slot = ap (λ b. slice_get b.reads.items r) a.code ∙ is_slot

      task_X : c.task X ≡ read_task f.code (Some slot)
      task_X = read_is f.code t r ∙ ap (read_task f.code) is_slot

      bank_is : bank_of slot.register ≡ k
      bank_is = sym (ap (λ (k : Task). k.station) task_X) ∙ station_X

      own_ok : FrameOk blocks (committed h.window.state) e
      own_ok = oldest_ok blocks budget h.window e a.younger ok a.frames

      not_read : is_unread e r ≡ true
      not_read = sym (may_is r) ∙ (and_parts (is_bank k (bank_in (slice_get e.code.reads.items r))) _ first.passes).1

      flag_off : slice_index_or e.reads r false ≡ false
      flag_off = not-true _ (and_parts _ _ (and_parts (not e.sealed) _ not_read).1).1

      it : can blocks budget (window.Read e.number r) h.window ≡ Done
      it = asks r ∙ done_is (can_read r (committed h.window.state) e)
          (sym (unread_tells h.window.state e r) ∙ not_read)

      abbrev v : ℕ
      v = slice_index h.window.state.registers slot.register

      token : (x : Token) × (token_with e r v ≡ Some x)
      token = some (token_with e r v) (read_token e r v slot own_slot)
        where
          some : (o : Answer) → o ≢ None → (x : Token) × (o ≡ Some x)
          some None n = absurd (n refl)
          some (Some x) n = (x, refl)

      -- the frame with the read answered
      abbrev E : Frame
      E = send r (256 + 2 * r) (Some token.0) (record e { reads = set e.reads r true })

      frame_is : read r (committed h.window.state) e ≡ E
      frame_is = ap (λ o. read_answered r (read_seen (committed h.window.state) o) e) own_slot
          ∙ ap (λ z. send r (256 + 2 * r) z (record e { reads = set e.reads r true })) token.1

      abbrev after : Window
      after = happens blocks budget (window.Read e.number r) h.window

      after_is : after ≡ record h.window { frames = E ∷ a.younger }
      after_is = taken blocks budget (window.Read e.number r) h.window it
          ∙ ap (λ (l : List Frame). record h.window { frames = l })
          (ap (λ l. change (alone (read r)) (committed h.window.state) l e.number) a.frames
          ∙ change_oldest (alone (read r)) (committed h.window.state) e a.younger
          ∙ ap (λ z. z ∷ a.younger) frame_is)

      abbrev M : Grid W
      M = record h { window = after }

      abbrev H : Grid W
      H = enter_both (bank_node k) E (256 + 2 * r) M

      only_parcels : H ≡ record M { parcels = H.parcels }
      only_parcels = both_only (bank_node k) E M (256 + 2 * r)

      -- the places of the read
      small : r < 32
      small = first.below

      filled : (p : ℕ) → (p ≡ 256 + 2 * r) ⊎ (p ≡ suc (256 + 2 * r)) → at e.places p ≡ None
          → is_some (at E.places p) ≡ is_target (target e.code p)
      filled p w z = filled_is (record e { reads = set e.reads r true }) E (256 + 2 * r) p
          (read_fills (record e { reads = set e.reads r true }) r token.0 own_ok.sized.places small p) w z

      empty : (at e.places (256 + 2 * r) ≡ None) × (at e.places (suc (256 + 2 * r)) ≡ None)
      empty = unsent_places blocks (committed h.window.state) e r own_ok flag_off

      quiet_here : (h.parcels e.number (256 + 2 * r) ≡ Nowhere) × (h.parcels e.number (suc (256 + 2 * r)) ≡ Nowhere)
      quiet_here = a.quiet r small flag_off

      abbrev born : ℕ
      born = slice_index M.window.generations E.number

      born_is : born ≡ F.generation
      born_is = ap (λ (w : Window). slice_index w.generations e.number) after_is
          ∙ ap (λ (x : Front). x.generation) a.front

      first_is : H.parcels E.number (256 + 2 * r)
          ≡ launch F.generation (bank_node k) (target_at f.code (place_of slot.first))
      first_is = first_enters (bank_node k) E M (256 + 2 * r) (filled (256 + 2 * r) (inl refl) empty.0) quiet_here.0
          ∙ ap₂ (λ n p. launch n (bank_node k) (target_at e.code p)) born_is (read_targets e.code r slot own_slot).0
          ∙ ap (λ b. launch F.generation (bank_node k) (target_at b (place_of slot.first))) a.code

      second_is : H.parcels E.number (suc (256 + 2 * r))
          ≡ launch F.generation (bank_node k) (target_at f.code (place_at slot.second))
      second_is = second_enters (bank_node k) E M (256 + 2 * r)
          (filled (suc (256 + 2 * r)) (inr refl) empty.1) quiet_here.1
          ∙ ap₂ (λ n p. launch n (bank_node k) (target_at e.code p)) born_is (read_targets e.code r slot own_slot).1
          ∙ ap (λ b. launch F.generation (bank_node k) (target_at b (place_at slot.second))) a.code

      -- the task of the read has sent its tokens
      sent_now : phase_of H E X ≡ (read_front (suc k)).at X
      sent_now =
          at_read H E r ∙ ap (read_phase H E r) own_slot
          ∙ cond-true (slice_index_or (set e.reads r true) r false) _ _
          (flag_here e.reads r (let z : length e.reads ≡ 32 = own_ok.sized.reads in let l = small in
          omega (arith, z, l)))
          ∙ ap (λ p. Sent (H.parcels E.number p) (H.parcels E.number (suc p)))
          (let z : slot_tasks ≡ 128 = slot_tasks_is in let w : 2 * (slot_tasks + r) ≡ 256 + 2 * r =
          omega (arith, z) in w)
          ∙ ap₂ (λ p q. Sent p q) first_is second_is
          ∙ sym (ap₂ (λ n (k : Task). sent_from F.generation n k)
          (ap (λ (k : Task). k.here) task_X ∙ ap bank_node bank_is) task_X)
          ∙ sym (cond-true _ _ _ (and_from (pick (unread F) (station_of F) none_busy X) _ picked
          (lt-ltb (station_of F X) (suc k) (let z = station_X in omega (arith, z)))))

      others_same : (x : ℕ) → x ≢ X → phase_of H E x ≡ (read_front (suc k)).at x
      others_same x n =
          task_same h H e E x (record {
            code = refl;
            fired = refl;
            reads = λ l. get_or-set_other e.reads r (x - slot_tasks) true false
                (λ z. n (let i : x ≡ slot_tasks + r = omega (arith, l, z) in i));
            works = ap (λ (m : Grid W). m.works e.number x) only_parcels;
            waits = λ i j. refl;
            asked = λ i j w. ap (λ (m : Grid W). m.asked e.number i.number) only_parcels;
            first = both_other (bank_node k) E M (256 + 2 * r) (2 * x)
                (λ z. let s = slot_tasks_is in n (omega (arith, z, s)))
                (λ z. let s = slot_tasks_is in absurd (omega (arith, z, s)));
            second = both_other (bank_node k) E M (256 + 2 * r) (suc (2 * x))
                (λ z. let s = slot_tasks_is in absurd (omega (arith, z, s)))
                (λ z. let s = slot_tasks_is in n (omega (arith, z, s)));
          })
          ∙ ap (λ (x2 : Front). x2.at x) a.front ∙ sym (same_next x (only x n))

      phases : (x : ℕ) → phase_of H E x ≡ (read_front (suc k)).at x
      phases x = by (cases_eq x X)
        where
          by : (x ≡ X) ⊎ (x ≡ X → ⊥) → phase_of H E x ≡ (read_front (suc k)).at x
          by (inl i) = subst (λ x. phase_of H E x ≡ (read_front (suc k)).at x) (sym i) sent_now
          by (inr n) = others_same x n

      by_own : AtBank (suc k) H
      by_own = record {
        frame = E;
        younger = a.younger;
        frames = ap (λ (m : Grid W). m.window.frames) only_parcels ∙ ap (λ (w : Window). w.frames) after_is;
        number = a.number;
        code = a.code;
        stores = a.stores;
        runs = a.runs;
        front = same_front (front_of c H E) (read_front (suc k)) refl
            (ap (λ (m : Grid W). slice_index m.window.generations e.number) only_parcels ∙ born_is)
            (fun_ext phases) (ap (λ (x : Front). x.come) a.front)
            (ap (λ (m : Grid W). m.careful e.number) only_parcels ∙ ap (λ (x : Front). x.careful) a.front);
        quiet = λ j l z.
            let n : j ≢ r = λ i. both_ways (slice_index_or (set e.reads r true) j false) z
            (subst (λ j. slice_index_or (set e.reads r true) j false ≡ true) (sym i)
            (flag_here e.reads r (let z : length e.reads ≡ 32 = own_ok.sized.reads in let l = small in
            omega (arith, z, l)))) in
            let old = a.quiet j l (sym (get_or-set_other e.reads r j true false n) ∙ z) in (
              both_other (bank_node k) E M (256 + 2 * r) (256 + 2 * j) (λ i. n (omega (arith, i)))
                  (λ i. absurd (omega (arith, i))) ∙ old.0,
              both_other (bank_node k) E M (256 + 2 * r) (suc (256 + 2 * j)) (λ i. absurd (omega (arith, i)))
                  (λ i. n (omega (arith, i))) ∙ old.1,
            );
      }

      turn_is : read_chosen blocks budget k (Some (e.number, r)) h ≡ H
      turn_is = ap (λ l. with_frame e.number (λ f h. enter_both (bank_node k) f (256 + 2 * r) h) l M)
          (ap (λ (w : Window). w.frames) after_is)
          ∙ cond-true (e.number == e.number) _ _ (same_number e.number)

    -- the bank's turn ------------------------------------------------------------------------------

    -- where the oldest frame stands right behind the first k banks, it does behind one more
    pub bank_turns : AtBank (suc k) (bank_turn blocks budget k h)
    bank_turns = subst (λ l. AtBank (suc k)
        (read_chosen blocks budget k (eldest (answers_read blocks budget h k) reads l) h))
        (sym a.frames) (go (least test reads 0) refl)
      where
        tail : (q : Option (ℕ × ℕ)) → eldest (answers_read blocks budget h k) reads a.younger ≡ q
            → Behind e h (read_chosen blocks budget k q h)
        tail None z = behind_at e h a.younger a.frames
        tail (Some q) z = read_other blocks good budget e h h ok (behind_at e h a.younger a.frames) k q
            (elder_other (answers_read blocks budget h k) reads e.number a.younger q
            (younger_apart blocks budget h.window e a.younger ok a.frames) z)

        go : (o : Option ℕ) → least test reads 0 ≡ o
            → AtBank (suc k) (read_chosen blocks budget k
            (found_in e o (eldest (answers_read blocks budget h k) reads a.younger)) h)
        go None z = by_others (λ r l. none_least test reads z r (let n = reads_are in omega (arith, l, n))) _
            (tail (eldest (answers_read blocks budget h k) reads a.younger) refl)
        go (Some r) z = subst (AtBank (suc k)) (sym (turn_is r (least_of r z))) (by_own r (least_of r z))
          where
            least_of : (r : ℕ) → least test reads 0 ≡ Some r → IsLeast test 32 r
            least_of r z = subst (λ n. IsLeast test n r) reads_are (is_least test reads r z)
