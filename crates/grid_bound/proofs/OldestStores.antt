-- Part (4), stores: a store of the oldest frame is resolved, or finds a load of its own frame wrong and flushes it.
use Rattle.std.proofs.Common.{◌≡◌, ◌≢◌, ℕ, suc, ◌+◌, ◌*◌, ◌-◌, ◌<◌, ◌≤◌, ◌==◌, ◌&&◌, ◌||◌, ◌⊎◌, inl, inr, Bool}
use Rattle.std.proofs.Common.{true, false, cond, not, nat_lt, List, [], ◌∷◌, length, drop}
use Rattle.std.proofs.Common.{Option, Some, None, is_some}
use Rattle.std.proofs.Common.{slice_index, set, refl, sym, ap, ap₂, ◌∙◌, subst, arith, true≢false}
use Rattle.std.proofs.Math.Path.{fun_ext}
use Rattle.std.proofs.lemmas.Bool.{cond-true, cond-false, and_right, both_ways, cases_eq, ne_eqb, eq-eqb}
use Rattle.std.proofs.lemmas.Bool.{or_cases, eqb-true, lt-ltb, le-ltb, or_right, false_from_ne_true, ltb-false}
use Rattle.trips_isa.specs.declared.block.Inst.{Inst}
use Rattle.trips_isa.specs.declared.block.Stored.{Stored}
use Rattle.trips_isa.specs.declared.block.Block.{Block}
use Rattle.trips_isa.specs.declared.form.Form.{Form}
use Rattle.trips_isa.specs.declared.form.Form.TheVariants as form
use Rattle.trips_isa.specs.declared.run.Stepped.TheVariants as stepped
use Rattle.trips_isa.specs.Fits.{FitsForm}
use Rattle.trips_isa.specs.Forms.{form_of, is_store}
use Rattle.trips_isa.specs.Places.{place_at}
use Rattle.trips_isa.specs.Rule.{Answer}
use Rattle.trips_isa.specs.Stores.{stored_of}
use Rattle.trips_isa.specs.Blocks.{at_place}
use Rattle.block_cases.specs.Orders.{slot_of}
use Rattle.commit_flush_spec.specs.Causes.{NoFrame, NoRequest, Done, NotNow, judged}
use Rattle.commit_flush_spec.specs.Frames.{Frame, Taken, at, numbers, slot_node}
use Rattle.commit_flush_spec.specs.Sending.{mark_with}
use Rattle.commit_flush_spec.specs.Older.{Older, took_touched, nearest, violated, cut}
use Rattle.commit_flush_spec.specs.Memory.{is_request, can_store, store, store_resolved, with_store, checked}
use Rattle.commit_flush_spec.specs.inside.Invariant.{AllGood, FrameOk, FramesOk}
use Rattle.commit_flush_spec.specs.inside.Laws.{WindowOk, NoneLost, AllKept}
use Rattle.commit_flush_spec.specs.Window.{Window, change, can, can_now, unless_over, done, happens}
use Rattle.commit_flush_spec.specs.Window as window
use Rattle.commit_flush_spec.proofs.Events.{taken}
use Rattle.commit_flush_spec.proofs.Lists.{none_at, other_at}
use Rattle.commit_flush_spec.proofs.Stored.{inst_fits}
use Rattle.commit_flush_spec.proofs.Whole.{happens_moves}
use Rattle.commit_flush_spec.proofs.FramesSeen.{change_oldest, in_the_mask}
use Rattle.commit_flush_spec.proofs.Guesses.{not_violated}
use Rattle.commit_flush_spec.proofs.Search.{some_is}
use Rattle.commit_flush_spec.proofs.Stuck.{numbers_are}
use Rattle.grid_cycle_spec.specs.Stations.{data_node}
use Rattle.grid_cycle_spec.specs.Grid.{Grid}
use Rattle.grid_cycle_spec.specs.Acting.{act, flushed, gone, is_done, settled}
use Rattle.grid_cycle_spec.specs.inside.Arrivals.{is_waiting}
use Rattle.grid_cycle_spec.specs.Choosing.{found_in, least}
use Rattle.grid_cycle_spec.specs.DataTiles.{tile_by, unasked, stored_by, wrong_behind, wrong_from, wrong_in}
use Rattle.grid_cycle_spec.specs.DataTiles.{wrong_load}
use Rattle.grid_cycle_spec.specs.DataTiles.{by_block, waits_now}
use Rattle.grid_cycle_spec.specs.DataTiles as tiles
use Rattle.grid_bound.specs.inside.Course.{Course, Task}
use Rattle.grid_bound.specs.inside.Lane.{Phase, Sent, Front, Stage}
use Rattle.grid_bound.specs.inside.Lane as lane
use Rattle.grid_bound.specs.inside.Answering.{hits, resolves, answer_one}
use Rattle.grid_bound.specs.inside.Answering as answering
use Rattle.grid_bound.specs.inside.Blocks.{kind_of, first_of, slot_task, target_at}
use Rattle.grid_bound.specs.inside.Seen.{slot_phase, phase_of, has_come, front_of, fetch_of}
use Rattle.grid_bound.specs.inside.Behind.{Behind}
use Rattle.grid_bound.specs.inside.DataRule.{DataRule}
use Rattle.grid_bound.proofs.Ahead.{same_number}
use Rattle.grid_bound.proofs.Others.{behind_at, behind_same, was_flushed, acted_leaving, waiting_now}
use Rattle.grid_bound.proofs.OldestEnds.{asks_oldest}
use Rattle.grid_bound.proofs.Fronts.{front_behind, slot_far, slot_phase_is, same_front, at_slot}
use Rattle.grid_bound.proofs.Choosing.{none_least}
use Rattle.grid_bound.proofs.OldestRequests as asking

-- what is violated is a load that took a touched byte
some_violated : (touched : ℕ → ℕ → Bool) (ts : List (Option Taken)) → violated touched ts ≡ true
    → (k : ℕ) × (k < length ts) × (took_touched (touched k) (at ts k) ≡ true)
some_violated touched [] v = absurd (true≢false (sym v))
some_violated touched (t ∷ ts) v =
    go (or_cases (took_touched (touched 0) t) (violated (λ n. touched (suc n)) ts) v)
    (some_violated (λ n. touched (suc n)) ts)
  where
    go : (took_touched (touched 0) t ≡ true) ⊎ (violated (λ n. touched (suc n)) ts ≡ true)
        → (violated (λ n. touched (suc n)) ts ≡ true
        → (k : ℕ) × (k < length ts) × (took_touched (touched (suc k)) (at ts k) ≡ true))
        → (k : ℕ) × (k < suc (length ts)) × (took_touched (touched k) (at (t ∷ ts) k) ≡ true)
    go (inl z) ih = (0, omega arith, z)
    go (inr z) ih = let r = ih z in let l : r.0 < length ts = r.1 in (suc r.0, omega (arith, l), r.2)

module _ {W : Type 0} (blocks : List Block) (good : AllGood blocks) (budget : ℕ) (h : Grid W) (e : Frame)
    (younger : List Frame) (i : h.window.frames ≡ e ∷ younger) (ok : WindowOk blocks budget h.window)
    (rule : DataRule h e) (k : ℕ) (asked : h.asked e.number k ≡ true) (went : h.window.over ≡ stepped.Went)
    (runs : e.sealed ≡ false) where
  abbrev o : Older
  o = asking.o blocks good budget h e younger i ok rule k asked

  abbrev t : ℕ → Answer
  t = asking.t blocks good budget h e younger i ok rule k asked

  abbrev c : Course
  c = asking.c blocks good budget h e younger i ok rule k asked

  abbrev F : Front
  F = asking.F blocks good budget h e younger i ok rule k asked

  abbrev s : ℕ
  s = asking.s blocks good budget h e younger i ok rule k asked

  abbrev j : Inst
  j = asking.j blocks good budget h e younger i ok rule k asked

  own_ok : FrameOk blocks o e
  own_ok = asking.own_ok blocks good budget h e younger i ok rule k asked

  is_slot : slot_of e.code s ≡ Some j
  is_slot = (asking.ask blocks good budget h e younger i ok rule k asked).is_inst

  unresolved : at e.stores k ≡ None
  unresolved = rule.unresolved k s (asking.here blocks good budget h e younger i ok rule k asked).waits

  module _ (kind : form_of j.op ≡ form.Store) where
    stores : is_store (form_of j.op) ≡ true
    stores = ap is_store kind

    it : can blocks budget (window.Store e.number k) h.window ≡ Done
    it = ap (λ o. unless_over o (can_now blocks budget (window.Store e.number k) h.window)) went
        ∙ asks_oldest blocks budget h.window e younger i (NotNow NoFrame) (can_store k)
        ∙ ap₂ (λ b q. judged ((b, NoFrame) ∷ (not (is_request is_store q), NoRequest) ∷ [])) runs
        (asking.request_is blocks good budget h e younger i ok rule k asked)
        ∙ ap (λ b. judged ((not b, NoRequest) ∷ [])) stores

    abbrev value : Option Stored
    value = stored_of j (at e.spots s) (at e.spots (128 + s))

    -- the frame with the store resolved
    abbrev pub V : Frame
    V = with_store k value (mark_with e (slot_node e.code s)) e

    -- whether the store makes a load of its own frame wrong
    abbrev pub wrong : Bool
    wrong = violated (nearest (at V.stores) k) e.loads

    abbrev after : Window
    after = happens blocks budget (window.Store e.number k) h.window

    after_is : after ≡ record h.window { frames = checked k V younger }
    after_is = taken blocks budget (window.Store e.number k) h.window it
        ∙ ap (λ (l : List Frame). record h.window { frames = l })
        (ap (λ l. change (store k) o l e.number) i ∙ change_oldest (store k) o e younger
        ∙ ap (store_resolved k e younger) (asking.request_is blocks good budget h e younger i ok rule k asked))

    abbrev A : Grid W
    A = unasked e.number k h

    abbrev base : Grid W
    base = record A { window = after }

    -- the grid behind the store that is resolved
    abbrev pub H : Grid W
    H = tiles.store_resolved blocks budget e.number k h

    -- the store flushes its own frame ----------------------------------------------------------------

    module _ (bad : wrong ≡ true) where
      none_left : after.frames ≡ []
      none_left = ap (λ (w : Window). w.frames) after_is
          ∙ cond-true wrong [] (V ∷ cut (nearest (at V.stores) k numbers) younger) bad

      all_gone : gone h.window after ≡ e ∷ younger
      all_gone = ap₂ (λ l m. drop (length l) m) none_left i

      -- the frame was not careful, since a load of it was guessed
      pub not_careful : F.careful ≡ false
      not_careful = false_from_ne_true (h.careful e.number) (λ z. both_ways wrong
          (not_violated e k (at V.stores) own_ok.sized.loads
          (in_the_mask blocks good o e younger own_ok k s j
          (asking.here blocks good budget h e younger i ok rule k asked).waits is_slot stores unresolved)
          unresolved (rule.careful z)) bad)

      abbrev found : Option ℕ
      found = least (λ n. took_touched (nearest (at V.stores) k n) (at e.loads n)) numbers 0

      some_found : (n : ℕ) × (found ≡ Some n)
      some_found = go found refl
        where
          go : (q : Option ℕ) → found ≡ q → (n : ℕ) × (found ≡ Some n)
          go (Some n) z = (n, z)
          go None z =
              let r = some_violated (nearest (at V.stores) k) e.loads bad in
              let l : r.0 < length e.loads = r.1 in
              let m : length e.loads ≡ 32 = own_ok.sized.loads in
              let w = numbers_are in
              absurd (both_ways (took_touched (nearest (at V.stores) k r.0) (at e.loads r.0))
              (none_least (λ n. took_touched (nearest (at V.stores) k n) (at e.loads n)) numbers z r.0
              (omega (arith, l, m, w))) r.2)

      wrong_is : wrong_load blocks budget e.number k h.window ≡ Some (e.number, some_found.0)
      wrong_is = ap (λ z. cond (is_done z) (wrong_in e.number k h.window.frames) None) it
          ∙ ap (wrong_in e.number k) i
          ∙ cond-true (e.number == e.number) _ _ (same_number e.number)
          ∙ ap (λ q. wrong_from k (with_store k (stored_by e q) 0 e) younger)
          (asking.request_is blocks good budget h e younger i ok rule k asked)
          ∙ ap (λ q. found_in e q (wrong_behind (nearest (at V.stores) k numbers) younger)) some_found.1

      -- its block stands as the next one
      block_is : by_block h.window.frames (wrong_load blocks budget e.number k h.window)
          ≡ Some (e.block, some_found.0)
      block_is = ap₂ by_block i wrong_is ∙ cond-true (e.number == e.number) _ _ (same_number e.number)

      next_is : (h.window.state.next == e.block) ≡ true
      next_is = (subst (FramesOk blocks o) i ok.frames).1

      flushed_is : H ≡ waits_now (Some (e.block, some_found.0)) (settled (flushed (e ∷ younger) base))
      flushed_is = ap₂ (λ q l. waits_now q (settled (flushed l base))) block_is all_gone

      -- a store that makes a load of the oldest frame wrong leaves no frame in flight
      pub emptied : H.window.frames ≡ []
      emptied = ap (λ (m : Grid W). m.window.frames) flushed_is ∙ none_left

      -- behind such a store the same block is to be fetched again, with care
      pub fetch_is : fetch_of H H.fetching ≡ lane.Fetching None true
      fetch_is = ap (λ (m : Grid W). fetch_of m m.fetching) flushed_is
          ∙ ap (λ (w : Window). lane.Fetching None (e.block == w.state.next)) after_is
          ∙ ap (lane.Fetching None) (eq-eqb e.block h.window.state.next
          (sym (eqb-true h.window.state.next e.block next_is)))

    -- the store is resolved ----------------------------------------------------------------------------

    module _ (fine : wrong ≡ false) where
      abbrev rest : List Frame
      rest = cut (nearest (at V.stores) k numbers) younger

      pub left : after ≡ record h.window { frames = V ∷ rest }
      left = after_is ∙ ap (λ (l : List Frame). record h.window { frames = l })
          (cond-false wrong [] (V ∷ rest) fine)

      in_front : after.frames ≡ V ∷ rest
      in_front = ap (λ (w : Window). w.frames) left

      only_younger : Behind V base (flushed (gone h.window after) base)
      only_younger = was_flushed V base (gone h.window after) base
          (acted_leaving e A blocks budget A (window.Store e.number k) ok younger rest i V refl in_front)
          (behind_at V base rest in_front)

      -- what else the store does is of younger frames
      pub stays : Behind V base H
      stays = waiting_now V base
          (by_block h.window.frames (wrong_load blocks budget e.number k h.window))
          (act blocks budget (window.Store e.number k) A)
          (behind_same V base (flushed (gone h.window after) base) (act blocks budget (window.Store e.number k) A)
          refl refl refl refl refl only_younger)

      -- the store has come
      lost : NoneLost V
      lost = (subst AllKept in_front
          (happens_moves blocks good budget (window.Store e.number k) h.window ok).ok.kept).0 runs

      came : at V.stores k ≢ None
      came z = go (lost.stores s j is_slot stores (asking.ask blocks good budget h e younger i ok rule k asked).fired)
        where
          number : j.number ≡ k
          number = (asking.ask blocks good budget h e younger i ok rule k asked).number

          go : (at V.stores j.number ≢ None) ⊎ (at V.requests j.number ≡ Some s) → ⊥
          go (inl n) = n (ap (at V.stores) number ∙ z)
          go (inr w) =
              let bad : None ≡ Some s = sym (none_at e.requests k) ∙ sym (ap (at V.requests) number) ∙ w in cc

      answers : asking.Answers blocks good budget h e younger i ok rule k asked V base
      answers = record {
        number = refl;
        code = refl;
        fired = refl;
        reads = refl;
        requests = refl;
        works = refl;
        asks = λ n z. cond-false ((e.number == e.number) && (n == k)) false (h.asked e.number n)
            (and_right (e.number == e.number) (n == k) (ne_eqb n k z));
        parcels = λ p n m. refl;
      }

      abbrev K : Task
      K = slot_task e.code t s (Some j)

      -- nothing of it travels
      sent_now : phase_of base V s ≡ answering.settled F.generation (c.task s).stores (c.task s)
      sent_now =
          at_slot base V s (asking.in_tasks blocks good budget h e younger i ok rule k asked)
          ∙ ap (slot_phase base V s) is_slot ∙ slot_phase_is base V s j
          ∙ ap₂ (λ f w. slot_far (kind_of (form_of j.op)) f w (is_waiting (at V.requests j.number) s)
          (base.asked V.number j.number) (base.parcels V.number (2 * s)) (base.parcels V.number (suc (2 * s))))
          (asking.ask blocks good budget h e younger i ok rule k asked).fired
          (asking.here blocks good budget h e younger i ok rule k asked).left
          ∙ ap₂ (λ z w. slot_far z true false w
          (base.asked V.number j.number) (base.parcels V.number (2 * s)) (base.parcels V.number (suc (2 * s))))
          (ap kind_of kind)
          (ap (λ n. is_waiting (at (set e.requests k None) n) s)
          (asking.ask blocks good budget h e younger i ok rule k asked).number
          ∙ ap (λ q. is_waiting q s) (none_at e.requests k))
          ∙ ap₂ (λ p q. Sent p q) (asking.here blocks good budget h e younger i ok rule k asked).first
          (asking.here blocks good budget h e younger i ok rule k asked).second
          ∙ sym (ap (λ (z : Task). answering.settled F.generation z.stores z)
          (asking.task_s blocks good budget h e younger i ok rule k asked)
          ∙ ap (λ b. answering.settled F.generation b K) stores)

      abbrev spot : ℕ
      spot = 416 + k

      first_is : K.first ≡ Some (record { spot = 416 + k; there = data_node (tile_by j (at_place e.code t s)) })
      first_is = ap (λ z. first_of e.code z j (data_node (tile_by j (at_place e.code t s)))) kind
          ∙ ap (λ (n : ℕ). Some (record { spot = 416 + n; there = data_node (tile_by j (at_place e.code t s)) }))
          (asking.ask blocks good budget h e younger i ok rule k asked).number

      second_is : K.second ≡ None
      second_is = ap (λ q. target_at e.code (place_at q))
          (no_second (form_of j.op) kind
          (inst_fits e.code (good e.block e.code own_ok.code).fits s j is_slot))
        where
          no_second : (z : Form) → z ≡ form.Store → FitsForm z j → j.second ≡ None
          no_second z w f = (subst (λ z. FitsForm z j) w f).0.second

      resolves_is : (q : ℕ) → resolves (c.task s).stores (c.task s) q ≡ (spot == q)
      resolves_is q =
          ap (λ (z : Task). resolves z.stores z q) (asking.task_s blocks good budget h e younger i ok rule k asked)
          ∙ ap (λ b. resolves b K q) stores ∙ ap₂ (λ x y. hits x q || hits y q) first_is second_is ∙ go (spot == q)
        where
          go : (b : Bool) → (b || false) ≡ b
          go true = refl
          go false = refl

      -- its number has its token
      come_is : (q : ℕ) → has_come V q ≡ (F.come q || resolves (c.task s).stores (c.task s) q)
      come_is q = by (cases_eq q spot) ∙ sym (ap (λ b. has_come e q || b) (resolves_is q))
        where
          fits : k < 32
          fits = asking.number_fits blocks good budget h e younger i ok rule k asked

          here : has_come V spot ≡ true
          here =
              let z : spot - 416 ≡ k = omega arith in
              cond-false (nat_lt spot 416) _ _ (le-ltb spot 416 (omega arith))
              ∙ cond-true (nat_lt spot 448) _ _ (lt-ltb spot 448 (let l = fits in omega (arith, l)))
              ∙ ap (λ n. is_some (at V.stores n)) z ∙ some_is (at V.stores k) came

          elsewhere : (q ≡ spot → ⊥) → (b d : Bool) → nat_lt q 416 ≡ b
              → cond b (is_some (at e.spots q))
              (cond d (is_some (at V.stores (q - 416))) (q == 448 && is_some e.exit))
              ≡ cond b (is_some (at e.spots q))
              (cond d (is_some (at e.stores (q - 416))) (q == 448 && is_some e.exit))
          elsewhere n true d z = refl
          elsewhere n false false z = refl
          elsewhere n false true z = ap is_some (other_at e.stores k (q - 416) value
              (λ w. n (let l : 416 ≤ q = le_from q z in omega (arith, l, w))))
            where
              le_from : (q : ℕ) → nat_lt q 416 ≡ false → 416 ≤ q
              le_from q z = ltb-false q 416 z

          off : (b : Bool) → b ≡ (b || false)
          off true = refl
          off false = refl

          by : (q ≡ spot) ⊎ (q ≡ spot → ⊥) → has_come V q ≡ (has_come e q || (spot == q))
          by (inl z) = subst (λ q. has_come V q ≡ (has_come e q || (spot == q))) (sym z)
              (here ∙ sym (or_right (has_come e spot) _ (same_number spot)))
          by (inr n) = elsewhere n (nat_lt q 416) (nat_lt q 448) refl ∙ off (has_come e q)
              ∙ ap (λ b. has_come e q || b) (sym (ne_eqb spot q (λ z. n (sym z))))

      phases : (x : ℕ) → phase_of base V x ≡ (answer_one s F).at x
      phases x = by (cases_eq x s)
        where
          by : (x ≡ s) ⊎ (x ≡ s → ⊥) → phase_of base V x ≡ (answer_one s F).at x
          by (inl z) = subst (λ x. phase_of base V x ≡ (answer_one s F).at x) (sym z)
              (sent_now ∙ sym (cond-true (s == s) _ _ (same_number s)))
          by (inr n) = asking.others_same blocks good budget h e younger i ok rule k asked V base answers x n
              ∙ sym (cond-false (x == s) _ _ (ne_eqb x s n))

      -- behind a store that makes no load of its frame wrong the front of the frame is the lane's behind the
      -- answer
      pub front_is : front_of c H V ≡ answer_one s F
      front_is = front_behind c V base H stays
          ∙ same_front (front_of c base V) (answer_one s F) refl
          (ap (λ (w : Window). slice_index w.generations e.number) left) (fun_ext phases) (fun_ext come_is) refl
