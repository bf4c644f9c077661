-- Part (4), loads: a load of the oldest frame is answered, and its tokens enter the mesh at the data tile.
use Rattle.std.proofs.Common.{◌≡◌, ◌≢◌, ℕ, suc, ◌*◌, ◌<◌, ◌==◌, ◌&&◌, ◌||◌, ◌⊎◌, inl, inr, Bool, true, false}
use Rattle.std.proofs.Common.{not, List, [], ◌∷◌, Some, None, is_some, slice_index, slice_index_or, set}
use Rattle.std.proofs.Common.{refl, sym, ap, ap₂, ◌∙◌, subst}
use Rattle.std.proofs.Math.Path.{fun_ext}
use Rattle.std.proofs.lemmas.Bool.{cond-true, cond-false, and_right, both_ways, cases_eq, ne_eqb}
use Rattle.trips_isa.specs.declared.block.Token.{Token}
use Rattle.trips_isa.specs.declared.block.Inst.{Inst}
use Rattle.trips_isa.specs.declared.block.Block.{Block}
use Rattle.trips_isa.specs.declared.form.Form.TheVariants as form
use Rattle.trips_isa.specs.declared.run.Stepped.TheVariants as stepped
use Rattle.trips_isa.specs.Forms.{form_of, is_load, is_store}
use Rattle.trips_isa.specs.Places.{first_place}
use Rattle.trips_isa.specs.Rule.{Answer}
use Rattle.trips_isa.specs.Blocks.{at_place}
use Rattle.block_cases.specs.Orders.{slot_of}
use Rattle.commit_flush_spec.specs.Causes.{NoFrame, NoRequest, Done, NotNow, judged}
use Rattle.commit_flush_spec.specs.Frames.{Frame, Taken, at, target, is_target, slot_node}
use Rattle.commit_flush_spec.specs.Older.{Older}
use Rattle.commit_flush_spec.specs.Sending.{send, token_with}
use Rattle.commit_flush_spec.specs.Memory.{is_request, can_load, load, load_answered, taken_of, taken_word}
use Rattle.commit_flush_spec.specs.inside.Invariant.{AllGood, FrameOk, has_sent, inst_sent}
use Rattle.commit_flush_spec.specs.inside.Laws.{WindowOk}
use Rattle.commit_flush_spec.specs.Window.{Window, alone, change, can, can_now, unless_over, done, happens}
use Rattle.commit_flush_spec.specs.Window as window
use Rattle.commit_flush_spec.proofs.Events.{taken}
use Rattle.commit_flush_spec.proofs.Lists.{none_at, none_or}
use Rattle.commit_flush_spec.proofs.Sends.{slot_sends}
use Rattle.commit_flush_spec.proofs.Tokens.{token_there}
use Rattle.commit_flush_spec.proofs.FramesSeen.{change_oldest}
use Rattle.commit_flush_spec.proofs.Fills.{slot_fills}
use Rattle.grid_cycle_spec.specs.Stations.{data_node}
use Rattle.grid_cycle_spec.specs.Grid.{Grid}
use Rattle.grid_cycle_spec.specs.inside.Arrivals.{is_waiting}
use Rattle.grid_cycle_spec.specs.Choosing.{with_frame}
use Rattle.grid_cycle_spec.specs.Sending.{enter_both}
use Rattle.grid_cycle_spec.specs.DataTiles.{tile_by, unasked}
use Rattle.grid_cycle_spec.specs.DataTiles as tiles
use Rattle.grid_bound.specs.inside.Course.{Course, Task}
use Rattle.grid_bound.specs.inside.Lane.{Sent, Front}
use Rattle.grid_bound.specs.inside.Sending.{launch, sent_from}
use Rattle.grid_bound.specs.inside.Answering.{settled, resolves, answer_one}
use Rattle.grid_bound.specs.inside.Blocks.{kind_of, first_of, slot_task, target_at}
use Rattle.grid_bound.specs.inside.Seen.{slot_phase, phase_of, has_come, front_of}
use Rattle.grid_bound.specs.inside.DataRule.{DataRule}
use Rattle.grid_bound.proofs.Ahead.{same_number}
use Rattle.grid_bound.proofs.OldestEnds.{asks_oldest}
use Rattle.grid_bound.proofs.Fronts.{slot_far, slot_phase_is, same_front, at_slot}
use Rattle.grid_bound.proofs.Entering.{both_only, both_other, first_enters, second_enters, filled_is, slot_targets}
use Rattle.grid_bound.proofs.OldestRequests.{serves}
use Rattle.grid_bound.proofs.OldestRequests as asking

module _ {W : Type 0} (blocks : List Block) (good : AllGood blocks) (budget : ℕ) (h : Grid W) (e : Frame)
    (younger : List Frame) (i : h.window.frames ≡ e ∷ younger) (ok : WindowOk blocks budget h.window)
    (rule : DataRule h e) (k : ℕ) (asked : h.asked e.number k ≡ true) (went : h.window.over ≡ stepped.Went)
    (runs : e.sealed ≡ false) (d : ℕ) where
  abbrev o : Older
  o = asking.o blocks good budget h e younger i ok rule k asked

  abbrev t : ℕ → Answer
  t = asking.t blocks good budget h e younger i ok rule k asked

  abbrev c : Course
  c = asking.c blocks good budget h e younger i ok rule k asked

  abbrev F : Front
  F = asking.F blocks good budget h e younger i ok rule k asked

  abbrev s : ℕ
  s = asking.s blocks good budget h e younger i ok rule k asked

  abbrev j : Inst
  j = asking.j blocks good budget h e younger i ok rule k asked

  own_ok : FrameOk blocks o e
  own_ok = asking.own_ok blocks good budget h e younger i ok rule k asked

  small : s < 128
  small = asking.small blocks good budget h e younger i ok rule k asked

  module _ (kind : form_of j.op ≡ form.Load) (tile : tile_by j (at_place e.code t s) ≡ d) where
    loads : is_load (form_of j.op) ≡ true
    loads = ap is_load kind

    it : can blocks budget (window.Load e.number k) h.window ≡ Done
    it = ap (λ o. unless_over o (can_now blocks budget (window.Load e.number k) h.window)) went
        ∙ asks_oldest blocks budget h.window e younger i (NotNow NoFrame) (can_load k)
        ∙ ap₂ (λ b q. judged ((b, NoFrame) ∷ (not (is_request is_load q), NoRequest) ∷ [])) runs
        (asking.request_is blocks good budget h e younger i ok rule k asked)
        ∙ ap (λ b. judged ((not b, NoRequest) ∷ [])) loads

    abbrev bytes : Taken
    bytes = taken_of j (at e.spots s)

    abbrev word : ℕ
    word = taken_word o e k bytes

    pub token : (x : Token) × (token_with e (slot_node e.code s) word ≡ Some x)
    token = some (token_with e (slot_node e.code s) word)
        (token_there e (slot_node e.code s) 0 word
        (asking.ask blocks good budget h e younger i ok rule k asked).ready)
      where
        some : (q : Answer) → q ≢ None → (x : Token) × (q ≡ Some x)
        some None n = absurd (n refl)
        some (Some x) n = (x, refl)

    abbrev base : Frame
    base = record e { requests = set e.requests k None; loads = set e.loads k (Some bytes) }

    -- the frame with the load answered
    abbrev pub E : Frame
    E = send (slot_node e.code s) (2 * s) (Some token.0) base

    frame_is : load k o e ≡ E
    frame_is = ap (load_answered k o e) (asking.request_is blocks good budget h e younger i ok rule k asked)
        ∙ ap (λ z. send (slot_node e.code s) (2 * s) z base) token.1

    abbrev after : Window
    after = happens blocks budget (window.Load e.number k) h.window

    -- a load that is answered changes the oldest frame alone
    pub after_is : after ≡ record h.window { frames = E ∷ younger }
    after_is = taken blocks budget (window.Load e.number k) h.window it
        ∙ ap (λ (l : List Frame). record h.window { frames = l })
        (ap (λ l. change (alone (load k)) o l e.number) i
        ∙ change_oldest (alone (load k)) o e younger ∙ ap (λ z. z ∷ younger) frame_is)

    abbrev M : Grid W
    M = unasked e.number k (record h { window = after })

    -- the grid behind a load that is answered, its tokens having entered the mesh at the data tile
    abbrev pub H : Grid W
    H = enter_both (data_node d) E (2 * s) M

    -- only the parcels change as the tokens enter
    pub only : H ≡ record M { parcels = H.parcels }
    only = both_only (data_node d) E M (2 * s)

    -- the places of the load are empty before
    unsent : (has_sent e (2 * s) ≡ false) × (has_sent e (suc (2 * s)) ≡ false)
    unsent = ((slot_sends e s small).0 ∙ no, (slot_sends e s small).1 ∙ no)
      where
        no : (slice_index_or e.fired s false && inst_sent e (slot_of e.code s)) ≡ false
        no = and_right (slice_index_or e.fired s false) _
            (ap (inst_sent e) (asking.ask blocks good budget h e younger i ok rule k asked).is_inst
            ∙ ap₂ (λ b q. not b || is_some q) loads
            (ap (at e.loads) (asking.ask blocks good budget h e younger i ok rule k asked).number
            ∙ (asking.ask blocks good budget h e younger i ok rule k asked).open_load loads))

    empty : (p : ℕ) → has_sent e p ≡ false → at e.places p ≡ None
    empty p z = go (none_or (at e.places p))
      where
        go : (at e.places p ≡ None) ⊎ (at e.places p ≢ None) → at e.places p ≡ None
        go (inl y) = y
        go (inr n) = absurd (both_ways (has_sent e p) z (own_ok.once.places p n))

    filled : (p : ℕ) → (p ≡ 2 * s) ⊎ (p ≡ suc (2 * s)) → has_sent e p ≡ false
        → is_some (at E.places p) ≡ is_target (target e.code p)
    filled p w z = filled_is base E (2 * s) p
        (slot_fills base s token.0 own_ok.sized.places small p) w (empty p z)

    born_is : slice_index M.window.generations E.number ≡ F.generation
    born_is = ap (λ (w : Window). slice_index w.generations e.number) after_is

    abbrev K : Task
    K = slot_task e.code t s (Some j)

    first_is : H.parcels E.number (2 * s) ≡ launch F.generation (data_node d) K.first
    first_is = first_enters (data_node d) E M (2 * s) (filled (2 * s) (inl refl) unsent.0)
        (asking.here blocks good budget h e younger i ok rule k asked).first
        ∙ ap₂ (λ n p. launch n (data_node d) (target_at e.code p)) born_is
        ((slot_targets e.code s j small (asking.ask blocks good budget h e younger i ok rule k asked).is_inst).0
        ∙ ap (λ k. first_place k j.number j.first) kind)
        ∙ ap (launch F.generation (data_node d))
        (sym (ap (λ k. first_of e.code k j (data_node (tile_by j (at_place e.code t s)))) kind))

    second_is : H.parcels E.number (suc (2 * s)) ≡ launch F.generation (data_node d) K.second
    second_is = second_enters (data_node d) E M (2 * s) (filled (suc (2 * s)) (inr refl) unsent.1)
        (asking.here blocks good budget h e younger i ok rule k asked).second
        ∙ ap₂ (λ n p. launch n (data_node d) (target_at e.code p)) born_is
        (slot_targets e.code s j small (asking.ask blocks good budget h e younger i ok rule k asked).is_inst).1

    answers : asking.Answers blocks good budget h e younger i ok rule k asked E H
    answers = record {
      number = refl;
      code = refl;
      fired = refl;
      reads = refl;
      requests = refl;
      works = ap (λ (m : Grid W). m.works e.number) only;
      asks = λ n z. ap (λ (m : Grid W). m.asked e.number n) only
          ∙ cond-false ((e.number == e.number) && (n == k)) false (h.asked e.number n)
          (and_right (e.number == e.number) (n == k) (ne_eqb n k z));
      parcels = λ p n m. both_other (data_node d) E M (2 * s) p n m;
    }

    -- the load has sent its tokens
    sent_now : phase_of H E s ≡ settled F.generation (c.task s).stores (c.task s)
    sent_now =
        at_slot H E s (asking.in_tasks blocks good budget h e younger i ok rule k asked)
        ∙ ap (slot_phase H E s) (asking.ask blocks good budget h e younger i ok rule k asked).is_inst
        ∙ slot_phase_is H E s j
        ∙ ap₂ (λ f w. slot_far (kind_of (form_of j.op)) f w (is_waiting (at E.requests j.number) s)
        (H.asked E.number j.number) (H.parcels E.number (2 * s)) (H.parcels E.number (suc (2 * s))))
        (asking.ask blocks good budget h e younger i ok rule k asked).fired
        (ap (λ (m : Grid W). m.works e.number s) only
        ∙ (asking.here blocks good budget h e younger i ok rule k asked).left)
        ∙ ap₂ (λ z w. slot_far z true false w
        (H.asked E.number j.number) (H.parcels E.number (2 * s)) (H.parcels E.number (suc (2 * s))))
        (ap kind_of kind)
        (ap (λ n. is_waiting (at (set e.requests k None) n) s)
        (asking.ask blocks good budget h e younger i ok rule k asked).number
        ∙ ap (λ q. is_waiting q s) (none_at e.requests k))
        ∙ ap₂ (λ p q. Sent p q) first_is second_is
        ∙ ap (λ n. sent_from F.generation n K) (sym (ap data_node tile))
        ∙ sym (ap (λ (z : Task). settled F.generation z.stores z)
        (asking.task_s blocks good budget h e younger i ok rule k asked)
        ∙ ap (λ b. settled F.generation b K) (ap is_store kind))

    come_is : (q : ℕ) → has_come E q ≡ (F.come q || resolves (c.task s).stores (c.task s) q)
    come_is q = go (has_come e q)
        ∙ sym (ap (λ (z : Task). has_come e q || resolves z.stores z q)
        (asking.task_s blocks good budget h e younger i ok rule k asked)
        ∙ ap (λ b. has_come e q || resolves b K q) (ap is_store kind))
      where
        go : (b : Bool) → b ≡ (b || false)
        go true = refl
        go false = refl

    phases : (x : ℕ) → phase_of H E x ≡ (answer_one s F).at x
    phases x = by (cases_eq x s)
      where
        by : (x ≡ s) ⊎ (x ≡ s → ⊥) → phase_of H E x ≡ (answer_one s F).at x
        by (inl z) = subst (λ x. phase_of H E x ≡ (answer_one s F).at x) (sym z)
            (sent_now ∙ sym (cond-true (s == s) _ _ (same_number s)))
        by (inr n) = asking.others_same blocks good budget h e younger i ok rule k asked E H answers x n
            ∙ sym (cond-false (x == s) _ _ (ne_eqb x s n))

    -- the front of the frame behind the load is the lane's behind its answer
    pub front_is : front_of c H E ≡ answer_one s F
    front_is = same_front (front_of c H E) (answer_one s F) refl
        (ap (λ (m : Grid W). slice_index m.window.generations e.number) only ∙ born_is) (fun_ext phases)
        (fun_ext come_is) (ap (λ (m : Grid W). m.careful e.number) only)

    -- the data tile's turn answers this load
    pub turn_is : tiles.load_answered blocks budget d e.number k s h ≡ H
    turn_is = ap (λ l. with_frame e.number (λ f h. enter_both (data_node d) f (2 * s) h) l M)
        (ap (λ (w : Window). w.frames) after_is)
        ∙ cond-true (e.number == e.number) _ _ (same_number e.number)
