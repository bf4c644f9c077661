-- Exit, Seal and Fetch leave the frames right.
use Rattle.std.proofs.Common.{◌≡◌, ◌≢◌, ℕ, Bool, true, false, cond, not, List, [], ◌∷◌, ◌++◌, Option, Some}
use Rattle.std.proofs.Common.{None, slice_get, get_or, refl, sym, ap, ◌∙◌, subst, true≢false, arith}
use Rattle.std.specs.Prelude.{is_none}
use Rattle.trips_isa.specs.declared.block.Inst.{Inst}
use Rattle.trips_isa.specs.declared.block.Block.{Block}
use Rattle.trips_isa.specs.Forms.{form_of, is_load}
use Rattle.trips_isa.specs.Rule.{Answer}
use Rattle.trips_isa.specs.Places.{nodes_of, inst_node, first_place}
use Rattle.trips_isa.specs.Blocks.{Responses, at_place, is_read, inst_at, Leaving, leaves_with}
use Rattle.trips_isa.specs.inside.Blocks.{Solves}
use Rattle.trips_isa.specs.Blocks.{leaves_if_read, leaving_of, store_of}
use Rattle.block_cases.specs.Orders.{slot_of}
use Rattle.block_cases.specs.inside.Good.{NamesPlace}
use Rattle.commit_flush_spec.specs.Frames.{Frame, Bytes, Exit, unset, slot_node, source, fresh}
use Rattle.commit_flush_spec.specs.Sending.{token_with}
use Rattle.commit_flush_spec.specs.Older.{Older, after, after_all, follows, successor_of}
use Rattle.commit_flush_spec.specs.Causes.{NoFrame, NoExit, Missing, Done}
use Rattle.commit_flush_spec.specs.Ends.{can_exit, exit_by, branch_of, kept, with_exit}
use Rattle.commit_flush_spec.specs.Ends.{exit, complete, can_seal, seal}
use Rattle.commit_flush_spec.specs.inside.Invariant.{Below, Agrees, Holds, Leaves, FrameOk, FramesOk, AllGood}
use Rattle.commit_flush_spec.proofs.Lists.{below_is, is_below, blank_at, blank_size, emptied_at, emptied_size}
use Rattle.commit_flush_spec.proofs.Lists.{unset_at, unset_size}
use Rattle.commit_flush_spec.proofs.Look.{older_refl}
use Rattle.commit_flush_spec.proofs.Tokens.{slot_got, inst_in, slot_not_read, inst_at_is, placed_is, fired_below}
use Rattle.commit_flush_spec.proofs.Frames.{Goes, not_now, frames_more}
use Rattle.commit_flush_spec.proofs.Loads.{not_false}
use Rattle.commit_flush_spec.proofs.Flow.{some_of}
use Rattle.commit_flush_spec.proofs.Delivers.{or_here}
use Rattle.trips_isa.specs.inside.Marks.{IsMarking}
use Rattle.commit_flush_spec.specs.Sending.{mark_with}
use Rattle.commit_flush_spec.specs.Ends.{branch_mark}
use Rattle.commit_flush_spec.specs.inside.Invariant.{MarksAgree}
use Rattle.commit_flush_spec.proofs.Marking.{zeros_size, marked, mark_placed}

-- exits ------------------------------------------------------------------------------------------

kept_ok : (blocks : List Block) (o : Older) (n : Option ℕ) (fs : List Frame) → FramesOk blocks o fs
    → FramesOk blocks (record o { known = n }) (kept n fs)
kept_ok blocks o n [] ok = tt
kept_ok blocks o n (g ∷ gs) ok = go (follows n g.block) refl
  where
    go : (b : Bool) → follows n g.block ≡ b → FramesOk blocks (record o { known = n }) (cond b (g ∷ gs) [])
    go false e = tt
    go true e = (
      ok.0,
      e,
      record {
        code = ok.2.code;
        sized = ok.2.sized;
        reads = λ r d. let k = ok.2.reads r d in record {
          slot = k.slot;
          word = k.word;
          is_slot =
              k.is_slot;
          is_word = k.is_word;
        };
        sizes = ok.2.sizes;
        answered = ok.2.answered;
        asked = ok.2.asked;
        leaving = ok.2.leaving;
        holds = λ a g s ag. ok.2.holds a g s (record { reads = ag.reads; loads = ag.loads });
        marks = λ a g s ag. ok.2.marks a g s (record { reads = ag.reads; loads = ag.loads });
        once = ok.2.once;
        whole = ok.2.whole;
      },
      frames_more blocks gs (after g o) (after g (record o { known = n })) (record {
        look = λ q v z. z;
        memory =
            λ x. refl;
        known = λ b z. z;
        serial = λ z. z;
      }) ok.3,
    )

module _ (blocks : List Block) (good : AllGood blocks) (o : Older) (f : Frame) (ok : FrameOk blocks o f)
    (runs : f.sealed ≡ false)
    (s : ℕ) (leaves : f.leaving ≡ Some s) where
  left : Leaves f s
  left = ok.leaving s leaves

  abbrev x : ℕ
  x = slot_node f.code s

  names_exit : NamesPlace (nodes_of f.code) x 448
  names_exit = (
    inst_node s (Some (left).inst),
    slot_got f.code s (inst_in f.code.insts.items s (left).inst (left).is_inst)
        ∙ ap (λ o. Some (inst_node s o)) (left).is_inst,
    or_here (first_place (form_of ((left).inst).op) ((left).inst).number ((left).inst).first) 448 _
        (ap (λ t. first_place t ((left).inst).number ((left).inst).first) (left).is_branch),
  )

  abbrev by : (ℕ → Answer) → ℕ → Leaving
  by g j = leaves_if_read (is_read f.code j) f.code g j

  by_slot : (g : ℕ → Answer) → by g x ≡ leaves_with (slot_of f.code s) (g x)
  by_slot g = ap (λ b. leaves_if_read b f.code g x) (slot_not_read f.code s)
      ∙ ap (λ q. leaves_with q (g x)) (inst_at_is f.code s)

  fires_from : (g : ℕ → Answer) (j : ℕ) → by g j ≢ None → g j ≢ None
  fires_from g j n z = go (is_read f.code j) n
    where
      inner : (q : Option Inst) → leaves_with q None ≡ None
      inner None = refl
      inner (Some k) = refl

      go : (b : Bool) → leaves_if_read b f.code g j ≢ None → ⊥
      go true m = m refl
      go false m = m (ap (leaves_with (inst_at f.code j)) z ∙ inner (inst_at f.code j))

  -- the branch that waits is the one that leaves
  pub exits : (a : Responses) (g : ℕ → Answer) → Solves f.code a g → Agrees o f a
      → branch_of f (Some s) ≡ leaving_of f.code g
  exits a g sol ag =
      let h : Holds blocks f g = ok.holds a g sol ag in
      let plain : is_load (form_of ((left).inst).op) ≡ false = ap is_load (left).is_branch in
      let same : token_with f x 0 ≡ g x =
      below_is _ _ (fired_below f s 0 (left).inst a g sol h.spots (left).is_inst plain) (left).ready in
      let e : branch_of f (Some s) ≡ by g x = ap (leaves_with (slot_of f.code s)) same ∙ sym (by_slot g) in
      let some : by g x ≢ None =
      λ z. there (g x) (h.fired s (left).fired) (ap (λ q. leaves_with q (g x)) (sym (left).is_inst)
      ∙ sym (by_slot g) ∙ z) in
      e ∙ sym (placed_is f.code (good f.block f.code ok.code) a g sol (by g) (fires_from g) 448 x (omega arith)
      names_exit some)
    where
      there : (t : Answer) → t ≢ None → leaves_with (Some (left).inst) t ≡ None → ⊥
      there None n e = n refl
      there (Some t) n e = cc

  abbrev E : Option Exit
  E = exit_by blocks f.block (branch_of f (Some s))

  -- the mark of the exit is the table's
  marks : (a : Responses) (g : ℕ → Answer) → Solves f.code a g → Agrees o f a → (m : ℕ → ℕ)
      → IsMarking f.code g m → MarksAgree (with_exit E (mark_with f x) f) g m
  marks a g sol ag m mk = record {
    spots = k.spots;
    places = k.places;
    stores = k.stores;
    exit = λ e. marked f x a g sol h.spots m mk k.spots (left).ready
        ∙ sym (mark_placed f.code (good f.block f.code ok.code) a g sol m 448 x (omega arith) names_exit
        (h.fired s (left).fired));
  }
    where
      k : MarksAgree f g m
      k = ok.marks a g sol ag m mk

      h : Holds blocks f g
      h = ok.holds a g sol ag

  now : FrameOk blocks o (with_exit E (mark_with f x) f)
  now = record {
    code = ok.code;
    sized = record {
      spots = ok.sized.spots;
      places = ok.sized.places;
      fired = ok.sized.fired;
      reads =
          ok.sized.reads;
      requests = ok.sized.requests;
      loads = ok.sized.loads;
      stores = ok.sized.stores;
      spot_marks = ok.sized.spot_marks;
      place_marks = ok.sized.place_marks;
      store_marks = ok.sized.store_marks;
    };
    reads = λ r e. let k = ok.reads r e in record {
      slot = k.slot;
      word = k.word;
      is_slot = k.is_slot;
      is_word =
          k.is_word;
    };
    sizes = ok.sizes;
    answered = ok.answered;
    asked = λ m t e. let q = ok.asked m t e in record {
      inst = q.inst;
      is_inst = q.is_inst;
      number =
          q.number;
      fired = q.fired;
      ready = q.ready;
      open_load = q.open_load;
    };
    leaving = λ t e. absurd (let bad : None ≡ Some t = e in cc);
    holds = λ a g sol ag.
        let was : Agrees o f a = record { reads = ag.reads; loads = ag.loads } in
        let k : Holds blocks f g = ok.holds a g sol was in
        record {
          spots = k.spots;
          places = k.places;
          stores = k.stores;
          exit =
              is_below _ _ (ap (exit_by blocks f.block) (exits a g sol was));
          fired = k.fired;
        };
    marks = λ a g sol ag m mk. marks a g sol (record { reads = ag.reads; loads = ag.loads }) m mk;
    once = record { spots = ok.once.spots; places = ok.once.places };
    whole = λ e. absurd (true≢false (sym e ∙ runs));
  }

  pub exited_ok : (fs : List Frame) → FramesOk blocks o (f ∷ fs)
      → FramesOk blocks o (with_exit E (mark_with f x) f ∷ kept (successor_of E) fs)
  exited_ok fs all = (all.0, all.1, now, kept_ok blocks (after f o) (successor_of E) fs all.3)

-- an Exit that is done leaves its frame right, and those that it keeps behind it
pub exit_ok : (blocks : List Block) → AllGood blocks → (o : Older) (f : Frame) (fs : List Frame)
    → can_exit o f ≡ Done → FramesOk blocks o (f ∷ fs) → FramesOk blocks o (exit blocks o f fs)
exit_ok blocks good o f fs c ok =
    let a = not_now f.sealed NoFrame _ c in
    let b = not_now (is_none f.leaving) NoExit _ a.1 in
    let s = some_of f.leaving b.0 in
    subst (λ y. FramesOk blocks o (with_exit (exit_by blocks f.block (branch_of f y)) (branch_mark f y) f ∷ kept
    (successor_of (exit_by blocks f.block (branch_of f y))) fs)) (sym s.1)
    (exited_ok blocks good o f ok.2 a.0 s.0 s.1 fs ok)

-- seals ------------------------------------------------------------------------------------------

-- a Seal that is done leaves its frame right
pub seal_ok : (blocks : List Block) (o : Older) (f : Frame) → can_seal o f ≡ Done → FrameOk blocks o f
    → Goes blocks o f (seal o f)
seal_ok blocks o f c ok =
    let a = not_now f.sealed NoFrame _ c in
    let b = not_now (not (complete f)) Missing _ a.1 in
    record {
      ok = record {
        code = ok.code;
        sized = record {
          spots = ok.sized.spots;
          places = emptied_size f.places ∙ ok.sized.places;
          fired = ok.sized.fired;
          reads = ok.sized.reads;
          requests = emptied_size f.requests ∙ ok.sized.requests;
          loads = ok.sized.loads;
          stores = ok.sized.stores;
          spot_marks = ok.sized.spot_marks;
          place_marks = ok.sized.place_marks;
          store_marks = ok.sized.store_marks;
        };
        reads = λ r e. let k = ok.reads r e in record {
          slot = k.slot;
          word = k.word;
          is_slot = k.is_slot;
          is_word =
              k.is_word;
        };
        sizes = ok.sizes;
        answered = ok.answered;
        asked = λ m t e. absurd (let bad : None ≡ Some t = sym (emptied_at f.requests m) ∙ e in cc);
        leaving = λ t e. absurd (let bad : None ≡ Some t = e in cc);
        holds = λ a g sol ag.
            let was : Agrees o f a = record { reads = ag.reads; loads = ag.loads } in
            let k : Holds blocks f g = ok.holds a g sol was in
            record {
              spots = k.spots;
              places =
                  λ p. subst (λ t. Below t (g (source f.code p))) (sym (emptied_at f.places p)) tt;
              stores =
                  k.stores;
              exit = k.exit;
              fired = k.fired;
            };
        marks = λ a g sol ag m mk.
            let was : Agrees o f a = record { reads = ag.reads; loads = ag.loads } in
            let k : MarksAgree f g m = ok.marks a g sol was m mk in
            record {
              spots = k.spots;
              places = λ p h. absurd (h (emptied_at f.places p));
              stores = k.stores;
              exit = k.exit;
            };
        once = record {
          spots = λ q h. let c = ok.once.spots q h in (c.0, c.1, c.2, emptied_at f.places c.0);
          places = λ p h. absurd (h (emptied_at f.places p));
        };
        whole = λ e. not_false _ b.0;
      };
      block = refl;
      later = older_refl (after f o);
    }

-- fetches ----------------------------------------------------------------------------------------

none_set : (n q : ℕ) → get_or (unset n) q false ≡ true → ⊥
none_set n q e = true≢false (sym e ∙ unset_at n q)

fresh_ok : (blocks : List Block) (o : Older) (n k : ℕ) (b : Block) → slice_get blocks k ≡ Some b
    → FrameOk blocks o (fresh n k b)
fresh_ok blocks o n k b e = record {
  code = e;
  sized = record {
    spots = blank_size _ 416;
    places = blank_size _ 320;
    fired = unset_size 128;
    reads = unset_size 32;
    requests = blank_size _ 32;
    loads = blank_size _ 32;
    stores = blank_size _ 32;
    spot_marks = zeros_size 416;
    place_marks = zeros_size 320;
    store_marks = zeros_size 32;
  };
  reads = λ r h. absurd (none_set 32 r h);
  sizes = λ s ad z i j l h. absurd (let bad : None ≡ Some (Bytes ad z) = sym (blank_at 32 i.number) ∙ h in cc);
  answered = λ s i j l h. absurd (h (blank_at 32 i.number));
  asked = λ m t h. absurd (let bad : None ≡ Some t = sym (blank_at 32 m) ∙ h in cc);
  leaving = λ t h. absurd (let bad : None ≡ Some t = h in cc);
  holds = λ a g sol ag. record {
    spots = λ q. subst (λ t. Below t (at_place b g q)) (sym (blank_at 416 q)) tt;
    places = λ p. subst (λ t. Below t (g (source b p))) (sym (blank_at 320 p)) tt;
    stores = λ m. subst (λ t. Below t (store_of b g m)) (sym (blank_at 32 m)) tt;
    exit = tt;
    fired = λ s h. absurd (none_set 128 s h);
  };
  marks = λ a g sol ag m mk. record {
    spots = λ q h. absurd (h (blank_at 416 q));
    places = λ p h. absurd (h (blank_at 320 p));
    stores = λ j h. absurd (h (blank_at 32 j));
    exit = λ h. absurd (h refl);
  };
  once = record { spots = λ q h. absurd (h (blank_at 416 q)); places = λ p h. absurd (h (blank_at 320 p)) };
  whole = λ h. absurd (cc);
}

-- a frame that is fetched behind others, where they lead to its block, is right
pub fetch_ok : (blocks : List Block) (n k : ℕ) (b : Block) → slice_get blocks k ≡ Some b
    → (o : Older) (fs : List Frame) → (after_all fs o).serial ≡ false → follows (after_all fs o).known k ≡ true
    → FramesOk blocks o fs → FramesOk blocks o (fs ++ fresh n k b ∷ [])
fetch_ok blocks n k b e o [] s c ok = (s, c, fresh_ok blocks o n k b e, tt)
fetch_ok blocks n k b e o (f ∷ fs) s c ok = (ok.0, ok.1, ok.2, fetch_ok blocks n k b e (after f o) fs s c ok.3)
