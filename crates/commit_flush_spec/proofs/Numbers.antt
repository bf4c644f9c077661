-- The frames in flight keep different numbers below eight.
use Rattle.std.specs.List.{list_any}
use Rattle.std.proofs.Common.{◌≡◌, ℕ, zero, suc, ◌+◌, ◌<◌, Bool, true, false, cond, ◌||◌, ◌==◌, List, [], ◌∷◌}
use Rattle.std.proofs.Common.{◌++◌, map, Option, Some, None, slice_get, set, ◌*◌, refl, sym, ap, ap₂, ◌∙◌}
use Rattle.std.proofs.Common.{subst, arith}
use Rattle.std.proofs.lemmas.Bool.Decides.{nat_tests}
use Rattle.trips_isa.specs.declared.block.Inst.{Inst}
use Rattle.trips_isa.specs.declared.block.Block.{Block}
use Rattle.trips_isa.specs.declared.form.Form.{Form}
use Rattle.trips_isa.specs.declared.form.Form.TheVariants.{General, Immediate, Load, Store, Branch, Constant}
use Rattle.trips_isa.specs.Forms.{form_of}
use Rattle.trips_isa.specs.Rule.{Answer}
use Rattle.trips_isa.specs.Stores.{stored_of}
use Rattle.block_cases.specs.Orders.{slot_of}
use Rattle.commit_flush_spec.specs.Frames.{Frame, at, numbers, slot_node, fresh}
use Rattle.commit_flush_spec.specs.Sending.{send, token_with, mark_with}
use Rattle.commit_flush_spec.specs.Older.{Older, after, follows, successor_of, passes, nearest, violated, cut}
use Rattle.commit_flush_spec.specs.Dataflow.{read, read_seen, read_answered, fire, fire_form, fire_inst}
use Rattle.commit_flush_spec.specs.Dataflow.{deliver, delivered}
use Rattle.commit_flush_spec.specs.Memory.{taken_of, request, load, load_answered, with_store, store, store_resolved}
use Rattle.commit_flush_spec.specs.Ends.{exit_by, branch_of, kept, exit}
use Rattle.commit_flush_spec.specs.Window.{change, alone, flush, in_flight, lowest_empty}
use Rattle.commit_flush_spec.specs.inside.Laws.{AreNumbers}
use Rattle.commit_flush_spec.proofs.Look.{or_false}

-- the numbers of some frames
abbrev pub nums : List Frame → List ℕ
nums fs = map (λ (f : Frame). f.number) fs

-- the one list of numbers is a beginning of the other
abbrev pub Begins : List ℕ → List ℕ → Type 0
Begins ns ms = (rest : List ℕ) × (ms ≡ ns ++ rest)

any_front : (n : ℕ) (ns rest : List ℕ) → list_any (λ m. m == n) (ns ++ rest) ≡ false
    → list_any (λ m. m == n) ns ≡ false
any_front n [] rest e = refl
any_front n (m ∷ ns) rest e = let p = or_false (m == n) (list_any (λ k. k == n) (ns ++ rest)) e in
    ap₂ (λ x y. x || y) p.0 (any_front n ns rest p.1)

front : (ns rest : List ℕ) → AreNumbers (ns ++ rest) → AreNumbers ns
front [] rest h = tt
front (n ∷ ns) rest h = (h.0, any_front n ns rest h.1, front ns rest h.2)

-- a beginning of numbers that differ and lie below eight are such numbers
pub beginning : (ns ms : List ℕ) → Begins ns ms → AreNumbers ms → AreNumbers ns
beginning ns ms b h = front ns b.0 (subst AreNumbers b.1 h)

no_more : (xs : List ℕ) → xs ≡ xs ++ []
no_more [] = refl
no_more (x ∷ xs) = ap (λ ys. x ∷ ys) (no_more xs)

begins_after : (n m : ℕ) (ns ms : List ℕ) → m ≡ n → Begins ns ms → Begins (n ∷ ns) (m ∷ ms)
begins_after n m ns ms e b = (b.0, ap₂ (λ x ys. x ∷ ys) e b.1)

-- events -----------------------------------------------------------------------------------------

-- a change that leaves a beginning of the numbers from its frame on leaves one of all
pub change_numbers : (does : Older → Frame → List Frame → List Frame)
    → ((o : Older) (f : Frame) (fs : List Frame) → Begins (nums (does o f fs)) (nums (f ∷ fs)))
    → (o : Older) (fs : List Frame) (n : ℕ) → Begins (nums (change does o fs n)) (nums fs)
change_numbers does h o [] n = ([], refl)
change_numbers does h o (f ∷ fs) n = go (f.number == n) (change_numbers does h (after f o) fs n)
  where
    go : (b : Bool) → Begins (nums (change does (after f o) fs n)) (nums fs)
        → Begins (nums (cond b (does o f fs) (f ∷ change does (after f o) fs n))) (nums (f ∷ fs))
    go true r = h o f fs
    go false r = begins_after f.number f.number _ _ refl r

-- a change that leaves its frame's number leaves the numbers behind it
pub alone_numbers : (does : Older → Frame → Frame) → ((o : Older) (f : Frame) → (does o f).number ≡ f.number)
    → (o : Older) (f : Frame) (fs : List Frame) → Begins (nums (alone does o f fs)) (nums (f ∷ fs))
alone_numbers does h o f fs = begins_after _ f.number (nums fs) (nums fs) (sym (h o f)) ([], no_more (nums fs))

send_number : (x p : ℕ) (t : Answer) (f : Frame) → (send x p t f).number ≡ f.number
send_number x p None f = refl
send_number x p (Some t) f = refl

-- a read that is answered leaves the frame's number
pub read_number : (r : ℕ) (o : Older) (f : Frame) → (read r o f).number ≡ f.number
read_number r o f = go (read_seen o (slice_get f.code.reads.items r))
  where
    go : (v : Option ℕ) → (read_answered r v f).number ≡ f.number
    go None = refl
    go (Some v) = send_number r (256 + 2 * r) (token_with f r v) (record f { reads = set f.reads r true })

-- a slot that fires leaves the frame's number
pub fire_number : (s : ℕ) (o : Older) (f : Frame) → (fire s o f).number ≡ f.number
fire_number s o f = inst (slot_of f.code s)
  where
    form : (t : Form) (i : Inst) → (fire_form t i s (record f { fired = set f.fired s true })).number ≡ f.number
    form General i = send_number _ _ _ (record f { fired = set f.fired s true })
    form Immediate i = send_number _ _ _ (record f { fired = set f.fired s true })
    form Constant i = send_number _ _ _ (record f { fired = set f.fired s true })
    form Load i = refl
    form Store i = refl
    form Branch i = refl

    inst : (i : Option Inst) → (fire_inst i s (record f { fired = set f.fired s true })).number ≡ f.number
    inst None = refl
    inst (Some i) = form (form_of i.op) i

-- a token that is delivered leaves the frame's number
pub deliver_number : (p : ℕ) (o : Older) (f : Frame) → (deliver p o f).number ≡ f.number
deliver_number p o f = go (at f.places p)
  where
    go : (t : Answer) → (delivered p t f).number ≡ f.number
    go None = refl
    go (Some t) = refl

-- a load that is answered leaves the frame's number
pub load_number : (n : ℕ) (o : Older) (f : Frame) → (load n o f).number ≡ f.number
load_number n o f = go (request f n)
  where
    go : (q : Option (ℕ × Inst)) → (load_answered n o f q).number ≡ f.number
    go None = refl
    go (Some q) = send_number _ _ _ (record f {
      requests = set f.requests n None;
      loads =
          set f.loads n (Some (taken_of q.1 (at f.spots q.0)));
    })

cut_numbers : (touched : ℕ → Bool) (fs : List Frame) → Begins (nums (cut touched fs)) (nums fs)
cut_numbers touched [] = ([], refl)
cut_numbers touched (f ∷ fs) =
    go (violated (λ n. passes (at f.stores) n touched) f.loads)
    (cut_numbers (passes (at f.stores) numbers touched) fs)
  where
    go : (b : Bool) → Begins (nums (cut (passes (at f.stores) numbers touched) fs)) (nums fs)
        → Begins (nums (cond b [] (f ∷ cut (passes (at f.stores) numbers touched) fs))) (nums (f ∷ fs))
    go true r = (nums (f ∷ fs), refl)
    go false r = begins_after f.number f.number _ _ refl r

-- a Store leaves a beginning of the numbers
pub store_numbers : (n : ℕ) (o : Older) (f : Frame) (fs : List Frame) → Begins (nums (store n o f fs)) (nums (f ∷ fs))
store_numbers n o f fs = go (request f n)
  where
    check : (W : Frame) → W.number ≡ f.number → (b : Bool)
        → Begins (nums (cond b [] (W ∷ cut (nearest (at W.stores) n numbers) fs))) (nums (f ∷ fs))
    check W e true = (nums (f ∷ fs), refl)
    check W e false = begins_after W.number f.number _ _ (sym e) (cut_numbers (nearest (at W.stores) n numbers) fs)

    go : (q : Option (ℕ × Inst)) → Begins (nums (store_resolved n f fs q)) (nums (f ∷ fs))
    go None = ([], no_more (nums (f ∷ fs)))
    go (Some q) = check (with_store n (stored_of q.1 (at f.spots q.0) (at f.spots (128 + q.0)))
        (mark_with f (slot_node f.code q.0)) f) refl
        (violated (nearest (at (set f.stores n (stored_of q.1 (at f.spots q.0) (at f.spots (128 + q.0))))) n) f.loads)

-- an Exit leaves a beginning of the numbers
pub exit_numbers : (blocks : List Block) (o : Older) (f : Frame) (fs : List Frame)
    → Begins (nums (exit blocks o f fs)) (nums (f ∷ fs))
exit_numbers blocks o f fs =
    begins_after f.number f.number _ _ refl (rest (successor_of (exit_by blocks f.block (branch_of f f.leaving))) fs)
  where
    rest : (k : Option ℕ) (gs : List Frame) → Begins (nums (kept k gs)) (nums gs)
    rest k [] = ([], refl)
    rest k (g ∷ gs) = go (follows k g.block)
      where
        go : (b : Bool) → Begins (nums (cond b (g ∷ gs) [])) (nums (g ∷ gs))
        go true = ([], no_more (nums (g ∷ gs)))
        go false = (nums (g ∷ gs), refl)

-- a Flush leaves a beginning of the numbers
pub flush_numbers : (o : Older) (f : Frame) (fs : List Frame) → Begins (nums (flush o f fs)) (nums (f ∷ fs))
flush_numbers o f fs = (nums (f ∷ fs), refl)

-- fetches ----------------------------------------------------------------------------------------

-- the lowest empty frame is one of those searched, and is not in flight
pub lowest_is : (k m : ℕ) (fs : List Frame) (n : ℕ) → lowest_empty k m fs ≡ Some n → (n < m + k)
    × (in_flight n fs ≡ false)
lowest_is zero m fs n e = absurd (cc)
lowest_is (suc k) m fs n e = go (in_flight m fs) refl e (lowest_is k (suc m) fs n)
  where
    go : (b : Bool) → in_flight m fs ≡ b → cond b (lowest_empty k (suc m) fs) (Some m) ≡ Some n
        → (lowest_empty k (suc m) fs ≡ Some n → (n < suc m + k) × (in_flight n fs ≡ false)) → (n < m + suc k)
        × (in_flight n fs ≡ false)
    go true i h r = let p = r h in let l : n < suc m + k = p.0 in (omega arith, p.1)
    go false i h r = let same : m ≡ n = cc in (omega arith, ap (λ x. in_flight x fs) (sym same) ∙ i)

swapped : (m n : ℕ) → (m == n) ≡ false → (n == m) ≡ false
swapped m n e = grind (arith, nat_tests)

-- a fresh frame with a number below eight that is not in flight leaves numbers that differ
pub fetch_numbers : (n k : ℕ) (b : Block) (fs : List Frame) → n < 8 → in_flight n fs ≡ false → AreNumbers (nums fs)
    → AreNumbers (nums (fs ++ fresh n k b ∷ []))
fetch_numbers n k b [] l e h = (l, refl, tt)
fetch_numbers n k b (f ∷ fs) l e h =
    let p = or_false (f.number == n) (in_flight n fs) e in
    (h.0, more fs h.1, fetch_numbers n k b fs l p.1 h.2)
  where
    more : (gs : List Frame) → list_any (λ m. m == f.number) (nums gs) ≡ false
        → list_any (λ m. m == f.number) (nums (gs ++ fresh n k b ∷ [])) ≡ false
    more [] q = ap (λ c. c || false) (swapped f.number n (or_false (f.number == n) (in_flight n fs) e).0)
    more (g ∷ gs) q = let p = or_false (g.number == f.number) (list_any (λ m. m == f.number) (nums gs)) q in
        ap₂ (λ x y. x || y) p.0 (more gs p.1)
