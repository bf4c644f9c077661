-- The front of a frame hangs on what is under way of that frame alone.
use Rattle.std.proofs.Common.{◌≡◌, ℕ, suc, ◌+◌, ◌*◌, ◌-◌, ◌<◌, ◌≤◌, Bool, true, false, cond}
use Rattle.std.proofs.Common.{nat_lt, Option, Some, None}
use Rattle.std.proofs.Common.{slice_get, slice_index, slice_index_or, refl, sym, ap, ap₂, ◌∙◌, arith}
use Rattle.std.proofs.lemmas.Bool.{ltb-false, cond-true, cond-false, le-ltb, lt-ltb}
use Rattle.trips_isa.specs.declared.block.Inst.{Inst}
use Rattle.trips_isa.specs.declared.block.ReadSlot.{ReadSlot}
use Rattle.trips_isa.specs.Forms.{form_of}
use Rattle.block_cases.specs.Orders.{slot_of}
use Rattle.operand_net.specs.declared.parcel.Stand.{Stand}
use Rattle.commit_flush_spec.specs.Frames.{Frame, at}
use Rattle.grid_cycle_spec.specs.Grid.{Grid}
use Rattle.grid_cycle_spec.specs.inside.Arrivals.{is_waiting}
use Rattle.grid_bound.specs.inside.Course.{Kind, Reading, Plain, Serving, Course}
use Rattle.grid_bound.specs.inside.Lane.{Phase, Idle, Working, Asking, Standing, Sent, Front}
use Rattle.grid_bound.specs.inside.Blocks.{slot_tasks, kind_of}
use Rattle.grid_bound.specs.inside.Seen.{after_unit, slot_phase, read_phase, phase_of, has_come, front_of}
use Rattle.grid_bound.specs.inside.Behind.{Behind}

-- a front by its parts
abbrev made : Course → Frame → (ℕ → Phase) → ℕ → Bool → Front
made c f at generation careful = record {
  course = c;
  generation = generation;
  at = at;
  come = has_come f;
  careful = careful;
}

module _ {W : Type 0} (g : Grid W) (f : Frame) where
  -- a grid with this under way of every frame
  abbrev stub : (ℕ → Stand) → (ℕ → Bool) → (ℕ → Bool) → Grid W
  stub p a w = record g { parcels = λ n. p; asked = λ n. a; works = λ n. w }

  phases_alike : (h : Grid W) → h.parcels f.number ≡ g.parcels f.number → h.asked f.number ≡ g.asked f.number
      → h.works f.number ≡ g.works f.number → phase_of h f ≡ phase_of g f
  phases_alike h p a w =
      ap (λ (p : ℕ → Stand). phase_of (stub p (h.asked f.number) (h.works f.number)) f) p
      ∙ ap (λ (a : ℕ → Bool). phase_of (stub (g.parcels f.number) a (h.works f.number)) f) a
      ∙ ap (λ (w : ℕ → Bool). phase_of (stub (g.parcels f.number) (g.asked f.number) w) f) w

  pub front_alike : (c : Course) (h : Grid W) → h.parcels f.number ≡ g.parcels f.number
      → h.asked f.number ≡ g.asked f.number → h.works f.number ≡ g.works f.number
      → slice_index h.window.generations f.number ≡ slice_index g.window.generations f.number
      → h.careful f.number ≡ g.careful f.number → front_of c h f ≡ front_of c g f
  front_alike c h p a w e k =
      ap (λ (x : ℕ → Phase). made c f x (slice_index h.window.generations f.number) (h.careful f.number))
      (phases_alike h p a w)
      ∙ ap (λ n. made c f (phase_of g f) n (h.careful f.number)) e
      ∙ ap (λ b. made c f (phase_of g f) (slice_index g.window.generations f.number) b) k

-- while other frames act, the front stays
pub front_behind : {W : Type 0} (c : Course) (f : Frame) (g h : Grid W) → Behind f g h
    → front_of c h f ≡ front_of c g f
front_behind c f g h b = front_alike g f c h b.parcels b.asked b.works b.generation b.careful

-- one task ------------------------------------------------------------------------------------------

-- how far an instruction is that has left its unit
abbrev pub left_unit : Kind → Bool → Bool → Stand → Stand → Phase
left_unit Serving waits asked p q = cond waits (cond asked Standing (Asking p)) (Sent p q)
left_unit _ waits asked p q = Sent p q

-- the phase of what a slot holds, by its kind, its flags and the stands of its two parcels
abbrev pub slot_far : Kind → (fired works waits asked : Bool) → Stand → Stand → Phase
slot_far k fired works waits asked p q = cond fired (cond works Working (left_unit k waits asked p q)) Idle

module _ {W : Type 0} (g : Grid W) (f : Frame) (s : ℕ) where
  -- the phase of a slot is told by what is under way of its instruction
  pub slot_phase_is : (i : Inst) → slot_phase g f s (Some i)
      ≡ slot_far (kind_of (form_of i.op)) (slice_index_or f.fired s false) (g.works f.number s)
      (is_waiting (at f.requests i.number) s) (g.asked f.number i.number) (g.parcels f.number (2 * s))
      (g.parcels f.number (suc (2 * s)))
  slot_phase_is i = ap (λ z. cond (slice_index_or f.fired s false) (cond (g.works f.number s) Working z) Idle)
      (go (kind_of (form_of i.op)))
    where
      go : (k : Kind) → after_unit g f s i k ≡ left_unit k (is_waiting (at f.requests i.number) s)
          (g.asked f.number i.number) (g.parcels f.number (2 * s)) (g.parcels f.number (suc (2 * s)))
      go Reading = refl
      go Plain = refl
      go Serving = refl

-- of one task nothing has changed
pub record SameTask {W : Type 0} (g h : Grid W) (f e : Frame) (x : ℕ) : Type 0 where
  pub code : e.code ≡ f.code
  pub fired : slice_index_or e.fired x false ≡ slice_index_or f.fired x false
  pub reads : slot_tasks ≤ x
      → slice_index_or e.reads (x - slot_tasks) false ≡ slice_index_or f.reads (x - slot_tasks) false
  pub works : h.works e.number x ≡ g.works f.number x
  pub waits : (i : Inst) → slot_of f.code x ≡ Some i
      → is_waiting (at e.requests i.number) x ≡ is_waiting (at f.requests i.number) x
  pub asked : (i : Inst) → slot_of f.code x ≡ Some i → is_waiting (at f.requests i.number) x ≡ true
      → h.asked e.number i.number ≡ g.asked f.number i.number
  pub first : h.parcels e.number (2 * x) ≡ g.parcels f.number (2 * x)
  pub second : h.parcels e.number (suc (2 * x)) ≡ g.parcels f.number (suc (2 * x))

-- how far a task is hangs on what is under way of it alone
pub far_same : (k : Kind) (a a2 b b2 c c2 d d2 : Bool) (p p2 q q2 : Stand) → a2 ≡ a → b2 ≡ b → c2 ≡ c
    → (c ≡ true → d2 ≡ d) → p2 ≡ p → q2 ≡ q → slot_far k a2 b2 c2 d2 p2 q2 ≡ slot_far k a b c d p q
far_same k a a2 b b2 c c2 d d2 p p2 q q2 ea eb ec ed ep eq =
    ap (λ z. slot_far k z b2 c2 d2 p2 q2) ea ∙ ap (λ z. slot_far k a z c2 d2 p2 q2) eb
    ∙ ap (λ z. slot_far k a b z d2 p2 q2) ec ∙ ap (λ z. cond a (cond b Working z) Idle) (asked k c ed)
    ∙ ap (λ z. slot_far k a b c d z q2) ep ∙ ap (λ z. slot_far k a b c d p z) eq
  where
    asked : (k : Kind) (c : Bool) → (c ≡ true → d2 ≡ d) → left_unit k c d2 p2 q2 ≡ left_unit k c d p2 q2
    asked Reading c h = refl
    asked Plain c h = refl
    asked Serving true h = ap (λ z. left_unit Serving true z p2 q2) (h refl)
    asked Serving false h = refl

-- a task of which the same is under way has the same phase
pub task_same : {W : Type 0} (g h : Grid W) (f e : Frame) (x : ℕ) → SameTask g h f e x
    → phase_of h e x ≡ phase_of g f x
task_same g h f e x same =
    ap (λ b. cond (nat_lt x slot_tasks) (slot_phase h e x (slot_of b x))
    (read_phase h e (x - slot_tasks) (slice_get b.reads.items (x - slot_tasks)))) same.code
    ∙ go (nat_lt x slot_tasks) refl
  where
    slot : (o : Option Inst) → slot_of f.code x ≡ o → slot_phase h e x o ≡ slot_phase g f x o
    slot None i = refl
    slot (Some j) i = slot_phase_is h e x j
        ∙ far_same (kind_of (form_of j.op)) _ _ _ _ _ _ _ _ _ _ _ _ same.fired same.works (same.waits j i)
        (same.asked j i) same.first same.second ∙ sym (slot_phase_is g f x j)

    read : slot_tasks ≤ x → (o : Option ReadSlot)
        → read_phase h e (x - slot_tasks) o ≡ read_phase g f (x - slot_tasks) o
    read l None = refl
    read l (Some r) =
        let k : slot_tasks + (x - slot_tasks) ≡ x = omega arith in
        ap₂ (λ b s. cond b s Idle) (same.reads l)
        (ap (λ y. Sent (h.parcels e.number (2 * y)) (h.parcels e.number (suc (2 * y)))) k
        ∙ ap₂ (λ p q. Sent p q) same.first same.second
        ∙ sym (ap (λ y. Sent (g.parcels f.number (2 * y)) (g.parcels f.number (suc (2 * y)))) k))

    go : (b : Bool) → nat_lt x slot_tasks ≡ b
        → cond b (slot_phase h e x (slot_of f.code x))
        (read_phase h e (x - slot_tasks) (slice_get f.code.reads.items (x - slot_tasks)))
        ≡ cond b (slot_phase g f x (slot_of f.code x))
        (read_phase g f (x - slot_tasks) (slice_get f.code.reads.items (x - slot_tasks)))
    go true z = slot (slot_of f.code x) refl
    go false z = read (ltb-false x slot_tasks z) (slice_get f.code.reads.items (x - slot_tasks))

-- fronts by their parts ------------------------------------------------------------------------------

abbrev of_parts : Course → ℕ → (ℕ → Phase) → (ℕ → Bool) → Bool → Front
of_parts c n x come careful =
    record { course = c; generation = n; at = x; come = come; careful = careful }

-- fronts whose parts are equal are equal
pub same_front : (a b : Front) → a.course ≡ b.course → a.generation ≡ b.generation → a.at ≡ b.at → a.come ≡ b.come
    → a.careful ≡ b.careful → a ≡ b
same_front a b c n x k s =
    ap (λ (z : Course). of_parts z a.generation a.at a.come a.careful) c
    ∙ ap (λ z. of_parts b.course z a.at a.come a.careful) n
    ∙ ap (λ (z : ℕ → Phase). of_parts b.course b.generation z a.come a.careful) x
    ∙ ap (λ (z : ℕ → Bool). of_parts b.course b.generation b.at z a.careful) k
    ∙ ap (λ z. of_parts b.course b.generation b.at b.come z) s

-- the phases of a read, and of a slot ----------------------------------------------------------------

-- the phase of a read's task is that of the read
pub at_read : {W : Type 0} (g : Grid W) (f : Frame) (r : ℕ)
    → phase_of g f (slot_tasks + r) ≡ read_phase g f r (slice_get f.code.reads.items r)
at_read g f r =
    let e : slot_tasks + r - slot_tasks ≡ r = omega arith in
    cond-false (nat_lt (slot_tasks + r) slot_tasks) _ _ (le-ltb (slot_tasks + r) slot_tasks (omega arith))
    ∙ ap (λ k. read_phase g f k (slice_get f.code.reads.items k)) e

-- the phase of a slot's task is that of the slot
pub at_slot : {W : Type 0} (g : Grid W) (f : Frame) (s : ℕ) → s < slot_tasks
    → phase_of g f s ≡ slot_phase g f s (slot_of f.code s)
at_slot g f s l = cond-true (nat_lt s slot_tasks) _ _ (lt-ltb s slot_tasks l)
