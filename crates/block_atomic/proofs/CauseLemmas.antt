-- The least mark over the places that a block owes, and blocks in which nothing faults.
use Rattle.std.proofs.Common.{◌≡◌, ℕ, zero, suc, ◌+◌, ◌<◌, ◌≤◌, Bool, true, false, cond, nat_lt, nat_eq, ◌&&◌}
use Rattle.std.proofs.Common.{List, [], ◌∷◌, ◌++◌, length, get_or, Some, None, refl, sym, ap}
use Rattle.std.proofs.Common.{ap₂, ◌∙◌, arith}
use Rattle.std.specs.Prelude.{min}
use Rattle.std.proofs.lemmas.Bool.Decides.{nat_tests}
use Rattle.trips_isa.specs.declared.block.Block.{Block}
use Rattle.trips_isa.specs.Rule.{Answer}
use Rattle.trips_isa.specs.Places.{nodes_of}
use Rattle.trips_isa.specs.Tables.{deepest}
use Rattle.trips_isa.specs.Blocks.{is_read, slot_at}
use Rattle.trips_isa.specs.Places.{in_mask}
use Rattle.block_cases.proofs.Steady.{deepest_is}
use Rattle.trips_isa.specs.declared.operands.Operands.TheVariants.{Missing, Nulls, Words}
use Rattle.trips_isa.specs.Marks.{mark_by, least, mark_at, mark_given, mark_of, writes_to, numbers_to, owed}
use Rattle.trips_isa.specs.Marks.{mask_places}
use Rattle.trips_isa.specs.Marks.{least_at, cause}
use Rattle.trips_isa.specs.declared.block.Inst.{Inst}
use Rattle.trips_isa.specs.declared.form.Form.{Form}
use Rattle.trips_isa.specs.declared.form.Form.TheVariants.{General, Immediate, Load, Store, Branch}
use Rattle.trips_isa.specs.declared.form.Form.TheVariants.{Constant}
use Rattle.trips_isa.specs.declared.operands.Operands.{Operands}
use Rattle.trips_isa.specs.Forms.{form_of, role_of, takes_left, takes_right}
use Rattle.trips_isa.specs.Operands.{operands, is_guarded}
use Rattle.trips_isa.specs.Faults.{divides, own_fault, fault_in}
use Rattle.trips_isa.specs.Limits.{most_nodes}
use Rattle.block_atomic.specs.inside.MarkSlots.{IsTold, slot_marked, can_fault, can_fault_in}
use Rattle.block_cases.proofs.Fixed.{still}
use Rattle.block_cases.proofs.MarkLemmas.{marks_pulled}
use Rattle.block_cases.proofs.CleanLemmas.{place_unmarked, least_none}
use Rattle.block_atomic.proofs.MarkRoundLemmas.{slot_is, rest_unmarked, reads_unmarked}

pub least_zero : (a : ℕ) → least a 0 ≡ a
least_zero zero = refl
least_zero (suc a) = refl

least_assoc : (a b c : ℕ) → least (least a b) c ≡ least a (least b c)
least_assoc zero b c = refl
least_assoc (suc a) zero c = refl
least_assoc (suc a) (suc b) zero = refl
least_assoc (suc a) (suc b) (suc c) =
    let same : min (min a b) c ≡ min a (min b c) = omega arith in ap suc same

least_append : (f : ℕ → ℕ) (xs ys : List ℕ)
    → least_at f (xs ++ ys) ≡ least (least_at f xs) (least_at f ys)
least_append f [] ys = refl
least_append f (x ∷ xs) ys = ap (least (f x)) (least_append f xs ys)
    ∙ sym (least_assoc (f x) (least_at f xs) (least_at f ys))

least_one : (f : ℕ → ℕ) (q : ℕ) → least_at f (q ∷ []) ≡ f q
least_one f q = least_zero (f q)

-- one write more
pub writes_next : (f : ℕ → ℕ) (n m old new : ℕ) → old ≡ least_at f (writes_to n)
    → new ≡ least old (f (384 + n)) → m ≡ n + 1 → new ≡ least_at f (writes_to m)
writes_next f n m old new o e s =
    let next : suc n ≡ m = omega arith in
    e ∙ ap₂ least o (sym (least_one f (384 + n)))
    ∙ sym (least_append f (writes_to n) ((384 + n) ∷ []))
    ∙ ap (λ k. least_at f (writes_to k)) next

number_is : (f : ℕ → ℕ) (v : Bool) (q : ℕ) → cond v (f q) 0 ≡ least_at f (cond v (q ∷ []) [])
number_is f true q = sym (least_one f q)
number_is f false q = refl

-- one number more
pub numbers_next : (f : ℕ → ℕ) (mask n m old new : ℕ) → old ≡ least_at f (numbers_to mask n)
    → new ≡ least old (cond (in_mask mask n) (f (416 + n)) 0) → m ≡ n + 1
    → new ≡ least_at f (numbers_to mask m)
numbers_next f mask n m old new o e s =
    let next : suc n ≡ m = omega arith in
    e ∙ ap₂ least o (number_is f (in_mask mask n) (416 + n))
    ∙ sym (least_append f (numbers_to mask n) (cond (in_mask mask n) ((416 + n) ∷ []) []))
    ∙ ap (λ k. least_at f (numbers_to mask k)) next

-- the writes, the numbers and the exit
pub owed_is : (f : ℕ → ℕ) (b : Block) → least_at f (owed b)
    ≡ least (least_at f (writes_to (length b.writes.items)))
    (least (least_at f (mask_places b.mask)) (f 448))
owed_is f b = least_append f (writes_to (length b.writes.items)) (mask_places b.mask ++ 448 ∷ [])
    ∙ ap (least (least_at f (writes_to (length b.writes.items))))
    (least_append f (mask_places b.mask) (448 ∷ [])
    ∙ ap (least (least_at f (mask_places b.mask))) (least_one f 448))

writes_same : (f h : ℕ → ℕ) → ((q : ℕ) → q < 449 → f q ≡ h q) → (n : ℕ) → n ≤ 32
    → least_at f (writes_to n) ≡ least_at h (writes_to n)
writes_same f h same zero l = refl
writes_same f h same (suc n) l =
    least_append f (writes_to n) ((384 + n) ∷ [])
    ∙ ap₂ (λ a c. least a (least c 0)) (writes_same f h same n (omega arith))
    (same (384 + n) (omega arith))
    ∙ sym (least_append h (writes_to n) ((384 + n) ∷ []))

numbers_same : (f h : ℕ → ℕ) → ((q : ℕ) → q < 449 → f q ≡ h q) → (mask n : ℕ) → n ≤ 32
    → least_at f (numbers_to mask n) ≡ least_at h (numbers_to mask n)
numbers_same f h same mask zero l = refl
numbers_same f h same mask (suc n) l =
    least_append f (numbers_to mask n) (cond (in_mask mask n) ((416 + n) ∷ []) [])
    ∙ ap₂ least (numbers_same f h same mask n (omega arith)) (one (in_mask mask n))
    ∙ sym (least_append h (numbers_to mask n) (cond (in_mask mask n) ((416 + n) ∷ []) []))
  where
    one : (v : Bool) → least_at f (cond v ((416 + n) ∷ []) [])
        ≡ least_at h (cond v ((416 + n) ∷ []) [])
    one true = ap (λ c. least c 0) (same (416 + n) (omega arith))
    one false = refl

mask_same : (f h : ℕ → ℕ) → ((q : ℕ) → q < 449 → f q ≡ h q) → (mask : ℕ)
    → least_at f (mask_places mask) ≡ least_at h (mask_places mask)
unfolding mask_places
mask_same f h same mask = numbers_same f h same mask 32 (omega arith)

-- the mask's numbers are those below 32
pub mask_is : (f : ℕ → ℕ) (mask n : ℕ) → n ≡ 32
    → least_at f (numbers_to mask n) ≡ least_at f (mask_places mask)
unfolding mask_places
mask_is f mask n e = ap (λ k. least_at f (numbers_to mask k)) e

-- marks that agree at the places of a block have one least over what it owes
pub owed_same : (f h : ℕ → ℕ) (b : Block) → ((q : ℕ) → q < 449 → f q ≡ h q)
    → length b.writes.items ≤ 32 → least_at f (owed b) ≡ least_at h (owed b)
owed_same f h b same l =
    owed_is f b
    ∙ ap₂ least (writes_same f h same (length b.writes.items) l)
    (ap₂ least (mask_same f h same b.mask) (same 448 (omega arith)))
    ∙ sym (owed_is h b)

-- where no slot faults of itself, no mark comes up
pub no_fault_no_mark : (b : Block) (table places : List Answer) (g : ℕ → Answer)
    → length b.insts.items ≡ 128 → IsTold b table places g
    → ((j : ℕ) → j < 128 → slot_marked (λ q. get_or places q None) (λ q. 0) j
    (get_or b.insts.items j None) (get_or table j None) ≡ 0) → (x : ℕ) → mark_of b g deepest x ≡ 0
no_fault_no_mark b table places g size told quiet = unmarked
  where
    places_none : (q : ℕ) → q < 449 → get_or [] q 0 ≡ mark_at (nodes_of b) g (λ y. 0) q
    places_none q l = sym (place_unmarked (nodes_of b) g (λ y. 0) q (λ y. refl))

    slot : (x : ℕ) (v : Bool) → nat_lt (slot_at b x) 128 ≡ v → is_read b x ≡ false
        → mark_given b g (λ y. 0) x ≡ 0
    slot x true e past =
        let low : slot_at b x < 128 = grind (arith, nat_tests) in
        sym (slot_is b table places g [] (λ y. 0) x size told places_none past low)
        ∙ quiet (slot_at b x) low
    slot x false e past =
        let high : 128 ≤ slot_at b x = grind (arith, nat_tests) in
        rest_unmarked b g (λ y. 0) x size past high

    step : (x : ℕ) → mark_given b g (λ y. 0) x ≡ 0
    step x = go (is_read b x) refl
      where
        go : (v : Bool) → is_read b x ≡ v → mark_given b g (λ y. 0) x ≡ 0
        go true e = reads_unmarked b g (λ y. 0) x e
        go false e = slot x (nat_lt (slot_at b x) 128) refl e

    unmarked : (x : ℕ) → mark_of b g deepest x ≡ 0
    unmarked x =
        let e : deepest ≡ most_nodes = deepest_is in
        still (mark_given b g) (mark_of b g) (marks_pulled b g) 0 (λ y. sym (step y)) most_nodes deepest x
        (omega arith)

-- and there is no cause
pub no_fault_no_cause : (b : Block) (table places : List Answer) (g : ℕ → Answer)
    → length b.insts.items ≡ 128 → IsTold b table places g
    → ((j : ℕ) → j < 128 → slot_marked (λ q. get_or places q None) (λ q. 0) j
    (get_or b.insts.items j None) (get_or table j None) ≡ 0) → 0 ≡ cause b g
no_fault_no_cause b table places g size told quiet =
    sym (least_none _ (λ q. place_unmarked (nodes_of b) g (mark_of b g deepest) q
    (no_fault_no_mark b table places g size told quiet)) (owed b))

-- a machine may add the own fault last, as the window does with an address's
pub own_last : (own : ℕ → ℕ → ℕ) (l r ml mr mp : ℕ) → mark_by own (Words l r) ml mr mp
    ≡ least (mark_by (λ a b. 0) (Words l r) ml mr mp) (own l r)
own_last own l r ml mr mp = sym
    (least_assoc mp (least ml (least mr 0)) (own l r)
    ∙ ap (least mp) (least_assoc ml (least mr 0) (own l r)
    ∙ ap (λ z. least ml (least z (own l r))) (least_zero mr)))

-- what cannot fault ----------------------------------------------------------------------------

no_own : (i : Inst) (l r : ℕ) → can_fault i.op ≡ false → own_fault (Some i) l r ≡ 0
no_own i l r e = go (form_of i.op) e
  where
    undivided : (v w : Bool) → v ≡ false → cond {A = ℕ} (v && w) 1 0 ≡ 0
    undivided true w k = absurd (cc)
    undivided false true k = refl
    undivided false false k = refl

    go : (t : Form) → can_fault_in t i.op ≡ false → fault_in t i l r ≡ 0
    go General k = undivided (divides i.op) (nat_eq r 0) k
    go Immediate k = refl
    go Constant k = refl
    go Branch k = refl
    go Load k = absurd (cc)
    go Store k = absurd (cc)

no_mark_by : (own : ℕ → ℕ → ℕ) (o : Operands) (a b p : Bool) → ((l r : ℕ) → own l r ≡ 0)
    → mark_by own o (cond a 0 0) (cond b 0 0) (cond p 0 0) ≡ 0
no_mark_by own Missing a b p h = refl
no_mark_by own (Nulls x y) a b p h = go a b p x y
  where
    go : (a b p x y : Bool) → least (cond p 0 0) (least (cond x (cond a 0 0) 0)
        (cond y (cond b 0 0) 0)) ≡ 0
    go a b p x y = ap₂ least (nought p) (ap₂ least (inner x a) (inner y b))
      where
        nought : (v : Bool) → cond {A = ℕ} v 0 0 ≡ 0
        nought true = refl
        nought false = refl

        inner : (v w : Bool) → cond {A = ℕ} v (cond w 0 0) 0 ≡ 0
        inner true true = refl
        inner true false = refl
        inner false w = refl
no_mark_by own (Words l r) a b p h = go a b p
  where
    nought : (v : Bool) → cond {A = ℕ} v 0 0 ≡ 0
    nought true = refl
    nought false = refl

    go : (a b p : Bool) → least (cond p 0 0) (least (cond a 0 0) (least (cond b 0 0) (own l r))) ≡ 0
    go a b p = ap₂ least (nought p) (ap₂ least (nought a) (ap₂ least (nought b) (h l r)))

-- an instruction that cannot fault has no own mark
pub cannot_fault : (pull : ℕ → Answer) (j : ℕ) (i : Inst) (t : Answer) → can_fault i.op ≡ false
    → slot_marked pull (λ q. 0) j (Some i) t ≡ 0
cannot_fault pull j i None e = refl
cannot_fault pull j i (Some t) e = no_mark_by (own_fault (Some i))
    (operands (role_of i.op) (pull j) (pull (128 + j))) (takes_left (role_of i.op))
    (takes_right (role_of i.op)) (is_guarded i.sense) (λ l r. no_own i l r e)
