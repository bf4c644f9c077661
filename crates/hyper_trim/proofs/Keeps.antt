-- Two machines that agree on what is alive: what items, tails and exits keep of that.
use Rattle.std.proofs.Common.{◌≡◌, ℕ, zero, suc, Bool, true, false, cond, not, ◌&&◌, List, [], ◌∷◌, ◌++◌}
use Rattle.std.proofs.Common.{refl, sym, ap, ap₂, ◌∙◌, subst, nat_eq, bit_or, inl, inr, ne_eqb}
use Rattle.std.proofs.lemmas.Bool.{cases_eq}
use Rattle.trips_isa.specs.declared.op.Op.{Op}
use Rattle.trips_isa.specs.Alu.{alu_of}
use Rattle.trips_isa.specs.Faults.{divides}
use Rattle.trips_isa.specs.Forms.{size_of}
use Rattle.trips_isa.specs.inside.Acts.{Act, Divided, Accessed, divisions}
use Rattle.ir_forms.specs.declared.hyper.Source.{Source}
use Rattle.ir_forms.specs.declared.hyper.Source.TheVariants.{Const, Reg}
use Rattle.ir_forms.specs.inside.HyperCode.{Items, Done, Set, Load, Save, If}
use Rattle.ir_forms.specs.inside.HyperRuns.{Machine, with_register, with_memory, value_of, loaded, saved, pick}
use Rattle.ir_forms.specs.inside.HyperRuns.{after_items, acts}
use Rattle.hyper_trim.specs.inside.Sets.{bit, without, read_by, matters, Within}
use Rattle.hyper_trim.specs.inside.Trim.{Trimmed, ended, is_dropped, set_kept, trim}
use Rattle.hyper_trim.proofs.Members.{in_left, in_right, first_of, second_of, it_matters, matters_in, not_set}

-- the registers that count have the same words, and all else is the same
pub record Agree (a : ℕ) (m n : Machine) : Type 0 where
  pub registers : (r : ℕ) → matters a r ≡ true → n.registers r ≡ m.registers r
  pub memory : n.memory ≡ m.memory
  pub input : n.input ≡ m.input
  pub output : n.output ≡ m.output

-- machines that agree on more agree on less
pub agree_less : (b a : ℕ) (m n : Machine) → Within b a → Agree a m n → Agree b m n
agree_less b a m n w g = record {
  registers = λ r e. g.registers r (matters_in b a r w e);
  memory = g.memory;
  input = g.input;
  output = g.output;
}

-- a machine agrees with itself
pub agree_itself : (a : ℕ) (m : Machine) → Agree a m m
agree_itself a m = record {
  registers = λ r e. refl;
  memory = refl;
  input = refl;
  output = refl;
}

-- an operand that is alive has the same word
pub value_alike : (a : ℕ) (x : Source) (m n : Machine) → Within (read_by x) a → Agree a m n
    → value_of n.registers x ≡ value_of m.registers x
value_alike a (Const w) m n h g = refl
value_alike a (Reg r) m n h g = g.registers r (it_matters a r h)

-- the same word in one register
pub agree_put : (b a to w : ℕ) (m n : Machine) → Within (without b (bit to)) a → Agree a m n
    → Agree b (with_register m to w) (with_register n to w)
agree_put b a to w m n h g = record {
  registers = λ r e. go r (nat_eq r to) refl e;
  memory = g.memory;
  input = g.input;
  output = g.output;
}
  where
    go : (r : ℕ) (c : Bool) → nat_eq r to ≡ c → matters b r ≡ true
        → cond c w (n.registers r) ≡ cond c w (m.registers r)
    go r true is e = refl
    go r false is e = g.registers r (not_set b a to r is h e)

-- a word in a register that nobody reads
agree_dropped : (a to w : ℕ) (m n : Machine) → matters a to ≡ false → Agree a m n
    → Agree a (with_register m to w) n
agree_dropped a to w m n dead g = record {
  registers = λ r e. go r (nat_eq r to) refl e;
  memory = g.memory;
  input = g.input;
  output = g.output;
}
  where
    go : (r : ℕ) (c : Bool) → nat_eq r to ≡ c → matters a r ≡ true
        → n.registers r ≡ cond c w (m.registers r)
    go r true is e = elim (cases_eq r to) [
      | inl same ↦ absurd (let bad : true ≡ false = sym e ∙ ap (matters a) same ∙ dead in cc)
      | inr other ↦ absurd (let bad : true ≡ false = sym is ∙ ne_eqb r to other in cc)
    ]
    go r false is e = g.registers r e

agree_memory : (a : ℕ) (m n : Machine) (x y : List ℕ) → y ≡ x → Agree a m n
    → Agree a (with_memory m x) (with_memory n y)
agree_memory a m n x y e g = record {
  registers = g.registers;
  memory = e;
  input = g.input;
  output = g.output;
}

-- ITEMS

-- items and what is left of them leave machines that agree, and do the same that can fault
pub record Alike (a : ℕ) (i j : Items) (m n : Machine) : Type 0 where
  pub agree : Agree a (after_items i m) (after_items j n)
  pub acts : acts j n ≡ acts i m

-- a dropped item cannot fault, and its register counts for nothing
pub dropped_is : (leg : Bool) (op : Op) (to : ℕ) (t : Trimmed) → is_dropped leg op to t ≡ true
    → (divides op ≡ false) × (matters t.live to ≡ false)
dropped_is leg op to t e = (go (divides op) _ e, off (divides op) (matters t.live to) _ e)
  where
    go : (x y : Bool) → not x && y ≡ true → x ≡ false
    go true y e = (let bad : false ≡ true = e in cc)
    go false y e = refl

    off : (x y z : Bool) → not x && (not y && z) ≡ true → y ≡ false
    off true y z e = absurd (let bad : false ≡ true = e in cc)
    off false true z e = (let bad : false ≡ true = e in cc)
    off false false z e = refl

pick_agree : (a w : ℕ) (m1 m2 n1 n2 : Machine) → Agree a m1 n1 → Agree a m2 n2
    → Agree a (pick w m1 m2) (pick w n1 n2)
pick_agree a zero m1 m2 n1 n2 g h = h
pick_agree a (suc w) m1 m2 n1 n2 g h = g

pick_acts : (w : ℕ) (a1 a2 b1 b2 : List Act) → b1 ≡ a1 → b2 ≡ a2 → pick w b1 b2 ≡ pick w a1 a2
pick_acts zero a1 a2 b1 b2 g h = h
pick_acts (suc w) a1 a2 b1 b2 g h = g

-- an item that sets a register and stays
kept_alike : (next : ℕ) (to : ℕ) (op : Op) (a b : Source) (rest : Items) (t : Trimmed) (m n : Machine)
    → ((m n : Machine) → Agree t.live m n → Alike next rest t.items m n)
    → Agree (set_kept to op a b t).live m n
    → Alike next (Set to op a b rest) (Set to op a b t.items) m n
kept_alike next to op a b rest t m n go g =
    let left = without t.live (bit to) in
    let all = bit_or (bit_or left (read_by a)) (read_by b) in
    let ea = value_alike all a m n (second_of left (read_by a) (read_by b)) g in
    let eb = value_alike all b m n (in_right (bit_or left (read_by a)) (read_by b)) g in
    let w = alu_of op (value_of m.registers a) (value_of m.registers b) in
    let ew : alu_of op (value_of n.registers a) (value_of n.registers b) ≡ w = ap₂ (alu_of op) ea eb in
    let h = go (with_register m to w) (with_register n to w)
    (agree_put t.live all to w m n (first_of left (read_by a) (read_by b)) g) in
    record {
      agree = subst (λ (v : ℕ). Agree next (after_items rest (with_register m to w))
          (after_items t.items (with_register n to v))) (sym ew) h.agree;
      acts = ap₂ (λ (v u : ℕ). divisions op v ++ acts t.items (with_register n to u)) eb ew
          ∙ ap (λ (l : List Act). divisions op (value_of m.registers b) ++ l) h.acts;
    }

-- items and what is left of them, where machines agree on what is alive before
pub items_alike : (leg : Bool) (i : Items) (next : ℕ) (m n : Machine)
    → Agree (trim leg i (ended next)).live m n → Alike next i (trim leg i (ended next)).items m n
items_alike leg Done next m n g = record { agree = g; acts = refl }
items_alike leg (Set to op a b rest) next m n g =
    go (items_alike leg rest next) (is_dropped leg op to t) refl g
  where
    t : Trimmed
    t = trim leg rest (ended next)

    go : ((m n : Machine) → Agree t.live m n → Alike next rest t.items m n) → (c : Bool)
        → is_dropped leg op to t ≡ c → Agree (cond c t (set_kept to op a b t)).live m n
        → Alike next (Set to op a b rest) (cond c t (set_kept to op a b t)).items m n
    go k true is g =
        let d = dropped_is leg op to t is in
        let w = alu_of op (value_of m.registers a) (value_of m.registers b) in
        let h = k (with_register m to w) n
        (agree_dropped t.live to w m n d.1 g) in
        record {
          agree = h.agree;
          acts = h.acts
              ∙ ap (λ c. cond c (Divided (value_of m.registers b) ∷ []) []
              ++ acts rest (with_register m to w)) (sym d.0);
        }
    go k false is g = kept_alike next to op a b rest t m n k g
items_alike leg (Load to op a rest) next m n g =
    let t = trim leg rest (ended next) in
    let left = without t.live (bit to) in
    let all = bit_or left (read_by a) in
    let ea = value_alike all a m n (in_right left (read_by a)) g in
    let w = loaded op m.memory (value_of m.registers a) in
    let ew : loaded op n.memory (value_of n.registers a) ≡ w = ap₂ (loaded op) g.memory ea in
    let h = items_alike leg rest next (with_register m to w) (with_register n to w)
    (agree_put t.live all to w m n (in_left left (read_by a)) g) in
    record {
      agree = subst (λ (v : ℕ). Agree next (after_items rest (with_register m to w))
          (after_items t.items (with_register n to v))) (sym ew) h.agree;
      acts = ap₂ (λ (v u : ℕ). Accessed v (size_of op) ∷ acts t.items (with_register n to u)) ea ew
          ∙ ap (λ (l : List Act). Accessed (value_of m.registers a) (size_of op) ∷ l) h.acts;
    }
items_alike leg (Save op a v rest) next m n g =
    let t = trim leg rest (ended next) in
    let all = bit_or (bit_or t.live (read_by a)) (read_by v) in
    let ea = value_alike all a m n (second_of t.live (read_by a) (read_by v)) g in
    let ev = value_alike all v m n (in_right (bit_or t.live (read_by a)) (read_by v)) g in
    let x = saved op m.memory (value_of m.registers a) (value_of m.registers v) in
    let y = saved op n.memory (value_of n.registers a) (value_of n.registers v) in
    let ex : y ≡ x =
    ap (λ (k : List ℕ). saved op k (value_of n.registers a) (value_of n.registers v)) g.memory
    ∙ ap₂ (saved op m.memory) ea ev in
    let h = items_alike leg rest next (with_memory m x) (with_memory n y)
    (agree_memory t.live m n x y ex (agree_less t.live all m n (first_of t.live (read_by a) (read_by v)) g)) in
    record {
      agree = h.agree;
      acts = ap₂ (λ (u : ℕ) (l : List Act). Accessed u (size_of op) ∷ l) ea h.acts;
    }
items_alike leg (If x one other rest) next m n g =
    let t = trim leg rest (ended next) in
    let p = trim true one (ended t.live) in
    let q = trim true other (ended t.live) in
    let all = bit_or (bit_or p.live q.live) (read_by x) in
    let w = value_of m.registers x in
    let ew : value_of n.registers x ≡ w =
    value_alike all x m n (in_right (bit_or p.live q.live) (read_by x)) g in
    let hp = items_alike true one t.live m n (agree_less p.live all m n (first_of p.live q.live (read_by x)) g) in
    let hq = items_alike true other t.live m n (agree_less q.live all m n (second_of p.live q.live (read_by x)) g) in
    let h = items_alike leg rest next (pick w (after_items one m) (after_items other m))
    (pick w (after_items p.items n) (after_items q.items n))
    (pick_agree t.live w (after_items one m) (after_items other m) (after_items p.items n)
    (after_items q.items n) hp.agree hq.agree) in
    record {
      agree = subst (λ (v : ℕ). Agree next (after_items rest (pick w (after_items one m) (after_items other m)))
          (after_items t.items (pick v (after_items p.items n) (after_items q.items n)))) (sym ew) h.agree;
      acts = ap (λ (v : ℕ). pick v (acts p.items n) (acts q.items n)
          ++ acts t.items (pick v (after_items p.items n) (after_items q.items n))) ew
          ∙ ap₂ (λ (k l : List Act). k ++ l)
          (pick_acts w (acts one m) (acts other m) (acts p.items n) (acts q.items n) hp.acts hq.acts) h.acts;
    }
