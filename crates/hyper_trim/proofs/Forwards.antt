-- Operands that are forwarded have the same words.
use Rattle.std.proofs.Common.{◌≡◌, ℕ, zero, suc, Bool, true, false, cond, List, [], ◌∷◌, ◌++◌, refl, sym, ap}
use Rattle.std.proofs.Common.{ap₂, ◌∙◌, nat_eq}
use Rattle.trips_isa.specs.declared.op.Op.{Op}
use Rattle.trips_isa.specs.declared.op.Op.TheVariants as ops
use Rattle.trips_isa.specs.Alu.{alu_of}
use Rattle.trips_isa.specs.Forms.{size_of}
use Rattle.trips_isa.specs.inside.Acts.{Act, Accessed, divisions}
use Rattle.ir_forms.specs.declared.hyper.Source.{Source}
use Rattle.ir_forms.specs.declared.hyper.Source.TheVariants.{Const, Reg}
use Rattle.ir_forms.specs.inside.HyperCode.{Items, Done, Set, Load, Save, If, Tail, Leave, Test}
use Rattle.ir_forms.specs.inside.HyperRuns.{Machine, register_put, with_register, with_memory, value_of}
use Rattle.ir_forms.specs.inside.HyperRuns.{loaded, saved, pick}
use Rattle.ir_forms.specs.inside.HyperRuns.{after_items, acts, exit_of}
use Rattle.hyper_trim.specs.inside.Forward.{Copies, none, source_in, reads, unless_read, forget, copied}
use Rattle.hyper_trim.specs.inside.Forward.{is_mov, behind_set}
use Rattle.hyper_trim.specs.inside.Forward.{forget_all, behind, forward, forward_tail}
use Rattle.hyper_trim.specs.inside.Laws.{ForwardingIsSame}

-- a `mov` gives its operand
pub mov_is : (op : Op) (a b : ℕ) → is_mov op ≡ true → alu_of op a b ≡ a
mov_is ops.Add a b e = absurd (let bad : false ≡ true = e in cc)
mov_is ops.Sub a b e = absurd (let bad : false ≡ true = e in cc)
mov_is ops.Mul a b e = absurd (let bad : false ≡ true = e in cc)
mov_is ops.Divs a b e = absurd (let bad : false ≡ true = e in cc)
mov_is ops.Divu a b e = absurd (let bad : false ≡ true = e in cc)
mov_is ops.And a b e = absurd (let bad : false ≡ true = e in cc)
mov_is ops.Or a b e = absurd (let bad : false ≡ true = e in cc)
mov_is ops.Xor a b e = absurd (let bad : false ≡ true = e in cc)
mov_is ops.Sll a b e = absurd (let bad : false ≡ true = e in cc)
mov_is ops.Srl a b e = absurd (let bad : false ≡ true = e in cc)
mov_is ops.Sra a b e = absurd (let bad : false ≡ true = e in cc)
mov_is ops.Extsb a b e = absurd (let bad : false ≡ true = e in cc)
mov_is ops.Extsh a b e = absurd (let bad : false ≡ true = e in cc)
mov_is ops.Extsw a b e = absurd (let bad : false ≡ true = e in cc)
mov_is ops.Extub a b e = absurd (let bad : false ≡ true = e in cc)
mov_is ops.Extuh a b e = absurd (let bad : false ≡ true = e in cc)
mov_is ops.Extuw a b e = absurd (let bad : false ≡ true = e in cc)
mov_is ops.Teq a b e = absurd (let bad : false ≡ true = e in cc)
mov_is ops.Tne a b e = absurd (let bad : false ≡ true = e in cc)
mov_is ops.Tlt a b e = absurd (let bad : false ≡ true = e in cc)
mov_is ops.Tle a b e = absurd (let bad : false ≡ true = e in cc)
mov_is ops.Tgt a b e = absurd (let bad : false ≡ true = e in cc)
mov_is ops.Tge a b e = absurd (let bad : false ≡ true = e in cc)
mov_is ops.Tltu a b e = absurd (let bad : false ≡ true = e in cc)
mov_is ops.Tleu a b e = absurd (let bad : false ≡ true = e in cc)
mov_is ops.Tgtu a b e = absurd (let bad : false ≡ true = e in cc)
mov_is ops.Tgeu a b e = absurd (let bad : false ≡ true = e in cc)
mov_is ops.Mov a b e = refl
mov_is ops.Null a b e = absurd (let bad : false ≡ true = e in cc)
mov_is ops.Addi a b e = absurd (let bad : false ≡ true = e in cc)
mov_is ops.Subi a b e = absurd (let bad : false ≡ true = e in cc)
mov_is ops.Muli a b e = absurd (let bad : false ≡ true = e in cc)
mov_is ops.Andi a b e = absurd (let bad : false ≡ true = e in cc)
mov_is ops.Ori a b e = absurd (let bad : false ≡ true = e in cc)
mov_is ops.Xori a b e = absurd (let bad : false ≡ true = e in cc)
mov_is ops.Slli a b e = absurd (let bad : false ≡ true = e in cc)
mov_is ops.Srli a b e = absurd (let bad : false ≡ true = e in cc)
mov_is ops.Srai a b e = absurd (let bad : false ≡ true = e in cc)
mov_is ops.Teqi a b e = absurd (let bad : false ≡ true = e in cc)
mov_is ops.Tnei a b e = absurd (let bad : false ≡ true = e in cc)
mov_is ops.Tlti a b e = absurd (let bad : false ≡ true = e in cc)
mov_is ops.Tlei a b e = absurd (let bad : false ≡ true = e in cc)
mov_is ops.Tgti a b e = absurd (let bad : false ≡ true = e in cc)
mov_is ops.Tgei a b e = absurd (let bad : false ≡ true = e in cc)
mov_is ops.Tltui a b e = absurd (let bad : false ≡ true = e in cc)
mov_is ops.Tleui a b e = absurd (let bad : false ≡ true = e in cc)
mov_is ops.Tgtui a b e = absurd (let bad : false ≡ true = e in cc)
mov_is ops.Tgeui a b e = absurd (let bad : false ≡ true = e in cc)
mov_is ops.Lb a b e = absurd (let bad : false ≡ true = e in cc)
mov_is ops.Lbs a b e = absurd (let bad : false ≡ true = e in cc)
mov_is ops.Lh a b e = absurd (let bad : false ≡ true = e in cc)
mov_is ops.Lhs a b e = absurd (let bad : false ≡ true = e in cc)
mov_is ops.Lw a b e = absurd (let bad : false ≡ true = e in cc)
mov_is ops.Lws a b e = absurd (let bad : false ≡ true = e in cc)
mov_is ops.Ld a b e = absurd (let bad : false ≡ true = e in cc)
mov_is ops.Sb a b e = absurd (let bad : false ≡ true = e in cc)
mov_is ops.Sh a b e = absurd (let bad : false ≡ true = e in cc)
mov_is ops.Sw a b e = absurd (let bad : false ≡ true = e in cc)
mov_is ops.Sd a b e = absurd (let bad : false ≡ true = e in cc)
mov_is ops.Bro a b e = absurd (let bad : false ≡ true = e in cc)
mov_is ops.Callo a b e = absurd (let bad : false ≡ true = e in cc)
mov_is ops.Br a b e = absurd (let bad : false ≡ true = e in cc)
mov_is ops.Ret a b e = absurd (let bad : false ≡ true = e in cc)
mov_is ops.Scall a b e = absurd (let bad : false ≡ true = e in cc)
mov_is ops.Genu a b e = absurd (let bad : false ≡ true = e in cc)
mov_is ops.Gens a b e = absurd (let bad : false ≡ true = e in cc)
mov_is ops.App a b e = absurd (let bad : false ≡ true = e in cc)

-- a `mov` has no act
pub mov_acts : (op : Op) (b : ℕ) → is_mov op ≡ true → divisions op b ≡ []
mov_acts ops.Add b e = absurd (let bad : false ≡ true = e in cc)
mov_acts ops.Sub b e = absurd (let bad : false ≡ true = e in cc)
mov_acts ops.Mul b e = absurd (let bad : false ≡ true = e in cc)
mov_acts ops.Divs b e = absurd (let bad : false ≡ true = e in cc)
mov_acts ops.Divu b e = absurd (let bad : false ≡ true = e in cc)
mov_acts ops.And b e = absurd (let bad : false ≡ true = e in cc)
mov_acts ops.Or b e = absurd (let bad : false ≡ true = e in cc)
mov_acts ops.Xor b e = absurd (let bad : false ≡ true = e in cc)
mov_acts ops.Sll b e = absurd (let bad : false ≡ true = e in cc)
mov_acts ops.Srl b e = absurd (let bad : false ≡ true = e in cc)
mov_acts ops.Sra b e = absurd (let bad : false ≡ true = e in cc)
mov_acts ops.Extsb b e = absurd (let bad : false ≡ true = e in cc)
mov_acts ops.Extsh b e = absurd (let bad : false ≡ true = e in cc)
mov_acts ops.Extsw b e = absurd (let bad : false ≡ true = e in cc)
mov_acts ops.Extub b e = absurd (let bad : false ≡ true = e in cc)
mov_acts ops.Extuh b e = absurd (let bad : false ≡ true = e in cc)
mov_acts ops.Extuw b e = absurd (let bad : false ≡ true = e in cc)
mov_acts ops.Teq b e = absurd (let bad : false ≡ true = e in cc)
mov_acts ops.Tne b e = absurd (let bad : false ≡ true = e in cc)
mov_acts ops.Tlt b e = absurd (let bad : false ≡ true = e in cc)
mov_acts ops.Tle b e = absurd (let bad : false ≡ true = e in cc)
mov_acts ops.Tgt b e = absurd (let bad : false ≡ true = e in cc)
mov_acts ops.Tge b e = absurd (let bad : false ≡ true = e in cc)
mov_acts ops.Tltu b e = absurd (let bad : false ≡ true = e in cc)
mov_acts ops.Tleu b e = absurd (let bad : false ≡ true = e in cc)
mov_acts ops.Tgtu b e = absurd (let bad : false ≡ true = e in cc)
mov_acts ops.Tgeu b e = absurd (let bad : false ≡ true = e in cc)
mov_acts ops.Mov b e = refl
mov_acts ops.Null b e = absurd (let bad : false ≡ true = e in cc)
mov_acts ops.Addi b e = absurd (let bad : false ≡ true = e in cc)
mov_acts ops.Subi b e = absurd (let bad : false ≡ true = e in cc)
mov_acts ops.Muli b e = absurd (let bad : false ≡ true = e in cc)
mov_acts ops.Andi b e = absurd (let bad : false ≡ true = e in cc)
mov_acts ops.Ori b e = absurd (let bad : false ≡ true = e in cc)
mov_acts ops.Xori b e = absurd (let bad : false ≡ true = e in cc)
mov_acts ops.Slli b e = absurd (let bad : false ≡ true = e in cc)
mov_acts ops.Srli b e = absurd (let bad : false ≡ true = e in cc)
mov_acts ops.Srai b e = absurd (let bad : false ≡ true = e in cc)
mov_acts ops.Teqi b e = absurd (let bad : false ≡ true = e in cc)
mov_acts ops.Tnei b e = absurd (let bad : false ≡ true = e in cc)
mov_acts ops.Tlti b e = absurd (let bad : false ≡ true = e in cc)
mov_acts ops.Tlei b e = absurd (let bad : false ≡ true = e in cc)
mov_acts ops.Tgti b e = absurd (let bad : false ≡ true = e in cc)
mov_acts ops.Tgei b e = absurd (let bad : false ≡ true = e in cc)
mov_acts ops.Tltui b e = absurd (let bad : false ≡ true = e in cc)
mov_acts ops.Tleui b e = absurd (let bad : false ≡ true = e in cc)
mov_acts ops.Tgtui b e = absurd (let bad : false ≡ true = e in cc)
mov_acts ops.Tgeui b e = absurd (let bad : false ≡ true = e in cc)
mov_acts ops.Lb b e = absurd (let bad : false ≡ true = e in cc)
mov_acts ops.Lbs b e = absurd (let bad : false ≡ true = e in cc)
mov_acts ops.Lh b e = absurd (let bad : false ≡ true = e in cc)
mov_acts ops.Lhs b e = absurd (let bad : false ≡ true = e in cc)
mov_acts ops.Lw b e = absurd (let bad : false ≡ true = e in cc)
mov_acts ops.Lws b e = absurd (let bad : false ≡ true = e in cc)
mov_acts ops.Ld b e = absurd (let bad : false ≡ true = e in cc)
mov_acts ops.Sb b e = absurd (let bad : false ≡ true = e in cc)
mov_acts ops.Sh b e = absurd (let bad : false ≡ true = e in cc)
mov_acts ops.Sw b e = absurd (let bad : false ≡ true = e in cc)
mov_acts ops.Sd b e = absurd (let bad : false ≡ true = e in cc)
mov_acts ops.Bro b e = absurd (let bad : false ≡ true = e in cc)
mov_acts ops.Callo b e = absurd (let bad : false ≡ true = e in cc)
mov_acts ops.Br b e = absurd (let bad : false ≡ true = e in cc)
mov_acts ops.Ret b e = absurd (let bad : false ≡ true = e in cc)
mov_acts ops.Scall b e = absurd (let bad : false ≡ true = e in cc)
mov_acts ops.Genu b e = absurd (let bad : false ≡ true = e in cc)
mov_acts ops.Gens b e = absurd (let bad : false ≡ true = e in cc)
mov_acts ops.App b e = absurd (let bad : false ≡ true = e in cc)

-- each register has the word of its source
Knows : Copies → (ℕ → ℕ) → Type 0
Knows c regs = (r : ℕ) → value_of regs (c r) ≡ regs r

value_same : (c : Copies) (regs : ℕ → ℕ) → Knows c regs → (x : Source)
    → value_of regs (source_in c x) ≡ value_of regs x
unfolding Knows
value_same c regs k (Const w) = refl
value_same c regs k (Reg r) = k r

-- a source that does not read a register has its word where that is set
not_read : (to w : ℕ) (regs : ℕ → ℕ) (s : Source) → reads to s ≡ false
    → value_of (register_put regs to w) s ≡ value_of regs s
not_read to w regs (Const v) e = refl
not_read to w regs (Reg q) e = ap (λ (b : Bool). cond b w (regs q)) e

-- a source or the register itself
unless : (to w r : ℕ) (regs : ℕ → ℕ) (s : Source) → value_of regs s ≡ register_put regs to w r
    → value_of (register_put regs to w) (unless_read to r s) ≡ register_put regs to w r
unless to w r regs s h = go (reads to s) refl
  where
    go : (b : Bool) → reads to s ≡ b
        → value_of (register_put regs to w) (cond b (Reg r) s) ≡ register_put regs to w r
    go true e = refl
    go false e = not_read to w regs s e ∙ h

put_other : (to w r : ℕ) (regs : ℕ → ℕ) → nat_eq r to ≡ false → register_put regs to w r ≡ regs r
put_other to w r regs e = ap (λ (b : Bool). cond b w (regs r)) e

put_same : (to w r : ℕ) (regs : ℕ → ℕ) → nat_eq r to ≡ true → register_put regs to w r ≡ w
put_same to w r regs e = ap (λ (b : Bool). cond b w (regs r)) e

forget_knows : (c : Copies) (regs : ℕ → ℕ) (to w : ℕ) → Knows c regs → Knows (forget to c) (register_put regs to w)
unfolding Knows
forget_knows c regs to w k r = go (nat_eq r to) refl
  where
    go : (b : Bool) → nat_eq r to ≡ b
        → value_of (register_put regs to w) (cond b (Reg r) (unless_read to r (c r))) ≡ register_put regs to w r
    go true e = refl
    go false e = unless to w r regs (c r) (k r ∙ sym (put_other to w r regs e))

copied_knows : (c : Copies) (regs : ℕ → ℕ) (to w : ℕ) (s : Source) → value_of regs s ≡ w → Knows c regs
    → Knows (copied to s c) (register_put regs to w)
unfolding Knows
copied_knows c regs to w s h k r = go (nat_eq r to) refl
  where
    go : (b : Bool) → nat_eq r to ≡ b
        → value_of (register_put regs to w) (cond b (unless_read to r s) (forget to c r)) ≡ register_put regs to w r
    go true e = unless to w r regs s (h ∙ sym (put_same to w r regs e))
    go false e = forget_knows c regs to w k r

set_knows : (op : Op) (c : Copies) (regs : ℕ → ℕ) (to b : ℕ) (a : Source) → Knows c regs
    → Knows (behind_set op to (source_in c a) c) (register_put regs to (alu_of op (value_of regs a) b))
set_knows op c regs to b a k = go (is_mov op) refl
  where
    go : (t : Bool) → is_mov op ≡ t → Knows (cond t (copied to (source_in c a) c) (forget to c))
        (register_put regs to (alu_of op (value_of regs a) b))
    go true e =
        copied_knows c regs to (alu_of op (value_of regs a) b) (source_in c a)
        (value_same c regs k a ∙ sym (mov_is op (value_of regs a) b e)) k
    go false e = forget_knows c regs to (alu_of op (value_of regs a) b) k

-- to forget does no harm
less : (c : Copies) (regs : ℕ → ℕ) (to : ℕ) → Knows c regs → Knows (forget to c) regs
unfolding Knows
less c regs to k r = go (nat_eq r to)
  where
    unread : (b : Bool) → value_of regs (cond b (Reg r) (c r)) ≡ regs r
    unread true = refl
    unread false = k r

    go : (b : Bool) → value_of regs (cond b (Reg r) (unless_read to r (c r))) ≡ regs r
    go true = refl
    go false = unread (reads to (c r))

less_all : (i : Items) (c : Copies) (regs : ℕ → ℕ) → Knows c regs → Knows (forget_all i c) regs
less_all Done c regs k = k
less_all (Set to op a b rest) c regs k = less_all rest (forget to c) regs (less c regs to k)
less_all (Load to op a rest) c regs k = less_all rest (forget to c) regs (less c regs to k)
less_all (Save op a v rest) c regs k = less_all rest c regs k
less_all (If x one other rest) c regs k =
    less_all rest (forget_all other (forget_all one c)) regs
    (less_all other (forget_all one c) regs (less_all one c regs k))

pick_knows : (c : Copies) (w : ℕ) (m n : Machine) → Knows c m.registers → Knows c n.registers
    → Knows c (pick w m n).registers
pick_knows c zero m n k h = h
pick_knows c (suc w) m n k h = k

-- what is forgotten is all that items set
forget_all_knows : (i : Items) (c : Copies) (m : Machine) → Knows c m.registers
    → Knows (forget_all i c) (after_items i m).registers
forget_all_knows Done c m k = k
forget_all_knows (Set to op a b rest) c m k =
    forget_all_knows rest (forget to c)
    (with_register m to (alu_of op (value_of m.registers a) (value_of m.registers b)))
    (forget_knows c m.registers to _ k)
forget_all_knows (Load to op a rest) c m k =
    forget_all_knows rest (forget to c)
    (with_register m to (loaded op m.memory (value_of m.registers a)))
    (forget_knows c m.registers to _ k)
forget_all_knows (Save op a v rest) c m k =
    forget_all_knows rest c (with_memory m (saved op m.memory (value_of m.registers a) (value_of m.registers v))) k
forget_all_knows (If x one other rest) c m k =
    let w = value_of m.registers x in
    let d = forget_all one c in
    forget_all_knows rest (forget_all other d) (pick w (after_items one m) (after_items other m))
    (pick_knows (forget_all other d) w (after_items one m) (after_items other m)
    (less_all other d (after_items one m).registers (forget_all_knows one c m k))
    (forget_all_knows other d m (less_all one c m.registers k)))

-- ITEMS

record Same (i : Items) (c : Copies) (m : Machine) : Type 0 where
  pub after : after_items (forward i c) m ≡ after_items i m
  pub acts : acts (forward i c) m ≡ acts i m
  pub knows : Knows (behind i c) (after_items i m).registers

same : (i : Items) (c : Copies) (m : Machine) → Knows c m.registers → Same i c m
same Done c m k = record { after = refl; acts = refl; knows = k }
same (Set to op a b rest) c m k =
    let ea = value_same c m.registers k a in
    let eb = value_same c m.registers k b in
    let d = behind_set op to (source_in c a) c in
    let h = same rest d (with_register m to (alu_of op (value_of m.registers a) (value_of m.registers b)))
    (set_knows op c m.registers to (value_of m.registers b) a k) in
    record {
      after = ap₂ (λ (u v : ℕ). after_items (forward rest d) (with_register m to (alu_of op u v))) ea eb ∙ h.after;
      acts = ap₂ (λ (u v : ℕ). divisions op v ++ acts (forward rest d) (with_register m to (alu_of op u v))) ea eb
          ∙ ap (λ (l : List Act). divisions op (value_of m.registers b) ++ l) h.acts;
      knows = h.knows;
    }
same (Load to op a rest) c m k =
    let ea = value_same c m.registers k a in
    let d = forget to c in
    let h = same rest d (with_register m to (loaded op m.memory (value_of m.registers a)))
    (forget_knows c m.registers to _ k) in
    record {
      after = ap (λ (u : ℕ). after_items (forward rest d) (with_register m to (loaded op m.memory u))) ea ∙ h.after;
      acts = ap (λ (u : ℕ). Accessed u (size_of op) ∷ acts (forward rest d)
          (with_register m to (loaded op m.memory u))) ea
          ∙ ap (λ (l : List Act). Accessed (value_of m.registers a) (size_of op) ∷ l) h.acts;
      knows = h.knows;
    }
same (Save op a v rest) c m k =
    let ea = value_same c m.registers k a in
    let ev = value_same c m.registers k v in
    let h = same rest c (with_memory m (saved op m.memory (value_of m.registers a) (value_of m.registers v))) k in
    record {
      after = ap₂ (λ (p q : ℕ). after_items (forward rest c) (with_memory m (saved op m.memory p q))) ea ev ∙ h.after;
      acts = ap₂ (λ (p q : ℕ). Accessed p (size_of op) ∷ acts (forward rest c)
          (with_memory m (saved op m.memory p q))) ea ev
          ∙ ap (λ (l : List Act). Accessed (value_of m.registers a) (size_of op) ∷ l) h.acts;
      knows = h.knows;
    }
same (If x one other rest) c m k =
    let w = value_of m.registers x in
    let ex = value_same c m.registers k x in
    let d = forget_all other (forget_all one c) in
    let p = same one c m k in
    let q = same other c m k in
    let n = pick w (after_items one m) (after_items other m) in
    let kd = pick_knows d w (after_items one m) (after_items other m)
    (less_all other (forget_all one c) (after_items one m).registers (forget_all_knows one c m k))
    (forget_all_knows other (forget_all one c) m (less_all one c m.registers k)) in
    let h = same rest d n kd in
    let en : pick (value_of m.registers (source_in c x)) (after_items (forward one c) m)
    (after_items (forward other c) m)
    ≡ n =
    ap (λ (u : ℕ). pick u (after_items (forward one c) m) (after_items (forward other c) m)) ex
    ∙ ap₂ (pick w) p.after q.after in
    record {
      after = ap (after_items (forward rest d)) en ∙ h.after;
      acts = ap₂ (λ (l l2 : List Act). l ++ l2)
          (ap (λ (u : ℕ). pick u (acts (forward one c) m) (acts (forward other c) m)) ex ∙ ap₂ (pick w) p.acts q.acts)
          (ap (acts (forward rest d)) en ∙ h.acts);
      knows = h.knows;
    }

tail_same : (t : Tail) (c : Copies) (regs : ℕ → ℕ) → Knows c regs
    → exit_of (forward_tail t c) regs ≡ exit_of t regs
tail_same (Leave e) c regs k = refl
tail_same (Test x one other) c regs k =
    ap (λ (u : ℕ). pick u (exit_of (forward_tail one c) regs) (exit_of (forward_tail other c) regs))
    (value_same c regs k x)
    ∙ ap₂ (pick (value_of regs x)) (tail_same one c regs k) (tail_same other c regs k)

nothing_known : (regs : ℕ → ℕ) → Knows none regs
unfolding Knows
nothing_known regs r = refl

-- a block whose copies are forwarded does the same
pub forwarding_is_same : ForwardingIsSame
forwarding_is_same b = record {
  after = λ m. (same b.items none m (nothing_known m.registers)).after;
  acts = λ m. (same b.items none m (nothing_known m.registers)).acts;
  exit = λ m. tail_same b.tail (behind b.items none) (after_items b.items m).registers
      (same b.items none m (nothing_known m.registers)).knows;
}
