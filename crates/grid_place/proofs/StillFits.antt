-- A moved block fits where the block does.
use Rattle.std.proofs.Common.{◌≡◌, ℕ, zero, suc, ◌<◌, ◌≤◌, List, [], ◌∷◌, map}
use Rattle.std.proofs.Common.{length, get_or, Option, Some, None, refl, sym, ap, subst, ◌∙◌, arith}
use Rattle.std.specs.Prelude.{option_map, ◌^◌}
use Rattle.std.proofs.lemmas.List.{length-map}
use Rattle.trips_isa.specs.declared.block.Spot.{Spot}
use Rattle.trips_isa.specs.declared.block.Spot.TheVariants as spot
use Rattle.trips_isa.specs.declared.block.Inst.{Inst}
use Rattle.trips_isa.specs.declared.block.ReadSlot.{ReadSlot}
use Rattle.trips_isa.specs.declared.block.Block.{Block}
use Rattle.trips_isa.specs.declared.form.Form.{Form}
use Rattle.trips_isa.specs.declared.form.Form.TheVariants.{General, Immediate, Load, Store, Branch}
use Rattle.trips_isa.specs.declared.form.Form.TheVariants.{Constant}
use Rattle.trips_isa.specs.Forms.{form_of}
use Rattle.trips_isa.specs.Fits.{FitsTarget, FitsTargets, FitsOperand, FitsSecond, FitsRead}
use Rattle.trips_isa.specs.Fits.{FitsForm}
use Rattle.trips_isa.specs.Fits.{FitsNoTarget, FitsOneTarget, FitsSlot, FitsBlock}
use Rattle.block_cases.specs.Orders.{slot_of}
use Rattle.grid_place.specs.Moves.{KeepsSlots, Permutes}
use Rattle.grid_place.specs.inside.Moves.{IsMoved, renamed, renamed_read}
use Rattle.grid_place.specs.inside.Moves.{renamed_inst}
use Rattle.grid_place.proofs.MovedNodes.{slot_fits}

pub renamed_back : (p q : ℕ → ℕ) → ((s : ℕ) → q (p s) ≡ s) → (t : Spot)
    → renamed q (renamed p t) ≡ t
renamed_back p q r (spot.Left s) = ap spot.Left (r s)
renamed_back p q r (spot.Right s) = ap spot.Right (r s)
renamed_back p q r (spot.Pred s) = ap spot.Pred (r s)
renamed_back p q r (spot.Inst s) = ap spot.Inst (r s)
renamed_back p q r (spot.Read s) = refl
renamed_back p q r (spot.Write s) = refl
renamed_back p q r (spot.Store s) = refl

target_fits : (p : ℕ → ℕ) → KeepsSlots p → (t : Option Spot) → FitsTarget t
    → FitsTarget (option_map (renamed p) t)
target_fits p k None f = tt
target_fits p k (Some (spot.Left s)) f = k.within s f
target_fits p k (Some (spot.Right s)) f = k.within s f
target_fits p k (Some (spot.Pred s)) f = k.within s f
target_fits p k (Some (spot.Write w)) f = f
target_fits p k (Some (spot.Inst s)) f = absurd f
target_fits p k (Some (spot.Read s)) f = absurd f
target_fits p k (Some (spot.Store s)) f = absurd f

operand_fits : (p : ℕ → ℕ) → KeepsSlots p → (t : Spot) → FitsOperand t → FitsOperand (renamed p t)
operand_fits p k (spot.Left s) f = k.within s f
operand_fits p k (spot.Right s) f = k.within s f
operand_fits p k (spot.Pred s) f = absurd f
operand_fits p k (spot.Write w) f = absurd f
operand_fits p k (spot.Inst s) f = absurd f
operand_fits p k (spot.Read s) f = absurd f
operand_fits p k (spot.Store s) f = absurd f

none_kept : (p : ℕ → ℕ) (t : Option Spot) → t ≡ None → option_map (renamed p) t ≡ None
none_kept p None e = refl
none_kept p (Some t) e = absurd (cc)

targets_fit : (p : ℕ → ℕ) (s t : Option Spot) → FitsTargets s t
    → FitsTargets (option_map (renamed p) s) (option_map (renamed p) t)
targets_fit p None t f = none_kept p t f
targets_fit p (Some s) t f = tt

second_fits : (p q : ℕ → ℕ) → Permutes p q → (first : Spot) (t : Option Spot) → FitsSecond first t
    → FitsSecond (renamed p first) (option_map (renamed p) t)
second_fits p q m first None f = tt
second_fits p q m first (Some t) f = (
  operand_fits p m.there t f.0,
  λ e. f.1 (sym (renamed_back p q m.returns t) ∙ ap (renamed q) e
      ∙ renamed_back p q m.returns first),
)

read_fits : (p q : ℕ → ℕ) → Permutes p q → (r : ReadSlot) → FitsRead r
    → FitsRead (renamed_read p r)
read_fits p q m r f = record {
  register = f.register;
  first = operand_fits p m.there r.first f.first;
  second = second_fits p q m r.first r.second f.second;
}

one_fits : (p : ℕ → ℕ) → KeepsSlots p → (i : Inst) → FitsOneTarget i
    → FitsOneTarget (renamed_inst p i)
one_fits p k i f = record {
  first = target_fits p k i.first f.first;
  second = none_kept p i.second f.second;
}

none_fits : (p : ℕ → ℕ) (i : Inst) → FitsNoTarget i → FitsNoTarget (renamed_inst p i)
none_fits p i f = record {
  first = none_kept p i.first f.first;
  second = none_kept p i.second f.second;
}

form_fits : (p : ℕ → ℕ) → KeepsSlots p → (i : Inst) (t : Form) → FitsForm t i
    → FitsForm t (renamed_inst p i)
form_fits p k i General f = (
  record {
    first = target_fits p k i.first (f.0).first;
    second = target_fits p k i.second (f.0).second;
    order = targets_fit p i.first i.second (f.0).order;
  },
  f.1,
  f.2,
)
form_fits p k i Immediate f = (one_fits p k i f.0, f.1, f.2)
form_fits p k i Load f = (one_fits p k i f.0, f.1, f.2)
form_fits p k i Store f = (none_fits p i f.0, f.1, f.2)
form_fits p k i Branch f = (none_fits p i f.0, f.1, f.2)
form_fits p k i Constant f = (one_fits p k i f.0, f.1, f.2, f.3)

slot_kept : (p : ℕ → ℕ) → KeepsSlots p → (o : Option Inst) → FitsSlot o
    → FitsSlot (option_map (renamed_inst p) o)
slot_kept p k None f = tt
slot_kept p k (Some i) f = form_fits p k i (form_of i.op) f

each_read : (p q : ℕ → ℕ) → Permutes p q → (rs : List ReadSlot)
    → ((k : ℕ) (d : ReadSlot) → k < length rs → FitsRead (get_or rs k d)) → (k : ℕ) (d : ReadSlot)
    → k < length (map (renamed_read p) rs) → FitsRead (get_or (map (renamed_read p) rs) k d)
each_read p q m [] f k d l = absurd (omega arith)
each_read p q m (r ∷ rs) f zero d l = read_fits p q m r (f 0 r (omega arith))
each_read p q m (r ∷ rs) f (suc k) d l = each_read p q m rs
    (λ j e i. f (suc j) e (omega arith)) k d (omega arith)

same_item : {A : Type 0} → (xs : List A) (k : ℕ) (d e : A) → k < length xs
    → get_or xs k d ≡ get_or xs k e
same_item [] k d e l = absurd (omega arith)
same_item (x ∷ xs) zero d e l = refl
same_item (x ∷ xs) (suc k) d e l = same_item xs k d e (omega arith)

-- A moved block of one that fits does.
pub still_fits : (p q : ℕ → ℕ) (b c : Block) → FitsBlock b → Permutes p q → IsMoved p b c
    → FitsBlock c
still_fits p q b c f m w = record {
  reads =
      (let n : length b.reads.items ≤ 32 = f.reads in
      let e : length c.reads.items ≡ length b.reads.items =
      ap length w.reads ∙ length-map b.reads.items (renamed_read p) in
      omega arith);
  each_read = subst (λ rs. (k : ℕ) (d : ReadSlot) → k < length rs → FitsRead (get_or rs k d))
      (sym w.reads) (each_read p q m b.reads.items f.each_read);
  writes =
      (let n : length b.writes.items ≤ 32 = f.writes in
      let e = ap length w.writes in omega (arith, n, e));
  each_write = subst (λ rs. (k d : ℕ) → k < length rs → get_or rs k d < 128) (sym w.writes)
      f.each_write;
  mask = subst (λ k. k < 2 ^ 32) (sym w.mask) f.mask;
  insts = w.size;
  each_inst = λ k d l. subst FitsSlot (same_item c.insts.items k None d l) (slot k);
}
  where
    slot : (k : ℕ) → FitsSlot (slot_of c k)
    slot k = subst (λ s. FitsSlot (slot_of c s)) (m.returned k)
        (subst FitsSlot (sym (w.insts (q k)))
        (slot_kept p m.there (slot_of b (q k)) (slot_fits b f (q k))))
