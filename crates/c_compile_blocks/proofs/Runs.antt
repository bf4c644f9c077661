-- Items without ifs under a scope of a block of one test.
use Rattle.std.proofs.Common.{◌≡◌, ℕ, suc, ◌+◌, ◌*◌, ◌≤◌, Bool, true, false, List, [], ◌∷◌, length, refl, arith}
use Rattle.std.proofs.Common.{sym, subst}
use Rattle.std.specs.Prelude.{None}
use Rattle.trips_isa.specs.declared.op.Op.{Op}
use Rattle.trips_isa.specs.declared.form.Form.TheVariants as form
use Rattle.trips_isa.specs.Forms.{form_of, role_of, takes_right}
use Rattle.ir_forms.specs.declared.hyper.Source.{Source}
use Rattle.ir_forms.specs.declared.flow.FlowNode.{FlowNode}
use Rattle.ir_forms.specs.inside.HyperCode.{Items, Done, Set, Load, Save, If}
use Rattle.ir_forms.specs.inside.HyperFits.{FitsItems, ifs_in, items_in}
use Rattle.predication.specs.inside.Environments.{Scope, Env, Bits, no_bits, left_bits, put, note, from_node, member}
use Rattle.predication.specs.inside.Operands.{operand, bit_set}
use Rattle.predication.specs.inside.Ifs.{Out, items, touched}
use Rattle.predication.proofs.Ops.{op_form}
use Rattle.predication.proofs.EmittedIfs.{load_form, store_form}
use Rattle.c_compile_blocks.proofs.Pieces.{AreBits, note_bits, set_is}
use Rattle.c_compile_blocks.proofs.Items.{not_constant, load_not_constant, store_not_constant, load_one, in_list}
use Rattle.c_compile_blocks.proofs.Items.{NamesIn}
use Rattle.c_compile_blocks.proofs.Supplies.{AreAt}
use Rattle.c_compile_blocks.proofs.OneGuard.{IsGuardBy, IsHeld, held_none, held_wider}
use Rattle.c_compile_blocks.proofs.Entries.{IsUnder, IsChoice, IsOwn, IsKnown, choice_later, own_later, known_later}
use Rattle.c_compile_blocks.proofs.Entries.{put_known, put_own, put_first}
use Rattle.c_compile_blocks.proofs.Steps.{own_place, own_node, item_nodes, item_size, item_from, at_own, at_rest}
use Rattle.c_compile_blocks.proofs.Steps.{own_under, step_held}

-- BITS

-- all bits of a table without bits fulfil T
pub no_bits_are : (T : ℕ → Type 0) → AreBits T no_bits
no_bits_are T r k e = absurd (cc)

-- where all bits fulfil T, those that are left do
pub left_are : (T : ℕ → Type 0) (bits : Bits) (rs : List ℕ) → AreBits T bits → AreBits T (left_bits bits rs)
left_are T bits [] h = h
left_are T bits (r ∷ rs) h = left_are T (note bits r None) rs (note_bits T bits r None h (λ k e. absurd (cc)))

-- bits whose nodes may choose at a node may do so at a later one
pub bits_later : (all : List FlowNode) (j k : ℕ) (g : Scope) (bits : Bits) → j ≤ k
    → AreBits (IsChoice all j g) bits → AreBits (IsChoice all k g) bits
bits_later all j k g bits l h r i e = choice_later all j k g i l (h r i e)

-- an item's own node as a bit
pub set_bits : (all : List FlowNode) (g : Scope) (o : Op) (n : ℕ) (t : Bool) (j : ℕ) (env : Env) (bits : Bits)
    (r : ℕ) (a b : Source) (rest : List FlowNode) → AreAt all j (item_nodes g o n t j env a b rest)
    → AreBits (IsChoice all j g) bits
    → AreBits (IsChoice all (suc (own_place t j env a b)) g) (note bits r (bit_set o bits a (own_place t j env a b)))
set_bits all g o n t j env bits r a b rest at h =
    let k = own_place t j env a b in
    let more = bits_later all j (suc k) g bits (item_from t j env a b) h in
    note_bits (IsChoice all (suc k) g) bits r (bit_set o bits a k) more
    (λ i e. set_is (IsChoice all (suc k) g) o bits a k i more
    (λ z. let w = at_own all g o n t j env a b rest at in (own_node g o n t j env a b, w.0, refl, z, omega arith)) e)

-- bits whose nodes may choose at a node may do so at a later one, with one bit taken away
pub none_bits : (all : List FlowNode) (j k : ℕ) (g : Scope) (bits : Bits) (r : ℕ) → j ≤ k
    → AreBits (IsChoice all j g) bits → AreBits (IsChoice all k g) (note bits r None)
none_bits all j k g bits r l h =
    note_bits (IsChoice all k g) bits r None (bits_later all j k g bits l h) (λ i e. absurd (cc))

-- OPERANDS

-- a set takes its second operand where its operation does
pub as_taken : (b : Bool) → b ≡ true → b ≡ true
as_taken b e = e

-- a load has none
pub load_takes : (o : Op) → form_of o ≡ form.Load → takes_right (role_of o) ≡ true → false ≡ true
load_takes o e d = load_one (form_of o) o e d

-- THE ITEMS

module _ (P : ℕ → Type 0) (all : List FlowNode) (c : ℕ) where
  -- what items without ifs come to, from node j and number n on
  pub record IsRun (m : Bool) (g : Scope) (j n : ℕ) (before : Env) (is : Items) (o : Out) : Type 0 where
    pub held : IsHeld P all c j o.nodes (15 * items_in is)
    pub known : (q : ℕ) → IsKnown all c m (j + length o.nodes) g (o.env q)
    pub kept : (q : ℕ) → IsOwn all j g (before q) → IsOwn all (j + length o.nodes) g (o.env q)
    pub sets : (q : ℕ) → member q (touched is) ≡ true → IsOwn all (j + length o.nodes) g (o.env q)
    pub bits : AreBits (IsChoice all (j + length o.nodes) g) o.bits
    pub number : o.number ≤ n + items_in is

  -- items without ifs under a scope cost little, and what each register comes to is known
  pub run : (is : Items) (m : Bool) (g : Scope) (j n : ℕ) (env : Env) (bits : Bits) → IsGuardBy c g
      → FitsItems is → ifs_in is ≡ 0 → NamesIn P is → ((q : ℕ) → IsKnown all c m j g (env q))
      → AreBits (IsChoice all j g) bits → AreAt all j (items g j n env bits is).nodes
      → IsRun m g j n env is (items g j n env bits is)
  run Done m g j n env bits guard f z p known told at = record {
    held = held_none P all c j (15 * 0);
    known = λ q. known_later all c m j (j + 0) g (env q) (omega arith) (known q);
    kept = λ q x. own_later all j (j + 0) g (env q) (omega arith) x;
    sets = λ q d. absurd (cc);
    bits = bits_later all j (j + 0) g bits (omega arith) told;
    number = omega arith;
  }
  run (Set r o a b rest) m g j n env bits guard f z p known told at =
      let t = takes_right (role_of o) in
      let k = own_place t j env a b in
      let later = items g (suc k) n (put env r (from_node k)) (note bits r (bit_set o bits a k)) rest in
      let here = own_under all g o 0 t j env a b later.nodes at in
      let from = item_from t j env a b in
      let h = run rest m g (suc k) n (put env r (from_node k)) (note bits r (bit_set o bits a k)) guard f.4 z p.2
      (put_known all c m j k g env r from here known)
      (set_bits all g o 0 t j env bits r a b later.nodes at told) (at_rest all g o 0 t j env a b later.nodes at) in
      let size = item_size g o 0 t j env a b later.nodes in
      let end = j + length (item_nodes g o 0 t j env a b later.nodes) in
      let last : suc k + length later.nodes ≤ end = omega (arith, size) in
      record {
        held = held_wider P all c j (item_nodes g o 0 t j env a b later.nodes) (15 + 15 * items_in rest)
            (15 * (1 + items_in rest)) (omega arith)
            (step_held all g o 0 t j env a b later.nodes at P c m (15 * items_in rest) guard (as_taken t)
            (not_constant (form_of o) (op_form o f.1)) p.0 p.1 known h.held);
        known = λ q. known_later all c m (suc k + length later.nodes) end g (later.env q) last (h.known q);
        kept = λ q x.
            own_later all (suc k + length later.nodes) end g (later.env q) last
            (h.kept q (put_own all j k g env r q from here x));
        sets = λ q d.
            own_later all (suc k + length later.nodes) end g (later.env q) last
            (in_list q r (touched rest) d (λ x. h.kept q (put_first all k g env r q here x)) (h.sets q));
        bits = bits_later all (suc k + length later.nodes) end g later.bits last h.bits;
        number = (let w = h.number in omega (arith, w));
      }
  run (Load r o a rest) m g j n env bits guard f z p known told at =
      let k = j + length (operand j env a).nodes in
      let later = items g (suc k) (suc n) (put env r (from_node k)) (note bits r None) rest in
      let same : own_place false j env a a ≡ k = omega arith in
      let here = subst (λ (i : ℕ). IsUnder all (suc i) g i) same
      (own_under all g o n false j env a a later.nodes at) in
      let from : j ≤ suc k = omega arith in
      let form_is = load_form (form_of o) f.1 in
      let h = run rest m g (suc k) (suc n) (put env r (from_node k)) (note bits r None) guard f.3 z p.1
      (put_known all c m j k g env r from here known) (none_bits all j (suc k) g bits r from told)
      (subst (λ (i : ℕ). AreAt all (suc i) later.nodes) same (at_rest all g o n false j env a a later.nodes at)) in
      let size = item_size g o n false j env a a later.nodes in
      let end = j + length (item_nodes g o n false j env a a later.nodes) in
      let last : suc k + length later.nodes ≤ end = omega (arith, size, same) in
      record {
        held = held_wider P all c j (item_nodes g o n false j env a a later.nodes) (15 + 15 * items_in rest)
            (15 * (1 + items_in rest)) (omega arith)
            (step_held all g o n false j env a a later.nodes at P c m (15 * items_in rest) guard
            (load_takes o form_is) (load_not_constant (form_of o) form_is) p.0 p.0 known
            (subst (λ (i : ℕ). IsHeld P all c (suc i) later.nodes (15 * items_in rest)) (sym same) h.held));
        known = λ q. known_later all c m (suc k + length later.nodes) end g (later.env q) last (h.known q);
        kept = λ q x.
            own_later all (suc k + length later.nodes) end g (later.env q) last
            (h.kept q (put_own all j k g env r q from here x));
        sets = λ q d.
            own_later all (suc k + length later.nodes) end g (later.env q) last
            (in_list q r (touched rest) d (λ x. h.kept q (put_first all k g env r q here x)) (h.sets q));
        bits = bits_later all (suc k + length later.nodes) end g later.bits last h.bits;
        number = (let w = h.number in omega (arith, w));
      }
  run (Save o a b rest) m g j n env bits guard f z p known told at =
      let k = own_place true j env a b in
      let later = items g (suc k) (suc n) env bits rest in
      let from = item_from true j env a b in
      let form_is = store_form (form_of o) f.0 in
      let h = run rest m g (suc k) (suc n) env bits guard f.3 z p.2
      (λ q. known_later all c m j (suc k) g (env q) from (known q)) (bits_later all j (suc k) g bits from told)
      (at_rest all g o n true j env a b later.nodes at) in
      let size = item_size g o n true j env a b later.nodes in
      let end = j + length (item_nodes g o n true j env a b later.nodes) in
      let last : suc k + length later.nodes ≤ end = omega (arith, size) in
      record {
        held = held_wider P all c j (item_nodes g o n true j env a b later.nodes) (15 + 15 * items_in rest)
            (15 * (1 + items_in rest)) (omega arith)
            (step_held all g o n true j env a b later.nodes at P c m (15 * items_in rest) guard (λ d. refl)
            (store_not_constant (form_of o) form_is) p.0 p.1 known h.held);
        known = λ q. known_later all c m (suc k + length later.nodes) end g (later.env q) last (h.known q);
        kept = λ q x.
            own_later all (suc k + length later.nodes) end g (later.env q) last
            (h.kept q (own_later all j (suc k) g (env q) from x));
        sets = λ q d. own_later all (suc k + length later.nodes) end g (later.env q) last (h.sets q d);
        bits = bits_later all (suc k + length later.nodes) end g later.bits last h.bits;
        number = (let w = h.number in omega (arith, w));
      }
  run (If t one other rest) m g j n env bits guard f z p known told at = absurd (omega (arith, z))
