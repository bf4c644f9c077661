-- The nodes of items without ifs.
use Rattle.std.proofs.Common.{◌≡◌, ℕ, suc, ◌+◌, ◌≤◌, Bool, true, false, List, [], ◌∷◌, ◌++◌}
use Rattle.std.proofs.Common.{length, refl, subst, arith, length-append, cond, nat_eq}
use Rattle.std.specs.Prelude.{None, pos}
use Rattle.trips_isa.specs.declared.op.Op.{Op}
use Rattle.trips_isa.specs.declared.form.Form.{Form}
use Rattle.trips_isa.specs.declared.form.Form.TheVariants as form
use Rattle.trips_isa.specs.Forms.{form_of, role_of, role_in, takes_right}
use Rattle.ir_forms.specs.inside.HyperCode.{Items, Done, Set, Load, Save, If}
use Rattle.ir_forms.specs.inside.HyperFits.{FitsItems, ifs_in, items_in}
use Rattle.predication.specs.inside.Environments.{Env, Bits, put, note, from_node, member}
use Rattle.predication.specs.inside.Operands.{operand, second, bit_set, node_of}
use Rattle.predication.specs.inside.Ifs.{Out, items, touched}
use Rattle.predication.proofs.Ops.{op_form}
use Rattle.predication.proofs.EmittedIfs.{load_form, store_form}
use Rattle.c_compile_blocks.specs.inside.Costs.{items_cost, source_cost}
use Rattle.c_compile_blocks.proofs.Flat.{Told, told_back, Good, nothing, no_piece, grouped}
use Rattle.c_compile_blocks.proofs.Pieces.{IsSet, ArePlain, set_later, plains_later, put_plain, put_kept, put_here}
use Rattle.c_compile_blocks.proofs.Pieces.{AreBits, note_bits, set_is, Names, operand_piece, second_piece}

-- a general form is no constant
pub not_constant : (e : Form) → e ≡ form.General → e ≡ form.Constant → ⊥
not_constant e a b = absurd (cc)

-- a load is no constant
pub load_not_constant : (e : Form) → e ≡ form.Load → e ≡ form.Constant → ⊥
load_not_constant e a b = absurd (cc)

-- a store is no constant
pub store_not_constant : (e : Form) → e ≡ form.Store → e ≡ form.Constant → ⊥
store_not_constant e a b = absurd (cc)

-- a load has one operand
pub load_one : (e : Form) (o : Op) → e ≡ form.Load → takes_right (role_in e o) ≡ true → false ≡ true
load_one form.Load o a b = b
load_one form.General o a b = absurd (cc)
load_one form.Immediate o a b = absurd (cc)
load_one form.Store o a b = absurd (cc)
load_one form.Branch o a b = absurd (cc)
load_one form.Constant o a b = absurd (cc)

-- a member of a list is its head or one of the rest
pub in_list : {Q : Type 0} → (q r : ℕ) (rs : List ℕ) → member q (r ∷ rs) ≡ true → (nat_eq q r ≡ true → Q)
    → (member q rs ≡ true → Q) → Q
in_list {Q} q r rs e f g = go (nat_eq q r) refl e
  where
    go : (b : Bool) → nat_eq q r ≡ b → cond b true (member q rs) ≡ true → Q
    go true z x = f z
    go false z x = g x

-- the registers of all operands may be read
abbrev pub NamesIn : (ℕ → Type 0) → Items → Type 0
NamesIn P Done = Unit {0}
NamesIn P (Set r op a b rest) = Names P a × Names P b × NamesIn P rest
NamesIn P (Load r op a rest) = Names P a × NamesIn P rest
NamesIn P (Save op a v rest) = Names P a × Names P v × NamesIn P rest
NamesIn P (If t one other rest) = Names P t × NamesIn P one × NamesIn P other × NamesIn P rest

module _ (T P : ℕ → Type 0) where
  -- what items without ifs come to, from node j and number m on
  pub record IsOut (j m : ℕ) (before : Env) (is : Items) (o : Out) : Type 0 where
    pub good : Good P j o.nodes (items_cost is)
    pub env : ArePlain (j + length o.nodes) o.env
    pub kept : (r : ℕ) → IsSet j (before r) → IsSet (j + length o.nodes) (o.env r)
    pub sets : (r : ℕ) → member r (touched is) ≡ true → IsSet (j + length o.nodes) (o.env r)
    pub bits : AreBits T o.bits
    pub number : o.number ≤ m + items_in is

  -- items without ifs come to flat nodes of their cost
  pub items_out : (is : Items) (j m : ℕ) (env : Env) (bits : Bits) → FitsItems is → ifs_in is ≡ 0
      → NamesIn P is → ArePlain j env → AreBits T bits → Told T j (items None j m env bits is).nodes
      → IsOut j m env is (items None j m env bits is)
  items_out Done j m env bits f z p g b t = record {
    good = nothing P j;
    env = plains_later j (j + 0) env (omega arith) g;
    kept = λ r s. set_later j (j + 0) (env r) (omega arith) s;
    sets = λ r e. absurd (cc);
    bits = b;
    number = omega arith;
  }
  items_out (Set r o a c rest) j m env bits f z p g b t =
      let x = operand j env a in
      let tr = takes_right (role_of o) in
      let y = second tr (j + length x.nodes) env c in
      let k = j + length x.nodes + length y.nodes in
      let n = node_of o 0 None x.sources y.sources in
      let later = items None (suc k) m (put env r (from_node k)) (note bits r (bit_set o bits a k)) rest in
      let ty = told_back T j x.nodes (y.nodes ++ n ∷ later.nodes) t in
      let tn = told_back T (j + length x.nodes) y.nodes (n ∷ later.nodes) ty in
      let h = items_out rest (suc k) m (put env r (from_node k)) (note bits r (bit_set o bits a k)) f.4 z p.2
      (put_plain j k env r (omega arith) g)
      (note_bits T bits r (bit_set o bits a k) b (λ i e. set_is T o bits a k i b tn.0 e)) tn.1 in
      let good = grouped P j x.nodes y.nodes x.sources y.sources (source_cost a) (source_cost c) (items_cost rest)
      tr o (pos 0) 0 later.nodes (operand_piece P j env a g p.0)
      (second_piece P tr (j + length x.nodes) env c (plains_later j (j + length x.nodes) env (omega arith) g) p.1)
      (λ e. e) (not_constant (form_of o) (op_form o f.1)) h.good in
      let u = length-append x.nodes (y.nodes ++ n ∷ later.nodes) in
      let v = length-append y.nodes (n ∷ later.nodes) in
      let size : suc k + length later.nodes ≤ j + length (x.nodes ++ (y.nodes ++ n ∷ later.nodes)) = omega (
        arith,
        u,
        v,
      ) in
      let end = j + length (x.nodes ++ (y.nodes ++ n ∷ later.nodes)) in
      record {
        good = good;
        env = plains_later (suc k + length later.nodes) end later.env size h.env;
        kept = λ q s.
            set_later (suc k + length later.nodes) end (later.env q) size
            (h.kept q (put_kept j k env r q (omega arith) s));
        sets = λ q e.
            set_later (suc k + length later.nodes) end (later.env q) size
            (in_list q r (touched rest) e (λ s. h.kept q (put_here k env r q s)) (h.sets q));
        bits = h.bits;
        number = (let w = h.number in omega (arith, w));
      }
  items_out (Load r o a rest) j m env bits f z p g b t =
      let x = operand j env a in
      let k = j + length x.nodes in
      let n = node_of o m None x.sources [] in
      let later = items None (suc k) (suc m) (put env r (from_node k)) (note bits r None) rest in
      let tn = told_back T j x.nodes (n ∷ later.nodes) t in
      let h = items_out rest (suc k) (suc m) (put env r (from_node k)) (note bits r None) f.3 z p.1
      (put_plain j k env r (omega arith) g) (note_bits T bits r None b (λ i e. absurd (cc))) tn.1 in
      let form_is = load_form (form_of o) f.1 in
      let none : suc k ≡ suc (k + 0) = omega arith in
      let good = grouped P j x.nodes [] x.sources [] (source_cost a) 0 (items_cost rest) false o (pos 0) m
      later.nodes (operand_piece P j env a g p.0) (no_piece P k) (load_one (form_of o) o form_is)
      (load_not_constant (form_of o) form_is)
      (subst (λ (i : ℕ). Good P i later.nodes (items_cost rest)) none h.good) in
      let u = length-append x.nodes (n ∷ later.nodes) in
      let end = j + length (x.nodes ++ n ∷ later.nodes) in
      let size : suc k + length later.nodes ≤ end = omega (arith, u) in
      record {
        good = record {
          nodes = good.nodes;
          used = good.used;
          reads = good.reads;
          cost = (let w = good.cost in omega (arith, w));
        };
        env = plains_later (suc k + length later.nodes) end later.env size h.env;
        kept = λ q s.
            set_later (suc k + length later.nodes) end (later.env q) size
            (h.kept q (put_kept j k env r q (omega arith) s));
        sets = λ q e.
            set_later (suc k + length later.nodes) end (later.env q) size
            (in_list q r (touched rest) e (λ s. h.kept q (put_here k env r q s)) (h.sets q));
        bits = h.bits;
        number = (let w = h.number in omega (arith, w));
      }
  items_out (Save o a c rest) j m env bits f z p g b t =
      let x = operand j env a in
      let y = operand (j + length x.nodes) env c in
      let k = j + length x.nodes + length y.nodes in
      let n = node_of o m None x.sources y.sources in
      let later = items None (suc k) (suc m) env bits rest in
      let ty = told_back T j x.nodes (y.nodes ++ n ∷ later.nodes) t in
      let tn = told_back T (j + length x.nodes) y.nodes (n ∷ later.nodes) ty in
      let h = items_out rest (suc k) (suc m) env bits f.3 z p.2 (plains_later j (suc k) env (omega arith) g) b tn.1 in
      let form_is = store_form (form_of o) f.0 in
      let good = grouped P j x.nodes y.nodes x.sources y.sources (source_cost a) (source_cost c) (items_cost rest)
      true o (pos 0) m later.nodes (operand_piece P j env a g p.0)
      (operand_piece P (j + length x.nodes) env c (plains_later j (j + length x.nodes) env (omega arith) g) p.1)
      (λ e. refl) (store_not_constant (form_of o) form_is) h.good in
      let u = length-append x.nodes (y.nodes ++ n ∷ later.nodes) in
      let v = length-append y.nodes (n ∷ later.nodes) in
      let end = j + length (x.nodes ++ (y.nodes ++ n ∷ later.nodes)) in
      let size : suc k + length later.nodes ≤ end = omega (arith, u, v) in
      record {
        good = good;
        env = plains_later (suc k + length later.nodes) end later.env size h.env;
        kept = λ q s.
            set_later (suc k + length later.nodes) end (later.env q) size
            (h.kept q (set_later j (suc k) (env q) (omega arith) s));
        sets = λ q e. set_later (suc k + length later.nodes) end (later.env q) size (h.sets q e);
        bits = h.bits;
        number = (let w = h.number in omega (arith, w));
      }
  items_out (If c one other rest) j m env bits f z p g b t = absurd (omega (arith, z))
