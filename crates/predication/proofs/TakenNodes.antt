-- Where the guard is met, the nodes of one operation, load or store do what it does.
use Rattle.std.proofs.Common.{◌≡◌, ℕ, suc, ◌+◌, ◌^◌, ◌<◌, List, [], ◌∷◌, ◌++◌, length, refl, ap, ◌∙◌, arith, cond}
use Rattle.std.proofs.Common.{nat_eq, true, ◌%◌}
use Rattle.std.specs.Prelude.{Option, Some, None, pos, slice_index}
use Rattle.trips_isa.specs.declared.op.Op.{Op}
use Rattle.trips_isa.specs.declared.form.Form.{Form}
use Rattle.trips_isa.specs.declared.block.Token.TheVariants.{Word}
use Rattle.trips_isa.specs.declared.block.Stored.{Stored}
use Rattle.trips_isa.specs.declared.block.Inst.{Inst}
use Rattle.trips_isa.specs.Forms.{form_of, role_of, takes_right, size_of, role_in}
use Rattle.trips_isa.specs.Rule.{Answer}
use Rattle.trips_isa.specs.Rule as rule
use Rattle.ir_forms.specs.declared.hyper.Source.{Source}
use Rattle.ir_forms.specs.declared.flow.FlowSource.{FlowSource}
use Rattle.ir_forms.specs.declared.flow.FlowNode.{FlowNode}
use Rattle.trips_isa.specs.inside.Acts.{Act, Accessed, divisions}
use Rattle.ir_forms.specs.inside.HyperRuns.{value_of, Machine, with_register, with_memory, after_items, acts, loaded}
use Rattle.ir_forms.specs.inside.HyperRuns.{saved}
use Rattle.ir_forms.specs.inside.FlowRuns.{Computes, first, met, act_tokens, fired, inst_of}
use Rattle.predication.specs.inside.Environments.{Scope, Env, Bits, put, from_node, note, member}
use Rattle.predication.specs.inside.Operands.{node_of, operand, second, is_test, is_move, bit_set}
use Rattle.predication.specs.inside.Ifs.{items, touched}
use Rattle.trips_isa.specs.Stores.{stored_of, address_of, word_store, is_good_address, bytes_seen}
use Rattle.ir_forms.specs.inside.HyperCode.{Items, Set, Load, Save}
use Rattle.ir_forms.specs.inside.FlatFits.{operates, loads}
use Rattle.ir_forms.specs.inside.FlatFits as flat
use Rattle.ir_forms.specs.inside.HyperFits.{FitsSource}
use Rattle.predication.proofs.Tables.{Clear, Live, live_sparse, from_sound, live_put, calm_append, operand_calm}
use Rattle.predication.proofs.Tables.{second_calm, Runs, runs_front, runs_back, operand_few, second_few}
use Rattle.predication.proofs.QuietNodes.{operand_quiet, second_quiet}
use Rattle.predication.proofs.Memory.{Holds, holds_none, holds_store, holds_number}
use Rattle.predication.proofs.EmittedIfs.{fired_one, fired_two, node_acts, load_form, store_form}
use Rattle.predication.proofs.Untaken.{load_none, store_settled}
use Rattle.predication.proofs.WordLemmas.{Words, load_word, save_bytes}
use Rattle.trips_isa.proofs.WordLemmas.{alu_fits}
use Rattle.predication.proofs.Operands.{Meant, operand_gives, second_gives}
use Rattle.predication.proofs.Ops.{op_form, op_fires, op_acts, test_bit}
use Rattle.predication.proofs.BitLemmas.{move_gives}
use Rattle.trips_isa.specs.Alu.{alu_of, loaded_as}
use Rattle.trips_isa.specs.Blocks.{form_computes}
use Rattle.predication.proofs.Taken.{value_word, put_word, BitsAre, On, note_are, set_is, kept_put, met_node}
use Rattle.predication.proofs.Taken.{met_store, met_acts}

plain_address : (n : FlowNode) (a : ℕ) → n.imm ≡ pos 0 → a < 2 ^ 64 → address_of (inst_of n) a ≡ a
plain_address n a e l = let z : address_of (inst_of n) a ≡ (a + 0) % 2 ^ 64 = rw e refl in omega (arith, z, l)

module _ (regs : ℕ → ℕ) (h : ℕ → Answer) (f : Computes) (st : ℕ → Option Stored) (mem : List ℕ) where
  -- ITEMS

  set_meant : (k : ℕ) (o : Op) (g : Scope) (xs ys : List FlowSource) → operates o ≡ true → Meant regs h f st mem
      → (p q : ℕ) → f k (node_of o 0 g xs ys) p q ≡ alu_of o p q
  set_meant k o g xs ys e m p q =
      let n = node_of o 0 g xs ys in
      m k n p q ∙ ap (λ (F : Form). form_computes F (inst_of n)
      (λ a. bytes_seen st (slice_index mem) n.number a (size_of n.op)) p q) (op_form o e)

  -- an operation does what it does in the items, if what comes behind it does
  pub on_set :
      (g : Scope) (j m : ℕ) (env : Env) (bits : Bits) (r : ℕ) (o : Op) (a b : Source) (rest : Items) (s : Machine)
      → operates o ≡ true → FitsSource a → FitsSource b → Clear regs h g → met h g ≡ true
      → Live regs h env s.registers → BitsAre regs h f st mem bits s.registers
      → Runs regs h f st j (items g j m env bits (Set r o a b rest)).nodes
      → ((k m2 : ℕ) (env2 : Env) (bits2 : Bits) (s2 : Machine) → Live regs h env2 s2.registers
      → BitsAre regs h f st mem bits2 s2.registers → Runs regs h f st k (items g k m2 env2 bits2 rest).nodes
      → On regs h f st mem g k m2 env2 bits2 rest s2)
      → On regs h f st mem g j m env bits (Set r o a b rest) s
  on_set g j m env bits r o a b rest s opr ta tb cl u l bs x ih =
      let xs = (operand j env a).nodes in
      let i = j + length xs in
      let tr = takes_right (role_of o) in
      let ys = (second tr i env b).nodes in
      let k = i + length ys in
      let en = from_node k in
      let bi = note bits r (bit_set o bits a k) in
      let rs = items g (suc k) m (put env r en) bi rest in
      let n = node_of o 0 g (operand j env a).sources (second tr i env b).sources in
      let x1 = runs_back regs h f st j xs (ys ++ n ∷ rs.nodes) x in
      let x2 = runs_back regs h f st i ys (n ∷ rs.nodes) x1 in
      let xf = runs_front regs h f st j xs (ys ++ n ∷ rs.nodes) x in
      let yf = runs_front regs h f st i ys (n ∷ rs.nodes) x1 in
      let ga = operand_gives regs h f st mem j env a s.registers ta l xf in
      let gb = second_gives regs h f st mem tr i env b s.registers tb l yf in
      let fr = op_fires o n (f k n) ga.word gb.word (first regs h (second tr i env b).sources) opr gb.right in
      let v = fr.word in
      let e : h k ≡ Some (Word v) = met_node regs h f st mem g (h k) _ u x2.0
      ∙ ap (λ (t : Answer). rule.gives (role_of o) (f k n) t (first regs h (second tr i env b).sources)) ga.gives
      ∙ fr.gives in
      let s1 = with_register s r v in
      let sp = live_sparse regs h env s.registers l in
      let vm : Meant regs h f st mem → v ≡ alu_of o ga.word gb.word =
      λ mt. fr.means (set_meant k o g (operand j env a).sources (second tr i env b).sources opr mt) in
      let vb : is_test o ≡ true → Meant regs h f st mem → v < 2 = λ it mt. let q =
      test_bit o ga.word gb.word it in let z = vm mt in omega (arith, q, z) in
      let vc : is_move o ≡ true → Meant regs h f st mem → v ≡ value_of s.registers a =
      λ it mt. vm mt ∙ move_gives o ga.word gb.word it ∙ ga.means mt in
      let w = ih (suc k) m (put env r en) bi s1 (live_put regs h env s.registers r v en l
      (λ old. from_sound regs h k v old e))
      (note_are regs h f st mem bits s.registers r v (bit_set o bits a k)
      (λ q z. set_is regs h f st mem o bits s.registers a k q v e vb vc bs z) bs)
      x2.2 in
      record {
        after = w.after;
        live = w.live;
        calm = calm_append regs h xs (ys ++ n ∷ rs.nodes) (operand_calm regs h j env a sp)
            (calm_append regs h ys (n ∷ rs.nodes) (second_calm regs h tr i env b sp)
            (cl, (operand_few regs h f st j env a sp xf, second_few regs h f st tr i env b sp yf), w.calm));
        bit = w.bit;
        kept = λ q e2. kept_put regs h f st mem (nat_eq q r) (member q (touched rest)) (w.after.registers q) v
            (s.registers q) e2 (w.kept q);
        means = λ mt ws mm.
            let ea = ga.means mt in
            let eb = gb.means mt in
            let va = value_of s.registers a in
            let vv = value_of s.registers b in
            let ev : v ≡ alu_of o va vv = vm mt ∙ ap (λ (p : ℕ). alu_of o p gb.word) ea
            ∙ ap (λ (p : ℕ). alu_of o va p) eb in
            let lv : alu_of o va vv < 2 ^ 64 = alu_fits o va vv (value_word s.registers a ws.registers ta)
            (value_word s.registers b ws.registers tb) in
            let ws1 : Words s1 = record {
              registers = put_word s.registers r v ws.registers
                  (omega (arith, ev, lv));
              bytes = ws.bytes;
            } in
            let z = w.means mt ws1 mm in
            let es : s1 ≡ with_register s r (alu_of o va vv) = ap (λ (p : ℕ). with_register s r p) ev in
            let n1 : node_acts regs h n ≡ divisions o vv =
            met_acts regs h f st mem g _ u ∙ ap (λ (t : Answer). act_tokens (form_of o) n t
            (first regs h (second tr i env b).sources)) ga.gives
            ∙ op_acts o n ga.word gb.word (first regs h (second tr i env b).sources) refl opr gb.right
            ∙ ap (λ (p : ℕ). divisions o p) eb in
            record {
              same = z.same ∙ ap (after_items rest) es;
              memory = z.memory;
              acts = fired_two regs h xs ys n rs.nodes (operand_quiet j env a) (second_quiet tr i env b)
                  ∙ ap (λ (p : List Act). p ++ fired regs h rs.nodes) n1
                  ∙ ap (λ (p : List Act). divisions o vv ++ p) (z.acts ∙ ap (acts rest) es);
              words = z.words;
            };
      }

  load_gives : (o : Op) (fn : ℕ → ℕ → ℕ) (l r : Answer) (a : ℕ) → loads o ≡ true → l ≡ Some (Word a)
      → rule.gives (role_of o) fn l r ≡ Some (Word (fn a 0))
  load_gives o fn l r a e z = ap (λ (F : Form). rule.gives (role_in F o) fn l r) (load_form (form_of o) e) ∙ rw z refl

  load_acts : (o : Op) (n : FlowNode) (l r : Answer) (a : ℕ) → loads o ≡ true → l ≡ Some (Word a)
      → act_tokens (form_of o) n l r ≡ Accessed (address_of (inst_of n) a) (size_of n.op) ∷ []
  load_acts o n l r a e z = ap (λ (F : Form). act_tokens F n l r) (load_form (form_of o) e) ∙ rw z refl

  load_meant : (k m : ℕ) (o : Op) (g : Scope) (xs : List FlowSource) (bytes : List ℕ) (a b : ℕ) → loads o ≡ true
      → Meant regs h f st mem → Holds st mem m bytes
      → a ≡ b → b < 2 ^ 64 → f k (node_of o m g xs []) a 0 ≡ loaded o bytes b
  load_meant k m o g xs bytes a b e mt w ab lb =
      let n = node_of o m g xs [] in
      let ad : address_of (inst_of n) a ≡ b = ap (address_of (inst_of n)) ab ∙ plain_address n b refl lb in
      mt k n a 0
      ∙ ap (λ (F : Form). form_computes F (inst_of n)
      (λ (q : ℕ). bytes_seen st (slice_index mem) m q (size_of o)) a 0) (load_form (form_of o) e)
      ∙ ap (λ (q : ℕ). cond (is_good_address q (size_of o))
      (loaded_as o (bytes_seen st (slice_index mem) m q (size_of o))) 0) ad
      ∙ ap (λ (q : ℕ). cond (is_good_address b (size_of o)) (loaded_as o q) 0)
      (holds_number st mem m bytes w b (size_of o))

  -- a load does what it does in the items, if what comes behind it does
  pub on_load :
      (g : Scope) (j m : ℕ) (env : Env) (bits : Bits) (r : ℕ) (o : Op) (a : Source) (rest : Items) (s : Machine)
      → loads o ≡ true → FitsSource a → Clear regs h g → met h g ≡ true → Live regs h env s.registers
      → BitsAre regs h f st mem bits s.registers
      → Runs regs h f st j (items g j m env bits (Load r o a rest)).nodes
      → ((k m2 : ℕ) (env2 : Env) (bits2 : Bits) (s2 : Machine) → Live regs h env2 s2.registers
      → BitsAre regs h f st mem bits2 s2.registers → Runs regs h f st k (items g k m2 env2 bits2 rest).nodes
      → On regs h f st mem g k m2 env2 bits2 rest s2)
      → On regs h f st mem g j m env bits (Load r o a rest) s
  on_load g j m env bits r o a rest s opl ta cl u l bs x ih =
      let xs = (operand j env a).nodes in
      let k = j + length xs in
      let en = from_node k in
      let bi = note bits r None in
      let rs = items g (suc k) (suc m) (put env r en) bi rest in
      let n = node_of o m g (operand j env a).sources [] in
      let x2 = runs_back regs h f st j xs (n ∷ rs.nodes) x in
      let xf = runs_front regs h f st j xs (n ∷ rs.nodes) x in
      let ga = operand_gives regs h f st mem j env a s.registers ta l xf in
      let v = f k n ga.word 0 in
      let e : h k ≡ Some (Word v) = met_node regs h f st mem g (h k) _ u x2.0
      ∙ load_gives o (f k n) _ None ga.word opl ga.gives in
      let s1 = with_register s r v in
      let sp = live_sparse regs h env s.registers l in
      let w = ih (suc k) (suc m) (put env r en) bi s1
      (live_put regs h env s.registers r v en l (λ old. from_sound regs h k v old e))
      (note_are regs h f st mem bits s.registers r v None (λ q z. absurd (cc)) bs) x2.2 in
      record {
        after = w.after;
        live = w.live;
        calm = calm_append regs h xs (n ∷ rs.nodes) (operand_calm regs h j env a sp)
            (cl, (operand_few regs h f st j env a sp xf, omega arith), w.calm);
        bit = w.bit;
        kept = λ q e2. kept_put regs h f st mem (nat_eq q r) (member q (touched rest)) (w.after.registers q) v
            (s.registers q) e2 (w.kept q);
        means = λ mt ws mm.
            let va = value_of s.registers a in
            let lva = value_word s.registers a ws.registers ta in
            let ev : v ≡ loaded o s.memory va = load_meant k m o g
            (operand j env a).sources s.memory ga.word va opl mt mm (ga.means mt) lva in
            let lv = load_word o s.memory va ws.bytes in
            let ws1 : Words s1 = record {
              registers = put_word s.registers r v ws.registers
                  (omega (arith, ev, lv));
              bytes = ws.bytes;
            } in
            let z = w.means mt ws1 (holds_none st mem m s.memory (load_none regs h f st mem o n refl opl x2.1) mm) in
            let es : s1 ≡ with_register s r (loaded o s.memory va) = ap (λ (p : ℕ). with_register s r p) ev in
            let n1 : node_acts regs h n ≡ Accessed va (size_of o) ∷ [] =
            met_acts regs h f st mem g _ u ∙ load_acts o n _ None ga.word opl ga.gives
            ∙ ap (λ (p : ℕ). Accessed p (size_of o) ∷ [])
            (ap (address_of (inst_of n)) (ga.means mt) ∙ plain_address n va refl lva) in
            record {
              same = z.same ∙ ap (after_items rest) es;
              memory = z.memory;
              acts = fired_one regs h xs n rs.nodes (operand_quiet j env a)
                  ∙ ap (λ (p : List Act). p ++ fired regs h rs.nodes) n1
                  ∙ ap (λ (p : List Act). Accessed va (size_of o) ∷ p) (z.acts ∙ ap (acts rest) es);
              words = z.words;
            };
      }

  save_stores : (i : Inst) (l r : Answer) (a b : ℕ) → l ≡ Some (Word a) → r ≡ Some (Word b) → stored_of i l r
      ≡ Some (word_store i (address_of i a) b)
  save_stores i l r a b x y = rw (x, y) refl

  save_acts : (o : Op) (n : FlowNode) (l r : Answer) (a b : ℕ) → flat.stores o ≡ true → l ≡ Some (Word a) → r
      ≡ Some (Word b)
      → act_tokens (form_of o) n l r ≡ Accessed (address_of (inst_of n) a) (size_of n.op) ∷ []
  save_acts o n l r a b e x y = ap (λ (F : Form). act_tokens F n l r) (store_form (form_of o) e) ∙ rw (x, y) refl

  -- a store does what it does in the items, if what comes behind it does
  pub on_save :
      (g : Scope) (j m : ℕ) (env : Env) (bits : Bits) (o : Op) (a b : Source) (rest : Items) (s : Machine)
      → flat.stores o ≡ true → FitsSource a → FitsSource b → Clear regs h g → met h g ≡ true
      → Live regs h env s.registers → BitsAre regs h f st mem bits s.registers
      → Runs regs h f st j (items g j m env bits (Save o a b rest)).nodes
      → ((k m2 : ℕ) (env2 : Env) (bits2 : Bits) (s2 : Machine) → Live regs h env2 s2.registers
      → BitsAre regs h f st mem bits2 s2.registers → Runs regs h f st k (items g k m2 env2 bits2 rest).nodes
      → On regs h f st mem g k m2 env2 bits2 rest s2)
      → On regs h f st mem g j m env bits (Save o a b rest) s
  on_save g j m env bits o a b rest s ops ta tb cl u l bs x ih =
      let xs = (operand j env a).nodes in
      let i = j + length xs in
      let ys = (operand i env b).nodes in
      let k = i + length ys in
      let rs = items g (suc k) (suc m) env bits rest in
      let n = node_of o m g (operand j env a).sources (operand i env b).sources in
      let x1 = runs_back regs h f st j xs (ys ++ n ∷ rs.nodes) x in
      let x2 = runs_back regs h f st i ys (n ∷ rs.nodes) x1 in
      let xf = runs_front regs h f st j xs (ys ++ n ∷ rs.nodes) x in
      let yf = runs_front regs h f st i ys (n ∷ rs.nodes) x1 in
      let ga = operand_gives regs h f st mem j env a s.registers ta l xf in
      let gb = operand_gives regs h f st mem i env b s.registers tb l yf in
      let s1 = with_memory s (saved o s.memory ga.word gb.word) in
      let sp = live_sparse regs h env s.registers l in
      let w = ih (suc k) (suc m) env bits s1 l bs x2.2 in
      record {
        after = w.after;
        live = w.live;
        calm = calm_append regs h xs (ys ++ n ∷ rs.nodes) (operand_calm regs h j env a sp)
            (calm_append regs h ys (n ∷ rs.nodes) (operand_calm regs h i env b sp)
            (cl, (operand_few regs h f st j env a sp xf, operand_few regs h f st i env b sp yf), w.calm));
        bit = w.bit;
        kept = w.kept;
        means = λ mt ws mm.
            let va = value_of s.registers a in
            let vv = value_of s.registers b in
            let ea = ga.means mt in
            let eb = gb.means mt in
            let lva = value_word s.registers a ws.registers ta in
            let ad : address_of (inst_of n) ga.word ≡ ga.word =
            plain_address n ga.word refl (omega (arith, ea, lva)) in
            let se = store_settled regs h f st mem (form_of o) n (store_form (form_of o) ops) x2.1 in
            let ef : st m ≡ Some (word_store (inst_of n) ga.word gb.word) =
            met_store regs h f st mem g (st m) _ u se ∙ save_stores (inst_of n) _ _ ga.word gb.word ga.gives gb.gives
            ∙ ap (λ (p : ℕ). Some (word_store (inst_of n) p gb.word)) ad in
            let mm2 = holds_store st mem m s.memory (inst_of n) ga.word gb.word ef mm in
            let ws1 : Words s1 = record {
              registers = ws.registers;
              bytes = save_bytes o s.memory ga.word gb.word ws.bytes;
            } in
            let z = w.means mt ws1 mm2 in
            let es : s1 ≡ with_memory s (saved o s.memory va vv) =
            ap (λ (p : ℕ). with_memory s (saved o s.memory p gb.word)) ea
            ∙ ap (λ (p : ℕ). with_memory s (saved o s.memory va p)) eb in
            let n1 : node_acts regs h n ≡ Accessed va (size_of o) ∷ [] =
            met_acts regs h f st mem g _ u ∙ save_acts o n _ _ ga.word gb.word ops ga.gives gb.gives
            ∙ ap (λ (p : ℕ). Accessed p (size_of o) ∷ []) (ad ∙ ea) in
            record {
              same = z.same ∙ ap (after_items rest) es;
              memory = z.memory;
              acts = fired_two regs h xs ys n rs.nodes (operand_quiet j env a) (operand_quiet i env b)
                  ∙ ap (λ (p : List Act). p ++ fired regs h rs.nodes) n1
                  ∙ ap (λ (p : List Act). Accessed va (size_of o) ∷ p) (z.acts ∙ ap (acts rest) es);
              words = z.words;
            };
      }
