-- A leg that was not taken does nothing.
use Rattle.std.proofs.Common.{◌≡◌, ℕ, suc, ◌+◌, ◌≤◌, List, [], ◌∷◌, ◌++◌, length, refl, sym, ap, subst, ◌∙◌, arith}
use Rattle.std.proofs.Common.{cond, nat_eq, Bool, true, false}
use Rattle.std.specs.Prelude.{Option, Some, None}
use Rattle.trips_isa.specs.declared.op.Op.{Op}
use Rattle.trips_isa.specs.declared.form.Form.{Form}
use Rattle.trips_isa.specs.declared.form.Form.TheVariants as form
use Rattle.trips_isa.specs.declared.block.Token.TheVariants.{Word}
use Rattle.trips_isa.specs.declared.block.Stored.{Stored}
use Rattle.trips_isa.specs.Forms.{form_of, role_of, takes_right}
use Rattle.trips_isa.specs.Rule.{Answer, if_matched}
use Rattle.ir_forms.specs.declared.hyper.Source.{Source}
use Rattle.ir_forms.specs.declared.hyper.Source.TheVariants.{Const, Reg}
use Rattle.ir_forms.specs.declared.flow.FlowNode.{FlowNode}
use Rattle.trips_isa.specs.inside.Acts.{Act}
use Rattle.ir_forms.specs.inside.FlowRuns.{Computes, met, stored_where, fired, count}
use Rattle.predication.specs.inside.Environments.{Scope, Entry, Env, Bits, put, from_node, under, member, no_bits}
use Rattle.predication.specs.inside.Environments.{left_bits, note, distinct}
use Rattle.predication.specs.inside.Operands.{node_of, Got, operand, second, bit_of, is_test, is_move, bit_at}
use Rattle.predication.specs.inside.Operands.{bit_set, fresh_test, test_by, tested, test_of}
use Rattle.predication.specs.inside.Ifs.{items, touched}
use Rattle.ir_forms.specs.inside.HyperCode.{Items, Done, Set, Load, Save, If}
use Rattle.ir_forms.specs.inside.FlatFits.{loads}
use Rattle.ir_forms.specs.inside.HyperFits.{FitsItems}
use Rattle.predication.proofs.QuietNodes.{operand_quiet, second_quiet}
use Rattle.predication.proofs.Tables.{Clear, Dead, Few, dead_few, Sparse, from_dead, sparse_put, SettledIn, Calm}
use Rattle.predication.proofs.Tables.{calm_append, operand_calm, second_calm, Runs, runs_front, runs_back}
use Rattle.predication.proofs.Tables.{operand_few, second_few}
use Rattle.predication.proofs.TakenLegs.{member_append, untouched, joins_out, join_quiet, join_dead, join_calm}
use Rattle.predication.proofs.Memory.{Holds, holds_none}
use Rattle.predication.proofs.BitLemmas.{bit_left}
use Rattle.predication.proofs.EmittedIfs.{legs_at, test_at, yea_out, nay_at, nay_out, join_at, joined, rest_at}
use Rattle.predication.proofs.EmittedIfs.{rest_out, tested_quiet, load_form, store_form, fired_one, fired_two}
use Rattle.predication.proofs.EmittedIfs.{fired_if}

module _ (regs : ℕ → ℕ) (h : ℕ → Answer) where
  -- no null stands at a guard whose node has no token
  pub absent_clear : (k : ℕ) (s : Bool) → h k ≡ None → Clear regs h (under k s)
  absent_clear k s e = λ n. absurd (cc)

  -- no null stands at a guard whose node has a word
  pub word_clear : (k w : ℕ) (s : Bool) → h k ≡ Some (Word w) → Clear regs h (under k s)
  word_clear k w s e = λ n. absurd (cc)

  -- a guard whose node has no token is not met
  pub absent_test : (k : ℕ) (s : Bool) → h k ≡ None → met h (under k s) ≡ false
  absent_test k true e = rw e refl
  absent_test k false e = rw e refl

  -- a node whose guard is not met has no token
  pub unmet : (g : Scope) (t u : Answer) → met h g ≡ false → t ≡ if_matched (met h g) u → t ≡ None
  unmet g t u m e = let e2 : if_matched (met h g) u ≡ None = rw m refl in e ∙ e2

  unmet_store : (g : Scope) (t u : Option Stored) → met h g ≡ false → t ≡ cond (met h g) u None → t ≡ None
  unmet_store g t u m e = let e2 : cond (met h g) u None ≡ None = rw m refl in e ∙ e2

  unmet_acts : (g : Scope) (a o : List Act) → met h g ≡ false → o ≡ [] → cond (met h g) a [] ++ o ≡ []
  unmet_acts g a o m e = rw (m, e) refl

  pub dead_after :
      (q : ℕ) (b c : Bool) (d e : Entry) → (c ≡ true → Dead regs h e) → (c ≡ false → e ≡ d)
      → (b ≡ true → Dead regs h d) → cond b true c ≡ true →
      Dead regs h e
  dead_after q b true d e x y z t = x refl
  dead_after q true false d e x y z t = subst (λ (p : Entry). Dead regs h p) (sym (y refl)) (z refl)
  dead_after q false false d e x y z t = absurd (cc)

  -- a choice is dead where the entry that it takes is
  pub dead_here : (b : Bool) (d e : Entry) → Dead regs h d → b ≡ true → Dead regs h (cond b d e)
  dead_here true d e x t = x
  dead_here false d e x t = absurd (cc)

  -- what was dead where touched, and stayed where not, is sparse
  pub sparse_after : (env env2 : Env) (rs : List ℕ) → Sparse regs h env
      → ((q : ℕ) → member q rs ≡ true → Dead regs h (env2 q)) → ((q : ℕ) → member q rs ≡ false → env2 q ≡ env q)
      → Sparse regs h env2
  sparse_after env env2 rs s d u q = go (member q rs) refl
    where
      go : (b : Bool) → member q rs ≡ b → Few regs h (env2 q)
      go true e = dead_few regs h (env2 q) (d q e)
      go false e = subst (λ (p : Entry). Few regs h p) (sym (u q e)) (s q)

  -- the nodes of bits are absent
  abbrev pub Absent : Bits → Type 0
  Absent bits = (r k : ℕ) → bits r ≡ Some k → h k ≡ None

  -- a table without bits has none that is there
  pub absent_none : Absent no_bits
  absent_none r k e = absurd (cc)

  note_case : (b : Bool) (c d : Option ℕ) (k : ℕ) → (c ≡ Some k → h k ≡ None) → (d ≡ Some k → h k ≡ None)
      → cond b c d ≡ Some k → h k ≡ None
  note_case true c d k x y e = x e
  note_case false c d k x y e = y e

  pub absent_note : (bits : Bits) (r : ℕ) (c : Option ℕ) → ((k : ℕ) → c ≡ Some k → h k ≡ None) → Absent bits
      → Absent (note bits r c)
  absent_note bits r c x a q k e = note_case (nat_eq q r) c (bits q) k (x k) (a q k) e

  bit_absent : (b : Bool) (k i : ℕ) → h k ≡ None → bit_of b k ≡ Some i → h i ≡ None
  bit_absent true k i e z = let same : k ≡ i = cc in subst (λ (n : ℕ). h n ≡ None) same e
  bit_absent false k i e z = absurd (cc)

  copied_absent : (bits : Bits) (a : Source) (i : ℕ) → Absent bits → bit_at bits a ≡ Some i → h i ≡ None
  copied_absent bits (Const w) i ab z = absurd (cc z)
  copied_absent bits (Reg r) i ab z = ab r i z

  set_absent : (o : Op) (bits : Bits) (a : Source) (k i : ℕ) → h k ≡ None → Absent bits → bit_set o bits a k ≡ Some i
      → h i ≡ None
  set_absent o bits a k i e ab z = go (is_move o) z
    where
      go : (b : Bool) → cond b (bit_at bits a) (bit_of (is_test o) k) ≡ Some i → h i ≡ None
      go true z = copied_absent bits a i ab z
      go false z = bit_absent (is_test o) k i e z

  absent_left : (bits : Bits) (rs : List ℕ) → Absent bits → Absent (left_bits bits rs)
  absent_left bits rs ab q k e = ab q k (bit_left rs bits q k e).1

  module _ (f : Computes) (st : ℕ → Option Stored) (mem : List ℕ) where
    -- TESTS

    fresh_off : (g : Scope) (j : ℕ) (x : Got) → met h g ≡ false → Runs regs h f st j (fresh_test g j x).nodes
        → h (fresh_test g j x).last ≡ None
    fresh_off g j x u y = unmet g (h (j + length x.nodes)) _ u
        (runs_back regs h f st j x.nodes (test_of g x.sources ∷ []) y).0

    test_off : (g : Scope) (j : ℕ) (env : Env) (r : ℕ) (b : Option ℕ) → met h g ≡ false
        → ((k : ℕ) → b ≡ Some k → h k ≡ None)
        → Runs regs h f st j (test_by g j env r b).nodes → h (test_by g j env r b).last ≡ None
    test_off g j env r None u a y = fresh_off g j (operand j env (Reg r)) u y
    test_off g j env r (Some k) u a y = a k refl

    -- where its guard is not met, the node of a test has no token
    pub tested_off : (g : Scope) (j : ℕ) (env : Env) (bits : Bits) (t : Source) → met h g ≡ false → Absent bits
        → Runs regs h f st j (tested g j env bits t).nodes → h (tested g j env bits t).last ≡ None
    tested_off g j env bits (Const w) u a y = fresh_off g j (operand j env (Const w)) u y
    tested_off g j env bits (Reg r) u a y = test_off g j env r (bits r) u (a r) y

    fresh_calm : (g : Scope) (j : ℕ) (x : Got) → Clear regs h g → Calm regs h x.nodes → count regs h x.sources ≤ 1
        → Calm regs h (fresh_test g j x).nodes
    fresh_calm g j x c k n = calm_append regs h x.nodes _ k (c, (n, omega arith), tt)

    operand_fresh : (g : Scope) (j : ℕ) (env : Env) (t : Source) → Clear regs h g → Sparse regs h env
        → Runs regs h f st j (fresh_test g j (operand j env t)).nodes
        → Calm regs h (fresh_test g j (operand j env t)).nodes
    operand_fresh g j env t c s y =
        fresh_calm g j (operand j env t) c (operand_calm regs h j env t s)
        (operand_few regs h f st j env t s (runs_front regs h f st j (operand j env t).nodes
        (test_of g (operand j env t).sources ∷ []) y))

    test_calm : (g : Scope) (j : ℕ) (env : Env) (r : ℕ) (b : Option ℕ) → Clear regs h g → Sparse regs h env
        → Runs regs h f st j (test_by g j env r b).nodes → Calm regs h (test_by g j env r b).nodes
    test_calm g j env r None c s y = operand_fresh g j env (Reg r) c s y
    test_calm g j env r (Some k) c s y = tt

    -- the nodes of a test are calm
    pub tested_calm : (g : Scope) (j : ℕ) (env : Env) (bits : Bits) (t : Source) → Clear regs h g → Sparse regs h env
        → Runs regs h f st j (tested g j env bits t).nodes → Calm regs h (tested g j env bits t).nodes
    tested_calm g j env bits (Const w) c s y = operand_fresh g j env (Const w) c s y
    tested_calm g j env bits (Reg r) c s y = test_calm g j env r (bits r) c s y

    -- ITEMS

    -- what items do where their guard is not met: nothing
    pub record Off (g : Scope) (j m : ℕ) (env : Env) (bits : Bits) (is : Items) : Type 0 where
      pub dead : (q : ℕ) → member q (touched is) ≡ true → Dead regs h ((items g j m env bits is).env q)
      pub acts : fired regs h (items g j m env bits is).nodes ≡ []
      pub calm : Calm regs h (items g j m env bits is).nodes
      pub absent : Absent (items g j m env bits is).bits
      pub memory : (bytes : List ℕ) → Holds st mem m bytes → Holds st mem (items g j m env bits is).number bytes

    load_settled : (F : Form) (n : FlowNode) → F ≡ form.Load → SettledIn regs h f st F n → st n.number ≡ None
    load_settled F n e s = subst (λ (G : Form). SettledIn regs h f st G n) e s

    -- what is stored under the number of a store is what the store stores
    pub store_settled : (F : Form) (n : FlowNode) → F ≡ form.Store → SettledIn regs h f st F n → st n.number
        ≡ stored_where (met h n.guard) regs h n
    store_settled F n e s = subst (λ (G : Form). SettledIn regs h f st G n) e s

    -- nothing is stored under the number of a load
    pub load_none : (op : Op) (n : FlowNode) → n.op ≡ op → loads op ≡ true → SettledIn regs h f st (form_of n.op) n
        → st n.number ≡ None
    load_none op n e l s = load_settled (form_of n.op) n (ap form_of e ∙ load_form (form_of op) l) s

    -- the parts of an if's nodes
    pub record Parts (g : Scope) (j m : ℕ) (env : Env) (bits : Bits) (t : Source)
        (yea nay rest : Items) : Type 0 where
      pub test_runs : Runs regs h f st j (tested g j env bits t).nodes
      pub yea_runs : Runs regs h f st (legs_at g j env bits t) (yea_out g j m env bits t yea).nodes
      pub nay_runs : Runs regs h f st (nay_at g j m env bits t yea) (nay_out g j m env bits t yea nay).nodes
      pub joined_runs : Runs regs h f st (join_at g j m env bits t yea nay) (joined g j m env bits t yea nay).nodes
      pub rest_runs : Runs regs h f st (rest_at g j m env bits t yea nay)
          (rest_out g j m env bits t yea nay rest).nodes

    -- the nodes of an if run part by part
    pub parts_of : (g : Scope) (j m : ℕ) (env : Env) (bits : Bits) (t : Source) (yea nay rest : Items)
        → Runs regs h f st j (items g j m env bits (If t yea nay rest)).nodes → Parts g j m env bits t yea nay rest
    parts_of g j m env bits t yea nay rest x =
        let xs = (tested g j env bits t).nodes in
        let a = (yea_out g j m env bits t yea).nodes in
        let b = (nay_out g j m env bits t yea nay).nodes in
        let c = (joined g j m env bits t yea nay).nodes in
        let o = (rest_out g j m env bits t yea nay rest).nodes in
        let i = legs_at g j env bits t in
        let x1 = runs_back regs h f st j xs (a ++ (b ++ (c ++ o))) x in
        let x2 = runs_back regs h f st i a (b ++ (c ++ o)) x1 in
        let x3 = runs_back regs h f st (i + length a) b (c ++ o) x2 in
        record {
          test_runs = runs_front regs h f st j xs (a ++ (b ++ (c ++ o))) x;
          yea_runs = runs_front regs h f st i a (b ++ (c ++ o)) x1;
          nay_runs = runs_front regs h f st (i + length a) b (c ++ o) x2;
          joined_runs = runs_front regs h f st (i + length a + length b) c o x3;
          rest_runs = runs_back regs h f st (i + length a + length b) c o x3;
        }

    -- the nodes of an if are calm where each part's are
    pub calm_if : (x a b c o : List FlowNode) → Calm regs h x → Calm regs h a → Calm regs h b → Calm regs h c
        → Calm regs h o → Calm regs h (x ++ (a ++ (b ++ (c ++ o))))
    calm_if x a b c o kx ka kb kc ko =
        calm_append regs h x (a ++ (b ++ (c ++ o))) kx
        (calm_append regs h a (b ++ (c ++ o)) ka (calm_append regs h b (c ++ o) kb (calm_append regs h c o kc ko)))

    pub off_if :
        (g : Scope) (j m : ℕ) (env : Env) (bits : Bits) (t : Source) (yea nay rest : Items) → Clear regs h g
        → met h g ≡ false → Sparse regs h env → Absent bits
        → Parts g j m env bits t yea nay rest
        → (Clear regs h (under (test_at g j env bits t) true) → met h (under (test_at g j env bits t) true) ≡ false
        → Off (under (test_at g j env bits t) true) (legs_at g j env bits t) m env no_bits yea)
        → (Clear regs h (under (test_at g j env bits t) false) → met h (under (test_at g j env bits t) false) ≡ false
        → Off (under (test_at g j env bits t) false) (nay_at g j m env bits t yea)
        (yea_out g j m env bits t yea).number env no_bits nay)
        → (Sparse regs h (joined g j m env bits t yea nay).env
        → Off g (rest_at g j m env bits t yea nay) (nay_out g j m env bits t yea nay).number
        (joined g j m env bits t yea nay).env (left_bits bits (touched yea ++ touched nay)) rest)
        → Off g j m env bits (If t yea nay rest)
    off_if g j m env bits t yea nay rest cl u sp ab p fy fn fr =
        let k = test_at g j env bits t in
        let e : h k ≡ None = tested_off g j env bits t u ab p.test_runs in
        let uy = absent_test k true e in
        let un = absent_test k false e in
        let cy = absent_clear k true e in
        let cn = absent_clear k false e in
        let y = fy cy uy in
        let z = fn cn un in
        let ye = (yea_out g j m env bits t yea).env in
        let ne = (nay_out g j m env bits t yea nay).env in
        let je = (joined g j m env bits t yea nay).env in
        let ja = join_at g j m env bits t yea nay in
        let jd : (q : ℕ) → member q (touched yea ++ touched nay) ≡ true → Dead regs h (je q) =
        join_dead regs h f st k ja env ye ne (touched yea) (touched nay) cy cn uy un y.dead z.dead p.joined_runs in
        let js : Sparse regs h je = sparse_after env je (touched yea ++ touched nay) sp jd
        (joins_out k ja env ye ne (touched yea) (touched nay)) in
        let w = fr js in
        let xs = (tested g j env bits t).nodes in
        let a = (yea_out g j m env bits t yea).nodes in
        let b = (nay_out g j m env bits t yea nay).nodes in
        let c = (joined g j m env bits t yea nay).nodes in
        let o = (rest_out g j m env bits t yea nay rest).nodes in
        record {
          dead = λ q e2.
              dead_after q (member q (touched yea ++ touched nay)) (member q (touched rest)) (je q)
              ((rest_out g j m env bits t yea nay rest).env q)
              (w.dead q) (untouched rest g (rest_at g j m env bits t yea nay)
              (nay_out g j m env bits t yea nay).number je
              (left_bits bits (touched yea ++ touched nay)) q) (jd q)
              (sym (member_append q (touched yea ++ touched nay) (touched rest)) ∙ e2);
          acts = fired_if regs h xs a b c o (tested_quiet g j env bits t)
              (join_quiet (distinct (touched yea ++ touched nay)) k ja env ye ne (touched yea) (touched nay))
              ∙ rw (y.acts, z.acts, w.acts) refl;
          calm = calm_if xs a b c o (tested_calm g j env bits t cl sp p.test_runs) y.calm z.calm
              (join_calm regs h f st (distinct (touched yea ++ touched nay)) k ja env ye ne (touched yea)
              (touched nay) cy cn sp p.joined_runs) w.calm;
          absent = w.absent;
          memory = λ bytes l. w.memory bytes (z.memory bytes (y.memory bytes l));
        }

    -- where their guard is not met, the nodes of items do nothing
    pub off_items :
        (is : Items) (g : Scope) (j m : ℕ) (env : Env) (bits : Bits) → FitsItems is → Clear regs h g → met h g
        ≡ false → Sparse regs h env → Absent bits
        → Runs regs h f st j (items g j m env bits is).nodes → Off g j m env bits is
    off_items Done g j m env bits tk cl u sp ab x =
        record { dead = λ q e. absurd (cc); acts = refl; calm = tt; absent = ab; memory = λ bytes l. l }
    off_items (Set r op a b rest) g j m env bits tk cl u sp ab x =
        let xs = (operand j env a).nodes in
        let i = j + length xs in
        let tb = takes_right (role_of op) in
        let ys = (second tb i env b).nodes in
        let k = i + length ys in
        let en = from_node k in
        let bi = note bits r (bit_set op bits a k) in
        let o = items g (suc k) m (put env r en) bi rest in
        let n = node_of op 0 g (operand j env a).sources (second tb i env b).sources in
        let x1 = runs_back regs h f st j xs (ys ++ n ∷ o.nodes) x in
        let x2 = runs_back regs h f st i ys (n ∷ o.nodes) x1 in
        let e : h k ≡ None = unmet g (h k) _ u x2.0 in
        let de = from_dead regs h k e in
        let w = off_items rest g (suc k) m (put env r en) bi tk.4 cl u
        (sparse_put regs h env r en sp (dead_few regs h en de))
        (absent_note bits r (bit_set op bits a k) (λ q z. set_absent op bits a k q e ab z) ab) x2.2 in
        let fa = operand_few regs h f st j env a sp (runs_front regs h f st j xs (ys ++ n ∷ o.nodes) x) in
        let fb = second_few regs h f st tb i env b sp (runs_front regs h f st i ys (n ∷ o.nodes) x1) in
        record {
          dead = λ q. dead_after q (nat_eq q r) (member q (touched rest)) (put env r en q) (o.env q) (w.dead q)
              (untouched rest g (suc k) m (put env r en) bi q)
              (dead_here (nat_eq q r) en (env q) de);
          acts = fired_two regs h xs ys n o.nodes (operand_quiet j env a) (second_quiet tb i env b)
              ∙ unmet_acts g _ (fired regs h o.nodes) u w.acts;
          calm = calm_append regs h xs (ys ++ n ∷ o.nodes) (operand_calm regs h j env a sp)
              (calm_append regs h ys (n ∷ o.nodes) (second_calm regs h tb i env b sp) (cl, (fa, fb), w.calm));
          absent = w.absent;
          memory = w.memory;
        }
    off_items (Load r op a rest) g j m env bits tk cl u sp ab x =
        let xs = (operand j env a).nodes in
        let k = j + length xs in
        let en = from_node k in
        let bi = note bits r None in
        let o = items g (suc k) (suc m) (put env r en) bi rest in
        let n = node_of op m g (operand j env a).sources [] in
        let x2 = runs_back regs h f st j xs (n ∷ o.nodes) x in
        let e : h k ≡ None = unmet g (h k) _ u x2.0 in
        let de = from_dead regs h k e in
        let w = off_items rest g (suc k) (suc m) (put env r en) bi tk.3 cl u
        (sparse_put regs h env r en sp (dead_few regs h en de))
        (absent_note bits r None (λ q z. absurd (cc)) ab) x2.2 in
        let fa = operand_few regs h f st j env a sp (runs_front regs h f st j xs (n ∷ o.nodes) x) in
        record {
          dead = λ q. dead_after q (nat_eq q r) (member q (touched rest)) (put env r en q) (o.env q) (w.dead q)
              (untouched rest g (suc k) (suc m) (put env r en) bi q)
              (dead_here (nat_eq q r) en (env q) de);
          acts = fired_one regs h xs n o.nodes (operand_quiet j env a)
              ∙ unmet_acts g _ (fired regs h o.nodes) u w.acts;
          calm = calm_append regs h xs (n ∷ o.nodes) (operand_calm regs h j env a sp) (cl, (fa, omega arith), w.calm);
          absent = w.absent;
          memory = λ bytes l. w.memory bytes (holds_none st mem m bytes (load_none op n refl tk.1 x2.1) l);
        }
    off_items (Save op a v rest) g j m env bits tk cl u sp ab x =
        let xs = (operand j env a).nodes in
        let i = j + length xs in
        let ys = (operand i env v).nodes in
        let k = i + length ys in
        let o = items g (suc k) (suc m) env bits rest in
        let n = node_of op m g (operand j env a).sources (operand i env v).sources in
        let x1 = runs_back regs h f st j xs (ys ++ n ∷ o.nodes) x in
        let x2 = runs_back regs h f st i ys (n ∷ o.nodes) x1 in
        let w = off_items rest g (suc k) (suc m) env bits tk.3 cl u sp ab x2.2 in
        let fa = operand_few regs h f st j env a sp (runs_front regs h f st j xs (ys ++ n ∷ o.nodes) x) in
        let fb = operand_few regs h f st i env v sp (runs_front regs h f st i ys (n ∷ o.nodes) x1) in
        let se = store_settled (form_of op) n (store_form (form_of op) tk.0) x2.1 in
        record {
          dead = w.dead;
          acts = fired_two regs h xs ys n o.nodes (operand_quiet j env a) (operand_quiet i env v)
              ∙ unmet_acts g _ (fired regs h o.nodes) u w.acts;
          calm = calm_append regs h xs (ys ++ n ∷ o.nodes) (operand_calm regs h j env a sp)
              (calm_append regs h ys (n ∷ o.nodes) (operand_calm regs h i env v sp) (cl, (fa, fb), w.calm));
          absent = w.absent;
          memory = λ bytes l. w.memory bytes (holds_none st mem m bytes (unmet_store g (st m) _ u se) l);
        }
    off_items (If t yea nay rest) g j m env bits tk cl u sp ab x =
        let p = parts_of g j m env bits t yea nay rest x in
        off_if g j m env bits t yea nay rest cl u sp ab p
        (λ c v. off_items yea (under (test_at g j env bits t) true)
        (legs_at g j env bits t) m env no_bits tk.1 c v sp absent_none p.yea_runs)
        (λ c v. off_items nay (under (test_at g j env bits t) false) (nay_at g j m env bits t yea)
        (yea_out g j m env bits t yea).number env no_bits tk.2 c v sp absent_none p.nay_runs)
        (λ s. off_items rest g (rest_at g j m env bits t yea nay) (nay_out g j m env bits t yea nay).number
        (joined g j m env bits t yea nay).env (left_bits bits (touched yea ++ touched nay)) tk.3 cl u s
        (absent_left bits (touched yea ++ touched nay) ab) p.rest_runs)
