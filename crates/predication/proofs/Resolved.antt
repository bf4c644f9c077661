-- The block that holds its labels becomes the block with addresses, once these are resolved.
use Rattle.std.proofs.Common.{◌≡◌, ℕ, zero, suc, ◌+◌, ◌-◌, ◌/◌, ◌%◌, ◌^◌, ◌<◌, List, [], ◌∷◌, ◌++◌, length, refl}
use Rattle.std.proofs.Common.{sym, ap, ap₂, ◌∙◌, arith, cond, nat_lt, Bool, true, false, map}
use Rattle.std.specs.Prelude.{Option, Some, None, ℤ, pos, nat_le, ◌||◌}
use Rattle.std.proofs.lemmas.Bool.Decides.{nat_tests}
use Rattle.std.proofs.lemmas.List.{map-append, length-map}
use Rattle.trips_isa.specs.declared.op.Op.{Op}
use Rattle.trips_isa.specs.declared.op.Op.TheVariants as op
use Rattle.trips_isa.specs.declared.form.Form.{Form}
use Rattle.trips_isa.specs.declared.form.Form.TheVariants as form
use Rattle.trips_isa.specs.Forms.{form_of, role_of, takes_right}
use Rattle.ir_forms.specs.declared.hyper.Source.{Source}
use Rattle.ir_forms.specs.declared.hyper.Source.TheVariants.{Const, Reg}
use Rattle.ir_forms.specs.declared.hyper.Exit.{Exit}
use Rattle.ir_forms.specs.declared.hyper.Exit.TheVariants as exit
use Rattle.ir_forms.specs.declared.flow.FlowSource.{FlowSource}
use Rattle.ir_forms.specs.declared.flow.FlowSource.TheVariants.{Node}
use Rattle.ir_forms.specs.declared.flow.FlowNode.{FlowNode}
use Rattle.ir_forms.specs.declared.flow.FlowWrite.{FlowWrite}
use Rattle.ir_forms.specs.declared.flow.FlowBlock.{FlowBlock}
use Rattle.ir_forms.specs.inside.HyperCode.{Items, Done, Set, Load, Save, If, Tail, Leave, Test}
use Rattle.ir_forms.specs.inside.HyperFits.{FitsSource, FitsItems, FitsTail}
use Rattle.predication.specs.inside.Environments.{Scope, Entry, Env, Bits, no_bits, under, put, note, from_node}
use Rattle.predication.specs.inside.Environments.{at_start, left_bits, member, distinct}
use Rattle.predication.specs.inside.Operands.{Got, node_of, constant_of, mov_of, longer, chain, movs, read_of}
use Rattle.predication.specs.inside.Operands.{operand, second, bit_set, fresh_test, test_by, tested}
use Rattle.predication.specs.inside.Ifs.{Part, left_of, side_of, Joined, join, items, touched}
use Rattle.predication.specs.inside.Tails.{exit_with, tail_with, labelled, labelled_block, addressed}
use Rattle.predication.specs.inside.Tails.{addressed_block, high_half, low_half, branch_of}
use Rattle.predication.specs.inside.Tails.{tail_touched, Ending, leaving, tail}
use Rattle.predication.specs.inside.Converted.{begun, ended, all_nodes, all_written, among, writes_below, nodes_read}
use Rattle.predication.specs.inside.Converted.{writes_read}
use Rattle.predication.specs.inside.Converted.{reads_in, reads_below, stores_as, has_store, mask_below}
use Rattle.predication.specs.inside.Labels.{half_of, by_address, resolved_node, resolved}
use Rattle.predication.specs.inside.Laws.{ResolvesLabels}
use Rattle.predication.proofs.Operands.{below}
use Rattle.predication.proofs.Halves.{high_is, low_is}

-- a label to come back to, as a number from 2^32 on
abbrev label : ℕ → ℕ
label l = 2 ^ 32 + l

long_is : (l : ℕ) → nat_lt (2 ^ 32 + l) (2 ^ 32) ≡ false
long_is l = grind (arith, nat_tests)

high_label : (l : ℕ) → high_half (label l) ≡ 65536 + l
high_label l =
    let z : 65536 + (2 ^ 32 + l - 2 ^ 32) ≡ 65536 + l = omega arith in
    ap (λ (c : Bool). cond c ((2 ^ 32 + l) / 65536) (65536 + (2 ^ 32 + l - 2 ^ 32))) (long_is l) ∙ z

low_label : (l : ℕ) → low_half (label l) ≡ 65536 + l
low_label l =
    let z : 65536 + (2 ^ 32 + l - 2 ^ 32) ≡ 65536 + l = omega arith in
    ap (λ (c : Bool). cond c ((2 ^ 32 + l) % 65536) (65536 + (2 ^ 32 + l - 2 ^ 32))) (long_is l) ∙ z

-- a constant of 16 bits stays
half_kept : (half : ℕ → ℕ) (w : ℕ) → w < 65536 → half_of half (pos w) ≡ pos w
half_kept half w l =
    let e : nat_le 65536 w ≡ false = grind (arith, nat_tests) in
    ap (λ (c : Bool). cond c (pos (half (w - 65536))) (pos w)) e

-- a label becomes its half
half_found : (half : ℕ → ℕ) (l : ℕ) → half_of half (pos (65536 + l)) ≡ pos (half l)
half_found half l =
    let e : nat_le 65536 (65536 + l) ≡ true = grind (arith, nat_tests) in
    let z : 65536 + l - 65536 ≡ l = omega arith in
    ap (λ (c : Bool). cond c (pos (half (65536 + l - 65536))) (pos (65536 + l))) e ∙ ap (λ (x : ℕ). pos (half x)) z

module _ (address : ℕ → ℕ) where
  -- a node with each label resolved
  abbrev res : FlowNode → FlowNode
  res n = resolved_node address n

  zero_kept : (o : Op) → by_address address o (pos 0) ≡ pos 0
  zero_kept op.Add = refl
  zero_kept _ = refl

  node_kept : (o : Op) (m : ℕ) (g : Scope) (l r : List FlowSource) → res (node_of o m g l r) ≡ node_of o m g l r
  node_kept o m g l r =
      ap (λ (i : ℤ). record { op = o; imm = i; number = m; guard = g; left = l; right = r }) (zero_kept o)

  genu_kept : (w : ℕ) → w < 65536 → res (constant_of op.Genu w []) ≡ constant_of op.Genu w []
  genu_kept w l =
      ap (λ (i : ℤ). record { op = op.Genu; imm = i; number = 0; guard = None; left = []; right = [] })
      (half_kept (λ k. address k / 65536) w l)

  app_kept : (w : ℕ) (ss : List FlowSource) → w < 65536 → res (constant_of op.App w ss) ≡ constant_of op.App w ss
  app_kept w ss l =
      ap (λ (i : ℤ). record { op = op.App; imm = i; number = 0; guard = None; left = ss; right = [] })
      (half_kept (λ k. address k % 65536) w l)

  -- NODES WITHOUT LABELS

  -- nodes that hold no label
  abbrev Kept : List FlowNode → Type 0
  Kept ns = map res ns ≡ ns

  kept_cons : (n : FlowNode) (ns : List FlowNode) → res n ≡ n → Kept ns → Kept (n ∷ ns)
  kept_cons n ns e k = ap₂ (λ (m : FlowNode) (ms : List FlowNode). m ∷ ms) e k

  kept_append : (a b : List FlowNode) → Kept a → Kept b → Kept (a ++ b)
  kept_append a b x y = map-append res a b ∙ ap₂ (λ (p q : List FlowNode). p ++ q) x y

  kept_movs : (r : ℕ) (gs : List Scope) → Kept (movs r gs)
  kept_movs r [] = refl
  kept_movs r (g ∷ gs) = kept_cons _ (movs r gs) refl (kept_movs r gs)

  kept_longer : (b : Bool) (d j w : ℕ) → nat_lt w 65536 ≡ b → w < below (suc d)
      → (w / 65536 < below d → Kept (chain d j (w / 65536)).nodes) → Kept (longer b j w (chain d j (w / 65536))).nodes
  kept_longer true d j w e l ih =
      kept_cons (constant_of op.Genu w []) [] (genu_kept w (grind (arith, nat_tests))) refl
  kept_longer false d j w e l ih =
      let c = chain d j (w / 65536) in
      let n = constant_of op.App (w % 65536) (Node c.last ∷ []) in
      kept_append c.nodes (n ∷ []) (ih (omega (arith, l)))
      (kept_cons n [] (app_kept (w % 65536) (Node c.last ∷ []) (omega arith)) refl)

  kept_chain : (d j w : ℕ) → w < below d → Kept (chain d j w).nodes
  kept_chain zero j w l = kept_cons (constant_of op.Genu w []) [] (genu_kept w l) refl
  kept_chain (suc d) j w l = kept_longer (nat_lt w 65536) d j w refl l (λ x. kept_chain d j (w / 65536) x)

  kept_read : (j r : ℕ) (ss : List FlowSource) (gs : List Scope) → Kept (read_of j r ss gs).nodes
  kept_read j r [] gs = refl
  kept_read j r (s ∷ ss) gs = kept_movs r gs

  kept_operand : (j : ℕ) (env : Env) (a : Source) → FitsSource a → Kept (operand j env a).nodes
  kept_operand j env (Const w) t = kept_chain 3 j w t
  kept_operand j env (Reg r) t = kept_read j r (env r).given (env r).kept

  kept_second : (b : Bool) (j : ℕ) (env : Env) (a : Source) → FitsSource a → Kept (second b j env a).nodes
  kept_second true j env a t = kept_operand j env a t
  kept_second false j env a t = refl

  kept_fresh : (g : Scope) (j : ℕ) (x : Got) → Kept x.nodes → Kept (fresh_test g j x).nodes
  kept_fresh g j x k = kept_append x.nodes _ k refl

  kept_by : (g : Scope) (j : ℕ) (env : Env) (r : ℕ) (b : Option ℕ) → r < 128 → Kept (test_by g j env r b).nodes
  kept_by g j env r (Some k) t = refl
  kept_by g j env r None t = kept_fresh g j (operand j env (Reg r)) (kept_operand j env (Reg r) t)

  kept_tested : (g : Scope) (j : ℕ) (env : Env) (bits : Bits) (t : Source) → FitsSource t
      → Kept (tested g j env bits t).nodes
  kept_tested g j env bits (Const w) t = kept_fresh g j (operand j env (Const w)) (kept_operand j env (Const w) t)
  kept_tested g j env bits (Reg r) t = kept_by g j env r (bits r) t

  kept_left : (g : Scope) (j r : ℕ) (ss : List FlowSource) (gs : List Scope) → Kept (left_of g j r ss gs).nodes
  kept_left g j r [] gs = refl
  kept_left g j r (s ∷ ss) gs = kept_append (movs r gs) _ (kept_movs r gs) refl

  kept_side : (b : Bool) (g : Scope) (j r : ℕ) (before mine : Entry) → Kept (side_of b g j r before mine).nodes
  kept_side true g j r before mine = refl
  kept_side false g j r before mine = kept_left g j r before.given before.kept

  kept_join : (rs : List ℕ) (t j : ℕ) (env yea nay : Env) (ty tn : List ℕ)
      → Kept (join t j env yea nay ty tn rs).nodes
  kept_join [] t j env yea nay ty tn = refl
  kept_join (r ∷ rs) t j env yea nay ty tn =
      let a : Part = side_of (member r ty) (under t true) j r (env r) (yea r) in
      let b : Part = side_of (member r tn) (under t false) (j + length a.nodes) r (env r) (nay r) in
      let c : Joined = join t (j + length a.nodes + length b.nodes) env yea nay ty tn rs in
      kept_append a.nodes (b.nodes ++ c.nodes) (kept_side (member r ty) (under t true) j r (env r) (yea r))
      (kept_append b.nodes c.nodes
      (kept_side (member r tn) (under t false) (j + length a.nodes) r (env r) (nay r))
      (kept_join rs t (j + length a.nodes + length b.nodes) env yea nay ty tn))

  kept_items : (is : Items) (g : Scope) (j m : ℕ) (env : Env) (bits : Bits) → FitsItems is
      → Kept (items g j m env bits is).nodes
  kept_items Done g j m env bits t = refl
  kept_items (Set r o a b rest) g j m env bits t =
      let x = operand j env a in
      let tr = takes_right (role_of o) in
      let y = second tr (j + length x.nodes) env b in
      let k = j + length x.nodes + length y.nodes in
      kept_append x.nodes _ (kept_operand j env a t.2)
      (kept_append y.nodes _ (kept_second tr (j + length x.nodes) env b t.3)
      (kept_cons _ _ (node_kept o 0 g x.sources y.sources)
      (kept_items rest g (suc k) m (put env r (from_node k)) (note bits r (bit_set o bits a k)) t.4)))
  kept_items (Load r o a rest) g j m env bits t =
      let x = operand j env a in
      let k = j + length x.nodes in
      kept_append x.nodes _ (kept_operand j env a t.2)
      (kept_cons _ _ (node_kept o m g x.sources [])
      (kept_items rest g (suc k) (suc m) (put env r (from_node k)) (note bits r None) t.3))
  kept_items (Save o a v rest) g j m env bits t =
      let x = operand j env a in
      let y = operand (j + length x.nodes) env v in
      let k = j + length x.nodes + length y.nodes in
      kept_append x.nodes _ (kept_operand j env a t.1)
      (kept_append y.nodes _ (kept_operand (j + length x.nodes) env v t.2)
      (kept_cons _ _ (node_kept o m g x.sources y.sources) (kept_items rest g (suc k) (suc m) env bits t.3)))
  kept_items (If t one other rest) g j m env bits f =
      let x = tested g j env bits t in
      let i = j + length x.nodes in
      let y = items (under x.last true) i m env no_bits one in
      let n = items (under x.last false) (i + length y.nodes) y.number env no_bits other in
      let c = join x.last (i + length y.nodes + length n.nodes) env y.env n.env (touched one) (touched other)
      (distinct (touched one ++ touched other)) in
      kept_append x.nodes _ (kept_tested g j env bits t f.0)
      (kept_append y.nodes _ (kept_items one (under x.last true) i m env no_bits f.1)
      (kept_append n.nodes _ (kept_items other (under x.last false) (i + length y.nodes) y.number env no_bits f.2)
      (kept_append c.nodes _
      (kept_join (distinct (touched one ++ touched other)) x.last
      (i + length y.nodes + length n.nodes) env y.env n.env
      (touched one) (touched other))
      (kept_items rest g (i + length y.nodes + length n.nodes + length c.nodes) n.number c.env
      (left_bits bits (touched one ++ touched other)) f.3))))

  -- ENDS

  -- b is a with each label resolved
  record Same (a b : Ending) : Type 0 where
    pub nodes : map res a.nodes ≡ b.nodes
    pub env : a.env ≡ b.env
    pub number : a.number ≡ b.number

  module _ (short : (l : ℕ) → address l < 2 ^ 32) where
    high_resolved : (l : ℕ) → res (constant_of op.Genu (high_half (label l)) [])
        ≡ constant_of op.Genu (high_half (address l)) []
    high_resolved l =
        ap (λ (w : ℕ). res (constant_of op.Genu w [])) (high_label l)
        ∙ ap (λ (i : ℤ). record { op = op.Genu; imm = i; number = 0; guard = None; left = []; right = [] })
        (half_found (λ k. address k / 65536) l)
        ∙ ap (λ (w : ℕ). constant_of op.Genu w []) (sym (high_is (address l) (short l)))

    low_resolved : (l : ℕ) (ss : List FlowSource) → res (constant_of op.App (low_half (label l)) ss)
        ≡ constant_of op.App (low_half (address l)) ss
    low_resolved l ss =
        ap (λ (w : ℕ). res (constant_of op.App w ss)) (low_label l)
        ∙ ap (λ (i : ℤ). record { op = op.App; imm = i; number = 0; guard = None; left = ss; right = [] })
        (half_found (λ k. address k % 65536) l)
        ∙ ap (λ (w : ℕ). constant_of op.App w ss) (sym (low_is (address l) (short l)))

    leaving_same : (x : Exit) (g : Scope) (j e : ℕ) (env : Env)
        → Same (leaving g j e env (exit_with label x)) (leaving g j e env (exit_with address x))
    leaving_same (exit.Jump l) g j e env = record { nodes = refl; env = refl; number = refl }
    leaving_same (exit.System l) g j e env = record { nodes = refl; env = refl; number = refl }
    leaving_same exit.Return g j e env = record {
      nodes = kept_append (operand j env (Reg 2)).nodes _ (kept_operand j env (Reg 2) (omega arith)) refl;
      env = refl;
      number = refl;
    }
    leaving_same (exit.Call l back) g j e env = record {
      nodes = ap₂ (λ (p q : FlowNode). p ∷ q ∷ mov_of g (Node (suc j) ∷ []) ∷ branch_of op.Callo l e g [] ∷ [])
          (high_resolved back) (low_resolved back (Node j ∷ []));
      env = refl;
      number = refl;
    }

    touched_same : (f : ℕ → ℕ) (t : Tail) → tail_touched (tail_with f t) ≡ tail_touched t
    touched_same f (Leave (exit.Jump l)) = refl
    touched_same f (Leave (exit.Call l back)) = refl
    touched_same f (Leave exit.Return) = refl
    touched_same f (Leave (exit.System l)) = refl
    touched_same f (Test t one other) =
        ap₂ (λ (p q : List ℕ). p ++ q) (touched_same f one) (touched_same f other)

    same_length : (a b : Ending) → Same a b → length a.nodes ≡ length b.nodes
    same_length a b s = sym (length-map a.nodes res) ∙ ap (λ (ns : List FlowNode). length ns) s.nodes

    joins_same : (t j j2 : ℕ) (env y y2 n n2 : Env) (ty ty2 tn tn2 : List ℕ) → j ≡ j2 → y ≡ y2 → n ≡ n2
        → ty ≡ ty2 → tn ≡ tn2
        → join t j env y n ty tn (distinct (ty ++ tn)) ≡ join t j2 env y2 n2 ty2 tn2 (distinct (ty2 ++ tn2))
    joins_same t j j2 env y y2 n n2 ty ty2 tn tn2 a b c d e = rw (a, b, c, d, e) refl

    tail_same : (t : Tail) (g : Scope) (j j2 e e2 : ℕ) (env : Env) (bits : Bits) → FitsTail t → j ≡ j2 → e ≡ e2
        → Same (tail g j e env bits (tail_with label t)) (tail g j2 e2 env bits (tail_with address t))
    tail_same (Leave x) g j j2 e e2 env bits f a b = rw (a, b) (leaving_same x g j2 e2 env)
    tail_same (Test t one other) g j j2 e e2 env bits f a b =
        rw (a, b) (go j2 e2 (λ g j j2 e e2 c d. tail_same one g j j2 e e2 env no_bits f.1 c d)
        (λ g j j2 e e2 c d. tail_same other g j j2 e e2 env no_bits f.2 c d))
      where
        go : (j e : ℕ)
            → ((g : Scope) (j j2 e e2 : ℕ) → j ≡ j2 → e ≡ e2
            → Same (tail g j e env no_bits (tail_with label one)) (tail g j2 e2 env no_bits (tail_with address one)))
            → ((g : Scope) (j j2 e e2 : ℕ) → j ≡ j2 → e ≡ e2
            → Same (tail g j e env no_bits (tail_with label other))
            (tail g j2 e2 env no_bits (tail_with address other)))
            → Same (tail g j e env bits (Test t (tail_with label one) (tail_with label other)))
            (tail g j e env bits (Test t (tail_with address one) (tail_with address other)))
        go j e first then_other =
            let x = tested g j env bits t in
            let i = j + length x.nodes in
            let y = tail (under x.last true) i e env no_bits (tail_with label one) in
            let y2 = tail (under x.last true) i e env no_bits (tail_with address one) in
            let sy : Same y y2 = first (under x.last true) i i e e refl refl in
            let n = tail (under x.last false) (i + length y.nodes) y.number env no_bits (tail_with label other) in
            let n2 = tail (under x.last false) (i + length y2.nodes) y2.number env no_bits
            (tail_with address other) in
            let ly : i + length y.nodes ≡ i + length y2.nodes = ap (λ (p : ℕ). i + p) (same_length y y2 sy) in
            let sn : Same n n2 = then_other (under x.last false) (i + length y.nodes)
            (i + length y2.nodes) y.number y2.number ly sy.number in
            let ln : i + length y.nodes + length n.nodes ≡ i + length y2.nodes + length n2.nodes =
            ap₂ (λ (p q : ℕ). p + q) ly (same_length n n2 sn) in
            let ty = tail_touched (tail_with label one) in
            let tn = tail_touched (tail_with label other) in
            let c = join x.last (i + length y.nodes + length n.nodes) env y.env n.env ty tn
            (distinct (ty ++ tn)) in
            let same = joins_same x.last (i + length y.nodes + length n.nodes) (i + length y2.nodes + length n2.nodes)
            env y.env y2.env n.env n2.env ty (tail_touched (tail_with address one)) tn
            (tail_touched (tail_with address other)) ln sy.env sn.env
            (touched_same label one ∙ sym (touched_same address one))
            (touched_same label other ∙ sym (touched_same address other)) in
            let kc : map res c.nodes ≡ c.nodes =
            kept_join (distinct (ty ++ tn)) x.last (i + length y.nodes + length n.nodes) env y.env n.env ty tn in
            record {
              nodes = map-append res x.nodes (y.nodes ++ (n.nodes ++ c.nodes))
                  ∙ ap₂ (λ (p q : List FlowNode). p ++ q) (kept_tested g j env bits t f.0)
                  (map-append res y.nodes (n.nodes ++ c.nodes)
                  ∙ ap₂ (λ (p q : List FlowNode). p ++ q) sy.nodes
                  (map-append res n.nodes c.nodes
                  ∙ ap₂ (λ (p q : List FlowNode). p ++ q) sn.nodes
                  (kc ∙ ap (λ (z : Joined). z.nodes) same)));
              env = ap (λ (z : Joined). z.env) same;
              number = sn.number;
            }

  -- READS AND MASK

  reads_stay : (ns : List FlowNode) (r : ℕ) → nodes_read (map res ns) r ≡ nodes_read ns r
  reads_stay [] r = refl
  reads_stay (n ∷ ns) r = ap (λ (c : Bool). reads_in n.left r || (reads_in n.right r || c)) (reads_stay ns r)

  listed_stay : (ns : List FlowNode) (ws : List FlowWrite) (n : ℕ)
      → reads_below (map res ns) ws n ≡ reads_below ns ws n
  listed_stay ns ws zero = refl
  listed_stay ns ws (suc n) =
      ap₂ (λ (c : Bool) (l : List ℕ). cond (c || writes_read ws n) (n ∷ l) l) (reads_stay ns n) (listed_stay ns ws n)

  store_stays : (F : Form) (n : FlowNode) (k : ℕ) → stores_as F (res n) k ≡ stores_as F n k
  store_stays form.General n k = refl
  store_stays form.Immediate n k = refl
  store_stays form.Load n k = refl
  store_stays form.Store n k = refl
  store_stays form.Branch n k = refl
  store_stays form.Constant n k = refl

  stores_stay : (ns : List FlowNode) (k : ℕ) → has_store (map res ns) k ≡ has_store ns k
  stores_stay [] k = refl
  stores_stay (n ∷ ns) k =
      ap₂ (λ (b c : Bool). b || c) (store_stays (form_of n.op) n k) (stores_stay ns k)

  mask_stays : (ns : List FlowNode) (k : ℕ) → mask_below (map res ns) k ≡ mask_below ns k
  mask_stays ns zero = refl
  mask_stays ns (suc k) =
      ap₂ (λ (m : ℕ) (c : Bool). m + cond c (2 ^ k) 0) (mask_stays ns k) (stores_stay ns k)

-- a block of these parts
abbrev built : List FlowNode → List FlowWrite → FlowBlock
built ns ws = record { nodes = ns; reads = reads_below ns ws 128; writes = ws; mask = mask_below ns 32 }

-- resolving first or collecting reads and mask first is one
built_resolved : (address : ℕ → ℕ) (ns : List FlowNode) (ws : List FlowWrite)
    → resolved address (built ns ws) ≡ built (map (resolved_node address) ns) ws
built_resolved address ns ws =
    ap₂ (λ (r : List ℕ) (m : ℕ). record { nodes = map (resolved_node address) ns; reads = r; writes = ws; mask = m })
    (sym (listed_stay address ns ws 128)) (sym (mask_stays address ns 32))

-- the block that holds its labels becomes, once these are resolved, the block with addresses
pub resolves_labels : ResolvesLabels
resolves_labels at d short fits =
    let b = d.block in
    let x = begun b in
    let z = tail_same at.address short b.tail None (length x.nodes)
    (length x.nodes) 0 0 x.env x.bits fits.tail refl refl in
    let ns : map (resolved_node at.address) (all_nodes (labelled_block b)) ≡ all_nodes (addressed_block at b) =
    map-append (resolved_node at.address) x.nodes (ended (labelled_block b)).nodes
    ∙ ap₂ (λ (p q : List FlowNode). p ++ q)
    (kept_items at.address b.items None 0 0 at_start no_bits fits.items) z.nodes in
    let rs : all_written (labelled d) ≡ all_written (addressed at d) =
    ap (λ (l : List ℕ). among d.lasting (touched b.items ++ l))
    (touched_same at.address short label b.tail ∙ sym (touched_same at.address short at.address b.tail)) in
    built_resolved at.address (all_nodes (labelled_block b))
    (writes_below (ended (labelled_block b)).env (all_written (labelled d)) 128)
    ∙ ap₂ built ns (ap₂ (λ (env : Env) (l : List ℕ). writes_below env l 128) z.env rs)
