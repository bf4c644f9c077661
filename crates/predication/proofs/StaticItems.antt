-- Each node of emitted items, and of what joins the legs of an if, names earlier nodes and fits.
use Rattle.std.proofs.Common.{◌≡◌, ℕ, suc, ◌+◌, ◌<◌, ◌≤◌, List, [], ◌∷◌, ◌++◌, length, ◌∙◌, length-append, refl, sym}
use Rattle.std.proofs.Common.{ap, subst, arith, cond, nat_eq, Bool, true, false}
use Rattle.std.specs.Prelude.{None, pos}
use Rattle.std.proofs.lemmas.Bool.Decides.{nat_tests}
use Rattle.trips_isa.specs.declared.op.Op.{Op}
use Rattle.trips_isa.specs.declared.op.Op.TheVariants as op
use Rattle.trips_isa.specs.declared.form.Form.{Form}
use Rattle.trips_isa.specs.declared.form.Form.TheVariants as form
use Rattle.trips_isa.specs.Forms.{form_of, role_of, takes_right, role_in, takes_left}
use Rattle.ir_forms.specs.declared.hyper.Source.{Source}
use Rattle.ir_forms.specs.declared.flow.FlowSource.{FlowSource}
use Rattle.ir_forms.specs.declared.flow.FlowNode.{FlowNode}
use Rattle.predication.specs.inside.Environments.{Scope, Entry, Env, Bits, put, from_node, both, under, member}
use Rattle.predication.specs.inside.Environments.{distinct, no_bits, left_bits, note}
use Rattle.predication.specs.inside.Operands.{node_of, mov_of, movs, froms, operand, second, bit_set, tested}
use Rattle.predication.specs.inside.Ifs.{Part, left_of, side_of, Joined, join, Out, items, touched}
use Rattle.predication.proofs.TakenLegs.{member_distinct}
use Rattle.trips_isa.specs.Rule.{low}
use Rattle.ir_forms.specs.inside.HyperCode.{Items, Done, Set, Load, Save, If}
use Rattle.ir_forms.specs.inside.FlatFits.{operates, loads}
use Rattle.ir_forms.specs.inside.FlatFits as flat
use Rattle.ir_forms.specs.inside.HyperFits.{FitsItems}
use Rattle.predication.proofs.EmittedIfs.{legs_at, test_at, yea_out, nay_at, nay_out, join_at, joined, rest_at}
use Rattle.predication.proofs.EmittedIfs.{rest_out, load_form, store_form}
use Rattle.predication.proofs.Ops.{op_form}
use Rattle.ir_forms.specs.inside.FlowFits.{FitsNodeForm}
use Rattle.ir_forms.specs.inside.FlowRegular.{is_silent}
use Rattle.predication.proofs.Numbers.{rises_le, items_rise}
use Rattle.predication.proofs.Converted.{touched_low, either_low}
use Rattle.predication.proofs.Static.{EachGood, GoodGuard, GoodGuards, Well, Static, Heard, GoodEntry, GoodEnv}
use Rattle.predication.proofs.Static.{GoodBits, each_later, guard_later, entry_later, env_later, each_good_append}
use Rattle.predication.proofs.Static.{guards_append, static_append, heard_front, heard_back, good_under, put_good}
use Rattle.predication.proofs.Static.{note_good, no_bits_good, bits_later, set_good, left_good, mov_well, movs_static}
use Rattle.predication.proofs.Static.{froms_good, operand_static, second_static, tested_static}

-- the left operand is taken
op_left : (o : Op) → operates o ≡ true → takes_left (role_of o) ≡ true
op_left op.Null e = absurd (cc)
op_left op.Bro e = absurd (cc)
op_left op.Callo e = absurd (cc)
op_left op.Scall e = absurd (cc)
op_left op.Genu e = absurd (cc)
op_left op.Gens e = absurd (cc)
op_left _ e = refl

module _ (T : ℕ → Type 0) where
  -- THE END OF AN IF

  pub record Side (j : ℕ) (p : Part) : Type 0 where
    pub nodes : Static T j p.nodes
    pub entry : (k : ℕ) → j + length p.nodes ≤ k → GoodEntry T k p.entry

  left_static : (g : Scope) (j r : ℕ) (ss : List FlowSource) (kept : List Scope) → r < 128 → GoodGuard T j g
      → EachGood T j ss → GoodGuards T j kept
      → Heard T j (left_of g j r ss kept).nodes → Side j (left_of g j r ss kept)
  left_static g j r [] kept l gg x y hd = record {
    nodes = tt;
    entry = λ k z.
        (tt, (guard_later T j k g (omega (arith, z)) gg, tt));
  }
  left_static g j r (s ∷ ss) kept l gg x y hd =
      let ms = movs r kept in
      let n = mov_of g ((s ∷ ss) ++ froms j kept) in
      let i = j + length ms in
      let src = each_good_append T i (s ∷ ss) (froms j kept) (each_later T j i (s ∷ ss) (omega arith) x)
      (froms_good T j r i kept (heard_front T j ms (n ∷ []) hd) (omega arith)) in
      record {
        nodes = static_append T j ms (n ∷ []) (movs_static T j r kept l y)
            (mov_well T i g ((s ∷ ss) ++ froms j kept) (guard_later T j i g (omega arith) gg) src, tt);
        entry = λ k z. (
          ((omega (arith, z, length-append ms (n ∷ [])), (heard_back T j ms (n ∷ []) hd).0 refl), tt),
          tt,
        );
      }

  side_static : (b : Bool) (g : Scope) (j r : ℕ) (before mine : Entry) → r < 128 → GoodGuard T j g
      → GoodEntry T j before → GoodEntry T j mine
      → Heard T j (side_of b g j r before mine).nodes → Side j (side_of b g j r before mine)
  side_static true g j r before mine l gg x y hd =
      record { nodes = tt; entry = λ k z. entry_later T j k mine (omega (arith, z)) y }
  side_static false g j r before mine l gg x y hd = left_static g j r before.given before.kept l gg x.0 x.1 hd

  pub record Joins (j : ℕ) (c : Joined) : Type 0 where
    pub nodes : Static T j c.nodes
    pub env : (k : ℕ) → j + length c.nodes ≤ k → GoodEnv T k c.env

  both_good : (k : ℕ) (a b : Entry) → GoodEntry T k a → GoodEntry T k b → GoodEntry T k (both a b)
  both_good k a b x y = (each_good_append T k a.given b.given x.0 y.0, guards_append T k a.kept b.kept x.1 y.1)

  head_in : (r : ℕ) (rs : List ℕ) → member r (r ∷ rs) ≡ true
  head_in r rs = let e : nat_eq r r ≡ true = grind (arith, nat_tests) in rw e refl

  tail_in : (q r : ℕ) (rs : List ℕ) → member q rs ≡ true → member q (r ∷ rs) ≡ true
  tail_in q r rs e = go (nat_eq q r)
    where
      go : (b : Bool) → cond b true (member q rs) ≡ true
      go true = refl
      go false = e

  -- the nodes that join the registers of both legs are well, and what stands for registers behind them is good
  pub join_static : (rs : List ℕ) (t j : ℕ) (env yea nay : Env) (ty tn : List ℕ)
      → ((q : ℕ) → member q rs ≡ true → q < 128) → t < j → T t
      → GoodEnv T j env → GoodEnv T j yea → GoodEnv T j nay → Heard T j (join t j env yea nay ty tn rs).nodes
      → Joins j (join t j env yea nay ty tn rs)
  join_static [] t j env yea nay ty tn low lt tt' ge gy gn hd =
      record { nodes = tt; env = λ k z. env_later T j k env (omega (arith, z)) ge }
  join_static (r ∷ rs) t j env yea nay ty tn low lt tt' ge gy gn hd =
      let a : Part = side_of (member r ty) (under t true) j r (env r) (yea r) in
      let ja = j + length a.nodes in
      let b : Part = side_of (member r tn) (under t false) ja r (env r) (nay r) in
      let jb = ja + length b.nodes in
      let c : Joined = join t jb env yea nay ty tn rs in
      let lr = low r (head_in r rs) in
      let lja : j ≤ ja = omega arith in
      let ljb : j ≤ jb = omega arith in
      let x = side_static (member r ty) (under t true) j r (env r) (yea r) lr (good_under T j t true lt tt') (ge r)
      (gy r) (heard_front T j a.nodes (b.nodes ++ c.nodes) hd) in
      let hb = heard_back T j a.nodes (b.nodes ++ c.nodes) hd in
      let y = side_static (member r tn) (under t false) ja r (env r) (nay r) lr
      (good_under T ja t false (omega (arith, lt)) tt') (entry_later T j ja (env r) lja (ge r))
      (entry_later T j ja (nay r) lja (gn r))
      (heard_front T ja b.nodes c.nodes hb) in
      let z = join_static rs t jb env yea nay ty tn (λ q e. low q (tail_in q r rs e)) (omega (arith, lt)) tt'
      (env_later T j jb env ljb ge) (env_later T j jb yea ljb gy) (env_later T j jb nay ljb gn)
      (heard_back T ja b.nodes c.nodes hb) in
      record {
        nodes = static_append T j a.nodes (b.nodes ++ c.nodes) x.nodes
            (static_append T ja b.nodes c.nodes y.nodes z.nodes);
        env = λ k l.
            let l1 = length-append a.nodes (b.nodes ++ c.nodes) in
            let l2 = length-append b.nodes c.nodes in
            put_good T k c.env r (both a.entry b.entry) (z.env k (omega (arith, l, l1, l2)))
            (both_good k a.entry b.entry (x.entry k (omega (arith, l, l1, l2)))
            (y.entry k (omega (arith, l, l1, l2))));
      }

  -- ITEMS

  pub record Made (j : ℕ) (o : Out) : Type 0 where
    pub nodes : Static T j o.nodes
    pub env : (k : ℕ) → j + length o.nodes ≤ k → GoodEnv T k o.env
    pub bits : (k : ℕ) → j + length o.nodes ≤ k → GoodBits T k o.bits

  set_form : (o : Op) (n : FlowNode) → operates o ≡ true → n.imm ≡ pos 0 → n.number ≡ 0 → FitsNodeForm (form_of o) n
  set_form o n e x y = subst (λ (F : Form). FitsNodeForm F n) (sym (op_form o e)) (x, y)

  load_fits : (o : Op) (m : ℕ) (g : Scope) (l r : List FlowSource) → loads o ≡ true → m < 32
      → FitsNodeForm (form_of o) (node_of o m g l r)
  load_fits o m g l r e x = let y : FitsNodeForm form.Load (node_of o m g l r) =
      (omega arith, x) in subst (λ (F : Form). FitsNodeForm F (node_of o m g l r)) (sym (load_form (form_of o) e)) y

  save_fits : (o : Op) (m : ℕ) (g : Scope) (l r : List FlowSource) → flat.stores o ≡ true → m < 32
      → FitsNodeForm (form_of o) (node_of o m g l r)
  save_fits o m g l r e x = let y : FitsNodeForm form.Store (node_of o m g l r) =
      (omega arith, x) in subst (λ (F : Form). FitsNodeForm F (node_of o m g l r)) (sym (store_form (form_of o) e)) y

  load_left : (o : Op) (l : List FlowSource) → loads o ≡ true → takes_left (role_of o) ≡ false → l ≡ []
  load_left o l e z = let y : takes_left (role_of o) ≡ true =
      ap (λ (F : Form). takes_left (role_in F o)) (load_form (form_of o) e) in absurd (cc)

  save_left : (o : Op) (l : List FlowSource) → flat.stores o ≡ true → takes_left (role_of o) ≡ false → l ≡ []
  save_left o l e z = let y : takes_left (role_of o) ≡ true =
      ap (λ (F : Form). takes_left (role_in F o)) (store_form (form_of o) e) in absurd (cc)

  save_right : (o : Op) (l : List FlowSource) → flat.stores o ≡ true → takes_right (role_of o) ≡ false → l ≡ []
  save_right o l e z = let y : takes_right (role_of o) ≡ true =
      ap (λ (F : Form). takes_right (role_in F o)) (store_form (form_of o) e) in absurd (cc)

  set_left : (o : Op) (l : List FlowSource) → operates o ≡ true → takes_left (role_of o) ≡ false → l ≡ []
  set_left o l e z = let y = op_left o e in absurd (cc)

  set_right : (b : Bool) (j : ℕ) (env : Env) (a : Source) → b ≡ false → (second b j env a).sources ≡ []
  set_right true j env a e = absurd (cc)
  set_right false j env a e = refl

  loud_general : (F : Form) → F ≡ form.General → is_silent F ≡ false
  loud_general F e = ap is_silent e

  -- the nodes of emitted items are well, and what stands for registers behind them is good
  pub items_static : (is : Items) (g : Scope) (j m : ℕ) (env : Env) (bits : Bits) → FitsItems is → GoodGuard T j g
      → GoodEnv T j env → GoodBits T j bits
      → Heard T j (items g j m env bits is).nodes → (items g j m env bits is).number ≤ 32
      → Made j (items g j m env bits is)
  items_static Done g j m env bits tk gg ge gb hd le =
      record {
        nodes = tt;
        env = λ k l. env_later T j k env (omega (arith, l)) ge;
        bits = λ k l. bits_later T j k bits
            (omega (arith, l)) gb;
      }
  items_static (Set r o a b rest) g j m env bits tk gg ge gb hd le =
      let xs = (operand j env a).nodes in
      let i = j + length xs in
      let tr = takes_right (role_of o) in
      let ys = (second tr i env b).nodes in
      let k = i + length ys in
      let e2 = put env r (from_node k) in
      let b2 = note bits r (bit_set o bits a k) in
      let rs = items g (suc k) m e2 b2 rest in
      let n = node_of o 0 g (operand j env a).sources (second tr i env b).sources in
      let h1 = heard_back T j xs (ys ++ n ∷ rs.nodes) hd in
      let h2 = heard_back T i ys (n ∷ rs.nodes) h1 in
      let x = operand_static T j env a tk.2 ge (heard_front T j xs (ys ++ n ∷ rs.nodes) hd) in
      let y = second_static T tr i env b tk.3 (env_later T j i env (omega arith) ge)
      (heard_front T i ys (n ∷ rs.nodes) h1) in
      let tk' : T k = h2.0 (loud_general (form_of o) (op_form o tk.1)) in
      let later : j ≤ suc k = omega arith in
      let z = items_static rest g (suc k) m e2 b2 tk.4 (guard_later T j (suc k) g later gg)
      (put_good T (suc k) env r (from_node k) (env_later T j (suc k) env later ge) (((omega arith, tk'), tt), tt))
      (note_good T (suc k) bits r (bit_set o bits a k) (bits_later T j (suc k) bits later gb)
      (λ q e. set_good T o bits a (suc k) k q (omega arith) tk' (bits_later T j (suc k) bits later gb) e)) h2.1 le in
      let w : Well T k n = record {
        form = set_form o n tk.1 refl refl;
        taken_left = set_left o (operand j env a).sources tk.1;
        taken_right = set_right tr i env b;
        left = x.sources k (omega arith);
        right = y.sources k (omega arith);
        guard = guard_later T j k g (omega arith) gg;
      } in
      let l1 = length-append xs (ys ++ n ∷ rs.nodes) in
      let l2 = length-append ys (n ∷ rs.nodes) in
      record {
        nodes = static_append T j xs (ys ++ n ∷ rs.nodes) x.nodes
            (static_append T i ys (n ∷ rs.nodes) y.nodes (w, z.nodes));
        env = λ q l. z.env q (omega (arith, l, l1, l2));
        bits = λ q l. z.bits q (omega (arith, l, l1, l2));
      }
  items_static (Load r o a rest) g j m env bits tk gg ge gb hd le =
      let xs = (operand j env a).nodes in
      let k = j + length xs in
      let e2 = put env r (from_node k) in
      let b2 = note bits r None in
      let rs = items g (suc k) (suc m) e2 b2 rest in
      let n = node_of o m g (operand j env a).sources [] in
      let h2 = heard_back T j xs (n ∷ rs.nodes) hd in
      let x = operand_static T j env a tk.2 ge (heard_front T j xs (n ∷ rs.nodes) hd) in
      let tk' : T k = h2.0 (ap is_silent (load_form (form_of o) tk.1)) in
      let later : j ≤ suc k = omega arith in
      let z = items_static rest g (suc k) (suc m) e2 b2 tk.3 (guard_later T j (suc k) g later gg)
      (put_good T (suc k) env r (from_node k) (env_later T j (suc k) env later ge) (((omega arith, tk'), tt), tt))
      (note_good T (suc k) bits r None (bits_later T j (suc k) bits later gb) (λ q e. absurd (cc))) h2.1 le in
      let mu = rises_le (suc m) rs.number rs.nodes (items_rise rest g (suc k) (suc m) e2 b2 tk.3) in
      let w : Well T k n = record {
        form = load_fits o m g (operand j env a).sources [] tk.1 (omega (arith, mu, le));
        taken_left = load_left o (operand j env a).sources tk.1;
        taken_right = λ e. refl;
        left = x.sources k (omega arith);
        right = tt;
        guard = guard_later T j k g (omega arith) gg;
      } in
      let l1 = length-append xs (n ∷ rs.nodes) in
      record {
        nodes = static_append T j xs (n ∷ rs.nodes) x.nodes (w, z.nodes);
        env = λ q l. z.env q (omega (arith, l, l1));
        bits = λ q l. z.bits q (omega (arith, l, l1));
      }
  items_static (Save o a v rest) g j m env bits tk gg ge gb hd le =
      let xs = (operand j env a).nodes in
      let i = j + length xs in
      let ys = (operand i env v).nodes in
      let k = i + length ys in
      let rs = items g (suc k) (suc m) env bits rest in
      let n = node_of o m g (operand j env a).sources (operand i env v).sources in
      let h1 = heard_back T j xs (ys ++ n ∷ rs.nodes) hd in
      let h2 = heard_back T i ys (n ∷ rs.nodes) h1 in
      let x = operand_static T j env a tk.1 ge (heard_front T j xs (ys ++ n ∷ rs.nodes) hd) in
      let y = operand_static T i env v tk.2 (env_later T j i env (omega arith) ge)
      (heard_front T i ys (n ∷ rs.nodes) h1) in
      let later : j ≤ suc k = omega arith in
      let z = items_static rest g (suc k) (suc m) env bits tk.3 (guard_later T j (suc k) g later gg)
      (env_later T j (suc k) env later ge) (bits_later T j (suc k) bits later gb) h2.1 le in
      let mu = rises_le (suc m) rs.number rs.nodes (items_rise rest g (suc k) (suc m) env bits tk.3) in
      let w : Well T k n = record {
        form = save_fits o m g (operand j env a).sources (operand i env v).sources tk.0 (omega (arith, mu, le));
        taken_left = save_left o (operand j env a).sources tk.0;
        taken_right = save_right o (operand i env v).sources tk.0;
        left = x.sources k (omega arith);
        right = y.sources k (omega arith);
        guard = guard_later T j k g (omega arith) gg;
      } in
      let l1 = length-append xs (ys ++ n ∷ rs.nodes) in
      let l2 = length-append ys (n ∷ rs.nodes) in
      record {
        nodes = static_append T j xs (ys ++ n ∷ rs.nodes) x.nodes
            (static_append T i ys (n ∷ rs.nodes) y.nodes (w, z.nodes));
        env = λ q l. z.env q (omega (arith, l, l1, l2));
        bits = λ q l. z.bits q (omega (arith, l, l1, l2));
      }
  items_static (If t yea nay rest) g j m env bits tk gg ge gb hd le =
      let xs = (tested g j env bits t).nodes in
      let k = test_at g j env bits t in
      let i = legs_at g j env bits t in
      let y = yea_out g j m env bits t yea in
      let n = nay_out g j m env bits t yea nay in
      let c = joined g j m env bits t yea nay in
      let o = rest_out g j m env bits t yea nay rest in
      let na = nay_at g j m env bits t yea in
      let ja = join_at g j m env bits t yea nay in
      let ra = rest_at g j m env bits t yea nay in
      let lb = left_bits bits (touched yea ++ touched nay) in
      let h1 = heard_back T j xs (y.nodes ++ (n.nodes ++ (c.nodes ++ o.nodes))) hd in
      let h2 = heard_back T i y.nodes (n.nodes ++ (c.nodes ++ o.nodes)) h1 in
      let h3 = heard_back T na n.nodes (c.nodes ++ o.nodes) h2 in
      let h4 = heard_back T ja c.nodes o.nodes h3 in
      let x = tested_static T g j env bits t tk.0 gg ge gb
      (heard_front T j xs (y.nodes ++ (n.nodes ++ (c.nodes ++ o.nodes))) hd) in
      let ry = rises_le m y.number y.nodes (items_rise yea (under k true) i m env no_bits tk.1) in
      let rn = rises_le y.number n.number n.nodes (items_rise nay (under k false) na y.number env no_bits tk.2) in
      let ro = rises_le n.number o.number o.nodes (items_rise rest g ra n.number c.env lb tk.3) in
      let ly = items_static yea (under k true) i m env no_bits tk.1 (good_under T i k true x.last x.talks)
      (env_later T j i env (omega arith) ge) (no_bits_good T i)
      (heard_front T i y.nodes (n.nodes ++ (c.nodes ++ o.nodes)) h1) (omega (arith, rn, ro, le)) in
      let kn : k < na = omega (arith, x.last) in
      let kj : k < ja = omega (arith, x.last) in
      let ln = items_static nay (under k false) na y.number env no_bits tk.2 (good_under T na k false kn x.talks)
      (env_later T j na env (omega arith) ge) (no_bits_good T na)
      (heard_front T na n.nodes (c.nodes ++ o.nodes) h2) (omega (arith, ro, le)) in
      let lj = join_static (distinct (touched yea ++ touched nay)) k ja env y.env n.env (touched yea) (touched nay)
      (λ q e. either_low q (touched yea) (touched nay) (touched_low yea q tk.1) (touched_low nay q tk.2)
      (sym (member_distinct q (touched yea ++ touched nay)) ∙ e)) kj x.talks
      (env_later T j ja env (omega arith) ge) (ly.env ja (omega arith)) (ln.env ja (omega arith))
      (heard_front T ja c.nodes o.nodes h3) in
      let lr = items_static rest g ra n.number c.env lb tk.3 (guard_later T j ra g (omega arith) gg)
      (lj.env ra (omega arith))
      (left_good T ra bits (touched yea ++ touched nay) (bits_later T j ra bits (omega arith) gb)) h4 le in
      let l1 = length-append xs (y.nodes ++ (n.nodes ++ (c.nodes ++ o.nodes))) in
      let l2 = length-append y.nodes (n.nodes ++ (c.nodes ++ o.nodes)) in
      let l3 = length-append n.nodes (c.nodes ++ o.nodes) in
      let l4 = length-append c.nodes o.nodes in
      record {
        nodes = static_append T j xs (y.nodes ++ (n.nodes ++ (c.nodes ++ o.nodes))) x.nodes
            (static_append T i y.nodes (n.nodes ++ (c.nodes ++ o.nodes)) ly.nodes
            (static_append T na n.nodes (c.nodes ++ o.nodes) ln.nodes
            (static_append T ja c.nodes o.nodes lj.nodes lr.nodes)));
        env = λ q l. lr.env q (omega (arith, l, l1, l2, l3, l4));
        bits = λ q l. lr.bits q (omega (arith, l, l1, l2, l3, l4));
      }
