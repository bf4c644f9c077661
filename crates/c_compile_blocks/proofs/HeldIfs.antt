-- Items with one if, whose legs have none: the test, both legs, what they leave, and what stands around them.
use Rattle.std.proofs.Common.{◌≡◌, ℕ, suc, ◌+◌, ◌*◌, ◌≤◌, Bool, true, false, List, ◌++◌, length, sym, subst}
use Rattle.std.proofs.Common.{refl, arith, length-append, inl}
use Rattle.std.specs.Prelude.{None}
use Rattle.trips_isa.specs.Forms.{form_of, role_of, takes_right}
use Rattle.ir_forms.specs.declared.hyper.Source.{Source}
use Rattle.ir_forms.specs.declared.flow.FlowNode.{FlowNode}
use Rattle.ir_forms.specs.inside.HyperCode.{Items, Done, Set, Load, Save, If}
use Rattle.ir_forms.specs.inside.HyperFits.{FitsItems, ifs_in, items_in}
use Rattle.predication.specs.inside.Environments.{Env, Bits, no_bits, left_bits, put, note, under, from_node}
use Rattle.predication.specs.inside.Environments.{distinct}
use Rattle.predication.specs.inside.Operands.{Chain, operand, bit_set, tested}
use Rattle.predication.specs.inside.Ifs.{Out, Joined, items, join, touched}
use Rattle.predication.proofs.Ops.{op_form}
use Rattle.predication.proofs.EmittedIfs.{load_form, store_form}
use Rattle.c_compile_blocks.proofs.Pieces.{AreBits}
use Rattle.c_compile_blocks.proofs.Items.{not_constant, load_not_constant, store_not_constant, NamesIn}
use Rattle.c_compile_blocks.proofs.Supplies.{AreAt, at_front, at_back}
use Rattle.c_compile_blocks.proofs.OneGuard.{unguarded, under_by, IsHeld, held_append, held_wider}
use Rattle.c_compile_blocks.proofs.Entries.{IsUnder, IsChoice, IsSingle, IsKnown, choice_later, choice_under}
use Rattle.c_compile_blocks.proofs.Entries.{own_later, single_later, single_inward, known_later, known_single}
use Rattle.c_compile_blocks.proofs.Entries.{under_later, put_known}
use Rattle.c_compile_blocks.proofs.Steps.{own_place, item_nodes, item_size, item_from, at_rest, own_under, step_held}
use Rattle.c_compile_blocks.proofs.Steps.{IsTest, tested_is}
use Rattle.c_compile_blocks.proofs.Joins.{distinct_most, IsJoined, joined}
use Rattle.c_compile_blocks.proofs.Runs.{no_bits_are, left_are, bits_later, set_bits, none_bits, as_taken, load_takes}
use Rattle.c_compile_blocks.proofs.Runs.{IsRun, run}

-- how many registers items set
pub touched_few : (is : Items) → length (touched is) ≤ items_in is
touched_few Done = omega arith
touched_few (Set r o a b rest) = let h = touched_few rest in omega (arith, h)
touched_few (Load r o a rest) = let h = touched_few rest in omega (arith, h)
touched_few (Save o a b rest) = let h = touched_few rest in omega (arith, h)
touched_few (If t one other rest) =
    let x = touched_few one in
    let y = touched_few other in
    let z = touched_few rest in
    let u = length-append (touched one ++ touched other) (touched rest) in
    let v = length-append (touched one) (touched other) in
    omega (arith, x, y, z, u, v)

-- five lists of nodes, one behind the other
five_long : (a b d e f : List FlowNode) (j : ℕ) → j + length a + length b + length d + length e + length f
    ≡ j + length (a ++ (b ++ (d ++ (e ++ f))))
five_long a b d e f j =
    let u = length-append a (b ++ (d ++ (e ++ f))) in
    let v = length-append b (d ++ (e ++ f)) in
    let w = length-append d (e ++ f) in
    let x = length-append e f in
    omega (arith, u, v, w, x)

module _ (P : ℕ → Type 0) (all : List FlowNode) where
  -- what items with one if come to, from node j and number n on
  pub record HoldsIf (j n : ℕ) (is : Items) (o : Out) : Type 0 where
    pub chooser : ℕ
    pub choice : IsChoice all (j + length o.nodes) None chooser
    pub held : IsHeld P all chooser j o.nodes (10 + 21 * items_in is)
    pub known : (q : ℕ) → IsKnown all chooser true (j + length o.nodes) None (o.env q)
    pub number : o.number ≤ n + items_in is

-- THE IF

module _ (P : ℕ → Type 0) (all : List FlowNode) (t : Source) (one other rest : Items) (j n : ℕ) (env : Env)
    (bits : Bits) (fits : FitsItems (If t one other rest)) (first : ifs_in one ≡ 0) (second : ifs_in other ≡ 0)
    (third : ifs_in rest ≡ 0) (named : NamesIn P (If t one other rest))
    (single : (q : ℕ) → IsSingle all j None (env q)) (told : AreBits (IsChoice all j None) bits)
    (at : AreAt all j (items None j n env bits (If t one other rest)).nodes) where
  abbrev x : Chain
  x = tested None j env bits t

  -- the node that gives all guards
  abbrev c : ℕ
  c = x.last

  -- where the parts begin
  abbrev i : ℕ
  i = j + length x.nodes

  abbrev y : Out
  y = items (under c true) i n env no_bits one

  abbrev i2 : ℕ
  i2 = i + length y.nodes

  abbrev z : Out
  z = items (under c false) i2 y.number env no_bits other

  abbrev i3 : ℕ
  i3 = i2 + length z.nodes

  abbrev w : Joined
  w = join c i3 env y.env z.env (touched one) (touched other) (distinct (touched one ++ touched other))

  abbrev i4 : ℕ
  i4 = i3 + length w.nodes

  abbrev v : Out
  v = items None i4 z.number w.env (left_bits bits (touched one ++ touched other)) rest

  legs_at : AreAt all i (y.nodes ++ (z.nodes ++ (w.nodes ++ v.nodes)))
  legs_at = at_back all j x.nodes (y.nodes ++ (z.nodes ++ (w.nodes ++ v.nodes))) at

  other_at : AreAt all i2 (z.nodes ++ (w.nodes ++ v.nodes))
  other_at = at_back all i y.nodes (z.nodes ++ (w.nodes ++ v.nodes)) legs_at

  join_at : AreAt all i3 (w.nodes ++ v.nodes)
  join_at = at_back all i2 z.nodes (w.nodes ++ v.nodes) other_at

  test : IsTest P all c j x
  test =
      tested_is P all c false j env bits t named.0 (λ q. inl (single q)) told
      (at_front all j x.nodes (y.nodes ++ (z.nodes ++ (w.nodes ++ v.nodes))) at)

  -- a register as a leg finds it
  found_in : (s : Bool) (k : ℕ) → j ≤ k → (q : ℕ) → IsKnown all c false k (under c s) (env q)
  found_in s k l q =
      inl (single_inward all k (under c s) (env q) (single_later all j k None (env q) l (single q)))

  one_is : IsRun P all c false (under c true) i n env one y
  one_is =
      run P all c one false (under c true) i n env no_bits (under_by c true) fits.1 first named.1
      (found_in true i (omega arith)) (no_bits_are (IsChoice all i (under c true)))
      (at_front all i y.nodes (z.nodes ++ (w.nodes ++ v.nodes)) legs_at)

  other_is : IsRun P all c false (under c false) i2 y.number env other z
  other_is =
      run P all c other false (under c false) i2 y.number env no_bits (under_by c false) fits.2 second named.2
      (found_in false i2 (omega arith)) (no_bits_are (IsChoice all i2 (under c false)))
      (at_front all i2 z.nodes (w.nodes ++ v.nodes) other_at)

  join_is : IsJoined P all c i3 (length (distinct (touched one ++ touched other))) w
  join_is =
      let k = test in
      let a = one_is in
      let b = other_is in
      joined P all c env y.env z.env (touched one) (touched other) (distinct (touched one ++ touched other)) i3
      (under_later all i i3 None c (omega arith) (choice_under all i None c k.choice))
      (λ q. single_later all j i3 None (env q) (omega arith) (single q))
      (λ q d. own_later all i2 i3 (under c true) (y.env q) (omega arith) (a.sets q d)) (λ q d. b.sets q d)
      (at_front all i3 w.nodes v.nodes join_at)

  rest_is : IsRun P all c true None i4 z.number w.env rest v
  rest_is =
      let h = join_is in
      run P all c rest true None i4 z.number w.env (left_bits bits (touched one ++ touched other)) (unguarded c)
      fits.3 third named.3 (λ q. h.known q)
      (left_are (IsChoice all i4 None) bits (touched one ++ touched other)
      (bits_later all j i4 None bits (omega arith) told)) (at_back all i3 w.nodes v.nodes join_at)

  if_holds : HoldsIf P all j n (If t one other rest) (items None j n env bits (If t one other rest))
  if_holds =
      let k = test in
      let a = one_is in
      let b = other_is in
      let d = join_is in
      let e = rest_is in
      let js = length (distinct (touched one ++ touched other)) in
      let long = five_long x.nodes y.nodes z.nodes w.nodes v.nodes j in
      let whole = x.nodes ++ (y.nodes ++ (z.nodes ++ (w.nodes ++ v.nodes))) in
      let few = distinct_most (touched one ++ touched other) in
      let both = length-append (touched one) (touched other) in
      let f = touched_few one in
      let g = touched_few other in
      record {
        chooser = c;
        choice = choice_later all i (j + length whole) None c (omega (arith, long)) k.choice;
        held = held_wider P all c j whole
            (10 + (15 * items_in one + (15 * items_in other + (6 * js + 15 * items_in rest))))
            (10 + 21 * (items_in one + items_in other + items_in rest)) (omega (arith, few, both, f, g))
            (held_append P all c j x.nodes (y.nodes ++ (z.nodes ++ (w.nodes ++ v.nodes))) 10
            (15 * items_in one + (15 * items_in other + (6 * js + 15 * items_in rest))) k.held
            (held_append P all c i y.nodes (z.nodes ++ (w.nodes ++ v.nodes)) (15 * items_in one)
            (15 * items_in other + (6 * js + 15 * items_in rest)) a.held
            (held_append P all c i2 z.nodes (w.nodes ++ v.nodes) (15 * items_in other)
            (6 * js + 15 * items_in rest) b.held
            (held_append P all c i3 w.nodes v.nodes (6 * js) (15 * items_in rest) d.held e.held))));
        known = λ q.
            known_later all c true (i4 + length v.nodes) (j + length whole) None (v.env q) (omega (arith, long))
            (e.known q);
        number = (let l = a.number in let m = b.number in let r = e.number in omega (arith, l, m, r));
      }

-- AND WHAT STANDS BEFORE IT

module _ (P : ℕ → Type 0) (all : List FlowNode) where
  -- items with one if cost little, and their guards are the node of its test
  pub holds_if : (is : Items) (j n : ℕ) (env : Env) (bits : Bits) → FitsItems is → ifs_in is ≡ 1 → NamesIn P is
      → ((q : ℕ) → IsSingle all j None (env q)) → AreBits (IsChoice all j None) bits
      → AreAt all j (items None j n env bits is).nodes → HoldsIf P all j n is (items None j n env bits is)
  holds_if Done j n env bits f z p single told at = absurd (omega (arith, z))
  holds_if (Set r o a b rest) j n env bits f z p single told at =
      let t = takes_right (role_of o) in
      let k = own_place t j env a b in
      let later = items None (suc k) n (put env r (from_node k)) (note bits r (bit_set o bits a k)) rest in
      let here = own_under all None o 0 t j env a b later.nodes at in
      let from = item_from t j env a b in
      let h = holds_if rest (suc k) n (put env r (from_node k)) (note bits r (bit_set o bits a k)) f.4 z p.2
      (λ q. known_single all 0 (suc k) None (put env r (from_node k) q)
      (put_known all 0 false j k None env r from here (λ y. inl (single y)) q))
      (set_bits all None o 0 t j env bits r a b later.nodes at told)
      (at_rest all None o 0 t j env a b later.nodes at) in
      let size = item_size None o 0 t j env a b later.nodes in
      let end = j + length (item_nodes None o 0 t j env a b later.nodes) in
      let last : suc k + length later.nodes ≤ end = omega (arith, size) in
      record {
        chooser = h.chooser;
        choice = choice_later all (suc k + length later.nodes) end None h.chooser last h.choice;
        held = held_wider P all h.chooser j (item_nodes None o 0 t j env a b later.nodes)
            (15 + (10 + 21 * items_in rest)) (10 + 21 * (1 + items_in rest)) (omega arith)
            (step_held all None o 0 t j env a b later.nodes at P h.chooser false (10 + 21 * items_in rest)
            (unguarded h.chooser) (as_taken t) (not_constant (form_of o) (op_form o f.1)) p.0 p.1
            (λ q. inl (single q)) h.held);
        known = λ q.
            known_later all h.chooser true (suc k + length later.nodes) end None (later.env q) last (h.known q);
        number = (let w = h.number in omega (arith, w));
      }
  holds_if (Load r o a rest) j n env bits f z p single told at =
      let k = j + length (operand j env a).nodes in
      let later = items None (suc k) (suc n) (put env r (from_node k)) (note bits r None) rest in
      let same : own_place false j env a a ≡ k = omega arith in
      let here = subst (λ (i : ℕ). IsUnder all (suc i) None i) same
      (own_under all None o n false j env a a later.nodes at) in
      let from : j ≤ suc k = omega arith in
      let form_is = load_form (form_of o) f.1 in
      let h = holds_if rest (suc k) (suc n) (put env r (from_node k)) (note bits r None) f.3 z p.1
      (λ q. known_single all 0 (suc k) None (put env r (from_node k) q)
      (put_known all 0 false j k None env r from here (λ y. inl (single y)) q))
      (none_bits all j (suc k) None bits r from told)
      (subst (λ (i : ℕ). AreAt all (suc i) later.nodes) same (at_rest all None o n false j env a a later.nodes at)) in
      let size = item_size None o n false j env a a later.nodes in
      let end = j + length (item_nodes None o n false j env a a later.nodes) in
      let last : suc k + length later.nodes ≤ end = omega (arith, size, same) in
      record {
        chooser = h.chooser;
        choice = choice_later all (suc k + length later.nodes) end None h.chooser last h.choice;
        held = held_wider P all h.chooser j (item_nodes None o n false j env a a later.nodes)
            (15 + (10 + 21 * items_in rest)) (10 + 21 * (1 + items_in rest)) (omega arith)
            (step_held all None o n false j env a a later.nodes at P h.chooser false (10 + 21 * items_in rest)
            (unguarded h.chooser) (load_takes o form_is) (load_not_constant (form_of o) form_is) p.0 p.0
            (λ q. inl (single q))
            (subst (λ (i : ℕ). IsHeld P all h.chooser (suc i) later.nodes (10 + 21 * items_in rest)) (sym same)
            h.held));
        known = λ q.
            known_later all h.chooser true (suc k + length later.nodes) end None (later.env q) last (h.known q);
        number = (let w = h.number in omega (arith, w));
      }
  holds_if (Save o a b rest) j n env bits f z p single told at =
      let k = own_place true j env a b in
      let later = items None (suc k) (suc n) env bits rest in
      let from = item_from true j env a b in
      let form_is = store_form (form_of o) f.0 in
      let h = holds_if rest (suc k) (suc n) env bits f.3 z p.2
      (λ q. single_later all j (suc k) None (env q) from (single q)) (bits_later all j (suc k) None bits from told)
      (at_rest all None o n true j env a b later.nodes at) in
      let size = item_size None o n true j env a b later.nodes in
      let end = j + length (item_nodes None o n true j env a b later.nodes) in
      let last : suc k + length later.nodes ≤ end = omega (arith, size) in
      record {
        chooser = h.chooser;
        choice = choice_later all (suc k + length later.nodes) end None h.chooser last h.choice;
        held = held_wider P all h.chooser j (item_nodes None o n true j env a b later.nodes)
            (15 + (10 + 21 * items_in rest)) (10 + 21 * (1 + items_in rest)) (omega arith)
            (step_held all None o n true j env a b later.nodes at P h.chooser false (10 + 21 * items_in rest)
            (unguarded h.chooser) (λ d. refl) (store_not_constant (form_of o) form_is) p.0 p.1
            (λ q. inl (single q)) h.held);
        known = λ q.
            known_later all h.chooser true (suc k + length later.nodes) end None (later.env q) last (h.known q);
        number = (let w = h.number in omega (arith, w));
      }
  holds_if (If t one other rest) j n env bits f z p single told at =
      if_holds P all t one other rest j n env bits f (omega (arith, z)) (omega (arith, z)) (omega (arith, z)) p
      single told at
