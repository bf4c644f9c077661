-- A block with a folded node may stand for the block.
use Rattle.std.proofs.Common.{◌≡◌, ◌≢◌, ℕ, List, refl, sym, ap, subst, ◌∙◌, map, cond, Bool, true, false}
use Rattle.std.specs.Prelude.{ℤ, Some, None, Option, slice_get, option_map}
use Rattle.std.proofs.lemmas.List.{map-set}
use Rattle.std.proofs.lemmas.Option.{slice_get-map, same_Some}
use Rattle.trips_isa.specs.declared.op.Op.{Op}
use Rattle.trips_isa.specs.Forms.{form_of}
use Rattle.ir_forms.specs.declared.flow.FlowSource.{FlowSource}
use Rattle.ir_forms.specs.declared.flow.Guard.{Guard}
use Rattle.ir_forms.specs.declared.flow.FlowNode.{FlowNode}
use Rattle.ir_forms.specs.declared.flow.FlowBlock.{FlowBlock}
use Rattle.ir_forms.specs.inside.FlowFits.{IsComplete}
use Rattle.hyper_narrow.specs.inside.NarrowedMeaning.{MeansNarrowed}
use Rattle.flow_fold.specs.inside.Copies.{covers, guard_of}
use Rattle.flow_fold.specs.inside.Immediates.{immediate_of, gives_constant}
use Rattle.flow_fold.specs.inside.Folds.{with_constant, with_left, with_right, with_node, Turns, immediate}
use Rattle.flow_fold.specs.inside.Folds.{left_copy, right_copy, guard_copy, offset, sum, told, negative, freed}
use Rattle.flow_fold.specs.inside.Folds.{left_behind, right_behind, mirror, opposite, compute}
use Rattle.flow_fold.specs.inside.Folds.{Folds}
use Rattle.flow_fold.specs.inside.Offsets.{has_address, with_offset, summed}
use Rattle.flow_fold.specs.inside.Replaces.{Immediates, with_immediate, with_immediates, LeavesOwn, Replaces}
use Rattle.flow_fold.proofs.ConstantFacts.{immediate_is, constants_stay, small_own, Small, small_is}
use Rattle.flow_fold.proofs.ComputedRules.{Computing, computing, computing_kept, computed_written, computed_works}
use Rattle.flow_fold.proofs.Turned.{Written, Works}
use Rattle.flow_fold.proofs.Turning.{constant_written, constant_works}
use Rattle.flow_fold.proofs.Forwarded.{Copied, copied_is}
use Rattle.flow_fold.proofs.CopyRules.{left_written, left_works, right_written, right_works}
use Rattle.flow_fold.proofs.JoinRules as joins
use Rattle.flow_fold.proofs.JoinRules.{LeftBehind, RightBehind, left_behind_kept, right_behind_kept}
use Rattle.flow_fold.proofs.GuardRules.{Guarding, guarding, guard_written, guard_works}
use Rattle.flow_fold.proofs.WaitRules.{Waiting, waiting, waiting_kept, free_written, free_works}
use Rattle.flow_fold.proofs.OffsetFacts.{Moves, Offsetly, summed_is}
use Rattle.flow_fold.proofs.OffsetRules.{offset_written, offset_works}
use Rattle.flow_fold.proofs.SumFacts.{Adding, adding, adding_kept}
use Rattle.flow_fold.proofs.SumRules.{sum_written, sum_works}
use Rattle.flow_fold.proofs.TestRules.{Telling, telling, telling_kept, copy_written, copy_works}
use Rattle.flow_fold.proofs.MirrorRules.{Mirroring, mirroring_kept, mirror_is, mirror_written, mirror_works}
use Rattle.flow_fold.proofs.OppositeFacts.{Opposing, opposing, opposing_kept}
use Rattle.flow_fold.proofs.OppositeRules.{opposite_written, opposite_works}
use Rattle.flow_fold.proofs.NegativeFacts.{Ending, ending, ending_kept}
use Rattle.flow_fold.proofs.NegativeRules.{negative_written, negative_works}
use Rattle.flow_fold.proofs.Replacing.{regular_kept, complete_kept, means_kept, labels_kept}

-- both parts of what a turned node has to do
record Stands (f : FlowBlock) (j : ℕ) (n m : FlowNode) : Type 0 where
  written : Written f j n m
  works : Works f j n m

-- the rule of small constants, with the node that gives one
record Constantly (nodes : List FlowNode) (n m : FlowNode) : Type 0 where
  number : ℤ
  op : Op
  small : Small nodes n.right number
  form : immediate_of n.op ≡ Some op
  is : m ≡ with_constant n op number

constantly : (f : FlowBlock) (j : ℕ) (n m : FlowNode) → slice_get f.nodes j ≡ Some n → Constantly f.nodes n m
    → Stands f j n m
constantly f j n m there c =
    let p = immediate_is n.op c.op c.form in
    subst (λ (x : FlowNode). Stands f j n x) (sym c.is)
    (record {
      written = constant_written f j n c.number c.op there c.small p apart;
      works = constant_works f j n c.number c.op there c.small p apart;
    })
  where
    apart : c.small.place ≢ j
    apart e =
        let same : c.small.node ≡ n = same_Some c.small.node n
        (sym c.small.there ∙ (ap (λ (i : ℕ). slice_get f.nodes i) e ∙ there)) in
        constants_stay n.op c.op (subst (λ (x : FlowNode). gives_constant x.op ≡ true) same c.small.gives) c.form

-- a rule by which a node takes what a copy takes, with the copy
record Leftly (nodes : List FlowNode) (j : ℕ) (n m : FlowNode) : Type 0 where
  sources : List FlowSource
  copy : Copied nodes j n.guard n.left sources
  is : m ≡ with_left n sources

-- the same at the right
record Rightly (nodes : List FlowNode) (j : ℕ) (n m : FlowNode) : Type 0 where
  sources : List FlowSource
  copy : Copied nodes j n.guard n.right sources
  is : m ≡ with_right n sources

leftly : (f : FlowBlock) (j : ℕ) (n m : FlowNode) → slice_get f.nodes j ≡ Some n → Leftly f.nodes j n m
    → Stands f j n m
leftly f j n m there c =
    subst (λ (x : FlowNode). Stands f j n x) (sym c.is)
    (record {
      written = left_written f j n there c.sources c.copy;
      works = left_works f j n there c.sources c.copy;
    })

rightly : (f : FlowBlock) (j : ℕ) (n m : FlowNode) → slice_get f.nodes j ≡ Some n → Rightly f.nodes j n m
    → Stands f j n m
rightly f j n m there c =
    subst (λ (x : FlowNode). Stands f j n x) (sym c.is)
    (record {
      written = right_written f j n there c.sources c.copy;
      works = right_works f j n there c.sources c.copy;
    })

guarded_stands : (f : FlowBlock) (j : ℕ) (n m : FlowNode) → slice_get f.nodes j ≡ Some n → Guarding f.nodes j n m
    → Stands f j n m
guarded_stands f j n m there c =
    subst (λ (x : FlowNode). Stands f j n x) (sym c.is)
    (record {
      written = guard_written f j n there c.old c.guarded c.node c.there c.apart c.mov c.source c.left c.below
          c.covered;
      works = guard_works f j n there c.old c.guarded c.node c.there c.apart c.mov c.source c.left c.below
          c.covered;
    })

-- the rule of offsets, of a node with an address
record Addressed (nodes : List FlowNode) (j : ℕ) (n m : FlowNode) : Type 0 where
  address : has_address (form_of n.op) ≡ true
  sum : Offsetly nodes j n m

addressed : (f : FlowBlock) (j : ℕ) (n m : FlowNode) → slice_get f.nodes j ≡ Some n → Addressed f.nodes j n m
    → Stands f j n m
addressed f j n m there c =
    let o = c.sum in
    subst (λ (x : FlowNode). Stands f j n x) (sym o.is)
    (record {
      written = offset_written f j n there o.node o.number o.sum c.address;
      works = offset_works f j n there o.node o.number o.sum c.address;
    })

summed_stands : (f : FlowBlock) (j : ℕ) (n m : FlowNode) → slice_get f.nodes j ≡ Some n → Adding f.nodes j n m
    → Stands f j n m
summed_stands f j n m there c =
    subst (λ (x : FlowNode). Stands f j n x) (sym c.is)
    (record {
      written = sum_written f j n there c.node c.number c.sum;
      works = sum_works f j n there c.node c.number c.sum;
    })

told_stands : (f : FlowBlock) (j : ℕ) (n m : FlowNode) → slice_get f.nodes j ≡ Some n → Telling f.nodes j n m
    → Stands f j n m
told_stands f j n m there c =
    subst (λ (x : FlowNode). Stands f j n x) (sym c.is)
    (record {
      written = copy_written f j n there c.tells c.zero c.bits;
      works = copy_works f j n there c.tells c.zero c.bits;
    })

ended : (f : FlowBlock) (j : ℕ) (n m : FlowNode) → slice_get f.nodes j ≡ Some n → Ending f.nodes j n m → Stands f j n m
ended f j n m there c =
    subst (λ (x : FlowNode). Stands f j n x) (sym c.is)
    (record {
      written = negative_written f j n there c.app c.upper c.chain;
      works = negative_works f j n there c.app c.upper c.chain;
    })

freed_stands : (f : FlowBlock) (j : ℕ) (n m : FlowNode) → slice_get f.nodes j ≡ Some n → Waiting f.nodes j n m
    → Stands f j n m
freed_stands f j n m there c =
    subst (λ (x : FlowNode). Stands f j n x) (sym c.is)
    (record {
      written = free_written f j n there c.guard c.guarded c.calm c.waits;
      works = free_works f j n there c.guard c.guarded c.calm c.waits;
    })

-- the rules, with the nodes that they look at
data How (nodes : List FlowNode) (j : ℕ) (n m : FlowNode) : Type 0 where
  by_constant : Constantly nodes n m → How nodes j n m
  by_mirror : Mirroring n m → How nodes j n m
  by_left : Leftly nodes j n m → How nodes j n m
  by_right : Rightly nodes j n m → How nodes j n m
  by_left_behind : LeftBehind nodes j n m → How nodes j n m
  by_right_behind : RightBehind nodes j n m → How nodes j n m
  by_guard : Guarding nodes j n m → How nodes j n m
  by_offset : Addressed nodes j n m → How nodes j n m
  by_sum : Adding nodes j n m → How nodes j n m
  by_test : Telling nodes j n m → How nodes j n m
  by_opposite : Opposing nodes j n m → How nodes j n m
  by_value : Computing nodes n m → How nodes j n m
  by_end : Ending nodes j n m → How nodes j n m
  by_wait : Waiting nodes j n m → How nodes j n m

how_stands : (f : FlowBlock) (j : ℕ) (n m : FlowNode) → slice_get f.nodes j ≡ Some n → How f.nodes j n m
    → Stands f j n m
how_stands f j n m there (by_constant c) = constantly f j n m there c
how_stands f j n m there (by_mirror c) =
    subst (λ (x : FlowNode). Stands f j n x) (sym c.is)
    (record { written = mirror_written f j n there c.op c.mirror; works = mirror_works f j n there c.op c.mirror })
how_stands f j n m there (by_left c) = leftly f j n m there c
how_stands f j n m there (by_right c) = rightly f j n m there c
how_stands f j n m there (by_left_behind c) =
    subst (λ (x : FlowNode). Stands f j n x) (sym c.is)
    (record { written = joins.left_written f j n there c.marks; works = joins.left_works f j n there c.marks })
how_stands f j n m there (by_right_behind c) =
    subst (λ (x : FlowNode). Stands f j n x) (sym c.is)
    (record { written = joins.right_written f j n there c.marks; works = joins.right_works f j n there c.marks })
how_stands f j n m there (by_guard c) = guarded_stands f j n m there c
how_stands f j n m there (by_offset c) = addressed f j n m there c
how_stands f j n m there (by_sum c) = summed_stands f j n m there c
how_stands f j n m there (by_test c) = told_stands f j n m there c
how_stands f j n m there (by_opposite c) =
    subst (λ (x : FlowNode). Stands f j n x) (sym c.is)
    (record {
      written = opposite_written f j n there c.node c.op c.test;
      works = opposite_works f j n there c.node c.op c.test;
    })
how_stands f j n m there (by_value c) =
    subst (λ (x : FlowNode). Stands f j n x) (sym c.is)
    (record {
      written = computed_written f j n there c.number c.constant;
      works = computed_works f j n there c.number c.constant;
    })
how_stands f j n m there (by_end c) = ended f j n m there c
how_stands f j n m there (by_wait c) = freed_stands f j n m there c

module _ (r : Immediates) (own : LeavesOwn r) where
  abbrev new : FlowNode → FlowNode
  new = with_immediate r

  -- new immediates leave a small constant
  small_kept : (nodes : List FlowNode) (n m : FlowNode) → Constantly nodes n m
      → Constantly (map new nodes) (new n) (new m)
  small_kept nodes n m c =
      let s = c.small in
      let o = small_own c.number s.small in
      record {
        number = c.number;
        op = c.op;
        small = record {
          place = s.place;
          node = new s.node;
          sources = s.sources;
          there = slice_get-map new nodes s.place ∙ ap (option_map new) s.there;
          gives = s.gives;
          guard = s.guard;
          imm = ap (r s.node.op) s.imm ∙ own s.node.op c.number o;
          small = s.small;
        };
        form = c.form;
        is = ap new c.is ∙ ap (λ (z : ℤ). record (with_constant n c.op c.number) { imm = z }) (own c.op c.number o);
      }

  -- and a copy
  copy_kept : (nodes : List FlowNode) (j : ℕ) (g : Option Guard) (ss ls : List FlowSource)
      → Copied nodes j g ss ls → Copied (map new nodes) j g ss ls
  copy_kept nodes j g ss ls c = record {
    place = c.place;
    node = new c.node;
    sources = c.sources;
    there = slice_get-map new nodes c.place ∙ ap (option_map new) c.there;
    apart = c.apart;
    mov = c.mov;
    guard = c.guard;
    left = c.left;
  }

  -- and the guard of a node that a guard copies
  guard_stays : (nodes : List FlowNode) (x : Option FlowNode) → guard_of (option_map new x) ≡ guard_of x
  guard_stays nodes None = refl
  guard_stays nodes (Some x) = refl

  guard_kept : (nodes : List FlowNode) (j : ℕ) (n m : FlowNode) → Guarding nodes j n m
      → Guarding (map new nodes) j (new n) (new m)
  guard_kept nodes j n m c = record {
    old = c.old;
    guarded = c.guarded;
    node = new c.node;
    there = slice_get-map new nodes c.old.node ∙ ap (option_map new) c.there;
    apart = c.apart;
    mov = c.mov;
    source = c.source;
    left = c.left;
    below = c.below;
    covered = ap (covers c.node.guard) (ap guard_of (slice_get-map new nodes c.source)
        ∙ guard_stays nodes (slice_get nodes c.source)) ∙ c.covered;
    is = ap new c.is;
  }

  -- and a sum with its offset
  sum_kept : (nodes : List FlowNode) (j : ℕ) (n m : FlowNode) → Offsetly nodes j n m
      → Offsetly (map new nodes) j (new n) (new m)
  sum_kept nodes j n m o =
      let s = o.sum in
      let w = s.moves in
      let a : r o.node.op o.node.imm ≡ o.node.imm = own o.node.op o.node.imm (small_own o.node.imm w.added) in
      let b : r n.op n.imm ≡ n.imm = own n.op n.imm (small_own n.imm w.offset) in
      let i = own n.op o.number (small_own o.number w.sum) in
      record {
        node = new o.node;
        number = o.number;
        sum = record {
          place = s.place;
          sources = s.sources;
          there = slice_get-map new nodes s.place ∙ ap (option_map new) s.there;
          apart = s.apart;
          guard = s.guard;
          moves = subst (λ (z : ℤ). Moves o.node.op z (r n.op n.imm) o.number) (sym a)
              (subst (λ (z : ℤ). Moves o.node.op o.node.imm z o.number) (sym b) w);
        };
        is = ap new o.is ∙ ap (λ (z : ℤ). with_offset n o.node.left z) i;
      }

  -- so each rule still applies
  how_kept : (nodes : List FlowNode) (j : ℕ) (n m : FlowNode) → How nodes j n m
      → How (map new nodes) j (new n) (new m)
  how_kept nodes j n m (by_constant c) = by_constant (small_kept nodes n m c)
  how_kept nodes j n m (by_mirror c) = by_mirror (mirroring_kept r own n m c)
  how_kept nodes j n m (by_left c) = by_left (record {
    sources = c.sources;
    copy = copy_kept nodes j n.guard n.left c.sources c.copy;
    is = ap new c.is;
  })
  how_kept nodes j n m (by_right c) = by_right (record {
    sources = c.sources;
    copy = copy_kept nodes j n.guard n.right c.sources c.copy;
    is = ap new c.is;
  })
  how_kept nodes j n m (by_left_behind c) = by_left_behind (left_behind_kept r nodes j n m c)
  how_kept nodes j n m (by_right_behind c) = by_right_behind (right_behind_kept r nodes j n m c)
  how_kept nodes j n m (by_guard c) = by_guard (guard_kept nodes j n m c)
  how_kept nodes j n m (by_offset c) =
      by_offset (record { address = c.address; sum = sum_kept nodes j n m c.sum })
  how_kept nodes j n m (by_sum c) = by_sum (adding_kept r own nodes j n m c)
  how_kept nodes j n m (by_test c) = by_test (telling_kept r own nodes j n m c)
  how_kept nodes j n m (by_opposite c) = by_opposite (opposing_kept r own nodes j n m c)
  how_kept nodes j n m (by_value c) = by_value (computing_kept r own nodes n m c)
  how_kept nodes j n m (by_end c) = by_end (ending_kept r own nodes j n m c)
  how_kept nodes j n m (by_wait c) = by_wait (waiting_kept r nodes j n m c)

-- a node with an address, where there is one that the rule makes
address_found : (nodes : List FlowNode) (j : ℕ) (n m : FlowNode) (b : Bool) → has_address (form_of n.op) ≡ b
    → cond b (summed nodes j n n.left) None ≡ Some m → Addressed nodes j n m
address_found nodes j n m true a e = record { address = a; sum = summed_is nodes j n m n.left refl e }
address_found nodes j n m false a e = absurd (cc)

turned : (nodes : List FlowNode) (j : ℕ) (n m : FlowNode) → Turns nodes j n m → How nodes j n m
turned nodes j n m (immediate i o s p e) =
    by_constant (record { number = i; op = o; small = small_is nodes n.right i s; form = p; is = e })
turned nodes j n m (mirror o p e) = by_mirror (record { op = o; mirror = mirror_is n.op o p; is = e })
turned nodes j n m (left_copy ss s e) =
    by_left (record { sources = ss; copy = copied_is nodes j n.guard n.left ss s; is = e })
turned nodes j n m (right_copy ss s e) =
    by_right (record { sources = ss; copy = copied_is nodes j n.guard n.right ss s; is = e })
turned nodes j n m (left_behind marks e) = by_left_behind (record { marks = marks; is = e })
turned nodes j n m (right_behind marks e) = by_right_behind (record { marks = marks; is = e })
turned nodes j n m (guard_copy g s e) = by_guard (guarding nodes j n m g e s)
turned nodes j n m (sum e) = by_sum (adding nodes j n m n.left refl e)
turned nodes j n m (told t e) = by_test (telling nodes j n m t e)
turned nodes j n m (opposite e) = by_opposite (opposing nodes j n m e)
turned nodes j n m (compute e) = by_value (computing nodes n m e)
turned nodes j n m (negative t e) = by_end (ending nodes j n m t e)
turned nodes j n m (freed t e) = by_wait (waiting nodes j n m t e)
turned nodes j n m (offset e) = by_offset (address_found nodes j n m (has_address (form_of n.op)) refl e)

module _ (f : FlowBlock) (j : ℕ) (n m : FlowNode) (there : slice_get f.nodes j ≡ Some n) (c : How f.nodes j n m)
  where
    abbrev g : FlowBlock
    g = with_node f j m

    plain : Stands f j n m
    plain = how_stands f j n m there c

    module _ (r : Immediates) (own : LeavesOwn r) where
      abbrev ff : FlowBlock
      ff = with_immediates r f

      there_too : slice_get ff.nodes j ≡ Some (with_immediate r n)
      there_too = slice_get-map (with_immediate r) f.nodes j ∙ ap (option_map (with_immediate r)) there

      resolved : Stands ff j (with_immediate r n) (with_immediate r m)
      resolved = how_stands ff j (with_immediate r n) (with_immediate r m) there_too
          (how_kept r own f.nodes j n m c)

      same : with_node ff j (with_immediate r m) ≡ with_immediates r g
      same = ap (λ (ns : List FlowNode). record f { nodes = ns }) (sym (map-set (with_immediate r) f.nodes j m))

    stands_for : Replaces f g
    stands_for = record {
      regular = λ r own t. regular_kept f j n m there plain.written t.regular;
      complete = λ r own t.
          let s = resolved r own in
          subst (λ (b : FlowBlock). IsComplete b) (same r own)
          (complete_kept (ff r own) j (with_immediate r n) (with_immediate r m) (there_too r own) s.written s.works
          t.complete);
      means = λ r own t at b x.
          let s = resolved r own in
          subst (λ (z : FlowBlock). MeansNarrowed at b z) (same r own)
          (means_kept (ff r own) j (with_immediate r n) (with_immediate r m) (there_too r own) s.written s.works at b
          x);
      labels = λ y x e t. labels_kept f j n m there plain.written y x e t;
    }

-- a block with a folded node may stand for the block
pub folding_stands : (f g : FlowBlock) → Folds f g → Replaces f g
folding_stands f g s = subst (λ (z : FlowBlock). Replaces f z) (sym s.becomes)
    (stands_for f s.place s.old s.new s.there (turned f.nodes s.place s.old s.new s.turns))
