-- Each node of operands and tests names earlier nodes that give tokens to others, and its fields fit.
use Rattle.std.proofs.Common.{◌≡◌, ◌≢◌, ℕ, zero, suc, ◌+◌, ◌/◌, ◌<◌, ◌≤◌, List, [], ◌∷◌, ◌++◌, length, length-append}
use Rattle.std.proofs.Common.{refl, subst, arith, cond, nat_eq, nat_lt, Bool, true, false, ◌%◌}
use Rattle.std.specs.Prelude.{Option, Some, None}
use Rattle.std.proofs.lemmas.Bool.Decides.{nat_tests}
use Rattle.trips_isa.specs.declared.op.Op.{Op}
use Rattle.trips_isa.specs.declared.op.Op.TheVariants as op
use Rattle.trips_isa.specs.declared.form.Form.TheVariants as form
use Rattle.trips_isa.specs.Forms.{form_of, role_of, takes_right, takes_left}
use Rattle.ir_forms.specs.declared.hyper.Source.{Source}
use Rattle.ir_forms.specs.declared.hyper.Source.TheVariants.{Const, Reg}
use Rattle.ir_forms.specs.declared.flow.FlowSource.{FlowSource}
use Rattle.ir_forms.specs.declared.flow.FlowSource.TheVariants.{Read, Node}
use Rattle.ir_forms.specs.declared.flow.FlowNode.{FlowNode}
use Rattle.predication.specs.inside.Environments.{Scope, Entry, Env, Bits, put, under, sense_on, no_bits, left_bits}
use Rattle.predication.specs.inside.Environments.{note}
use Rattle.predication.specs.inside.Operands.{constant_of, mov_of, Chain, longer, chain, Got, movs, froms, read_of}
use Rattle.predication.specs.inside.Operands.{operand, second, bit_of, is_test, is_move, bit_at, bit_set, fresh_test}
use Rattle.predication.specs.inside.Operands.{test_by, tested, test_of}
use Rattle.ir_forms.specs.inside.HyperFits.{FitsSource}
use Rattle.trips_isa.specs.declared.block.Sense.TheVariants.{Always}
use Rattle.ir_forms.specs.inside.FlowFits.{FitsNodeForm}
use Rattle.ir_forms.specs.inside.FlowRegular.{is_silent}
use Rattle.predication.proofs.Operands.{below}
use Rattle.predication.proofs.BitLemmas.{bit_left}

module _ (T : ℕ → Type 0) where
  -- a register, or an earlier node that gives tokens to others
  abbrev pub GoodSource : ℕ → FlowSource → Type 0
  GoodSource j (Read r) = r < 128
  GoodSource j (Node i) = (i < j) × T i

  -- each of some sources is good for a node at this number
  abbrev pub EachGood : ℕ → List FlowSource → Type 0
  EachGood j [] = Unit {0}
  EachGood j (s ∷ ss) = GoodSource j s × EachGood j ss

  -- a guard names an earlier node whose token may be taken, and has a sense
  abbrev pub GoodGuard : ℕ → Scope → Type 0
  GoodGuard j None = Unit {0}
  GoodGuard j (Some g) = (g.node < j) × (T g.node × (g.sense ≢ Always))

  -- each of some guards is good at this number
  abbrev pub GoodGuards : ℕ → List Scope → Type 0
  GoodGuards j [] = Unit {0}
  GoodGuards j (g ∷ gs) = GoodGuard j g × GoodGuards j gs

  -- a node is well at its number: its fields, its operands and its guard are as a block wants them
  pub record Well (j : ℕ) (n : FlowNode) : Type 0 where
    pub form : FitsNodeForm (form_of n.op) n
    pub taken_left : takes_left (role_of n.op) ≡ false → n.left ≡ []
    pub taken_right : takes_right (role_of n.op) ≡ false → n.right ≡ []
    pub left : EachGood j n.left
    pub right : EachGood j n.right
    pub guard : GoodGuard j n.guard

  -- each of some nodes is well at its number
  abbrev pub Static : ℕ → List FlowNode → Type 0
  Static j [] = Unit {0}
  Static j (n ∷ ns) = Well j n × Static (suc j) ns

  -- what may be taken from gives tokens to others
  abbrev pub Heard : ℕ → List FlowNode → Type 0
  Heard j [] = Unit {0}
  Heard j (n ∷ ns) = (is_silent (form_of n.op) ≡ false → T j) × Heard (suc j) ns

  -- what stands for a register is good at this number: its sources and its guards
  abbrev pub GoodEntry : ℕ → Entry → Type 0
  GoodEntry j e = EachGood j e.given × GoodGuards j e.kept

  -- what each register stands for is good at this number
  abbrev pub GoodEnv : ℕ → Env → Type 0
  GoodEnv j env = (q : ℕ) → GoodEntry j (env q)

  -- each bit's node comes before this number and gives tokens to others
  abbrev pub GoodBits : ℕ → Bits → Type 0
  GoodBits j bits = (r k : ℕ) → bits r ≡ Some k → (k < j) × T k

  source_later : (j k : ℕ) (s : FlowSource) → j ≤ k → GoodSource j s → GoodSource k s
  source_later j k (Read r) l g = g
  source_later j k (Node i) l g = (omega (arith, g.0, l), g.1)

  -- sources that are good at a number are good at a later one
  pub each_later : (j k : ℕ) (ss : List FlowSource) → j ≤ k → EachGood j ss → EachGood k ss
  each_later j k [] l g = tt
  each_later j k (s ∷ ss) l g = (source_later j k s l g.0, each_later j k ss l g.1)

  -- a guard that is good at a number is good at a later one
  pub guard_later : (j k : ℕ) (g : Scope) → j ≤ k → GoodGuard j g → GoodGuard k g
  guard_later j k None l x = tt
  guard_later j k (Some g) l x = (omega (arith, x.0, l), x.1)

  guards_later : (j k : ℕ) (gs : List Scope) → j ≤ k → GoodGuards j gs → GoodGuards k gs
  guards_later j k [] l x = tt
  guards_later j k (g ∷ gs) l x = (guard_later j k g l x.0, guards_later j k gs l x.1)

  -- what is good at a number for a register is good at a later one
  pub entry_later : (j k : ℕ) (e : Entry) → j ≤ k → GoodEntry j e → GoodEntry k e
  entry_later j k e l x = (each_later j k e.given l x.0, guards_later j k e.kept l x.1)

  -- entries that are good at a number are good at a later one
  pub env_later : (j k : ℕ) (env : Env) → j ≤ k → GoodEnv j env → GoodEnv k env
  env_later j k env l x q = entry_later j k (env q) l (x q)

  -- good sources behind good ones are good
  pub each_good_append : (j : ℕ) (a b : List FlowSource) → EachGood j a → EachGood j b → EachGood j (a ++ b)
  each_good_append j [] b x y = y
  each_good_append j (s ∷ a) b x y = (x.0, each_good_append j a b x.1 y)

  -- good guards behind good ones are good
  pub guards_append : (j : ℕ) (a b : List Scope) → GoodGuards j a → GoodGuards j b → GoodGuards j (a ++ b)
  guards_append j [] b x y = y
  guards_append j (s ∷ a) b x y = (x.0, guards_append j a b x.1 y)

  -- nodes that are well behind such nodes are well
  pub static_append : (j : ℕ) (a b : List FlowNode) → Static j a → Static (j + length a) b → Static j (a ++ b)
  static_append j [] b x y = let e : j + 0 ≡ j = omega arith in subst (λ (i : ℕ). Static i b) e y
  static_append j (n ∷ a) b x y =
      let e : j + length (n ∷ a) ≡ suc j + length a = omega arith in
      (x.0, static_append (suc j) a b x.1 (subst (λ (i : ℕ). Static i b) e y))

  -- where what may be taken from nodes gives tokens, so does what may be from the first ones
  pub heard_front : (j : ℕ) (a b : List FlowNode) → Heard j (a ++ b) → Heard j a
  heard_front j [] b x = tt
  heard_front j (n ∷ a) b x = (x.0, heard_front (suc j) a b x.1)

  -- where what may be taken from nodes gives tokens, so does what may be from the later ones
  pub heard_back : (j : ℕ) (a b : List FlowNode) → Heard j (a ++ b) → Heard (j + length a) b
  heard_back j [] b x = let e : j ≡ j + 0 = omega arith in subst (λ (i : ℕ). Heard i b) e x
  heard_back j (n ∷ a) b x = let e : suc j + length a ≡ j + length (n ∷ a) =
      omega arith in subst (λ (i : ℕ). Heard i b) e (heard_back (suc j) a b x.1)

  sense_some : (s : Bool) → sense_on s ≢ Always
  sense_some true = λ e. absurd (cc)
  sense_some false = λ e. absurd (cc)

  -- an earlier node whose token may be taken is a good guard
  pub good_under : (j k : ℕ) (s : Bool) → k < j → T k → GoodGuard j (under k s)
  good_under j k s l t = (l, (t, sense_some s))

  -- entries stay good where a register gets a good one
  pub put_good : (j : ℕ) (env : Env) (r : ℕ) (e : Entry) → GoodEnv j env → GoodEntry j e → GoodEnv j (put env r e)
  put_good j env r e g x q = go (nat_eq q r)
    where
      go : (b : Bool) → GoodEntry j (cond b e (env q))
      go true = x
      go false = g q

  -- bits stay good where a register gets a good one
  pub note_good : (j : ℕ) (bits : Bits) (r : ℕ) (c : Option ℕ) → GoodBits j bits
      → ((k : ℕ) → c ≡ Some k → (k < j) × T k) → GoodBits j (note bits r c)
  note_good j bits r c g x q k e = go (nat_eq q r) e
    where
      go : (b : Bool) → cond b c (bits q) ≡ Some k → (k < j) × T k
      go true z = x k z
      go false z = g q k z

  -- a table without bits is good
  pub no_bits_good : (j : ℕ) → GoodBits j no_bits
  no_bits_good j r k e = absurd (cc)

  -- bits that are good at a number are good at a later one
  pub bits_later : (j k : ℕ) (bits : Bits) → j ≤ k → GoodBits j bits → GoodBits k bits
  bits_later j k bits l g r i e = let x = g r i e in (omega (arith, x.0, l), x.1)

  bit_good : (b : Bool) (j k i : ℕ) → k < j → T k → bit_of b k ≡ Some i → (i < j) × T i
  bit_good true j k i l t e = let same : k ≡ i = cc in (omega (arith, l, same), subst T same t)
  bit_good false j k i l t e = absurd (cc)

  copied_good : (j : ℕ) (bits : Bits) (a : Source) (i : ℕ) → GoodBits j bits → bit_at bits a ≡ Some i → (i < j) × T i
  copied_good j bits (Const w) i g e = absurd (cc e)
  copied_good j bits (Reg r) i g e = g r i e

  -- the bit that an operation sets is a good one
  pub set_good : (o : Op) (bits : Bits) (a : Source) (j k i : ℕ) → k < j → T k → GoodBits j bits
      → bit_set o bits a k ≡ Some i → (i < j) × T i
  set_good o bits a j k i l t g e = go (is_move o) e
    where
      go : (b : Bool) → cond b (bit_at bits a) (bit_of (is_test o) k) ≡ Some i → (i < j) × T i
      go true z = copied_good j bits a i g z
      go false z = bit_good (is_test o) j k i l t z

  -- bits stay good where some registers lose theirs
  pub left_good : (j : ℕ) (bits : Bits) (rs : List ℕ) → GoodBits j bits → GoodBits j (left_bits bits rs)
  left_good j bits rs g q k e = g q k (bit_left rs bits q k e).1

  -- PIECES

  pub record Piece (j : ℕ) (ns : List FlowNode) (ss : List FlowSource) : Type 0 where
    pub nodes : Static j ns
    pub sources : (k : ℕ) → j + length ns ≤ k → EachGood k ss

  -- a mov under a good guard of good sources is well
  pub mov_well : (j : ℕ) (g : Scope) (ss : List FlowSource) → GoodGuard j g → EachGood j ss → Well j (mov_of g ss)
  mov_well j g ss x y = record {
    form = (refl, refl);
    taken_left = λ e. absurd
        (cc);
    taken_right = λ e. refl;
    left = y;
    right = tt;
    guard = x;
  }

  test_well : (j : ℕ) (g : Scope) (ss : List FlowSource) → GoodGuard j g → EachGood j ss → Well j (test_of g ss)
  test_well j g ss x y = record {
    form = (omega arith, refl);
    taken_left = λ e. absurd
        (cc);
    taken_right = λ e. refl;
    left = y;
    right = tt;
    guard = x;
  }

  -- a node of a constant of 16 bits is well
  pub genu_well : (j w : ℕ) → w < 65536 → Well j (constant_of op.Genu w [])
  genu_well j w l = record {
    form = (l, refl, refl);
    taken_left = λ e. refl;
    taken_right = λ e. refl;
    left = tt;
    right = tt;
    guard = tt;
  }

  -- a node that appends 16 bits to a good operand is well
  pub app_well : (j w : ℕ) (ss : List FlowSource) → w < 65536 → EachGood j ss → Well j (constant_of op.App w ss)
  app_well j w ss l y = record {
    form = (l, refl, refl);
    taken_left = λ e. absurd
        (cc);
    taken_right = λ e. refl;
    left = y;
    right = tt;
    guard = tt;
  }

  -- the movs of a register under good guards are well
  pub movs_static : (j r : ℕ) (gs : List Scope) → r < 128 → GoodGuards j gs → Static j (movs r gs)
  movs_static j r [] l x = tt
  movs_static j r (g ∷ gs) l x = (
    mov_well j g (Read r ∷ []) x.0 (l, tt),
    movs_static (suc j) r gs l (guards_later j (suc j) gs (omega arith) x.1),
  )

  -- the movs of a register, from node j on, are good sources behind them
  pub froms_good : (j r k : ℕ) (gs : List Scope) → Heard j (movs r gs) → j + length (movs r gs) ≤ k
      → EachGood k (froms j gs)
  froms_good j r k [] hd l = tt
  froms_good j r k (g ∷ gs) hd l = ((omega (arith, l), hd.0 refl), froms_good (suc j) r k gs hd.1 (omega (arith, l)))

  read_static : (j r : ℕ) (ss : List FlowSource) (kept : List Scope) → r < 128 → EachGood j ss → GoodGuards j kept
      → Heard j (read_of j r ss kept).nodes
      → Piece j (read_of j r ss kept).nodes (read_of j r ss kept).sources
  read_static j r [] kept l x y hd = record { nodes = tt; sources = λ k z. (l, tt) }
  read_static j r (s ∷ ss) kept l x y hd = record {
    nodes = movs_static j r kept l y;
    sources = λ k z. each_good_append k (s ∷ ss) (froms j kept) (each_later j k (s ∷ ss) (omega (arith, z)) x)
        (froms_good j r k kept hd z);
  }

  pub record Chained (j : ℕ) (c : Chain) : Type 0 where
    pub nodes : Static j c.nodes
    pub last : c.last < j + length c.nodes
    pub talks : T c.last

  longer_static : (b : Bool) (d j w : ℕ) → nat_lt w 65536 ≡ b → w < below (suc d)
      → (w / 65536 < below d → Heard j (chain d j (w / 65536)).nodes → Chained j (chain d j (w / 65536)))
      → Heard j (longer b j w (chain d j (w / 65536))).nodes → Chained j (longer b j w (chain d j (w / 65536)))
  longer_static true d j w e l ih hd = record {
    nodes =
        (genu_well j w (grind (arith, nat_tests)), tt);
    last = omega arith;
    talks = hd.0 refl;
  }
  longer_static false d j w e l ih hd =
      let c = chain d j (w / 65536) in
      let n = constant_of op.App (w % 65536) (Node c.last ∷ []) in
      let x = ih (omega (arith, l)) (heard_front j c.nodes (n ∷ []) hd) in
      record {
        nodes = static_append j c.nodes (n ∷ []) x.nodes
            (app_well (j + length c.nodes) (w % 65536) (Node c.last ∷ []) (omega arith) ((x.last, x.talks), tt), tt);
        last = omega (arith, length-append c.nodes (n ∷ []));
        talks = (heard_back j c.nodes (n ∷ []) hd).0 refl;
      }

  chain_static : (d j w : ℕ) → w < below d → Heard j (chain d j w).nodes → Chained j (chain d j w)
  chain_static zero j w l hd = record { nodes = (genu_well j w l, tt); last = omega arith; talks = hd.0 refl }
  chain_static (suc d) j w l hd = longer_static (nat_lt w 65536) d j w refl l
      (λ l2 h2. chain_static d j (w / 65536) l2 h2) hd

  -- the nodes of an operand are well, and its sources are good behind them
  pub operand_static : (j : ℕ) (env : Env) (a : Source) → FitsSource a → GoodEnv j env
      → Heard j (operand j env a).nodes → Piece j (operand j env a).nodes (operand j env a).sources
  operand_static j env (Const w) t g hd =
      let c = chain_static 3 j w t hd in
      record { nodes = c.nodes; sources = λ k z. ((omega (arith, c.last, z), c.talks), tt) }
  operand_static j env (Reg r) t g hd = read_static j r (env r).given (env r).kept t (g r).0 (g r).1 hd

  -- the nodes of a second operand are well, and its sources are good behind them
  pub second_static : (b : Bool) (j : ℕ) (env : Env) (a : Source) → FitsSource a → GoodEnv j env
      → Heard j (second b j env a).nodes → Piece j (second b j env a).nodes (second b j env a).sources
  second_static true j env a t g hd = operand_static j env a t g hd
  second_static false j env a t g hd = record { nodes = tt; sources = λ k z. tt }

  fresh_static : (g : Scope) (j : ℕ) (x : Got) → GoodGuard j g → (Heard j x.nodes → Piece j x.nodes x.sources)
      → Heard j (fresh_test g j x).nodes → Chained j (fresh_test g j x)
  fresh_static g j x gg p hd =
      let n = test_of g x.sources in
      let q = p (heard_front j x.nodes (n ∷ []) hd) in
      record {
        nodes = static_append j x.nodes (n ∷ []) q.nodes (
          test_well (j + length x.nodes) g x.sources (guard_later j (j + length x.nodes) g (omega arith) gg)
              (q.sources (j + length x.nodes) (omega arith)),
          tt,
        );
        last = omega (arith, length-append x.nodes (n ∷ []));
        talks = (heard_back j x.nodes (n ∷ []) hd).0 refl;
      }

  test_static : (g : Scope) (j : ℕ) (env : Env) (r : ℕ) (b : Option ℕ) → r < 128 → GoodGuard j g → GoodEnv j env
      → ((k : ℕ) → b ≡ Some k → (k < j) × T k)
      → Heard j (test_by g j env r b).nodes → Chained j (test_by g j env r b)
  test_static g j env r None t gg ge gb hd = fresh_static g j (operand j env (Reg r)) gg
      (operand_static j env (Reg r) t ge) hd
  test_static g j env r (Some k) t gg ge gb hd = let x =
      gb k refl in record { nodes = tt; last = omega (arith, x.0); talks = x.1 }

  -- the nodes of a test are well, and the last of them may be a guard
  pub tested_static : (g : Scope) (j : ℕ) (env : Env) (bits : Bits) (t : Source) → FitsSource t → GoodGuard j g
      → GoodEnv j env → GoodBits j bits
      → Heard j (tested g j env bits t).nodes → Chained j (tested g j env bits t)
  tested_static g j env bits (Const w) t gg ge gb hd =
      fresh_static g j (operand j env (Const w)) gg (operand_static j env (Const w) t ge) hd
  tested_static g j env bits (Reg r) t gg ge gb hd = test_static g j env r (bits r) t gg ge (gb r) hd
