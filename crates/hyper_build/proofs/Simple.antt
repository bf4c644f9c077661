-- Statements that are items, moves of the output and input, and exits.
use Rattle.std.proofs.Common.{◌≡◌, ℕ, zero, suc, ◌+◌, ◌-◌, ◌%◌, ◌^◌, ◌<◌, ◌≤◌, Bool, true, false, cond, not}
use Rattle.std.proofs.Common.{◌&&◌, List, [], ◌∷◌, ◌++◌, Option, Some, None, refl, sym, ap, ◌∙◌, subst, arith}
use Rattle.std.proofs.Common.{inl, inr, min, nat_lt, nat_le, ltb-true}
use Rattle.std.specs.Prelude.{nat_eq}
use Rattle.std.proofs.lemmas.Bool.{cases_eq}
use Rattle.trips_isa.specs.declared.op.Op.{Op}
use Rattle.trips_isa.specs.declared.op.Op.TheVariants.{Mov, Sub}
use Rattle.trips_isa.specs.Alu.{alu_of}
use Rattle.ir_forms.specs.declared.flat.Arg.{Arg}
use Rattle.ir_forms.specs.declared.flat.Arg.TheVariants as arg
use Rattle.ir_forms.specs.declared.hyper.Source.TheVariants.{Const, Reg}
use Rattle.ir_forms.specs.declared.hyper.Exit.TheVariants as exit
use Rattle.trips_isa.specs.inside.Acts.{Divided, divisions, is_clean}
use Rattle.trips_isa.specs.Faults.{divides}
use Rattle.ir_forms.specs.inside.Frames.{register_of, frame_limit}
use Rattle.ir_forms.specs.inside.Cells.{Checks, breach, apply, load, save}
use Rattle.ir_forms.specs.inside.FlatFits.{is_lasting, is_variable, FitsArg}
use Rattle.ir_forms.specs.inside.FlatSteps.{State, Res, Calls, read, if_set, turn, settle, with_var, with_memory}
use Rattle.ir_forms.specs.inside.FlatSteps.{with_output, with_next}
use Rattle.ir_forms.specs.inside.HyperCode.{Block, Done, Set, Leave}
use Rattle.ir_forms.specs.inside.HyperRuns.{Machine, Ended, with_register, value_of, loaded, saved, run, block_or, jump}
use Rattle.ir_forms.specs.inside.HyperRuns as machine
use Rattle.hyper_build.specs.inside.Tree.{Routine, LetAt, FrameAt, LoadAt, SaveAt, PutAt, GetAt, BreakAt}
use Rattle.hyper_build.specs.inside.Tree.{ContinueAt, ReturnAt, HaltAt}
use Rattle.hyper_build.specs.inside.Parts.{source, capped, set_then, save_then, cut, cut_blocks, cut_size}
use Rattle.hyper_build.specs.inside.Straight.{Place}
use Rattle.hyper_build.specs.inside.Entries.{end_label, give}
use Rattle.hyper_build.specs.inside.Routines.{system_block}
use Rattle.hyper_build.specs.inside.World.{World, Has, Goes, Rel, Kept, AreBytes, IsFrame, frame, slots, checks_of}
use Rattle.hyper_build.specs.inside.Follow.{Way, Next, Breaks, Continues, Returns, IsGiven, Relation, Came, Follows}
use Rattle.hyper_build.specs.inside.Follow.{ways_of}
use Rattle.hyper_build.specs.inside.Fits.{IsBuilt, IsWordArg}
use Rattle.hyper_build.specs.inside.Premises.{StmtDoes, AluGivesWords}
use Rattle.hyper_build.proofs.Goes.{goes_here, goes_then, goes_block, goes_set, goes_set_any, goes_load_any}
use Rattle.hyper_build.proofs.Goes.{goes_save_any, goes_cut, goes_jump}
use Rattle.hyper_build.proofs.Memories.{load_is, save_is}
use Rattle.trips_isa.specs.Forms.{size_of}
use Rattle.trips_isa.specs.Stores.{is_good_address}
use Rattle.hyper_build.proofs.Following.{kept_here, follows_more, settled, stands_here, must_follow}
use Rattle.hyper_build.proofs.Registers.{same_at, other_at, register_least, register_apart, or_cases, lasting_cases}
use Rattle.hyper_build.proofs.Relates.{stack_alike, kept_same, rel_register}
use Rattle.hyper_build.proofs.Moving.{cut_most}

some_is : (x y : ℕ) → Some x ≡ Some y → x ≡ y
some_is x y e = cc

-- the price of a statement pays for two blocks
pub turn_follow : (W : World) (lo : ℕ) (R : Relation) (b : Block) (s : State) (m : Machine) (n : ℕ)
    (ways : Way → Block) (go : ℕ → Res)
    → m.output ≡ s.output → ((i : ℕ) → Follows W lo R b s m i 2 ways (go i))
    → Follows W lo R b s m n 0 ways (turn s n go)
turn_follow W lo R b s m zero ways go out f = stands_here W b s m 0 0 out
turn_follow W lo R b s m (suc i) ways go out f =
    follows_more W lo R b s m (suc i) i 2 0 ways (go i) (omega arith) (f i)

-- a variable of a routine has a number below 88
pub variable_small : (n v : ℕ) → n ≤ 64 → is_variable n v ≡ true → v < 88
variable_small n v le e = elim (or_cases (is_lasting n v) (nat_le 80 v && nat_lt v 88) e) [
  | inl a ↦ elim (lasting_cases n v a) [ inl b ↦ omega arith | inr b ↦ (let c = b.1 in omega arith) ]
  | inr a ↦ ltb-true v 88 (last (nat_le 80 v) (nat_lt v 88) a)
]
  where
    last : (a b : Bool) → a && b ≡ true → b ≡ true
    last true b e = e
    last false b e = let bad : false ≡ true = e in cc

-- what an operation gives
pub apply_is : (c : Checks) (op : Op) (a b w : ℕ) → apply c op a b ≡ Some w
    → (w ≡ alu_of op a b) × (c.clean ≡ true → is_clean (divisions op b) ≡ true)
unfolding apply
apply_is c op a b w e = go (divides op) (nat_eq b 0) c.clean refl e
  where
    go : (d z k : Bool) → nat_eq b 0 ≡ z → cond (d && z) (breach k (alu_of op a b)) (Some (alu_of op a b))
        ≡ Some w → (w ≡ alu_of op a b) × (k ≡ true → is_clean (cond d (Divided b ∷ []) []) ≡ true)
    go true true true q e = (let bad : None ≡ Some w = e in cc)
    go true true false q e = (some_is w _ (sym e), λ t. let bad : false ≡ true = t in cc)
    go true false k q e = (some_is w _ (sym e), λ t. ap (λ z. not z && true) q)
    go false z k q e = (some_is w _ (sym e), λ t. refl)

module _ (W : World) (built : IsBuilt W) (words : AluGivesWords) (call : Calls) (start : ℕ) (g : Routine)
    (fr : IsFrame W start g) where
  -- an operand that is read has its word in the machine too
  pub any_operand : (s : State) (m : Machine) → Rel W start g s m → (x : Arg) (u : ℕ) → FitsArg g.scalars x
      → IsWordArg x → read (checks_of W) s x ≡ Some u → (value_of m.registers (source x) ≡ u) × (u < 2 ^ 64)
  any_operand s m rel (arg.Const w) u fits word e = let q = some_is w u e in (q, subst (λ z. z < 2 ^ 64) q word)
  any_operand s m rel (arg.Var v) u fits word e =
      rel.vars v u (variable_small g.scalars v fr.scalars fits) (set (s.vars v) e)
    where
      set : (o : Option ℕ) → if_set true o ≡ Some u → o ≡ Some u
      set None e = e
      set (Some x) e = e

  -- the relation stands with a variable and its register set to one word
  pub rel_var : (s : State) (m : Machine) (to u x : ℕ) → to < 88 → x ≡ u → u < 2 ^ 64 → Rel W start g s m
      → Rel W start g (with_var s to u) (with_register m (register_of to) x)
  rel_var s m to u x lt is word rel = record {
    vars = go;
    stack = stack_alike W (start + frame g) s (with_var s to u) m (with_register m (register_of to) x) refl refl refl
        (other_at 1 (register_of to) x (m.registers 1) (λ e. omega (arith, register_least to))) refl refl refl
        rel.stack;
    slots = rel.slots;
  }
    where
      go : (v y : ℕ) → v < 88 → cond (nat_eq v to) (Some u) (s.vars v) ≡ Some y
          → (cond (nat_eq (register_of v) (register_of to)) x (m.registers (register_of v)) ≡ y) × (y < 2 ^ 64)
      go v y small e = elim (cases_eq v to) [
        | inl here ↦ (let q = some_is u y (sym (same_at v to (Some u) (s.vars v) here) ∙ e) in (
          same_at (register_of v) (register_of to) x _ (ap register_of here) ∙ is ∙ q,
          subst (λ z. z < 2 ^ 64) q word,
        ))
        | inr not_ ↦ (let h = rel.vars v y small (sym (other_at v to (Some u) (s.vars v) not_) ∙ e) in
            (other_at (register_of v) (register_of to) x _ (register_apart v to small lt not_) ∙ h.0, h.1))
      ]

  -- the end of a statement whose turn allows two blocks
  came : (b : Block) (s : State) (m : Machine) (n j : ℕ) (b1 : Block) (way : Way) (s1 : State) (m1 : Machine)
      → j ≤ 2 → Goes W b m j b1 m1 → Rel W start g s1 m1
      → Kept (W.base + start + 8) s m s1 m1 → IsGiven way m1 → s1.rounds ≡ s.rounds
      → Came W (W.base + start + 8) (Rel W start g) b s m n 2 b1 way s1 n
  came b s m n j b1 way s1 m1 le go rel kept given same =
      record {
        j = j;
        after = m1;
        goes = go;
        rel = rel;
        kept = kept;
        given = given;
        few = omega arith;
        rounds = omega arith;
      }

  out : (t : State) (m1 : Machine) → Rel W start g t m1 → m1.output ≡ t.output
  out t m1 h = h.stack.output

  -- an item that sets a variable, and perhaps a cut
  sets : (p : Place) (b : Block) (s : State) (m : Machine) (i to u x l : ℕ) (c : Bool) (k : Block) → to < 88
      → x ≡ u → u < 2 ^ 64 → Rel W start g s m → Has W.program l (cut_blocks c k)
      → Goes W b m 0 (cut c l k) (with_register m (register_of to) x)
      → Follows W (W.base + start + 8) (Rel W start g) b s m i 2 (ways_of p k) (settle (with_var s to u) i)
  sets p b s m i to u x l c k lt is word rel has go =
      let m1 = with_register m (register_of to) x in
      settled W (W.base + start + 8) (Rel W start g) b s m i 2 (ways_of p k) _ i out
      (came b s m i (0 + cut_size c) k Next (with_var s to u) m1 (omega (arith, cut_most c))
      (goes_then W b (cut c l k) k m m1 m1 0 (cut_size c) go (goes_cut W c l k m1 has))
      (rel_var s m to u x lt is word rel) (kept_same (W.base + start + 8) s (with_var s to u) m m1 refl refl) tt refl)

  -- an operation does what it means
  pub let_does : (c : Bool) (to : ℕ) (op : Op) (a b : Arg) → StmtDoes W call start g (LetAt c to op a b)
  let_does c to op a b inside p fits is l k has s m n rel =
      let lo = W.base + start + 8 in
      let R = Rel W start g in
      turn_follow W lo R _ s m n (ways_of p k) _ rel.stack.output (λ i.
      must_follow W lo R _ s m i 2 (ways_of p k) (read (checks_of W) s a) _ (λ u eu.
      must_follow W lo R _ s m i 2 (ways_of p k) (read (checks_of W) s b) _ (λ v ev.
      must_follow W lo R _ s m i 2 (ways_of p k) (apply (checks_of W) op u v) _ (λ w ew.
      let h = apply_is (checks_of W) op u v w ew in
      let ou = any_operand s m rel a u fits.2 fits.4 eu in
      let ov = any_operand s m rel b v fits.3 fits.5 ev in
      let q : alu_of op (value_of m.registers (source a)) (value_of m.registers (source b)) ≡ w =
      ap (λ z. alu_of op z (value_of m.registers (source b))) ou.0 ∙ ap (λ z. alu_of op u z) ov.0 ∙ sym h.0 in
      sets p _ s m i to w _ l c k (variable_small g.scalars to fr.scalars fits.1) q
      (subst (λ z. z < 2 ^ 64) (sym h.0) (words op u v fits.0 ou.1 ov.1)) rel has
      (goes_set_any W (register_of to) op (source a) (source b) (cut c l k) m
      (λ t. subst (λ z. is_clean (divisions op z) ≡ true) (sym ov.0) (h.1 t)))))))

  -- taking an array's address does what it means
  pub frame_does : (c : Bool) (to at : ℕ) → StmtDoes W call start g (FrameAt c to at)
  frame_does c to at inside p fits is l k has s m n rel =
      turn_follow W (W.base + start + 8) (Rel W start g) _ s m n (ways_of p k) _ rel.stack.output (λ i.
      sets p _ s m i to (W.base + start + slots g + at) _ l c k
      (variable_small g.scalars to fr.scalars fits.0) here
      (omega (arith, fr.room, built.room, fits.1)) rel has
      (goes_set W (register_of to) Sub (Reg 1) (Const (capped (p.arrays - at))) (cut c l k) m refl))
    where
      here : alu_of Sub (m.registers 1) (capped (p.arrays - at)) ≡ W.base + start + slots g + at
      here =
          let ar = is.arrays in
          let le = fits.1 in
          let z : min (p.arrays - at) (frame_limit + 8) ≡ g.arrays - at = omega (arith, fr.room) in
          let y : (m.registers 1 + (2 ^ 64 - (g.arrays - at))) % 2 ^ 64 ≡ W.base + start + slots g + at =
          omega (arith, rel.stack.top, fr.room, built.room) in
          ap (λ x. (m.registers 1 + (2 ^ 64 - x)) % 2 ^ 64) z ∙ y

  -- a break does what it means
  pub break_does : (c : Bool) → StmtDoes W call start g (BreakAt c)
  break_does c inside p fits is l k has s m n rel =
      turn_follow W (W.base + start + 8) (Rel W start g) _ s m n (ways_of p k) _ rel.stack.output
      (λ i. came _ s m i 0 _ Breaks s m (omega arith) (goes_here W _ m) rel (kept_here _ s m) tt refl)

  -- a continue does what it means
  pub continue_does : (c : Bool) → StmtDoes W call start g (ContinueAt c)
  continue_does c inside p fits is l k has s m n rel =
      turn_follow W (W.base + start + 8) (Rel W start g) _ s m n (ways_of p k) _ rel.stack.output
      (λ i. came _ s m i 0 _ Continues s m (omega arith) (goes_here W _ m) rel (kept_here _ s m) tt refl)

  -- a return does what it means
  pub return_does : (c : Bool) (a : Option Arg) → StmtDoes W call start g (ReturnAt c a)
  return_does c None inside p fits is l k has s m n rel =
      turn_follow W (W.base + start + 8) (Rel W start g) _ s m n (ways_of p k) _ rel.stack.output
      (λ i. came _ s m i 0 _ (Returns None) s m (omega arith) (goes_here W p.gave m) rel
      (kept_here _ s m) tt refl)
  return_does c (Some x) inside p fits is l k has s m n rel =
      turn_follow W (W.base + start + 8) (Rel W start g) _ s m n (ways_of p k) _ rel.stack.output (λ i.
      must_follow W (W.base + start + 8) (Rel W start g) _ s m i 2 (ways_of p k) (read (checks_of W) s x) _ (λ w e.
      let m1 = with_register m 3 (value_of m.registers (source x)) in
      came _ s m i 0 _ (Returns (Some w)) s m1 (omega arith) (goes_set W 3 Mov (source x) (Const 0) p.gave m refl)
      (rel_register W start g s m 3 _ (omega arith) (λ q. omega arith) rel) (kept_same _ s s m m1 refl refl)
      (any_operand s m rel x w fits.0 fits.1 e) refl))

  -- the end of the whole run does what it means: the program's end comes a block later
  pub halt_does : (c : Bool) (a : Arg) → StmtDoes W call start g (HaltAt c a)
  halt_does c x inside p fits is l k has s m n rel =
      turn_follow W (W.base + start + 8) (Rel W start g) _ s m n (ways_of p k) _ rel.stack.output (λ i.
      must_follow W (W.base + start + 8) (Rel W start g) _ s m i 2 (ways_of p k) (read (checks_of W) s x) _ (λ w e.
      record {
        j = 2;
        stops = λ d. let z : 2 + d ≡ 0 + 1 + suc d = omega arith in
            ap (λ j. run W.check W.at W.program j (give (Some x) (jump end_label)) m) z
            ∙ goes.by (suc d) ∙ ends W.check d
            ∙ ap (λ o. Ended o (value_of m.registers (source x))) rel.stack.output
            ∙ ap (λ v. Ended s.output v) (any_operand s m rel x w fits.0 fits.1 e).0;
        few = omega arith;
      }))
    where
      goes : Goes W (give (Some x) (jump end_label)) m (0 + 1) (system_block 3 end_label)
          (with_register m 3 (value_of m.registers (source x)))
      goes =
          let m2 = with_register m 3 (value_of m.registers (source x)) in
          goes_then W (give (Some x) (jump end_label)) (jump end_label) (system_block 3 end_label) m m2 m2 0 1
          (goes_set W 3 Mov (source x) (Const 0) (jump end_label) m refl)
          (goes_jump W end_label (system_block 3 end_label) m2 built.ends)

      ends : (c : Bool) (d : ℕ) → run c W.at W.program (suc d) (system_block 3 end_label)
          (with_register m 3 (value_of m.registers (source x)))
          ≡ Ended m.output (value_of m.registers (source x))
      ends true d = refl
      ends false d = refl

  -- putting a byte out does what it means
  pub put_does : (a : Arg) → StmtDoes W call start g (PutAt a)
  put_does x inside p fits is l k has s m n rel =
      turn_follow W (W.base + start + 8) (Rel W start g) _ s m n (ways_of p k) _ rel.stack.output (λ i.
      must_follow W (W.base + start + 8) (Rel W start g) _ s m i 2 (ways_of p k) (read (checks_of W) s x) _ (λ w e.
      settled W (W.base + start + 8) (Rel W start g) _ s m i 2 (ways_of p k) _ i out
      (came _ s m i 1 k Next (with_output s (w % 256)) m3 (omega arith)
      (goes_block W _ k m m3 refl (λ j. ap (λ o. run W.check W.at W.program j (block_or o) m3) has.0))
      (related w (any_operand s m1 rel1 x w fits.0 fits.1 e).0)
      (kept_same (W.base + start + 8) s (with_output s (w % 256)) m m3 refl refl) tt refl)))
    where
      m1 : Machine
      m1 = with_register m 0 1

      rel1 : Rel W start g s (with_register m 0 1)
      rel1 = rel_register W start g s m 0 1 (omega arith) (λ q. omega arith) rel

      m2 : Machine
      m2 = with_register (with_register m 0 1) 3 (value_of (with_register m 0 1).registers (source x))

      m3 : Machine
      m3 = record (with_register (with_register m 0 1) 3 (value_of (with_register m 0 1).registers (source x)))
          { output = m.output ++ (value_of (with_register m 0 1).registers (source x) % 256) ∷ [] }

      related : (w : ℕ) → value_of (with_register m 0 1).registers (source x) ≡ w
          → Rel W start g (with_output s (w % 256))
          (record (with_register (with_register m 0 1) 3 (value_of (with_register m 0 1).registers (source x)))
          { output = m.output ++ (value_of (with_register m 0 1).registers (source x) % 256) ∷ [] })
      related w e =
          let r = rel_register W start g s (with_register m 0 1) 3
          (value_of (with_register m 0 1).registers (source x)) (omega arith) (λ q. omega arith) rel1 in
          let k = r.stack in
          record {
            vars = r.vars;
            stack = record {
              top = k.top;
              sized = k.sized;
              held = k.held;
              bytes = k.bytes;
              input = k.input;
              read = k.read;
              output = ap (λ o. o ++
                  (value_of (with_register m 0 1).registers (source x) % 256) ∷ []) k.output
                  ∙ ap (λ z. s.output ++ (z % 256) ∷ []) e;
              above = k.above;
            };
            slots = r.slots;
          }

  -- getting a byte does what it means
  pub get_does : (c : Bool) (to : ℕ) → StmtDoes W call start g (GetAt c to)
  get_does c to inside p fits is l k has s m n rel =
      turn_follow W (W.base + start + 8) (Rel W start g) _ s m n (ways_of p k) _ rel.stack.output
      (λ i. next i s.input rel.stack.input refl)
    where
      m1 : Machine
      m1 = with_register m 0 2

      rel1 : Rel W start g s (with_register m 0 2)
      rel1 = rel_register W start g s m 0 2 (omega arith) (λ q. omega arith) rel

      b : Block
      b = record { items = Set 0 Mov (Const 2) (Const 0) Done; tail = Leave (exit.System l) }

      k1 : Block
      k1 = set_then (register_of to) Mov (Reg 3) (Const 0) (cut c (l + 1) k)

      small : to < 88
      small = variable_small g.scalars to fr.scalars fits

      goes_next : (input : List ℕ) → m.input ≡ input → Goes W b m 1 k1 (machine.with_next (with_register m 0 2) input)
      goes_next input e = subst (λ z. Goes W b m 1 k1 (machine.with_next (with_register m 0 2) z)) e
          (goes_block W b k1 m (machine.with_next (with_register m 0 2) m.input) refl
          (λ j. ap (λ z. run W.check W.at W.program j (block_or z)
          (machine.with_next (with_register m 0 2) m.input)) has.0))

      goes_all : (input : List ℕ) → m.input ≡ input → (m2 : Machine)
          → machine.with_next (with_register m 0 2) input ≡ m2
          → Goes W b m (1 + (0 + cut_size c)) k (with_register m2 (register_of to) (m2.registers 3))
      goes_all input e m2 q =
          let m3 = with_register m2 (register_of to) (m2.registers 3) in
          goes_then W b k1 k m m2 m3 1 (0 + cut_size c) (subst (λ z. Goes W b m 1 k1 z) q (goes_next input e))
          (goes_then W k1 (cut c (l + 1) k) k m2 m3 m3 0 (cut_size c)
          (goes_set W (register_of to) Mov (Reg 3) (Const 0) (cut c (l + 1) k) m2 refl)
          (goes_cut W c (l + 1) k m3 has.1))

      next : (i : ℕ) (input : List ℕ) → m.input ≡ input → s.input ≡ input
          → Follows W (W.base + start + 8) (Rel W start g)
          (record { items = Set 0 Mov (Const 2) (Const 0) Done; tail = Leave (exit.System l) }) s m i 2
          (ways_of p k) (settle (with_next s to input) i)
      next i [] em es =
          let m2 = with_register (with_register m 0 2) 3 (2 ^ 64 - 1) in
          let m3 = with_register m2 (register_of to) (m2.registers 3) in
          settled W (W.base + start + 8) (Rel W start g) b s m i 2 (ways_of p k) _ i out
          (came b s m i (1 + (0 + cut_size c)) k Next (with_var s to (2 ^ 64 - 1)) m3
          (omega (arith, cut_most c)) (goes_all [] em m2 refl)
          (rel_var s m2 to (2 ^ 64 - 1) (m2.registers 3) small
          (same_at 3 3 (2 ^ 64 - 1) ((with_register m 0 2).registers 3) refl) (omega arith)
          (rel_register W start g s (with_register m 0 2) 3 (2 ^ 64 - 1) (omega arith)
          (λ q. omega arith) rel1))
          (kept_same (W.base + start + 8) s (with_var s to (2 ^ 64 - 1)) m m3 refl refl) tt refl)
      next i (x ∷ rest) em es =
          let m2 = with_register (with_register m 0 2) 3 x in
          let m2i = record m2 { input = rest } in
          let m3 = with_register m2i (register_of to) (m2i.registers 3) in
          let bytes : AreBytes (x ∷ rest) = subst AreBytes es rel.stack.read in
          let lt = bytes.0 in
          let r = rel_var s m2 to x (m2.registers 3) small
          (same_at 3 3 x ((with_register m 0 2).registers 3) refl) (omega arith)
          (rel_register W start g s (with_register m 0 2) 3 x (omega arith) (λ q. omega arith) rel1) in
          let t = r.stack in
          settled W (W.base + start + 8) (Rel W start g) b s m i 2 (ways_of p k) _ i out
          (came b s m i (1 + (0 + cut_size c)) k Next (record (with_var s to x) { input = rest }) m3
          (omega (arith, cut_most c)) (goes_all (x ∷ rest) em m2i refl)
          (record {
            vars = r.vars;
            stack = record {
              top = t.top;
              sized = t.sized;
              held = t.held;
              bytes = t.bytes;
              input = refl;
              read = bytes.1;
              output = t.output;
              above = t.above;
            };
            slots = r.slots;
          })
          (kept_same (W.base + start + 8) s (record (with_var s to x) { input = rest }) m m3 refl refl) tt refl)

  -- a load does what it means
  pub load_does : (c : Bool) (to : ℕ) (op : Op) (a : Arg) → StmtDoes W call start g (LoadAt c to op a)
  load_does c to op x inside p fits is l k has s m n rel =
      let lo = W.base + start + 8 in
      let R = Rel W start g in
      turn_follow W lo R _ s m n (ways_of p k) _ rel.stack.output (λ i.
      must_follow W lo R _ s m i 2 (ways_of p k) (read (checks_of W) s x) _ (λ u eu.
      must_follow W lo R _ s m i 2 (ways_of p k) (load (checks_of W) op s.memory u) _ (λ w ew.
      let o = any_operand s m rel x u fits.2 fits.3 eu in
      let h = load_is W.check op s.memory m.memory u w fits.0 rel.stack.held rel.stack.bytes ew in
      sets p _ s m i to w _ l c k (variable_small g.scalars to fr.scalars fits.1)
      (ap (loaded op m.memory) o.0 ∙ h.same) h.word rel has
      (goes_load_any W (register_of to) op (source x) (cut c l k) m
      (λ t. subst (λ z. is_good_address z (size_of op) ≡ true) (sym o.0) (h.good t))))))

  -- a store does what it means
  pub save_does : (c : Bool) (op : Op) (a v : Arg) → StmtDoes W call start g (SaveAt c op a v)
  save_does c op x y inside p fits is l k has s m n rel =
      let lo = W.base + start + 8 in
      let R = Rel W start g in
      turn_follow W lo R _ s m n (ways_of p k) _ rel.stack.output (λ i.
      must_follow W lo R _ s m i 2 (ways_of p k) (read (checks_of W) s x) _ (λ u eu.
      must_follow W lo R _ s m i 2 (ways_of p k) (read (checks_of W) s y) _ (λ v ev.
      must_follow W lo R _ s m i 2 (ways_of p k) (save (checks_of W) op s.memory u v) _ (λ mem em.
      let ou = any_operand s m rel x u fits.1 fits.3 eu in
      let ov = any_operand s m rel y v fits.2 fits.4 ev in
      let h = save_is W.check op s.memory m.memory u v mem rel.stack.sized rel.stack.held rel.stack.bytes em in
      let m1 = machine.with_memory m (saved op m.memory u v) in
      let same = ap (λ z. machine.with_memory m (saved op m.memory z (value_of m.registers (source y)))) ou.0
      ∙ ap (λ z. machine.with_memory m (saved op m.memory u z)) ov.0 in
      settled W lo R (save_then op (source x) (source y) (cut c l k)) s m i 2 (ways_of p k) (with_memory s mem) i out
      (came (save_then op (source x) (source y) (cut c l k)) s m i (0 + cut_size c) k Next
      (with_memory s mem) m1 (omega (arith, cut_most c))
      (goes_then W (save_then op (source x) (source y) (cut c l k)) (cut c l k) k m m1 m1 0 (cut_size c)
      (subst (λ z. Goes W (save_then op (source x) (source y) (cut c l k)) m 0 (cut c l k) z) same
      (goes_save_any W op (source x) (source y) (cut c l k) m
      (λ t. subst (λ z. is_good_address z (size_of op) ≡ true) (sym ou.0) (h.good t))))
      (goes_cut W c l k m1 has))
      (record {
        vars = rel.vars;
        stack = record {
          top = rel.stack.top;
          sized = h.sized ∙ rel.stack.sized;
          held = h.same;
          bytes = h.bytes;
          input = rel.stack.input;
          read = rel.stack.read;
          output = rel.stack.output;
          above =
              λ a le lt. h.shut a (rel.stack.above a le lt);
        };
        slots = λ a le lt. h.shut a (rel.slots a le lt);
      })
      (record { shut = λ a lt q. h.shut a q; same = λ a lt q. h.alone a q }) tt refl)))))
