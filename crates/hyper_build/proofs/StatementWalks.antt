-- Each single statement of straight code as items does what it means.
use Rattle.std.proofs.Common.{◌≡◌, ℕ, zero, suc, ◌+◌, ◌-◌, ◌%◌, ◌^◌, ◌<◌, ◌≤◌, Bool, true}
use Rattle.std.proofs.Common.{Option, Some, None, refl, sym, ap, ◌∙◌}
use Rattle.std.proofs.Common.{subst, arith, min}
use Rattle.trips_isa.specs.declared.op.Op.{Op}
use Rattle.trips_isa.specs.declared.op.Op.TheVariants.{Sub}
use Rattle.trips_isa.specs.Alu.{alu_of}
use Rattle.trips_isa.specs.Forms.{size_of}
use Rattle.trips_isa.specs.Stores.{is_good_address}
use Rattle.ir_forms.specs.declared.flat.Arg.{Arg}
use Rattle.ir_forms.specs.declared.hyper.Source.TheVariants.{Const, Reg}
use Rattle.trips_isa.specs.inside.Acts.{divisions, is_clean}
use Rattle.ir_forms.specs.inside.Frames.{register_of, frame_limit}
use Rattle.ir_forms.specs.inside.Cells.{apply, load, save}
use Rattle.ir_forms.specs.inside.FlatSteps.{State, Res, Gone, Broke, Again, Gave, Halts, Unfinished, Wild}
use Rattle.ir_forms.specs.inside.FlatSteps.{Calls, read, turn, must, settle, with_var, with_memory}
use Rattle.ir_forms.specs.inside.FlatSteps.{act}
use Rattle.ir_forms.specs.inside.HyperCode.{Items, Set, Load, Save}
use Rattle.ir_forms.specs.inside.HyperRuns.{Machine, with_register, value_of, loaded, saved}
use Rattle.ir_forms.specs.inside.HyperRuns as machine
use Rattle.hyper_build.specs.inside.Tree.{LetAt, FrameAt, LoadAt, SaveAt}
use Rattle.hyper_build.specs.inside.Tree.{Routine}
use Rattle.hyper_build.specs.inside.Tree.{plain_in}
use Rattle.hyper_build.specs.inside.Parts.{source, capped}
use Rattle.hyper_build.specs.inside.Straight.{Place, items_in}
use Rattle.hyper_build.specs.inside.World.{World, Rel, Kept, IsFrame, slots, checks_of, env_in}
use Rattle.hyper_build.specs.inside.Fits.{IsBuilt, FitsStmt, IsPlace}
use Rattle.hyper_build.specs.inside.Premises.{AluGivesWords}
use Rattle.hyper_build.proofs.Memories.{load_is, save_is}
use Rattle.hyper_build.proofs.Relates.{kept_same}
use Rattle.hyper_build.proofs.Simple.{variable_small, apply_is, any_operand, rel_var}
use Rattle.hyper_build.proofs.ItemsPass.{Passes, passes_set, passes_load, passes_save}

module _ (W : World) (built : IsBuilt W) (words : AluGivesWords) (call : Calls) (start : ℕ) (g : Routine)
    (fr : IsFrame W start g) where
  -- WHAT STRAIGHT CODE DOES

  -- items lead to the machine that stands to the state behind the code
  pub record Steps (its : Items → Items) (s : State) (m : Machine) (n : ℕ) (s1 : State) (n1 : ℕ)
      : Type 0
    where
      pub after : Machine
      pub passes : Passes W its m after
      pub rel : Rel W start g s1 after
      pub kept : Kept (W.base + start + 8) s m s1 after
      pub fewer : n1 ≤ n
      pub output : s1.output ≡ s.output
      pub rounds : s1.rounds ≡ s.rounds

  -- items do what an evaluation comes to, where it is not cut short
  abbrev pub Walks : (Items → Items) → State → Machine → ℕ → Res → Type 0
  Walks its s m n (Gone s1 n1) = Steps its s m n s1 n1
  Walks its s m n (Unfinished out r) = (out ≡ s.output) × (r ≡ s.rounds)
  Walks its s m n Wild = Unit {0}
  Walks its s m n (Broke s1 n1) = ⊥
  Walks its s m n (Again s1 n1) = ⊥
  Walks its s m n (Gave w s1 n1) = ⊥
  Walks its s m n (Halts how) = ⊥

  -- a turn
  pub turn_walks : (its : Items → Items) (s : State) (m : Machine) (n : ℕ) (go : ℕ → Res)
      → ((i : ℕ) → i < n → Walks its s m i (go i)) → Walks its s m n (turn s n go)
  turn_walks its s m zero go h = (refl, refl)
  turn_walks its s m (suc i) go h = more i (suc i) (omega arith) (go i) (h i (omega arith))
    where
      more : (i n : ℕ) → i ≤ n → (r : Res) → Walks its s m i r → Walks its s m n r
      more i n le (Gone s1 n1) x = record {
        after = x.after;
        passes = x.passes;
        rel = x.rel;
        kept = x.kept;
        fewer = omega (arith, x.fewer);
        output = x.output;
        rounds = x.rounds;
      }
      more i n le (Unfinished out r) x = x
      more i n le Wild x = tt
      more i n le (Broke s1 n1) x = x
      more i n le (Again s1 n1) x = x
      more i n le (Gave w s1 n1) x = x
      more i n le (Halts how) x = x

  -- an evaluation that goes on only with a value needs items only there
  pub must_walks : {A : Type 0} (its : Items → Items) (s : State) (m : Machine) (n : ℕ) (o : Option A)
      (go : A → Res) → ((v : A) → o ≡ Some v → Walks its s m n (go v)) → Walks its s m n (must o go)
  must_walks its s m n None go h = tt
  must_walks its s m n (Some v) go h = h v refl

  -- items that do steps do what an evaluation that settles there comes to
  pub settle_walks : (its : Items → Items) (s : State) (m : Machine) (n : ℕ) (s1 : State)
      → Steps its s m n s1 n → Walks its s m n (settle s1 n)
  settle_walks its s m zero s1 x = (x.output, x.rounds)
  settle_walks its s m (suc n) s1 x = x

  -- SINGLE STATEMENTS

  -- the items of an operation do what it means
  pub let_walks : (inside : Bool) (p : Place) (c : Bool) (to : ℕ) (op : Op) (a b : Arg)
      → FitsStmt W g inside (LetAt c to op a b) → (s : State) (m : Machine) (n : ℕ)
      → Rel W start g s m → Walks (items_in p (LetAt c to op a b)) s m n
      (act (checks_of W) call (env_in W start g) (plain_in (LetAt c to op a b)) s n)
  let_walks inside p c to op a b fits s m n rel =
      let its : Items → Items = λ k. Set (register_of to) op (source a) (source b) k in
      turn_walks its s m n _ (λ i lt.
      must_walks its s m i (read (checks_of W) s a) _ (λ u eu.
      must_walks its s m i (read (checks_of W) s b) _ (λ v ev.
      must_walks its s m i (apply (checks_of W) op u v) _ (λ w ew.
      let h = apply_is (checks_of W) op u v w ew in
      let ou = any_operand W built words call start g fr s m rel a u fits.2 fits.4 eu in
      let ov = any_operand W built words call start g fr s m rel b v fits.3 fits.5 ev in
      let q : alu_of op (value_of m.registers (source a)) (value_of m.registers (source b)) ≡ w =
      ap (λ z. alu_of op z (value_of m.registers (source b))) ou.0 ∙ ap (λ z. alu_of op u z) ov.0 ∙ sym h.0 in
      let m1 = with_register m (register_of to)
      (alu_of op (value_of m.registers (source a)) (value_of m.registers (source b))) in
      settle_walks its s m i (with_var s to w) (record {
        after = m1;
        passes = passes_set W (register_of to) op (source a) (source b) m
            (λ t. subst (λ z. is_clean (divisions op z) ≡ true) (sym ov.0) (h.1 t));
        rel = rel_var W built words call start g fr s m to w _ (variable_small g.scalars to fr.scalars fits.1) q
            (subst (λ z. z < 2 ^ 64) (sym h.0) (words op u v fits.0 ou.1 ov.1)) rel;
        kept = kept_same (W.base + start + 8) s (with_var s to w) m m1 refl refl;
        fewer = omega arith;
        output = refl;
        rounds = refl;
      })))))

  -- the items of a frame's address do what it means
  pub frame_walks : (inside : Bool) (p : Place) (c : Bool) (to at : ℕ)
      → FitsStmt W g inside (FrameAt c to at) → IsPlace W g p → (s : State) (m : Machine) (n : ℕ)
      → Rel W start g s m → Walks (items_in p (FrameAt c to at)) s m n
      (act (checks_of W) call (env_in W start g) (plain_in (FrameAt c to at)) s n)
  frame_walks inside p c to at fits is s m n rel =
      let its : Items → Items = λ k. Set (register_of to) Sub (Reg 1) (Const (capped (p.arrays - at))) k in
      let w = W.base + start + slots g + at in
      let m1 = with_register m (register_of to) (alu_of Sub (m.registers 1) (capped (p.arrays - at))) in
      turn_walks its s m n _ (λ i lt.
      settle_walks its s m i (with_var s to w) (record {
        after = m1;
        passes = passes_set W (register_of to) Sub (Reg 1) (Const (capped (p.arrays - at))) m (λ t. refl);
        rel = rel_var W built words call start g fr s m to w _
            (variable_small g.scalars to fr.scalars fits.0) here (omega (arith, fr.room, built.room, fits.1)) rel;
        kept = kept_same (W.base + start + 8) s (with_var s to w) m m1 refl refl;
        fewer = omega arith;
        output = refl;
        rounds = refl;
      }))
    where
      here : alu_of Sub (m.registers 1) (capped (p.arrays - at)) ≡ W.base + start + slots g + at
      here =
          let ar = is.arrays in
          let le = fits.1 in
          let z : min (p.arrays - at) (frame_limit + 8) ≡ g.arrays - at = omega (arith, fr.room) in
          let y : (m.registers 1 + (2 ^ 64 - (g.arrays - at))) % 2 ^ 64 ≡ W.base + start + slots g + at =
          omega (arith, rel.stack.top, fr.room, built.room) in
          ap (λ x. (m.registers 1 + (2 ^ 64 - x)) % 2 ^ 64) z ∙ y

  -- the items of a load do what it means
  pub load_walks : (inside : Bool) (p : Place) (c : Bool) (to : ℕ) (op : Op) (a : Arg)
      → FitsStmt W g inside (LoadAt c to op a) → (s : State) (m : Machine) (n : ℕ)
      → Rel W start g s m → Walks (items_in p (LoadAt c to op a)) s m n
      (act (checks_of W) call (env_in W start g) (plain_in (LoadAt c to op a)) s n)
  load_walks inside p c to op x fits s m n rel =
      let its : Items → Items = λ k. Load (register_of to) op (source x) k in
      turn_walks its s m n _ (λ i lt.
      must_walks its s m i (read (checks_of W) s x) _ (λ u eu.
      must_walks its s m i (load (checks_of W) op s.memory u) _ (λ w ew.
      let o = any_operand W built words call start g fr s m rel x u fits.2 fits.3 eu in
      let h = load_is W.check op s.memory m.memory u w fits.0 rel.stack.held rel.stack.bytes ew in
      let m1 = with_register m (register_of to) (loaded op m.memory (value_of m.registers (source x))) in
      settle_walks its s m i (with_var s to w) (record {
        after = m1;
        passes = passes_load W (register_of to) op (source x) m
            (λ t. subst (λ z. is_good_address z (size_of op) ≡ true) (sym o.0) (h.good t));
        rel = rel_var W built words call start g fr s m to w _ (variable_small g.scalars to fr.scalars fits.1)
            (ap (loaded op m.memory) o.0 ∙ h.same) h.word rel;
        kept = kept_same (W.base + start + 8) s (with_var s to w) m m1 refl refl;
        fewer = omega arith;
        output = refl;
        rounds = refl;
      }))))

  -- the items of a store do what it means
  pub save_walks : (inside : Bool) (p : Place) (c : Bool) (op : Op) (a v : Arg)
      → FitsStmt W g inside (SaveAt c op a v) → (s : State) (m : Machine) (n : ℕ)
      → Rel W start g s m → Walks (items_in p (SaveAt c op a v)) s m n
      (act (checks_of W) call (env_in W start g) (plain_in (SaveAt c op a v)) s n)
  save_walks inside p c op x y fits s m n rel =
      let its : Items → Items = λ k. Save op (source x) (source y) k in
      turn_walks its s m n _ (λ i lt.
      must_walks its s m i (read (checks_of W) s x) _ (λ u eu.
      must_walks its s m i (read (checks_of W) s y) _ (λ v ev.
      must_walks its s m i (save (checks_of W) op s.memory u v) _ (λ mem em.
      let ou = any_operand W built words call start g fr s m rel x u fits.1 fits.3 eu in
      let ov = any_operand W built words call start g fr s m rel y v fits.2 fits.4 ev in
      let h = save_is W.check op s.memory m.memory u v mem rel.stack.sized rel.stack.held rel.stack.bytes em in
      let m1 = machine.with_memory m (saved op m.memory u v) in
      let same = ap (λ z. machine.with_memory m (saved op m.memory z (value_of m.registers (source y)))) ou.0
      ∙ ap (λ z. machine.with_memory m (saved op m.memory u z)) ov.0 in
      settle_walks its s m i (with_memory s mem) (record {
        after = m1;
        passes = subst (Passes W its m) same
            (passes_save W op (source x) (source y) m
            (λ t. subst (λ z. is_good_address z (size_of op) ≡ true) (sym ou.0) (h.good t)));
        rel = record {
          vars = rel.vars;
          stack = record {
            top = rel.stack.top;
            sized = h.sized ∙ rel.stack.sized;
            held = h.same;
            bytes = h.bytes;
            input = rel.stack.input;
            read = rel.stack.read;
            output = rel.stack.output;
            above =
                λ a le lt. h.shut a (rel.stack.above a le lt);
          };
          slots = λ a le lt. h.shut a (rel.slots a le lt);
        };
        kept = record { shut = λ a lt q. h.shut a q; same = λ a lt q. h.alone a q };
        fewer = omega arith;
        output = refl;
        rounds = refl;
      })))))
