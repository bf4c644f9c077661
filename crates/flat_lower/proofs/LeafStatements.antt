-- Statements without a part that is a statement follow the evaluation.
use Rattle.std.proofs.Common.{◌≡◌, ◌≢◌, ℕ, zero, suc, ◌+◌, ◌-◌, ◌*◌, ◌<◌, ◌≤◌, List, [], ◌∷◌}
use Rattle.std.proofs.Common.{length, replicate, Option, Some, None, refl, sym, ap, ◌∙◌, subst}
use Rattle.std.proofs.Common.{arith}
use Rattle.std.specs.Prelude.{slice_get, slice_set}
use Rattle.c_tree.specs.declared.Kind.{Kind}
use Rattle.c_tree.specs.declared.Place.{Place}
use Rattle.c_tree.specs.declared.Place.TheVariants.{Global, Scalar, Array}
use Rattle.c_tree.specs.declared.Slot.TheVariants as slot
use Rattle.c_tree.specs.declared.TypedExpr.{TypedExpr}
use Rattle.c_tree.specs.declared.TypedProgram.{TypedProgram}
use Rattle.c_meaning_spec.specs.declared.signal.Signal.{Signal}
use Rattle.c_meaning_spec.specs.declared.signal.Signal.TheVariants.{Nothing, Value, Breaks, Continues}
use Rattle.c_meaning_spec.specs.declared.signal.Signal.TheVariants.{Returns}
use Rattle.c_meaning_spec.specs.declared.signal.Ending.TheVariants.{Undefined}
use Rattle.c_meaning_spec.specs.declared.signal.Object.TheVariants.{InScalar}
use Rattle.c_meaning_spec.specs.State.{Result, Go, Over, want, cell, written, store, store_in}
use Rattle.c_meaning_spec.specs.inside.State.{then}
use Rattle.c_meaning_spec.specs.State as eval
use Rattle.c_meaning_spec.specs.Task.{Of}
use Rattle.c_meaning_spec.specs.Statement.{dropped, initialised, unset, unset_row, declare, returning}
use Rattle.c_meaning_spec.specs.Eval.{meaning}
use Rattle.trips_isa.specs.declared.op.Op.TheVariants as op
use Rattle.ir_forms.specs.declared.flat.Arg.{Arg}
use Rattle.ir_forms.specs.declared.flat.Arg.TheVariants.{Const, Var}
use Rattle.ir_forms.specs.inside.FlatCode.{Code, Nop, Then, only}
use Rattle.ir_forms.specs.inside.FlatCode as flat
use Rattle.ir_forms.specs.inside.Cells.{Memory, apply}
use Rattle.ir_forms.specs.inside.FlatSteps.{State, Broke, read}
use Rattle.ir_forms.specs.inside.FlatRuns.{checked}
use Rattle.ir_forms.proofs.Steps.{then_nop, nop_leads, both_lead}
use Rattle.ir_forms.proofs.Statements.{break_leads, continue_leads, return_leads, return_none_leads}
use Rattle.ir_forms.proofs.Leads.{Leads}
use Rattle.flat_lower.specs.inside.Tree as tree
use Rattle.flat_lower.specs.inside.TreeViews.{expr_of, expr_if}
use Rattle.c_constant.specs.Kinds.{IsWord}
use Rattle.flat_lower.specs.inside.Operations.{temp, set_word, copied}
use Rattle.flat_lower.specs.inside.Statements.{expr_if_code, declare_code, return_code}
use Rattle.flat_lower.specs.inside.Fits.{Scope, FitsExpr, FitsExprIf, FitsDeclare, FitsReturn}
use Rattle.flat_lower.specs.inside.FitsSwitches.{IsLooped}
use Rattle.flat_lower.specs.inside.Labels.{found_code}
use Rattle.flat_lower.specs.inside.Switches.{break_code, continue_code}
use Rattle.flat_lower.specs.declared.around.Around.{Around}
use Rattle.flat_lower.specs.declared.around.Around.TheVariants as around
use Rattle.flat_lower.specs.inside.Sizes.{nodes, nodes_if}
use Rattle.flat_lower.proofs.Straight.{puts_let, var_read}
use Rattle.flat_lower.proofs.Objects.{Object, Stored, AllStored}
use Rattle.flat_lower.proofs.TreeFacts.{kind_is}
use Rattle.flat_lower.proofs.Follows.{FollowsIn, wanted_in}
use Rattle.flat_lower.proofs.Related.{Scene, IsScene, scope, context, Related, scalar_unset, sets_unseen}
use Rattle.flat_lower.proofs.Values.{Valued, value_at, kept_at, functions, base, FollowsOf, run}
use Rattle.flat_lower.proofs.Values.{code, operand_in}
use Rattle.flat_lower.proofs.Stores.{scalar_sets}
use Rattle.flat_lower.proofs.Entered.{none_of, replicate_length}
use Rattle.flat_lower.proofs.Returns.{ReturnIs, EndedIn, LeftBy}

-- an array that is unset keeps its bytes
unset_stored : (o : Object) (row : List (Option ℕ)) (m : Memory) → Stored o row m
    → Stored o (replicate (length row) None) m
unset_stored o row m h = record {
  long = replicate_length {A = Option ℕ} (length row) None ∙ h.long;
  holds = λ i w e. absurd (none_of (length row) i w e);
  opens = h.opens;
}

all_unset : (os : List Object) (rows : List (List (Option ℕ))) (m : Memory) (k : ℕ)
    (row : List (Option ℕ)) → slice_get rows k ≡ Some row → AllStored os rows m
    → AllStored os (slice_set rows k (replicate (length row) None)) m
all_unset [] rows m k row e a = go rows a e
  where
    go : (rows : List (List (Option ℕ))) → AllStored [] rows m → slice_get rows k ≡ Some row
        → AllStored [] (slice_set rows k (replicate (length row) None)) m
    go [] a e = absurd (cc e)
    go (r ∷ rs) a e = absurd a
all_unset (o ∷ os) [] m k row e a = absurd a
all_unset (o ∷ os) (r ∷ rs) m zero row e a =
    let same : r ≡ row = cc e in
    (unset_stored o row m (subst (λ r. Stored o r m) same a.0), a.1)
all_unset (o ∷ os) (r ∷ rs) m (suc k) row e a = (a.0, all_unset os rs m k row e a.1)

-- a run that breaks with a word in temporary 0
pub record Leaves (P : TypedProgram) (most : ℕ) (S : Scene) (y : IsScene P S) (a : Code) (f : State)
    (w : ℕ) (s : eval.State) : Type 0 where
  pub t : ℕ
  pub to : State
  pub few : t ≤ 2
  pub rel : Related S s to
  pub is : to.vars (temp 0) ≡ Some w
  pub rounds : to.rounds ≡ f.rounds
  pub leads : Leads (run P most S y a f) t (Broke to)

-- RETURNS

none_returned : (c : Scope) (q : Option Kind) → FitsReturn c q None → ReturnIs q None
none_returned c None h = tt
none_returned c (Some k) h = absurd h

returned_fits : (c : Scope) (q : Option Kind) (e : tree.Expr) → FitsReturn c q (Some e)
    → FitsExpr c 0 e
returned_fits c None e h = absurd h
returned_fits c (Some k) e h = h.0

returned_word : (c : Scope) (q : Option Kind) (e : TypedExpr) (j : Kind) (w : ℕ)
    → FitsReturn c q (Some (expr_of e)) → e.kind ≡ Some j → IsWord j w → ReturnIs q (Some w)
returned_word c None e j w h ej f = absurd h
returned_word c (Some k) e j w h ej f =
    let same : j ≡ k = cc (sym ej ∙ sym (kind_is e) ∙ h.1) in
    subst (λ k. IsWord k w) same f

module _ (P : TypedProgram) (most : ℕ) (S : Scene) (y : IsScene P S) (x : Around) where
  -- what the run of a statement's code does where its evaluation has this result
  abbrev pub EndsHere : Code → State → ℕ → ℕ → Result → Type 0
  EndsHere a f top low r = FollowsIn x most (EndedIn x S) (run P most S y a f) top low r

  -- nothing is left to do
  pub nothing_left : (s : eval.State) (f : State) (top low : ℕ) → Related S s f → 8 * s.stock ≤ top
      → low ≤ s.stock + most * f.rounds → EndsHere Nop f top low (Go Nothing s)
  nothing_left s f top low r hu hl = record {
    t = 0;
    to = f;
    upper = omega (arith, hu);
    lower = hl;
    holds = r;
    leads = nop_leads checked (functions P most) (base P most) S.env f;
  }

  -- an expression without its value
  pub dropped_ends : (e : TypedExpr) (s : eval.State) (f : State) (top low : ℕ)
      → FollowsOf P most e s → FitsExpr (scope P S) 0 (expr_of e) → Related S s f
      → 8 * s.stock ≤ top + 3 → low ≤ s.stock + most * f.rounds - nodes (expr_of e)
      → EndsHere (code P most S y 0 e) f top low (then (meaning P (Of e) s) dropped)
  dropped_ends e s f top low h t r hu hl =
      subst (λ a. EndsHere a f top low (then (meaning P (Of e) s) dropped))
      (then_nop (code P most S y 0 e))
      (operand_in P most S y x (EndedIn x S) e 0 Nop s f top low dropped h t r (omega arith) hl
      (λ v s1 g t1 hv ls us ds. nothing_left s1 g (top - t1) low
      (kept_at S 0 e.kind f v s1 g hv).rel (omega arith) (omega arith)))

  -- DECLARATIONS

  -- one statement sets a scalar to an operand's value
  pub set_end : (i w : ℕ) (A : Arg) (k : Kind) (top low : ℕ) (s : eval.State) (g : State)
      → slice_get S.func.scalars i ≡ Some (slot.Scalar k) → IsWord k w → read checked g A ≡ Some w
      → Related S s g → 1 + 8 * s.stock ≤ top → low ≤ s.stock + most * g.rounds
      → (c : Option (Option ℕ)) → cell s (InScalar i) ≡ c
      → EndsHere (only (flat.Let i op.Mov A (Const 0))) g top low
      (then (store_in c s (InScalar i) w) dropped)
  unfolding apply
  set_end i w A k top low s g e fits h r hu hl None ec = tt
  set_end i w A k top low s g e fits h r hu hl (Some c) ec =
      let p = puts_let (functions P most) (base P most) S.env op.Mov A (Const 0) g 1 i 80 w 0 w
      (omega arith) h refl refl in
      record {
        t = p.t;
        to = p.to;
        upper = omega (arith, p.few);
        lower = subst (λ r. low ≤ s.stock + most * r) (sym p.sets.rounds) hl;
        holds = scalar_sets P most S y s g p.to i 80 w k c e ec fits (omega arith) p.sets r;
        leads = p.leads;
      }

  -- the code of a declaration follows the evaluation, where its first value does
  pub declare_ends : (p : Place) (e : Option TypedExpr) (top low : ℕ) (s : eval.State) (f : State)
      → ((e : TypedExpr) (s1 : eval.State) → s1.stock ≤ s.stock → FollowsOf P most e s1)
      → FitsDeclare (scope P S) p (expr_if e) → Related S s f → 8 * s.stock ≤ top
      → low ≤ s.stock + most * f.rounds - nodes_if (expr_if e)
      → EndsHere (declare_code (context P S) p (expr_if e)) f top low (declare (meaning P) p e s)
  declare_ends (Global g) e top low s f h t r hu hl = tt
  declare_ends (Array a) (Some e) top low s f h t r hu hl = tt
  declare_ends (Array a) None top low s f h t r hu hl = go (slice_get s.arrays (s.base + a)) refl
    where
      go : (o : Option (List (Option ℕ))) → slice_get s.arrays (s.base + a) ≡ o
          → EndsHere Nop f top low (unset_row (s.base + a) o s)
      go None e = tt
      go (Some row) e = nothing_left (record s {
        arrays = slice_set s.arrays (s.base + a)
            (replicate (length row) None);
      }) f top low
          (record {
            scalars = r.scalars;
            count = r.count;
            stored = all_unset S.objects s.arrays f.memory (s.base + a) row e r.stored;
            rows = r.rows;
            input = r.input;
            bytes = r.bytes;
            output = r.output;
            first = r.first;
            room = r.room;
          }) hu (omega arith)
  declare_ends (Scalar i) None top low s f h t r hu hl = go (cell s (InScalar i)) refl
    where
      go : (c : Option (Option ℕ)) → cell s (InScalar i) ≡ c
          → EndsHere Nop f top low (unset (meaning P) i None c s)
      go None e = tt
      go (Some c) e = nothing_left (written s (InScalar i) None) f top low
          (scalar_unset S s f i c e r) hu (omega arith)
  declare_ends (Scalar i) (Some e) top low s f h t r hu hl = go (cell s (InScalar i)) refl
    where
      go : (c : Option (Option ℕ)) → cell s (InScalar i) ≡ c
          → EndsHere (Then (code P most S y 0 e) (copied i (temp 0))) f top low
          (unset (meaning P) i (Some e) c s)
      go None ec = tt
      go (Some c) ec =
          let s0 = written s (InScalar i) None in
          operand_in P most S y x (EndedIn x S) e 0 (copied i (temp 0)) s0 f top low (initialised i)
          (h e s0 (omega arith)) t.2 (scalar_unset S s f i c ec r) (omega arith) hl
          (λ v s1 g t1 hv ls us ds.
          wanted_in x most (EndedIn x S) (run P most S y (copied i (temp 0)) g) (top - t1) low v s1
          (λ w. then (store s1 (InScalar i) w) dropped) (λ w ew.
          let z = value_at S 0 e.kind f v w s1 g ew hv in
          let same : z.kind ≡ t.0 = cc (sym z.is_kind ∙ sym (kind_is e) ∙ t.3) in
          set_end i w (Var (temp 0)) t.0 (top - t1) low s1 g t.1
          (subst (λ k. IsWord k w) same z.fits)
          (var_read (functions P most) (base P most) S.env g (temp 0) w z.is) z.keeps.rel
          (omega arith) (omega arith)
          (cell s1 (InScalar i)) refl))

  -- WHAT LEAVES

  -- a return without a value follows the evaluation
  pub return_ends : (s : eval.State) (f : State) (top low : ℕ)
      → FitsReturn (scope P S) S.func.result None → Related S s f → 1 + 8 * s.stock ≤ top
      → low ≤ s.stock + most * f.rounds → EndsHere (only (flat.Return None)) f top low
      (Go (Returns None) s)
  return_ends s f top low t r hu hl = record {
    t = 1;
    to = f;
    upper = hu;
    lower = hl;
    holds = (r, none_returned (scope P S) S.func.result t);
    leads =
        return_none_leads checked (functions P most) (base P most) S.env f;
  }

  -- a return with a value follows the evaluation, where the value does
  pub value_ends : (e : TypedExpr) (s : eval.State) (f : State) (top low : ℕ) → FollowsOf P most e s
      → FitsReturn (scope P S) S.func.result (Some (expr_of e)) → Related S s f → 8 * s.stock ≤ top
      → low ≤ s.stock + most * f.rounds - nodes (expr_of e)
      → EndsHere (Then (code P most S y 0 e) (only (flat.Return (Some (Var (temp 0)))))) f top low
      (then (meaning P (Of e) s) returning)
  value_ends e s f top low h t r hu hl =
      let b = only (flat.Return (Some (Var (temp 0)))) in
      operand_in P most S y x (EndedIn x S) e 0 b s f top low returning h
      (returned_fits (scope P S) S.func.result (expr_of e) t) r (omega arith) hl
      (λ v s1 g t1 hv ls us ds.
      wanted_in x most (EndedIn x S) (run P most S y b g) (top - t1) low v s1 (λ w. Go (Returns (Some w)) s1)
      (λ w ew.
      let z = value_at S 0 e.kind f v w s1 g ew hv in
      record {
        t = 1;
        to = g;
        upper = omega arith;
        lower = omega arith;
        holds = (
          z.keeps.rel,
          returned_word
              (scope P S) S.func.result e z.kind w t z.is_kind z.fits,
        );
        leads = return_leads checked (functions P most) (base P most) S.env (Var (temp 0)) g w
            (var_read (functions P most) (base P most) S.env g (temp 0) w z.is);
      }))

module _ (P : TypedProgram) (most : ℕ) (S : Scene) (y : IsScene P S) where
  -- a word in temporary 0, and a break
  pub left_with : (w : ℕ) (s : eval.State) (f : State) → Related S s f
      → Leaves P most S y (found_code w) f w s
  unfolding apply
  left_with w s f r =
      let p = puts_let (functions P most) (base P most) S.env op.Mov (Const w) (Const 0) f 1 (temp 0) 80 w 0 w
      (omega arith) refl refl refl in
      record {
        t = p.t + 1;
        to = p.to;
        few = omega (arith, p.few);
        rel = sets_unseen S y s f p.to (temp 0) 80 w (omega arith) (omega arith) p.sets r;
        is = p.sets.value;
        rounds = p.sets.rounds;
        leads = both_lead checked (functions P most) (base P most) S.env (set_word (temp 0) w)
            (only flat.Break) f p.to p.t 1 (Broke p.to) p.leads
            (break_leads checked (functions P most) (base P most) S.env p.to);
      }

  -- a break where no word is needed
  pub just_breaks : (x : Around) (s : eval.State) (f : State) (top low : ℕ)
      → LeftBy x S 0 s f → 1 + 8 * s.stock ≤ top → low ≤ s.stock + most * f.rounds
      → EndsHere P most S y x (only flat.Break) f top low (Go Breaks s)
  just_breaks x s f top low r hu hl = record {
    t = 1;
    to = f;
    upper = hu;
    lower = hl;
    holds = r;
    leads = break_leads checked (functions P most) (base P most) S.env f;
  }

  -- the code of a break follows the evaluation
  pub break_ends : (x : Around) (s : eval.State) (f : State) (top low : ℕ) → Related S s f
      → 2 + 8 * s.stock ≤ top → low ≤ s.stock + most * f.rounds
      → EndsHere P most S y x (break_code x) f top low (Go Breaks s)
  break_ends around.Nowhere s f top low r hu hl =
      just_breaks around.Nowhere s f top low r (omega arith) hl
  break_ends around.Loop s f top low r hu hl =
      just_breaks around.Loop s f top low r (omega arith) hl
  break_ends around.Switch s f top low r hu hl =
      just_breaks around.Switch s f top low r (omega arith) hl
  break_ends around.SwitchInLoop s f top low r hu hl =
      let p = left_with 0 s f r in
      record {
        t = p.t;
        to = p.to;
        upper = omega (arith, p.few);
        lower = subst (λ r. low ≤ s.stock + most * r) (sym p.rounds) hl;
        holds = (p.rel, p.is);
        leads = p.leads;
      }

  -- a continue stands in a loop
  pub continue_ends : (x : Around) → IsLooped x → (s : eval.State) (f : State) (top low : ℕ)
      → Related S s f → 2 + 8 * s.stock ≤ top → low ≤ s.stock + most * f.rounds
      → EndsHere P most S y x (continue_code x) f top low (Go Continues s)
  continue_ends around.Nowhere h s f top low r hu hl = absurd h
  continue_ends around.Loop h s f top low r hu hl = record {
    t = 1;
    to = f;
    upper = omega arith;
    lower = hl;
    holds = (tt, r);
    leads = continue_leads checked (functions P most) (base P most) S.env f;
  }
  continue_ends around.Switch h s f top low r hu hl = absurd h
  continue_ends around.SwitchInLoop h s f top low r hu hl =
      let p = left_with 1 s f r in
      record {
        t = p.t;
        to = p.to;
        upper = omega (arith, p.few);
        lower = subst (λ r. low ≤ s.stock + most * r) (sym p.rounds) hl;
        holds = (tt, (p.rel, p.is));
        leads = p.leads;
      }
