-- The code of a statement fits where its jumps stand in loops.
use Rattle.std.proofs.Common.{◌≡◌, ℕ, suc, ◌+◌, ◌^◌, ◌<◌, Bool, true, false, cond, List, [], ◌∷◌, length, Option}
use Rattle.std.proofs.Common.{Some, None, refl, sym, subst, arith}
use Rattle.std.proofs.lemmas.Option.{slice_get_within}
use Rattle.c_tree.specs.declared.Kind.{Kind}
use Rattle.c_tree.specs.declared.Place.{Place}
use Rattle.c_tree.specs.declared.Place.TheVariants.{Global, Scalar, Array}
use Rattle.c_tree.specs.declared.Slot.TheVariants as slot
use Rattle.trips_isa.specs.declared.op.Op.TheVariants as op
use Rattle.ir_forms.specs.declared.flat.Arg.{Arg}
use Rattle.ir_forms.specs.declared.flat.Arg.TheVariants.{Const, Var}
use Rattle.ir_forms.specs.inside.FlatCode.{Code, Nop, Then, only, Function}
use Rattle.ir_forms.specs.inside.FlatCode as flat
use Rattle.ir_forms.specs.inside.FlatFits.{FitsVar, FitsArg}
use Rattle.flat_lower.specs.inside.Tree.{Expr, Number, Name, Assign, Stmt, Declare, Plain, Compound, If, While, Do}
use Rattle.flat_lower.specs.inside.Tree.{For, Break}
use Rattle.flat_lower.specs.inside.Tree.{Continue, Return, Stmts, NoStmts, WithStmt, First, Nothing}
use Rattle.flat_lower.specs.inside.Tree.{FirstOf, Locals, Switch, Sections, NoSections, WithSection, kind_of}
use Rattle.flat_lower.specs.declared.around.Around.{Around}
use Rattle.flat_lower.specs.declared.around.Around.TheVariants as around
use Rattle.flat_lower.specs.declared.held.Held.{Held}
use Rattle.flat_lower.specs.declared.held.Held.TheVariants as held
use Rattle.flat_lower.specs.inside.Labels.{found_code, either_code, choice_code, case_code, one_more, held_code}
use Rattle.flat_lower.specs.inside.Labels.{labels_code, compared_code}
use Rattle.flat_lower.specs.inside.Switches.{in_switch, break_code, continue_code, behind_code, has_default}
use Rattle.flat_lower.specs.inside.Switches.{default_at, section_count}
use Rattle.flat_lower.specs.inside.Switches.{dense_from, dense_code, chosen_by, chosen_code, section_code}
use Rattle.flat_lower.specs.inside.Switches.{switched_code}
use Rattle.flat_lower.specs.inside.FitsSwitches.{IsLooped, FitsLabels}
use Rattle.flat_lower.specs.inside.Fits.{Scope, FitsExpr, FitsExprIf, FitsDeclare, FitsReturn, FitsStmt}
use Rattle.flat_lower.specs.inside.Fits.{FitsStmts, FitsSections, FitsFirst}
use Rattle.flat_lower.specs.inside.Operations.{temp, scratch, set_word}
use Rattle.flat_lower.specs.inside.Objects.{Context}
use Rattle.flat_lower.specs.inside.Expressions.{right_at, expr_code}
use Rattle.flat_lower.specs.inside.Statements.{expr_if_code, declare_code, return_code, if_so, turn_code}
use Rattle.flat_lower.specs.inside.Statements.{loop_code, do_code, stmt_code, stmts_code, first_code}
use Rattle.flat_lower.specs.inside.Statements.{sections_code}
use Rattle.flat_lower.specs.inside.Statements.{end_code, named_scalar, simple_arg, plain_code, plain_if_code}
use Rattle.flat_lower.proofs.PlainEnds.{either_way}
use Rattle.flat_lower.proofs.DenseSkips.{dense_is}
use Rattle.flat_lower_premises.specs.inside.Jumps.{JumpsInLoops, AllJumpsInLoops, FirstJumpsInLoops}
use Rattle.flat_lower_premises.specs.inside.Jumps.{IsLeft, SectionsJumpInLoops}
use Rattle.flat_lower_premises.proofs.Fitting.{Fitting, nothing_fits, single_fits, let_fits, if_fits}
use Rattle.flat_lower_premises.proofs.Fitting.{loop_fits, joined}
use Rattle.flat_lower_premises.proofs.Fitting.{scalar_fits, temp_fits, scratch_fits}
use Rattle.flat_lower_premises.proofs.Operations.{word_fits, copied_fits}
use Rattle.flat_lower_premises.proofs.Places.{HasPlaces, FitsSide}
use Rattle.flat_lower_premises.proofs.Expressions.{Callable, name_place, side_place, expr_fits}

module _ {fs : List Function} {n bytes : ℕ} {i : Bool} where
  -- the code at the end of a function fits
  pub end_fits : (b : Bool) → Fitting fs n bytes i (end_code b)
  end_fits true = single_fits (flat.Return (Some (Const 0))) (omega arith)
  end_fits false = nothing_fits

module _ (fs : List Function) (c : Scope) (bytes : ℕ) (k : Option Kind) (x : Context)
    (known : Callable fs c.functions) (low : HasPlaces x bytes) where
  -- PARTS

  abbrev Fits : Bool → Code → Type 0
  Fits inside code = Fitting fs (length c.scalars) bytes inside code

  value : (i : Bool) (d : ℕ) (e : Expr) → FitsExpr c d e → Fits i (expr_code x d e)
  value i d e t = expr_fits fs c bytes i x known low d e t

  first_temp : FitsVar (length c.scalars) (temp 0)
  first_temp = temp_fits (length c.scalars) 0 (omega arith)

  expr_if_fits : (i : Bool) (e : Option Expr) → FitsExprIf c e → Fits i (expr_if_code x e)
  expr_if_fits i None t = nothing_fits
  expr_if_fits i (Some e) t = value i 0 e t

  named_fits : (l : Expr) (j : ℕ) → named_scalar l ≡ Some j → FitsSide (length c.scalars) l
      → FitsVar (length c.scalars) j
  named_fits (Name k (Scalar q)) j e t =
      let same : q ≡ j = cc e in subst (FitsVar (length c.scalars)) same t
  named_fits (Name k (Global g)) j e t = absurd (cc e)
  named_fits (Name k (Array a)) j e t = absurd (cc e)
  named_fits _ j e t = absurd (cc e)

  simple_fits : (d : ℕ) (r : Expr) (b : Arg) → simple_arg r ≡ Some b → FitsExpr c d r
      → FitsArg (length c.scalars) b
  simple_fits d (Number None w) b e t = absurd t
  simple_fits d (Number (Some k) w) b e t =
      let same : Const w ≡ b = cc e in subst (FitsArg (length c.scalars)) same t.1.below
  simple_fits d (Name None p) b e t = absurd t
  simple_fits d (Name (Some k) (Scalar q)) b e t =
      let same : Var q ≡ b = cc e in
      subst (FitsArg (length c.scalars)) same (name_place c k (Scalar q) t.1)
  simple_fits d (Name (Some k) (Global g)) b e t = absurd (cc e)
  simple_fits d (Name (Some k) (Array a)) b e t = absurd (cc e)
  simple_fits d _ b e t = absurd (cc e)

  plain_fits : (i : Bool) (e : Expr) → FitsExpr c 0 e → Fits i (plain_code x e)
  plain_fits i (Assign q None at l r) t =
      either_way (named_scalar l) (simple_arg r) (expr_code x 0 (Assign q None at l r))
      (λ a. Fits i a) (value i 0 (Assign q None at l r) t)
      (λ j b ej eb. let_fits j op.Mov b (Const 0) refl
      (named_fits l j ej (side_place c 0 q l t.0))
      (simple_fits (right_at None 0 l) r b eb t.1) (omega arith))
  plain_fits i e t = value i 0 e t

  plain_if_fits : (i : Bool) (e : Option Expr) → FitsExprIf c e → Fits i (plain_if_code x e)
  plain_if_fits i None t = nothing_fits
  plain_if_fits i (Some e) t = plain_fits i e t

  declare_fits : (i : Bool) (p : Place) (e : Option Expr) → FitsDeclare c p e
      → Fits i (declare_code x p e)
  declare_fits i (Scalar j) (Some e) t = joined (value i 0 e t.2)
      (copied_fits j (temp 0) (scalar_fits (length c.scalars) j
      (slice_get_within c.scalars j (slot.Scalar t.0) t.1)) first_temp)
  declare_fits i (Scalar j) None t = nothing_fits
  declare_fits i (Global g) e t = nothing_fits
  declare_fits i (Array a) e t = nothing_fits

  return_fits : (i : Bool) (k : Option Kind) (e : Option Expr) → FitsReturn c k e
      → Fits i (return_code x e)
  return_fits i k None t = single_fits (flat.Return None) tt
  return_fits i None (Some e) t = absurd t
  return_fits i (Some k) (Some e) t = joined (value i 0 e t.0)
      (single_fits (flat.Return (Some (Var (temp 0)))) first_temp)

  if_so_fits : (body : Code) → Fits true body → Fits true (if_so body)
  if_so_fits body p = if_fits (Var (temp 0)) body (only flat.Break) first_temp p
      (single_fits flat.Break refl)

  turn_fits : (test : Option Expr) (body : Code) → FitsExprIf c test
      → Fits true body → Fits true (turn_code x test body)
  turn_fits None body t p = p
  turn_fits (Some e) body t p = joined (value true 0 e t) (if_so_fits body p)

  loop_code_fits : (i : Bool) (test post : Option Expr) (body : Code) → FitsExprIf c test
      → FitsExprIf c post → Fits true body
      → Fits i (loop_code x test post body)
  loop_code_fits i test post body t u p =
      loop_fits (turn_code x test body) (expr_if_code x post) (turn_fits test body t p)
      (expr_if_fits false post u)

  do_code_fits : (i : Bool) (t : Expr) (body : Code) → FitsExpr c 0 t
      → Fits true body → Fits i (do_code x t body)
  do_code_fits i t body h p = joined (word_fits (temp 0) 1 first_temp (omega arith))
      (loop_fits (if_so body) (expr_code x 0 t) (if_so_fits body p) (value false 0 t h))

  -- SWITCHES

  -- whether what stands around a statement is a loop of the flat form
  abbrev pub inside : Around → Bool
  inside around.Nowhere = false
  inside around.Loop = true
  inside around.Switch = true
  inside around.SwitchInLoop = true

  in_switch_is : (a : Around) → inside (in_switch a) ≡ true
  in_switch_is around.Nowhere = refl
  in_switch_is around.Loop = refl
  in_switch_is around.Switch = refl
  in_switch_is around.SwitchInLoop = refl

  found_fits : (m : ℕ) → m < 2 ^ 64 → Fits true (found_code m)
  found_fits m h = joined (word_fits (temp 0) m first_temp h) (single_fits flat.Break refl)

  break_fits : (a : Around) → IsLeft a → Fits (inside a) (break_code a)
  break_fits around.Nowhere h = absurd h
  break_fits around.Loop h = single_fits flat.Break refl
  break_fits around.Switch h = single_fits flat.Break refl
  break_fits around.SwitchInLoop h = found_fits 0 (omega arith)

  continue_fits : (a : Around) → IsLooped a → Fits (inside a) (continue_code a)
  continue_fits around.Nowhere h = absurd h
  continue_fits around.Loop h = single_fits flat.Continue refl
  continue_fits around.Switch h = absurd h
  continue_fits around.SwitchInLoop h = found_fits 1 (omega arith)

  behind_fits : (a : Around) → Fits (inside a) (behind_code a)
  behind_fits around.Nowhere = nothing_fits
  behind_fits around.Loop = if_fits (Var (temp 0)) (continue_code around.Loop) Nop first_temp
      (continue_fits around.Loop tt) nothing_fits
  behind_fits around.Switch = nothing_fits
  behind_fits around.SwitchInLoop = if_fits (Var (temp 0)) (continue_code around.SwitchInLoop) Nop first_temp
      (continue_fits around.SwitchInLoop tt) nothing_fits

  first_scratch : FitsVar (length c.scalars) (scratch 0)
  first_scratch = scratch_fits (length c.scalars) 0 (omega arith)

  second_scratch : FitsVar (length c.scalars) (scratch 1)
  second_scratch = scratch_fits (length c.scalars) 1 (omega arith)

  choice_fits : (m : ℕ) → m < 2 ^ 64 → Fits true (choice_code m)
  choice_fits m h = if_fits (Var (scratch 0)) (found_code m) Nop first_scratch (found_fits m h) nothing_fits

  either_fits : (w : ℕ) → w < 2 ^ 64 → Fits true (either_code w)
  either_fits w b =
      joined (let_fits (scratch 1) op.Teq (Var (temp 0)) (Const w) refl second_scratch first_temp b)
      (let_fits (scratch 0) op.Or (Var (scratch 0)) (Var (scratch 1)) refl first_scratch first_scratch second_scratch)

  case_fits : (o : Held) (m w : ℕ) → m < 2 ^ 64 → w < 2 ^ 64 → Fits true (case_code o m w)
  case_fits held.Zero m w h b =
      let_fits (scratch 0) op.Teq (Var (temp 0)) (Const w) refl first_scratch first_temp b
  case_fits held.One m w h b = either_fits w b
  case_fits held.Two m w h b = joined (either_fits w b) (choice_fits m h)

  held_fits : (o : Held) (m : ℕ) → m < 2 ^ 64 → Fits true (held_code o m)
  held_fits held.Zero m h = nothing_fits
  held_fits held.One m h = choice_fits m h
  held_fits held.Two m h = choice_fits m h

  labels_fit : (j : Option Kind) (o : Held) (m : ℕ) (ls : List (Option ℕ)) → m < 2 ^ 64 → FitsLabels j ls
      → Fits true (labels_code o m ls)
  labels_fit j o m [] h t = held_fits o m h
  labels_fit j o m (None ∷ ls) h t = labels_fit j o m ls h t.1
  labels_fit None o m (Some w ∷ ls) h t = absurd t.0
  labels_fit (Some j) o m (Some w ∷ ls) h t =
      joined (case_fits o m w h t.0.below) (labels_fit (Some j) (one_more o) m ls h t.1)

  compared_fits : (a : Around) (j : Option Kind) (m : ℕ) (xs : Sections) → m + section_count xs < 2 ^ 64
      → FitsSections c k a j xs → Fits true (compared_code m xs)
  compared_fits a j m NoSections h t = nothing_fits
  compared_fits a j m (WithSection ls body rest) h t =
      joined (labels_fit j held.Zero m ls (omega arith) t.1) (compared_fits a j (suc m) rest (omega arith) t.4)

  default_below : (m o : ℕ) (xs : Sections) → m + section_count xs < 2 ^ 64 → o < 2 ^ 64
      → default_at m o xs < 2 ^ 64
  default_below m o NoSections h g = g
  default_below m o (WithSection ls body rest) h g =
      default_below (suc m) (cond (has_default ls) m o) rest (omega arith) (by_default (has_default ls))
    where
      by_default : (b : Bool) → cond b m o < 2 ^ 64
      by_default true = omega arith
      by_default false = g

  -- the end of a switch is left as by a break
  end_fits_in : (a : Around) → Fits true (break_code (in_switch a))
  end_fits_in around.Nowhere = single_fits flat.Break refl
  end_fits_in around.Loop = found_fits 0 (omega arith)
  end_fits_in around.Switch = single_fits flat.Break refl
  end_fits_in around.SwitchInLoop = found_fits 0 (omega arith)

  dense_fits : (i : Bool) (low m : ℕ) → low < 2 ^ 64 → m < 2 ^ 64 → Fits i (dense_code low m)
  dense_fits i low m l h =
      joined (let_fits (temp 0) op.Sub (Var (temp 0)) (Const low) refl first_temp first_temp l)
      (joined (let_fits (scratch 0) op.Tltu (Var (temp 0)) (Const m) refl first_scratch first_temp h)
      (if_fits (Var (scratch 0)) Nop (set_word (temp 0) m) first_scratch nothing_fits
      (word_fits (temp 0) m first_temp h)))

  chosen_fits : (i : Bool) (a : Around) (j : Option Kind) (xs : Sections) → section_count xs < 2 ^ 64
      → FitsSections c k a j xs → Fits i (chosen_code xs)
  chosen_fits i a j xs h t = by_labels (dense_from xs) refl
    where
      by_labels : (o : Option ℕ) → dense_from xs ≡ o → Fits i (chosen_by o xs)
      by_labels None e =
          loop_fits (Then (compared_code 0 xs) (found_code (default_at 0 (section_count xs) xs))) Nop
          (joined (compared_fits a j 0 xs (omega arith) t) (found_fits (default_at 0 (section_count xs) xs)
          (default_below 0 (section_count xs) xs (omega arith) h))) nothing_fits
      by_labels (Some w) e =
          dense_fits i w (default_at 0 (section_count xs) xs) (dense_is c k j a xs w t e).word
          (default_below 0 (section_count xs) xs (omega arith) h)

  -- a switch whose sections fit
  switched_fits : (a : Around) (j : Option Kind) (xs : Sections) (body : Code) → section_count xs < 2 ^ 64
      → FitsSections c k (in_switch a) j xs → Fits true body → Fits (inside a) (switched_code a xs body)
  switched_fits a j xs body h t p =
      joined (chosen_fits (inside a) (in_switch a) j xs h t)
      (joined (loop_fits (Then body (break_code (in_switch a))) Nop (joined p (end_fits_in a)) nothing_fits)
      (behind_fits a))

  -- a section whose statements fit
  section_fits : (m : ℕ) → m < 2 ^ 64 → (body : Code) → Fits true body → Fits true (section_code m body)
  section_fits m h body p =
      joined (let_fits (scratch 0) op.Tgtu (Var (temp 0)) (Const m) refl first_scratch first_temp h)
      (if_fits (Var (scratch 0)) Nop (Then body (set_word (temp 0) 0)) first_scratch nothing_fits
      (joined p (word_fits (temp 0) 0 first_temp (omega arith))))

  -- STATEMENTS

  mutual
    -- the code of a statement that fits does so, where its jumps stand in loops
    pub stmt_fits : (a : Around) (s : Stmt) → FitsStmt c k a s → JumpsInLoops a s
        → Fits (inside a) (stmt_code x a s)
    stmt_fits a (Declare p e) t j = declare_fits (inside a) p e t
    stmt_fits a (Plain e) t j = plain_if_fits (inside a) e t
    stmt_fits a (Compound all) t j = stmts_fit a all t j
    stmt_fits a (If e one other) t j = joined (value (inside a) 0 e t.0)
        (if_fits (Var (temp 0)) (stmt_code x a one) (stmts_code x a other) first_temp
        (stmt_fits a one t.1 j.0) (stmts_fit a other t.2 j.1))
    stmt_fits a (While e body) t j = loop_code_fits (inside a) (Some e) None (stmt_code x around.Loop body) t.0 tt
        (stmt_fits around.Loop body t.1 j)
    stmt_fits a (Do body e) t j = do_code_fits (inside a) e (stmt_code x around.Loop body) t.1
        (stmt_fits around.Loop body t.0 j)
    stmt_fits a (For first test post body) t j = joined (first_fits a first t.0 j.0)
        (loop_code_fits (inside a) test post (stmt_code x around.Loop body) t.1 t.2
        (stmt_fits around.Loop body t.3 j.1))
    stmt_fits a (Switch e xs) t j = joined (value (inside a) 0 e t.0)
        (switched_fits a (kind_of e) xs (sections_code x (in_switch a) 0 xs) t.3 t.1
        (subst (λ i. Fits i (sections_code x (in_switch a) 0 xs)) (in_switch_is a)
        (sections_fit (in_switch a) (in_switch_is a) (kind_of e) 0 xs (omega (arith, t.3)) t.1 j)))
    stmt_fits a Break t j = break_fits a j
    stmt_fits a Continue t j = continue_fits a j
    stmt_fits a (Return e) t j = return_fits (inside a) k e t

    stmts_fit : (a : Around) (all : Stmts) → FitsStmts c k a all → AllJumpsInLoops a all
        → Fits (inside a) (stmts_code x a all)
    stmts_fit a NoStmts t j = nothing_fits
    stmts_fit a (WithStmt s rest) t j = joined (stmt_fits a s t.0 j.0) (stmts_fit a rest t.1 j.1)

    sections_fit : (a : Around) → inside a ≡ true → (j : Option Kind) (m : ℕ) (xs : Sections)
        → m + section_count xs < 2 ^ 64 → FitsSections c k a j xs → SectionsJumpInLoops a xs
        → Fits (inside a) (sections_code x a m xs)
    sections_fit a e q m NoSections h t j = nothing_fits
    sections_fit a e q m (WithSection ls body rest) h t j =
        joined (subst (λ i. Fits i (section_code m (stmts_code x a body))) (sym e)
        (section_fits m (omega arith) (stmts_code x a body) (subst (λ i. Fits i (stmts_code x a body)) e
        (stmts_fit a body t.3 j.0)))) (sections_fit a e q (suc m) rest (omega arith) t.4 j.1)

    first_fits : (a : Around) (first : First) → FitsFirst c k a first → FirstJumpsInLoops a first
        → Fits (inside a) (first_code x a first)
    first_fits a Nothing t j = nothing_fits
    first_fits a (FirstOf e) t j = value (inside a) 0 e t
    first_fits a (Locals all) t j = stmts_fit a all t j
