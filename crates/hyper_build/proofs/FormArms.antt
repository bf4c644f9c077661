-- What a statement is seen as that has none of some forms: so a function by the form has an answer for each form that
-- it tells apart, and one for all others.
use Rattle.std.proofs.Common.{◌≡◌, ℕ, false, List, Option, None, sym, ap, ◌∙◌, refl}
use Rattle.trips_isa.specs.declared.op.Op.{Op}
use Rattle.ir_forms.specs.declared.flat.Arg.{Arg}
use Rattle.ir_forms.specs.declared.flat.FlatStmt.{FlatStmt, roll-FlatStmt, out-FlatStmt, roll-out-FlatStmt}
use Rattle.ir_forms.specs.declared.flat.FlatStmt.{fold-FlatStmt, fold-roll-FlatStmt, map-FlatStmt}
use Rattle.ir_forms.specs.declared.flat.FlatStmt.TheVariants as stmt
use Rattle.ir_forms.specs.declared.flat.FlatStmt.TheOpen.{FlatStmt-F}
use Rattle.ir_forms.specs.inside.FlatCode.{Step, Nop, ◌▹◌}
use Rattle.ir_forms.specs.inside.FlatFits.{is_small_leg, steps_in}
use Rattle.ir_forms.specs.inside.FlatViews.{step_by, step_of}
use Rattle.hyper_build.specs.inside.Tree.{leaves}
use Rattle.hyper_build.specs.inside.Legs.{is_operation, continues_in}
use Rattle.hyper_build.specs.inside.BackwardCode.{exit_in}
use Rattle.hyper_build.specs.inside.BackwardItems.{is_straight_in}

-- what holds at each level that a statement may have holds of the statement
by_form : {A : Type 0} (f : Step → A) (s : FlatStmt) (y : A)
    → ((x : FlatStmt-F FlatStmt) → roll-FlatStmt x ≡ s → f (step_by (map-FlatStmt FlatStmt Step step_of x)) ≡ y)
    → f (step_of s) ≡ y
unfolding step_of
by_form f s y h =
    ap f (ap (fold-FlatStmt Step step_by) (sym (roll-out-FlatStmt s))
    ∙ fold-roll-FlatStmt Step step_by (out-FlatStmt s))
    ∙ h (out-FlatStmt s) (roll-out-FlatStmt s)

module _ (s : FlatStmt) where
  abbrev NoLet : Type 0
  NoLet = (to : ℕ) (op : Op) (a b : Arg) → s ≡ stmt.Let to op a b → ⊥

  abbrev NoFrame : Type 0
  NoFrame = (to at : ℕ) → s ≡ stmt.Frame to at → ⊥

  abbrev NoLoad : Type 0
  NoLoad = (to : ℕ) (op : Op) (a : Arg) → s ≡ stmt.Load to op a → ⊥

  abbrev NoSave : Type 0
  NoSave = (op : Op) (a v : Arg) → s ≡ stmt.Save op a v → ⊥

  abbrev NoIf : Type 0
  NoIf = (t : Arg) (one other : List FlatStmt) → s ≡ stmt.If t one other → ⊥

  abbrev NoLoop : Type 0
  NoLoop = (body post : List FlatStmt) → s ≡ stmt.Loop body post → ⊥

  abbrev NoReturn : Type 0
  NoReturn = (v : Option Arg) → s ≡ stmt.Return v → ⊥

  abbrev NoHalt : Type 0
  NoHalt = (v : Arg) → s ≡ stmt.Halt v → ⊥

  -- neither a break nor a continue: no exit
  pub no_exit : (broke again : ℕ) → (s ≡ stmt.Break → ⊥) → (s ≡ stmt.Continue → ⊥)
      → exit_in broke again (step_of s) ≡ None
  no_exit broke again b c = by_form (exit_in broke again) s None go
    where
      go : (x : FlatStmt-F FlatStmt) → roll-FlatStmt x ≡ s
          → exit_in broke again (step_by (map-FlatStmt FlatStmt Step step_of x)) ≡ None
      go FlatStmt-F.Break e = absurd (b (sym e ∙ stmt.rolls-Break))
      go FlatStmt-F.Continue e = absurd (c (sym e ∙ stmt.rolls-Continue))
      go _ e = refl

  -- nor a return, nor the end of the run: it goes on
  pub no_leaving : (s ≡ stmt.Break → ⊥) → (s ≡ stmt.Continue → ⊥) → NoReturn → NoHalt
      → leaves (step_of s) ≡ false
  no_leaving b c r h = by_form leaves s false go
    where
      go : (x : FlatStmt-F FlatStmt) → roll-FlatStmt x ≡ s
          → leaves (step_by (map-FlatStmt FlatStmt Step step_of x)) ≡ false
      go FlatStmt-F.Break e = absurd (b (sym e ∙ stmt.rolls-Break))
      go FlatStmt-F.Continue e = absurd (c (sym e ∙ stmt.rolls-Continue))
      go (FlatStmt-F.Return v) e = absurd (r v (sym e ∙ stmt.rolls-Return v))
      go (FlatStmt-F.Halt v) e = absurd (h v (sym e ∙ stmt.rolls-Halt v))
      go _ e = refl

  -- no leg of a small if
  pub no_leg : NoLet → is_small_leg (step_of s ▹ Nop) ≡ false
  no_leg l = by_form (λ x. is_small_leg (x ▹ Nop)) s false go
    where
      go : (x : FlatStmt-F FlatStmt) → roll-FlatStmt x ≡ s
          → is_small_leg (step_by (map-FlatStmt FlatStmt Step step_of x) ▹ Nop) ≡ false
      go (FlatStmt-F.Let to op a b) e = absurd (l to op a b (sym e ∙ stmt.rolls-Let to op a b))
      go _ e = refl

  -- no operation
  pub no_operation : NoLet → NoFrame → NoLoad → NoSave → is_operation (step_of s) ≡ false
  no_operation l f r w = by_form is_operation s false go
    where
      go : (x : FlatStmt-F FlatStmt) → roll-FlatStmt x ≡ s
          → is_operation (step_by (map-FlatStmt FlatStmt Step step_of x)) ≡ false
      go (FlatStmt-F.Let to op a b) e = absurd (l to op a b (sym e ∙ stmt.rolls-Let to op a b))
      go (FlatStmt-F.Frame to at) e = absurd (f to at (sym e ∙ stmt.rolls-Frame to at))
      go (FlatStmt-F.Load to op a) e = absurd (r to op a (sym e ∙ stmt.rolls-Load to op a))
      go (FlatStmt-F.Save op a v) e = absurd (w op a v (sym e ∙ stmt.rolls-Save op a v))
      go _ e = refl

  -- nor an if: no item
  pub no_item : NoLet → NoFrame → NoLoad → NoSave → NoIf → is_straight_in (step_of s) ≡ false
  no_item l f r w i = by_form is_straight_in s false go
    where
      go : (x : FlatStmt-F FlatStmt) → roll-FlatStmt x ≡ s
          → is_straight_in (step_by (map-FlatStmt FlatStmt Step step_of x)) ≡ false
      go (FlatStmt-F.Let to op a b) e = absurd (l to op a b (sym e ∙ stmt.rolls-Let to op a b))
      go (FlatStmt-F.Frame to at) e = absurd (f to at (sym e ∙ stmt.rolls-Frame to at))
      go (FlatStmt-F.Load to op a) e = absurd (r to op a (sym e ∙ stmt.rolls-Load to op a))
      go (FlatStmt-F.Save op a v) e = absurd (w op a v (sym e ∙ stmt.rolls-Save op a v))
      go (FlatStmt-F.If t one other) e = absurd (i t one other (sym e ∙ stmt.rolls-If t one other))
      go _ e = refl

  -- no continue in it
  pub no_continue : NoIf → (s ≡ stmt.Continue → ⊥) → continues_in (step_of s) ≡ false
  no_continue i c = by_form continues_in s false go
    where
      go : (x : FlatStmt-F FlatStmt) → roll-FlatStmt x ≡ s
          → continues_in (step_by (map-FlatStmt FlatStmt Step step_of x)) ≡ false
      go (FlatStmt-F.If t one other) e = absurd (i t one other (sym e ∙ stmt.rolls-If t one other))
      go FlatStmt-F.Continue e = absurd (c (sym e ∙ stmt.rolls-Continue))
      go _ e = refl

  -- a statement without parts counts one
  pub no_parts : NoIf → NoLoop → steps_in (step_of s) ≡ 1
  no_parts i l = by_form steps_in s 1 go
    where
      go : (x : FlatStmt-F FlatStmt) → roll-FlatStmt x ≡ s
          → steps_in (step_by (map-FlatStmt FlatStmt Step step_of x)) ≡ 1
      go (FlatStmt-F.If t one other) e = absurd (i t one other (sym e ∙ stmt.rolls-If t one other))
      go (FlatStmt-F.Loop body post) e = absurd (l body post (sym e ∙ stmt.rolls-Loop body post))
      go _ e = refl
