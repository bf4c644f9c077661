-- Dense labels in code: a subtraction finds how many sections are skipped.
use Rattle.std.proofs.Common.{◌≡◌, ℕ, suc, ◌+◌, ◌-◌, ◌%◌, ◌^◌, ◌<◌, ◌≤◌, Bool, true, false, cond, List, [], ◌∷◌}
use Rattle.std.proofs.Common.{Option, Some, None, refl, ap, ◌∙◌, subst, arith}
use Rattle.std.specs.Prelude.{nat_lt}
use Rattle.c_tree.specs.declared.Kind.{Kind}
use Rattle.c_tree.specs.declared.TypedProgram.{TypedProgram}
use Rattle.c_meaning_spec.specs.State as eval
use Rattle.trips_isa.specs.declared.op.Op.TheVariants as op
use Rattle.trips_isa.specs.Alu.{test}
use Rattle.ir_forms.specs.declared.flat.Arg.TheVariants.{Const, Var}
use Rattle.ir_forms.specs.inside.FlatCode.{Code, Nop, Then, only, Let, If}
use Rattle.ir_forms.specs.inside.Cells.{apply}
use Rattle.ir_forms.specs.inside.FlatSteps.{State, settle}
use Rattle.ir_forms.specs.inside.FlatRuns.{checked}
use Rattle.ir_forms.proofs.Leads.{leads_from, moves_from}
use Rattle.ir_forms.proofs.Steps.{then_moves, nop_leads}
use Rattle.ir_forms.proofs.Statements.{if_one, if_other}
use Rattle.flat_lower.specs.declared.around.Around.{Around}
use Rattle.flat_lower.specs.inside.Tree.{Sections, NoSections, WithSection}
use Rattle.flat_lower.specs.inside.Operations.{temp, scratch, set_word}
use Rattle.flat_lower.specs.inside.Switches.{default_at, section_count, are_dense, dense_from, dense_code}
use Rattle.flat_lower.specs.inside.Fits.{Scope, FitsSections}
use Rattle.flat_lower.proofs.Straight.{puts_let, var_read}
use Rattle.flat_lower.proofs.Related.{Scene, IsScene, Related, sets_unseen}
use Rattle.flat_lower.proofs.Values.{functions, base, run}
use Rattle.flat_lower.proofs.SwitchSections.{Skipped}
use Rattle.flat_lower.proofs.SwitchDense.{at_most, default_over}

-- what the sections have, where their labels are dense
pub record DenseIs (xs : Sections) (low : ℕ) : Type 0 where
  pub word : low < 2 ^ 64
  pub dense : are_dense low xs ≡ true
  -- at least the first is skipped where no label is equal
  pub some : 1 ≤ default_at 0 (section_count xs) xs

-- dense labels are words of the type of the test
pub dense_is : (c : Scope) (k j : Option Kind) (x : Around) (xs : Sections) (low : ℕ)
    → FitsSections c k x j xs → dense_from xs ≡ Some low → DenseIs xs low
dense_is c k j x NoSections low t h = absurd (cc h)
dense_is c k j x (WithSection [] body rest) low t h = absurd (cc h)
dense_is c k j x (WithSection (None ∷ ls) body rest) low t h = absurd (cc h)
dense_is c k None x (WithSection (Some u ∷ ls) body rest) low t h = absurd t.1.0
dense_is c k (Some j) x (WithSection (Some u ∷ ls) body rest) low t h =
    by_test (are_dense u (WithSection (Some u ∷ ls) body rest)) refl h
  where
    more : (ls : List (Option ℕ)) → are_dense u (WithSection (Some u ∷ ls) body rest) ≡ true
        → 1 ≤ default_at 0 (suc (section_count rest)) (WithSection (Some u ∷ ls) body rest)
    more [] h = default_over 1 1 (suc (section_count rest)) rest (omega arith) (omega arith)
    more (l ∷ ls) h = absurd (cc h)

    by_test : (b : Bool) → are_dense u (WithSection (Some u ∷ ls) body rest) ≡ b
        → cond b (Some u) None ≡ Some low → DenseIs (WithSection (Some u ∷ ls) body rest) low
    by_test true e h =
        let is : u ≡ low = cc h in
        subst (DenseIs (WithSection (Some u ∷ ls) body rest)) is
        (record { word = t.1.0.below; dense = e; some = more ls e })
    by_test false e h = absurd (cc h)

module _ (P : TypedProgram) (most : ℕ) (S : Scene) (y : IsScene P S) (x : Around) where
  -- all sections are skipped where the value is beyond the labels
  abbrev choice_of : ℕ → Code
  choice_of D = only (If (Var (scratch 0)) Nop (set_word (temp 0) D))

  -- behind the subtraction
  abbrev rest_of : ℕ → Code
  rest_of D = Then (only (Let (scratch 0) op.Tltu (Var (temp 0)) (Const D))) (choice_of D)

  tested : (D d : ℕ) (b : Code) (s : eval.State) (f : State) → 1 ≤ D → Related S s f
      → f.vars (temp 0) ≡ Some d → (o : Bool) → nat_lt d D ≡ o
      → Skipped P most S y x (Then (rest_of D) b) f s (cond o d D) (2 + cond o d D) b
  unfolding apply
  tested D d b s f some r e true eo =
      let fs = functions P most in
      let bs = base P most in
      let q = puts_let fs bs S.env op.Tltu (Var (temp 0)) (Const D) f 1 (scratch 0) 81 d D 1 (omega arith)
      (var_read fs bs S.env f (temp 0) d e) refl (ap (λ b. Some (test b)) eo) in
      let rq = sets_unseen S y s f q.to (scratch 0) 81 1 (omega arith) (omega arith) q.sets r in
      let tq = q.sets.others (temp 0) (λ e. omega arith) (λ e. omega arith) ∙ e in
      let few = q.few in
      let none = leads_from (run P most S y (choice_of D) q.to) (run P most S y Nop q.to) 1 0 (settle q.to)
      (if_one checked fs bs S.env (Var (scratch 0)) Nop (set_word (temp 0) D) q.to 0
      (var_read fs bs S.env q.to (scratch 0) 1 q.sets.value)) (nop_leads checked fs bs S.env q.to) in
      record {
        t = q.t + (1 + 0);
        to = q.to;
        few = omega (arith, few);
        rel = rq;
        word = tq;
        rounds = q.sets.rounds;
        moves = moves_from (run P most S y (Then (rest_of D) b) f) (run P most S y (Then (choice_of D) b) q.to)
            (run P most S y b q.to) q.t (1 + 0)
            (then_moves checked fs bs S.env (only (Let (scratch 0) op.Tltu (Var (temp 0)) (Const D)))
            (Then (choice_of D) b) f q.to q.t q.leads)
            (then_moves checked fs bs S.env (choice_of D) b q.to q.to (1 + 0) none);
      }
  tested D d b s f some r e false eo =
      let fs = functions P most in
      let bs = base P most in
      let q = puts_let fs bs S.env op.Tltu (Var (temp 0)) (Const D) f 1 (scratch 0) 81 d D 0 (omega arith)
      (var_read fs bs S.env f (temp 0) d e) refl (ap (λ b. Some (test b)) eo) in
      let rq = sets_unseen S y s f q.to (scratch 0) 81 0 (omega arith) (omega arith) q.sets r in
      let g = puts_let fs bs S.env op.Mov (Const D) (Const 0) q.to 1 (temp 0) 80 D 0 D (omega arith) refl
      refl refl in
      let rg = sets_unseen S y s q.to g.to (temp 0) 80 D (omega arith) (omega arith) g.sets rq in
      let few = q.few in
      let all = leads_from (run P most S y (choice_of D) q.to) (run P most S y (set_word (temp 0) D) q.to) 1 g.t
      (settle g.to) (if_other checked fs bs S.env (Var (scratch 0)) Nop (set_word (temp 0) D) q.to
      (var_read fs bs S.env q.to (scratch 0) 0 q.sets.value)) g.leads in
      record {
        t = q.t + (1 + g.t);
        to = g.to;
        few = omega (arith, few, g.few);
        rel = rg;
        word = g.sets.value;
        rounds = g.sets.rounds ∙ q.sets.rounds;
        moves = moves_from (run P most S y (Then (rest_of D) b) f) (run P most S y (Then (choice_of D) b) q.to)
            (run P most S y b g.to) q.t (1 + g.t)
            (then_moves checked fs bs S.env (only (Let (scratch 0) op.Tltu (Var (temp 0)) (Const D)))
            (Then (choice_of D) b) f q.to q.t q.leads)
            (then_moves checked fs bs S.env (choice_of D) b q.to g.to (1 + g.t) all);
      }

  -- behind the subtraction temporary 0 says how many sections are skipped
  pub dense_skips : (low w D : ℕ) (b : Code) (s : eval.State) (f : State) → 1 ≤ D → Related S s f
      → f.vars (temp 0) ≡ Some w
      → Skipped P most S y x (Then (dense_code low D) b) f s (at_most ((w + (2 ^ 64 - low)) % 2 ^ 64) D)
      (3 + at_most ((w + (2 ^ 64 - low)) % 2 ^ 64) D) b
  unfolding apply
  dense_skips low w D b s f some r e =
      let fs = functions P most in
      let bs = base P most in
      let d = (w + (2 ^ 64 - low)) % 2 ^ 64 in
      let p = puts_let fs bs S.env op.Sub (Var (temp 0)) (Const low) f 1 (temp 0) 80 w low d (omega arith)
      (var_read fs bs S.env f (temp 0) w e) refl refl in
      let rp = sets_unseen S y s f p.to (temp 0) 80 d (omega arith) (omega arith) p.sets r in
      let few = p.few in
      let n = tested D d b s p.to some rp p.sets.value (nat_lt d D) refl in
      record {
        t = p.t + n.t;
        to = n.to;
        few = omega (arith, few, n.few);
        rel = n.rel;
        word = n.word;
        rounds = n.rounds ∙ p.sets.rounds;
        moves = moves_from (run P most S y (Then (dense_code low D) b) f) (run P most S y (Then (rest_of D) b) p.to)
            (run P most S y b n.to) p.t n.t (then_moves checked fs bs S.env
            (only (Let (temp 0) op.Sub (Var (temp 0)) (Const low))) (Then (rest_of D) b) f p.to p.t p.leads) n.moves;
      }
