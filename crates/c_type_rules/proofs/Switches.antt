-- A switch keeps what holds, and its typed tree is well formed.
use Rattle.std.proofs.Common.{◌≡◌, ℕ, ◌<◌, List, [], ◌∷◌, ◌++◌}
use Rattle.std.proofs.Common.{map, length, Option, Some, ap, ◌∙◌}
use Rattle.std.specs.Prelude.{slice_get}
use Rattle.std.proofs.lemmas.Bool.{ltb-true}
use Rattle.c_tree.specs.declared.token.Kind.{Kind}
use Rattle.c_tree.specs.declared.tree.Expr.{Expr}
use Rattle.c_tree.specs.declared.typed.Slot.TheVariants as slot
use Rattle.c_tree.specs.declared.typed.TypedFunc.{TypedFunc}
use Rattle.c_tree.specs.declared.typed.TypedProgram.{TypedProgram}
use Rattle.c_tree.specs.declared.typed.TypedStmt.TheVariants as typed
use Rattle.c_type_expr.specs.Trees.{tree}
use Rattle.c_type_expr.specs.Conversions.{kind_of}
use Rattle.c_type.specs.States.{with_switch, in_switch}
use Rattle.c_type.specs.Statements.{SectionPart, label_word, sections_fault, sections_after, sections_trees}
use Rattle.c_type.specs.Statements.{switch_kind, node_part, all_after}
use Rattle.c_tree.specs.declared.tree.ForInit.TheOpen.{StmtNode-F}
use Rattle.c_type_rules.specs.inside.KeptStatements.{RunsSections}
use Rattle.c_type_rules.specs.inside.KeptStatements as rule
use Rattle.c_type_rules.specs.inside.WellFormed.{Each}
use Rattle.c_type_rules.proofs.Moves.{split, held, Fine, Moves}
use Rattle.c_type_rules.proofs.Moves.{further, before}
use Rattle.c_type_rules.proofs.Conversions.{promoted_once}
use Rattle.c_type_rules.proofs.Lists.{at_end, labels_good}
use Rattle.c_type_rules.proofs.SoundStatements.{asks, full_converted, Sound, SoundAll, run}
use Rattle.c_type_rules.proofs.Declarations.{still_more, one_more, switch_ahead}

module _ (P : TypedProgram) (f : TypedFunc) where
  -- the trees of sections of a switch of the type, behind these labels, are well formed
  abbrev SoundSections : Kind → List (Option ℕ) → List SectionPart → Type 0
  SoundSections k seen xs =
      Moves P f (RunsSections P f k seen) (sections_after xs) (sections_fault k seen xs) (sections_trees k xs)

  -- sections in order
  on_sections : (k : Kind) (seen : List (Option ℕ)) (xs : List SectionPart)
      → Each (λ (x : SectionPart). SoundAll P f x.body) xs → SoundSections k seen xs
  on_sections k seen [] h = asks P f _ _ _ (λ b v i e. rule.no_section)
  on_sections k seen (x ∷ xs) h =
      let words = map (label_word k) x.labels in
      let rest = on_sections k (seen ++ words) xs h.1 in
      record {
        ahead = λ v. further P f v (all_after x.body v) (sections_after xs (all_after x.body v)) (h.0.ahead v)
            (rest.ahead (all_after x.body v));
        runs = λ b v i w e.
            let s = split _ _ e in
            let q = split _ _ s.0 in
            let u = all_after x.body v in
            let r = h.0.runs b v i (before P f u (sections_after xs u) (rest.ahead u) w) q.1 in
            let t = rest.runs b u r.0 w s.1 in
            (t.0, rule.a_section (labels_good k seen x.labels v.names q.0) r.1 t.1);
      }

  -- a switch
  pub on_switch : (test : Expr) (xs : List SectionPart) (l : ℕ) → Each (λ (x : SectionPart). SoundAll P f x.body) xs
      → Sound P f (node_part (StmtNode-F.Switch test xs) l)
  on_switch test xs l h = record {
    ahead = λ v.
        let k = switch_kind test v.names in
        let u = with_switch k v in
        further P f v u (sections_after xs u) (switch_ahead P f k v) ((on_sections k [] xs h).ahead u);
    runs = λ b v i w e.
        let k = switch_kind test v.names in
        let u = with_switch k v in
        let m = on_sections k [] xs h in
        let s = split _ _ e in
        let q = split _ _ s.1 in
        let few : length v.scalars < 64 = ltb-true (length v.scalars) 64 (held _ _ q.0) in
        let within = before P f u (sections_after xs u) (m.ahead u) w in
        let is : slice_get f.scalars (length v.scalars) ≡ Some (slot.Scalar k) =
        ap (λ ss. slice_get ss (length v.scalars)) within.are
        ∙ at_end v.scalars (slot.Scalar k) within.scalars in
        let fine : Fine P f u = record {
          names = i.names;
          result = i.result;
          params = still_more P f v.scalars (slot.Scalar k) f.params i.params;
          count = one_more P f v.scalars (slot.Scalar k) few;
          arrays = i.arrays;
        } in
        let r = m.runs (in_switch b) u fine w q.1 in (
          r.0,
          run P f b _ _ (typed.rolls-Switch _ _ _)
              (rule.switch i.params is (promoted_once (kind_of (tree test v.names)))
              (full_converted P f k test v.names i.names s.0) r.1),
        );
  }
