use Rattle.flat_lower.specs.inside.Emitted.{Adds, block_of}
use Rattle.flat_lower.specs.inside.Switches.{section_code}
use Rattle.std.proofs.Common.{◌≡◌, ◌+◌, suc, ◌∷◌, drop, sym, ap, ◌∙◌, subst, arith}
use Rattle.std.proofs.Math.Seq.{drop-cons}
use Rattle.c_tree.specs.declared.TypedStmt.{TypedStmt}
use Rattle.c_tree.specs.declared.TypedSection.{TypedSection}
use Rattle.flat_lower.specs.inside.TreeViews.{stmt_of}
use Rattle.flat_lower.specs.inside.Statements.{stmt_code, stmts_code, first_code}
use Rattle.flat_lower.specs.inside.Emitted.{first_of, other_of}
use Rattle.flat_lower.proofs.Emits.{two, turned, nothing, then_nop}
use Rattle.flat_lower.proofs.EmitStatements.{stmt-Declare, stmt-Plain, stmt-Compound, stmt-If}
use Rattle.flat_lower.proofs.EmitStatements.{stmt-While, stmt-Do, stmt-For, stmt-Break}
use Rattle.flat_lower.proofs.EmitStatements.{stmt-Continue, stmt-Switch}
use Rattle.flat_lower.proofs.EmitStatements.{stmt-Return, first-Nothing, first-First, first-Locals}
use Rattle.flat_lower.proofs.EmitCounts.{stmts_in, stmts_in_first, StmtsSoFar, stmts_go_on}
use Rattle.flat_lower.proofs.EmitCounts.{stmts_end, SectionsSoFar, sections_go_on, sections_end}
use Rattle.flat_lower.proofs.EmitArguments.{drop_all}
use Rattle.flat_lower.proofs.statements.+stmt.Goals as goal

pub put_choice-returns : goal.put_choice-returns
put_choice-returns t c = let h = two c.in_ok-put_value.ensures c.in_ok-put_if.ensures in grind (arith, h)

pub put_for_loop-returns : goal.put_for_loop-returns
put_for_loop-returns t c = let h = two c.in_ok-put_first.ensures c.in_ok-put_for.ensures in grind (arith, h)

pub put_stmts-loop-s-preserved : goal.put_stmts-loop-s-preserved
put_stmts-loop-s-preserved t c =
    let all = c.args.all.now in
    let i = c.loop-s.s-index in
    let a = c.s-item.result in
    let e1 : i + 1 ≡ suc i = omega arith in
    let dc : drop i all ≡ a ∷ drop (i + 1) all =
    drop-cons all i a (omega arith) ∙ ap (λ (x : TypedStmt). x ∷ drop (suc i) all) (sym c.s-item.is)
    ∙ ap (λ n. a ∷ drop n all) (sym e1) in
    let old = c.args.code.now in
    let s = subst (λ r. StmtsSoFar c.args.places.now c.args.around all r old c.loop-s.code) dc c.loop-s.invariant in
    stmts_go_on c.args.places.now c.args.around all (drop (i + 1) all) a old c.loop-s.code c.put_stmt.new.code s
    c.in_ok-put_stmt.ensures

pub put_stmts-returns : goal.put_stmts-returns
put_stmts-returns t c =
    let all = c.args.all.now in
    let e = drop_all all c.loop-s.s-index (omega arith) in
    let old = c.args.code.now in
    stmts_end c.args.places.now c.args.around all old c.loop-s.code
    (subst (λ r. StmtsSoFar c.args.places.now c.args.around all r old c.loop-s.code) e c.loop-s.invariant)

pub put_stmt-returns-in-Declare : goal.put_stmt-returns-in-Declare
put_stmt-returns-in-Declare t c =
    let h = ap (stmt_code c.args.places.now c.args.around) (ap stmt_of c.in-Declare.is
    ∙ stmt-Declare c.in-Declare.place
    c.in-Declare.init) in
    grind (arith, h)

pub put_stmt-returns-in-Plain : goal.put_stmt-returns-in-Plain
put_stmt-returns-in-Plain t c =
    let h = ap (stmt_code c.args.places.now c.args.around) (ap stmt_of c.in-Plain.is ∙ stmt-Plain c.in-Plain.e) in
    grind (arith, h)

pub put_stmt-put_stmts-requires : goal.put_stmt-put_stmts-requires
put_stmt-put_stmts-requires t c =
    let n = ap stmts_in (ap stmt_of c.in-Compound.is ∙ stmt-Compound c.in-Compound.all) in
    (grind (arith, n, c.decreases), tt)

pub put_stmt-returns-in-Compound : goal.put_stmt-returns-in-Compound
put_stmt-returns-in-Compound t c =
    let h = ap (stmt_code c.args.places.now c.args.around) (ap stmt_of c.in-Compound.is
    ∙ stmt-Compound c.in-Compound.all) in
    grind (arith, h)

pub put_stmt-put_choice-requires : goal.put_stmt-put_choice-requires
put_stmt-put_choice-requires t c =
    let n = ap stmts_in (ap stmt_of c.in-If.is ∙ stmt-If c.in-If.test c.in-If.yes c.in-If.no) in
    (grind (arith, n, c.decreases), tt)

pub put_stmt-returns-in-If : goal.put_stmt-returns-in-If
put_stmt-returns-in-If t c =
    let h = ap (stmt_code c.args.places.now c.args.around) (ap stmt_of c.in-If.is ∙ stmt-If c.in-If.test c.in-If.yes
    c.in-If.no) in
    grind (arith, h)

pub put_stmt-put_while_loop-requires : goal.put_stmt-put_while_loop-requires
put_stmt-put_while_loop-requires t c =
    let n = ap stmts_in (ap stmt_of c.in-While.is ∙ stmt-While c.in-While.test c.in-While.body) in
    (grind (arith, n, c.decreases), tt)

pub put_stmt-returns-in-While : goal.put_stmt-returns-in-While
put_stmt-returns-in-While t c =
    let h = ap (stmt_code c.args.places.now c.args.around) (ap stmt_of c.in-While.is ∙ stmt-While c.in-While.test
    c.in-While.body) in
    grind (arith, h)

pub put_stmt-put_do_loop-requires : goal.put_stmt-put_do_loop-requires
put_stmt-put_do_loop-requires t c =
    let n = ap stmts_in (ap stmt_of c.in-Do.is ∙ stmt-Do c.in-Do.body c.in-Do.test) in
    (grind (arith, n, c.decreases), tt)

pub put_stmt-returns-in-Do : goal.put_stmt-returns-in-Do
put_stmt-returns-in-Do t c =
    let h = ap (stmt_code c.args.places.now c.args.around) (ap stmt_of c.in-Do.is
    ∙ stmt-Do c.in-Do.body c.in-Do.test) in
    grind (arith, h)

pub put_stmt-put_for_loop-requires : goal.put_stmt-put_for_loop-requires
put_stmt-put_for_loop-requires t c =
    let n = ap stmts_in (ap stmt_of c.in-For.is ∙ stmt-For c.in-For.init c.in-For.test c.in-For.post
    c.in-For.body) in
    (grind (arith, n, c.decreases), tt)

pub put_stmt-returns-in-For : goal.put_stmt-returns-in-For
put_stmt-returns-in-For t c =
    let h = ap (stmt_code c.args.places.now c.args.around) (ap stmt_of c.in-For.is
    ∙ stmt-For c.in-For.init c.in-For.test
    c.in-For.post c.in-For.body) in
    grind (arith, h)

pub put_stmt-put_switch-requires : goal.put_stmt-put_switch-requires
put_stmt-put_switch-requires t c =
    let n = ap stmts_in (ap stmt_of c.in-Switch.is ∙ stmt-Switch c.in-Switch.scalar c.in-Switch.test
    c.in-Switch.sections) in
    (grind (arith, n, c.decreases), tt)

pub put_stmt-returns-in-Switch : goal.put_stmt-returns-in-Switch
put_stmt-returns-in-Switch t c =
    let h = ap (stmt_code c.args.places.now c.args.around) (ap stmt_of c.in-Switch.is ∙ stmt-Switch
    c.in-Switch.scalar c.in-Switch.test c.in-Switch.sections) in
    grind (arith, h)

pub put_switch-returns : goal.put_switch-returns
put_switch-returns t c = let h = two c.in_ok-put_value.ensures c.in_ok-put_switched.ensures in grind (arith, h)

pub put_sections-loop-section-preserved : goal.put_sections-loop-section-preserved
put_sections-loop-section-preserved t c =
    let all = c.args.sections.now in
    let i = c.loop-section.section-index in
    let a = c.section-item.result in
    let e1 : i + 1 ≡ suc i = omega arith in
    let dc : drop i all ≡ a ∷ drop (i + 1) all =
    drop-cons all i a (omega arith) ∙ ap (λ (x : TypedSection). x ∷ drop (suc i) all) (sym c.section-item.is)
    ∙ ap (λ n. a ∷ drop n all) (sym e1) in
    let old = c.args.code.now in
    let n = c.loop-section.n in
    let e2 : suc n ≡ n + 1 = omega arith in
    let s = subst (λ r. SectionsSoFar c.args.places.now c.args.around n all r old c.loop-section.code) dc
    c.loop-section.invariant.0 in
    let h = sections_go_on c.args.places.now c.args.around n all (drop (i + 1) all) a old c.loop-section.code
    c.put_section.new.code s (subst (λ b. Adds c.loop-section.code c.put_section.new.code
    (section_code n (stmts_code c.args.places.now c.args.around (block_of b)))) c.as_slice.ensures.value
    c.in_ok-put_section.ensures) in (
      subst (λ m. SectionsSoFar c.args.places.now c.args.around m all (drop (i + 1) all) old
          c.put_section.new.code) e2 h,
      ap (λ m. m + 1) c.loop-section.invariant.1,
    )

pub put_sections-returns : goal.put_sections-returns
put_sections-returns t c =
    let all = c.args.sections.now in
    let e = drop_all all c.loop-section.section-index (omega arith) in
    let old = c.args.code.now in
    let n = c.loop-section.n in
    sections_end c.args.places.now c.args.around n all old c.loop-section.code
    (subst (λ r. SectionsSoFar c.args.places.now c.args.around n all r old c.loop-section.code) e
    c.loop-section.invariant.0)

pub put_stmt-returns-in-Break : goal.put_stmt-returns-in-Break
put_stmt-returns-in-Break t c =
    let h = ap (stmt_code c.args.places.now c.args.around) (ap stmt_of c.in-Break.is ∙ stmt-Break) in
    grind (arith, h)

pub put_stmt-returns-in-Continue : goal.put_stmt-returns-in-Continue
put_stmt-returns-in-Continue t c =
    let h = ap (stmt_code c.args.places.now c.args.around) (ap stmt_of c.in-Continue.is ∙ stmt-Continue) in
    grind (arith, h)

pub put_stmt-returns-in-Return : goal.put_stmt-returns-in-Return
put_stmt-returns-in-Return t c =
    let h = ap (stmt_code c.args.places.now c.args.around) (ap stmt_of c.in-Return.is ∙ stmt-Return c.in-Return.e) in
    grind (arith, h)

pub put_first-returns-in-Nothing : goal.put_first-returns-in-Nothing
put_first-returns-in-Nothing t c =
    let h = ap (first_code c.args.places.now c.args.around) (ap first_of c.in-Nothing.is ∙ first-Nothing) in
    turned _ _ (sym h) (nothing _)

pub put_first-returns-in-First : goal.put_first-returns-in-First
put_first-returns-in-First t c =
    let h = ap (first_code c.args.places.now c.args.around) (ap first_of c.in-First.is ∙ first-First c.in-First.e) in
    grind (arith, h)

pub put_first-put_stmts-requires : goal.put_first-put_stmts-requires
put_first-put_stmts-requires t c =
    let n = ap stmts_in_first (ap first_of c.in-Locals.is ∙ first-Locals c.in-Locals.all) in
    (grind (arith, n, c.decreases), tt)

pub put_first-returns-in-Locals : goal.put_first-returns-in-Locals
put_first-returns-in-Locals t c =
    let h = ap (first_code c.args.places.now c.args.around) (ap first_of c.in-Locals.is
    ∙ first-Locals c.in-Locals.all) in
    grind (arith, h)

pub stmt_if-returns-in-Some : goal.stmt_if-returns-in-Some
stmt_if-returns-in-Some t c =
    let pl = c.args.places.now in
    let b = c.args.around in
    let h = ap (λ o. stmts_code pl b (other_of o)) c.in-Some.is ∙ then_nop (stmt_code pl b (stmt_of
    c.in-Some.s)) in grind (arith, h)
