use Rattle.std.proofs.Common.{◌≡◌, ℕ, suc, ◌+◌, ◌<◌, List, ap, sym, subst, ◌∙◌, arith}
use Rattle.trips_isa.specs.declared.run.Stepped.{Stepped}
use Rattle.trips_isa.specs.declared.run.Stepped.TheVariants.{Went, Ended, StackFull, Trap}
use Rattle.trips_isa.specs.Machine.{State, step_of}
use Rattle.block_cases.specs.inside.Plain.{IsTrap}
use Rattle.trace_verify.specs.declared.fault.VerifyFault.TheVariants.{Faulting, WrongExit}
use Rattle.trace_verify.specs.Spelling.{exit_taken}
use Rattle.trace_verify.specs.Reading.{Number, Stopped, Progress, Reading, before, within, stepped_to}
use Rattle.trace_verify.specs.inside.Verifying.{reading_of, progress_of}
use Rattle.trace_verify.proofs.Holding.{exit_told, entry_kept, entry_other}
use Rattle.trace_verify.proofs.taking.entry_done.Goals as goal

pub returns-in-Trap-clause-read : goal.returns-in-Trap-clause-read
returns-in-Trap-clause-read c =
    ap reading_of c.go.ensures.parts
    ∙ ap (λ (xs : List ℕ). within (Stopped (Faulting p.count)) xs (record p { state = c.step.new.self.state }))
    c.go.ensures.seen
    ∙ ap (λ (u : State). before (Stopped (Faulting p.count)) (record p { state = u }))
    (c.step.ensures.trap (subst IsTrap (sym c.in-Trap.is) tt))
    ∙ sym (entry_kept c.args.parts.now.image.blocks p c.args.parts.now.exit c.args.parts.now.taken c.if-parts.true
    taken
    c.step.new.self.state (Trap c.in-Trap.field-0)
    (ap (λ (o : Stepped). (c.step.new.self.state, o)) (sym c.in-Trap.is) ∙ c.step.ensures.step))
  where
    p : Progress
    p = progress_of c.args.parts.now

    taken : c.args.parts.now.taken ≡ exit_taken c.args.parts.now.image.blocks c.args.parts.now.arch.state
    taken = exit_told c.args.parts.now.image.blocks c.args.parts.now.arch.state c.args.parts.now.tokens
        c.args.parts.now.marks c.args.parts.now.taken c.requires.runs.next c.requires.ready.tells

pub returns-in-Went-clause-read : goal.returns-in-Went-clause-read
returns-in-Went-clause-read c =
    ap reading_of c.step_on.ensures.parts
    ∙ ap (λ (xs : List ℕ). within Number xs (record p {
      state = c.step.new.self.state;
      answer = Went;
      count = p.count + 1;
    })) c.step_on.ensures.seen
    ∙ ap (λ (n : ℕ). before Number (record p { state = c.step.new.self.state; answer = Went; count = n })) next
    ∙ sym (entry_kept c.args.parts.now.image.blocks p c.args.parts.now.exit c.args.parts.now.taken c.if-parts.true
    taken
    c.step.new.self.state Went (ap (λ (o : Stepped). (c.step.new.self.state, o)) (sym c.in-Went.is)
    ∙ c.step.ensures.step))
  where
    p : Progress
    p = progress_of c.args.parts.now

    next : p.count + 1 ≡ suc p.count
    next = omega arith

    taken : c.args.parts.now.taken ≡ exit_taken c.args.parts.now.image.blocks c.args.parts.now.arch.state
    taken = exit_told c.args.parts.now.image.blocks c.args.parts.now.arch.state c.args.parts.now.tokens
        c.args.parts.now.marks c.args.parts.now.taken c.requires.runs.next c.requires.ready.tells

pub returns-in-Ended-clause-read : goal.returns-in-Ended-clause-read
returns-in-Ended-clause-read c =
    ap reading_of c.step_on-in-Ended.ensures.parts
    ∙ ap (λ (xs : List ℕ). within Number xs (record p {
      state = c.step.new.self.state;
      answer = Ended;
      count = p.count + 1;
    })) c.step_on-in-Ended.ensures.seen
    ∙ ap (λ (n : ℕ). before Number (record p { state = c.step.new.self.state; answer = Ended; count = n })) next
    ∙ sym (entry_kept c.args.parts.now.image.blocks p c.args.parts.now.exit c.args.parts.now.taken c.if-parts.true
    taken
    c.step.new.self.state Ended (ap (λ (o : Stepped). (c.step.new.self.state, o)) (sym c.in-Ended.is)
    ∙ c.step.ensures.step))
  where
    p : Progress
    p = progress_of c.args.parts.now

    next : p.count + 1 ≡ suc p.count
    next = omega arith

    taken : c.args.parts.now.taken ≡ exit_taken c.args.parts.now.image.blocks c.args.parts.now.arch.state
    taken = exit_told c.args.parts.now.image.blocks c.args.parts.now.arch.state c.args.parts.now.tokens
        c.args.parts.now.marks c.args.parts.now.taken c.requires.runs.next c.requires.ready.tells

pub returns-in-StackFull-clause-read : goal.returns-in-StackFull-clause-read
returns-in-StackFull-clause-read c =
    ap reading_of c.step_on-in-StackFull.ensures.parts
    ∙ ap (λ (xs : List ℕ). within Number xs (record p {
      state = c.step.new.self.state;
      answer = StackFull;
      count = p.count + 1;
    })) c.step_on-in-StackFull.ensures.seen
    ∙ ap (λ (n : ℕ). before Number (record p { state = c.step.new.self.state; answer = StackFull; count = n })) next
    ∙ sym (entry_kept c.args.parts.now.image.blocks p c.args.parts.now.exit c.args.parts.now.taken c.if-parts.true
    taken
    c.step.new.self.state StackFull (ap (λ (o : Stepped). (c.step.new.self.state, o)) (sym c.in-StackFull.is)
    ∙ c.step.ensures.step))
  where
    p : Progress
    p = progress_of c.args.parts.now

    next : p.count + 1 ≡ suc p.count
    next = omega arith

    taken : c.args.parts.now.taken ≡ exit_taken c.args.parts.now.image.blocks c.args.parts.now.arch.state
    taken = exit_told c.args.parts.now.image.blocks c.args.parts.now.arch.state c.args.parts.now.tokens
        c.args.parts.now.marks c.args.parts.now.taken c.requires.runs.next c.requires.ready.tells

pub returns-else-parts-clause-read : goal.returns-else-parts-clause-read
returns-else-parts-clause-read c =
    ap reading_of c.go-else-parts.ensures.parts
    ∙ ap (λ (xs : List ℕ). within (Stopped (WrongExit p.count)) xs p) c.go-else-parts.ensures.seen
    ∙ sym (entry_other c.args.parts.now.image.blocks p c.args.parts.now.exit c.args.parts.now.taken c.if-parts.false
    taken)
  where
    p : Progress
    p = progress_of c.args.parts.now

    taken : c.args.parts.now.taken ≡ exit_taken c.args.parts.now.image.blocks c.args.parts.now.arch.state
    taken = exit_told c.args.parts.now.image.blocks c.args.parts.now.arch.state c.args.parts.now.tokens
        c.args.parts.now.marks c.args.parts.now.taken c.requires.runs.next c.requires.ready.tells
