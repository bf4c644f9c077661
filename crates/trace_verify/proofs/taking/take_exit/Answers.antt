use Rattle.std.proofs.Common.{◌≡◌, ℕ, suc, ◌+◌, List, ap, sym, subst, ◌∙◌, arith}
use Rattle.trace_verify.specs.declared.parts.Parts.{Parts}
use Rattle.trace_verify.specs.declared.parts.Stage.{Stage}
use Rattle.trace_verify.specs.Spelling.{Listed, listed_of}
use Rattle.trace_verify.specs.Reading.{Progress, Reading, records_next, take_at}
use Rattle.trace_verify.specs.inside.Verifying.{reading_of, progress_of, rest_from, place_of, StandsAt, IsReady}
use Rattle.trace_verify.proofs.Holding.{listed_told, ready_exit, running_exit}
use Rattle.trace_verify.proofs.taking.take_exit.Goals as goal

pub next_slot-requires-clause-runs : goal.next_slot-requires-clause-runs
next_slot-requires-clause-runs c = running_exit c.args.parts.now c.keep_exit.new.parts (c.args.parts.now.at + 1)
    c.args.byte c.keep_exit.ensures.parts c.requires.held.runs

pub next_slot-requires-clause-ready : goal.next_slot-requires-clause-ready
next_slot-requires-clause-ready c = ready_exit c.args.parts.now c.keep_exit.new.parts (c.args.parts.now.at + 1)
    c.args.byte c.keep_exit.ensures.parts
    (subst (λ (t : Stage). StandsAt c.args.parts.now t) c.requires.stage c.requires.held.stands).1

pub returns-clause-read : goal.returns-clause-read
returns-clause-read c =
    c.next_slot.ensures.read
    ∙ ap (λ (q : Parts). records_next q.image.blocks q.exit (progress_of q) (rest_from q 0)) c.keep_exit.ensures.parts
    ∙ ap (λ (n : ℕ). records_next p.image.blocks c.args.byte (record (progress_of p) { at = n }) (rest_from p 0)) next
    ∙ ap (λ (ls : List Listed). records_next p.image.blocks c.args.byte (record (progress_of p) { at = suc p.at }) ls)
    (sym (listed_told p c.requires.held.runs.next ready.tells))
    ∙ ap (λ (t : Stage). take_at p.image.blocks p.budget (place_of p t)
    (record { progress = progress_of p; place = place_of p t; seen = p.seen.items }) c.args.byte)
    (sym c.requires.stage)
  where
    p : Parts
    p = c.args.parts.now

    next : p.at + 1 ≡ suc p.at
    next = omega arith

    ready : IsReady p
    ready = (subst (λ (t : Stage). StandsAt p t) c.requires.stage c.requires.held.stands).1
