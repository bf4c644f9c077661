use Rattle.std.proofs.Common.{not, is_some, length, refl, sym, ap, ◌∙◌, arith}
use Rattle.grid_parts.proofs.FlushFacts.{as_many}
use Rattle.grid_cycle_spec.specs.Fetches.{begins}
use Rattle.smt_mode.specs.Machines.{blocks_of, seen_of}
use Rattle.smt_mode.proofs.Begins.{begun_told, large_is, not_none, small_is}
use Rattle.smt_mode.proofs.TurnCounts.{begin_quiet, stays, still}
use Rattle.smt_mode.proofs.turns.begin.Goals as goal

pub returns-then-len-lt2-clause-value : goal.returns-then-len-lt2-clause-value
returns-then-len-lt2-clause-value c =
    let x = c.args.program.now in
    let size = as_many x.window.window.frames c.numbers.result.items (sym c.numbers.ensures.value) in
    let count = c.len.ensures.value in
    small_is (length x.window.window.frames) _ (is_some (begins (blocks_of x) (seen_of x)).fetching)
    (omega (arith, size, count, c.if-len-lt2.true))
    (ap not c.is_idle.ensures ∙ not_none c.fetch_begins.new.self.state.fetching
    ∙ ap (λ h. is_some h.fetching) c.fetch_begins.ensures.change)

pub returns-then-len-lt2-clause-change : goal.returns-then-len-lt2-clause-change
returns-then-len-lt2-clause-change c =
    let x = c.args.program.now in
    c.fetch_begins.ensures.change
    ∙ begun_told (blocks_of x) (seen_of x) _ (ap not c.is_idle.ensures
    ∙ not_none c.fetch_begins.new.self.state.fetching
    ∙ ap (λ h. is_some h.fetching) c.fetch_begins.ensures.change)

pub returns-then-len-lt2-clause-stays : goal.returns-then-len-lt2-clause-stays
returns-then-len-lt2-clause-stays c =
    let x = c.args.program.now in
    let same = c.fetch_begins.ensures.same in
    stays x c.fetch_begins.new.self (ap (λ w. w.image.blocks) same) (ap (λ w. w.budget) same) _
    c.fetch_begins.ensures.change (begin_quiet (blocks_of x) x.window.budget (seen_of x))

pub returns-else-len-lt2-clause-value : goal.returns-else-len-lt2-clause-value
returns-else-len-lt2-clause-value c =
    let x = c.args.program.now in
    let size = as_many x.window.window.frames c.numbers.result.items (sym c.numbers.ensures.value) in
    let count = c.len.ensures.value in
    large_is (length x.window.window.frames) (is_some (begins (blocks_of x) (seen_of x)).fetching)
    (λ l. omega (arith, size, count, l, c.if-len-lt2.false))

pub returns-else-len-lt2-clause-stays : goal.returns-else-len-lt2-clause-stays
returns-else-len-lt2-clause-stays c =
    let x = c.args.program.now in stays x x refl refl (seen_of x) refl (still (seen_of x))
