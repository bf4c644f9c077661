use Rattle.std.proofs.Common.{◌<◌, ◌≤◌, length, ap, sym, ◌∙◌, arith}
use Rattle.std.proofs.lemmas.Grind.{common_steps}
use Rattle.loop_unroll.specs.inside.Unrolled.{more_turns}
use Rattle.loop_unroll.proofs.Entries.{asked_past, asked_at, few_turns, many_turns}
use Rattle.loop_unroll.proofs.unrolling.asked.Goals as goal

pub returns-in-None : goal.returns-in-None
returns-in-None c =
    let l : length c.args.times.now ≤ c.args.number = grind (arith, common_steps) in
    sym (asked_past c.args.times.now c.args.number l)

pub returns-then-times-lt-MOST : goal.returns-then-times-lt-MOST
returns-then-times-lt-MOST c =
    let l : c.args.number < length c.args.times.now = grind (arith, common_steps) in
    let e = c.in-Some.ensures.lookup.1 in
    c.saturating_sub.ensures ∙ sym (few_turns c.in-Some.times.now c.if-times-lt-MOST.true) ∙ ap more_turns e
    ∙ sym (asked_at c.args.times.now c.args.number c.in-Some.times.now l)

pub returns-else-times-lt-MOST : goal.returns-else-times-lt-MOST
returns-else-times-lt-MOST c =
    let l : c.args.number < length c.args.times.now = grind (arith, common_steps) in
    let e = c.in-Some.ensures.lookup.1 in
    sym (many_turns c.in-Some.times.now c.if-times-lt-MOST.false) ∙ ap more_turns e
    ∙ sym (asked_at c.args.times.now c.args.number c.in-Some.times.now l)
