use Rattle.std.proofs.Common.{◌<◌, ◌≤◌, length, sym, ◌∙◌, subst}
use Rattle.std.specs.Prelude.{All}
use Rattle.operand_net.specs.inside.Places.{Once}
use Rattle.commit_flush_spec.specs.inside.Laws.{AreNumbers}
use Rattle.commit_flush.specs.Places.{numbers_of}
use Rattle.commit_flush.proofs.CountFacts.{at_most_eight}
use Rattle.grid_machine.proofs.NumberFacts.{all_below, each_once}
use Rattle.grid_machine.proofs.asking.numbers.Goals as goal

pub copied-requires : goal.copied-requires
copied-requires c =
    subst (λ ns. length ns ≤ 8) (sym c.numbers.ensures.value)
    (at_most_eight (numbers_of c.args.window.now.window.frames) c.keeps_invariant.ensures.window.numbers)

pub returns : goal.returns
returns c =
    let is = c.copied.ensures ∙ c.numbers.ensures.value in
    let ok = c.keeps_invariant.ensures.window.numbers in
    record {
      value = is;
      within = subst (All (λ n. n < 8)) (sym is) (all_below (numbers_of c.args.window.now.window.frames) ok);
      once = subst Once (sym is) (each_once (numbers_of c.args.window.now.window.frames) ok);
      distinct = subst AreNumbers (sym is) ok;
    }
