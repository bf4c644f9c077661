use Rattle.std.proofs.Common.{sym, ap, ◌∙◌, arith, Bool}
use Rattle.std.specs.Prelude.{if◌then◌else◌}
use Rattle.std.proofs.lemmas.Bool.{ne_eqb}
use Rattle.target_file.proofs.Turns.{kept_on, skipped_on, some_is}
use Rattle.target_file.proofs.line_in_file.place_in_file.Goals as goal
use Rattle.target_file.proofs.line_in_file.place_in_file.Goals.{then-not-is_empty+else-behind-eq0}
use Rattle.target_file.proofs.line_in_file.place_in_file.Goals.{else-not-is_empty+then-first}
use Rattle.target_file.proofs.line_in_file.place_in_file.Goals.{else-not-is_empty+else-first}

pub loop-rest-preserved : goal.loop-rest-preserved
loop-rest-preserved c =
    let text = c.loop-rest.rest.now in
    let first = c.first_line-first.result in
    let is_first = c.first_line-first.ensures in
    let is_empty = c.is_empty-in-loop-rest.ensures in
    let less = is_first.less (some_is text (sym c.is_empty.ensures ∙ c.loop-rest-test.true)) in
    elim c.if-not-is_empty.branch [
      | then-not-is_empty+else-behind-eq0 w ↦ record {
        ahead = kept_on c.loop-rest.at c.loop-rest.behind c.if-not-is_empty.at c.if-not-is_empty.behind _ text
            first.tells.now first.ended first.rest.now is_first (sym is_empty ∙ w.if-not-is_empty.true)
            (ne_eqb c.loop-rest.behind 0 w.if-behind-eq0.false) w.at-is w.behind-is c.loop-rest.invariant.ahead;
        room = omega (arith, w.at-is, c.loop-rest.invariant.room, less);
      }
      | else-not-is_empty+then-first w ↦ record {
        ahead = skipped_on c.loop-rest.at c.loop-rest.behind c.if-not-is_empty.at c.if-not-is_empty.behind _ 1 text
            first.tells.now first.ended first.rest.now is_first (sym is_empty ∙ w.if-not-is_empty.false)
            (ap (λ (b : Bool). if b then 1 else 0) w.if-first.true) w.at-is w.behind-is
            c.loop-rest.invariant.ahead;
        room = omega (arith, w.at-is, c.loop-rest.invariant.room, less);
      }
      | else-not-is_empty+else-first w ↦ record {
        ahead = skipped_on c.loop-rest.at c.loop-rest.behind c.if-not-is_empty.at c.if-not-is_empty.behind _ 0 text
            first.tells.now first.ended first.rest.now is_first (sym is_empty ∙ w.if-not-is_empty.false)
            (ap (λ (b : Bool). if b then 1 else 0) w.if-first.false) (w.at-is ∙ omega arith) w.behind-is
            c.loop-rest.invariant.ahead;
        room = omega (arith, w.at-is, c.loop-rest.invariant.room, less);
      }
    ]
