use Rattle.std.proofs.Common.{◌≡◌, ◌≤◌, ◌+◌, ◌*◌, ℕ, get_or, take, arith, ap, sym, ◌∙◌, subst, List}
use Rattle.std.proofs.lemmas.Option.{slice_get-get_or}
use Rattle.block_cases.specs.Cases.{tokens}
use Rattle.block_check.specs.inside.Pass.{tok_at}
use Rattle.block_check.proofs.Adding.{count_more, count_same, room_more, blank}
use Rattle.block_check.proofs.Sparing.{tokens_spare}
use Rattle.block_check.proofs.search.count_tokens.Goals as goal
use Rattle.block_check.proofs.search.count_tokens.Goals.{then-is_present, else-is_present}

pub loop-x-preserved : goal.loop-x-preserved
loop-x-preserved c =
    let here = slice_get-get_or c.args.nodes.now c.loop-x.x blank (omega arith) in
    elim c.if-is_present.branch [
      | then-is_present w ↦ record {
        room = λ q lt.
            let P : List ℕ → Type 0 = λ l. get_or l q 0 ≤ 2 * (c.loop-x.x + 1) in
            subst P (sym w.counts-is) (room_more (get_or c.args.nodes.now c.loop-x.x blank) q
            c.loop-x.x _ _ (c.loop-x.invariant.room q lt) (w.add_tokens.ensures q lt));
        counted = λ q lt.
            ap (λ l. get_or l q 0) w.counts-is
            ∙ count_more c.args.nodes.now c.loop-x.x (get_or c.args.nodes.now c.loop-x.x blank)
            (tok_at c.args.toks.now) q _ _ here (sym c.is_present.ensures
            ∙ w.if-is_present.true) (c.loop-x.invariant.counted q lt) (w.add_tokens.ensures q
            lt);
      }
      | else-is_present w ↦ record {
        room = λ q lt.
            let P : List ℕ → Type 0 = λ l. get_or l q 0 ≤ 2 * (c.loop-x.x + 1) in
            let old = c.loop-x.invariant.room q lt in
            subst P (sym w.counts-is) (omega (arith, old));
        counted = λ q lt.
            ap (λ l. get_or l q 0) w.counts-is
            ∙ count_same c.args.nodes.now c.loop-x.x (get_or c.args.nodes.now c.loop-x.x blank)
            (tok_at c.args.toks.now) q _ here (sym c.is_present.ensures
            ∙ w.if-is_present.false) (c.loop-x.invariant.counted q lt);
      }
    ]

pub returns : goal.returns
returns c q lt =
    let all : c.loop-x.x ≡ c.args.used = omega arith in
    c.loop-x.invariant.counted q lt
    ∙ ap (λ k. tokens (take k c.args.nodes.now) (tok_at c.args.toks.now) q) all
    ∙ tokens_spare c.args.nodes.now c.args.used (tok_at c.args.toks.now) q c.requires.rest
