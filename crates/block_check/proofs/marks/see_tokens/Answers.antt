use Rattle.std.proofs.Common.{◌≡◌, ◌≤◌, ℕ, get_or, take, min, arith, ap, sym, ◌∙◌, List}
use Rattle.std.proofs.lemmas.Option.{slice_get-get_or}
use Rattle.block_cases.specs.Cases.{tokens}
use Rattle.block_check.specs.inside.Pass.{tok_at}
use Rattle.block_check.proofs.Adding.{blank}
use Rattle.block_check.proofs.Seeing.{seen_more, seen_same, tells_two, tells_none}
use Rattle.block_check.proofs.Sparing.{tokens_spare}
use Rattle.block_check.proofs.marks.see_tokens.Goals as goal
use Rattle.block_check.proofs.marks.see_tokens.Goals.{then-is_present, else-is_present}

low : (k t : ℕ) → k ≡ min 2 t → k ≤ 2
low k t e = omega (arith, e)

pub see_node-requires-clause-low : goal.see_node-requires-clause-low
see_node-requires-clause-low c q lt = low _ _ (c.loop-x.invariant q lt)

pub loop-x-preserved : goal.loop-x-preserved
loop-x-preserved c =
    let here = slice_get-get_or c.args.nodes.now c.loop-x.x blank (omega arith) in
    elim c.if-is_present.branch [
      | then-is_present w ↦ λ q lt.
          ap (λ (l : List ℕ). get_or l q 0) w.seen-is
          ∙ seen_more c.args.nodes.now c.loop-x.x (get_or c.args.nodes.now c.loop-x.x blank)
          (tok_at c.args.toks.now) q _ _ here (sym c.is_present.ensures
          ∙ w.if-is_present.true) (c.loop-x.invariant q lt) (w.see_node.ensures q lt)
      | else-is_present w ↦ λ q lt.
          ap (λ (l : List ℕ). get_or l q 0) w.seen-is
          ∙ seen_same c.args.nodes.now c.loop-x.x (get_or c.args.nodes.now c.loop-x.x blank)
          (tok_at c.args.toks.now) q _ here (sym c.is_present.ensures
          ∙ w.if-is_present.false) (c.loop-x.invariant q lt)
    ]

pub returns-clause-two : goal.returns-clause-two
returns-clause-two c q lt =
    let all : c.loop-x.x ≡ c.args.used = omega arith in
    tells_two _ _ (c.loop-x.invariant q lt
    ∙ ap (λ k. min 2 (tokens (take k c.args.nodes.now) (tok_at c.args.toks.now) q)) all
    ∙ ap (λ k. min 2 k) (tokens_spare c.args.nodes.now c.args.used (tok_at c.args.toks.now) q
    c.requires.rest))

pub returns-clause-none : goal.returns-clause-none
returns-clause-none c q lt =
    let all : c.loop-x.x ≡ c.args.used = omega arith in
    tells_none _ _ (c.loop-x.invariant q lt
    ∙ ap (λ k. min 2 (tokens (take k c.args.nodes.now) (tok_at c.args.toks.now) q)) all
    ∙ ap (λ k. min 2 k) (tokens_spare c.args.nodes.now c.args.used (tok_at c.args.toks.now) q
    c.requires.rest))
