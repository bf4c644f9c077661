use Rattle.std.proofs.Common.{◌≡◌, ◌||◌, ◌&&◌, ◌==◌, nat_lt, get_or, take, arith, ap, sym, ◌∙◌}
use Rattle.std.proofs.lemmas.Option.{slice_get-get_or}
use Rattle.block_cases.specs.Cases.{bit}
use Rattle.block_check.specs.inside.Named.{named}
use Rattle.block_check.specs.inside.Pass.{tok_at}
use Rattle.block_check.proofs.Adding.{blank}
use Rattle.block_check.proofs.Chains.{or_end}
use Rattle.block_check.proofs.Naming.{marked_more, all_twos, all_nones}
use Rattle.block_check.proofs.marks.mark.Goals as goal

pub loop-x-init : goal.loop-x-init
loop-x-init c = record {
  two = λ q lt. sym (or_end (bit c.args.two.now q));
  none = λ q lt. sym (or_end (bit c.args.none.now q));
}

pub loop-x-preserved : goal.loop-x-preserved
loop-x-preserved c =
    let here = slice_get-get_or c.args.nodes.now c.loop-x.x blank (omega arith) in
    record {
      two = λ q lt. marked_more c.args.nodes.now c.loop-x.x (get_or c.args.nodes.now c.loop-x.x
          blank) q _ _ _ _ here (c.loop-x.invariant.two q lt) (c.mark_node.ensures.two q lt);
      none = λ q lt. marked_more c.args.nodes.now c.loop-x.x (get_or c.args.nodes.now c.loop-x.x
          blank) q _ _ _ _ here (c.loop-x.invariant.none q lt) (c.mark_node.ensures.none q lt);
    }

pub returns-clause-two : goal.returns-clause-two
returns-clause-two c q lt =
    let all : c.loop-x.x ≡ c.args.used = omega arith in
    all_twos c.args.nodes.now c.args.used (tok_at c.args.toks.now) q (bit c.args.two.now q) (nat_lt
    1 (get_or c.see_tokens.new.seen q 0)) _ c.requires.rest
    (c.loop-x.invariant.two q lt ∙ ap (λ k. bit c.args.two.now q || (named (take k c.args.nodes.now)
    q && nat_lt 1 (get_or c.see_tokens.new.seen q 0))) all)
    (c.see_tokens.ensures.two q (omega arith))

pub returns-clause-none : goal.returns-clause-none
returns-clause-none c q lt =
    let all : c.loop-x.x ≡ c.args.used = omega arith in
    all_nones c.args.nodes.now c.args.used (tok_at c.args.toks.now) q (bit c.args.none.now q)
    (get_or c.see_tokens.new.seen q 0 == 0) _ c.requires.rest (c.requires.free q lt)
    (c.loop-x.invariant.none q lt ∙ ap (λ k. bit c.args.none.now q || (named (take k
    c.args.nodes.now) q && (get_or c.see_tokens.new.seen q 0 == 0))) all)
    (c.see_tokens.ensures.none q (omega arith))
