use Rattle.std.proofs.Common.{◌+◌, length, subst, sym, ◌∙◌, arith}
use Rattle.block_cases.specs.Blocks.{nodes_of}
use Rattle.block_check.specs.inside.Pass.{AllInPlace}
use Rattle.block_check.proofs.Fitting.{nodes_in_place}
use Rattle.block_check.proofs.CutFaults.{places_cut}
use Rattle.block_check.proofs.UsedSlots.{unwanted, ok_whole, ok_ranked, err_whole}
use Rattle.block_check.proofs.verdict.judge_cases.Goals as goal

pub judge-requires-clause-in_place : goal.judge-requires-clause-in_place
judge-requires-clause-in_place c = subst AllInPlace (sym (c.as_slice.ensures.value
    ∙ c.make_nodes-nodes.ensures)) (places_cut (nodes_of c.args.block.now) (length
    c.args.block.now.reads.items + c.args.used) (nodes_in_place c.args.block.now c.requires.fits))

pub judge-requires-clause-low : goal.judge-requires-clause-low
judge-requires-clause-low c q lt = c.mark_wanted.ensures q (omega arith)
    ∙ unwanted c.args.block.now q lt

pub returns-clause-good : goal.returns-clause-good
returns-clause-good c = ok_whole c.args.block.now c.args.used c.requires.fits c.requires.within
    c.requires.empty c.judge.result c.as_slice.result.now c.mark_wanted.new.wanted
    (c.as_slice.ensures.value ∙ c.make_nodes-nodes.ensures) c.mark_wanted.ensures
    c.judge.ensures.good

pub returns-clause-ranked : goal.returns-clause-ranked
returns-clause-ranked c = ok_ranked c.args.block.now c.requires.fits c.judge.result (ok_whole
    c.args.block.now c.args.used c.requires.fits c.requires.within c.requires.empty c.judge.result
    c.as_slice.result.now c.mark_wanted.new.wanted (c.as_slice.ensures.value
    ∙ c.make_nodes-nodes.ensures) c.mark_wanted.ensures c.judge.ensures.good)

pub returns-clause-fault : goal.returns-clause-fault
returns-clause-fault c = err_whole c.args.block.now c.args.used c.requires.fits c.requires.within
    c.requires.empty c.judge.result c.as_slice.result.now c.mark_wanted.new.wanted
    (c.as_slice.ensures.value ∙ c.make_nodes-nodes.ensures) c.mark_wanted.ensures
    c.judge.ensures.fault
