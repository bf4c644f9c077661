use Rattle.hyper_narrow.specs.inside.NarrowedViews.{narrowed_of}
use Rattle.predication.specs.inside.Tails.{labelled}
use Rattle.predication.proofs.MadeLemmas.{block_is, has_room, is_refused, if_ok, if_err}
use Rattle.predication.proofs.conversion.convert.Goals as goal

pub returns-in-Ok-clause-ok : goal.returns-in-Ok-clause-ok
returns-in-Ok-clause-ok c =
    if_ok c.limited.result _ _
    (λ f h. block_is (labelled (narrowed_of c.args.block.now)) c.in-Ok.emitted c.in-Ok.ensures f h)
    c.limited.ensures.ok

pub returns-in-Ok-clause-room : goal.returns-in-Ok-clause-room
returns-in-Ok-clause-room c =
    if_ok c.limited.result _ _
    (λ f h. has_room (labelled (narrowed_of c.args.block.now)) c.in-Ok.emitted c.in-Ok.ensures h.1)
    c.limited.ensures.ok

pub returns-in-Ok-clause-err : goal.returns-in-Ok-clause-err
returns-in-Ok-clause-err c =
    if_err c.limited.result _ _
    (λ x h. is_refused (labelled (narrowed_of c.args.block.now)) c.in-Ok.emitted c.in-Ok.ensures x h)
    c.limited.ensures.err
