use Rattle.std.proofs.Common.{map, refl, sym, ◌∙◌}
use Rattle.std.proofs.lemmas.List.{length-map}
use Rattle.std.specs.Bool.{IsTrue}
use Rattle.std.proofs.lemmas.Result.{IfOk-weaker}
use Rattle.ir_forms.specs.inside.HyperViews.{block_of}
use Rattle.hyper_trim.specs.inside.Alive.{IsClosed, HasBlocks}
use Rattle.hyper_trim.proofs.Judged.{closed}
use Rattle.hyper_trim.proofs.alive.is_closed.Goals as goal

pub returns : goal.returns
returns c =
    let T = c.args.table.now in
    let P = map block_of c.args.blocks.now in
    IfOk-weaker c.blocks_within.result (λ b. IsTrue b → HasBlocks T c.args.ret T P)
    (λ b. IsTrue b → IsClosed T c.args.ret P)
    (λ b h t. closed T c.args.ret P (c.if-table-blocks.false ∙ sym (length-map c.args.blocks.now block_of))
    (c.if-not-returns_within.ensures refl) (h t)) c.blocks_within.ensures
