use Rattle.std.proofs.Common.{List, refl, ap, ◌∙◌}
use Rattle.std.specs.Prelude.{None}
use Rattle.ir_forms.specs.declared.hyper.HyperItem.{HyperItem}
use Rattle.ir_forms.specs.inside.HyperViews.{block_of, items_of}
use Rattle.predication.specs.declared.work.Work.{Work}
use Rattle.predication.specs.declared.work.Names.{Names}
use Rattle.predication.specs.declared.work.Emitted.{Emitted}
use Rattle.predication.specs.inside.Tails.{labelled_block}
use Rattle.predication.specs.inside.Ends.{ends}
use Rattle.predication.proofs.MadeLemmas.{all_emitted}
use Rattle.predication.proofs.conversion.emitted.Goals as goal

pub returns : goal.returns
returns c =
    let w0 : Work = record { nodes = c.new.result; number = 0 } in
    let n0 : Names = record { entries = c.new-2.result; bits = c.new-3.result; sets = c.new-4.result } in
    let e : Emitted = record {
      nodes = c.finish.new.work.nodes;
      names = c.finish.new.names;
      numbers = c.items.new.work.number;
      exits = c.finish.new.work.number;
    } in
    all_emitted (labelled_block (block_of c.args.block.now)) w0 c.items.new.work c.finish.new.work n0
    c.items.new.names c.finish.new.names e c.new.ensures.value refl
    (record { entries = c.new-2.ensures.value; bits = c.new-3.ensures.value; sets = c.new-4.ensures.value })
    (c.in_ok-items.ensures
    ∙ ap (λ (x : List HyperItem). ends None w0 n0 (items_of x)) c.as_slice.ensures.value)
    (record {
      work = c.in_ok-finish.ensures.work;
      env = c.in_ok-finish.ensures.env;
      sets = c.in_ok-finish.ensures.sets;
    }) refl refl refl refl
