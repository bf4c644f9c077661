-- An unguarded block may stand for the block.
use Rattle.ir_forms.specs.declared.flow.FlowBlock.{FlowBlock}
use Rattle.predication.specs.inside.Labels.{resolved}
use Rattle.flow_guards.specs.inside.Unguards.{Unguards}
use Rattle.flow_guards.proofs.Fitting.{keeps_complete}
use Rattle.flow_guards.proofs.Labels.{keeps_labels}
use Rattle.flow_guards.proofs.Meaning.{keeps_meaning}
use Rattle.flow_guards.proofs.Regular.{keeps_nodes, keeps_regular}
use Rattle.flow_ease.specs.inside.Eases.{Eases}

-- a block whose nodes lose guards that nobody needs may stand for the block
pub eases_unguarded : (f g : FlowBlock) → Unguards f g → Eases f g
eases_unguarded f g u = record {
  regular = λ a t. keeps_regular f g u t.regular;
  complete = λ a t. keeps_complete (resolved a f) (resolved a g) (keeps_labels a f g u) t.complete;
  means = λ at b t m. keeps_meaning at b (resolved at.address f) (resolved at.address g)
      (keeps_labels at.address f g u) m;
  labels = λ j n e l.
      let s = keeps_nodes f g j n u e in
      record { place = j; node = s.node; there = s.there; op = s.op; imm = s.imm };
}
