-- Each block may stand for itself, and where one pass follows another, the last block stands for the first.
use Rattle.std.proofs.Common.{◌≡◌, ℕ, true, refl, sym, subst, ◌∙◌}
use Rattle.trips_isa.specs.declared.op.Op.{Op}
use Rattle.ir_forms.specs.declared.flow.FlowNode.{FlowNode}
use Rattle.ir_forms.specs.declared.flow.FlowBlock.{FlowBlock}
use Rattle.flow_ease.specs.inside.Eases.{Eases, Stands, Takes, names_label}
use Rattle.flow_ease.specs.inside.Laws.{EasesItself, EasesOn, MeansByTables}
use Rattle.hyper_narrow.proofs.ActsAlike.{acts_on}

-- a block may stand for itself
pub eases_itself : EasesItself
eases_itself f = record {
  regular = λ a t. t.regular;
  complete = λ a t. t.complete;
  means = λ at b t m. m;
  labels = λ j n e l. record { place = j; node = n; there = e; op = refl; imm = refl };
}

-- what a pass made can be taken by the next
pub takes_on : (f g : FlowBlock) → Eases f g → (a : ℕ → ℕ) → Takes a f → Takes a g
takes_on f g s a t = record { complete = s.complete a t; regular = s.regular a t }

stands_on : (f g : FlowBlock) (n : FlowNode) → Eases f g → names_label n.op ≡ true → Stands g n → Stands f n
stands_on f g n s l at =
    let first = s.labels at.place at.node at.there (subst (λ (o : Op). names_label o ≡ true) (sym at.op) l) in
    record {
      place = first.place;
      node = first.node;
      there = first.there;
      op = first.op ∙ at.op;
      imm = first.imm ∙ at.imm;
    }

-- one pass may follow another
pub eases_on : EasesOn
eases_on f g h one two = record {
  regular = λ a t. two.regular a (takes_on f g one a t);
  complete = λ a t. two.complete a (takes_on f g one a t);
  means = λ at b t m. two.means at b (takes_on f g one at.address t) (one.means at b t m);
  labels = λ j n e l. stands_on f g n one l (two.labels j n e l);
}

-- a block means what a block means to whose tables its own come
pub means_by_tables : MeansByTables
means_by_tables at b f g follows means m h words start =
    let c = follows m h words start in
    let old = means m c.old words c.start in
    record {
      registers = λ r. c.registers r ∙ old.registers r;
      memory = c.memory ∙ old.memory;
      exit = c.exit _ _ old.exit;
      acts = acts_on _ _ _ c.acts old.acts;
    }
