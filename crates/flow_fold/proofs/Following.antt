-- A block may stand for itself, and one pass may follow another.
use Rattle.std.proofs.Common.{refl, ap, ◌∙◌}
use Rattle.ir_forms.specs.declared.flow.FlowBlock.{FlowBlock}
use Rattle.flow_fold.specs.inside.Replaces.{Replaces, Takes, LeavesOwn, Immediates, names_label}

-- a block may stand for itself
pub stands_for_itself : (f : FlowBlock) → Replaces f f
stands_for_itself f = record {
  regular = λ r own t. t.regular;
  complete = λ r own t. t.complete;
  means = λ r own t at b x. x;
  labels = λ j n e t. record { place = j; node = n; there = e; op = refl; imm = refl };
}

taken_on : (f g : FlowBlock) → Replaces f g → (r : Immediates) → LeavesOwn r → Takes r f → Takes r g
taken_on f g a r own t = record { complete = a.complete r own t; regular = a.regular r own t }

-- one pass may follow another
pub stands_on : (f g h : FlowBlock) → Replaces f g → Replaces g h → Replaces f h
stands_on f g h a b = record {
  regular = λ r own t. b.regular r own (taken_on f g a r own t);
  complete = λ r own t. b.complete r own (taken_on f g a r own t);
  means = λ r own t at x z. b.means r own (taken_on f g a r own t) at x (a.means r own t at x z);
  labels = λ j n e t.
      let s = b.labels j n e t in
      let z = a.labels s.place s.node s.there (ap names_label s.op ∙ t) in
      record { place = z.place; node = z.node; there = z.there; op = z.op ∙ s.op; imm = z.imm ∙ s.imm };
}
