use Rattle.commit_flush.proofs.SeenFacts.{orders_below}
use Rattle.commit_flush.proofs.EmptyFacts.{empties_sound, empties_seen}
use Rattle.commit_flush.proofs.AccessFacts.{empty_stands}
use Rattle.commit_flush.proofs.window.Window.empty.Goals as goal

pub flush_from-requires : goal.flush_from-requires
flush_from-requires c = orders_below c.self.invariant.sound

pub invariant_of-self : goal.invariant_of-self
invariant_of-self c =
    empty_stands (empties_sound c.self.invariant.sound _ c.flush_from.ensures.frames _ c.flush_from.ensures.order _
    c.flush_from.ensures.dropped) c.flush_from.ensures.order

pub returns : goal.returns
returns c = record {
  window = empties_seen c.self.invariant.sound _ c.flush_from.ensures.frames _ c.self.view_is _
      c.flush_from.ensures.order;
}
