use Rattle.frame_state.proofs.PredicateFacts.{tells_high}
use Rattle.frame_state.proofs.spots.Spots.put_high.Goals as goal

pub invariant_of-self : goal.invariant_of-self
invariant_of-self c = rw (c.put.ensures.value, c.note.ensures.odd, c.note.ensures.even)
    (tells_high c.self.inside.row c.self.inside.odd c.self.inside.even c.args.q c.args.token c.self.invariant
    c.requires
    c.note.ensures.odd_size c.note.ensures.even_size)
