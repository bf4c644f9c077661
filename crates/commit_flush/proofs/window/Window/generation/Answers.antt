use Rattle.std.proofs.Common.{◌<◌, ap, sym, ◌∙◌, arith, length, map, refl, get_or}
use Rattle.std.proofs.lemmas.Option.{slice_get_read, get_or_from_slice_get}
use Rattle.frame_state.specs.inside.Phases.{generation_of}
use Rattle.commit_flush.specs.Seen.{Seen}
use Rattle.commit_flush.proofs.SeenFacts.{eight, mapped_at}
use Rattle.commit_flush.proofs.window.Window.generation.Goals as goal

pub index-requires : goal.index-requires
index-requires c = omega (arith, eight c.self.invariant.sound)

pub returns : goal.returns
returns c =
    let i = c.self.inside in
    let below : c.args.frame < length i.frames.items = omega (arith, eight c.self.invariant.sound) in
    let at = slice_get_read i.frames.items (length i.frames.items) c.args.frame c.index.result.now refl below
    c.index.ensures in
    record {
      value = c.generation.ensures.value
          ∙ sym (get_or_from_slice_get (map generation_of i.frames.items) c.args.frame _ 0
          (mapped_at generation_of i.frames.items c.args.frame c.index.result.now at))
          ∙ ap (λ (w : Seen). get_or w.window.generations c.args.frame 0) c.self.view_is;
    }
