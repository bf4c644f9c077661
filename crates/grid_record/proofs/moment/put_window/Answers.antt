use Rattle.std.proofs.Common.{◌≡◌, ◌++◌, ◌∷◌, [], length}
use Rattle.std.proofs.lemmas.Result.{on_ok_weaker}
use Rattle.commit_flush.specs.Places.{numbers_of}
use Rattle.grid_machine.specs.Endings.{ended}
use Rattle.grid_record.specs.Moments.{block_bytes, standing_byte}
use Rattle.grid_record.proofs.PieceFacts.{byte, part_is, then_too, whole_is}
use Rattle.grid_record.proofs.moment.put_window.Goals as goal

pub returns : goal.returns
returns c =
    let w = c.args.window.now.window in
    let rest = block_bytes c.args.standing in
    let numbers = numbers_of w.frames in
    record {
      ok = on_ok_weaker c.put_block.result (λ e.
          then_too c.args.out.now.items (standing_byte (ended c.args.window.now.budget w) ∷ [])
          (length w.frames ∷ (numbers ++ rest))
          (part_is c.args.out.now.items byte c.in_ok-put_byte.ensures.ok c.standing_byte.ensures)
          (then_too c.put_byte.new.out.items (length w.frames ∷ []) (numbers ++ rest)
          (part_is c.put_byte.new.out.items byte c.in_ok-put_byte-2.ensures.ok c.in_flight.ensures.value)
          (then_too c.put_byte-2.new.out.items numbers rest
          (whole_is c.put_byte-2.new.out.items c.in_ok-extend_from_slice.ensures.items c.numbers.ensures.value) e)))
          c.put_block.ensures.ok;
    }
