use Rattle.std.proofs.Common.{◌≡◌, ◌++◌, ◌∷◌, []}
use Rattle.std.proofs.lemmas.Result.{on_ok_weaker}
use Rattle.byteorder.specs.Endian.{big_bytes}
use Rattle.operand_net.specs.Marks.{has_bit}
use Rattle.grid_record.specs.Moments.{exit_byte, phase_byte, slot_byte, tokens_bytes, weight}
use Rattle.grid_record.specs.Pieces.{pieces}
use Rattle.grid_record.proofs.PieceFacts.{byte, part_is, then_too}
use Rattle.grid_record.proofs.frames.put_flying.Goals as goal

pub returns : goal.returns
returns c =
    let a = c.args in
    let h = a.held.now in
    let slots = pieces (λ s. slot_byte h.spots h.fired (has_bit a.ready s) s ∷ []) 128 in
    let tokens = tokens_bytes h.places in
    let block = big_bytes 4 h.block in
    record {
      ok = λ b. on_ok_weaker c.put_tokens.result (λ e.
          then_too a.out.now.items (phase_byte a.sealed ∷ [])
          (weight 1 a.careful ∷ exit_byte h.exit ∷ (block ++ (slots ++ tokens)))
          (part_is a.out.now.items byte c.in_ok-put_byte.ensures.ok c.phase_byte.ensures)
          (then_too c.put_byte.new.out.items (weight 1 a.careful ∷ [])
          (exit_byte h.exit ∷ (block ++ (slots ++ tokens)))
          (part_is c.put_byte.new.out.items byte c.in_ok-put_byte-2.ensures.ok c.weight.ensures.value)
          (then_too c.put_byte-2.new.out.items (exit_byte h.exit ∷ []) (block ++ (slots ++ tokens))
          (part_is c.put_byte-2.new.out.items byte c.in_ok-put_byte-3.ensures.ok c.exit_byte.ensures)
          (then_too c.put_byte-3.new.out.items block (slots ++ tokens)
          (part_is c.put_byte-3.new.out.items (big_bytes 4) c.in_ok-put_word.ensures.ok c.block.ensures.value)
          (then_too c.put_word.new.out.items slots tokens c.in_ok-put_slots.ensures.ok e)))))
          c.put_tokens.ensures.ok;
    }
