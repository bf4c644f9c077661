use Rattle.std.proofs.Common.{List, sym, ap, ◌∙◌}
use Rattle.predication.specs.declared.work.Noted.{Noted}
use Rattle.predication.specs.inside.Emits.{bits_of, noted_from}
use Rattle.predication.proofs.NameLemmas.{placed_bit_within, placed_bit, unplaced_bit}
use Rattle.predication.proofs.naming.note_bit.Goals as goal

pub set-requires : goal.set-requires
set-requires c =
    placed_bit_within c.args.register c.in-Some.at c.args.bits.now
    (ap (λ (x : List Noted). noted_from 0 c.args.register x) (sym c.as_slice.ensures.value)
    ∙ sym c.place_of_bit.ensures ∙ c.in-Some.is)

pub returns-in-Some : goal.returns-in-Some
returns-in-Some c =
    ap (λ (x : List Noted). bits_of x) c.set.ensures.value
    ∙ placed_bit c.args.register c.in-Some.at c.args.bits.now c.args.bit
    (ap (λ (x : List Noted). noted_from 0 c.args.register x) (sym c.as_slice.ensures.value)
    ∙ sym c.place_of_bit.ensures ∙ c.in-Some.is)

pub returns-in_ok-push-in-None : goal.returns-in_ok-push-in-None
returns-in_ok-push-in-None c =
    ap (λ (x : List Noted). bits_of x) c.in_ok-push-in-None.ensures.ok
    ∙ unplaced_bit c.args.register c.args.bits.now c.args.bit
    (ap (λ (x : List Noted). noted_from 0 c.args.register x) (sym c.as_slice.ensures.value)
    ∙ sym c.place_of_bit.ensures ∙ c.in-None.is)
