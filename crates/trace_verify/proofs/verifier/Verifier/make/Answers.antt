use Rattle.std.proofs.Common.{◌≡◌, ◌<◌, ◌^◌, length, ap, arith}
use Rattle.trips_isa.specs.declared.block.Image.{Image}
use Rattle.trips_isa.specs.Machine.{State, start}
use Rattle.trace_verify.specs.Verifiers.{Verifying}
use Rattle.trace_verify.specs.inside.Verifying.{reading_of}
use Rattle.trace_verify.proofs.Relations.{made_completes, made_faults}
use Rattle.trace_verify.proofs.verifier.Verifier.make.Goals as goal

pub returns-clause-completes : goal.returns-clause-completes
returns-clause-completes c = λ bytes b. made_completes v c.args.image.blocks c.args.budget s
    (ap (λ (i : Image). i.blocks) c.in_ok-parts.ensures.image) c.in_ok-parts.ensures.budget c.in_ok-parts.ensures.read
    c.count-blocks.ensures.image.fits.some
    few bytes b
  where
    v : Verifying
    v = record {
      blocks = c.in_ok-parts.parts.image.blocks;
      budget = c.in_ok-parts.parts.budget;
      reading = reading_of c.in_ok-parts.parts;
    }

    s : State
    s = start c.args.image.bytes c.args.input.items

    few : length c.args.image.blocks < 2 ^ 32
    few =
        let top = c.count-blocks.type_inv in
        let value = c.count-blocks.ensures.value in
        omega (arith, top, value)

pub returns-clause-faults : goal.returns-clause-faults
returns-clause-faults c = λ bytes f. made_faults v c.args.image.blocks c.args.budget s
    (ap (λ (i : Image). i.blocks) c.in_ok-parts.ensures.image) c.in_ok-parts.ensures.budget c.in_ok-parts.ensures.read
    c.count-blocks.ensures.image.fits.some
    few bytes f
  where
    v : Verifying
    v = record {
      blocks = c.in_ok-parts.parts.image.blocks;
      budget = c.in_ok-parts.parts.budget;
      reading = reading_of c.in_ok-parts.parts;
    }

    s : State
    s = start c.args.image.bytes c.args.input.items

    few : length c.args.image.blocks < 2 ^ 32
    few =
        let top = c.count-blocks.type_inv in
        let value = c.count-blocks.ensures.value in
        omega (arith, top, value)
