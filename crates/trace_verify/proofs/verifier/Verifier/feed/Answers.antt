use Rattle.std.proofs.Common.{◌≡◌, ◌↔◌, ℕ, ◌++◌, List, [], ap, subst}
use Rattle.trips_isa.specs.declared.block.Image.{Image}
use Rattle.trace_verify.specs.declared.fault.VerifyFault.{VerifyFault}
use Rattle.trace_verify.specs.Reading.{Stopped}
use Rattle.trace_verify.specs.Verifiers.{Verifying, CompletesTo, FaultsTo, HasAnswered, IsTruncated}
use Rattle.trace_verify.specs.inside.Verifying.{reading_of}
use Rattle.trace_verify.proofs.Relations.{fed_completes, fed_faults, fed_answers, through}
use Rattle.trace_verify.proofs.verifier.Verifier.feed.Goals as goal

pub returns-clause-completes : goal.returns-clause-completes
returns-clause-completes c = subst (λ (v : Verifying). (bytes : List ℕ) (b : ℕ)
    → CompletesTo w bytes b ↔ CompletesTo v (c.args.piece.now ++ bytes) b) c.self.view_is
    (fed_completes v w c.args.piece.now (ap (λ (i : Image). i.blocks) c.feed.ensures.image) c.feed.ensures.budget
    c.feed.ensures.read)
  where
    v : Verifying
    v = record {
      blocks = c.self.inside.parts.image.blocks;
      budget = c.self.inside.parts.budget;
      reading = reading_of c.self.inside.parts;
    }

    w : Verifying
    w = record {
      blocks = c.feed.new.parts.image.blocks;
      budget = c.feed.new.parts.budget;
      reading = reading_of c.feed.new.parts;
    }

pub returns-clause-faults : goal.returns-clause-faults
returns-clause-faults c = subst (λ (v : Verifying). (bytes : List ℕ) (f : VerifyFault)
    → FaultsTo w bytes f ↔ FaultsTo v (c.args.piece.now ++ bytes) f) c.self.view_is
    (fed_faults v w c.args.piece.now (ap (λ (i : Image). i.blocks) c.feed.ensures.image) c.feed.ensures.budget
    c.feed.ensures.read)
  where
    v : Verifying
    v = record {
      blocks = c.self.inside.parts.image.blocks;
      budget = c.self.inside.parts.budget;
      reading = reading_of c.self.inside.parts;
    }

    w : Verifying
    w = record {
      blocks = c.feed.new.parts.image.blocks;
      budget = c.feed.new.parts.budget;
      reading = reading_of c.feed.new.parts;
    }

pub returns-clause-answer : goal.returns-clause-answer
returns-clause-answer c = λ f. through (c.found.ensures f)
    (subst (λ (v : Verifying). (w.reading.place ≡ Stopped f) ↔ (FaultsTo w [] f × (IsTruncated f → HasAnswered v f)))
    c.self.view_is (fed_answers v w c.args.piece.now c.feed.ensures.read f))
  where
    v : Verifying
    v = record {
      blocks = c.self.inside.parts.image.blocks;
      budget = c.self.inside.parts.budget;
      reading = reading_of c.self.inside.parts;
    }

    w : Verifying
    w = record {
      blocks = c.feed.new.parts.image.blocks;
      budget = c.feed.new.parts.budget;
      reading = reading_of c.feed.new.parts;
    }

pub returns-clause-answered : goal.returns-clause-answered
returns-clause-answered c = λ f. ((c.found.ensures f).1, (c.found.ensures f).0)
