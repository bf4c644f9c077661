use Rattle.std.proofs.Common.{◌≡◌, ℕ, ◌<◌, ◌≤◌, ◌∷◌, List, [], length, get_or, ap, sym, subst, ◌∙◌, arith}
use Rattle.std.specs.Prelude.{None}
use Rattle.trips_isa.specs.declared.run.Stepped.TheVariants.{Went}
use Rattle.block_atomic.specs.Told.{TellsNext}
use Rattle.trace_verify.specs.declared.parts.Parts.{Parts}
use Rattle.trace_verify.specs.declared.parts.Stage.{Stage}
use Rattle.trace_verify.specs.declared.parts.Stage.TheVariants as stage
use Rattle.trace_verify.specs.FirstFault.{IsShort, nothing}
use Rattle.trace_verify.specs.Spelling.{Listed}
use Rattle.trace_verify.specs.Reading.{Progress, before, within, records_next}
use Rattle.trace_verify.specs.inside.Verifying.{reading_of, progress_of, rest_from, records_place, slots_of, StandsAt}
use Rattle.trace_verify.specs.inside.Verifying.{IsReady, IsRunning, IsHeld, IsUsed}
use Rattle.trace_verify.proofs.Holding.{Listing, used_listed, next_place, none_listed}
use Rattle.trace_verify.proofs.taking.next_slot.Goals as goal

pub returns-then-slot-lt128-clause-read : goal.returns-then-slot-lt128-clause-read
returns-then-slot-lt128-clause-read c =
    ap reading_of c.go.ensures.parts
    ∙ ap (λ (xs : List ℕ). within (records_place p.exit (rest_from p slot)) xs (progress_of p)) c.go.ensures.seen
    ∙ sym (next_place p.image.blocks p.exit (progress_of p) (rest_from p slot) listing.here listing.later
    listing.listed)
    ∙ ap (records_next p.image.blocks p.exit (progress_of p)) (sym c.first_used-slot.ensures.same)
  where
    p : Parts
    p = c.args.parts.now

    slot : ℕ
    slot = c.first_used-slot.result

    listing : Listing (λ i. get_or p.tokens i None) (λ i. get_or p.marks i 0) slot (slots_of p)
    listing = used_listed (λ i. get_or p.tokens i None) (λ i. get_or p.marks i 0) slot (slots_of p)
        (c.first_used-slot.ensures.used c.if-slot-lt128.true)

pub returns-then-slot-lt128-clause-held : goal.returns-then-slot-lt128-clause-held
returns-then-slot-lt128-clause-held c = subst IsHeld (sym c.go.ensures.parts) (record {
  runs = record {
    next = c.requires.runs.next;
    room = c.requires.runs.room;
    made = c.requires.runs.made;
    few = c.requires.runs.few;
  };
  stands = (
    subst IsShort (sym c.go.ensures.seen) nothing,
    record { went = c.requires.ready.went; room = c.requires.ready.room; tells = c.requires.ready.tells },
    c.if-slot-lt128.true,
    c.first_used-slot.ensures.used c.if-slot-lt128.true,
  );
})
