use Rattle.std.proofs.Common.{◌≡◌, ◌+◌, ℕ, List, ◌∙◌, ◌++◌, ◌∷◌, true, refl, sym, ap, subst, arith}
use Rattle.trips_isa.specs.declared.block.Image.{Image}
use Rattle.trips_isa.specs.Machine.{State, start}
use Rattle.grid_machine.specs.Endings.{is_going}
use Rattle.grid_machine.specs.inside.WholeRuns.{IsKept}
use Rattle.grid_machine.proofs.Starts.{started_cycles, started_going}
use Rattle.grid_parts.specs.Seen.{seen}
use Rattle.grid_record.specs.Records.{IsReached, part}
use Rattle.grid_record.proofs.RunFacts.{none_made}
use Rattle.grid_record.proofs.running.memory_of.Goals as goal

pub pass-passed-requires : goal.pass-passed-requires
pass-passed-requires c =
    let k = c.in_ok-kept.kept.grid in
    let none = started_cycles (start c.args.image.bytes c.args.input.items) c.args.seed
    (seen k.window.window k.state) c.in_ok-kept.ensures.begun in
    record {
      kept = subst (λ b. IsKept b (seen k.window.window k.state)) (sym c.in_ok-kept.ensures.budget)
          c.in_ok-kept.ensures.kept;
      cycles = omega (arith, none);
    }

pub returns : goal.returns
returns c =
    let k = c.in_ok-kept.kept.grid in
    let p = c.pass-passed.new.grid in
    let passed = c.pass-passed.result in
    let bytes = c.args.image.bytes in
    let input = c.args.input.items in
    let seed = c.args.seed in
    let on : is_going k.window.budget k.window.window ≡ true =
    ap (λ b. is_going b k.window.window) c.in_ok-kept.ensures.budget
    ∙ started_going (start bytes input) seed c.args.budget (seen k.window.window k.state) refl c.requires.some
    c.in_ok-kept.ensures.begun in
    let run : IsReached k.window.image.blocks bytes input k.window.budget seed passed (seen p.window.window p.state) =
    subst (λ n. IsReached k.window.image.blocks bytes input k.window.budget seed n (seen p.window.window p.state))
    (let e : 0 + passed ≡ passed = omega arith in e)
    (c.pass-passed.ensures.run 0 _ (none_made k.window.image.blocks bytes input k.window.budget seed
    (seen k.window.window k.state) c.in_ok-kept.ensures.begun on)) in
    record {
      made = passed;
      early = c.pass-passed.ensures.few;
      grid = seen p.window.window p.state;
      reached =
          subst (λ b. IsReached c.args.image.blocks bytes input b seed passed (seen p.window.window p.state))
          c.in_ok-kept.ensures.budget
          (subst (λ bs. IsReached bs bytes input k.window.budget seed passed (seen p.window.window p.state))
          (ap (λ (i : Image). i.blocks) c.in_ok-kept.ensures.image) run);
      all = λ goes. c.pass-passed.ensures.full
          (ap (λ b. is_going b p.window.window) (c.pass-passed.ensures.budget ∙ c.in_ok-kept.ensures.budget) ∙ goes);
      spelled = c.in_ok-put_behind.ensures.ok
          ∙ ap (λ (xs : List ℕ). xs ++ 1 ∷ c.part.result.now) c.new-told.ensures.items
          ∙ ap (λ (xs : List ℕ). 1 ∷ xs) (c.part.ensures
          ∙ ap (part c.args.from c.args.count) (c.memory-memory.ensures.value
          ∙ ap (λ (s : State). s.memory) c.arch.ensures.state));
    }
