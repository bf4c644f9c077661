use Rattle.std.proofs.Common.{◌≡◌, ◌+◌, ℕ, List, ◌∙◌, ◌++◌, ◌∷◌, [], true, refl, sym, ap, subst, arith}
use Rattle.trips_isa.specs.declared.block.Block.{Block}
use Rattle.trips_isa.specs.declared.block.Image.{Image}
use Rattle.trips_isa.specs.Machine.{State, start}
use Rattle.grid_machine.specs.Endings.{is_going}
use Rattle.grid_machine.specs.inside.WholeRuns.{IsKept}
use Rattle.grid_machine.proofs.Starts.{started_cycles, started_going}
use Rattle.grid_parts.specs.Seen.{seen}
use Rattle.grid_record.specs.Moments.{moment_bytes}
use Rattle.grid_record.specs.Records.{IsReached}
use Rattle.grid_record.specs.inside.Recording.{Recording}
use Rattle.grid_record.proofs.RecordFacts.{all_told}
use Rattle.grid_record.proofs.RunFacts.{none_made}
use Rattle.grid_record.proofs.running.record_image.Goals as goal

pub pass-passed-requires : goal.pass-passed-requires
pass-passed-requires c =
    let k = c.in_ok-kept.kept.grid in
    let none = started_cycles (start c.args.image.bytes c.args.input.items) c.args.seed
    (seen k.window.window k.state) c.in_ok-kept.ensures.begun in
    record {
      kept = subst (λ b. IsKept b (seen k.window.window k.state)) (sym c.in_ok-kept.ensures.budget)
          c.in_ok-kept.ensures.kept;
      cycles = omega (arith, none);
    }

pub put_moments-requires : goal.put_moments-requires
put_moments-requires c =
    let k = c.in_ok-kept.kept.grid in
    let p = c.pass-passed.new.grid in
    let none = started_cycles (start c.args.image.bytes c.args.input.items) c.args.seed
    (seen k.window.window k.state) c.in_ok-kept.ensures.begun in
    let more = c.pass-passed.ensures.cycles in
    let few = c.pass-passed.ensures.few in
    record {
      kept = subst (λ b. IsKept b (seen p.window.window p.state)) (sym c.pass-passed.ensures.budget)
          c.pass-passed.ensures.kept;
      cycles = omega (arith, none, more, few);
    }

pub returns : goal.returns
returns c =
    let k = c.in_ok-kept.kept.grid in
    let p = c.pass-passed.new.grid in
    let q = c.put_moments.new.grid in
    let passed = c.pass-passed.result in
    let made = c.in_ok-_made._made in
    let blocks = c.args.image.blocks in
    let bytes = c.args.image.bytes in
    let input = c.args.input.items in
    let budget = c.args.budget in
    let seed = c.args.seed in
    let image0 : k.window.image.blocks ≡ blocks = ap (λ (i : Image). i.blocks) c.in_ok-kept.ensures.image in
    let image1 : p.window.image.blocks ≡ blocks = c.pass-passed.ensures.image ∙ image0 in
    let image2 : q.window.image.blocks ≡ blocks = c.put_moments.ensures.image ∙ image1 in
    let budget0 : k.window.budget ≡ budget = c.in_ok-kept.ensures.budget in
    let budget1 : p.window.budget ≡ budget = c.pass-passed.ensures.budget ∙ budget0 in
    let budget2 : q.window.budget ≡ budget = c.put_moments.ensures.budget ∙ budget1 in
    let on : is_going k.window.budget k.window.window ≡ true = ap (λ b. is_going b k.window.window) budget0
    ∙ started_going (start bytes input) seed budget (seen k.window.window k.state) refl c.requires.some
    c.in_ok-kept.ensures.begun in
    let run : IsReached k.window.image.blocks bytes input k.window.budget seed passed (seen p.window.window p.state) =
    subst (λ n. IsReached k.window.image.blocks bytes input k.window.budget seed n (seen p.window.window p.state))
    (let e : 0 + passed ≡ passed = omega arith in e)
    (c.pass-passed.ensures.run 0 _ (none_made k.window.image.blocks bytes input k.window.budget seed
    (seen k.window.window k.state) c.in_ok-kept.ensures.begun on)) in
    let here : IsReached p.window.image.blocks bytes input p.window.budget seed passed
    (seen p.window.window p.state) =
    subst (λ b. IsReached p.window.image.blocks bytes input b seed passed (seen p.window.window p.state))
    (sym c.pass-passed.ensures.budget)
    (subst (λ bs. IsReached bs bytes input k.window.budget seed passed (seen p.window.window p.state))
    (sym c.pass-passed.ensures.image) run) in
    let recorded : Recording p.window.image.blocks bytes input p.window.budget seed passed made []
    c.put_moments.new.out.items (seen q.window.window q.state) =
    subst (λ old. Recording p.window.image.blocks bytes input p.window.budget seed passed made old
    c.put_moments.new.out.items (seen q.window.window q.state)) c.new-told.ensures.items
    (c.in_ok-_made.ensures.recorded bytes input seed passed here) in
    let told : Recording blocks bytes input budget seed passed made [] c.put_moments.new.out.items
    (seen q.window.window q.state) =
    subst (λ b. Recording blocks bytes input b seed passed made [] c.put_moments.new.out.items
    (seen q.window.window q.state)) budget1
    (subst (λ bs. Recording bs bytes input p.window.budget seed passed made [] c.put_moments.new.out.items
    (seen q.window.window q.state)) image1 recorded) in
    let all : is_going budget q.window.window ≡ true → passed + made ≡ c.args.first + c.args.count =
    λ goes. let now = ap (λ b. is_going b q.window.window) budget2 ∙ goes in
    let x = c.in_ok-_made.ensures.all now in
    let y = c.pass-passed.ensures.full (c.put_moments.ensures.began now) in omega (arith, x, y) in
    all_told blocks bytes input budget seed passed c.args.first c.args.count made c.put_moments.new.out.items
    c.put_moment.new.out.items _ (seen q.window.window q.state) c.pass-passed.ensures.few told
    c.in_ok-_made.ensures.few all
    (c.in_ok-put_moment.ensures.ok
    ∙ ap (λ (bs : List Block). c.put_moments.new.out.items ++ moment_bytes bs q.window.budget
    (seen q.window.window q.state)) image2
    ∙ ap (λ b. c.put_moments.new.out.items ++ moment_bytes blocks b (seen q.window.window q.state)) budget2)
    (c.in_ok-put_behind.ensures.ok
    ∙ ap (λ (xs : List ℕ). c.put_moment.new.out.items ++ 0 ∷ xs)
    (c.output.ensures ∙ ap (λ (s : State). s.output) c.arch.ensures.state))
